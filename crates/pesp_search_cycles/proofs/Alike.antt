-- Networks that are the same but for what their arcs weigh: walks, times and maps are the same.
use Rattle.std.proofs.Common.{◌≡◌, ◌==◌, ◌&&◌, ℕ, ℤ, pos, ◌+◌, ◌*◌, ◌+ℤ◌, ◌-ℤ◌, ◌++◌, ◌∷◌, [], ◌<◌, inl, inr, Bool, false, nat_lt, IsTrue, List, All, length, map, get_or, slice_index, refl, sym, subst, ap, ap₂, ◌∙◌, arith}
use Rattle.std.proofs.lemmas.Bool.{cases_lt}
use Rattle.std.proofs.lemmas.List.{get_or_past}
use Rattle.pesp_search_graph.specs.declared.arc.Arc.{Arc}
use Rattle.pesp_search_graph.specs.declared.step.Step.{Step}
use Rattle.pesp_search_network.specs.Arcs.{AreArcs, Arcs, IsMet, meets}
use Rattle.pesp_search_network.specs.Weights.{AreAlike, kept}
use Rattle.pesp_search_network.proofs.Weights.{all_alike, length-alike, same_at}
use Rattle.pesp_search_cycles.specs.declared.boxes.Boxes.{Boxes}
use Rattle.pesp_search_cycles.specs.declared.flip.FlipCut.{FlipCut}
use Rattle.pesp_search_cycles.specs.Maps.{AreCycles, Holds, IsInside, Net, numbers_of, slack_at}
use Rattle.pesp_search_cycles.specs.Ranges.{AreIn, IsIn, no_range}
use Rattle.pesp_search_cycles.specs.Terms.{IsKept}
use Rattle.pesp_search_cycles.specs.Walks.{Path, RoundsAreIn, arc_at, end_of, joins, leads, no_arc, no_path, residue, round, signed, start_of, time_of, times}

module _ (arcs others : List Arc) (alike : AreAlike arcs others) where
  long : length arcs ≡ length others
  long = length-alike arcs others alike

  same_arc : (k : ℕ) → kept false (arc_at arcs k) ≡ kept false (arc_at others k)
  same_arc k =
      elim (cases_lt k (length arcs)) [
        | inl h ↦ same_at arcs others k no_arc no_arc alike h
        | inr h ↦ ap (kept false) (get_or_past arcs k no_arc h ∙ sym (get_or_past others k no_arc (omega (arith, h, long))))
      ]

  same_start : (k : ℕ) (along : Bool) → start_of (arc_at arcs k) along ≡ start_of (arc_at others k) along
  same_start k along = ap (λ (a : Arc). start_of a along) (same_arc k)

  same_end : (k : ℕ) (along : Bool) → end_of (arc_at arcs k) along ≡ end_of (arc_at others k) along
  same_end k along = ap (λ (a : Arc). end_of a along) (same_arc k)

  same_leads : (u : ℕ) (ss : List Step) (v : ℕ) → leads arcs u ss v ≡ leads others u ss v
  same_leads u [] v = refl
  same_leads u (s ∷ ss) v =
      ap₂ (λ (n m : ℕ). nat_lt s.arc n && (m == u && leads arcs (end_of (arc_at arcs s.arc) s.along) ss v)) long (same_start s.arc s.along)
      ∙ ap (λ (b : Bool). nat_lt s.arc (length others) && (start_of (arc_at others s.arc) s.along == u && b))
      (ap (λ (w : ℕ). leads arcs w ss v) (same_end s.arc s.along) ∙ same_leads (end_of (arc_at others s.arc) s.along) ss v)

  pub same_joins : (events : ℕ) (p : Path) → joins events arcs p ≡ joins events others p
  same_joins events p = ap (λ (b : Bool). nat_lt p.from events && (nat_lt p.to events && b)) (same_leads p.from p.steps p.to)

  same_time : (zs : List ℕ) (s : Step) → time_of arcs zs s ≡ time_of others zs s
  same_time zs s = ap (λ (a : Arc). signed s.along (a.span.lower +ℤ pos (slice_index zs s.arc))) (same_arc s.arc)

  same_times : (zs : List ℕ) (ss : List Step) → times arcs zs ss ≡ times others zs ss
  same_times zs [] = refl
  same_times zs (s ∷ ss) = ap₂ (λ (a b : ℤ). a +ℤ b) (same_time zs s) (same_times zs ss)

  same_residue : (zs : List ℕ) (v : ℕ) → residue arcs zs v ≡ residue others zs v
  same_residue zs v = ap (λ (n : ℕ). pos (slice_index zs (n + v))) long

  pub same_round : (zs : List ℕ) (p : Path) → round arcs zs p ≡ round others zs p
  same_round zs p = ap₂ (λ (a b : ℤ). a +ℤ b) (same_times zs p.steps) (ap₂ (λ (a b : ℤ). a -ℤ b) (same_residue zs p.from) (same_residue zs p.to))

  same_slacks : (T : ℕ) (xs : List ℕ) → map (slack_at T xs) arcs ≡ map (slack_at T xs) others
  same_slacks T xs = sym (without arcs) ∙ ap (map (slack_at T xs)) alike ∙ without others
    where
      without : (bs : List Arc) → map (slack_at T xs) (map (kept false) bs) ≡ map (slack_at T xs) bs
      without [] = refl
      without (b ∷ bs) = ap (λ (l : List ℕ). slack_at T xs b ∷ l) (without bs)

-- the same network but for what its arcs weigh
pub record IsAlike (A B : Arcs) : Type 0 where
  pub period : A.period ≡ B.period
  pub events : A.events ≡ B.events
  pub rows : A.rows ≡ B.rows
  pub arcs : AreAlike A.arcs B.arcs

pub alike_back : (A B : Arcs) → IsAlike A B → IsAlike B A
alike_back A B is = record { period = sym is.period; events = sym is.events; rows = sym is.rows; arcs = sym is.arcs }

pub same_numbers : (A B : Arcs) → IsAlike A B → (xs : List ℕ) → numbers_of A xs ≡ numbers_of B xs
same_numbers A B is xs = ap (λ (l : List ℕ). l ++ xs) (ap (λ (T : ℕ). map (slack_at T xs) A.arcs) is.period ∙ same_slacks A.arcs B.arcs is.arcs B.period xs)

pub met_along : (A B : Arcs) → IsAlike A B → (xs : List ℕ) → IsMet A xs → IsMet B xs
met_along A B is xs met = record {
  long = met.long ∙ is.events;
  below = subst (λ (T : ℕ). All (λ r. r < T) xs) is.period met.below;
  rows = λ v h.
      subst (λ (b : Bool). IsTrue b) (ap₂ (λ (T : ℕ) (rows : List Bool). get_or rows (v * T + slice_index xs v) false) is.period is.rows)
      (met.rows v (omega (arith, h, is.events)));
  met =
      subst (λ (T : ℕ). All (λ a. IsTrue (meets T xs a)) B.arcs) is.period
      (all_alike (λ a. IsTrue (meets A.period xs a)) (λ a h. h) (λ a h. h) A.arcs B.arcs is.arcs met.met);
}

pub cycles_along : (N M : Net) → IsAlike N.network M.network → AreArcs M.network → M.walks ≡ N.walks → M.cuts ≡ N.cuts → AreCycles N → AreCycles M
cycles_along N M is arcs walks cuts are = record {
  arcs = arcs;
  joined =
      subst (λ (ws : List Path). All (λ p. IsTrue (joins M.network.events M.network.arcs p)) ws) (sym walks)
      (λ k d h. subst (λ (b : Bool). IsTrue b) (joins_same (get_or N.walks k d)) (are.joined k d h));
  kept =
      subst (λ (cs : List FlipCut). All (Holds M.network) cs) (sym cuts)
      (λ k d h xs met.
      subst (IsKept (get_or N.cuts k d)) (same_numbers N.network M.network is xs)
      (are.kept k d h xs (met_along M.network N.network (alike_back N.network M.network is) xs met)));
}
  where
    joins_same : (p : Path) → joins N.network.events N.network.arcs p ≡ joins M.network.events M.network.arcs p
    joins_same p = ap (λ (n : ℕ). joins n N.network.arcs p) is.events ∙ same_joins N.network.arcs M.network.arcs is.arcs M.network.events p

pub inside_along : (N M : Net) → IsAlike N.network M.network → M.walks ≡ N.walks → (B : Boxes) (xs : List ℕ) → IsInside N B xs → IsInside M B xs
inside_along N M is walks B xs i = record {
  numbers = subst (AreIn B.numbers.items) (same_numbers N.network M.network is xs) i.numbers;
  rounds =
      subst (λ (ws : List Path). RoundsAreIn B.rounds.items M.network.arcs (numbers_of M.network xs) ws) (sym walks)
      (record {
        long = i.rounds.long;
        each = λ k h.
            subst (IsIn (get_or B.rounds.items k no_range))
            (same_round N.network.arcs M.network.arcs is.arcs (numbers_of N.network xs) (get_or N.walks k no_path)
            ∙ ap (λ (zs : List ℕ). round M.network.arcs zs (get_or N.walks k no_path)) (same_numbers N.network M.network is xs))
            (i.rounds.each k h);
      });
}
