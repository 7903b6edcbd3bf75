-- The ends but the spared ones are linked as all are, so a pair is counted in at them as at all.
use Rattle.std.proofs.Common.{◌≡◌, ◌≢◌, ℕ, ◌==◌, not, Bool, true, false, Option, Some, None, List, [], ◌∷◌, AllPairs, map, filter, refl, sym, ap, subst, ◌∙◌, arith}
use Rattle.std.proofs.lemmas.Bool.Decides.{nat_tests}
use Rattle.std.proofs.Math.ListN.{get_or-map}
use Rattle.std.proofs.lemmas.Bool.{not_from_false, not-true}
use Rattle.std.proofs.lemmas.List.Kept.{AllPairs-filter}
use Rattle.std.specs.List.{Contains}
use Rattle.pesp_instance.specs.Network.{Network}
use Rattle.pesp_domains.specs.declared.side.Side.{Side}
use Rattle.pesp_domains.specs.declared.side.Side.TheVariants.{Tail, Head}
use Rattle.pesp_domains.proofs.Families.{in_filter, of_filter}
use Rattle.pesp_counts_arcs.specs.declared.end.End.{End}
use Rattle.pesp_counts_arcs.specs.Ends.{AreLinked, end_at, ends_of}
use Rattle.pesp_counts_arcs.specs.Links.{Links, StandFor, end_number, opposite}
use Rattle.pesp_counts_supports.specs.Restored.{AreSparedTogether}
use Rattle.pesp_counts_supports.specs.Restoring.{is_spared}

-- whether the end is not spared
abbrev pub is_kept : Option ℕ → ℕ → Bool
is_kept spared k = not (is_spared spared k)

-- the lists without the spared ends
abbrev pub kept : Option ℕ → List (List ℕ) → List (List ℕ)
kept spared lists = map (filter (is_kept spared)) lists

pub kept_at : (spared : Option ℕ) (lists : List (List ℕ)) (p : ℕ) → ends_of (kept spared lists) p ≡ filter (is_kept spared) (ends_of lists p)
kept_at spared lists p = get_or-map (filter (is_kept spared)) lists p []

pub kept_in : (spared : Option ℕ) (lists : List (List ℕ)) (p k : ℕ) → Contains (ends_of lists p) k → is_spared spared k ≡ false → Contains (ends_of (kept spared lists) p) k
kept_in spared lists p k is free =
    subst (λ xs. Contains xs k) (sym (kept_at spared lists p)) (in_filter (is_kept spared) (ends_of lists p) k is (not_from_false (is_spared spared k) free))

pub kept_of : (spared : Option ℕ) (lists : List (List ℕ)) (p k : ℕ) → Contains (ends_of (kept spared lists) p) k → Contains (ends_of lists p) k × (is_spared spared k ≡ false)
kept_of spared lists p k is =
    let w = of_filter (is_kept spared) (ends_of lists p) k (subst (λ xs. Contains xs k) (kept_at spared lists p) is) in
    (w.0, not-true (is_spared spared k) w.1)

-- they are linked
pub kept_linked : (T : ℕ) (ends : List End) (lists : List (List ℕ)) (spared : Option ℕ) → AreLinked T ends lists → ((p k : ℕ) → Contains (ends_of lists p) k → is_spared spared (end_at ends k).mate ≡ is_spared spared k) → AreLinked T ends (kept spared lists)
kept_linked T ends lists spared linked together =
    record {
      each = λ p k is.
          let w = kept_of spared lists p k is in
          let at = linked.each p k w.0 in
          record {
            within = at.within;
            mate_there = kept_in spared lists (end_at ends k).looks_at (end_at ends k).mate at.mate_there (together p k w.0 ∙ w.1);
            mate_looks = at.mate_looks;
            mate_back = at.mate_back;
            first = at.first;
            some = at.some;
            width = at.width;
            both_ways = at.both_ways;
          };
      once = λ p. subst (AllPairs (λ j k. j ≢ k)) (sym (kept_at spared lists p)) (AllPairs-filter (λ j k. j ≢ k) (is_kept spared) (ends_of lists p) (linked.once p));
    }

-- ---- a list without the spared ends

pub keep_one : (spared : Option ℕ) (m : ℕ) (rest : List ℕ) → is_spared spared m ≡ false → filter (is_kept spared) (m ∷ rest) ≡ m ∷ filter (is_kept spared) rest
keep_one spared m rest free = rw free refl

pub keep_none : (spared : Option ℕ) (m : ℕ) (rest : List ℕ) → is_spared spared m ≡ true → filter (is_kept spared) (m ∷ rest) ≡ filter (is_kept spared) rest
keep_none spared m rest out = rw out refl

-- ---- ends that stand for activities

-- an end is spared by the place of its activity
spared_at : (side : Side) (q t : ℕ) → is_spared (Some t) (end_number side q) ≡ (q == t)
spared_at Tail q t = grind (arith, nat_tests)
spared_at Head q t = grind (arith, nat_tests)

-- both ends of an activity are spared together
pub stand_together : (I : Network) (links : Links) (spared : Option ℕ) → StandFor I links → AreSparedTogether links spared
stand_together I links None stand p k is = refl
stand_together I links (Some t) stand p k is =
    let l = stand.only p k is in
    ap (λ j. is_spared (Some t) (end_at links.ends j).mate) l.number
    ∙ ap (is_spared (Some t)) l.is_end.mate
    ∙ spared_at (opposite l.side) l.place t
    ∙ sym (spared_at l.side l.place t)
    ∙ ap (is_spared (Some t)) (sym l.number)
