-- Maps whose residues are in ranges, and ranges that are narrowed at an event.
use Rattle.std.proofs.Common.{◌≡◌, ℕ, ◌<◌, ◌↔◌, ℤ, pos, List, length, get_or, sym, subst, arith}
use Rattle.std.proofs.Math.ListN.{set}
use Rattle.std.proofs.lemmas.List.{get_or-set_same}
use Rattle.pesp_search_least.specs.Order.{BelowResidue, IsHeld}
use Rattle.pesp_search_least.specs.Sums.{IsWithin, Sums}
use Rattle.pesp_search_network.specs.Arcs.{Arcs, IsCosted, IsMet}
use Rattle.pesp_search_cycles.specs.declared.range.Range.{Range}
use Rattle.pesp_search_cycles.specs.Maps.{IsAmong}
use Rattle.pesp_search_cycles.specs.Ranges.{AllIn, AreIn, IsIn, no_range}
use Rattle.pesp_search_cycles.proofs.Split.{put_back, put_in}

pub put_has : (ranges : List Range) (n : ℕ) (z : ℕ → ℤ) (k : ℕ) (q : Range) → k < length ranges → k < n → AllIn (set ranges k q) n z → IsIn q (z k)
put_has ranges n z k q h m a = subst (λ r. IsIn r (z k)) (get_or-set_same ranges k q no_range h) (a.each k m)

-- the sums of those maps whose residues are in these ranges
abbrev pub Among : Sums → List Range → Sums
Among sums R xs cost = sums xs cost × AreIn R xs

module _ (sums : Sums) (R S : List Range) (event residue : ℕ) (q : Range) (h : event < length R) (e : S ≡ set R event q) where
  n_of : (xs : List ℕ) → AreIn R xs → event < length xs
  n_of xs a = omega (arith, a.long, h)

  narrowed : (xs : List ℕ) → AreIn R xs → IsIn q (pos (get_or xs event 0)) → AreIn S xs
  narrowed xs a i = subst (λ (l : List Range). AreIn l xs) (sym e) (put_in R (length xs) (λ k. pos (get_or xs k 0)) event h q a i)

  widened : (xs : List ℕ) → AreIn S xs → (IsIn q (pos (get_or xs event 0)) → IsIn (get_or R event no_range) (pos (get_or xs event 0))) → AreIn R xs
  widened xs a f = put_back R (length xs) (λ k. pos (get_or xs k 0)) event h q (subst (λ (l : List Range). AreIn l xs) e a) f

  has : (xs : List ℕ) → AreIn S xs → AreIn R xs → IsIn q (pos (get_or xs event 0))
  has xs a b = put_has R (length xs) (λ k. pos (get_or xs k 0)) event q h (n_of xs b) (subst (λ (l : List Range). AreIn l xs) e a)

  -- the event is held at the residue
  pub held : ((x : ℕ) → IsIn q (pos x) ↔ (IsIn (get_or R event no_range) (pos x) × (x ≡ residue))) → IsHeld event residue (Among sums R) (Among sums S)
  held f = record {
    keeps = λ xs cost s is. (s.0, narrowed xs s.1 ((f (get_or xs event 0)).1 (s.1.each event (n_of xs s.1), is)));
    within = λ xs cost s. (s.0, widened xs s.1 (λ i. ((f (get_or xs event 0)).0 i).0));
    held = λ xs cost s. ((f (get_or xs event 0)).0 (has xs s.1 (widened xs s.1 (λ i. ((f (get_or xs event 0)).0 i).0)))).1;
  }

  -- the maps with a lesser residue at the event
  pub below_within : ((x : ℕ) → IsIn q (pos x) ↔ (IsIn (get_or R event no_range) (pos x) × (x < residue))) → IsWithin (Among sums S) (BelowResidue (Among sums R) event residue)
  below_within f xs cost s =
      let wide = widened xs s.1 (λ i. ((f (get_or xs event 0)).0 i).0) in
      ((s.0, wide), ((f (get_or xs event 0)).0 (has xs s.1 wide)).1)

  pub below_all : ((x : ℕ) → IsIn q (pos x) ↔ (IsIn (get_or R event no_range) (pos x) × (x < residue))) → IsWithin (BelowResidue (Among sums R) event residue) (Among sums S)
  below_all f xs cost s = (s.0.0, narrowed xs s.0.1 ((f (get_or xs event 0)).1 (s.0.1.each event (n_of xs s.0.1), s.1)))
