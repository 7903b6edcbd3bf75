-- The time of a walk, step by step from its beginning, and the slacks of maps that meet each arc.
use Rattle.std.proofs.Common.{◌≡◌, ℕ, ◌+◌, ◌<◌, ◌≤◌, IsTrue, ℤ, pos, ◌+ℤ◌, ◌-ℤ◌, ◌≤ℤ◌, ◌<ℤ◌, List, drop, length, get_or, ap, subst, arith}
use Rattle.std.proofs.lemmas.Int.{clamps, ints}
use Rattle.std.proofs.lemmas.List.{drop_all, drop_more}
use Rattle.std.specs.Int.{int_min}
use Rattle.pesp_base.proofs.Laws.{not_negative, residue_below}
use Rattle.pesp_base.specs.Bounds.{Bounds}
use Rattle.pesp_base.specs.Tensions.{is_met, slack_of, tension_of}
use Rattle.pesp_search_graph.specs.declared.arc.Arc.{Arc}
use Rattle.pesp_search_cycles.specs.declared.range.Range.{Range}
use Rattle.pesp_search_graph.specs.declared.step.Step.{Step}
use Rattle.pesp_search_cycles.specs.Ranges.{IsIn}
use Rattle.pesp_search_cycles.specs.Walks.{time_of, times}

without_step : (r z t q p : ℤ) → r ≡ z +ℤ q → p ≡ t +ℤ q → r ≡ (z -ℤ t) +ℤ p
without_step r z t q p e f = omega (arith, ints, e, f)

pub again : (z t : ℤ) → (z -ℤ t) +ℤ t ≡ z
again z t = omega (arith, ints)

pub one_before : (arcs : List Arc) (ys : List ℕ) (steps : List Step) (i : ℕ) (d : Step) (z : ℤ) → i < length steps → times arcs ys steps ≡ z +ℤ times arcs ys (drop (i + 1) steps) → times arcs ys steps ≡ (z -ℤ time_of arcs ys (get_or steps i d)) +ℤ times arcs ys (drop i steps)
one_before arcs ys steps i d z h e =
    without_step (times arcs ys steps) z (time_of arcs ys (get_or steps i d)) (times arcs ys (drop (i + 1) steps)) (times arcs ys (drop i steps)) e (ap (times arcs ys) (drop_more steps i d h))

pub with_step : (range : Range) (z t : ℤ) → IsIn range ((z -ℤ t) +ℤ t) → IsIn range z
with_step range z t i = subst (IsIn range) (again z t) i

alone : (r q : ℤ) → q ≡ pos 0 → r ≡ r +ℤ q
alone r q e = omega (arith, ints, e)

pub all_steps : (arcs : List Arc) (ys : List ℕ) (steps : List Step) (i : ℕ) → length steps ≤ i → times arcs ys steps ≡ times arcs ys steps +ℤ times arcs ys (drop i steps)
all_steps arcs ys steps i h = alone (times arcs ys steps) (times arcs ys (drop i steps)) (ap (times arcs ys) (drop_all i steps h))

slack_below : (l u w h y t : ℤ) → (l +ℤ y) ≤ℤ u → y <ℤ t → w ≡ u -ℤ l → h ≡ int_min w (t -ℤ pos 1) → y ≤ℤ h
slack_below l u w h y t a b c d = omega (arith, ints, clamps, a, b, c, d)

-- a slack of a met arc is below the period and within the span
pub slack_in : (T : ℕ) (span : Bounds) (r s : ℕ) (w h : ℤ) → 0 < T → IsTrue (is_met T span r s) → w ≡ span.upper -ℤ span.lower → h ≡ int_min w (pos T -ℤ pos 1) → IsIn (record { low = pos 0; high = h }) (pos (slack_of T span r s))
slack_in T span r s w h some met e f = record {
  above = not_negative (slack_of T span r s);
  below = slack_below span.lower span.upper w h (pos (slack_of T span r s)) (pos T) (let at_most : tension_of T span r s ≤ℤ span.upper = omega (arith, ints, met) in at_most) (less _ _ (residue_below T (pos s -ℤ pos r -ℤ span.lower) some)) e f;
}
  where
    less : (m n : ℕ) → m < n → pos m <ℤ pos n
    less m n l = omega (arith, ints, l)
