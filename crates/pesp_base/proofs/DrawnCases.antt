-- Drawn cases of the definitions, as the model of tools/tests answers them: made by tools/draw_cases from seed 1809.
use Rattle.std.proofs.Common.{◌≡◌, ℕ, ℤ, Bool, List, refl, pos, negsuc, true, false, [], ◌∷◌, Option, Some, None, Ok, Err, filter, codes}
use Rattle.std.specs.List.{range_with_len}
use Rattle.pesp_base.specs.declared.number.NumberFault.TheVariants as number
use Rattle.pesp_base.specs.declared.span.SpanFault.TheVariants as span_fault
use Rattle.pesp_base.specs.Bounds.{Bounds, span_of}
use Rattle.pesp_base.specs.Limits.{max_activities, max_events}
use Rattle.pesp_base.specs.Numbers.{number_in}
use Rattle.pesp_base.specs.Tensions.{is_met, slack_of, tension_of}
use Rattle.pesp_base.specs.Windows.{Interval, is_held, only_time}

-- the tension and the slack of an activity of these bounds, and whether it is met
abbrev told : ℕ → ℤ → ℤ → ℕ → ℕ → ℤ × ℕ × Bool
told period lower upper r s = let span : Bounds = record { lower = lower; upper = upper } in (tension_of period span r s, slack_of period span r s, is_met period span r s)

-- the residues of a window, and its time where it is one alone
abbrev window : ℕ → ℕ → ℕ → List ℕ × Option ℕ
window period first length = let w : Interval = record { first = first; length = length } in (filter (is_held period w) (range_with_len 0 period), only_time w)

-- how many events and activities there may be
abbrev limits : ℕ → ℕ × ℕ
limits period = (max_events period, max_activities period)

tensions_at_2 : told 2 (pos 1) (pos 7) 0 1 ∷ told 2 (pos 1) (pos 7) 1 0 ∷ told 2 (pos 1) (pos 7) 0 1 ∷ told 2 (pos 1) (pos 7) 0 1 ∷ told 2 (pos 1) (pos 7) 1 0 ∷ told 2 (pos 1) (pos 7) 0 0 ∷ told 2 (pos 1) (pos 7) 0 0 ∷ told 2 (pos 1) (pos 7) 0 1 ∷ told 2 (pos 2) (pos 3) 0 0 ∷ told 2 (pos 2) (pos 3) 0 1 ∷ told 2 (pos 2) (pos 3) 1 0 ∷ told 2 (pos 2) (pos 3) 1 0 ∷ told 2 (pos 2) (pos 3) 0 0 ∷ told 2 (pos 2) (pos 3) 1 1 ∷ told 2 (pos 2) (pos 3) 1 1 ∷ told 2 (pos 2) (pos 3) 1 0 ∷ told 2 (pos 1) (pos 2) 1 0 ∷ told 2 (pos 1) (pos 2) 0 0 ∷ told 2 (pos 1) (pos 2) 0 1 ∷ told 2 (pos 1) (pos 2) 1 0 ∷ told 2 (pos 1) (pos 2) 1 0 ∷ told 2 (pos 1) (pos 2) 0 1 ∷ told 2 (pos 1) (pos 2) 1 1 ∷ told 2 (pos 1) (pos 2) 0 1 ∷ told 2 (pos 999997) (pos 999998) 1 0 ∷ told 2 (pos 999997) (pos 999998) 0 1 ∷ told 2 (pos 999997) (pos 999998) 1 0 ∷ told 2 (pos 999997) (pos 999998) 0 1 ∷ told 2 (pos 999997) (pos 999998) 0 0 ∷ told 2 (pos 999997) (pos 999998) 1 1 ∷ told 2 (pos 999997) (pos 999998) 1 0 ∷ told 2 (pos 999997) (pos 999998) 1 1 ∷ told 2 (pos 999997) (pos 999998) 0 1 ∷ told 2 (pos 999997) (pos 999998) 0 0 ∷ told 2 (pos 999997) (pos 999998) 1 0 ∷ told 2 (pos 999997) (pos 999998) 0 1 ∷ told 2 (pos 999997) (pos 999998) 0 0 ∷ told 2 (pos 999997) (pos 999998) 1 0 ∷ told 2 (pos 999997) (pos 999998) 0 1 ∷ told 2 (pos 999997) (pos 999998) 1 0 ∷ told 2 (pos 1) (pos 7) 1 0 ∷ told 2 (pos 1) (pos 7) 1 1 ∷ told 2 (pos 1) (pos 7) 1 0 ∷ told 2 (pos 1) (pos 7) 0 0 ∷ told 2 (pos 1) (pos 7) 1 0 ∷ told 2 (pos 1) (pos 7) 1 1 ∷ told 2 (pos 1) (pos 7) 0 1 ∷ told 2 (pos 1) (pos 7) 1 1 ∷ told 2 (pos 3) (pos 3) 0 1 ∷ told 2 (pos 3) (pos 3) 1 0 ∷ told 2 (pos 3) (pos 3) 0 1 ∷ told 2 (pos 3) (pos 3) 0 0 ∷ told 2 (pos 3) (pos 3) 1 0 ∷ told 2 (pos 3) (pos 3) 1 1 ∷ told 2 (pos 3) (pos 3) 1 1 ∷ told 2 (pos 3) (pos 3) 1 1 ∷ told 2 (negsuc 1) (negsuc 0) 0 1 ∷ told 2 (negsuc 1) (negsuc 0) 1 1 ∷ told 2 (negsuc 1) (negsuc 0) 1 0 ∷ told 2 (negsuc 1) (negsuc 0) 0 1 ∷ told 2 (negsuc 1) (negsuc 0) 1 1 ∷ told 2 (negsuc 1) (negsuc 0) 1 1 ∷ told 2 (negsuc 1) (negsuc 0) 0 1 ∷ told 2 (negsuc 1) (negsuc 0) 1 0 ∷ told 2 (negsuc 999999) (negsuc 999999) 0 1 ∷ told 2 (negsuc 999999) (negsuc 999999) 1 1 ∷ told 2 (negsuc 999999) (negsuc 999999) 0 0 ∷ told 2 (negsuc 999999) (negsuc 999999) 0 0 ∷ told 2 (negsuc 999999) (negsuc 999999) 0 1 ∷ told 2 (negsuc 999999) (negsuc 999999) 1 0 ∷ told 2 (negsuc 999999) (negsuc 999999) 0 1 ∷ told 2 (negsuc 999999) (negsuc 999999) 1 0 ∷ told 2 (pos 1) (pos 2) 0 1 ∷ told 2 (pos 1) (pos 2) 0 1 ∷ told 2 (pos 1) (pos 2) 1 0 ∷ told 2 (pos 1) (pos 2) 0 0 ∷ told 2 (pos 1) (pos 2) 1 1 ∷ told 2 (pos 1) (pos 2) 0 1 ∷ told 2 (pos 1) (pos 2) 0 0 ∷ told 2 (pos 1) (pos 2) 0 0 ∷ [] ≡ (pos 1, 0, true) ∷ (pos 1, 0, true) ∷ (pos 1, 0, true) ∷ (pos 1, 0, true) ∷ (pos 1, 0, true) ∷ (pos 2, 1, true) ∷ (pos 2, 1, true) ∷ (pos 1, 0, true) ∷ (pos 2, 0, true) ∷ (pos 3, 1, true) ∷ (pos 3, 1, true) ∷ (pos 3, 1, true) ∷ (pos 2, 0, true) ∷ (pos 2, 0, true) ∷ (pos 2, 0, true) ∷ (pos 3, 1, true) ∷ (pos 1, 0, true) ∷ (pos 2, 1, true) ∷ (pos 1, 0, true) ∷ (pos 1, 0, true) ∷ (pos 1, 0, true) ∷ (pos 1, 0, true) ∷ (pos 2, 1, true) ∷ (pos 1, 0, true) ∷ (pos 999997, 0, true) ∷ (pos 999997, 0, true) ∷ (pos 999997, 0, true) ∷ (pos 999997, 0, true) ∷ (pos 999998, 1, true) ∷ (pos 999998, 1, true) ∷ (pos 999997, 0, true) ∷ (pos 999998, 1, true) ∷ (pos 999997, 0, true) ∷ (pos 999998, 1, true) ∷ (pos 999997, 0, true) ∷ (pos 999997, 0, true) ∷ (pos 999998, 1, true) ∷ (pos 999997, 0, true) ∷ (pos 999997, 0, true) ∷ (pos 999997, 0, true) ∷ (pos 1, 0, true) ∷ (pos 2, 1, true) ∷ (pos 1, 0, true) ∷ (pos 2, 1, true) ∷ (pos 1, 0, true) ∷ (pos 2, 1, true) ∷ (pos 1, 0, true) ∷ (pos 2, 1, true) ∷ (pos 3, 0, true) ∷ (pos 3, 0, true) ∷ (pos 3, 0, true) ∷ (pos 4, 1, false) ∷ (pos 3, 0, true) ∷ (pos 4, 1, false) ∷ (pos 4, 1, false) ∷ (pos 4, 1, false) ∷ (negsuc 0, 1, true) ∷ (negsuc 1, 0, true) ∷ (negsuc 0, 1, true) ∷ (negsuc 0, 1, true) ∷ (negsuc 1, 0, true) ∷ (negsuc 1, 0, true) ∷ (negsuc 0, 1, true) ∷ (negsuc 0, 1, true) ∷ (negsuc 999998, 1, false) ∷ (negsuc 999999, 0, true) ∷ (negsuc 999999, 0, true) ∷ (negsuc 999999, 0, true) ∷ (negsuc 999998, 1, false) ∷ (negsuc 999998, 1, false) ∷ (negsuc 999998, 1, false) ∷ (negsuc 999998, 1, false) ∷ (pos 1, 0, true) ∷ (pos 1, 0, true) ∷ (pos 1, 0, true) ∷ (pos 2, 1, true) ∷ (pos 2, 1, true) ∷ (pos 1, 0, true) ∷ (pos 2, 1, true) ∷ (pos 2, 1, true) ∷ []
tensions_at_2 = refl

tensions_at_3 : told 3 (pos 1) (pos 3) 1 2 ∷ told 3 (pos 1) (pos 3) 2 1 ∷ told 3 (pos 1) (pos 3) 1 1 ∷ told 3 (pos 1) (pos 3) 1 2 ∷ told 3 (pos 1) (pos 3) 2 1 ∷ told 3 (pos 1) (pos 3) 0 1 ∷ told 3 (pos 1) (pos 3) 0 0 ∷ told 3 (pos 1) (pos 3) 2 2 ∷ told 3 (pos 0) (pos 0) 2 0 ∷ told 3 (pos 0) (pos 0) 1 0 ∷ told 3 (pos 0) (pos 0) 1 2 ∷ told 3 (pos 0) (pos 0) 1 0 ∷ told 3 (pos 0) (pos 0) 2 2 ∷ told 3 (pos 0) (pos 0) 2 0 ∷ told 3 (pos 0) (pos 0) 2 2 ∷ told 3 (pos 0) (pos 0) 0 1 ∷ told 3 (pos 0) (pos 0) 2 2 ∷ told 3 (pos 0) (pos 0) 2 2 ∷ told 3 (pos 0) (pos 0) 2 2 ∷ told 3 (pos 0) (pos 0) 0 2 ∷ told 3 (pos 0) (pos 0) 0 1 ∷ told 3 (pos 0) (pos 0) 0 1 ∷ told 3 (pos 0) (pos 0) 2 1 ∷ told 3 (pos 0) (pos 0) 1 0 ∷ told 3 (pos 0) (pos 1) 1 1 ∷ told 3 (pos 0) (pos 1) 2 2 ∷ told 3 (pos 0) (pos 1) 2 0 ∷ told 3 (pos 0) (pos 1) 0 2 ∷ told 3 (pos 0) (pos 1) 1 2 ∷ told 3 (pos 0) (pos 1) 2 1 ∷ told 3 (pos 0) (pos 1) 1 2 ∷ told 3 (pos 0) (pos 1) 0 2 ∷ told 3 (negsuc 1) (pos 1) 1 1 ∷ told 3 (negsuc 1) (pos 1) 1 0 ∷ told 3 (negsuc 1) (pos 1) 1 1 ∷ told 3 (negsuc 1) (pos 1) 2 0 ∷ told 3 (negsuc 1) (pos 1) 1 0 ∷ told 3 (negsuc 1) (pos 1) 2 0 ∷ told 3 (negsuc 1) (pos 1) 1 1 ∷ told 3 (negsuc 1) (pos 1) 1 2 ∷ told 3 (pos 999997) (pos 999997) 0 2 ∷ told 3 (pos 999997) (pos 999997) 1 0 ∷ told 3 (pos 999997) (pos 999997) 0 1 ∷ told 3 (pos 999997) (pos 999997) 1 1 ∷ told 3 (pos 999997) (pos 999997) 2 0 ∷ told 3 (pos 999997) (pos 999997) 2 0 ∷ told 3 (pos 999997) (pos 999997) 1 2 ∷ told 3 (pos 999997) (pos 999997) 2 1 ∷ told 3 (pos 2) (pos 11) 0 2 ∷ told 3 (pos 2) (pos 11) 0 2 ∷ told 3 (pos 2) (pos 11) 2 1 ∷ told 3 (pos 2) (pos 11) 2 0 ∷ told 3 (pos 2) (pos 11) 2 0 ∷ told 3 (pos 2) (pos 11) 1 2 ∷ told 3 (pos 2) (pos 11) 2 0 ∷ told 3 (pos 2) (pos 11) 2 1 ∷ told 3 (pos 999997) (pos 999998) 2 1 ∷ told 3 (pos 999997) (pos 999998) 1 0 ∷ told 3 (pos 999997) (pos 999998) 2 1 ∷ told 3 (pos 999997) (pos 999998) 2 2 ∷ told 3 (pos 999997) (pos 999998) 0 1 ∷ told 3 (pos 999997) (pos 999998) 2 1 ∷ told 3 (pos 999997) (pos 999998) 0 0 ∷ told 3 (pos 999997) (pos 999998) 0 0 ∷ told 3 (pos 1) (pos 2) 1 0 ∷ told 3 (pos 1) (pos 2) 1 1 ∷ told 3 (pos 1) (pos 2) 0 0 ∷ told 3 (pos 1) (pos 2) 1 1 ∷ told 3 (pos 1) (pos 2) 0 0 ∷ told 3 (pos 1) (pos 2) 0 0 ∷ told 3 (pos 1) (pos 2) 1 0 ∷ told 3 (pos 1) (pos 2) 2 2 ∷ told 3 (pos 999997) (pos 999997) 1 2 ∷ told 3 (pos 999997) (pos 999997) 1 1 ∷ told 3 (pos 999997) (pos 999997) 2 1 ∷ told 3 (pos 999997) (pos 999997) 1 2 ∷ told 3 (pos 999997) (pos 999997) 0 0 ∷ told 3 (pos 999997) (pos 999997) 0 2 ∷ told 3 (pos 999997) (pos 999997) 2 1 ∷ told 3 (pos 999997) (pos 999997) 2 1 ∷ [] ≡ (pos 1, 0, true) ∷ (pos 2, 1, true) ∷ (pos 3, 2, true) ∷ (pos 1, 0, true) ∷ (pos 2, 1, true) ∷ (pos 1, 0, true) ∷ (pos 3, 2, true) ∷ (pos 3, 2, true) ∷ (pos 1, 1, false) ∷ (pos 2, 2, false) ∷ (pos 1, 1, false) ∷ (pos 2, 2, false) ∷ (pos 0, 0, true) ∷ (pos 1, 1, false) ∷ (pos 0, 0, true) ∷ (pos 1, 1, false) ∷ (pos 0, 0, true) ∷ (pos 0, 0, true) ∷ (pos 0, 0, true) ∷ (pos 2, 2, false) ∷ (pos 1, 1, false) ∷ (pos 1, 1, false) ∷ (pos 2, 2, false) ∷ (pos 2, 2, false) ∷ (pos 0, 0, true) ∷ (pos 0, 0, true) ∷ (pos 1, 1, true) ∷ (pos 2, 2, false) ∷ (pos 1, 1, true) ∷ (pos 2, 2, false) ∷ (pos 1, 1, true) ∷ (pos 2, 2, false) ∷ (pos 0, 2, true) ∷ (negsuc 0, 1, true) ∷ (pos 0, 2, true) ∷ (negsuc 1, 0, true) ∷ (negsuc 0, 1, true) ∷ (negsuc 1, 0, true) ∷ (pos 0, 2, true) ∷ (negsuc 1, 0, true) ∷ (pos 999998, 1, false) ∷ (pos 999998, 1, false) ∷ (pos 999997, 0, true) ∷ (pos 999999, 2, false) ∷ (pos 999997, 0, true) ∷ (pos 999997, 0, true) ∷ (pos 999997, 0, true) ∷ (pos 999998, 1, false) ∷ (pos 2, 0, true) ∷ (pos 2, 0, true) ∷ (pos 2, 0, true) ∷ (pos 4, 2, true) ∷ (pos 4, 2, true) ∷ (pos 4, 2, true) ∷ (pos 4, 2, true) ∷ (pos 2, 0, true) ∷ (pos 999998, 1, true) ∷ (pos 999998, 1, true) ∷ (pos 999998, 1, true) ∷ (pos 999999, 2, false) ∷ (pos 999997, 0, true) ∷ (pos 999998, 1, true) ∷ (pos 999999, 2, false) ∷ (pos 999999, 2, false) ∷ (pos 2, 1, true) ∷ (pos 3, 2, false) ∷ (pos 3, 2, false) ∷ (pos 3, 2, false) ∷ (pos 3, 2, false) ∷ (pos 3, 2, false) ∷ (pos 2, 1, true) ∷ (pos 3, 2, false) ∷ (pos 999997, 0, true) ∷ (pos 999999, 2, false) ∷ (pos 999998, 1, false) ∷ (pos 999997, 0, true) ∷ (pos 999999, 2, false) ∷ (pos 999998, 1, false) ∷ (pos 999998, 1, false) ∷ (pos 999998, 1, false) ∷ []
tensions_at_3 = refl

tensions_at_5 : told 5 (pos 9) (pos 24) 1 4 ∷ told 5 (pos 9) (pos 24) 4 4 ∷ told 5 (pos 9) (pos 24) 4 0 ∷ told 5 (pos 9) (pos 24) 4 2 ∷ told 5 (pos 9) (pos 24) 2 2 ∷ told 5 (pos 9) (pos 24) 2 2 ∷ told 5 (pos 9) (pos 24) 1 0 ∷ told 5 (pos 9) (pos 24) 1 0 ∷ told 5 (pos 3) (pos 5) 2 2 ∷ told 5 (pos 3) (pos 5) 1 3 ∷ told 5 (pos 3) (pos 5) 1 0 ∷ told 5 (pos 3) (pos 5) 0 2 ∷ told 5 (pos 3) (pos 5) 2 0 ∷ told 5 (pos 3) (pos 5) 0 0 ∷ told 5 (pos 3) (pos 5) 0 3 ∷ told 5 (pos 3) (pos 5) 2 3 ∷ told 5 (pos 999997) (pos 1000000) 1 2 ∷ told 5 (pos 999997) (pos 1000000) 3 2 ∷ told 5 (pos 999997) (pos 1000000) 3 2 ∷ told 5 (pos 999997) (pos 1000000) 0 2 ∷ told 5 (pos 999997) (pos 1000000) 0 1 ∷ told 5 (pos 999997) (pos 1000000) 0 0 ∷ told 5 (pos 999997) (pos 1000000) 4 0 ∷ told 5 (pos 999997) (pos 1000000) 0 1 ∷ told 5 (negsuc 999999) (negsuc 999997) 0 4 ∷ told 5 (negsuc 999999) (negsuc 999997) 3 1 ∷ told 5 (negsuc 999999) (negsuc 999997) 2 2 ∷ told 5 (negsuc 999999) (negsuc 999997) 1 1 ∷ told 5 (negsuc 999999) (negsuc 999997) 4 3 ∷ told 5 (negsuc 999999) (negsuc 999997) 0 3 ∷ told 5 (negsuc 999999) (negsuc 999997) 4 2 ∷ told 5 (negsuc 999999) (negsuc 999997) 1 2 ∷ told 5 (pos 999997) (pos 1000000) 2 1 ∷ told 5 (pos 999997) (pos 1000000) 0 0 ∷ told 5 (pos 999997) (pos 1000000) 2 3 ∷ told 5 (pos 999997) (pos 1000000) 0 2 ∷ told 5 (pos 999997) (pos 1000000) 2 1 ∷ told 5 (pos 999997) (pos 1000000) 3 2 ∷ told 5 (pos 999997) (pos 1000000) 1 2 ∷ told 5 (pos 999997) (pos 1000000) 0 4 ∷ told 5 (negsuc 999999) (negsuc 999999) 2 4 ∷ told 5 (negsuc 999999) (negsuc 999999) 2 1 ∷ told 5 (negsuc 999999) (negsuc 999999) 2 2 ∷ told 5 (negsuc 999999) (negsuc 999999) 3 2 ∷ told 5 (negsuc 999999) (negsuc 999999) 3 3 ∷ told 5 (negsuc 999999) (negsuc 999999) 1 2 ∷ told 5 (negsuc 999999) (negsuc 999999) 2 3 ∷ told 5 (negsuc 999999) (negsuc 999999) 2 1 ∷ told 5 (pos 3) (pos 5) 3 3 ∷ told 5 (pos 3) (pos 5) 4 0 ∷ told 5 (pos 3) (pos 5) 3 4 ∷ told 5 (pos 3) (pos 5) 1 0 ∷ told 5 (pos 3) (pos 5) 1 3 ∷ told 5 (pos 3) (pos 5) 0 1 ∷ told 5 (pos 3) (pos 5) 3 2 ∷ told 5 (pos 3) (pos 5) 2 0 ∷ told 5 (pos 3) (pos 7) 3 0 ∷ told 5 (pos 3) (pos 7) 3 1 ∷ told 5 (pos 3) (pos 7) 0 2 ∷ told 5 (pos 3) (pos 7) 3 1 ∷ told 5 (pos 3) (pos 7) 4 4 ∷ told 5 (pos 3) (pos 7) 2 0 ∷ told 5 (pos 3) (pos 7) 0 3 ∷ told 5 (pos 3) (pos 7) 2 3 ∷ told 5 (pos 0) (pos 1) 3 3 ∷ told 5 (pos 0) (pos 1) 4 0 ∷ told 5 (pos 0) (pos 1) 2 3 ∷ told 5 (pos 0) (pos 1) 2 0 ∷ told 5 (pos 0) (pos 1) 1 3 ∷ told 5 (pos 0) (pos 1) 2 2 ∷ told 5 (pos 0) (pos 1) 2 1 ∷ told 5 (pos 0) (pos 1) 4 4 ∷ told 5 (negsuc 3) (negsuc 2) 0 2 ∷ told 5 (negsuc 3) (negsuc 2) 3 4 ∷ told 5 (negsuc 3) (negsuc 2) 2 2 ∷ told 5 (negsuc 3) (negsuc 2) 3 2 ∷ told 5 (negsuc 3) (negsuc 2) 4 4 ∷ told 5 (negsuc 3) (negsuc 2) 1 2 ∷ told 5 (negsuc 3) (negsuc 2) 2 1 ∷ told 5 (negsuc 3) (negsuc 2) 4 0 ∷ [] ≡ (pos 13, 4, true) ∷ (pos 10, 1, true) ∷ (pos 11, 2, true) ∷ (pos 13, 4, true) ∷ (pos 10, 1, true) ∷ (pos 10, 1, true) ∷ (pos 9, 0, true) ∷ (pos 9, 0, true) ∷ (pos 5, 2, true) ∷ (pos 7, 4, false) ∷ (pos 4, 1, true) ∷ (pos 7, 4, false) ∷ (pos 3, 0, true) ∷ (pos 5, 2, true) ∷ (pos 3, 0, true) ∷ (pos 6, 3, false) ∷ (pos 1000001, 4, false) ∷ (pos 999999, 2, true) ∷ (pos 999999, 2, true) ∷ (pos 999997, 0, true) ∷ (pos 1000001, 4, false) ∷ (pos 1000000, 3, true) ∷ (pos 1000001, 4, false) ∷ (pos 1000001, 4, false) ∷ (negsuc 999995, 4, false) ∷ (negsuc 999996, 3, false) ∷ (negsuc 999999, 0, true) ∷ (negsuc 999999, 0, true) ∷ (negsuc 999995, 4, false) ∷ (negsuc 999996, 3, false) ∷ (negsuc 999996, 3, false) ∷ (negsuc 999998, 1, true) ∷ (pos 999999, 2, true) ∷ (pos 1000000, 3, true) ∷ (pos 1000001, 4, false) ∷ (pos 999997, 0, true) ∷ (pos 999999, 2, true) ∷ (pos 999999, 2, true) ∷ (pos 1000001, 4, false) ∷ (pos 999999, 2, true) ∷ (negsuc 999997, 2, false) ∷ (negsuc 999995, 4, false) ∷ (negsuc 999999, 0, true) ∷ (negsuc 999995, 4, false) ∷ (negsuc 999999, 0, true) ∷ (negsuc 999998, 1, false) ∷ (negsuc 999998, 1, false) ∷ (negsuc 999995, 4, false) ∷ (pos 5, 2, true) ∷ (pos 6, 3, false) ∷ (pos 6, 3, false) ∷ (pos 4, 1, true) ∷ (pos 7, 4, false) ∷ (pos 6, 3, false) ∷ (pos 4, 1, true) ∷ (pos 3, 0, true) ∷ (pos 7, 4, true) ∷ (pos 3, 0, true) ∷ (pos 7, 4, true) ∷ (pos 3, 0, true) ∷ (pos 5, 2, true) ∷ (pos 3, 0, true) ∷ (pos 3, 0, true) ∷ (pos 6, 3, true) ∷ (pos 0, 0, true) ∷ (pos 1, 1, true) ∷ (pos 1, 1, true) ∷ (pos 3, 3, false) ∷ (pos 2, 2, false) ∷ (pos 0, 0, true) ∷ (pos 4, 4, false) ∷ (pos 0, 0, true) ∷ (negsuc 2, 1, true) ∷ (negsuc 3, 0, true) ∷ (pos 0, 4, false) ∷ (negsuc 0, 3, false) ∷ (pos 0, 4, false) ∷ (negsuc 3, 0, true) ∷ (negsuc 0, 3, false) ∷ (negsuc 3, 0, true) ∷ []
tensions_at_5 = refl

tensions_at_10 : told 10 (negsuc 1) (pos 8) 6 3 ∷ told 10 (negsuc 1) (pos 8) 7 7 ∷ told 10 (negsuc 1) (pos 8) 5 3 ∷ told 10 (negsuc 1) (pos 8) 3 6 ∷ told 10 (negsuc 1) (pos 8) 9 7 ∷ told 10 (negsuc 1) (pos 8) 7 8 ∷ told 10 (negsuc 1) (pos 8) 4 9 ∷ told 10 (negsuc 1) (pos 8) 0 8 ∷ told 10 (pos 0) (pos 10) 7 5 ∷ told 10 (pos 0) (pos 10) 1 4 ∷ told 10 (pos 0) (pos 10) 0 9 ∷ told 10 (pos 0) (pos 10) 2 4 ∷ told 10 (pos 0) (pos 10) 9 0 ∷ told 10 (pos 0) (pos 10) 3 8 ∷ told 10 (pos 0) (pos 10) 1 0 ∷ told 10 (pos 0) (pos 10) 8 7 ∷ told 10 (pos 0) (pos 0) 7 5 ∷ told 10 (pos 0) (pos 0) 0 8 ∷ told 10 (pos 0) (pos 0) 6 8 ∷ told 10 (pos 0) (pos 0) 7 6 ∷ told 10 (pos 0) (pos 0) 1 2 ∷ told 10 (pos 0) (pos 0) 2 7 ∷ told 10 (pos 0) (pos 0) 1 5 ∷ told 10 (pos 0) (pos 0) 8 2 ∷ told 10 (negsuc 999999) (negsuc 999990) 6 2 ∷ told 10 (negsuc 999999) (negsuc 999990) 1 9 ∷ told 10 (negsuc 999999) (negsuc 999990) 8 3 ∷ told 10 (negsuc 999999) (negsuc 999990) 5 2 ∷ told 10 (negsuc 999999) (negsuc 999990) 5 3 ∷ told 10 (negsuc 999999) (negsuc 999990) 5 1 ∷ told 10 (negsuc 999999) (negsuc 999990) 5 8 ∷ told 10 (negsuc 999999) (negsuc 999990) 8 0 ∷ told 10 (negsuc 16) (negsuc 8) 5 5 ∷ told 10 (negsuc 16) (negsuc 8) 6 8 ∷ told 10 (negsuc 16) (negsuc 8) 3 7 ∷ told 10 (negsuc 16) (negsuc 8) 7 9 ∷ told 10 (negsuc 16) (negsuc 8) 7 5 ∷ told 10 (negsuc 16) (negsuc 8) 1 2 ∷ told 10 (negsuc 16) (negsuc 8) 0 7 ∷ told 10 (negsuc 16) (negsuc 8) 0 9 ∷ told 10 (pos 999997) (pos 999999) 1 2 ∷ told 10 (pos 999997) (pos 999999) 2 9 ∷ told 10 (pos 999997) (pos 999999) 6 4 ∷ told 10 (pos 999997) (pos 999999) 7 7 ∷ told 10 (pos 999997) (pos 999999) 9 3 ∷ told 10 (pos 999997) (pos 999999) 5 7 ∷ told 10 (pos 999997) (pos 999999) 9 4 ∷ told 10 (pos 999997) (pos 999999) 0 5 ∷ told 10 (pos 6) (pos 16) 2 7 ∷ told 10 (pos 6) (pos 16) 9 5 ∷ told 10 (pos 6) (pos 16) 3 2 ∷ told 10 (pos 6) (pos 16) 4 1 ∷ told 10 (pos 6) (pos 16) 1 4 ∷ told 10 (pos 6) (pos 16) 1 2 ∷ told 10 (pos 6) (pos 16) 2 7 ∷ told 10 (pos 6) (pos 16) 4 3 ∷ told 10 (pos 8) (pos 8) 6 7 ∷ told 10 (pos 8) (pos 8) 9 9 ∷ told 10 (pos 8) (pos 8) 2 6 ∷ told 10 (pos 8) (pos 8) 2 8 ∷ told 10 (pos 8) (pos 8) 6 9 ∷ told 10 (pos 8) (pos 8) 5 7 ∷ told 10 (pos 8) (pos 8) 5 2 ∷ told 10 (pos 8) (pos 8) 4 3 ∷ told 10 (negsuc 5) (pos 3) 6 7 ∷ told 10 (negsuc 5) (pos 3) 3 0 ∷ told 10 (negsuc 5) (pos 3) 7 6 ∷ told 10 (negsuc 5) (pos 3) 9 1 ∷ told 10 (negsuc 5) (pos 3) 0 1 ∷ told 10 (negsuc 5) (pos 3) 1 4 ∷ told 10 (negsuc 5) (pos 3) 2 5 ∷ told 10 (negsuc 5) (pos 3) 4 4 ∷ told 10 (pos 15) (pos 17) 1 0 ∷ told 10 (pos 15) (pos 17) 7 6 ∷ told 10 (pos 15) (pos 17) 8 3 ∷ told 10 (pos 15) (pos 17) 8 9 ∷ told 10 (pos 15) (pos 17) 3 9 ∷ told 10 (pos 15) (pos 17) 9 0 ∷ told 10 (pos 15) (pos 17) 2 5 ∷ told 10 (pos 15) (pos 17) 1 6 ∷ [] ≡ (pos 7, 9, true) ∷ (pos 0, 2, true) ∷ (negsuc 1, 0, true) ∷ (pos 3, 5, true) ∷ (negsuc 1, 0, true) ∷ (pos 1, 3, true) ∷ (pos 5, 7, true) ∷ (negsuc 1, 0, true) ∷ (pos 8, 8, true) ∷ (pos 3, 3, true) ∷ (pos 9, 9, true) ∷ (pos 2, 2, true) ∷ (pos 1, 1, true) ∷ (pos 5, 5, true) ∷ (pos 9, 9, true) ∷ (pos 9, 9, true) ∷ (pos 8, 8, false) ∷ (pos 8, 8, false) ∷ (pos 2, 2, false) ∷ (pos 9, 9, false) ∷ (pos 1, 1, false) ∷ (pos 5, 5, false) ∷ (pos 4, 4, false) ∷ (pos 4, 4, false) ∷ (negsuc 999993, 6, true) ∷ (negsuc 999991, 8, true) ∷ (negsuc 999994, 5, true) ∷ (negsuc 999992, 7, true) ∷ (negsuc 999991, 8, true) ∷ (negsuc 999993, 6, true) ∷ (negsuc 999996, 3, true) ∷ (negsuc 999997, 2, true) ∷ (negsuc 9, 7, true) ∷ (negsuc 7, 9, false) ∷ (negsuc 15, 1, true) ∷ (negsuc 7, 9, false) ∷ (negsuc 11, 5, true) ∷ (negsuc 8, 8, true) ∷ (negsuc 12, 4, true) ∷ (negsuc 10, 6, true) ∷ (pos 1000001, 4, false) ∷ (pos 999997, 0, true) ∷ (pos 999998, 1, true) ∷ (pos 1000000, 3, false) ∷ (pos 1000004, 7, false) ∷ (pos 1000002, 5, false) ∷ (pos 1000005, 8, false) ∷ (pos 1000005, 8, false) ∷ (pos 15, 9, true) ∷ (pos 6, 0, true) ∷ (pos 9, 3, true) ∷ (pos 7, 1, true) ∷ (pos 13, 7, true) ∷ (pos 11, 5, true) ∷ (pos 15, 9, true) ∷ (pos 9, 3, true) ∷ (pos 11, 3, false) ∷ (pos 10, 2, false) ∷ (pos 14, 6, false) ∷ (pos 16, 8, false) ∷ (pos 13, 5, false) ∷ (pos 12, 4, false) ∷ (pos 17, 9, false) ∷ (pos 9, 1, false) ∷ (pos 1, 7, true) ∷ (negsuc 2, 3, true) ∷ (negsuc 0, 5, true) ∷ (pos 2, 8, true) ∷ (pos 1, 7, true) ∷ (pos 3, 9, true) ∷ (pos 3, 9, true) ∷ (pos 0, 6, true) ∷ (pos 19, 4, false) ∷ (pos 19, 4, false) ∷ (pos 15, 0, true) ∷ (pos 21, 6, false) ∷ (pos 16, 1, true) ∷ (pos 21, 6, false) ∷ (pos 23, 8, false) ∷ (pos 15, 0, true) ∷ []
tensions_at_10 = refl

tensions_at_24 : told 24 (negsuc 1) (pos 22) 22 13 ∷ told 24 (negsuc 1) (pos 22) 6 15 ∷ told 24 (negsuc 1) (pos 22) 2 6 ∷ told 24 (negsuc 1) (pos 22) 21 19 ∷ told 24 (negsuc 1) (pos 22) 1 19 ∷ told 24 (negsuc 1) (pos 22) 15 1 ∷ told 24 (negsuc 1) (pos 22) 18 21 ∷ told 24 (negsuc 1) (pos 22) 9 13 ∷ told 24 (pos 999997) (pos 999998) 5 7 ∷ told 24 (pos 999997) (pos 999998) 12 0 ∷ told 24 (pos 999997) (pos 999998) 10 5 ∷ told 24 (pos 999997) (pos 999998) 7 5 ∷ told 24 (pos 999997) (pos 999998) 8 9 ∷ told 24 (pos 999997) (pos 999998) 20 2 ∷ told 24 (pos 999997) (pos 999998) 4 7 ∷ told 24 (pos 999997) (pos 999998) 20 18 ∷ told 24 (negsuc 999999) (negsuc 999981) 15 1 ∷ told 24 (negsuc 999999) (negsuc 999981) 21 17 ∷ told 24 (negsuc 999999) (negsuc 999981) 4 0 ∷ told 24 (negsuc 999999) (negsuc 999981) 1 4 ∷ told 24 (negsuc 999999) (negsuc 999981) 16 17 ∷ told 24 (negsuc 999999) (negsuc 999981) 18 10 ∷ told 24 (negsuc 999999) (negsuc 999981) 16 0 ∷ told 24 (negsuc 999999) (negsuc 999981) 11 10 ∷ told 24 (pos 21) (pos 45) 18 14 ∷ told 24 (pos 21) (pos 45) 4 4 ∷ told 24 (pos 21) (pos 45) 20 16 ∷ told 24 (pos 21) (pos 45) 6 4 ∷ told 24 (pos 21) (pos 45) 6 8 ∷ told 24 (pos 21) (pos 45) 2 17 ∷ told 24 (pos 21) (pos 45) 11 4 ∷ told 24 (pos 21) (pos 45) 3 15 ∷ told 24 (pos 14) (pos 14) 2 4 ∷ told 24 (pos 14) (pos 14) 21 17 ∷ told 24 (pos 14) (pos 14) 5 13 ∷ told 24 (pos 14) (pos 14) 9 20 ∷ told 24 (pos 14) (pos 14) 3 16 ∷ told 24 (pos 14) (pos 14) 20 1 ∷ told 24 (pos 14) (pos 14) 8 0 ∷ told 24 (pos 14) (pos 14) 23 1 ∷ told 24 (negsuc 6) (pos 17) 5 4 ∷ told 24 (negsuc 6) (pos 17) 19 15 ∷ told 24 (negsuc 6) (pos 17) 19 13 ∷ told 24 (negsuc 6) (pos 17) 21 20 ∷ told 24 (negsuc 6) (pos 17) 5 20 ∷ told 24 (negsuc 6) (pos 17) 16 2 ∷ told 24 (negsuc 6) (pos 17) 10 21 ∷ told 24 (negsuc 6) (pos 17) 0 3 ∷ told 24 (pos 9) (pos 81) 21 13 ∷ told 24 (pos 9) (pos 81) 22 3 ∷ told 24 (pos 9) (pos 81) 20 3 ∷ told 24 (pos 9) (pos 81) 18 22 ∷ told 24 (pos 9) (pos 81) 12 4 ∷ told 24 (pos 9) (pos 81) 23 23 ∷ told 24 (pos 9) (pos 81) 13 1 ∷ told 24 (pos 9) (pos 81) 13 2 ∷ told 24 (pos 999997) (pos 999997) 19 23 ∷ told 24 (pos 999997) (pos 999997) 12 22 ∷ told 24 (pos 999997) (pos 999997) 11 3 ∷ told 24 (pos 999997) (pos 999997) 15 9 ∷ told 24 (pos 999997) (pos 999997) 10 15 ∷ told 24 (pos 999997) (pos 999997) 15 15 ∷ told 24 (pos 999997) (pos 999997) 16 11 ∷ told 24 (pos 999997) (pos 999997) 4 17 ∷ told 24 (pos 999997) (pos 999997) 17 23 ∷ told 24 (pos 999997) (pos 999997) 3 10 ∷ told 24 (pos 999997) (pos 999997) 0 20 ∷ told 24 (pos 999997) (pos 999997) 2 15 ∷ told 24 (pos 999997) (pos 999997) 3 12 ∷ told 24 (pos 999997) (pos 999997) 16 9 ∷ told 24 (pos 999997) (pos 999997) 3 23 ∷ told 24 (pos 999997) (pos 999997) 0 2 ∷ told 24 (pos 14) (pos 14) 21 1 ∷ told 24 (pos 14) (pos 14) 6 3 ∷ told 24 (pos 14) (pos 14) 5 23 ∷ told 24 (pos 14) (pos 14) 1 3 ∷ told 24 (pos 14) (pos 14) 5 2 ∷ told 24 (pos 14) (pos 14) 18 14 ∷ told 24 (pos 14) (pos 14) 2 15 ∷ told 24 (pos 14) (pos 14) 2 21 ∷ [] ≡ (pos 15, 17, true) ∷ (pos 9, 11, true) ∷ (pos 4, 6, true) ∷ (negsuc 1, 0, true) ∷ (pos 18, 20, true) ∷ (pos 10, 12, true) ∷ (pos 3, 5, true) ∷ (pos 4, 6, true) ∷ (pos 1000010, 13, false) ∷ (pos 1000020, 23, false) ∷ (pos 1000003, 6, false) ∷ (pos 1000006, 9, false) ∷ (pos 1000009, 12, false) ∷ (pos 1000014, 17, false) ∷ (pos 1000011, 14, false) ∷ (pos 1000006, 9, false) ∷ (negsuc 999997, 2, true) ∷ (negsuc 999987, 12, true) ∷ (negsuc 999987, 12, true) ∷ (negsuc 999980, 19, false) ∷ (negsuc 999982, 17, true) ∷ (negsuc 999991, 8, true) ∷ (negsuc 999999, 0, true) ∷ (negsuc 999984, 15, true) ∷ (pos 44, 23, true) ∷ (pos 24, 3, true) ∷ (pos 44, 23, true) ∷ (pos 22, 1, true) ∷ (pos 26, 5, true) ∷ (pos 39, 18, true) ∷ (pos 41, 20, true) ∷ (pos 36, 15, true) ∷ (pos 26, 12, false) ∷ (pos 20, 6, false) ∷ (pos 32, 18, false) ∷ (pos 35, 21, false) ∷ (pos 37, 23, false) ∷ (pos 29, 15, false) ∷ (pos 16, 2, false) ∷ (pos 26, 12, false) ∷ (negsuc 0, 6, true) ∷ (negsuc 3, 3, true) ∷ (negsuc 5, 1, true) ∷ (negsuc 0, 6, true) ∷ (pos 15, 22, true) ∷ (pos 10, 17, true) ∷ (pos 11, 18, true) ∷ (pos 3, 10, true) ∷ (pos 16, 7, true) ∷ (pos 29, 20, true) ∷ (pos 31, 22, true) ∷ (pos 28, 19, true) ∷ (pos 16, 7, true) ∷ (pos 24, 15, true) ∷ (pos 12, 3, true) ∷ (pos 13, 4, true) ∷ (pos 1000012, 15, false) ∷ (pos 1000018, 21, false) ∷ (pos 1000000, 3, false) ∷ (pos 1000002, 5, false) ∷ (pos 1000013, 16, false) ∷ (pos 1000008, 11, false) ∷ (pos 1000003, 6, false) ∷ (pos 999997, 0, true) ∷ (pos 1000014, 17, false) ∷ (pos 1000015, 18, false) ∷ (pos 1000004, 7, false) ∷ (pos 999997, 0, true) ∷ (pos 1000017, 20, false) ∷ (pos 1000001, 4, false) ∷ (pos 1000004, 7, false) ∷ (pos 1000010, 13, false) ∷ (pos 28, 14, false) ∷ (pos 21, 7, false) ∷ (pos 18, 4, false) ∷ (pos 26, 12, false) ∷ (pos 21, 7, false) ∷ (pos 20, 6, false) ∷ (pos 37, 23, false) ∷ (pos 19, 5, false) ∷ []
tensions_at_24 = refl

tensions_at_60 : told 60 (pos 999997) (pos 1000000) 4 44 ∷ told 60 (pos 999997) (pos 1000000) 24 4 ∷ told 60 (pos 999997) (pos 1000000) 44 48 ∷ told 60 (pos 999997) (pos 1000000) 14 59 ∷ told 60 (pos 999997) (pos 1000000) 31 35 ∷ told 60 (pos 999997) (pos 1000000) 55 49 ∷ told 60 (pos 999997) (pos 1000000) 48 56 ∷ told 60 (pos 999997) (pos 1000000) 16 14 ∷ told 60 (pos 33) (pos 92) 31 9 ∷ told 60 (pos 33) (pos 92) 14 23 ∷ told 60 (pos 33) (pos 92) 21 56 ∷ told 60 (pos 33) (pos 92) 44 1 ∷ told 60 (pos 33) (pos 92) 12 30 ∷ told 60 (pos 33) (pos 92) 42 28 ∷ told 60 (pos 33) (pos 92) 23 24 ∷ told 60 (pos 33) (pos 92) 13 32 ∷ told 60 (pos 999997) (pos 999997) 56 49 ∷ told 60 (pos 999997) (pos 999997) 55 37 ∷ told 60 (pos 999997) (pos 999997) 41 52 ∷ told 60 (pos 999997) (pos 999997) 42 20 ∷ told 60 (pos 999997) (pos 999997) 30 45 ∷ told 60 (pos 999997) (pos 999997) 20 28 ∷ told 60 (pos 999997) (pos 999997) 51 45 ∷ told 60 (pos 999997) (pos 999997) 32 27 ∷ told 60 (negsuc 61) (pos 118) 29 12 ∷ told 60 (negsuc 61) (pos 118) 58 54 ∷ told 60 (negsuc 61) (pos 118) 59 47 ∷ told 60 (negsuc 61) (pos 118) 0 36 ∷ told 60 (negsuc 61) (pos 118) 16 11 ∷ told 60 (negsuc 61) (pos 118) 28 3 ∷ told 60 (negsuc 61) (pos 118) 4 19 ∷ told 60 (negsuc 61) (pos 118) 13 40 ∷ told 60 (pos 94) (pos 153) 52 56 ∷ told 60 (pos 94) (pos 153) 23 53 ∷ told 60 (pos 94) (pos 153) 52 28 ∷ told 60 (pos 94) (pos 153) 24 16 ∷ told 60 (pos 94) (pos 153) 31 16 ∷ told 60 (pos 94) (pos 153) 10 53 ∷ told 60 (pos 94) (pos 153) 43 29 ∷ told 60 (pos 94) (pos 153) 14 44 ∷ told 60 (pos 10) (pos 12) 53 47 ∷ told 60 (pos 10) (pos 12) 3 25 ∷ told 60 (pos 10) (pos 12) 8 47 ∷ told 60 (pos 10) (pos 12) 52 20 ∷ told 60 (pos 10) (pos 12) 31 58 ∷ told 60 (pos 10) (pos 12) 59 24 ∷ told 60 (pos 10) (pos 12) 33 31 ∷ told 60 (pos 10) (pos 12) 52 52 ∷ told 60 (pos 999997) (pos 1000000) 15 34 ∷ told 60 (pos 999997) (pos 1000000) 2 55 ∷ told 60 (pos 999997) (pos 1000000) 28 55 ∷ told 60 (pos 999997) (pos 1000000) 0 0 ∷ told 60 (pos 999997) (pos 1000000) 53 13 ∷ told 60 (pos 999997) (pos 1000000) 9 44 ∷ told 60 (pos 999997) (pos 1000000) 34 3 ∷ told 60 (pos 999997) (pos 1000000) 4 19 ∷ told 60 (negsuc 34) (negsuc 33) 50 53 ∷ told 60 (negsuc 34) (negsuc 33) 47 58 ∷ told 60 (negsuc 34) (negsuc 33) 7 54 ∷ told 60 (negsuc 34) (negsuc 33) 31 33 ∷ told 60 (negsuc 34) (negsuc 33) 51 56 ∷ told 60 (negsuc 34) (negsuc 33) 23 11 ∷ told 60 (negsuc 34) (negsuc 33) 32 1 ∷ told 60 (negsuc 34) (negsuc 33) 13 50 ∷ told 60 (pos 38) (pos 40) 59 3 ∷ told 60 (pos 38) (pos 40) 58 13 ∷ told 60 (pos 38) (pos 40) 44 39 ∷ told 60 (pos 38) (pos 40) 48 47 ∷ told 60 (pos 38) (pos 40) 10 48 ∷ told 60 (pos 38) (pos 40) 32 14 ∷ told 60 (pos 38) (pos 40) 0 13 ∷ told 60 (pos 38) (pos 40) 24 55 ∷ told 60 (negsuc 7) (pos 6) 18 37 ∷ told 60 (negsuc 7) (pos 6) 35 58 ∷ told 60 (negsuc 7) (pos 6) 20 46 ∷ told 60 (negsuc 7) (pos 6) 30 11 ∷ told 60 (negsuc 7) (pos 6) 36 32 ∷ told 60 (negsuc 7) (pos 6) 10 21 ∷ told 60 (negsuc 7) (pos 6) 23 20 ∷ told 60 (negsuc 7) (pos 6) 58 16 ∷ [] ≡ (pos 1000000, 3, true) ∷ (pos 1000000, 3, true) ∷ (pos 1000024, 27, false) ∷ (pos 1000005, 8, false) ∷ (pos 1000024, 27, false) ∷ (pos 1000014, 17, false) ∷ (pos 1000028, 31, false) ∷ (pos 1000018, 21, false) ∷ (pos 38, 5, true) ∷ (pos 69, 36, true) ∷ (pos 35, 2, true) ∷ (pos 77, 44, true) ∷ (pos 78, 45, true) ∷ (pos 46, 13, true) ∷ (pos 61, 28, true) ∷ (pos 79, 46, true) ∷ (pos 1000013, 16, false) ∷ (pos 1000002, 5, false) ∷ (pos 1000031, 34, false) ∷ (pos 999998, 1, false) ∷ (pos 1000035, 38, false) ∷ (pos 1000028, 31, false) ∷ (pos 1000014, 17, false) ∷ (pos 1000015, 18, false) ∷ (negsuc 16, 45, true) ∷ (negsuc 3, 58, true) ∷ (negsuc 11, 50, true) ∷ (negsuc 23, 38, true) ∷ (negsuc 4, 57, true) ∷ (negsuc 24, 37, true) ∷ (negsuc 44, 17, true) ∷ (negsuc 32, 29, true) ∷ (pos 124, 30, true) ∷ (pos 150, 56, true) ∷ (pos 96, 2, true) ∷ (pos 112, 18, true) ∷ (pos 105, 11, true) ∷ (pos 103, 9, true) ∷ (pos 106, 12, true) ∷ (pos 150, 56, true) ∷ (pos 54, 44, false) ∷ (pos 22, 12, false) ∷ (pos 39, 29, false) ∷ (pos 28, 18, false) ∷ (pos 27, 17, false) ∷ (pos 25, 15, false) ∷ (pos 58, 48, false) ∷ (pos 60, 50, false) ∷ (pos 1000039, 42, false) ∷ (pos 1000013, 16, false) ∷ (pos 1000047, 50, false) ∷ (pos 1000020, 23, false) ∷ (pos 1000040, 43, false) ∷ (pos 1000055, 58, false) ∷ (pos 1000049, 52, false) ∷ (pos 1000035, 38, false) ∷ (pos 3, 38, false) ∷ (pos 11, 46, false) ∷ (negsuc 12, 22, false) ∷ (pos 2, 37, false) ∷ (pos 5, 40, false) ∷ (negsuc 11, 23, false) ∷ (negsuc 30, 4, false) ∷ (negsuc 22, 12, false) ∷ (pos 64, 26, false) ∷ (pos 75, 37, false) ∷ (pos 55, 17, false) ∷ (pos 59, 21, false) ∷ (pos 38, 0, true) ∷ (pos 42, 4, false) ∷ (pos 73, 35, false) ∷ (pos 91, 53, false) ∷ (pos 19, 27, false) ∷ (pos 23, 31, false) ∷ (pos 26, 34, false) ∷ (pos 41, 49, false) ∷ (negsuc 3, 4, true) ∷ (pos 11, 19, false) ∷ (negsuc 2, 5, true) ∷ (pos 18, 26, false) ∷ []
tensions_at_60 = refl

tensions_at_120 : told 120 (pos 26) (pos 27) 9 81 ∷ told 120 (pos 26) (pos 27) 108 52 ∷ told 120 (pos 26) (pos 27) 76 72 ∷ told 120 (pos 26) (pos 27) 47 88 ∷ told 120 (pos 26) (pos 27) 24 38 ∷ told 120 (pos 26) (pos 27) 30 23 ∷ told 120 (pos 26) (pos 27) 78 48 ∷ told 120 (pos 26) (pos 27) 54 8 ∷ told 120 (negsuc 198) (negsuc 196) 93 66 ∷ told 120 (negsuc 198) (negsuc 196) 5 51 ∷ told 120 (negsuc 198) (negsuc 196) 70 76 ∷ told 120 (negsuc 198) (negsuc 196) 90 60 ∷ told 120 (negsuc 198) (negsuc 196) 37 72 ∷ told 120 (negsuc 198) (negsuc 196) 48 91 ∷ told 120 (negsuc 198) (negsuc 196) 62 84 ∷ told 120 (negsuc 198) (negsuc 196) 30 39 ∷ told 120 (pos 61) (pos 421) 90 2 ∷ told 120 (pos 61) (pos 421) 21 103 ∷ told 120 (pos 61) (pos 421) 33 44 ∷ told 120 (pos 61) (pos 421) 75 92 ∷ told 120 (pos 61) (pos 421) 28 104 ∷ told 120 (pos 61) (pos 421) 88 15 ∷ told 120 (pos 61) (pos 421) 93 43 ∷ told 120 (pos 61) (pos 421) 19 65 ∷ told 120 (pos 107) (pos 467) 5 112 ∷ told 120 (pos 107) (pos 467) 84 89 ∷ told 120 (pos 107) (pos 467) 65 47 ∷ told 120 (pos 107) (pos 467) 14 40 ∷ told 120 (pos 107) (pos 467) 92 5 ∷ told 120 (pos 107) (pos 467) 33 61 ∷ told 120 (pos 107) (pos 467) 117 70 ∷ told 120 (pos 107) (pos 467) 86 71 ∷ told 120 (pos 999997) (pos 1000000) 76 41 ∷ told 120 (pos 999997) (pos 1000000) 113 31 ∷ told 120 (pos 999997) (pos 1000000) 53 2 ∷ told 120 (pos 999997) (pos 1000000) 18 48 ∷ told 120 (pos 999997) (pos 1000000) 116 62 ∷ told 120 (pos 999997) (pos 1000000) 37 91 ∷ told 120 (pos 999997) (pos 1000000) 46 111 ∷ told 120 (pos 999997) (pos 1000000) 99 32 ∷ told 120 (pos 999997) (pos 1000000) 4 98 ∷ told 120 (pos 999997) (pos 1000000) 68 28 ∷ told 120 (pos 999997) (pos 1000000) 64 101 ∷ told 120 (pos 999997) (pos 1000000) 0 71 ∷ told 120 (pos 999997) (pos 1000000) 35 66 ∷ told 120 (pos 999997) (pos 1000000) 70 44 ∷ told 120 (pos 999997) (pos 1000000) 108 1 ∷ told 120 (pos 999997) (pos 1000000) 101 87 ∷ told 120 (pos 999997) (pos 999998) 23 85 ∷ told 120 (pos 999997) (pos 999998) 116 56 ∷ told 120 (pos 999997) (pos 999998) 62 1 ∷ told 120 (pos 999997) (pos 999998) 23 37 ∷ told 120 (pos 999997) (pos 999998) 75 106 ∷ told 120 (pos 999997) (pos 999998) 93 114 ∷ told 120 (pos 999997) (pos 999998) 69 77 ∷ told 120 (pos 999997) (pos 999998) 118 5 ∷ told 120 (pos 999997) (pos 1000000) 17 52 ∷ told 120 (pos 999997) (pos 1000000) 13 31 ∷ told 120 (pos 999997) (pos 1000000) 7 119 ∷ told 120 (pos 999997) (pos 1000000) 23 1 ∷ told 120 (pos 999997) (pos 1000000) 5 67 ∷ told 120 (pos 999997) (pos 1000000) 3 19 ∷ told 120 (pos 999997) (pos 1000000) 11 33 ∷ told 120 (pos 999997) (pos 1000000) 9 100 ∷ told 120 (pos 90) (pos 90) 67 50 ∷ told 120 (pos 90) (pos 90) 81 54 ∷ told 120 (pos 90) (pos 90) 61 55 ∷ told 120 (pos 90) (pos 90) 46 9 ∷ told 120 (pos 90) (pos 90) 95 83 ∷ told 120 (pos 90) (pos 90) 19 35 ∷ told 120 (pos 90) (pos 90) 17 29 ∷ told 120 (pos 90) (pos 90) 16 85 ∷ told 120 (pos 999997) (pos 1000000) 78 71 ∷ told 120 (pos 999997) (pos 1000000) 63 68 ∷ told 120 (pos 999997) (pos 1000000) 62 108 ∷ told 120 (pos 999997) (pos 1000000) 50 35 ∷ told 120 (pos 999997) (pos 1000000) 43 94 ∷ told 120 (pos 999997) (pos 1000000) 33 54 ∷ told 120 (pos 999997) (pos 1000000) 12 86 ∷ told 120 (pos 999997) (pos 1000000) 67 62 ∷ [] ≡ (pos 72, 46, false) ∷ (pos 64, 38, false) ∷ (pos 116, 90, false) ∷ (pos 41, 15, false) ∷ (pos 134, 108, false) ∷ (pos 113, 87, false) ∷ (pos 90, 64, false) ∷ (pos 74, 48, false) ∷ (negsuc 146, 52, false) ∷ (negsuc 193, 5, false) ∷ (negsuc 113, 85, false) ∷ (negsuc 149, 49, false) ∷ (negsuc 84, 114, false) ∷ (negsuc 196, 2, true) ∷ (negsuc 97, 101, false) ∷ (negsuc 110, 88, false) ∷ (pos 152, 91, true) ∷ (pos 82, 21, true) ∷ (pos 131, 70, true) ∷ (pos 137, 76, true) ∷ (pos 76, 15, true) ∷ (pos 167, 106, true) ∷ (pos 70, 9, true) ∷ (pos 166, 105, true) ∷ (pos 107, 0, true) ∷ (pos 125, 18, true) ∷ (pos 222, 115, true) ∷ (pos 146, 39, true) ∷ (pos 153, 46, true) ∷ (pos 148, 41, true) ∷ (pos 193, 86, true) ∷ (pos 225, 118, true) ∷ (pos 1000045, 48, false) ∷ (pos 999998, 1, true) ∷ (pos 1000029, 32, false) ∷ (pos 1000110, 113, false) ∷ (pos 1000026, 29, false) ∷ (pos 1000014, 17, false) ∷ (pos 1000025, 28, false) ∷ (pos 1000013, 16, false) ∷ (pos 1000054, 57, false) ∷ (pos 1000040, 43, false) ∷ (pos 999997, 0, true) ∷ (pos 1000031, 34, false) ∷ (pos 1000111, 114, false) ∷ (pos 1000054, 57, false) ∷ (pos 1000093, 96, false) ∷ (pos 1000066, 69, false) ∷ (pos 1000022, 25, false) ∷ (pos 1000020, 23, false) ∷ (pos 1000019, 22, false) ∷ (pos 1000094, 97, false) ∷ (pos 1000111, 114, false) ∷ (pos 1000101, 104, false) ∷ (pos 1000088, 91, false) ∷ (pos 1000087, 90, false) ∷ (pos 1000115, 118, false) ∷ (pos 1000098, 101, false) ∷ (pos 1000072, 75, false) ∷ (pos 1000058, 61, false) ∷ (pos 1000022, 25, false) ∷ (pos 1000096, 99, false) ∷ (pos 1000102, 105, false) ∷ (pos 1000051, 54, false) ∷ (pos 103, 13, false) ∷ (pos 93, 3, false) ∷ (pos 114, 24, false) ∷ (pos 203, 113, false) ∷ (pos 108, 18, false) ∷ (pos 136, 46, false) ∷ (pos 132, 42, false) ∷ (pos 189, 99, false) ∷ (pos 1000073, 76, false) ∷ (pos 1000085, 88, false) ∷ (pos 1000006, 9, false) ∷ (pos 1000065, 68, false) ∷ (pos 1000011, 14, false) ∷ (pos 1000101, 104, false) ∷ (pos 1000034, 37, false) ∷ (pos 1000075, 78, false) ∷ []
tensions_at_120 = refl

tensions_at_255 : told 255 (pos 999997) (pos 1000000) 36 195 ∷ told 255 (pos 999997) (pos 1000000) 143 33 ∷ told 255 (pos 999997) (pos 1000000) 210 19 ∷ told 255 (pos 999997) (pos 1000000) 147 79 ∷ told 255 (pos 999997) (pos 1000000) 205 110 ∷ told 255 (pos 999997) (pos 1000000) 152 207 ∷ told 255 (pos 999997) (pos 1000000) 237 197 ∷ told 255 (pos 999997) (pos 1000000) 62 198 ∷ told 255 (pos 55) (pos 55) 189 159 ∷ told 255 (pos 55) (pos 55) 16 153 ∷ told 255 (pos 55) (pos 55) 130 0 ∷ told 255 (pos 55) (pos 55) 79 61 ∷ told 255 (pos 55) (pos 55) 81 164 ∷ told 255 (pos 55) (pos 55) 243 215 ∷ told 255 (pos 55) (pos 55) 159 83 ∷ told 255 (pos 55) (pos 55) 1 25 ∷ told 255 (negsuc 185) (pos 69) 229 166 ∷ told 255 (negsuc 185) (pos 69) 16 124 ∷ told 255 (negsuc 185) (pos 69) 19 64 ∷ told 255 (negsuc 185) (pos 69) 156 49 ∷ told 255 (negsuc 185) (pos 69) 69 21 ∷ told 255 (negsuc 185) (pos 69) 92 189 ∷ told 255 (negsuc 185) (pos 69) 68 95 ∷ told 255 (negsuc 185) (pos 69) 154 157 ∷ told 255 (negsuc 999999) (negsuc 999234) 215 88 ∷ told 255 (negsuc 999999) (negsuc 999234) 40 144 ∷ told 255 (negsuc 999999) (negsuc 999234) 64 2 ∷ told 255 (negsuc 999999) (negsuc 999234) 0 33 ∷ told 255 (negsuc 999999) (negsuc 999234) 91 219 ∷ told 255 (negsuc 999999) (negsuc 999234) 9 158 ∷ told 255 (negsuc 999999) (negsuc 999234) 54 211 ∷ told 255 (negsuc 999999) (negsuc 999234) 10 200 ∷ told 255 (pos 127) (pos 168) 137 145 ∷ told 255 (pos 127) (pos 168) 233 68 ∷ told 255 (pos 127) (pos 168) 2 46 ∷ told 255 (pos 127) (pos 168) 37 195 ∷ told 255 (pos 127) (pos 168) 69 203 ∷ told 255 (pos 127) (pos 168) 97 134 ∷ told 255 (pos 127) (pos 168) 222 188 ∷ told 255 (pos 127) (pos 168) 184 132 ∷ told 255 (pos 36) (pos 37) 116 61 ∷ told 255 (pos 36) (pos 37) 167 145 ∷ told 255 (pos 36) (pos 37) 213 70 ∷ told 255 (pos 36) (pos 37) 83 41 ∷ told 255 (pos 36) (pos 37) 111 184 ∷ told 255 (pos 36) (pos 37) 144 41 ∷ told 255 (pos 36) (pos 37) 216 203 ∷ told 255 (pos 36) (pos 37) 148 243 ∷ told 255 (pos 124) (pos 125) 44 51 ∷ told 255 (pos 124) (pos 125) 113 148 ∷ told 255 (pos 124) (pos 125) 187 170 ∷ told 255 (pos 124) (pos 125) 206 79 ∷ told 255 (pos 124) (pos 125) 76 215 ∷ told 255 (pos 124) (pos 125) 86 132 ∷ told 255 (pos 124) (pos 125) 85 252 ∷ told 255 (pos 124) (pos 125) 216 43 ∷ told 255 (negsuc 999999) (negsuc 999234) 250 121 ∷ told 255 (negsuc 999999) (negsuc 999234) 246 159 ∷ told 255 (negsuc 999999) (negsuc 999234) 88 25 ∷ told 255 (negsuc 999999) (negsuc 999234) 165 75 ∷ told 255 (negsuc 999999) (negsuc 999234) 4 248 ∷ told 255 (negsuc 999999) (negsuc 999234) 241 160 ∷ told 255 (negsuc 999999) (negsuc 999234) 218 118 ∷ told 255 (negsuc 999999) (negsuc 999234) 248 152 ∷ told 255 (pos 231) (pos 233) 29 198 ∷ told 255 (pos 231) (pos 233) 238 212 ∷ told 255 (pos 231) (pos 233) 55 157 ∷ told 255 (pos 231) (pos 233) 129 197 ∷ told 255 (pos 231) (pos 233) 175 139 ∷ told 255 (pos 231) (pos 233) 130 56 ∷ told 255 (pos 231) (pos 233) 5 100 ∷ told 255 (pos 231) (pos 233) 1 242 ∷ told 255 (pos 999997) (pos 1000000) 219 190 ∷ told 255 (pos 999997) (pos 1000000) 33 141 ∷ told 255 (pos 999997) (pos 1000000) 120 17 ∷ told 255 (pos 999997) (pos 1000000) 201 48 ∷ told 255 (pos 999997) (pos 1000000) 72 87 ∷ told 255 (pos 999997) (pos 1000000) 69 127 ∷ told 255 (pos 999997) (pos 1000000) 231 132 ∷ told 255 (pos 999997) (pos 1000000) 98 32 ∷ [] ≡ (pos 1000014, 17, false) ∷ (pos 1000000, 3, true) ∷ (pos 1000174, 177, false) ∷ (pos 1000042, 45, false) ∷ (pos 1000015, 18, false) ∷ (pos 1000165, 168, false) ∷ (pos 1000070, 73, false) ∷ (pos 1000246, 249, false) ∷ (pos 225, 170, false) ∷ (pos 137, 82, false) ∷ (pos 125, 70, false) ∷ (pos 237, 182, false) ∷ (pos 83, 28, false) ∷ (pos 227, 172, false) ∷ (pos 179, 124, false) ∷ (pos 279, 224, false) ∷ (negsuc 62, 123, true) ∷ (negsuc 146, 39, true) ∷ (pos 45, 231, true) ∷ (negsuc 106, 79, true) ∷ (negsuc 47, 138, true) ∷ (negsuc 157, 28, true) ∷ (pos 27, 213, true) ∷ (pos 3, 189, true) ∷ (negsuc 999981, 18, true) ∷ (negsuc 999750, 249, true) ∷ (negsuc 999916, 83, true) ∷ (negsuc 999821, 178, true) ∷ (negsuc 999981, 18, true) ∷ (negsuc 999960, 39, true) ∷ (negsuc 999952, 47, true) ∷ (negsuc 999919, 80, true) ∷ (pos 263, 136, false) ∷ (pos 345, 218, false) ∷ (pos 299, 172, false) ∷ (pos 158, 31, true) ∷ (pos 134, 7, true) ∷ (pos 292, 165, false) ∷ (pos 221, 94, false) ∷ (pos 203, 76, false) ∷ (pos 200, 164, false) ∷ (pos 233, 197, false) ∷ (pos 112, 76, false) ∷ (pos 213, 177, false) ∷ (pos 73, 37, false) ∷ (pos 152, 116, false) ∷ (pos 242, 206, false) ∷ (pos 95, 59, false) ∷ (pos 262, 138, false) ∷ (pos 290, 166, false) ∷ (pos 238, 114, false) ∷ (pos 128, 4, false) ∷ (pos 139, 15, false) ∷ (pos 301, 177, false) ∷ (pos 167, 43, false) ∷ (pos 337, 213, false) ∷ (negsuc 999983, 16, true) ∷ (negsuc 999941, 58, true) ∷ (negsuc 999917, 82, true) ∷ (negsuc 999944, 55, true) ∷ (negsuc 999865, 134, true) ∷ (negsuc 999935, 64, true) ∷ (negsuc 999954, 45, true) ∷ (negsuc 999950, 49, true) ∷ (pos 424, 193, false) ∷ (pos 484, 253, false) ∷ (pos 357, 126, false) ∷ (pos 323, 92, false) ∷ (pos 474, 243, false) ∷ (pos 436, 205, false) ∷ (pos 350, 119, false) ∷ (pos 241, 10, false) ∷ (pos 1000081, 84, false) ∷ (pos 1000218, 221, false) ∷ (pos 1000007, 10, false) ∷ (pos 1000212, 215, false) ∷ (pos 1000125, 128, false) ∷ (pos 1000168, 171, false) ∷ (pos 1000011, 14, false) ∷ (pos 1000044, 47, false) ∷ []
tensions_at_255 = refl

tensions_at_256 : told 256 (pos 312) (pos 568) 35 14 ∷ told 256 (pos 312) (pos 568) 25 248 ∷ told 256 (pos 312) (pos 568) 38 127 ∷ told 256 (pos 312) (pos 568) 77 116 ∷ told 256 (pos 312) (pos 568) 7 173 ∷ told 256 (pos 312) (pos 568) 183 71 ∷ told 256 (pos 312) (pos 568) 230 18 ∷ told 256 (pos 312) (pos 568) 122 0 ∷ told 256 (negsuc 999999) (negsuc 999231) 34 185 ∷ told 256 (negsuc 999999) (negsuc 999231) 8 45 ∷ told 256 (negsuc 999999) (negsuc 999231) 40 140 ∷ told 256 (negsuc 999999) (negsuc 999231) 232 140 ∷ told 256 (negsuc 999999) (negsuc 999231) 153 190 ∷ told 256 (negsuc 999999) (negsuc 999231) 93 80 ∷ told 256 (negsuc 999999) (negsuc 999231) 159 182 ∷ told 256 (negsuc 999999) (negsuc 999231) 22 230 ∷ told 256 (pos 129) (pos 384) 4 150 ∷ told 256 (pos 129) (pos 384) 244 176 ∷ told 256 (pos 129) (pos 384) 114 42 ∷ told 256 (pos 129) (pos 384) 52 206 ∷ told 256 (pos 129) (pos 384) 176 116 ∷ told 256 (pos 129) (pos 384) 124 78 ∷ told 256 (pos 129) (pos 384) 27 165 ∷ told 256 (pos 129) (pos 384) 154 165 ∷ told 256 (pos 68) (pos 836) 185 98 ∷ told 256 (pos 68) (pos 836) 99 227 ∷ told 256 (pos 68) (pos 836) 72 125 ∷ told 256 (pos 68) (pos 836) 142 11 ∷ told 256 (pos 68) (pos 836) 136 80 ∷ told 256 (pos 68) (pos 836) 12 123 ∷ told 256 (pos 68) (pos 836) 203 197 ∷ told 256 (pos 68) (pos 836) 195 225 ∷ told 256 (pos 480) (pos 481) 134 204 ∷ told 256 (pos 480) (pos 481) 235 226 ∷ told 256 (pos 480) (pos 481) 88 19 ∷ told 256 (pos 480) (pos 481) 134 51 ∷ told 256 (pos 480) (pos 481) 26 63 ∷ told 256 (pos 480) (pos 481) 185 123 ∷ told 256 (pos 480) (pos 481) 47 216 ∷ told 256 (pos 480) (pos 481) 17 155 ∷ told 256 (pos 207) (pos 463) 244 222 ∷ told 256 (pos 207) (pos 463) 90 130 ∷ told 256 (pos 207) (pos 463) 242 44 ∷ told 256 (pos 207) (pos 463) 147 84 ∷ told 256 (pos 207) (pos 463) 198 63 ∷ told 256 (pos 207) (pos 463) 60 18 ∷ told 256 (pos 207) (pos 463) 170 64 ∷ told 256 (pos 207) (pos 463) 186 95 ∷ told 256 (pos 999997) (pos 1000000) 158 169 ∷ told 256 (pos 999997) (pos 1000000) 118 203 ∷ told 256 (pos 999997) (pos 1000000) 157 25 ∷ told 256 (pos 999997) (pos 1000000) 247 45 ∷ told 256 (pos 999997) (pos 1000000) 190 123 ∷ told 256 (pos 999997) (pos 1000000) 153 180 ∷ told 256 (pos 999997) (pos 1000000) 165 24 ∷ told 256 (pos 999997) (pos 1000000) 119 225 ∷ told 256 (pos 999997) (pos 999998) 96 137 ∷ told 256 (pos 999997) (pos 999998) 172 214 ∷ told 256 (pos 999997) (pos 999998) 31 252 ∷ told 256 (pos 999997) (pos 999998) 210 68 ∷ told 256 (pos 999997) (pos 999998) 166 165 ∷ told 256 (pos 999997) (pos 999998) 207 40 ∷ told 256 (pos 999997) (pos 999998) 86 232 ∷ told 256 (pos 999997) (pos 999998) 73 153 ∷ told 256 (pos 467) (pos 467) 11 32 ∷ told 256 (pos 467) (pos 467) 158 88 ∷ told 256 (pos 467) (pos 467) 247 37 ∷ told 256 (pos 467) (pos 467) 156 250 ∷ told 256 (pos 467) (pos 467) 4 187 ∷ told 256 (pos 467) (pos 467) 84 47 ∷ told 256 (pos 467) (pos 467) 218 81 ∷ told 256 (pos 467) (pos 467) 111 255 ∷ told 256 (negsuc 999999) (negsuc 999998) 140 8 ∷ told 256 (negsuc 999999) (negsuc 999998) 68 105 ∷ told 256 (negsuc 999999) (negsuc 999998) 214 191 ∷ told 256 (negsuc 999999) (negsuc 999998) 40 208 ∷ told 256 (negsuc 999999) (negsuc 999998) 220 165 ∷ told 256 (negsuc 999999) (negsuc 999998) 117 192 ∷ told 256 (negsuc 999999) (negsuc 999998) 135 173 ∷ told 256 (negsuc 999999) (negsuc 999998) 49 161 ∷ [] ≡ (pos 491, 179, true) ∷ (pos 479, 167, true) ∷ (pos 345, 33, true) ∷ (pos 551, 239, true) ∷ (pos 422, 110, true) ∷ (pos 400, 88, true) ∷ (pos 556, 244, true) ∷ (pos 390, 78, true) ∷ (negsuc 999784, 215, true) ∷ (negsuc 999898, 101, true) ∷ (negsuc 999835, 164, true) ∷ (negsuc 999771, 228, true) ∷ (negsuc 999898, 101, true) ∷ (negsuc 999948, 51, true) ∷ (negsuc 999912, 87, true) ∷ (negsuc 999983, 16, true) ∷ (pos 146, 17, true) ∷ (pos 188, 59, true) ∷ (pos 184, 55, true) ∷ (pos 154, 25, true) ∷ (pos 196, 67, true) ∷ (pos 210, 81, true) ∷ (pos 138, 9, true) ∷ (pos 267, 138, true) ∷ (pos 169, 101, true) ∷ (pos 128, 60, true) ∷ (pos 309, 241, true) ∷ (pos 125, 57, true) ∷ (pos 200, 132, true) ∷ (pos 111, 43, true) ∷ (pos 250, 182, true) ∷ (pos 286, 218, true) ∷ (pos 582, 102, false) ∷ (pos 503, 23, false) ∷ (pos 699, 219, false) ∷ (pos 685, 205, false) ∷ (pos 549, 69, false) ∷ (pos 706, 226, false) ∷ (pos 681, 201, false) ∷ (pos 650, 170, false) ∷ (pos 234, 27, true) ∷ (pos 296, 89, true) ∷ (pos 314, 107, true) ∷ (pos 449, 242, true) ∷ (pos 377, 170, true) ∷ (pos 214, 7, true) ∷ (pos 406, 199, true) ∷ (pos 421, 214, true) ∷ (pos 1000203, 206, false) ∷ (pos 1000021, 24, false) ∷ (pos 1000060, 63, false) ∷ (pos 1000246, 249, false) ∷ (pos 1000125, 128, false) ∷ (pos 1000219, 222, false) ∷ (pos 1000051, 54, false) ∷ (pos 1000042, 45, false) ∷ (pos 1000233, 236, false) ∷ (pos 1000234, 237, false) ∷ (pos 1000157, 160, false) ∷ (pos 1000050, 53, false) ∷ (pos 1000191, 194, false) ∷ (pos 1000025, 28, false) ∷ (pos 1000082, 85, false) ∷ (pos 1000016, 19, false) ∷ (pos 533, 66, false) ∷ (pos 698, 231, false) ∷ (pos 558, 91, false) ∷ (pos 606, 139, false) ∷ (pos 695, 228, false) ∷ (pos 475, 8, false) ∷ (pos 631, 164, false) ∷ (pos 656, 189, false) ∷ (negsuc 999811, 188, false) ∷ (negsuc 999898, 101, false) ∷ (negsuc 999958, 41, false) ∷ (negsuc 999767, 232, false) ∷ (negsuc 999990, 9, false) ∷ (negsuc 999860, 139, false) ∷ (negsuc 999897, 102, false) ∷ (negsuc 999823, 176, false) ∷ []
tensions_at_256 = refl

tensions_at_257 : told 257 (pos 261) (pos 1032) 146 183 ∷ told 257 (pos 261) (pos 1032) 11 16 ∷ told 257 (pos 261) (pos 1032) 218 240 ∷ told 257 (pos 261) (pos 1032) 50 147 ∷ told 257 (pos 261) (pos 1032) 65 115 ∷ told 257 (pos 261) (pos 1032) 164 10 ∷ told 257 (pos 261) (pos 1032) 57 173 ∷ told 257 (pos 261) (pos 1032) 150 70 ∷ told 257 (pos 130) (pos 131) 10 81 ∷ told 257 (pos 130) (pos 131) 187 16 ∷ told 257 (pos 130) (pos 131) 55 25 ∷ told 257 (pos 130) (pos 131) 176 140 ∷ told 257 (pos 130) (pos 131) 139 80 ∷ told 257 (pos 130) (pos 131) 60 161 ∷ told 257 (pos 130) (pos 131) 31 172 ∷ told 257 (pos 130) (pos 131) 105 155 ∷ told 257 (pos 473) (pos 477) 131 73 ∷ told 257 (pos 473) (pos 477) 116 54 ∷ told 257 (pos 473) (pos 477) 167 13 ∷ told 257 (pos 473) (pos 477) 177 83 ∷ told 257 (pos 473) (pos 477) 196 156 ∷ told 257 (pos 473) (pos 477) 84 219 ∷ told 257 (pos 473) (pos 477) 206 36 ∷ told 257 (pos 473) (pos 477) 255 240 ∷ told 257 (pos 13) (pos 13) 61 0 ∷ told 257 (pos 13) (pos 13) 53 181 ∷ told 257 (pos 13) (pos 13) 229 237 ∷ told 257 (pos 13) (pos 13) 226 80 ∷ told 257 (pos 13) (pos 13) 62 210 ∷ told 257 (pos 13) (pos 13) 47 24 ∷ told 257 (pos 13) (pos 13) 179 219 ∷ told 257 (pos 13) (pos 13) 185 208 ∷ told 257 (negsuc 466) (negsuc 464) 12 180 ∷ told 257 (negsuc 466) (negsuc 464) 230 121 ∷ told 257 (negsuc 466) (negsuc 464) 197 39 ∷ told 257 (negsuc 466) (negsuc 464) 235 69 ∷ told 257 (negsuc 466) (negsuc 464) 44 77 ∷ told 257 (negsuc 466) (negsuc 464) 212 195 ∷ told 257 (negsuc 466) (negsuc 464) 197 151 ∷ told 257 (negsuc 466) (negsuc 464) 102 255 ∷ told 257 (pos 999997) (pos 999999) 142 4 ∷ told 257 (pos 999997) (pos 999999) 40 199 ∷ told 257 (pos 999997) (pos 999999) 189 76 ∷ told 257 (pos 999997) (pos 999999) 21 20 ∷ told 257 (pos 999997) (pos 999999) 62 122 ∷ told 257 (pos 999997) (pos 999999) 3 150 ∷ told 257 (pos 999997) (pos 999999) 22 52 ∷ told 257 (pos 999997) (pos 999999) 46 74 ∷ told 257 (pos 183) (pos 954) 222 251 ∷ told 257 (pos 183) (pos 954) 167 117 ∷ told 257 (pos 183) (pos 954) 57 118 ∷ told 257 (pos 183) (pos 954) 71 125 ∷ told 257 (pos 183) (pos 954) 206 198 ∷ told 257 (pos 183) (pos 954) 60 147 ∷ told 257 (pos 183) (pos 954) 97 206 ∷ told 257 (pos 183) (pos 954) 232 35 ∷ told 257 (pos 112) (pos 113) 58 235 ∷ told 257 (pos 112) (pos 113) 59 190 ∷ told 257 (pos 112) (pos 113) 236 36 ∷ told 257 (pos 112) (pos 113) 20 232 ∷ told 257 (pos 112) (pos 113) 31 198 ∷ told 257 (pos 112) (pos 113) 92 22 ∷ told 257 (pos 112) (pos 113) 233 32 ∷ told 257 (pos 112) (pos 113) 12 148 ∷ told 257 (negsuc 459) (negsuc 457) 63 255 ∷ told 257 (negsuc 459) (negsuc 457) 86 49 ∷ told 257 (negsuc 459) (negsuc 457) 108 108 ∷ told 257 (negsuc 459) (negsuc 457) 66 35 ∷ told 257 (negsuc 459) (negsuc 457) 73 179 ∷ told 257 (negsuc 459) (negsuc 457) 38 125 ∷ told 257 (negsuc 459) (negsuc 457) 232 233 ∷ told 257 (negsuc 459) (negsuc 457) 228 151 ∷ told 257 (pos 999997) (pos 1000000) 215 201 ∷ told 257 (pos 999997) (pos 1000000) 123 189 ∷ told 257 (pos 999997) (pos 1000000) 210 230 ∷ told 257 (pos 999997) (pos 1000000) 48 203 ∷ told 257 (pos 999997) (pos 1000000) 247 55 ∷ told 257 (pos 999997) (pos 1000000) 106 132 ∷ told 257 (pos 999997) (pos 1000000) 189 4 ∷ told 257 (pos 999997) (pos 1000000) 97 5 ∷ [] ≡ (pos 294, 33, true) ∷ (pos 262, 1, true) ∷ (pos 279, 18, true) ∷ (pos 354, 93, true) ∷ (pos 307, 46, true) ∷ (pos 360, 99, true) ∷ (pos 373, 112, true) ∷ (pos 434, 173, true) ∷ (pos 328, 198, false) ∷ (pos 343, 213, false) ∷ (pos 227, 97, false) ∷ (pos 221, 91, false) ∷ (pos 198, 68, false) ∷ (pos 358, 228, false) ∷ (pos 141, 11, false) ∷ (pos 307, 177, false) ∷ (pos 713, 240, false) ∷ (pos 709, 236, false) ∷ (pos 617, 144, false) ∷ (pos 677, 204, false) ∷ (pos 474, 1, true) ∷ (pos 649, 176, false) ∷ (pos 601, 128, false) ∷ (pos 499, 26, false) ∷ (pos 196, 183, false) ∷ (pos 128, 115, false) ∷ (pos 265, 252, false) ∷ (pos 111, 98, false) ∷ (pos 148, 135, false) ∷ (pos 234, 221, false) ∷ (pos 40, 27, false) ∷ (pos 23, 10, false) ∷ (negsuc 345, 121, false) ∷ (negsuc 365, 101, false) ∷ (negsuc 414, 52, false) ∷ (negsuc 422, 44, false) ∷ (negsuc 223, 243, false) ∷ (negsuc 273, 193, false) ∷ (negsuc 302, 164, false) ∷ (negsuc 360, 106, false) ∷ (pos 1000106, 109, false) ∷ (pos 1000146, 149, false) ∷ (pos 1000131, 134, false) ∷ (pos 1000243, 246, false) ∷ (pos 1000047, 50, false) ∷ (pos 1000134, 137, false) ∷ (pos 1000017, 20, false) ∷ (pos 1000015, 18, false) ∷ (pos 286, 103, true) ∷ (pos 207, 24, true) ∷ (pos 318, 135, true) ∷ (pos 311, 128, true) ∷ (pos 249, 66, true) ∷ (pos 344, 161, true) ∷ (pos 366, 183, true) ∷ (pos 317, 134, true) ∷ (pos 177, 65, false) ∷ (pos 131, 19, false) ∷ (pos 314, 202, false) ∷ (pos 212, 100, false) ∷ (pos 167, 55, false) ∷ (pos 187, 75, false) ∷ (pos 313, 201, false) ∷ (pos 136, 24, false) ∷ (negsuc 321, 138, false) ∷ (negsuc 293, 166, false) ∷ (negsuc 256, 203, false) ∷ (negsuc 287, 172, false) ∷ (negsuc 407, 52, false) ∷ (negsuc 426, 33, false) ∷ (negsuc 255, 204, false) ∷ (negsuc 333, 126, false) ∷ (pos 1000230, 233, false) ∷ (pos 1000053, 56, false) ∷ (pos 1000007, 10, false) ∷ (pos 1000142, 145, false) ∷ (pos 1000052, 55, false) ∷ (pos 1000013, 16, false) ∷ (pos 1000059, 62, false) ∷ (pos 1000152, 155, false) ∷ []
tensions_at_257 = refl

tensions_at_1439 : told 1439 (negsuc 999999) (negsuc 998561) 676 139 ∷ told 1439 (negsuc 999999) (negsuc 998561) 710 881 ∷ told 1439 (negsuc 999999) (negsuc 998561) 132 935 ∷ told 1439 (negsuc 999999) (negsuc 998561) 855 285 ∷ told 1439 (negsuc 999999) (negsuc 998561) 165 204 ∷ told 1439 (negsuc 999999) (negsuc 998561) 240 1208 ∷ told 1439 (negsuc 999999) (negsuc 998561) 514 193 ∷ told 1439 (negsuc 999999) (negsuc 998561) 181 797 ∷ told 1439 (pos 999997) (pos 999999) 939 983 ∷ told 1439 (pos 999997) (pos 999999) 517 370 ∷ told 1439 (pos 999997) (pos 999999) 597 792 ∷ told 1439 (pos 999997) (pos 999999) 213 1361 ∷ told 1439 (pos 999997) (pos 999999) 781 169 ∷ told 1439 (pos 999997) (pos 999999) 1232 1207 ∷ told 1439 (pos 999997) (pos 999999) 151 185 ∷ told 1439 (pos 999997) (pos 999999) 255 675 ∷ told 1439 (pos 2316) (pos 2316) 952 888 ∷ told 1439 (pos 2316) (pos 2316) 437 822 ∷ told 1439 (pos 2316) (pos 2316) 1256 1310 ∷ told 1439 (pos 2316) (pos 2316) 967 1284 ∷ told 1439 (pos 2316) (pos 2316) 718 458 ∷ told 1439 (pos 2316) (pos 2316) 521 1438 ∷ told 1439 (pos 2316) (pos 2316) 879 1376 ∷ told 1439 (pos 2316) (pos 2316) 827 1075 ∷ told 1439 (pos 999997) (pos 1000000) 598 843 ∷ told 1439 (pos 999997) (pos 1000000) 259 874 ∷ told 1439 (pos 999997) (pos 1000000) 427 1089 ∷ told 1439 (pos 999997) (pos 1000000) 1310 757 ∷ told 1439 (pos 999997) (pos 1000000) 237 625 ∷ told 1439 (pos 999997) (pos 1000000) 444 917 ∷ told 1439 (pos 999997) (pos 1000000) 113 753 ∷ told 1439 (pos 999997) (pos 1000000) 1425 1276 ∷ told 1439 (pos 1186) (pos 2624) 1163 1163 ∷ told 1439 (pos 1186) (pos 2624) 1357 1411 ∷ told 1439 (pos 1186) (pos 2624) 156 341 ∷ told 1439 (pos 1186) (pos 2624) 1077 321 ∷ told 1439 (pos 1186) (pos 2624) 210 799 ∷ told 1439 (pos 1186) (pos 2624) 491 481 ∷ told 1439 (pos 1186) (pos 2624) 1209 1412 ∷ told 1439 (pos 1186) (pos 2624) 423 980 ∷ told 1439 (negsuc 2026) (negsuc 756) 319 1427 ∷ told 1439 (negsuc 2026) (negsuc 756) 324 1326 ∷ told 1439 (negsuc 2026) (negsuc 756) 1077 1300 ∷ told 1439 (negsuc 2026) (negsuc 756) 995 346 ∷ told 1439 (negsuc 2026) (negsuc 756) 787 1089 ∷ told 1439 (negsuc 2026) (negsuc 756) 471 233 ∷ told 1439 (negsuc 2026) (negsuc 756) 889 1109 ∷ told 1439 (negsuc 2026) (negsuc 756) 1166 255 ∷ told 1439 (negsuc 1547) (negsuc 1545) 65 873 ∷ told 1439 (negsuc 1547) (negsuc 1545) 458 1204 ∷ told 1439 (negsuc 1547) (negsuc 1545) 813 1171 ∷ told 1439 (negsuc 1547) (negsuc 1545) 761 649 ∷ told 1439 (negsuc 1547) (negsuc 1545) 1312 988 ∷ told 1439 (negsuc 1547) (negsuc 1545) 511 1103 ∷ told 1439 (negsuc 1547) (negsuc 1545) 682 1 ∷ told 1439 (negsuc 1547) (negsuc 1545) 476 754 ∷ told 1439 (negsuc 2237) (negsuc 799) 912 488 ∷ told 1439 (negsuc 2237) (negsuc 799) 254 858 ∷ told 1439 (negsuc 2237) (negsuc 799) 1098 307 ∷ told 1439 (negsuc 2237) (negsuc 799) 1146 1387 ∷ told 1439 (negsuc 2237) (negsuc 799) 222 237 ∷ told 1439 (negsuc 2237) (negsuc 799) 1160 1 ∷ told 1439 (negsuc 2237) (negsuc 799) 815 293 ∷ told 1439 (negsuc 2237) (negsuc 799) 862 896 ∷ told 1439 (negsuc 999999) (negsuc 998561) 374 1154 ∷ told 1439 (negsuc 999999) (negsuc 998561) 437 702 ∷ told 1439 (negsuc 999999) (negsuc 998561) 9 1177 ∷ told 1439 (negsuc 999999) (negsuc 998561) 458 356 ∷ told 1439 (negsuc 999999) (negsuc 998561) 859 1222 ∷ told 1439 (negsuc 999999) (negsuc 998561) 1390 1032 ∷ told 1439 (negsuc 999999) (negsuc 998561) 259 434 ∷ told 1439 (negsuc 999999) (negsuc 998561) 921 1434 ∷ told 1439 (negsuc 2747) (negsuc 2745) 1214 855 ∷ told 1439 (negsuc 2747) (negsuc 2745) 1293 848 ∷ told 1439 (negsuc 2747) (negsuc 2745) 36 601 ∷ told 1439 (negsuc 2747) (negsuc 2745) 787 1428 ∷ told 1439 (negsuc 2747) (negsuc 2745) 1119 1254 ∷ told 1439 (negsuc 2747) (negsuc 2745) 495 1363 ∷ told 1439 (negsuc 2747) (negsuc 2745) 1306 131 ∷ told 1439 (negsuc 2747) (negsuc 2745) 655 981 ∷ [] ≡ (negsuc 999202, 797, true) ∷ (negsuc 999933, 66, true) ∷ (negsuc 999301, 698, true) ∷ (negsuc 999235, 764, true) ∷ (negsuc 998626, 1373, true) ∷ (negsuc 999136, 863, true) ∷ (negsuc 998986, 1013, true) ∷ (negsuc 999488, 511, true) ∷ (pos 1000149, 152, false) ∷ (pos 1001397, 1400, false) ∷ (pos 1000300, 303, false) ∷ (pos 1001253, 1256, false) ∷ (pos 1000932, 935, false) ∷ (pos 1000080, 83, false) ∷ (pos 1000139, 142, false) ∷ (pos 1000525, 528, false) ∷ (pos 2814, 498, false) ∷ (pos 3263, 947, false) ∷ (pos 2932, 616, false) ∷ (pos 3195, 879, false) ∷ (pos 2618, 302, false) ∷ (pos 2356, 40, false) ∷ (pos 3375, 1059, false) ∷ (pos 3126, 810, false) ∷ (pos 1000350, 353, false) ∷ (pos 1000720, 723, false) ∷ (pos 1000767, 770, false) ∷ (pos 1000991, 994, false) ∷ (pos 1000493, 496, false) ∷ (pos 1000578, 581, false) ∷ (pos 1000745, 748, false) ∷ (pos 1001395, 1398, false) ∷ (pos 1439, 253, true) ∷ (pos 1493, 307, true) ∷ (pos 1624, 438, true) ∷ (pos 2122, 936, true) ∷ (pos 2028, 842, true) ∷ (pos 1429, 243, true) ∷ (pos 1642, 456, true) ∷ (pos 1996, 810, true) ∷ (negsuc 1769, 257, true) ∷ (negsuc 1875, 151, true) ∷ (negsuc 1215, 811, true) ∷ (negsuc 648, 1378, false) ∷ (negsuc 1136, 890, true) ∷ (negsuc 1676, 350, true) ∷ (negsuc 1218, 808, true) ∷ (negsuc 910, 1116, true) ∷ (negsuc 630, 917, false) ∷ (negsuc 692, 855, false) ∷ (negsuc 1080, 467, false) ∷ (negsuc 111, 1436, false) ∷ (negsuc 323, 1224, false) ∷ (negsuc 846, 701, false) ∷ (negsuc 680, 867, false) ∷ (negsuc 1160, 387, false) ∷ (negsuc 1862, 375, true) ∷ (negsuc 834, 1403, true) ∷ (negsuc 2229, 8, true) ∷ (negsuc 1197, 1040, true) ∷ (negsuc 1423, 814, true) ∷ (negsuc 1158, 1079, true) ∷ (negsuc 1960, 277, true) ∷ (negsuc 1404, 833, true) ∷ (negsuc 999324, 675, true) ∷ (negsuc 999839, 160, true) ∷ (negsuc 998936, 1063, true) ∷ (negsuc 998767, 1232, true) ∷ (negsuc 999741, 258, true) ∷ (negsuc 999023, 976, true) ∷ (negsuc 999929, 70, true) ∷ (negsuc 999591, 408, true) ∷ (negsuc 1797, 950, false) ∷ (negsuc 1883, 864, false) ∷ (negsuc 2312, 435, false) ∷ (negsuc 2236, 511, false) ∷ (negsuc 2742, 5, false) ∷ (negsuc 2009, 738, false) ∷ (negsuc 2613, 134, false) ∷ (negsuc 2551, 196, false) ∷ []
tensions_at_1439 = refl

tensions_at_1440 : told 1440 (pos 999997) (pos 1000000) 276 897 ∷ told 1440 (pos 999997) (pos 1000000) 1323 245 ∷ told 1440 (pos 999997) (pos 1000000) 1317 804 ∷ told 1440 (pos 999997) (pos 1000000) 604 1074 ∷ told 1440 (pos 999997) (pos 1000000) 1213 2 ∷ told 1440 (pos 999997) (pos 1000000) 1313 680 ∷ told 1440 (pos 999997) (pos 1000000) 987 1204 ∷ told 1440 (pos 999997) (pos 1000000) 146 234 ∷ told 1440 (pos 1320) (pos 2760) 376 784 ∷ told 1440 (pos 1320) (pos 2760) 590 1239 ∷ told 1440 (pos 1320) (pos 2760) 1284 583 ∷ told 1440 (pos 1320) (pos 2760) 1186 488 ∷ told 1440 (pos 1320) (pos 2760) 1345 492 ∷ told 1440 (pos 1320) (pos 2760) 1413 13 ∷ told 1440 (pos 1320) (pos 2760) 340 1334 ∷ told 1440 (pos 1320) (pos 2760) 568 1124 ∷ told 1440 (pos 1123) (pos 2389) 480 577 ∷ told 1440 (pos 1123) (pos 2389) 676 429 ∷ told 1440 (pos 1123) (pos 2389) 981 1374 ∷ told 1440 (pos 1123) (pos 2389) 1298 139 ∷ told 1440 (pos 1123) (pos 2389) 1278 1066 ∷ told 1440 (pos 1123) (pos 2389) 15 574 ∷ told 1440 (pos 1123) (pos 2389) 57 807 ∷ told 1440 (pos 1123) (pos 2389) 938 246 ∷ told 1440 (pos 1134) (pos 1136) 1021 935 ∷ told 1440 (pos 1134) (pos 1136) 1116 418 ∷ told 1440 (pos 1134) (pos 1136) 496 287 ∷ told 1440 (pos 1134) (pos 1136) 1031 1331 ∷ told 1440 (pos 1134) (pos 1136) 1385 1238 ∷ told 1440 (pos 1134) (pos 1136) 700 811 ∷ told 1440 (pos 1134) (pos 1136) 1328 931 ∷ told 1440 (pos 1134) (pos 1136) 1232 1365 ∷ told 1440 (pos 999997) (pos 1000000) 1179 3 ∷ told 1440 (pos 999997) (pos 1000000) 1195 272 ∷ told 1440 (pos 999997) (pos 1000000) 530 778 ∷ told 1440 (pos 999997) (pos 1000000) 862 81 ∷ told 1440 (pos 999997) (pos 1000000) 1286 888 ∷ told 1440 (pos 999997) (pos 1000000) 716 1207 ∷ told 1440 (pos 999997) (pos 1000000) 614 1181 ∷ told 1440 (pos 999997) (pos 1000000) 1258 743 ∷ told 1440 (negsuc 708) (negsuc 707) 804 1209 ∷ told 1440 (negsuc 708) (negsuc 707) 384 1241 ∷ told 1440 (negsuc 708) (negsuc 707) 414 673 ∷ told 1440 (negsuc 708) (negsuc 707) 943 1024 ∷ told 1440 (negsuc 708) (negsuc 707) 5 1103 ∷ told 1440 (negsuc 708) (negsuc 707) 776 508 ∷ told 1440 (negsuc 708) (negsuc 707) 1129 1122 ∷ told 1440 (negsuc 708) (negsuc 707) 729 1014 ∷ told 1440 (pos 46) (pos 46) 88 852 ∷ told 1440 (pos 46) (pos 46) 1255 856 ∷ told 1440 (pos 46) (pos 46) 1298 922 ∷ told 1440 (pos 46) (pos 46) 140 1300 ∷ told 1440 (pos 46) (pos 46) 1069 844 ∷ told 1440 (pos 46) (pos 46) 396 56 ∷ told 1440 (pos 46) (pos 46) 1434 309 ∷ told 1440 (pos 46) (pos 46) 1067 1417 ∷ told 1440 (negsuc 999999) (negsuc 998560) 1103 87 ∷ told 1440 (negsuc 999999) (negsuc 998560) 1132 577 ∷ told 1440 (negsuc 999999) (negsuc 998560) 944 873 ∷ told 1440 (negsuc 999999) (negsuc 998560) 1238 1050 ∷ told 1440 (negsuc 999999) (negsuc 998560) 653 297 ∷ told 1440 (negsuc 999999) (negsuc 998560) 1037 1418 ∷ told 1440 (negsuc 999999) (negsuc 998560) 809 1396 ∷ told 1440 (negsuc 999999) (negsuc 998560) 288 367 ∷ told 1440 (pos 1179) (pos 2005) 68 559 ∷ told 1440 (pos 1179) (pos 2005) 1368 25 ∷ told 1440 (pos 1179) (pos 2005) 122 550 ∷ told 1440 (pos 1179) (pos 2005) 824 885 ∷ told 1440 (pos 1179) (pos 2005) 969 38 ∷ told 1440 (pos 1179) (pos 2005) 961 1061 ∷ told 1440 (pos 1179) (pos 2005) 1151 851 ∷ told 1440 (pos 1179) (pos 2005) 1036 426 ∷ told 1440 (pos 383) (pos 1823) 206 515 ∷ told 1440 (pos 383) (pos 1823) 884 1047 ∷ told 1440 (pos 383) (pos 1823) 1206 255 ∷ told 1440 (pos 383) (pos 1823) 494 1082 ∷ told 1440 (pos 383) (pos 1823) 1257 598 ∷ told 1440 (pos 383) (pos 1823) 8 282 ∷ told 1440 (pos 383) (pos 1823) 1300 1393 ∷ told 1440 (pos 383) (pos 1823) 434 893 ∷ [] ≡ (pos 1001421, 1424, false) ∷ (pos 1001162, 1165, false) ∷ (pos 1000287, 290, false) ∷ (pos 1001270, 1273, false) ∷ (pos 1001029, 1032, false) ∷ (pos 1000167, 170, false) ∷ (pos 1001017, 1020, false) ∷ (pos 1000888, 891, false) ∷ (pos 1848, 528, true) ∷ (pos 2089, 769, true) ∷ (pos 2179, 859, true) ∷ (pos 2182, 862, true) ∷ (pos 2027, 707, true) ∷ (pos 1480, 160, true) ∷ (pos 2434, 1114, true) ∷ (pos 1996, 676, true) ∷ (pos 1537, 414, true) ∷ (pos 1193, 70, true) ∷ (pos 1833, 710, true) ∷ (pos 1721, 598, true) ∷ (pos 1228, 105, true) ∷ (pos 1999, 876, true) ∷ (pos 2190, 1067, true) ∷ (pos 2188, 1065, true) ∷ (pos 1354, 220, false) ∷ (pos 2182, 1048, false) ∷ (pos 1231, 97, false) ∷ (pos 1740, 606, false) ∷ (pos 1293, 159, false) ∷ (pos 1551, 417, false) ∷ (pos 2483, 1349, false) ∷ (pos 1573, 439, false) ∷ (pos 1001064, 1067, false) ∷ (pos 1001317, 1320, false) ∷ (pos 1001048, 1051, false) ∷ (pos 1000019, 22, false) ∷ (pos 1000402, 405, false) ∷ (pos 1001291, 1294, false) ∷ (pos 1001367, 1370, false) ∷ (pos 1000285, 288, false) ∷ (pos 405, 1114, false) ∷ (negsuc 582, 126, false) ∷ (pos 259, 968, false) ∷ (pos 81, 790, false) ∷ (negsuc 341, 367, false) ∷ (negsuc 267, 441, false) ∷ (negsuc 6, 702, false) ∷ (pos 285, 994, false) ∷ (pos 764, 718, false) ∷ (pos 1041, 995, false) ∷ (pos 1064, 1018, false) ∷ (pos 1160, 1114, false) ∷ (pos 1215, 1169, false) ∷ (pos 1100, 1054, false) ∷ (pos 315, 269, false) ∷ (pos 350, 304, false) ∷ (negsuc 998935, 1064, true) ∷ (negsuc 999914, 85, true) ∷ (negsuc 999430, 569, true) ∷ (negsuc 999547, 452, true) ∷ (negsuc 999715, 284, true) ∷ (negsuc 998978, 1021, true) ∷ (negsuc 998772, 1227, true) ∷ (negsuc 999280, 719, true) ∷ (pos 1931, 752, true) ∷ (pos 1537, 358, true) ∷ (pos 1868, 689, true) ∷ (pos 1501, 322, true) ∷ (pos 1949, 770, true) ∷ (pos 1540, 361, true) ∷ (pos 2580, 1401, false) ∷ (pos 2270, 1091, false) ∷ (pos 1749, 1366, true) ∷ (pos 1603, 1220, true) ∷ (pos 489, 106, true) ∷ (pos 588, 205, true) ∷ (pos 781, 398, true) ∷ (pos 1714, 1331, true) ∷ (pos 1533, 1150, true) ∷ (pos 459, 76, true) ∷ []
tensions_at_1440 = refl

windows_at_2 : window 2 0 2 ∷ window 2 0 2 ∷ window 2 0 1 ∷ window 2 0 1 ∷ window 2 1 2 ∷ window 2 1 2 ∷ window 2 1 1 ∷ window 2 1 1 ∷ [] ≡ ((0 ∷ 1 ∷ [], None)) ∷ ((0 ∷ 1 ∷ [], None)) ∷ ((0 ∷ [], Some 0)) ∷ ((0 ∷ [], Some 0)) ∷ ((0 ∷ 1 ∷ [], None)) ∷ ((0 ∷ 1 ∷ [], None)) ∷ ((1 ∷ [], Some 1)) ∷ ((1 ∷ [], Some 1)) ∷ []
windows_at_2 = refl

windows_at_3 : window 3 1 1 ∷ window 3 0 1 ∷ window 3 0 1 ∷ window 3 1 1 ∷ window 3 0 1 ∷ window 3 2 1 ∷ window 3 1 1 ∷ window 3 2 1 ∷ [] ≡ ((1 ∷ [], Some 1)) ∷ ((0 ∷ [], Some 0)) ∷ ((0 ∷ [], Some 0)) ∷ ((1 ∷ [], Some 1)) ∷ ((0 ∷ [], Some 0)) ∷ ((2 ∷ [], Some 2)) ∷ ((1 ∷ [], Some 1)) ∷ ((2 ∷ [], Some 2)) ∷ []
windows_at_3 = refl

windows_at_5 : window 5 2 5 ∷ window 5 1 5 ∷ window 5 1 5 ∷ window 5 3 5 ∷ window 5 3 5 ∷ window 5 0 1 ∷ window 5 1 4 ∷ window 5 2 5 ∷ [] ≡ ((0 ∷ 1 ∷ 2 ∷ 3 ∷ 4 ∷ [], None)) ∷ ((0 ∷ 1 ∷ 2 ∷ 3 ∷ 4 ∷ [], None)) ∷ ((0 ∷ 1 ∷ 2 ∷ 3 ∷ 4 ∷ [], None)) ∷ ((0 ∷ 1 ∷ 2 ∷ 3 ∷ 4 ∷ [], None)) ∷ ((0 ∷ 1 ∷ 2 ∷ 3 ∷ 4 ∷ [], None)) ∷ ((0 ∷ [], Some 0)) ∷ ((1 ∷ 2 ∷ 3 ∷ 4 ∷ [], None)) ∷ ((0 ∷ 1 ∷ 2 ∷ 3 ∷ 4 ∷ [], None)) ∷ []
windows_at_5 = refl

windows_at_10 : window 10 7 10 ∷ window 10 3 1 ∷ window 10 4 10 ∷ window 10 1 10 ∷ window 10 1 10 ∷ window 10 5 1 ∷ window 10 8 4 ∷ window 10 7 10 ∷ [] ≡ ((0 ∷ 1 ∷ 2 ∷ 3 ∷ 4 ∷ 5 ∷ 6 ∷ 7 ∷ 8 ∷ 9 ∷ [], None)) ∷ ((3 ∷ [], Some 3)) ∷ ((0 ∷ 1 ∷ 2 ∷ 3 ∷ 4 ∷ 5 ∷ 6 ∷ 7 ∷ 8 ∷ 9 ∷ [], None)) ∷ ((0 ∷ 1 ∷ 2 ∷ 3 ∷ 4 ∷ 5 ∷ 6 ∷ 7 ∷ 8 ∷ 9 ∷ [], None)) ∷ ((0 ∷ 1 ∷ 2 ∷ 3 ∷ 4 ∷ 5 ∷ 6 ∷ 7 ∷ 8 ∷ 9 ∷ [], None)) ∷ ((5 ∷ [], Some 5)) ∷ ((0 ∷ 1 ∷ 8 ∷ 9 ∷ [], None)) ∷ ((0 ∷ 1 ∷ 2 ∷ 3 ∷ 4 ∷ 5 ∷ 6 ∷ 7 ∷ 8 ∷ 9 ∷ [], None)) ∷ []
windows_at_10 = refl

windows_at_24 : window 24 12 1 ∷ window 24 7 1 ∷ window 24 21 14 ∷ window 24 4 24 ∷ window 24 17 24 ∷ window 24 6 24 ∷ window 24 14 17 ∷ window 24 12 1 ∷ [] ≡ ((12 ∷ [], Some 12)) ∷ ((7 ∷ [], Some 7)) ∷ ((0 ∷ 1 ∷ 2 ∷ 3 ∷ 4 ∷ 5 ∷ 6 ∷ 7 ∷ 8 ∷ 9 ∷ 10 ∷ 21 ∷ 22 ∷ 23 ∷ [], None)) ∷ ((0 ∷ 1 ∷ 2 ∷ 3 ∷ 4 ∷ 5 ∷ 6 ∷ 7 ∷ 8 ∷ 9 ∷ 10 ∷ 11 ∷ 12 ∷ 13 ∷ 14 ∷ 15 ∷ 16 ∷ 17 ∷ 18 ∷ 19 ∷ 20 ∷ 21 ∷ 22 ∷ 23 ∷ [], None)) ∷ ((0 ∷ 1 ∷ 2 ∷ 3 ∷ 4 ∷ 5 ∷ 6 ∷ 7 ∷ 8 ∷ 9 ∷ 10 ∷ 11 ∷ 12 ∷ 13 ∷ 14 ∷ 15 ∷ 16 ∷ 17 ∷ 18 ∷ 19 ∷ 20 ∷ 21 ∷ 22 ∷ 23 ∷ [], None)) ∷ ((0 ∷ 1 ∷ 2 ∷ 3 ∷ 4 ∷ 5 ∷ 6 ∷ 7 ∷ 8 ∷ 9 ∷ 10 ∷ 11 ∷ 12 ∷ 13 ∷ 14 ∷ 15 ∷ 16 ∷ 17 ∷ 18 ∷ 19 ∷ 20 ∷ 21 ∷ 22 ∷ 23 ∷ [], None)) ∷ ((0 ∷ 1 ∷ 2 ∷ 3 ∷ 4 ∷ 5 ∷ 6 ∷ 14 ∷ 15 ∷ 16 ∷ 17 ∷ 18 ∷ 19 ∷ 20 ∷ 21 ∷ 22 ∷ 23 ∷ [], None)) ∷ ((12 ∷ [], Some 12)) ∷ []
windows_at_24 = refl

windows_at_60 : window 60 10 60 ∷ window 60 56 47 ∷ window 60 2 60 ∷ window 60 32 7 ∷ window 60 51 21 ∷ window 60 1 60 ∷ window 60 35 47 ∷ window 60 30 1 ∷ [] ≡ ((0 ∷ 1 ∷ 2 ∷ 3 ∷ 4 ∷ 5 ∷ 6 ∷ 7 ∷ 8 ∷ 9 ∷ 10 ∷ 11 ∷ 12 ∷ 13 ∷ 14 ∷ 15 ∷ 16 ∷ 17 ∷ 18 ∷ 19 ∷ 20 ∷ 21 ∷ 22 ∷ 23 ∷ 24 ∷ 25 ∷ 26 ∷ 27 ∷ 28 ∷ 29 ∷ 30 ∷ 31 ∷ 32 ∷ 33 ∷ 34 ∷ 35 ∷ 36 ∷ 37 ∷ 38 ∷ 39 ∷ 40 ∷ 41 ∷ 42 ∷ 43 ∷ 44 ∷ 45 ∷ 46 ∷ 47 ∷ 48 ∷ 49 ∷ 50 ∷ 51 ∷ 52 ∷ 53 ∷ 54 ∷ 55 ∷ 56 ∷ 57 ∷ 58 ∷ 59 ∷ [], None)) ∷ ((0 ∷ 1 ∷ 2 ∷ 3 ∷ 4 ∷ 5 ∷ 6 ∷ 7 ∷ 8 ∷ 9 ∷ 10 ∷ 11 ∷ 12 ∷ 13 ∷ 14 ∷ 15 ∷ 16 ∷ 17 ∷ 18 ∷ 19 ∷ 20 ∷ 21 ∷ 22 ∷ 23 ∷ 24 ∷ 25 ∷ 26 ∷ 27 ∷ 28 ∷ 29 ∷ 30 ∷ 31 ∷ 32 ∷ 33 ∷ 34 ∷ 35 ∷ 36 ∷ 37 ∷ 38 ∷ 39 ∷ 40 ∷ 41 ∷ 42 ∷ 56 ∷ 57 ∷ 58 ∷ 59 ∷ [], None)) ∷ ((0 ∷ 1 ∷ 2 ∷ 3 ∷ 4 ∷ 5 ∷ 6 ∷ 7 ∷ 8 ∷ 9 ∷ 10 ∷ 11 ∷ 12 ∷ 13 ∷ 14 ∷ 15 ∷ 16 ∷ 17 ∷ 18 ∷ 19 ∷ 20 ∷ 21 ∷ 22 ∷ 23 ∷ 24 ∷ 25 ∷ 26 ∷ 27 ∷ 28 ∷ 29 ∷ 30 ∷ 31 ∷ 32 ∷ 33 ∷ 34 ∷ 35 ∷ 36 ∷ 37 ∷ 38 ∷ 39 ∷ 40 ∷ 41 ∷ 42 ∷ 43 ∷ 44 ∷ 45 ∷ 46 ∷ 47 ∷ 48 ∷ 49 ∷ 50 ∷ 51 ∷ 52 ∷ 53 ∷ 54 ∷ 55 ∷ 56 ∷ 57 ∷ 58 ∷ 59 ∷ [], None)) ∷ ((32 ∷ 33 ∷ 34 ∷ 35 ∷ 36 ∷ 37 ∷ 38 ∷ [], None)) ∷ ((0 ∷ 1 ∷ 2 ∷ 3 ∷ 4 ∷ 5 ∷ 6 ∷ 7 ∷ 8 ∷ 9 ∷ 10 ∷ 11 ∷ 51 ∷ 52 ∷ 53 ∷ 54 ∷ 55 ∷ 56 ∷ 57 ∷ 58 ∷ 59 ∷ [], None)) ∷ ((0 ∷ 1 ∷ 2 ∷ 3 ∷ 4 ∷ 5 ∷ 6 ∷ 7 ∷ 8 ∷ 9 ∷ 10 ∷ 11 ∷ 12 ∷ 13 ∷ 14 ∷ 15 ∷ 16 ∷ 17 ∷ 18 ∷ 19 ∷ 20 ∷ 21 ∷ 22 ∷ 23 ∷ 24 ∷ 25 ∷ 26 ∷ 27 ∷ 28 ∷ 29 ∷ 30 ∷ 31 ∷ 32 ∷ 33 ∷ 34 ∷ 35 ∷ 36 ∷ 37 ∷ 38 ∷ 39 ∷ 40 ∷ 41 ∷ 42 ∷ 43 ∷ 44 ∷ 45 ∷ 46 ∷ 47 ∷ 48 ∷ 49 ∷ 50 ∷ 51 ∷ 52 ∷ 53 ∷ 54 ∷ 55 ∷ 56 ∷ 57 ∷ 58 ∷ 59 ∷ [], None)) ∷ ((0 ∷ 1 ∷ 2 ∷ 3 ∷ 4 ∷ 5 ∷ 6 ∷ 7 ∷ 8 ∷ 9 ∷ 10 ∷ 11 ∷ 12 ∷ 13 ∷ 14 ∷ 15 ∷ 16 ∷ 17 ∷ 18 ∷ 19 ∷ 20 ∷ 21 ∷ 35 ∷ 36 ∷ 37 ∷ 38 ∷ 39 ∷ 40 ∷ 41 ∷ 42 ∷ 43 ∷ 44 ∷ 45 ∷ 46 ∷ 47 ∷ 48 ∷ 49 ∷ 50 ∷ 51 ∷ 52 ∷ 53 ∷ 54 ∷ 55 ∷ 56 ∷ 57 ∷ 58 ∷ 59 ∷ [], None)) ∷ ((30 ∷ [], Some 30)) ∷ []
windows_at_60 = refl

numbers_in_texts : number_in (pos 0) (pos 999999999) (codes "-") ∷ number_in (negsuc 999999999) (pos 1000000000) (codes "-999999999.0") ∷ number_in (negsuc 999999) (pos 1000000) (codes "-905038.0") ∷ number_in (pos 0) (pos 999999999) (codes "+") ∷ number_in (negsuc 999999) (pos 1000000) (codes "+999999 ") ∷ number_in (pos 0) (pos 999999999) (codes "+") ∷ number_in (pos 0) (pos 1000000000) [] ∷ number_in (negsuc 999999999) (pos 1000000000) (codes "+00000000000000000000000000000000000000000000000000") ∷ number_in (pos 0) (pos 999999999) (codes "999999998") ∷ number_in (pos 0) (pos 1000000000) [] ∷ number_in (negsuc 999999999) (pos 1000000000) (codes "-1000000001") ∷ number_in (pos 0) (pos 999999999) (codes "0x") ∷ number_in (pos 0) (pos 1000000000) (codes "-0") ∷ number_in (negsuc 999999) (pos 1000000) (codes "-0") ∷ number_in (pos 0) (pos 1000000000) (codes "-132317851.0") ∷ number_in (pos 0) (pos 999999999) (codes "+1000000000") ∷ number_in (pos 0) (pos 1000000000) (codes "00000000000997648721") ∷ number_in (negsuc 999999999) (pos 1000000000) (codes "-00000000000368505639.0") ∷ number_in (negsuc 999999) (pos 1000000) [] ∷ number_in (pos 0) (pos 999999999) (codes "--1") ∷ number_in (negsuc 999999) (pos 1000000) (codes "-") ∷ number_in (pos 0) (pos 999999999) (codes "0") ∷ number_in (negsuc 999999) (pos 1000000) (codes "-999999") ∷ number_in (negsuc 999999) (pos 1000000) (codes "+") ∷ number_in (negsuc 999999) (pos 1000000) (codes "-1000000") ∷ number_in (pos 0) (pos 1000000000) (codes "-1000000000 ") ∷ number_in (negsuc 999999) (pos 1000000) (codes "-00000000000000999999") ∷ number_in (negsuc 999999999) (pos 1000000000) (codes "00000000001000000000 ") ∷ number_in (negsuc 999999999) (pos 1000000000) (codes "--1000000001") ∷ number_in (pos 0) (pos 999999999) (codes "00000000000014809367") ∷ number_in (negsuc 999999999) (pos 1000000000) (codes "-") ∷ number_in (negsuc 999999999) (pos 1000000000) (codes "+00000000001000000001") ∷ number_in (negsuc 999999999) (pos 1000000000) (codes "-1.0") ∷ number_in (negsuc 999999) (pos 1000000) (codes "+0") ∷ number_in (pos 0) (pos 999999999) (codes "+999999998") ∷ number_in (pos 0) (pos 1000000000) (codes "+173486157") ∷ number_in (pos 0) (pos 1000000000) (codes "0") ∷ number_in (negsuc 999999999) (pos 1000000000) (codes "0") ∷ number_in (pos 0) (pos 1000000000) (codes "1") ∷ number_in (pos 0) (pos 1000000000) (codes "00000000000000000000") ∷ number_in (pos 0) (pos 999999999) (codes "-") ∷ number_in (negsuc 999999999) (pos 1000000000) (codes "0") ∷ number_in (pos 0) (pos 1000000000) (codes "-00000000000000000001") ∷ number_in (pos 0) (pos 1000000000) (codes "-00000000001000000000x") ∷ number_in (pos 0) (pos 999999999) (codes "999999999") ∷ number_in (pos 0) (pos 999999999) (codes "00000000000000000000.0") ∷ number_in (pos 0) (pos 999999999) (codes "-00000000001000000000") ∷ number_in (negsuc 999999999) (pos 1000000000) (codes "-") ∷ number_in (negsuc 999999999) (pos 1000000000) (codes "-564887814") ∷ number_in (negsuc 999999) (pos 1000000) (codes "-1000000") ∷ number_in (pos 0) (pos 1000000000) (codes "+") ∷ number_in (negsuc 999999) (pos 1000000) (codes "0 ") ∷ number_in (negsuc 999999) (pos 1000000) (codes "-") ∷ number_in (pos 0) (pos 1000000000) (codes "-849195215") ∷ number_in (negsuc 999999) (pos 1000000) (codes "+00000000000000999999.0") ∷ number_in (negsuc 999999999) (pos 1000000000) (codes "1000000000") ∷ number_in (negsuc 999999999) (pos 1000000000) (codes "-00000000000395394562") ∷ number_in (negsuc 999999999) (pos 1000000000) (codes "00000000000938767331.0") ∷ number_in (negsuc 999999999) (pos 1000000000) (codes "00000000000623917077") ∷ number_in (pos 0) (pos 999999999) (codes "999999998") ∷ number_in (pos 0) (pos 1000000000) (codes "00000000000289153599") ∷ number_in (pos 0) (pos 1000000000) (codes "0.0") ∷ number_in (pos 0) (pos 999999999) (codes "0") ∷ number_in (pos 0) (pos 999999999) (codes "-") ∷ number_in (negsuc 999999) (pos 1000000) (codes "00000000000000019384000000000000000000000000000000") ∷ number_in (negsuc 999999) (pos 1000000) (codes "-94727x") ∷ number_in (negsuc 999999999) (pos 1000000000) (codes "--371105228") ∷ number_in (negsuc 999999) (pos 1000000) (codes "+64691000000000000000000000000000000") ∷ number_in (negsuc 999999999) (pos 1000000000) [] ∷ number_in (pos 0) (pos 999999999) (codes "586282815000000000000000000000000000000") ∷ number_in (negsuc 999999999) (pos 1000000000) (codes "-660074727.0") ∷ number_in (negsuc 999999) (pos 1000000) (codes "-999999 ") ∷ number_in (pos 0) (pos 1000000000) (codes "1") ∷ number_in (pos 0) (pos 999999999) [] ∷ number_in (pos 0) (pos 999999999) (codes "+999999998") ∷ number_in (pos 0) (pos 999999999) (codes "+00000000000999999999") ∷ number_in (pos 0) (pos 999999999) (codes "0") ∷ number_in (pos 0) (pos 999999999) (codes "+00000000000008560936") ∷ number_in (negsuc 999999999) (pos 1000000000) (codes "-1000000000") ∷ number_in (negsuc 999999999) (pos 1000000000) (codes "-1000000001000000000000000000000000000000") ∷ number_in (pos 0) (pos 1000000000) (codes "00000000001000000001") ∷ number_in (negsuc 999999) (pos 1000000) (codes "-1000000") ∷ number_in (pos 0) (pos 999999999) (codes "00000000000999999998x") ∷ number_in (negsuc 999999) (pos 1000000) (codes "00000000000001000001") ∷ number_in (pos 0) (pos 999999999) (codes "818288891") ∷ number_in (pos 0) (pos 999999999) (codes "0 ") ∷ number_in (negsuc 999999) (pos 1000000) (codes "+") ∷ number_in (negsuc 999999999) (pos 1000000000) (codes "--1000000000") ∷ number_in (negsuc 999999999) (pos 1000000000) (codes "-1000000001") ∷ number_in (pos 0) (pos 999999999) (codes "+") ∷ number_in (negsuc 999999) (pos 1000000) (codes "-956846.0") ∷ number_in (pos 0) (pos 999999999) (codes "+") ∷ number_in (pos 0) (pos 1000000000) (codes "+0 ") ∷ number_in (negsuc 999999999) (pos 1000000000) (codes "-") ∷ number_in (pos 0) (pos 999999999) (codes "+") ∷ number_in (negsuc 999999999) (pos 1000000000) (codes "0.0") ∷ number_in (pos 0) (pos 1000000000) (codes "0") ∷ number_in (negsuc 999999) (pos 1000000) (codes "-00000000000001000000x") ∷ number_in (pos 0) (pos 999999999) (codes "-1") ∷ number_in (negsuc 999999) (pos 1000000) (codes "-1000001") ∷ number_in (negsuc 999999) (pos 1000000) (codes "-00000000000000999999.0") ∷ number_in (pos 0) (pos 1000000000) (codes "1000000000") ∷ number_in (negsuc 999999999) (pos 1000000000) (codes "1000000000") ∷ number_in (negsuc 999999) (pos 1000000) (codes "1000001000000000000000000000000000000") ∷ number_in (pos 0) (pos 999999999) (codes "-1") ∷ number_in (pos 0) (pos 999999999) (codes "+") ∷ number_in (pos 0) (pos 1000000000) (codes "-") ∷ number_in (pos 0) (pos 1000000000) [] ∷ number_in (pos 0) (pos 999999999) (codes "-") ∷ number_in (negsuc 999999999) (pos 1000000000) (codes "1.0") ∷ number_in (pos 0) (pos 999999999) (codes "-1") ∷ number_in (pos 0) (pos 1000000000) (codes "+") ∷ number_in (negsuc 999999999) (pos 1000000000) (codes "-999999999") ∷ number_in (negsuc 999999999) (pos 1000000000) (codes "999999999x") ∷ number_in (negsuc 999999999) (pos 1000000000) (codes "00000000001000000000") ∷ number_in (negsuc 999999999) (pos 1000000000) (codes "-00000000001000000000") ∷ number_in (negsuc 999999) (pos 1000000) (codes "+") ∷ number_in (negsuc 999999) (pos 1000000) (codes "-1000000") ∷ number_in (pos 0) (pos 999999999) (codes "-1") ∷ number_in (negsuc 999999) (pos 1000000) (codes "-668750") ∷ number_in (pos 0) (pos 999999999) (codes "440828685") ∷ number_in (negsuc 999999999) (pos 1000000000) (codes "0") ∷ number_in (negsuc 999999) (pos 1000000) (codes "-485136") ∷ number_in (pos 0) (pos 1000000000) (codes "-1.0") ∷ number_in (pos 0) (pos 1000000000) (codes "-1x") ∷ number_in (pos 0) (pos 1000000000) (codes "-00000000000000000001") ∷ number_in (negsuc 999999999) (pos 1000000000) (codes "--999999999") ∷ number_in (pos 0) (pos 999999999) (codes "47950504x") ∷ number_in (pos 0) (pos 1000000000) (codes "+477388254") ∷ number_in (pos 0) (pos 1000000000) (codes "-") ∷ number_in (pos 0) (pos 1000000000) (codes "-") ∷ number_in (negsuc 999999) (pos 1000000) (codes "+") ∷ number_in (pos 0) (pos 1000000000) [] ∷ number_in (pos 0) (pos 999999999) (codes "0 ") ∷ number_in (negsuc 999999) (pos 1000000) (codes "-1") ∷ number_in (pos 0) (pos 1000000000) (codes "+0") ∷ number_in (negsuc 999999999) (pos 1000000000) [] ∷ number_in (negsuc 999999999) (pos 1000000000) (codes "00000000000000000000") ∷ number_in (negsuc 999999999) (pos 1000000000) (codes "+00000000000224398462") ∷ number_in (pos 0) (pos 1000000000) (codes "206345754.0") ∷ number_in (negsuc 999999) (pos 1000000) (codes "-1000000") ∷ number_in (negsuc 999999999) (pos 1000000000) (codes "999999999") ∷ number_in (negsuc 999999999) (pos 1000000000) (codes "-381177673") ∷ number_in (negsuc 999999) (pos 1000000) (codes "-1000000") ∷ number_in (pos 0) (pos 999999999) (codes "999999998000000000000000000000000000000") ∷ number_in (pos 0) (pos 1000000000) (codes "0") ∷ number_in (pos 0) (pos 999999999) (codes "-1") ∷ number_in (pos 0) (pos 1000000000) (codes "+") ∷ number_in (pos 0) (pos 999999999) [] ∷ number_in (negsuc 999999999) (pos 1000000000) (codes "-1") ∷ number_in (pos 0) (pos 999999999) (codes "00000000000913785003") ∷ number_in (negsuc 999999999) (pos 1000000000) (codes "-1000000000") ∷ number_in (pos 0) (pos 1000000000) (codes "0") ∷ number_in (pos 0) (pos 1000000000) (codes "+") ∷ number_in (negsuc 999999999) (pos 1000000000) (codes "-00000000001000000001") ∷ number_in (pos 0) (pos 999999999) (codes "-0") ∷ number_in (negsuc 999999999) (pos 1000000000) (codes "00000000001000000001") ∷ number_in (negsuc 999999999) (pos 1000000000) (codes "+0x") ∷ number_in (pos 0) (pos 1000000000) (codes "99516174") ∷ number_in (negsuc 999999) (pos 1000000) (codes "-0") ∷ number_in (pos 0) (pos 999999999) (codes "+") ∷ number_in (pos 0) (pos 1000000000) (codes "+00000000000999999999") ∷ number_in (negsuc 999999999) (pos 1000000000) (codes "+") ∷ number_in (negsuc 999999) (pos 1000000) (codes "999999 ") ∷ number_in (pos 0) (pos 1000000000) (codes "999076448 ") ∷ number_in (pos 0) (pos 1000000000) (codes "0") ∷ number_in (negsuc 999999999) (pos 1000000000) (codes "-55485746") ∷ number_in (negsuc 999999999) (pos 1000000000) (codes "-1") ∷ number_in (pos 0) (pos 1000000000) (codes "-+00000000000000000000") ∷ number_in (pos 0) (pos 999999999) (codes "1") ∷ number_in (negsuc 999999) (pos 1000000) (codes "-") ∷ number_in (pos 0) (pos 999999999) [] ∷ number_in (negsuc 999999) (pos 1000000) (codes "+") ∷ number_in (pos 0) (pos 1000000000) (codes "-") ∷ number_in (negsuc 999999) (pos 1000000) (codes "+") ∷ number_in (pos 0) (pos 999999999) (codes "1000000000") ∷ number_in (pos 0) (pos 999999999) (codes "-1") ∷ number_in (negsuc 999999) (pos 1000000) (codes "+") ∷ number_in (pos 0) (pos 999999999) (codes "-") ∷ number_in (negsuc 999999999) (pos 1000000000) (codes "-657490408x") ∷ number_in (pos 0) (pos 999999999) (codes "00000000000000000000") ∷ number_in (pos 0) (pos 999999999) (codes "-") ∷ number_in (negsuc 999999999) (pos 1000000000) (codes "-1000000000000000000000000000000") ∷ number_in (negsuc 999999999) (pos 1000000000) (codes "00000000000153213792") ∷ number_in (negsuc 999999) (pos 1000000) (codes "-+1000000") ∷ number_in (negsuc 999999) (pos 1000000) (codes "-00000000000000707131 ") ∷ number_in (pos 0) (pos 1000000000) (codes "-00000000000616287892") ∷ number_in (pos 0) (pos 999999999) (codes "+") ∷ number_in (negsuc 999999) (pos 1000000) (codes "-682717") ∷ number_in (pos 0) (pos 999999999) (codes "+") ∷ number_in (negsuc 999999) (pos 1000000) (codes "-1x") ∷ number_in (pos 0) (pos 1000000000) (codes "00000000000258515272") ∷ number_in (negsuc 999999999) (pos 1000000000) (codes "+") ∷ number_in (negsuc 999999999) (pos 1000000000) (codes "-996984433") ∷ number_in (pos 0) (pos 999999999) (codes "--1") ∷ number_in (pos 0) (pos 1000000000) (codes "0") ∷ number_in (negsuc 999999999) (pos 1000000000) [] ∷ number_in (negsuc 999999999) (pos 1000000000) (codes "-674672809") ∷ number_in (pos 0) (pos 999999999) (codes "00000000000000000001") ∷ number_in (negsuc 999999999) (pos 1000000000) (codes "+") ∷ number_in (negsuc 999999999) (pos 1000000000) (codes "+67424895 ") ∷ number_in (pos 0) (pos 1000000000) (codes "+0") ∷ number_in (pos 0) (pos 999999999) [] ∷ number_in (negsuc 999999) (pos 1000000) (codes "1000000") ∷ number_in (negsuc 999999) (pos 1000000) (codes "-") ∷ number_in (pos 0) (pos 1000000000) (codes "1000000000") ∷ number_in (negsuc 999999) (pos 1000000) (codes "--00000000000000999999") ∷ number_in (negsuc 999999) (pos 1000000) (codes "--600472") ∷ number_in (negsuc 999999999) (pos 1000000000) (codes "+1000000000") ∷ number_in (negsuc 999999999) (pos 1000000000) (codes "103224818") ∷ number_in (pos 0) (pos 1000000000) (codes "+0") ∷ number_in (negsuc 999999) (pos 1000000) (codes "+0.0") ∷ number_in (negsuc 999999) (pos 1000000) (codes "-999999x") ∷ number_in (negsuc 999999) (pos 1000000) (codes "0.0") ∷ number_in (negsuc 999999999) (pos 1000000000) (codes "-") ∷ number_in (pos 0) (pos 1000000000) (codes "999999999") ∷ number_in (negsuc 999999) (pos 1000000) (codes "1000000000000000000000000000000") ∷ number_in (pos 0) (pos 1000000000) (codes "0000000000000000000000000000000") ∷ number_in (pos 0) (pos 1000000000) (codes "+662006967.0") ∷ number_in (negsuc 999999999) (pos 1000000000) (codes "-0") ∷ number_in (negsuc 999999) (pos 1000000) (codes "-999999") ∷ number_in (pos 0) (pos 1000000000) (codes "544180972.0") ∷ number_in (negsuc 999999) (pos 1000000) (codes "1000000") ∷ number_in (negsuc 999999) (pos 1000000) (codes "-1000001") ∷ number_in (pos 0) (pos 999999999) (codes "+") ∷ number_in (negsuc 999999999) (pos 1000000000) (codes "-1") ∷ number_in (negsuc 999999) (pos 1000000) (codes "-") ∷ number_in (negsuc 999999999) (pos 1000000000) (codes "-0") ∷ number_in (negsuc 999999) (pos 1000000) (codes "+1000000") ∷ number_in (pos 0) (pos 999999999) (codes "+0") ∷ number_in (negsuc 999999999) (pos 1000000000) (codes "-") ∷ number_in (pos 0) (pos 1000000000) (codes "-1000000000x") ∷ number_in (negsuc 999999) (pos 1000000) (codes "-00000000000000086362") ∷ number_in (negsuc 999999999) (pos 1000000000) (codes "-323525489 ") ∷ number_in (pos 0) (pos 1000000000) (codes "0000000000000000000000000000000") ∷ number_in (pos 0) (pos 999999999) (codes "00000000000000000000") ∷ number_in (negsuc 999999999) (pos 1000000000) (codes "-1000000000") ∷ number_in (pos 0) (pos 1000000000) [] ∷ number_in (pos 0) (pos 999999999) [] ∷ number_in (pos 0) (pos 999999999) (codes "-") ∷ [] ≡ Err number.NotANumber ∷ Err number.NotANumber ∷ Err number.NotANumber ∷ Err number.NotANumber ∷ Err number.NotANumber ∷ Err number.NotANumber ∷ Err number.NotANumber ∷ Ok (pos 0) ∷ Ok (pos 999999998) ∷ Err number.NotANumber ∷ Err number.OutOfRange ∷ Err number.NotANumber ∷ Ok (pos 0) ∷ Ok (pos 0) ∷ Err number.NotANumber ∷ Err number.OutOfRange ∷ Ok (pos 997648721) ∷ Err number.NotANumber ∷ Err number.NotANumber ∷ Err number.NotANumber ∷ Err number.NotANumber ∷ Ok (pos 0) ∷ Ok (negsuc 999998) ∷ Err number.NotANumber ∷ Ok (negsuc 999999) ∷ Err number.NotANumber ∷ Ok (negsuc 999998) ∷ Err number.NotANumber ∷ Err number.NotANumber ∷ Ok (pos 14809367) ∷ Err number.NotANumber ∷ Err number.OutOfRange ∷ Err number.NotANumber ∷ Ok (pos 0) ∷ Ok (pos 999999998) ∷ Ok (pos 173486157) ∷ Ok (pos 0) ∷ Ok (pos 0) ∷ Ok (pos 1) ∷ Ok (pos 0) ∷ Err number.NotANumber ∷ Ok (pos 0) ∷ Err number.OutOfRange ∷ Err number.NotANumber ∷ Ok (pos 999999999) ∷ Err number.NotANumber ∷ Err number.OutOfRange ∷ Err number.NotANumber ∷ Ok (negsuc 564887813) ∷ Ok (negsuc 999999) ∷ Err number.NotANumber ∷ Err number.NotANumber ∷ Err number.NotANumber ∷ Err number.OutOfRange ∷ Err number.NotANumber ∷ Ok (pos 1000000000) ∷ Ok (negsuc 395394561) ∷ Err number.NotANumber ∷ Ok (pos 623917077) ∷ Ok (pos 999999998) ∷ Ok (pos 289153599) ∷ Err number.NotANumber ∷ Ok (pos 0) ∷ Err number.NotANumber ∷ Err number.OutOfRange ∷ Err number.NotANumber ∷ Err number.NotANumber ∷ Err number.OutOfRange ∷ Err number.NotANumber ∷ Err number.OutOfRange ∷ Err number.NotANumber ∷ Err number.NotANumber ∷ Ok (pos 1) ∷ Err number.NotANumber ∷ Ok (pos 999999998) ∷ Ok (pos 999999999) ∷ Ok (pos 0) ∷ Ok (pos 8560936) ∷ Ok (negsuc 999999999) ∷ Err number.OutOfRange ∷ Err number.OutOfRange ∷ Ok (negsuc 999999) ∷ Err number.NotANumber ∷ Err number.OutOfRange ∷ Ok (pos 818288891) ∷ Err number.NotANumber ∷ Err number.NotANumber ∷ Err number.NotANumber ∷ Err number.OutOfRange ∷ Err number.NotANumber ∷ Err number.NotANumber ∷ Err number.NotANumber ∷ Err number.NotANumber ∷ Err number.NotANumber ∷ Err number.NotANumber ∷ Err number.NotANumber ∷ Ok (pos 0) ∷ Err number.NotANumber ∷ Err number.OutOfRange ∷ Err number.OutOfRange ∷ Err number.NotANumber ∷ Ok (pos 1000000000) ∷ Ok (pos 1000000000) ∷ Err number.OutOfRange ∷ Err number.OutOfRange ∷ Err number.NotANumber ∷ Err number.NotANumber ∷ Err number.NotANumber ∷ Err number.NotANumber ∷ Err number.NotANumber ∷ Err number.OutOfRange ∷ Err number.NotANumber ∷ Ok (negsuc 999999998) ∷ Err number.NotANumber ∷ Ok (pos 1000000000) ∷ Ok (negsuc 999999999) ∷ Err number.NotANumber ∷ Ok (negsuc 999999) ∷ Err number.OutOfRange ∷ Ok (negsuc 668749) ∷ Ok (pos 440828685) ∷ Ok (pos 0) ∷ Ok (negsuc 485135) ∷ Err number.NotANumber ∷ Err number.NotANumber ∷ Err number.OutOfRange ∷ Err number.NotANumber ∷ Err number.NotANumber ∷ Ok (pos 477388254) ∷ Err number.NotANumber ∷ Err number.NotANumber ∷ Err number.NotANumber ∷ Err number.NotANumber ∷ Err number.NotANumber ∷ Ok (negsuc 0) ∷ Ok (pos 0) ∷ Err number.NotANumber ∷ Ok (pos 0) ∷ Ok (pos 224398462) ∷ Err number.NotANumber ∷ Ok (negsuc 999999) ∷ Ok (pos 999999999) ∷ Ok (negsuc 381177672) ∷ Ok (negsuc 999999) ∷ Err number.OutOfRange ∷ Ok (pos 0) ∷ Err number.OutOfRange ∷ Err number.NotANumber ∷ Err number.NotANumber ∷ Ok (negsuc 0) ∷ Ok (pos 913785003) ∷ Ok (negsuc 999999999) ∷ Ok (pos 0) ∷ Err number.NotANumber ∷ Err number.OutOfRange ∷ Ok (pos 0) ∷ Err number.OutOfRange ∷ Err number.NotANumber ∷ Ok (pos 99516174) ∷ Ok (pos 0) ∷ Err number.NotANumber ∷ Ok (pos 999999999) ∷ Err number.NotANumber ∷ Err number.NotANumber ∷ Err number.NotANumber ∷ Ok (pos 0) ∷ Ok (negsuc 55485745) ∷ Ok (negsuc 0) ∷ Err number.NotANumber ∷ Ok (pos 1) ∷ Err number.NotANumber ∷ Err number.NotANumber ∷ Err number.NotANumber ∷ Err number.NotANumber ∷ Err number.NotANumber ∷ Err number.OutOfRange ∷ Err number.OutOfRange ∷ Err number.NotANumber ∷ Err number.NotANumber ∷ Err number.NotANumber ∷ Ok (pos 0) ∷ Err number.NotANumber ∷ Err number.OutOfRange ∷ Ok (pos 153213792) ∷ Err number.NotANumber ∷ Err number.NotANumber ∷ Err number.OutOfRange ∷ Err number.NotANumber ∷ Ok (negsuc 682716) ∷ Err number.NotANumber ∷ Err number.NotANumber ∷ Ok (pos 258515272) ∷ Err number.NotANumber ∷ Ok (negsuc 996984432) ∷ Err number.NotANumber ∷ Ok (pos 0) ∷ Err number.NotANumber ∷ Ok (negsuc 674672808) ∷ Ok (pos 1) ∷ Err number.NotANumber ∷ Err number.NotANumber ∷ Ok (pos 0) ∷ Err number.NotANumber ∷ Ok (pos 1000000) ∷ Err number.NotANumber ∷ Ok (pos 1000000000) ∷ Err number.NotANumber ∷ Err number.NotANumber ∷ Ok (pos 1000000000) ∷ Ok (pos 103224818) ∷ Ok (pos 0) ∷ Err number.NotANumber ∷ Err number.NotANumber ∷ Err number.NotANumber ∷ Err number.NotANumber ∷ Ok (pos 999999999) ∷ Err number.OutOfRange ∷ Ok (pos 0) ∷ Err number.NotANumber ∷ Ok (pos 0) ∷ Ok (negsuc 999998) ∷ Err number.NotANumber ∷ Ok (pos 1000000) ∷ Err number.OutOfRange ∷ Err number.NotANumber ∷ Ok (negsuc 0) ∷ Err number.NotANumber ∷ Ok (pos 0) ∷ Ok (pos 1000000) ∷ Ok (pos 0) ∷ Err number.NotANumber ∷ Err number.NotANumber ∷ Ok (negsuc 86361) ∷ Err number.NotANumber ∷ Ok (pos 0) ∷ Ok (pos 0) ∷ Ok (negsuc 999999999) ∷ Err number.NotANumber ∷ Err number.NotANumber ∷ Err number.NotANumber ∷ []
numbers_in_texts = refl

spans_of_bounds : span_of (pos 5) (negsuc 999999) ∷ span_of (pos 1) (pos 1000001) ∷ span_of (pos 999999) (negsuc 2) ∷ span_of (pos 999999) (negsuc 2) ∷ span_of (pos 3) (pos 1000001) ∷ span_of (pos 4) (pos 1000001) ∷ span_of (negsuc 2) (pos 1000000) ∷ span_of (pos 999999) (negsuc 999998) ∷ span_of (negsuc 999999) (pos 3) ∷ span_of (pos 6) (pos 6) ∷ span_of (pos 1000000) (pos 1000001) ∷ span_of (pos 999999) (pos 1000000) ∷ span_of (pos 4) (negsuc 1000000) ∷ span_of (negsuc 1000000) (negsuc 999999) ∷ span_of (pos 999999) (negsuc 999999) ∷ span_of (negsuc 3) (pos 1000000) ∷ span_of (pos 1000000) (negsuc 999998) ∷ span_of (negsuc 1000000) (negsuc 999999) ∷ span_of (pos 1) (negsuc 2) ∷ span_of (pos 999999) (negsuc 999999) ∷ span_of (negsuc 999998) (negsuc 999999) ∷ span_of (negsuc 3) (pos 4) ∷ span_of (pos 1000001) (pos 1000000) ∷ span_of (negsuc 1000000) (negsuc 1000000) ∷ span_of (pos 1000001) (negsuc 1000000) ∷ span_of (negsuc 1000000) (negsuc 999999) ∷ span_of (pos 999999) (negsuc 999998) ∷ span_of (pos 6) (negsuc 1000000) ∷ span_of (negsuc 999999) (pos 1000001) ∷ span_of (negsuc 999999) (negsuc 999998) ∷ span_of (pos 2) (pos 5) ∷ span_of (pos 1000001) (pos 999999) ∷ span_of (negsuc 0) (negsuc 0) ∷ span_of (pos 1000000) (pos 999999) ∷ span_of (pos 1000001) (negsuc 999999) ∷ span_of (pos 1000000) (negsuc 999999) ∷ span_of (pos 4) (negsuc 3) ∷ span_of (negsuc 999998) (negsuc 999998) ∷ span_of (pos 999999) (pos 1000001) ∷ span_of (pos 1) (pos 1000001) ∷ span_of (negsuc 3) (pos 1) ∷ span_of (negsuc 1000000) (pos 3) ∷ span_of (pos 999999) (pos 999999) ∷ span_of (negsuc 999999) (negsuc 999999) ∷ span_of (negsuc 0) (negsuc 3) ∷ span_of (pos 1000001) (negsuc 999999) ∷ span_of (negsuc 2) (pos 1000001) ∷ span_of (negsuc 2) (pos 5) ∷ span_of (negsuc 999998) (negsuc 999998) ∷ span_of (pos 3) (pos 999999) ∷ span_of (negsuc 999999) (negsuc 999998) ∷ span_of (pos 1000000) (negsuc 2) ∷ span_of (negsuc 1000000) (pos 999999) ∷ span_of (pos 1000001) (negsuc 999998) ∷ span_of (negsuc 999999) (pos 1000000) ∷ span_of (pos 1000000) (pos 999999) ∷ span_of (negsuc 0) (negsuc 1000000) ∷ span_of (pos 1000000) (pos 1000000) ∷ span_of (pos 1000001) (pos 1000000) ∷ span_of (pos 999999) (negsuc 999999) ∷ span_of (negsuc 999998) (negsuc 999999) ∷ span_of (negsuc 0) (pos 1000001) ∷ span_of (pos 1000001) (pos 1000001) ∷ span_of (pos 999999) (negsuc 1000000) ∷ span_of (pos 0) (negsuc 999998) ∷ span_of (pos 1) (pos 1000001) ∷ span_of (pos 1000001) (negsuc 999998) ∷ span_of (negsuc 999999) (negsuc 999998) ∷ span_of (pos 2) (pos 1000001) ∷ span_of (pos 1000001) (negsuc 999999) ∷ span_of (pos 999999) (pos 3) ∷ span_of (negsuc 999998) (pos 1000001) ∷ span_of (pos 2) (pos 999999) ∷ span_of (pos 999999) (pos 3) ∷ span_of (pos 3) (negsuc 4) ∷ span_of (pos 6) (pos 999999) ∷ span_of (pos 1000001) (negsuc 3) ∷ span_of (negsuc 999999) (negsuc 2) ∷ span_of (pos 3) (pos 2) ∷ span_of (negsuc 4) (negsuc 5) ∷ span_of (negsuc 999999) (pos 1000001) ∷ span_of (pos 4) (negsuc 999998) ∷ span_of (negsuc 999998) (negsuc 4) ∷ span_of (pos 1000000) (pos 1000000) ∷ span_of (negsuc 1000000) (negsuc 999999) ∷ span_of (pos 5) (negsuc 999999) ∷ span_of (pos 999999) (negsuc 999998) ∷ span_of (pos 1000001) (pos 1000000) ∷ span_of (pos 4) (negsuc 999998) ∷ span_of (negsuc 1) (pos 1000000) ∷ span_of (pos 1) (pos 1000001) ∷ span_of (negsuc 999999) (pos 1000000) ∷ span_of (pos 999999) (pos 1000001) ∷ span_of (negsuc 3) (pos 1000000) ∷ span_of (pos 0) (negsuc 4) ∷ span_of (negsuc 1000000) (negsuc 999998) ∷ span_of (negsuc 2) (negsuc 999999) ∷ span_of (negsuc 999998) (pos 0) ∷ span_of (negsuc 2) (pos 999999) ∷ span_of (pos 1000000) (negsuc 3) ∷ span_of (pos 2) (negsuc 999998) ∷ span_of (pos 2) (negsuc 3) ∷ span_of (pos 3) (negsuc 999999) ∷ span_of (pos 0) (negsuc 999999) ∷ span_of (pos 0) (pos 1000000) ∷ span_of (pos 5) (negsuc 1) ∷ span_of (pos 999999) (pos 0) ∷ span_of (negsuc 999999) (pos 5) ∷ span_of (negsuc 1000000) (pos 3) ∷ span_of (negsuc 1000000) (pos 1) ∷ span_of (pos 1000000) (negsuc 1000000) ∷ span_of (pos 3) (pos 1000000) ∷ span_of (pos 0) (negsuc 999998) ∷ span_of (pos 1) (negsuc 999998) ∷ span_of (pos 999999) (negsuc 3) ∷ span_of (negsuc 999998) (negsuc 1) ∷ span_of (negsuc 999999) (negsuc 1000000) ∷ span_of (pos 1) (negsuc 999998) ∷ span_of (pos 1000000) (pos 999999) ∷ span_of (negsuc 4) (pos 0) ∷ [] ≡ Err span_fault.Crossed ∷ Err span_fault.OutOfRange ∷ Err span_fault.Crossed ∷ Err span_fault.Crossed ∷ Err span_fault.OutOfRange ∷ Err span_fault.OutOfRange ∷ Ok (record { lower = negsuc 2; upper = pos 1000000 }) ∷ Err span_fault.Crossed ∷ Ok (record { lower = negsuc 999999; upper = pos 3 }) ∷ Ok (record { lower = pos 6; upper = pos 6 }) ∷ Err span_fault.OutOfRange ∷ Ok (record { lower = pos 999999; upper = pos 1000000 }) ∷ Err span_fault.OutOfRange ∷ Err span_fault.OutOfRange ∷ Err span_fault.Crossed ∷ Ok (record { lower = negsuc 3; upper = pos 1000000 }) ∷ Err span_fault.Crossed ∷ Err span_fault.OutOfRange ∷ Err span_fault.Crossed ∷ Err span_fault.Crossed ∷ Err span_fault.Crossed ∷ Ok (record { lower = negsuc 3; upper = pos 4 }) ∷ Err span_fault.OutOfRange ∷ Err span_fault.OutOfRange ∷ Err span_fault.OutOfRange ∷ Err span_fault.OutOfRange ∷ Err span_fault.Crossed ∷ Err span_fault.OutOfRange ∷ Err span_fault.OutOfRange ∷ Ok (record { lower = negsuc 999999; upper = negsuc 999998 }) ∷ Ok (record { lower = pos 2; upper = pos 5 }) ∷ Err span_fault.OutOfRange ∷ Ok (record { lower = negsuc 0; upper = negsuc 0 }) ∷ Err span_fault.Crossed ∷ Err span_fault.OutOfRange ∷ Err span_fault.Crossed ∷ Err span_fault.Crossed ∷ Ok (record { lower = negsuc 999998; upper = negsuc 999998 }) ∷ Err span_fault.OutOfRange ∷ Err span_fault.OutOfRange ∷ Ok (record { lower = negsuc 3; upper = pos 1 }) ∷ Err span_fault.OutOfRange ∷ Ok (record { lower = pos 999999; upper = pos 999999 }) ∷ Ok (record { lower = negsuc 999999; upper = negsuc 999999 }) ∷ Err span_fault.Crossed ∷ Err span_fault.OutOfRange ∷ Err span_fault.OutOfRange ∷ Ok (record { lower = negsuc 2; upper = pos 5 }) ∷ Ok (record { lower = negsuc 999998; upper = negsuc 999998 }) ∷ Ok (record { lower = pos 3; upper = pos 999999 }) ∷ Ok (record { lower = negsuc 999999; upper = negsuc 999998 }) ∷ Err span_fault.Crossed ∷ Err span_fault.OutOfRange ∷ Err span_fault.OutOfRange ∷ Ok (record { lower = negsuc 999999; upper = pos 1000000 }) ∷ Err span_fault.Crossed ∷ Err span_fault.OutOfRange ∷ Ok (record { lower = pos 1000000; upper = pos 1000000 }) ∷ Err span_fault.OutOfRange ∷ Err span_fault.Crossed ∷ Err span_fault.Crossed ∷ Err span_fault.OutOfRange ∷ Err span_fault.OutOfRange ∷ Err span_fault.OutOfRange ∷ Err span_fault.Crossed ∷ Err span_fault.OutOfRange ∷ Err span_fault.OutOfRange ∷ Ok (record { lower = negsuc 999999; upper = negsuc 999998 }) ∷ Err span_fault.OutOfRange ∷ Err span_fault.OutOfRange ∷ Err span_fault.Crossed ∷ Err span_fault.OutOfRange ∷ Ok (record { lower = pos 2; upper = pos 999999 }) ∷ Err span_fault.Crossed ∷ Err span_fault.Crossed ∷ Ok (record { lower = pos 6; upper = pos 999999 }) ∷ Err span_fault.OutOfRange ∷ Ok (record { lower = negsuc 999999; upper = negsuc 2 }) ∷ Err span_fault.Crossed ∷ Err span_fault.Crossed ∷ Err span_fault.OutOfRange ∷ Err span_fault.Crossed ∷ Ok (record { lower = negsuc 999998; upper = negsuc 4 }) ∷ Ok (record { lower = pos 1000000; upper = pos 1000000 }) ∷ Err span_fault.OutOfRange ∷ Err span_fault.Crossed ∷ Err span_fault.Crossed ∷ Err span_fault.OutOfRange ∷ Err span_fault.Crossed ∷ Ok (record { lower = negsuc 1; upper = pos 1000000 }) ∷ Err span_fault.OutOfRange ∷ Ok (record { lower = negsuc 999999; upper = pos 1000000 }) ∷ Err span_fault.OutOfRange ∷ Ok (record { lower = negsuc 3; upper = pos 1000000 }) ∷ Err span_fault.Crossed ∷ Err span_fault.OutOfRange ∷ Err span_fault.Crossed ∷ Ok (record { lower = negsuc 999998; upper = pos 0 }) ∷ Ok (record { lower = negsuc 2; upper = pos 999999 }) ∷ Err span_fault.Crossed ∷ Err span_fault.Crossed ∷ Err span_fault.Crossed ∷ Err span_fault.Crossed ∷ Err span_fault.Crossed ∷ Ok (record { lower = pos 0; upper = pos 1000000 }) ∷ Err span_fault.Crossed ∷ Err span_fault.Crossed ∷ Ok (record { lower = negsuc 999999; upper = pos 5 }) ∷ Err span_fault.OutOfRange ∷ Err span_fault.OutOfRange ∷ Err span_fault.OutOfRange ∷ Ok (record { lower = pos 3; upper = pos 1000000 }) ∷ Err span_fault.Crossed ∷ Err span_fault.Crossed ∷ Err span_fault.Crossed ∷ Ok (record { lower = negsuc 999998; upper = negsuc 1 }) ∷ Err span_fault.OutOfRange ∷ Err span_fault.Crossed ∷ Err span_fault.Crossed ∷ Ok (record { lower = negsuc 4; upper = pos 0 }) ∷ []
spans_of_bounds = refl

limits_at_periods : limits 3 ∷ limits 35 ∷ limits 95 ∷ limits 112 ∷ limits 130 ∷ limits 132 ∷ limits 135 ∷ limits 196 ∷ limits 209 ∷ limits 213 ∷ limits 254 ∷ limits 257 ∷ limits 259 ∷ limits 333 ∷ limits 335 ∷ limits 336 ∷ limits 378 ∷ limits 380 ∷ limits 384 ∷ limits 403 ∷ limits 415 ∷ limits 456 ∷ limits 469 ∷ limits 477 ∷ limits 510 ∷ limits 512 ∷ limits 517 ∷ limits 521 ∷ limits 574 ∷ limits 586 ∷ limits 628 ∷ limits 634 ∷ limits 710 ∷ limits 719 ∷ limits 725 ∷ limits 742 ∷ limits 773 ∷ limits 820 ∷ limits 878 ∷ limits 938 ∷ limits 942 ∷ limits 968 ∷ limits 979 ∷ limits 1002 ∷ limits 1008 ∷ limits 1012 ∷ limits 1034 ∷ limits 1055 ∷ limits 1087 ∷ limits 1108 ∷ limits 1109 ∷ limits 1125 ∷ limits 1263 ∷ limits 1266 ∷ limits 1322 ∷ limits 1374 ∷ limits 1382 ∷ limits 1385 ∷ limits 1404 ∷ limits 1423 ∷ [] ≡ (20000, 100000) ∷ (20000, 100000) ∷ (20000, 100000) ∷ (20000, 100000) ∷ (18461, 92307) ∷ (18181, 90909) ∷ (17777, 88888) ∷ (12244, 61224) ∷ (11483, 57416) ∷ (11267, 56338) ∷ (9448, 47244) ∷ (9338, 46692) ∷ (9266, 46332) ∷ (7207, 36036) ∷ (7164, 35820) ∷ (7142, 35714) ∷ (6349, 31746) ∷ (6315, 31578) ∷ (6250, 31250) ∷ (5955, 29776) ∷ (5783, 28915) ∷ (5263, 26315) ∷ (5117, 25586) ∷ (5031, 25157) ∷ (4705, 23529) ∷ (4687, 23437) ∷ (4642, 23210) ∷ (4606, 23032) ∷ (4181, 20905) ∷ (4095, 20477) ∷ (3821, 19108) ∷ (3785, 18927) ∷ (3380, 16901) ∷ (3337, 16689) ∷ (3310, 16551) ∷ (3234, 16172) ∷ (3104, 15523) ∷ (2926, 14634) ∷ (2733, 13667) ∷ (2558, 12793) ∷ (2547, 12738) ∷ (2479, 12396) ∷ (2451, 12257) ∷ (2395, 11976) ∷ (2380, 11904) ∷ (2371, 11857) ∷ (2321, 11605) ∷ (2274, 11374) ∷ (2207, 11039) ∷ (2166, 10830) ∷ (2164, 10820) ∷ (2133, 10666) ∷ (1900, 9501) ∷ (1895, 9478) ∷ (1815, 9077) ∷ (1746, 8733) ∷ (1736, 8683) ∷ (1732, 8664) ∷ (1709, 8547) ∷ (1686, 8432) ∷ []
limits_at_periods = refl
