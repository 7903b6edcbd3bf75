-- Small cases of the definitions, by computation.
use Rattle.std.proofs.Common.{◌≡◌, ◌<◌, zero, suc, refl, pos, [], ◌∷◌, Some, Err, ℕ, arith}
use Rattle.pesp_base.specs.declared.refusal.Refusal.TheVariants as no
use Rattle.pesp_instance.specs.declared.edit.Edit.TheVariants as do_
use Rattle.pesp_instance.specs.Network.{Network, new_event}
use Rattle.pesp_instance.specs.Edited.{after}
use Rattle.pesp_tension.specs.declared.lists.Violation.TheVariants as of_
use Rattle.pesp_tension.specs.Timetables.{Times, no_times, set_time, with_time, without_time}
use Rattle.pesp_tension.specs.Places.{event_at, IsAt, IsGap}
use Rattle.pesp_tension.specs.Answers.{cost_of, first_missing, tensions_of, violations_of, where_timed}

-- two events, and an activity from each to the other
abbrev two : Network
two = record {
  period = 10;
  events = new_event 1 ∷ new_event 2 ∷ [];
  activities =
      record { id = 1; from = 1; to = 2; span = record { lower = pos 3; upper = pos 5 }; weight = 2 }
      ∷ record { id = 2; from = 2; to = 1; span = record { lower = pos 4; upper = pos 6 }; weight = 1 } ∷ [];
}

-- event 1 at 0 and event 2 at 3, which come in any order
abbrev times : Times
times = with_time (with_time (no_times 10) 2 3) 1 0

times_rise : times.entries ≡ (1, 0) ∷ (2, 3) ∷ []
times_rise = refl

-- event 2 stands at place 1, and event 3 would stand after it
second_place : IsAt times.entries 2 1
second_place = record { within = omega arith; event = refl }

gap_after : IsGap times.entries 3 2
gap_after = record { within = omega arith; smaller = below_three; greater = λ i h k. absurd (omega (arith, h, k)) }
  where
    below_three : (i : ℕ) → i < 2 → event_at times.entries i < 3
    below_three zero h = omega arith
    below_three (suc zero) h = omega arith
    below_three (suc (suc i)) h = absurd (omega (arith, h))

two_tensions : tensions_of two times ≡ record { id = 1; tension = pos 3; slack = 0 } ∷ record { id = 2; tension = pos 7; slack = 3 } ∷ []
two_tensions = refl

one_violation : violations_of two times ≡ of_.Activity 2 ∷ []
one_violation = refl

the_cost : cost_of two times ≡ 3
the_cost = refl

-- a fixed event at another time comes after the activities
fixed_event : violations_of (after two (do_.Fix 1 5 ∷ [])) times ≡ of_.Activity 2 ∷ of_.Event 1 ∷ []
fixed_event = refl

fixed_event_kept : violations_of (after two (do_.Fix 1 0 ∷ [])) times ≡ of_.Activity 2 ∷ []
fixed_event_kept = refl

-- the least event without a time, an isolated one too
missing_time : first_missing two (without_time times 2) ≡ Some 2
missing_time = refl

isolated_event : where_timed {X = ℕ} (after two (do_.AddEvent 0 ∷ [])) times 3 ≡ Err (no.MissingTime 0)
isolated_event = refl

-- parallel activities count each by itself
parallel : cost_of (after two (do_.AddActivity (record { id = 3; from = 2; to = 1; span = record { lower = pos 4; upper = pos 6 }; weight = 1 }) ∷ [])) times ≡ 6
parallel = refl

time_out_of_range : set_time times 2 12 ≡ Err (no.TimeOutOfRange 12)
time_out_of_range = refl
