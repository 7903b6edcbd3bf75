-- Drawn cases of the definitions, as the model of tools/tests answers them: made by tools/draw_cases from seed 1810.
use Rattle.std.proofs.Common.{◌≡◌, ℕ, List, refl, pos, negsuc, [], ◌∷◌, Some, Result, Ok, Err}
use Rattle.pesp_base.proofs.Samples.{signed_arc as arc}
use Rattle.pesp_instance.specs.Network.{Network, new_event}
use Rattle.pesp_base.specs.declared.refusal.Refusal.{Refusal}
use Rattle.pesp_base.specs.declared.refusal.Refusal.TheVariants as no
use Rattle.pesp_tension.specs.declared.lists.ActivityTension.{ActivityTension}
use Rattle.pesp_tension.specs.declared.lists.Violation.{Violation}
use Rattle.pesp_tension.specs.declared.lists.Violation.TheVariants as of_
use Rattle.pesp_tension.specs.Answers.{cost_of, tensions_of, violations_of, where_timed}
use Rattle.pesp_tension.specs.Timetables.{Times, set_time, without_time}

-- the tensions, the violations and the cost, or the refusal
abbrev answers : Network → Times → Result (List ActivityTension × List Violation × ℕ) Refusal
answers I m = where_timed I m (tensions_of I m, violations_of I m, cost_of I m)

answers_0 : answers (record { period = 12; events = new_event 1 ∷ record { id = 2; window = Some (record { first = 8; length = 10 }) } ∷ new_event 3 ∷ new_event 4 ∷ []; activities = arc 1 4 4 (pos 8) (pos 10) 1000000000 ∷ [] }) (record { period = 12; entries = (1, 4) ∷ (2, 5) ∷ (3, 5) ∷ (4, 7) ∷ [] }) ≡ Ok (record { id = 1; tension = pos 12; slack = 4 } ∷ [], of_.Activity 1 ∷ [], 4000000000)
answers_0 = refl

answers_1 : answers (record { period = 5; events = new_event 1 ∷ new_event 2 ∷ new_event 3 ∷ []; activities = arc 2 2 1 (pos 3) (pos 5) 3 ∷ arc 3 1 3 (pos 2) (pos 3) 0 ∷ arc 6 2 3 (pos 2) (pos 2) 4 ∷ [] }) (record { period = 5; entries = (1, 1) ∷ (2, 0) ∷ [] }) ≡ Err (no.MissingTime 3)
answers_1 = refl

answers_2 : answers (record { period = 11; events = new_event 1 ∷ new_event 2 ∷ new_event 3 ∷ new_event 4 ∷ []; activities = arc 1 2 3 (pos 6) (pos 6) 3 ∷ arc 2 3 2 (negsuc 10) (negsuc 9) 0 ∷ arc 3 4 2 (pos 4) (pos 4) 4 ∷ arc 4 1 1 (pos 4) (pos 4) 2 ∷ arc 5 3 3 (negsuc 3) (negsuc 3) 1 ∷ arc 6 1 3 (pos 1) (pos 3) 3 ∷ [] }) (record { period = 11; entries = (1, 2) ∷ (2, 4) ∷ (3, 9) ∷ (4, 9) ∷ [] }) ≡ Ok (record { id = 1; tension = pos 16; slack = 10 } ∷ record { id = 2; tension = negsuc 4; slack = 6 } ∷ record { id = 3; tension = pos 6; slack = 2 } ∷ record { id = 4; tension = pos 11; slack = 7 } ∷ record { id = 5; tension = pos 0; slack = 4 } ∷ record { id = 6; tension = pos 7; slack = 6 } ∷ [], of_.Activity 1 ∷ of_.Activity 2 ∷ of_.Activity 3 ∷ of_.Activity 4 ∷ of_.Activity 5 ∷ of_.Activity 6 ∷ [], 74)
answers_2 = refl

answers_3 : answers (record { period = 12; events = new_event 1 ∷ new_event 2 ∷ record { id = 3; window = Some (record { first = 9; length = 5 }) } ∷ record { id = 4; window = Some (record { first = 4; length = 2 }) } ∷ []; activities = arc 1 1 1 (pos 3) (pos 8) 1 ∷ arc 4 1 1 (pos 6) (pos 8) 0 ∷ arc 5 2 3 (negsuc 1) (pos 10) 1 ∷ arc 6 4 3 (pos 2) (pos 7) 3 ∷ [] }) (record { period = 12; entries = (1, 3) ∷ (2, 1) ∷ (3, 2) ∷ (4, 2) ∷ [] }) ≡ Ok (record { id = 1; tension = pos 12; slack = 9 } ∷ record { id = 4; tension = pos 12; slack = 6 } ∷ record { id = 5; tension = pos 1; slack = 3 } ∷ record { id = 6; tension = pos 12; slack = 10 } ∷ [], of_.Activity 1 ∷ of_.Activity 4 ∷ of_.Activity 6 ∷ of_.Event 3 ∷ of_.Event 4 ∷ [], 42)
answers_3 = refl

answers_4 : answers (record { period = 7; events = record { id = 1; window = Some (record { first = 2; length = 1 }) } ∷ record { id = 4; window = Some (record { first = 6; length = 1 }) } ∷ []; activities = arc 1 1 4 (negsuc 2) (negsuc 1) 2 ∷ arc 2 1 4 (pos 5) (pos 5) 2 ∷ arc 3 4 4 (pos 2) (pos 3) 4 ∷ arc 4 1 4 (pos 5) (pos 6) 1 ∷ arc 5 1 4 (pos 6) (pos 6) 1 ∷ arc 6 4 1 (negsuc 1) (negsuc 0) 0 ∷ [] }) (record { period = 7; entries = (1, 3) ∷ (4, 6) ∷ [] }) ≡ Ok (record { id = 1; tension = pos 3; slack = 6 } ∷ record { id = 2; tension = pos 10; slack = 5 } ∷ record { id = 3; tension = pos 7; slack = 5 } ∷ record { id = 4; tension = pos 10; slack = 5 } ∷ record { id = 5; tension = pos 10; slack = 4 } ∷ record { id = 6; tension = pos 4; slack = 6 } ∷ [], of_.Activity 1 ∷ of_.Activity 2 ∷ of_.Activity 3 ∷ of_.Activity 4 ∷ of_.Activity 5 ∷ of_.Activity 6 ∷ of_.Event 1 ∷ [], 51)
answers_4 = refl

answers_5 : answers (record { period = 2; events = new_event 2 ∷ new_event 5 ∷ new_event 6 ∷ new_event 8 ∷ []; activities = arc 1 6 5 (negsuc 0) (pos 0) 4 ∷ [] }) (record { period = 2; entries = (2, 0) ∷ (5, 0) ∷ (6, 1) ∷ (8, 1) ∷ [] }) ≡ Ok (record { id = 1; tension = negsuc 0; slack = 0 } ∷ [], [], 0)
answers_5 = refl

answers_6 : answers (record { period = 10; events = record { id = 1; window = Some (record { first = 8; length = 2 }) } ∷ new_event 2 ∷ new_event 4 ∷ []; activities = arc 1 2 1 (pos 1) (pos 5) 2 ∷ arc 2 4 1 (negsuc 2) (pos 5) 0 ∷ arc 3 4 2 (pos 10) (pos 11) 4 ∷ arc 5 1 4 (pos 0) (pos 0) 2 ∷ [] }) (record { period = 10; entries = (1, 7) ∷ (2, 9) ∷ (4, 5) ∷ [] }) ≡ Ok (record { id = 1; tension = pos 8; slack = 7 } ∷ record { id = 2; tension = pos 2; slack = 5 } ∷ record { id = 3; tension = pos 14; slack = 4 } ∷ record { id = 5; tension = pos 8; slack = 8 } ∷ [], of_.Activity 1 ∷ of_.Activity 3 ∷ of_.Activity 5 ∷ of_.Event 1 ∷ [], 46)
answers_6 = refl

answers_7 : answers (record { period = 5; events = new_event 2 ∷ record { id = 4; window = Some (record { first = 4; length = 1 }) } ∷ []; activities = arc 1 4 2 (pos 4) (pos 7) 2 ∷ arc 3 2 4 (pos 4) (pos 4) 4 ∷ [] }) (record { period = 5; entries = (2, 4) ∷ (4, 3) ∷ [] }) ≡ Ok (record { id = 1; tension = pos 6; slack = 2 } ∷ record { id = 3; tension = pos 4; slack = 0 } ∷ [], of_.Event 4 ∷ [], 4)
answers_7 = refl

answers_8 : answers (record { period = 11; events = new_event 2 ∷ record { id = 6; window = Some (record { first = 7; length = 2 }) } ∷ new_event 7 ∷ []; activities = arc 1 2 6 (negsuc 1) (pos 9) 4 ∷ arc 2 6 7 (negsuc 14) (negsuc 12) 4 ∷ arc 3 7 2 (negsuc 5) (pos 6) 2 ∷ arc 4 7 2 (pos 6) (pos 7) 1 ∷ [] }) (record { period = 11; entries = (2, 9) ∷ (6, 4) ∷ (7, 9) ∷ [] }) ≡ Ok (record { id = 1; tension = pos 6; slack = 8 } ∷ record { id = 2; tension = negsuc 5; slack = 9 } ∷ record { id = 3; tension = pos 0; slack = 6 } ∷ record { id = 4; tension = pos 11; slack = 5 } ∷ [], of_.Activity 2 ∷ of_.Activity 4 ∷ of_.Event 6 ∷ [], 85)
answers_8 = refl

answers_9 : answers (record { period = 4; events = record { id = 1; window = Some (record { first = 3; length = 1 }) } ∷ record { id = 2; window = Some (record { first = 1; length = 2 }) } ∷ record { id = 3; window = Some (record { first = 0; length = 1 }) } ∷ []; activities = arc 1 3 1 (negsuc 0) (negsuc 0) 0 ∷ arc 2 3 3 (pos 1) (pos 3) 4 ∷ arc 3 1 2 (negsuc 1) (negsuc 1) 4 ∷ arc 5 1 1 (pos 3) (pos 4) 3 ∷ arc 6 3 3 (pos 4) (pos 5) 4 ∷ [] }) (record { period = 4; entries = (1, 2) ∷ (2, 1) ∷ (3, 0) ∷ [] }) ≡ Ok (record { id = 1; tension = pos 2; slack = 3 } ∷ record { id = 2; tension = pos 4; slack = 3 } ∷ record { id = 3; tension = negsuc 0; slack = 1 } ∷ record { id = 5; tension = pos 4; slack = 1 } ∷ record { id = 6; tension = pos 4; slack = 0 } ∷ [], of_.Activity 1 ∷ of_.Activity 2 ∷ of_.Activity 3 ∷ of_.Event 1 ∷ [], 19)
answers_9 = refl

answers_10 : answers (record { period = 9; events = new_event 1 ∷ new_event 2 ∷ record { id = 4; window = Some (record { first = 1; length = 8 }) } ∷ []; activities = arc 1 1 2 (pos 2) (pos 11) 4 ∷ [] }) (record { period = 9; entries = (1, 5) ∷ (2, 0) ∷ (4, 5) ∷ [] }) ≡ Ok (record { id = 1; tension = pos 4; slack = 2 } ∷ [], [], 8)
answers_10 = refl

answers_11 : answers (record { period = 9; events = record { id = 2; window = Some (record { first = 0; length = 8 }) } ∷ new_event 7 ∷ []; activities = arc 1 2 7 (pos 20) (pos 21) 3 ∷ arc 2 2 7 (pos 20) (pos 29) 0 ∷ arc 3 2 7 (pos 2) (pos 3) 2 ∷ arc 4 2 7 (pos 20) (pos 21) 0 ∷ [] }) (record { period = 9; entries = (2, 5) ∷ (7, 1) ∷ [] }) ≡ Ok (record { id = 1; tension = pos 23; slack = 3 } ∷ record { id = 2; tension = pos 23; slack = 3 } ∷ record { id = 3; tension = pos 5; slack = 3 } ∷ record { id = 4; tension = pos 23; slack = 3 } ∷ [], of_.Activity 1 ∷ of_.Activity 3 ∷ of_.Activity 4 ∷ [], 15)
answers_11 = refl

answers_12 : answers (record { period = 7; events = new_event 1 ∷ new_event 2 ∷ new_event 4 ∷ new_event 9 ∷ []; activities = arc 1 1 4 (negsuc 4) (pos 1) 4 ∷ arc 2 4 4 (negsuc 1) (pos 3) 2 ∷ arc 3 4 1 (negsuc 0) (pos 0) 4 ∷ arc 4 1 4 (negsuc 6) (negsuc 5) 4 ∷ arc 5 1 4 (pos 5) (pos 5) 0 ∷ arc 6 4 4 (negsuc 2) (negsuc 2) 3 ∷ [] }) (record { period = 7; entries = (2, 6) ∷ (4, 2) ∷ (9, 5) ∷ [] }) ≡ Err (no.MissingTime 1)
answers_12 = refl

answers_13 : answers (record { period = 11; events = new_event 1 ∷ new_event 2 ∷ new_event 3 ∷ []; activities = arc 1 3 3 (negsuc 3) (pos 2) 1000000000 ∷ arc 4 3 3 (pos 5) (pos 7) 1 ∷ arc 5 3 3 (pos 2) (pos 4) 3 ∷ arc 6 2 2 (negsuc 7) (negsuc 6) 0 ∷ [] }) (record { period = 11; entries = (1, 9) ∷ (2, 7) ∷ (3, 5) ∷ [] }) ≡ Ok (record { id = 1; tension = pos 0; slack = 4 } ∷ record { id = 4; tension = pos 11; slack = 6 } ∷ record { id = 5; tension = pos 11; slack = 9 } ∷ record { id = 6; tension = pos 0; slack = 8 } ∷ [], of_.Activity 4 ∷ of_.Activity 5 ∷ of_.Activity 6 ∷ [], 4000000033)
answers_13 = refl

answers_14 : answers (record { period = 7; events = record { id = 3; window = Some (record { first = 6; length = 6 }) } ∷ new_event 7 ∷ new_event 8 ∷ []; activities = arc 1 7 8 (negsuc 5) (pos 2) 2 ∷ arc 2 3 7 (pos 0) (pos 0) 0 ∷ arc 3 7 8 (pos 6) (pos 12) 1 ∷ arc 4 3 8 (negsuc 4) (negsuc 2) 3 ∷ [] }) (record { period = 7; entries = (3, 5) ∷ (7, 6) ∷ (8, 6) ∷ [] }) ≡ Ok (record { id = 1; tension = pos 0; slack = 6 } ∷ record { id = 2; tension = pos 1; slack = 1 } ∷ record { id = 3; tension = pos 7; slack = 1 } ∷ record { id = 4; tension = pos 1; slack = 6 } ∷ [], of_.Activity 2 ∷ of_.Activity 4 ∷ of_.Event 3 ∷ [], 31)
answers_14 = refl

answers_15 : answers (record { period = 2; events = new_event 1 ∷ record { id = 5; window = Some (record { first = 0; length = 2 }) } ∷ new_event 6 ∷ new_event 7 ∷ []; activities = arc 1 6 1 (pos 0) (pos 2) 0 ∷ arc 2 1 5 (pos 0) (pos 0) 4 ∷ [] }) (record { period = 2; entries = (1, 0) ∷ (5, 1) ∷ (6, 1) ∷ (7, 1) ∷ [] }) ≡ Ok (record { id = 1; tension = pos 1; slack = 1 } ∷ record { id = 2; tension = pos 1; slack = 1 } ∷ [], of_.Activity 2 ∷ [], 4)
answers_15 = refl

answers_16 : answers (record { period = 11; events = record { id = 1; window = Some (record { first = 3; length = 8 }) } ∷ new_event 2 ∷ new_event 6 ∷ []; activities = arc 1 2 1 (pos 5) (pos 9) 1 ∷ arc 2 1 2 (pos 15) (pos 26) 4 ∷ arc 3 6 2 (pos 2) (pos 5) 2 ∷ arc 4 2 1 (pos 18) (pos 20) 4 ∷ [] }) (record { period = 11; entries = (1, 3) ∷ (2, 3) ∷ (6, 5) ∷ [] }) ≡ Ok (record { id = 1; tension = pos 11; slack = 6 } ∷ record { id = 2; tension = pos 22; slack = 7 } ∷ record { id = 3; tension = pos 9; slack = 7 } ∷ record { id = 4; tension = pos 22; slack = 4 } ∷ [], of_.Activity 1 ∷ of_.Activity 3 ∷ of_.Activity 4 ∷ [], 64)
answers_16 = refl

answers_17 : answers (record { period = 6; events = new_event 3 ∷ record { id = 5; window = Some (record { first = 0; length = 5 }) } ∷ []; activities = arc 1 3 3 (pos 10) (pos 14) 4 ∷ arc 2 5 3 (pos 9) (pos 11) 2 ∷ arc 3 3 5 (pos 4) (pos 10) 1 ∷ [] }) (record { period = 6; entries = (3, 3) ∷ (5, 2) ∷ [] }) ≡ Ok (record { id = 1; tension = pos 12; slack = 2 } ∷ record { id = 2; tension = pos 13; slack = 4 } ∷ record { id = 3; tension = pos 5; slack = 1 } ∷ [], of_.Activity 2 ∷ [], 17)
answers_17 = refl

answers_18 : answers (record { period = 7; events = new_event 2 ∷ new_event 3 ∷ new_event 5 ∷ new_event 6 ∷ []; activities = arc 1 2 6 (negsuc 4) (pos 2) 1 ∷ arc 2 3 2 (negsuc 3) (negsuc 1) 3 ∷ [] }) (record { period = 7; entries = (2, 3) ∷ (3, 4) ∷ (5, 5) ∷ (6, 2) ∷ [] }) ≡ Ok (record { id = 1; tension = negsuc 0; slack = 4 } ∷ record { id = 2; tension = negsuc 0; slack = 3 } ∷ [], of_.Activity 2 ∷ [], 13)
answers_18 = refl

answers_19 : answers (record { period = 4; events = new_event 5 ∷ new_event 6 ∷ record { id = 9; window = Some (record { first = 3; length = 1 }) } ∷ []; activities = arc 1 6 5 (negsuc 4) (negsuc 0) 3 ∷ arc 2 5 6 (pos 0) (pos 5) 3 ∷ arc 3 5 6 (pos 7) (pos 10) 4 ∷ arc 4 5 6 (pos 2) (pos 3) 1 ∷ arc 5 6 5 (negsuc 8) (negsuc 4) 3 ∷ [] }) (record { period = 4; entries = (5, 1) ∷ (6, 1) ∷ (9, 3) ∷ [] }) ≡ Ok (record { id = 1; tension = negsuc 3; slack = 1 } ∷ record { id = 2; tension = pos 0; slack = 0 } ∷ record { id = 3; tension = pos 8; slack = 1 } ∷ record { id = 4; tension = pos 4; slack = 2 } ∷ record { id = 5; tension = negsuc 7; slack = 1 } ∷ [], of_.Activity 4 ∷ [], 12)
answers_19 = refl

answers_20 : answers (record { period = 3; events = new_event 1 ∷ new_event 4 ∷ record { id = 5; window = Some (record { first = 2; length = 3 }) } ∷ new_event 6 ∷ []; activities = arc 1 6 4 (pos 3) (pos 7) 3 ∷ arc 2 1 5 (negsuc 0) (pos 4) 3 ∷ arc 3 4 6 (pos 2) (pos 4) 2 ∷ arc 4 1 4 (negsuc 0) (negsuc 0) 2 ∷ arc 5 4 6 (negsuc 0) (pos 0) 4 ∷ [] }) (record { period = 3; entries = (1, 2) ∷ (4, 2) ∷ (5, 2) ∷ (6, 2) ∷ [] }) ≡ Ok (record { id = 1; tension = pos 3; slack = 0 } ∷ record { id = 2; tension = pos 0; slack = 1 } ∷ record { id = 3; tension = pos 3; slack = 1 } ∷ record { id = 4; tension = pos 0; slack = 1 } ∷ record { id = 5; tension = pos 0; slack = 1 } ∷ [], of_.Activity 4 ∷ [], 11)
answers_20 = refl

answers_21 : answers (record { period = 3; events = new_event 3 ∷ new_event 4 ∷ []; activities = arc 1 3 4 (pos 3) (pos 6) 3 ∷ arc 2 4 3 (pos 1) (pos 4) 0 ∷ arc 3 4 3 (pos 0) (pos 5) 2 ∷ [] }) (record { period = 3; entries = (3, 0) ∷ (4, 0) ∷ [] }) ≡ Ok (record { id = 1; tension = pos 3; slack = 0 } ∷ record { id = 2; tension = pos 3; slack = 2 } ∷ record { id = 3; tension = pos 0; slack = 0 } ∷ [], [], 0)
answers_21 = refl

answers_22 : answers (record { period = 6; events = new_event 1 ∷ new_event 2 ∷ new_event 3 ∷ []; activities = arc 1 1 1 (negsuc 3) (negsuc 2) 0 ∷ arc 2 1 3 (pos 1) (pos 2) 2 ∷ arc 3 3 3 (pos 1) (pos 3) 1 ∷ arc 6 1 1 (pos 2) (pos 7) 3 ∷ [] }) (record { period = 6; entries = (1, 3) ∷ (2, 2) ∷ (3, 4) ∷ [] }) ≡ Ok (record { id = 1; tension = pos 0; slack = 4 } ∷ record { id = 2; tension = pos 1; slack = 0 } ∷ record { id = 3; tension = pos 6; slack = 5 } ∷ record { id = 6; tension = pos 6; slack = 4 } ∷ [], of_.Activity 1 ∷ of_.Activity 3 ∷ [], 17)
answers_22 = refl

answers_23 : answers (record { period = 2; events = record { id = 1; window = Some (record { first = 1; length = 1 }) } ∷ record { id = 4; window = Some (record { first = 1; length = 1 }) } ∷ []; activities = arc 1 1 4 (negsuc 0) (pos 1) 2 ∷ arc 3 4 1 (pos 2) (pos 2) 3 ∷ arc 4 1 1 (pos 0) (pos 2) 1 ∷ arc 5 4 4 (negsuc 1) (pos 0) 3 ∷ arc 6 1 1 (negsuc 0) (pos 1) 3 ∷ [] }) (record { period = 2; entries = (1, 1) ∷ (4, 1) ∷ [] }) ≡ Ok (record { id = 1; tension = pos 0; slack = 1 } ∷ record { id = 3; tension = pos 2; slack = 0 } ∷ record { id = 4; tension = pos 0; slack = 0 } ∷ record { id = 5; tension = negsuc 1; slack = 0 } ∷ record { id = 6; tension = pos 0; slack = 1 } ∷ [], [], 5)
answers_23 = refl

answers_24 : answers (record { period = 8; events = record { id = 2; window = Some (record { first = 4; length = 5 }) } ∷ new_event 4 ∷ []; activities = arc 5 2 2 (negsuc 7) (negsuc 5) 3 ∷ [] }) (record { period = 8; entries = (2, 4) ∷ (4, 6) ∷ [] }) ≡ Ok (record { id = 5; tension = negsuc 7; slack = 0 } ∷ [], [], 0)
answers_24 = refl

answers_25 : answers (record { period = 12; events = record { id = 2; window = Some (record { first = 5; length = 12 }) } ∷ new_event 3 ∷ new_event 7 ∷ new_event 8 ∷ []; activities = arc 1 7 3 (pos 19) (pos 19) 4 ∷ arc 2 8 3 (negsuc 19) (negsuc 8) 3 ∷ [] }) (record { period = 12; entries = (2, 5) ∷ (3, 6) ∷ (8, 3) ∷ [] }) ≡ Err (no.MissingTime 7)
answers_25 = refl

answers_26 : answers (record { period = 11; events = record { id = 1; window = Some (record { first = 5; length = 7 }) } ∷ record { id = 3; window = Some (record { first = 2; length = 11 }) } ∷ new_event 5 ∷ new_event 7 ∷ []; activities = arc 1 7 3 (negsuc 5) (negsuc 2) 1 ∷ arc 2 7 5 (pos 8) (pos 19) 3 ∷ [] }) (record { period = 11; entries = (1, 2) ∷ (3, 5) ∷ (5, 4) ∷ (7, 9) ∷ [] }) ≡ Ok (record { id = 1; tension = negsuc 3; slack = 2 } ∷ record { id = 2; tension = pos 17; slack = 9 } ∷ [], of_.Event 1 ∷ [], 29)
answers_26 = refl

answers_27 : answers (record { period = 5; events = new_event 2 ∷ new_event 8 ∷ []; activities = arc 1 8 2 (pos 1) (pos 2) 0 ∷ arc 2 8 2 (pos 10) (pos 12) 0 ∷ [] }) (record { period = 5; entries = (2, 1) ∷ (8, 4) ∷ [] }) ≡ Ok (record { id = 1; tension = pos 2; slack = 1 } ∷ record { id = 2; tension = pos 12; slack = 2 } ∷ [], [], 0)
answers_27 = refl

answers_28 : answers (record { period = 5; events = new_event 2 ∷ record { id = 3; window = Some (record { first = 1; length = 1 }) } ∷ new_event 4 ∷ []; activities = arc 1 2 2 (negsuc 2) (pos 0) 1000000000 ∷ arc 3 4 3 (pos 1) (pos 3) 0 ∷ arc 4 4 4 (pos 3) (pos 6) 2 ∷ arc 5 3 3 (negsuc 1) (pos 0) 0 ∷ [] }) (record { period = 5; entries = (3, 1) ∷ (4, 4) ∷ [] }) ≡ Err (no.MissingTime 2)
answers_28 = refl

answers_29 : answers (record { period = 8; events = new_event 1 ∷ new_event 2 ∷ new_event 3 ∷ []; activities = arc 2 2 1 (negsuc 7) (negsuc 6) 0 ∷ arc 3 2 1 (pos 8) (pos 10) 1 ∷ arc 6 1 1 (pos 3) (pos 6) 4 ∷ [] }) (record { period = 8; entries = (1, 0) ∷ (2, 7) ∷ (3, 6) ∷ [] }) ≡ Ok (record { id = 2; tension = negsuc 6; slack = 1 } ∷ record { id = 3; tension = pos 9; slack = 1 } ∷ record { id = 6; tension = pos 8; slack = 5 } ∷ [], of_.Activity 6 ∷ [], 21)
answers_29 = refl

answers_30 : answers (record { period = 11; events = new_event 1 ∷ new_event 2 ∷ new_event 3 ∷ new_event 4 ∷ []; activities = arc 1 1 1 (pos 0) (pos 5) 2 ∷ arc 3 4 3 (negsuc 0) (negsuc 0) 0 ∷ arc 4 2 2 (negsuc 4) (negsuc 4) 1 ∷ arc 5 1 2 (pos 11) (pos 21) 1 ∷ arc 6 3 4 (pos 7) (pos 7) 0 ∷ arc 77 4 4 (pos 8) (pos 9) 0 ∷ [] }) (record { period = 11; entries = (1, 9) ∷ (2, 7) ∷ (3, 8) ∷ (4, 3) ∷ [] }) ≡ Ok (record { id = 1; tension = pos 0; slack = 0 } ∷ record { id = 3; tension = pos 5; slack = 6 } ∷ record { id = 4; tension = pos 0; slack = 5 } ∷ record { id = 5; tension = pos 20; slack = 9 } ∷ record { id = 6; tension = pos 17; slack = 10 } ∷ record { id = 77; tension = pos 11; slack = 3 } ∷ [], of_.Activity 3 ∷ of_.Activity 4 ∷ of_.Activity 6 ∷ of_.Activity 77 ∷ [], 14)
answers_30 = refl

answers_31 : answers (record { period = 4; events = new_event 1 ∷ new_event 2 ∷ record { id = 3; window = Some (record { first = 3; length = 1 }) } ∷ new_event 4 ∷ []; activities = arc 4 1 3 (negsuc 3) (negsuc 3) 4 ∷ [] }) (record { period = 4; entries = (1, 3) ∷ (2, 0) ∷ (3, 0) ∷ (4, 3) ∷ [] }) ≡ Ok (record { id = 4; tension = negsuc 2; slack = 1 } ∷ [], of_.Activity 4 ∷ of_.Event 3 ∷ [], 4)
answers_31 = refl

answers_32 : answers (record { period = 7; events = new_event 2 ∷ record { id = 4; window = Some (record { first = 5; length = 6 }) } ∷ record { id = 7; window = Some (record { first = 1; length = 7 }) } ∷ new_event 9 ∷ []; activities = arc 1 9 4 (negsuc 7) (negsuc 6) 0 ∷ [] }) (record { period = 7; entries = (2, 2) ∷ (4, 5) ∷ (7, 5) ∷ (9, 3) ∷ [] }) ≡ Ok (record { id = 1; tension = negsuc 4; slack = 3 } ∷ [], of_.Activity 1 ∷ [], 0)
answers_32 = refl

answers_33 : answers (record { period = 10; events = new_event 2 ∷ new_event 3 ∷ new_event 4 ∷ []; activities = arc 3 4 4 (negsuc 6) (negsuc 1) 3 ∷ [] }) (record { period = 10; entries = (2, 5) ∷ (3, 5) ∷ (4, 3) ∷ [] }) ≡ Ok (record { id = 3; tension = pos 0; slack = 7 } ∷ [], of_.Activity 3 ∷ [], 21)
answers_33 = refl

answers_34 : answers (record { period = 11; events = new_event 2 ∷ record { id = 5; window = Some (record { first = 0; length = 6 }) } ∷ record { id = 6; window = Some (record { first = 2; length = 7 }) } ∷ new_event 9 ∷ []; activities = arc 1 2 9 (negsuc 3) (negsuc 1) 3 ∷ arc 2 5 6 (pos 26) (pos 28) 1 ∷ arc 3 9 6 (pos 16) (pos 28) 0 ∷ arc 4 5 9 (pos 11) (pos 12) 4 ∷ [] }) (record { period = 11; entries = (2, 0) ∷ (5, 8) ∷ (6, 10) ∷ (9, 1) ∷ [] }) ≡ Ok (record { id = 1; tension = pos 1; slack = 5 } ∷ record { id = 2; tension = pos 35; slack = 9 } ∷ record { id = 3; tension = pos 20; slack = 4 } ∷ record { id = 4; tension = pos 15; slack = 4 } ∷ [], of_.Activity 1 ∷ of_.Activity 2 ∷ of_.Activity 4 ∷ of_.Event 5 ∷ of_.Event 6 ∷ [], 40)
answers_34 = refl

answers_35 : answers (record { period = 5; events = new_event 1 ∷ new_event 7 ∷ []; activities = arc 1 7 1 (negsuc 7) (negsuc 5) 4 ∷ [] }) (record { period = 5; entries = (1, 3) ∷ (7, 3) ∷ [] }) ≡ Ok (record { id = 1; tension = negsuc 4; slack = 3 } ∷ [], of_.Activity 1 ∷ [], 12)
answers_35 = refl

answers_36 : answers (record { period = 3; events = new_event 1 ∷ record { id = 3; window = Some (record { first = 2; length = 3 }) } ∷ record { id = 8; window = Some (record { first = 2; length = 3 }) } ∷ new_event 9 ∷ []; activities = arc 1 3 9 (pos 4) (pos 4) 3 ∷ arc 2 9 3 (pos 6) (pos 7) 3 ∷ arc 3 1 8 (pos 3) (pos 6) 3 ∷ arc 4 1 9 (pos 7) (pos 9) 3 ∷ [] }) (record { period = 3; entries = (1, 0) ∷ (3, 1) ∷ (8, 2) ∷ (9, 0) ∷ [] }) ≡ Ok (record { id = 1; tension = pos 5; slack = 1 } ∷ record { id = 2; tension = pos 7; slack = 1 } ∷ record { id = 3; tension = pos 5; slack = 2 } ∷ record { id = 4; tension = pos 9; slack = 2 } ∷ [], of_.Activity 1 ∷ [], 18)
answers_36 = refl

answers_37 : answers (record { period = 3; events = record { id = 1; window = Some (record { first = 1; length = 2 }) } ∷ record { id = 4; window = Some (record { first = 2; length = 3 }) } ∷ new_event 6 ∷ []; activities = arc 1 4 1 (negsuc 1) (pos 0) 2 ∷ arc 2 1 6 (negsuc 3) (negsuc 0) 0 ∷ arc 3 4 1 (pos 7) (pos 7) 3 ∷ [] }) (record { period = 3; entries = (1, 1) ∷ (4, 2) ∷ (6, 1) ∷ [] }) ≡ Ok (record { id = 1; tension = negsuc 0; slack = 1 } ∷ record { id = 2; tension = negsuc 2; slack = 1 } ∷ record { id = 3; tension = pos 8; slack = 1 } ∷ [], of_.Activity 3 ∷ [], 5)
answers_37 = refl

answers_38 : answers (record { period = 10; events = new_event 1 ∷ new_event 2 ∷ []; activities = arc 2 1 1 (negsuc 3) (negsuc 3) 3 ∷ arc 4 2 2 (negsuc 7) (negsuc 5) 1 ∷ arc 6 1 2 (pos 7) (pos 7) 2 ∷ arc 999999999 1 1 (pos 9) (pos 15) 1 ∷ [] }) (record { period = 10; entries = (1, 8) ∷ (2, 8) ∷ [] }) ≡ Ok (record { id = 2; tension = pos 0; slack = 4 } ∷ record { id = 4; tension = pos 0; slack = 8 } ∷ record { id = 6; tension = pos 10; slack = 3 } ∷ record { id = 999999999; tension = pos 10; slack = 1 } ∷ [], of_.Activity 2 ∷ of_.Activity 4 ∷ of_.Activity 6 ∷ [], 27)
answers_38 = refl

answers_39 : answers (record { period = 8; events = new_event 1 ∷ new_event 2 ∷ new_event 4 ∷ []; activities = arc 1 2 1 (negsuc 3) (negsuc 1) 1 ∷ arc 5 1 1 (negsuc 6) (negsuc 0) 3 ∷ [] }) (record { period = 8; entries = (2, 5) ∷ (4, 0) ∷ [] }) ≡ Err (no.MissingTime 1)
answers_39 = refl

answers_40 : answers (record { period = 2; events = new_event 1 ∷ new_event 2 ∷ new_event 6 ∷ record { id = 8; window = Some (record { first = 1; length = 2 }) } ∷ []; activities = arc 1 2 6 (pos 1) (pos 4) 1 ∷ [] }) (record { period = 2; entries = (1, 0) ∷ (2, 0) ∷ (6, 1) ∷ (8, 1) ∷ [] }) ≡ Ok (record { id = 1; tension = pos 1; slack = 0 } ∷ [], [], 0)
answers_40 = refl

answers_41 : answers (record { period = 3; events = record { id = 1; window = Some (record { first = 1; length = 3 }) } ∷ record { id = 2; window = Some (record { first = 2; length = 1 }) } ∷ new_event 3 ∷ new_event 4 ∷ []; activities = arc 1 2 1 (pos 0) (pos 0) 3 ∷ arc 4 2 1 (pos 2) (pos 2) 2 ∷ arc 6 1 1 (pos 3) (pos 4) 1000000000 ∷ [] }) (record { period = 3; entries = (1, 1) ∷ (2, 1) ∷ (3, 0) ∷ (4, 2) ∷ [] }) ≡ Ok (record { id = 1; tension = pos 0; slack = 0 } ∷ record { id = 4; tension = pos 3; slack = 1 } ∷ record { id = 6; tension = pos 3; slack = 0 } ∷ [], of_.Activity 4 ∷ of_.Event 2 ∷ [], 2)
answers_41 = refl

answers_42 : answers (record { period = 5; events = new_event 3 ∷ new_event 8 ∷ []; activities = arc 1 3 8 (pos 10) (pos 12) 0 ∷ arc 2 8 3 (pos 3) (pos 5) 1 ∷ arc 3 3 3 (pos 10) (pos 12) 1 ∷ [] }) (record { period = 5; entries = (3, 4) ∷ (8, 0) ∷ [] }) ≡ Ok (record { id = 1; tension = pos 11; slack = 1 } ∷ record { id = 2; tension = pos 4; slack = 1 } ∷ record { id = 3; tension = pos 10; slack = 0 } ∷ [], [], 1)
answers_42 = refl

answers_43 : answers (record { period = 12; events = new_event 3 ∷ new_event 4 ∷ []; activities = arc 1 3 4 (negsuc 10) (negsuc 7) 1 ∷ arc 2 4 3 (negsuc 2) (negsuc 0) 1 ∷ arc 3 3 4 (pos 27) (pos 28) 4 ∷ [] }) (record { period = 12; entries = (3, 2) ∷ (4, 3) ∷ [] }) ≡ Ok (record { id = 1; tension = negsuc 10; slack = 0 } ∷ record { id = 2; tension = negsuc 0; slack = 2 } ∷ record { id = 3; tension = pos 37; slack = 10 } ∷ [], of_.Activity 3 ∷ [], 42)
answers_43 = refl

answers_44 : answers (record { period = 7; events = new_event 3 ∷ record { id = 4; window = Some (record { first = 5; length = 7 }) } ∷ new_event 5 ∷ new_event 6 ∷ []; activities = arc 1 4 5 (negsuc 3) (negsuc 2) 0 ∷ arc 2 3 6 (pos 5) (pos 12) 4 ∷ arc 3 6 5 (negsuc 5) (negsuc 5) 2 ∷ arc 4 4 5 (pos 3) (pos 4) 1 ∷ [] }) (record { period = 7; entries = (3, 0) ∷ (4, 6) ∷ (5, 1) ∷ (6, 2) ∷ [] }) ≡ Ok (record { id = 1; tension = pos 2; slack = 6 } ∷ record { id = 2; tension = pos 9; slack = 4 } ∷ record { id = 3; tension = negsuc 0; slack = 5 } ∷ record { id = 4; tension = pos 9; slack = 6 } ∷ [], of_.Activity 1 ∷ of_.Activity 3 ∷ of_.Activity 4 ∷ [], 32)
answers_44 = refl

answers_45 : answers (record { period = 6; events = new_event 1 ∷ new_event 2 ∷ new_event 3 ∷ new_event 4 ∷ []; activities = arc 1 1 4 (pos 5) (pos 6) 0 ∷ arc 2 4 3 (negsuc 5) (negsuc 5) 1 ∷ arc 3 1 3 (negsuc 0) (pos 0) 4 ∷ arc 4 2 2 (pos 3) (pos 3) 0 ∷ arc 5 1 3 (negsuc 4) (negsuc 2) 1 ∷ arc 6 2 4 (negsuc 3) (negsuc 1) 0 ∷ [] }) (record { period = 6; entries = (1, 1) ∷ (2, 5) ∷ (4, 3) ∷ [] }) ≡ Err (no.MissingTime 3)
answers_45 = refl

answers_46 : answers (record { period = 7; events = new_event 6 ∷ record { id = 8; window = Some (record { first = 4; length = 5 }) } ∷ []; activities = arc 1 8 6 (pos 7) (pos 9) 1 ∷ arc 2 6 6 (pos 6) (pos 9) 1 ∷ arc 3 6 8 (pos 6) (pos 7) 3 ∷ arc 4 6 8 (pos 0) (pos 2) 3 ∷ [] }) (record { period = 7; entries = (6, 6) ∷ (8, 2) ∷ [] }) ≡ Ok (record { id = 1; tension = pos 11; slack = 4 } ∷ record { id = 2; tension = pos 7; slack = 1 } ∷ record { id = 3; tension = pos 10; slack = 4 } ∷ record { id = 4; tension = pos 3; slack = 3 } ∷ [], of_.Activity 1 ∷ of_.Activity 3 ∷ of_.Activity 4 ∷ of_.Event 8 ∷ [], 26)
answers_46 = refl

answers_47 : answers (record { period = 2; events = record { id = 3; window = Some (record { first = 1; length = 2 }) } ∷ new_event 4 ∷ []; activities = arc 1 4 3 (pos 3) (pos 6) 1 ∷ arc 2 4 3 (pos 0) (pos 2) 3 ∷ arc 3 3 4 (pos 2) (pos 4) 3 ∷ arc 4 4 3 (pos 2) (pos 4) 1 ∷ arc 5 4 4 (pos 4) (pos 6) 4 ∷ [] }) (record { period = 2; entries = (3, 0) ∷ (4, 0) ∷ [] }) ≡ Ok (record { id = 1; tension = pos 4; slack = 1 } ∷ record { id = 2; tension = pos 0; slack = 0 } ∷ record { id = 3; tension = pos 2; slack = 0 } ∷ record { id = 4; tension = pos 2; slack = 0 } ∷ record { id = 5; tension = pos 4; slack = 0 } ∷ [], [], 1)
answers_47 = refl

answers_48 : answers (record { period = 12; events = record { id = 5; window = Some (record { first = 11; length = 7 }) } ∷ record { id = 7; window = Some (record { first = 3; length = 4 }) } ∷ []; activities = arc 1 7 7 (pos 11) (pos 13) 1 ∷ arc 2 7 7 (pos 24) (pos 25) 1 ∷ arc 3 5 7 (negsuc 10) (negsuc 6) 0 ∷ [] }) (record { period = 12; entries = (5, 1) ∷ (7, 10) ∷ [] }) ≡ Ok (record { id = 1; tension = pos 12; slack = 1 } ∷ record { id = 2; tension = pos 24; slack = 0 } ∷ record { id = 3; tension = negsuc 2; slack = 8 } ∷ [], of_.Activity 3 ∷ of_.Event 7 ∷ [], 1)
answers_48 = refl

answers_49 : answers (record { period = 9; events = new_event 5 ∷ new_event 6 ∷ new_event 9 ∷ []; activities = arc 1 6 5 (pos 14) (pos 15) 1 ∷ arc 2 9 5 (pos 1) (pos 2) 3 ∷ [] }) (record { period = 9; entries = (5, 8) ∷ (6, 8) ∷ (9, 4) ∷ [] }) ≡ Ok (record { id = 1; tension = pos 18; slack = 4 } ∷ record { id = 2; tension = pos 4; slack = 3 } ∷ [], of_.Activity 1 ∷ of_.Activity 2 ∷ [], 13)
answers_49 = refl

answers_50 : answers (record { period = 10; events = new_event 1 ∷ new_event 2 ∷ []; activities = arc 1 1 2 (pos 21) (pos 23) 4 ∷ arc 2 1 1 (negsuc 13) (negsuc 9) 1 ∷ [] }) (record { period = 10; entries = (1, 9) ∷ (2, 8) ∷ [] }) ≡ Ok (record { id = 1; tension = pos 29; slack = 8 } ∷ record { id = 2; tension = negsuc 9; slack = 4 } ∷ [], of_.Activity 1 ∷ [], 36)
answers_50 = refl

answers_51 : answers (record { period = 6; events = record { id = 1; window = Some (record { first = 5; length = 2 }) } ∷ new_event 2 ∷ record { id = 4; window = Some (record { first = 5; length = 1 }) } ∷ []; activities = arc 1 4 2 (pos 3) (pos 3) 4 ∷ arc 2 1 4 (negsuc 3) (negsuc 1) 3 ∷ arc 3 2 2 (pos 4) (pos 5) 2 ∷ arc 4 4 4 (negsuc 0) (pos 1) 0 ∷ arc 5 1 2 (negsuc 0) (pos 0) 3 ∷ arc 6 4 2 (pos 4) (pos 6) 1 ∷ [] }) (record { period = 6; entries = (1, 0) ∷ (4, 1) ∷ [] }) ≡ Err (no.MissingTime 2)
answers_51 = refl

answers_52 : answers (record { period = 9; events = new_event 3 ∷ record { id = 4; window = Some (record { first = 3; length = 8 }) } ∷ new_event 5 ∷ []; activities = arc 1 5 4 (pos 5) (pos 6) 0 ∷ arc 2 4 3 (negsuc 5) (negsuc 4) 0 ∷ arc 3 5 3 (negsuc 8) (negsuc 8) 3 ∷ [] }) (record { period = 9; entries = (3, 2) ∷ (4, 7) ∷ (5, 7) ∷ [] }) ≡ Ok (record { id = 1; tension = pos 9; slack = 4 } ∷ record { id = 2; tension = negsuc 4; slack = 1 } ∷ record { id = 3; tension = negsuc 4; slack = 4 } ∷ [], of_.Activity 1 ∷ of_.Activity 3 ∷ [], 12)
answers_52 = refl

answers_53 : answers (record { period = 5; events = new_event 1 ∷ new_event 2 ∷ new_event 3 ∷ record { id = 4; window = Some (record { first = 2; length = 1 }) } ∷ []; activities = arc 1 1 4 (negsuc 4) (negsuc 2) 0 ∷ arc 2 2 1 (negsuc 4) (negsuc 2) 4 ∷ arc 4 2 2 (pos 5) (pos 7) 0 ∷ arc 5 1 2 (negsuc 1) (pos 1) 4 ∷ arc 6 3 2 (negsuc 2) (negsuc 2) 1 ∷ [] }) (record { period = 5; entries = (1, 3) ∷ (2, 2) ∷ (3, 1) ∷ (4, 4) ∷ [] }) ≡ Ok (record { id = 1; tension = negsuc 3; slack = 1 } ∷ record { id = 2; tension = negsuc 3; slack = 1 } ∷ record { id = 4; tension = pos 5; slack = 0 } ∷ record { id = 5; tension = negsuc 0; slack = 1 } ∷ record { id = 6; tension = pos 1; slack = 4 } ∷ [], of_.Activity 6 ∷ of_.Event 4 ∷ [], 12)
answers_53 = refl

answers_54 : answers (record { period = 9; events = new_event 2 ∷ new_event 4 ∷ new_event 6 ∷ new_event 8 ∷ []; activities = arc 1 2 4 (pos 9) (pos 11) 0 ∷ arc 2 6 2 (negsuc 9) (pos 0) 2 ∷ arc 3 6 8 (pos 18) (pos 18) 1 ∷ arc 4 6 2 (pos 9) (pos 10) 2 ∷ arc 5 6 8 (negsuc 8) (negsuc 6) 2 ∷ [] }) (record { period = 9; entries = (2, 6) ∷ (4, 7) ∷ (8, 1) ∷ [] }) ≡ Err (no.MissingTime 6)
answers_54 = refl

answers_55 : answers (record { period = 9; events = new_event 2 ∷ new_event 3 ∷ new_event 4 ∷ []; activities = arc 2 2 2 (negsuc 4) (negsuc 3) 1 ∷ arc 5 4 4 (negsuc 7) (negsuc 6) 1 ∷ [] }) (record { period = 9; entries = (2, 2) ∷ (3, 3) ∷ (4, 4) ∷ [] }) ≡ Ok (record { id = 2; tension = pos 0; slack = 5 } ∷ record { id = 5; tension = pos 0; slack = 8 } ∷ [], of_.Activity 2 ∷ of_.Activity 5 ∷ [], 13)
answers_55 = refl

answers_56 : answers (record { period = 10; events = new_event 1 ∷ new_event 2 ∷ new_event 8 ∷ new_event 9 ∷ []; activities = arc 1 8 2 (pos 26) (pos 26) 0 ∷ [] }) (record { period = 10; entries = (1, 7) ∷ (2, 1) ∷ (8, 8) ∷ (9, 7) ∷ [] }) ≡ Ok (record { id = 1; tension = pos 33; slack = 7 } ∷ [], of_.Activity 1 ∷ [], 0)
answers_56 = refl

answers_57 : answers (record { period = 7; events = record { id = 3; window = Some (record { first = 1; length = 5 }) } ∷ new_event 4 ∷ []; activities = arc 1 3 3 (negsuc 0) (pos 0) 1 ∷ arc 2 4 3 (pos 7) (pos 7) 2 ∷ arc 3 4 3 (pos 0) (pos 2) 0 ∷ arc 5 4 4 (negsuc 3) (negsuc 3) 1 ∷ arc 6 4 3 (negsuc 3) (negsuc 2) 0 ∷ [] }) (record { period = 7; entries = (3, 0) ∷ (4, 4) ∷ [] }) ≡ Ok (record { id = 1; tension = pos 0; slack = 1 } ∷ record { id = 2; tension = pos 10; slack = 3 } ∷ record { id = 3; tension = pos 3; slack = 3 } ∷ record { id = 5; tension = pos 0; slack = 4 } ∷ record { id = 6; tension = negsuc 3; slack = 0 } ∷ [], of_.Activity 2 ∷ of_.Activity 3 ∷ of_.Activity 5 ∷ of_.Event 3 ∷ [], 11)
answers_57 = refl

answers_58 : answers (record { period = 2; events = new_event 1 ∷ new_event 3 ∷ record { id = 7; window = Some (record { first = 1; length = 1 }) } ∷ new_event 8 ∷ []; activities = arc 1 7 8 (negsuc 2) (negsuc 0) 0 ∷ [] }) (record { period = 2; entries = (1, 1) ∷ (3, 0) ∷ (7, 1) ∷ (8, 1) ∷ [] }) ≡ Ok (record { id = 1; tension = negsuc 1; slack = 1 } ∷ [], [], 0)
answers_58 = refl

answers_59 : answers (record { period = 4; events = new_event 1 ∷ record { id = 2; window = Some (record { first = 0; length = 1 }) } ∷ new_event 3 ∷ []; activities = arc 1 1 2 (pos 2) (pos 3) 0 ∷ arc 2 2 1 (negsuc 0) (pos 2) 0 ∷ arc 3 2 2 (negsuc 1) (pos 0) 1 ∷ arc 5 1 1 (pos 4) (pos 5) 2 ∷ arc 6 1 1 (negsuc 0) (pos 1) 0 ∷ [] }) (record { period = 4; entries = (1, 2) ∷ (2, 1) ∷ (3, 2) ∷ [] }) ≡ Ok (record { id = 1; tension = pos 3; slack = 1 } ∷ record { id = 2; tension = pos 1; slack = 2 } ∷ record { id = 3; tension = pos 0; slack = 2 } ∷ record { id = 5; tension = pos 4; slack = 0 } ∷ record { id = 6; tension = pos 0; slack = 1 } ∷ [], of_.Event 2 ∷ [], 2)
answers_59 = refl

changes_0 : set_time (record { period = 10; entries = [] }) 2 8 ∷ (set_time (record { period = 10; entries = (2, 8) ∷ [] }) 4 10) ∷ (set_time (record { period = 10; entries = (2, 8) ∷ [] }) 4 5) ∷ (set_time (record { period = 10; entries = (2, 8) ∷ (4, 5) ∷ [] }) 1 5) ∷ (Ok (without_time (record { period = 10; entries = (1, 5) ∷ (2, 8) ∷ (4, 5) ∷ [] }) 4)) ∷ (Ok (without_time (record { period = 10; entries = (1, 5) ∷ (2, 8) ∷ [] }) 1)) ∷ (Ok (without_time (record { period = 10; entries = (2, 8) ∷ [] }) 2)) ∷ set_time (record { period = 10; entries = [] }) 1 0 ∷ (Ok (without_time (record { period = 10; entries = (1, 0) ∷ [] }) 1)) ∷ set_time (record { period = 10; entries = [] }) 2 2 ∷ (set_time (record { period = 10; entries = (2, 2) ∷ [] }) 4 4) ∷ (Ok (without_time (record { period = 10; entries = (2, 2) ∷ (4, 4) ∷ [] }) 2)) ∷ [] ≡ (Ok (record { period = 10; entries = (2, 8) ∷ [] })) ∷ Err (no.TimeOutOfRange 10) ∷ (Ok (record { period = 10; entries = (2, 8) ∷ (4, 5) ∷ [] })) ∷ (Ok (record { period = 10; entries = (1, 5) ∷ (2, 8) ∷ (4, 5) ∷ [] })) ∷ (Ok (record { period = 10; entries = (1, 5) ∷ (2, 8) ∷ [] })) ∷ (Ok (record { period = 10; entries = (2, 8) ∷ [] })) ∷ Ok (record { period = 10; entries = [] }) ∷ (Ok (record { period = 10; entries = (1, 0) ∷ [] })) ∷ Ok (record { period = 10; entries = [] }) ∷ (Ok (record { period = 10; entries = (2, 2) ∷ [] })) ∷ (Ok (record { period = 10; entries = (2, 2) ∷ (4, 4) ∷ [] })) ∷ (Ok (record { period = 10; entries = (4, 4) ∷ [] })) ∷ []
changes_0 = refl

changes_1 : set_time (record { period = 10; entries = [] }) 3 5 ∷ (Ok (without_time (record { period = 10; entries = (3, 5) ∷ [] }) 3)) ∷ set_time (record { period = 10; entries = [] }) 3 11 ∷ set_time (record { period = 10; entries = [] }) 4 0 ∷ (Ok (without_time (record { period = 10; entries = (4, 0) ∷ [] }) 4)) ∷ set_time (record { period = 10; entries = [] }) 2 9 ∷ (set_time (record { period = 10; entries = (2, 9) ∷ [] }) 3 11) ∷ (Ok (without_time (record { period = 10; entries = (2, 9) ∷ [] }) 2)) ∷ set_time (record { period = 10; entries = [] }) 3 7 ∷ (Ok (without_time (record { period = 10; entries = (3, 7) ∷ [] }) 3)) ∷ set_time (record { period = 10; entries = [] }) 3 6 ∷ (Ok (without_time (record { period = 10; entries = (3, 6) ∷ [] }) 3)) ∷ [] ≡ (Ok (record { period = 10; entries = (3, 5) ∷ [] })) ∷ Ok (record { period = 10; entries = [] }) ∷ Err (no.TimeOutOfRange 11) ∷ (Ok (record { period = 10; entries = (4, 0) ∷ [] })) ∷ Ok (record { period = 10; entries = [] }) ∷ (Ok (record { period = 10; entries = (2, 9) ∷ [] })) ∷ Err (no.TimeOutOfRange 11) ∷ Ok (record { period = 10; entries = [] }) ∷ (Ok (record { period = 10; entries = (3, 7) ∷ [] })) ∷ Ok (record { period = 10; entries = [] }) ∷ (Ok (record { period = 10; entries = (3, 6) ∷ [] })) ∷ Ok (record { period = 10; entries = [] }) ∷ []
changes_1 = refl

changes_2 : set_time (record { period = 2; entries = [] }) 2 0 ∷ (Ok (without_time (record { period = 2; entries = (2, 0) ∷ [] }) 2)) ∷ set_time (record { period = 2; entries = [] }) 4 1 ∷ (set_time (record { period = 2; entries = (4, 1) ∷ [] }) 1 3) ∷ (Ok (without_time (record { period = 2; entries = (4, 1) ∷ [] }) 4)) ∷ set_time (record { period = 2; entries = [] }) 2 3 ∷ set_time (record { period = 2; entries = [] }) 2 1 ∷ (Ok (without_time (record { period = 2; entries = (2, 1) ∷ [] }) 2)) ∷ set_time (record { period = 2; entries = [] }) 3 1 ∷ (set_time (record { period = 2; entries = (3, 1) ∷ [] }) 4 3) ∷ (set_time (record { period = 2; entries = (3, 1) ∷ [] }) 3 3) ∷ (Ok (without_time (record { period = 2; entries = (3, 1) ∷ [] }) 3)) ∷ [] ≡ (Ok (record { period = 2; entries = (2, 0) ∷ [] })) ∷ Ok (record { period = 2; entries = [] }) ∷ (Ok (record { period = 2; entries = (4, 1) ∷ [] })) ∷ Err (no.TimeOutOfRange 3) ∷ Ok (record { period = 2; entries = [] }) ∷ Err (no.TimeOutOfRange 3) ∷ (Ok (record { period = 2; entries = (2, 1) ∷ [] })) ∷ Ok (record { period = 2; entries = [] }) ∷ (Ok (record { period = 2; entries = (3, 1) ∷ [] })) ∷ Err (no.TimeOutOfRange 3) ∷ Err (no.TimeOutOfRange 3) ∷ Ok (record { period = 2; entries = [] }) ∷ []
changes_2 = refl

changes_3 : set_time (record { period = 10; entries = [] }) 4 6 ∷ (set_time (record { period = 10; entries = (4, 6) ∷ [] }) 4 4) ∷ (set_time (record { period = 10; entries = (4, 4) ∷ [] }) 3 4) ∷ (Ok (without_time (record { period = 10; entries = (3, 4) ∷ (4, 4) ∷ [] }) 3)) ∷ (Ok (without_time (record { period = 10; entries = (4, 4) ∷ [] }) 4)) ∷ set_time (record { period = 10; entries = [] }) 2 4 ∷ (Ok (without_time (record { period = 10; entries = (2, 4) ∷ [] }) 2)) ∷ set_time (record { period = 10; entries = [] }) 2 9 ∷ (set_time (record { period = 10; entries = (2, 9) ∷ [] }) 1 0) ∷ (set_time (record { period = 10; entries = (1, 0) ∷ (2, 9) ∷ [] }) 3 11) ∷ (Ok (without_time (record { period = 10; entries = (1, 0) ∷ (2, 9) ∷ [] }) 2)) ∷ (set_time (record { period = 10; entries = (1, 0) ∷ [] }) 2 2) ∷ [] ≡ (Ok (record { period = 10; entries = (4, 6) ∷ [] })) ∷ (Ok (record { period = 10; entries = (4, 4) ∷ [] })) ∷ (Ok (record { period = 10; entries = (3, 4) ∷ (4, 4) ∷ [] })) ∷ (Ok (record { period = 10; entries = (4, 4) ∷ [] })) ∷ Ok (record { period = 10; entries = [] }) ∷ (Ok (record { period = 10; entries = (2, 4) ∷ [] })) ∷ Ok (record { period = 10; entries = [] }) ∷ (Ok (record { period = 10; entries = (2, 9) ∷ [] })) ∷ (Ok (record { period = 10; entries = (1, 0) ∷ (2, 9) ∷ [] })) ∷ Err (no.TimeOutOfRange 11) ∷ (Ok (record { period = 10; entries = (1, 0) ∷ [] })) ∷ (Ok (record { period = 10; entries = (1, 0) ∷ (2, 2) ∷ [] })) ∷ []
changes_3 = refl

changes_4 : set_time (record { period = 10; entries = [] }) 1 6 ∷ (set_time (record { period = 10; entries = (1, 6) ∷ [] }) 2 9) ∷ (set_time (record { period = 10; entries = (1, 6) ∷ (2, 9) ∷ [] }) 1 4) ∷ (Ok (without_time (record { period = 10; entries = (1, 4) ∷ (2, 9) ∷ [] }) 1)) ∷ (set_time (record { period = 10; entries = (2, 9) ∷ [] }) 2 11) ∷ (set_time (record { period = 10; entries = (2, 9) ∷ [] }) 2 3) ∷ (set_time (record { period = 10; entries = (2, 3) ∷ [] }) 3 5) ∷ (Ok (without_time (record { period = 10; entries = (2, 3) ∷ (3, 5) ∷ [] }) 3)) ∷ (set_time (record { period = 10; entries = (2, 3) ∷ [] }) 1 10) ∷ (set_time (record { period = 10; entries = (2, 3) ∷ [] }) 2 2) ∷ (set_time (record { period = 10; entries = (2, 2) ∷ [] }) 4 11) ∷ (Ok (without_time (record { period = 10; entries = (2, 2) ∷ [] }) 2)) ∷ [] ≡ (Ok (record { period = 10; entries = (1, 6) ∷ [] })) ∷ (Ok (record { period = 10; entries = (1, 6) ∷ (2, 9) ∷ [] })) ∷ (Ok (record { period = 10; entries = (1, 4) ∷ (2, 9) ∷ [] })) ∷ (Ok (record { period = 10; entries = (2, 9) ∷ [] })) ∷ Err (no.TimeOutOfRange 11) ∷ (Ok (record { period = 10; entries = (2, 3) ∷ [] })) ∷ (Ok (record { period = 10; entries = (2, 3) ∷ (3, 5) ∷ [] })) ∷ (Ok (record { period = 10; entries = (2, 3) ∷ [] })) ∷ Err (no.TimeOutOfRange 10) ∷ (Ok (record { period = 10; entries = (2, 2) ∷ [] })) ∷ Err (no.TimeOutOfRange 11) ∷ Ok (record { period = 10; entries = [] }) ∷ []
changes_4 = refl

changes_5 : set_time (record { period = 10; entries = [] }) 1 3 ∷ (set_time (record { period = 10; entries = (1, 3) ∷ [] }) 1 3) ∷ (set_time (record { period = 10; entries = (1, 3) ∷ [] }) 2 5) ∷ (set_time (record { period = 10; entries = (1, 3) ∷ (2, 5) ∷ [] }) 4 3) ∷ (set_time (record { period = 10; entries = (1, 3) ∷ (2, 5) ∷ (4, 3) ∷ [] }) 4 0) ∷ (Ok (without_time (record { period = 10; entries = (1, 3) ∷ (2, 5) ∷ (4, 0) ∷ [] }) 2)) ∷ (set_time (record { period = 10; entries = (1, 3) ∷ (4, 0) ∷ [] }) 2 5) ∷ (set_time (record { period = 10; entries = (1, 3) ∷ (2, 5) ∷ (4, 0) ∷ [] }) 4 5) ∷ (Ok (without_time (record { period = 10; entries = (1, 3) ∷ (2, 5) ∷ (4, 5) ∷ [] }) 4)) ∷ (Ok (without_time (record { period = 10; entries = (1, 3) ∷ (2, 5) ∷ [] }) 2)) ∷ (Ok (without_time (record { period = 10; entries = (1, 3) ∷ [] }) 1)) ∷ set_time (record { period = 10; entries = [] }) 4 3 ∷ [] ≡ (Ok (record { period = 10; entries = (1, 3) ∷ [] })) ∷ (Ok (record { period = 10; entries = (1, 3) ∷ [] })) ∷ (Ok (record { period = 10; entries = (1, 3) ∷ (2, 5) ∷ [] })) ∷ (Ok (record { period = 10; entries = (1, 3) ∷ (2, 5) ∷ (4, 3) ∷ [] })) ∷ (Ok (record { period = 10; entries = (1, 3) ∷ (2, 5) ∷ (4, 0) ∷ [] })) ∷ (Ok (record { period = 10; entries = (1, 3) ∷ (4, 0) ∷ [] })) ∷ (Ok (record { period = 10; entries = (1, 3) ∷ (2, 5) ∷ (4, 0) ∷ [] })) ∷ (Ok (record { period = 10; entries = (1, 3) ∷ (2, 5) ∷ (4, 5) ∷ [] })) ∷ (Ok (record { period = 10; entries = (1, 3) ∷ (2, 5) ∷ [] })) ∷ (Ok (record { period = 10; entries = (1, 3) ∷ [] })) ∷ Ok (record { period = 10; entries = [] }) ∷ (Ok (record { period = 10; entries = (4, 3) ∷ [] })) ∷ []
changes_5 = refl

changes_6 : set_time (record { period = 2; entries = [] }) 4 0 ∷ (set_time (record { period = 2; entries = (4, 0) ∷ [] }) 4 0) ∷ (set_time (record { period = 2; entries = (4, 0) ∷ [] }) 3 3) ∷ (set_time (record { period = 2; entries = (4, 0) ∷ [] }) 2 1) ∷ (Ok (without_time (record { period = 2; entries = (2, 1) ∷ (4, 0) ∷ [] }) 4)) ∷ (Ok (without_time (record { period = 2; entries = (2, 1) ∷ [] }) 2)) ∷ set_time (record { period = 2; entries = [] }) 2 1 ∷ (set_time (record { period = 2; entries = (2, 1) ∷ [] }) 2 1) ∷ (Ok (without_time (record { period = 2; entries = (2, 1) ∷ [] }) 2)) ∷ set_time (record { period = 2; entries = [] }) 1 3 ∷ set_time (record { period = 2; entries = [] }) 4 1 ∷ (set_time (record { period = 2; entries = (4, 1) ∷ [] }) 4 2) ∷ [] ≡ (Ok (record { period = 2; entries = (4, 0) ∷ [] })) ∷ (Ok (record { period = 2; entries = (4, 0) ∷ [] })) ∷ Err (no.TimeOutOfRange 3) ∷ (Ok (record { period = 2; entries = (2, 1) ∷ (4, 0) ∷ [] })) ∷ (Ok (record { period = 2; entries = (2, 1) ∷ [] })) ∷ Ok (record { period = 2; entries = [] }) ∷ (Ok (record { period = 2; entries = (2, 1) ∷ [] })) ∷ (Ok (record { period = 2; entries = (2, 1) ∷ [] })) ∷ Ok (record { period = 2; entries = [] }) ∷ Err (no.TimeOutOfRange 3) ∷ (Ok (record { period = 2; entries = (4, 1) ∷ [] })) ∷ Err (no.TimeOutOfRange 2) ∷ []
changes_6 = refl

changes_7 : set_time (record { period = 7; entries = [] }) 3 4 ∷ (Ok (without_time (record { period = 7; entries = (3, 4) ∷ [] }) 3)) ∷ set_time (record { period = 7; entries = [] }) 2 3 ∷ (Ok (without_time (record { period = 7; entries = (2, 3) ∷ [] }) 2)) ∷ set_time (record { period = 7; entries = [] }) 1 3 ∷ (Ok (without_time (record { period = 7; entries = (1, 3) ∷ [] }) 1)) ∷ set_time (record { period = 7; entries = [] }) 4 1 ∷ (Ok (without_time (record { period = 7; entries = (4, 1) ∷ [] }) 4)) ∷ set_time (record { period = 7; entries = [] }) 1 8 ∷ set_time (record { period = 7; entries = [] }) 1 0 ∷ (set_time (record { period = 7; entries = (1, 0) ∷ [] }) 1 5) ∷ (set_time (record { period = 7; entries = (1, 5) ∷ [] }) 1 5) ∷ [] ≡ (Ok (record { period = 7; entries = (3, 4) ∷ [] })) ∷ Ok (record { period = 7; entries = [] }) ∷ (Ok (record { period = 7; entries = (2, 3) ∷ [] })) ∷ Ok (record { period = 7; entries = [] }) ∷ (Ok (record { period = 7; entries = (1, 3) ∷ [] })) ∷ Ok (record { period = 7; entries = [] }) ∷ (Ok (record { period = 7; entries = (4, 1) ∷ [] })) ∷ Ok (record { period = 7; entries = [] }) ∷ Err (no.TimeOutOfRange 8) ∷ (Ok (record { period = 7; entries = (1, 0) ∷ [] })) ∷ (Ok (record { period = 7; entries = (1, 5) ∷ [] })) ∷ (Ok (record { period = 7; entries = (1, 5) ∷ [] })) ∷ []
changes_7 = refl

changes_8 : set_time (record { period = 7; entries = [] }) 3 6 ∷ (set_time (record { period = 7; entries = (3, 6) ∷ [] }) 4 4) ∷ (Ok (without_time (record { period = 7; entries = (3, 6) ∷ (4, 4) ∷ [] }) 4)) ∷ (set_time (record { period = 7; entries = (3, 6) ∷ [] }) 4 4) ∷ (set_time (record { period = 7; entries = (3, 6) ∷ (4, 4) ∷ [] }) 3 0) ∷ (set_time (record { period = 7; entries = (3, 0) ∷ (4, 4) ∷ [] }) 1 5) ∷ (set_time (record { period = 7; entries = (1, 5) ∷ (3, 0) ∷ (4, 4) ∷ [] }) 3 3) ∷ (set_time (record { period = 7; entries = (1, 5) ∷ (3, 3) ∷ (4, 4) ∷ [] }) 1 5) ∷ (set_time (record { period = 7; entries = (1, 5) ∷ (3, 3) ∷ (4, 4) ∷ [] }) 4 2) ∷ (set_time (record { period = 7; entries = (1, 5) ∷ (3, 3) ∷ (4, 2) ∷ [] }) 4 6) ∷ (set_time (record { period = 7; entries = (1, 5) ∷ (3, 3) ∷ (4, 6) ∷ [] }) 4 0) ∷ (set_time (record { period = 7; entries = (1, 5) ∷ (3, 3) ∷ (4, 0) ∷ [] }) 1 0) ∷ [] ≡ (Ok (record { period = 7; entries = (3, 6) ∷ [] })) ∷ (Ok (record { period = 7; entries = (3, 6) ∷ (4, 4) ∷ [] })) ∷ (Ok (record { period = 7; entries = (3, 6) ∷ [] })) ∷ (Ok (record { period = 7; entries = (3, 6) ∷ (4, 4) ∷ [] })) ∷ (Ok (record { period = 7; entries = (3, 0) ∷ (4, 4) ∷ [] })) ∷ (Ok (record { period = 7; entries = (1, 5) ∷ (3, 0) ∷ (4, 4) ∷ [] })) ∷ (Ok (record { period = 7; entries = (1, 5) ∷ (3, 3) ∷ (4, 4) ∷ [] })) ∷ (Ok (record { period = 7; entries = (1, 5) ∷ (3, 3) ∷ (4, 4) ∷ [] })) ∷ (Ok (record { period = 7; entries = (1, 5) ∷ (3, 3) ∷ (4, 2) ∷ [] })) ∷ (Ok (record { period = 7; entries = (1, 5) ∷ (3, 3) ∷ (4, 6) ∷ [] })) ∷ (Ok (record { period = 7; entries = (1, 5) ∷ (3, 3) ∷ (4, 0) ∷ [] })) ∷ (Ok (record { period = 7; entries = (1, 0) ∷ (3, 3) ∷ (4, 0) ∷ [] })) ∷ []
changes_8 = refl

changes_9 : set_time (record { period = 10; entries = [] }) 1 5 ∷ (set_time (record { period = 10; entries = (1, 5) ∷ [] }) 3 5) ∷ (set_time (record { period = 10; entries = (1, 5) ∷ (3, 5) ∷ [] }) 3 10) ∷ (set_time (record { period = 10; entries = (1, 5) ∷ (3, 5) ∷ [] }) 4 9) ∷ (Ok (without_time (record { period = 10; entries = (1, 5) ∷ (3, 5) ∷ (4, 9) ∷ [] }) 4)) ∷ (set_time (record { period = 10; entries = (1, 5) ∷ (3, 5) ∷ [] }) 2 11) ∷ (set_time (record { period = 10; entries = (1, 5) ∷ (3, 5) ∷ [] }) 4 11) ∷ (set_time (record { period = 10; entries = (1, 5) ∷ (3, 5) ∷ [] }) 2 10) ∷ (set_time (record { period = 10; entries = (1, 5) ∷ (3, 5) ∷ [] }) 1 1) ∷ (set_time (record { period = 10; entries = (1, 1) ∷ (3, 5) ∷ [] }) 2 5) ∷ (set_time (record { period = 10; entries = (1, 1) ∷ (2, 5) ∷ (3, 5) ∷ [] }) 4 3) ∷ (Ok (without_time (record { period = 10; entries = (1, 1) ∷ (2, 5) ∷ (3, 5) ∷ (4, 3) ∷ [] }) 3)) ∷ [] ≡ (Ok (record { period = 10; entries = (1, 5) ∷ [] })) ∷ (Ok (record { period = 10; entries = (1, 5) ∷ (3, 5) ∷ [] })) ∷ Err (no.TimeOutOfRange 10) ∷ (Ok (record { period = 10; entries = (1, 5) ∷ (3, 5) ∷ (4, 9) ∷ [] })) ∷ (Ok (record { period = 10; entries = (1, 5) ∷ (3, 5) ∷ [] })) ∷ Err (no.TimeOutOfRange 11) ∷ Err (no.TimeOutOfRange 11) ∷ Err (no.TimeOutOfRange 10) ∷ (Ok (record { period = 10; entries = (1, 1) ∷ (3, 5) ∷ [] })) ∷ (Ok (record { period = 10; entries = (1, 1) ∷ (2, 5) ∷ (3, 5) ∷ [] })) ∷ (Ok (record { period = 10; entries = (1, 1) ∷ (2, 5) ∷ (3, 5) ∷ (4, 3) ∷ [] })) ∷ (Ok (record { period = 10; entries = (1, 1) ∷ (2, 5) ∷ (4, 3) ∷ [] })) ∷ []
changes_9 = refl

changes_10 : set_time (record { period = 7; entries = [] }) 1 0 ∷ (set_time (record { period = 7; entries = (1, 0) ∷ [] }) 4 4) ∷ (Ok (without_time (record { period = 7; entries = (1, 0) ∷ (4, 4) ∷ [] }) 1)) ∷ (set_time (record { period = 7; entries = (4, 4) ∷ [] }) 4 6) ∷ (set_time (record { period = 7; entries = (4, 6) ∷ [] }) 3 1) ∷ (set_time (record { period = 7; entries = (3, 1) ∷ (4, 6) ∷ [] }) 2 4) ∷ (set_time (record { period = 7; entries = (2, 4) ∷ (3, 1) ∷ (4, 6) ∷ [] }) 3 6) ∷ (set_time (record { period = 7; entries = (2, 4) ∷ (3, 6) ∷ (4, 6) ∷ [] }) 3 5) ∷ (set_time (record { period = 7; entries = (2, 4) ∷ (3, 5) ∷ (4, 6) ∷ [] }) 3 2) ∷ (set_time (record { period = 7; entries = (2, 4) ∷ (3, 2) ∷ (4, 6) ∷ [] }) 2 1) ∷ (set_time (record { period = 7; entries = (2, 1) ∷ (3, 2) ∷ (4, 6) ∷ [] }) 1 2) ∷ (Ok (without_time (record { period = 7; entries = (1, 2) ∷ (2, 1) ∷ (3, 2) ∷ (4, 6) ∷ [] }) 2)) ∷ [] ≡ (Ok (record { period = 7; entries = (1, 0) ∷ [] })) ∷ (Ok (record { period = 7; entries = (1, 0) ∷ (4, 4) ∷ [] })) ∷ (Ok (record { period = 7; entries = (4, 4) ∷ [] })) ∷ (Ok (record { period = 7; entries = (4, 6) ∷ [] })) ∷ (Ok (record { period = 7; entries = (3, 1) ∷ (4, 6) ∷ [] })) ∷ (Ok (record { period = 7; entries = (2, 4) ∷ (3, 1) ∷ (4, 6) ∷ [] })) ∷ (Ok (record { period = 7; entries = (2, 4) ∷ (3, 6) ∷ (4, 6) ∷ [] })) ∷ (Ok (record { period = 7; entries = (2, 4) ∷ (3, 5) ∷ (4, 6) ∷ [] })) ∷ (Ok (record { period = 7; entries = (2, 4) ∷ (3, 2) ∷ (4, 6) ∷ [] })) ∷ (Ok (record { period = 7; entries = (2, 1) ∷ (3, 2) ∷ (4, 6) ∷ [] })) ∷ (Ok (record { period = 7; entries = (1, 2) ∷ (2, 1) ∷ (3, 2) ∷ (4, 6) ∷ [] })) ∷ (Ok (record { period = 7; entries = (1, 2) ∷ (3, 2) ∷ (4, 6) ∷ [] })) ∷ []
changes_10 = refl

changes_11 : set_time (record { period = 7; entries = [] }) 2 3 ∷ (Ok (without_time (record { period = 7; entries = (2, 3) ∷ [] }) 2)) ∷ set_time (record { period = 7; entries = [] }) 3 0 ∷ (set_time (record { period = 7; entries = (3, 0) ∷ [] }) 2 1) ∷ (set_time (record { period = 7; entries = (2, 1) ∷ (3, 0) ∷ [] }) 2 8) ∷ (set_time (record { period = 7; entries = (2, 1) ∷ (3, 0) ∷ [] }) 2 2) ∷ (Ok (without_time (record { period = 7; entries = (2, 2) ∷ (3, 0) ∷ [] }) 2)) ∷ (Ok (without_time (record { period = 7; entries = (3, 0) ∷ [] }) 3)) ∷ set_time (record { period = 7; entries = [] }) 2 7 ∷ set_time (record { period = 7; entries = [] }) 4 5 ∷ (set_time (record { period = 7; entries = (4, 5) ∷ [] }) 1 2) ∷ (set_time (record { period = 7; entries = (1, 2) ∷ (4, 5) ∷ [] }) 1 1) ∷ [] ≡ (Ok (record { period = 7; entries = (2, 3) ∷ [] })) ∷ Ok (record { period = 7; entries = [] }) ∷ (Ok (record { period = 7; entries = (3, 0) ∷ [] })) ∷ (Ok (record { period = 7; entries = (2, 1) ∷ (3, 0) ∷ [] })) ∷ Err (no.TimeOutOfRange 8) ∷ (Ok (record { period = 7; entries = (2, 2) ∷ (3, 0) ∷ [] })) ∷ (Ok (record { period = 7; entries = (3, 0) ∷ [] })) ∷ Ok (record { period = 7; entries = [] }) ∷ Err (no.TimeOutOfRange 7) ∷ (Ok (record { period = 7; entries = (4, 5) ∷ [] })) ∷ (Ok (record { period = 7; entries = (1, 2) ∷ (4, 5) ∷ [] })) ∷ (Ok (record { period = 7; entries = (1, 1) ∷ (4, 5) ∷ [] })) ∷ []
changes_11 = refl
