-- What a call tells of a few ends, by computation.
use Rattle.std.proofs.Common.{◌≡◌, refl, Bool, true, false, List, map, Err, [], ◌∷◌}
use Rattle.pesp_base.specs.declared.refusal.Refusal.TheVariants as no
use Rattle.pesplib_reader.specs.declared.fault.FaultKind.TheVariants as kind
use Rattle.pesp_shell.specs.declared.run_fault.RunFault.TheVariants as run
use Rattle.pesp_shell.specs.declared.run_fault.Source.TheVariants as source
use Rattle.pesp_embedded.specs.Answered.{fronted}
use Rattle.pesp_embedded.specs.Bits.{bit_of, bytes_in}
use Rattle.pesp_embedded.specs.Faults.{told_fault}
use Rattle.pesp_embedded.specs.Numbers.{field_of, place_of, reason_of, status_of, time_or_none}
use Rattle.pesp_embedded.specs.declared.fault.Fault.TheVariants as fault

-- a long line
status_of_a_long_line : status_of (Err (run.LineTooLong 3)) ≡ 7
status_of_a_long_line = refl

place_of_a_long_line : place_of (Err (run.LineTooLong 3)) ≡ 3
place_of_a_long_line = refl

reason_of_a_long_line : reason_of (Err (run.LineTooLong 3)) ≡ 0
reason_of_a_long_line = refl

-- field 5 of record 7 of the times is no number
status_of_times : status_of (Err (run.File source.Times (record { place = 7; kind = kind.BadNumber 5 }))) ≡ 3
status_of_times = refl

place_of_times : place_of (Err (run.File source.Times (record { place = 7; kind = kind.BadNumber 5 }))) ≡ 7
place_of_times = refl

reason_of_times : reason_of (Err (run.File source.Times (record { place = 7; kind = kind.BadNumber 5 }))) ≡ 2
reason_of_times = refl

field_of_times : field_of (Err (run.File source.Times (record { place = 7; kind = kind.BadNumber 5 }))) ≡ 5
field_of_times = refl

-- bounds that are crossed have no field of their own
field_of_crossed : field_of (Err (run.File source.Activities (record { place = 1; kind = kind.Crossed }))) ≡ 0
field_of_crossed = refl

-- the texts "ok" and "" in front of rooms of three, one and no bytes
fronted_with_room : fronted (111 ∷ 107 ∷ []) (0 ∷ 0 ∷ 9 ∷ []) ≡ 111 ∷ 107 ∷ 9 ∷ []
fronted_with_room = refl

fronted_cut : fronted (111 ∷ 107 ∷ []) (9 ∷ []) ≡ 111 ∷ []
fronted_cut = refl

fronted_in_no_room : fronted (111 ∷ 107 ∷ []) [] ≡ []
fronted_in_no_room = refl

fronted_without_text : fronted [] (9 ∷ []) ≡ 9 ∷ []
fronted_without_text = refl

-- residues 1 and 8 of a period of 10 as two bytes
abbrev one_and_eight : List Bool
one_and_eight = false ∷ true ∷ false ∷ false ∷ false ∷ false ∷ false ∷ false ∷ true ∷ false ∷ []

bytes_of_two_residues : bytes_in one_and_eight 2 ≡ 2 ∷ 1 ∷ []
bytes_of_two_residues = refl

bit_of_a_residue : bit_of (2 ∷ 1 ∷ []) 8 ≡ 1
bit_of_a_residue = refl

bit_of_another : bit_of (2 ∷ 1 ∷ []) 2 ≡ 0
bit_of_another = refl

bit_past_all_bytes : bit_of (2 ∷ 1 ∷ []) 16 ≡ 0
bit_past_all_bytes = refl

-- an event without a time
times_of_two : map (time_or_none (record { period = 10; entries = (2, 4) ∷ [] })) (1 ∷ 2 ∷ []) ≡ 65535 ∷ 4 ∷ []
times_of_two = refl

told_of_no_event : told_fault (fault.Refused (no.NoEvent 7)) ≡ record { length = 0; place = 7; status = 13; reason = 2; field = 0 }
told_of_no_event = refl
