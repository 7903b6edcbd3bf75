-- Small cases of the definitions, by computation.
use Rattle.std.proofs.Common.{◌≡◌, ℕ, refl, [], ◌∷◌, Some, None, Ok, Err, Result, codes}
use Rattle.csv.specs.Reading.{records_from, strip_bom}
use Rattle.csv.specs.Machine.{next_record}
use Rattle.pesp_instance.specs.Network.{Network, new_event}
use Rattle.pesp_instance.specs.Edited.{empty_network}
use Rattle.pesplib_reader.specs.declared.fault.ReadFault.{ReadFault}
use Rattle.pesplib_reader.specs.declared.fault.FaultKind.{FaultKind}
use Rattle.pesplib_reader.specs.declared.fault.FaultKind.TheVariants as fault
use Rattle.pesplib_reader.specs.Records.{trim}
use Rattle.pesplib_reader.specs.Rows.{weight_fault, weight_value}
use Rattle.pesp_base.specs.Windows.{at_time}
use Rattle.pesplib_reader.specs.Reading.{activities_read, times_read, fixed_read, with_fixed}
use Rattle.pesp_base.proofs.Samples.{arc}

-- a fault at a record
abbrev faulty : {X : Type 0} → ℕ → FaultKind → Result X ReadFault
faulty place kind = Err (record { place = place; kind = kind })

-- two events, and an activity each way between them
abbrev two : Network
two = record {
  period = 10;
  events = new_event 1 ∷ new_event 2 ∷ [];
  activities = arc 1 1 2 3 5 2 ∷ arc 2 2 1 4 6 1 ∷ [];
}

two_activities : activities_read 10 (codes "activity; from; to; lower; upper; weight\r\n# note\r\n1; 1; 2; 3; 5; 2.0;\r\n2; 2; 1; 4; 6; 1\r\n") ≡ Ok two
unfolding records_from strip_bom next_record weight_fault
two_activities = refl

-- the rows of a file need not ascend
out_of_order : activities_read 10 (codes "2;2;1;4;6;1\n1;1;2;3;5;2") ≡ Ok two
unfolding records_from strip_bom next_record weight_fault
out_of_order = refl

byte_order_mark : activities_read 10 (0xEF ∷ 0xBB ∷ 0xBF ∷ codes "1,1,2,3,5,2\n2,2,1,4,6,1") ≡ Ok two
unfolding records_from strip_bom next_record weight_fault
byte_order_mark = refl

-- a byte order mark in front of a header, and fields in quotes
quoted : activities_read 10 (0xEF ∷ 0xBB ∷ 0xBF ∷ codes "id,from\n\"1\",\" 1\",2,3,5,2\n2,2,1,4,6,\"1\"") ≡ Ok two
unfolding records_from strip_bom next_record weight_fault
quoted = refl

fraction : activities_read 10 (codes "1; 1; 2; 3; 5; 2.5") ≡ faulty 1 fault.FractionalWeight
unfolding records_from strip_bom next_record weight_fault
fraction = refl

five_fields : activities_read 10 (codes "1; 1; 2; 3; 5") ≡ faulty 1 fault.FieldCount
unfolding records_from strip_bom next_record weight_fault
five_fields = refl

seven_fields : activities_read 10 (codes "1; 1; 2; 3; 5; 2; x") ≡ faulty 1 fault.FieldCount
unfolding records_from strip_bom next_record weight_fault
seven_fields = refl

-- one empty field at the end is dropped, and no more
two_empty_fields : activities_read 10 (codes "1; 1; 2; 3; 5; 2; ;") ≡ faulty 1 fault.FieldCount
unfolding records_from strip_bom next_record weight_fault
two_empty_fields = refl

crossed : activities_read 10 (codes "1; 1; 2; 5; 3; 2") ≡ faulty 1 fault.Crossed
unfolding records_from strip_bom next_record weight_fault
crossed = refl

number_out_of_range : activities_read 10 (codes "1000000000; 1; 2; 3; 5; 2") ≡ faulty 1 (fault.OutOfRange 1)
unfolding records_from strip_bom next_record weight_fault
number_out_of_range = refl

activity_twice : activities_read 10 (codes "1; 1; 2; 3; 5; 2\n1; 2; 1; 4; 6; 1") ≡ faulty 2 fault.DuplicateActivity
unfolding records_from strip_bom next_record weight_fault
activity_twice = refl

short_row : activities_read 10 (codes "1; 1; 2; 3; 5; 2\n2; 2; 1; 4") ≡ faulty 2 fault.FieldCount
unfolding records_from strip_bom next_record weight_fault
short_row = refl

-- the repeated number is found before the short row after it
first_faulty : activities_read 10 (codes "1; 1; 2; 3; 5; 2\n1; 2; 1; 4; 6; 1\n2; 2; 1") ≡ faulty 2 fault.DuplicateActivity
unfolding records_from strip_bom next_record weight_fault
first_faulty = refl

empty_file : activities_read 10 [] ≡ Ok (empty_network 10)
unfolding records_from strip_bom next_record weight_fault
empty_file = refl

-- a line without a byte is no record, one of blanks is a blank record, and a header may stand after it
blank_lines : activities_read 10 (codes "\n  \nx\n1") ≡ faulty 3 fault.FieldCount
unfolding records_from strip_bom next_record weight_fault
blank_lines = refl

-- a semicolon in a comment is the separator of the whole file
separator_in_a_comment : activities_read 10 (codes "# a; b\n1,1,2,3,5,2") ≡ faulty 2 fault.FieldCount
unfolding records_from strip_bom next_record weight_fault
separator_in_a_comment = refl

-- a second header is a row
second_header : activities_read 10 (codes "x\nx") ≡ faulty 2 fault.FieldCount
unfolding records_from strip_bom next_record weight_fault
second_header = refl

two_times : times_read 10 (codes "1; -1\n7; 23") ≡ Ok (record { period = 10; entries = (1, 9) ∷ (7, 3) ∷ [] })
unfolding records_from strip_bom next_record weight_fault
two_times = refl

no_event : fixed_read two (codes "7; 0") ≡ faulty 1 fault.NoEvent
unfolding records_from strip_bom next_record weight_fault
no_event = refl

event_twice : fixed_read two (codes "1; 0\n1; 0") ≡ faulty 2 fault.DuplicateEvent
unfolding records_from strip_bom next_record weight_fault
event_twice = refl

one_fixed : fixed_read two (codes "1; 12") ≡ Ok (record { period = 10; entries = (1, 2) ∷ [] })
unfolding records_from strip_bom next_record weight_fault
one_fixed = refl

event_fixed : with_fixed two (record { period = 10; entries = (2, 4) ∷ [] }) ≡ record two { events = new_event 1 ∷ record { id = 2; window = Some (at_time 4) } ∷ [] }
event_fixed = refl

weight_with_a_point : weight_fault (codes "2.") ≡ None
unfolding weight_fault
weight_with_a_point = refl

weight_with_zeros : weight_value (codes "2.000") ≡ 2
weight_with_zeros = refl

-- a fraction is named before a range
large_fraction : weight_fault (codes "99999999999.5") ≡ Some fault.FractionalWeight
unfolding weight_fault
large_fraction = refl

large_weight : weight_fault (codes "1000000001.0") ≡ Some (fault.OutOfRange 6)
unfolding weight_fault
large_weight = refl

-- a digit is needed before the point, and digits alone after it
point_alone : weight_fault (codes ".5") ≡ Some (fault.BadNumber 6)
unfolding weight_fault
point_alone = refl

two_points : weight_fault (codes "2.0.0") ≡ Some (fault.BadNumber 6)
unfolding weight_fault
two_points = refl

tabs_and_spaces : trim (codes " \t 1 2\t") ≡ codes "1 2"
tabs_and_spaces = refl
