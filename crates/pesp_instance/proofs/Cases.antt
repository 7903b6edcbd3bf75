-- Small cases of the definitions, by computation.
use Rattle.std.proofs.Common.{◌≡◌, refl, pos, true, false, [], ◌∷◌, Some, None, Ok, Err}
use Rattle.pesp_base.specs.declared.activity.Activity.{Activity}
use Rattle.pesp_base.specs.declared.refusal.Refusal.TheVariants as no
use Rattle.pesp_base.specs.Windows.{at_time}
use Rattle.pesp_instance.specs.declared.edit.Edit.TheVariants as do_
use Rattle.pesp_instance.specs.Edited.{edited, effect, after, empty_network}
use Rattle.pesp_instance.specs.Network.{Network, admits, agrees_with, around, fixed_of, new_event, window_of}

abbrev there : Activity
there = record { id = 1; from = 1; to = 2; span = record { lower = pos 3; upper = pos 5 }; weight = 2 }

abbrev back : Activity
back = record { id = 2; from = 2; to = 1; span = record { lower = pos 4; upper = pos 6 }; weight = 1 }

abbrev loop_at_two : Activity
loop_at_two = record { id = 3; from = 2; to = 2; span = record { lower = pos 0; upper = pos 9 }; weight = 0 }

-- two events, and an activity each way between them
abbrev two : Network
two = record { period = 10; events = new_event 1 ∷ new_event 2 ∷ []; activities = there ∷ back ∷ [] }

-- edits in any order give the ascending lists, and a refused one changes nothing
built : after (empty_network 10) (do_.AddEvent 2 ∷ do_.AddEvent 1 ∷ do_.AddActivity back ∷ do_.AddActivity there ∷ do_.AddEvent 1 ∷ []) ≡ two
built = refl

event_in_use : edited two (do_.DropEvent 1) ≡ Err (no.EventInUse 1 1)
event_in_use = refl

event_exists : edited two (do_.AddEvent 1) ≡ Err (no.EventExists 1)
event_exists = refl

not_fixed : edited two (do_.Unfix 1) ≡ Err (no.NotFixed 1)
not_fixed = refl

-- the first time that is out of range is the period
out_of_range : edited two (do_.Fix 1 10) ≡ Err (no.TimeOutOfRange 10)
out_of_range = refl

in_range : edited two (do_.Fix 1 9) ≡ Ok (effect two (do_.Fix 1 9))
in_range = refl

-- the number of the activity is looked at before its ends, and where it leads from before where it leads to
activity_exists : edited two (do_.AddActivity (record there { from = 8; to = 9 })) ≡ Err (no.ActivityExists 1)
activity_exists = refl

from_first : edited two (do_.SetEnds 1 8 9) ≡ Err (no.NoEvent 8)
from_first = refl

no_activity : edited two (do_.SetEnds 9 8 9) ≡ Err (no.NoActivity 9)
no_activity = refl

-- with the second activity elsewhere, the first one is still at event 2
least_in_use : edited (after two (do_.AddEvent 3 ∷ do_.SetEnds 2 3 1 ∷ [])) (do_.DropEvent 2) ≡ Err (no.EventInUse 2 1)
least_in_use = refl

fixed_twice : after two (do_.Fix 1 0 ∷ do_.Fix 1 1 ∷ []) ≡ after two (do_.Fix 1 1 ∷ [])
fixed_twice = refl

-- an event that goes takes its fixed time along
time_gone : fixed_of (after (empty_network 10) (do_.AddEvent 1 ∷ do_.Fix 1 4 ∷ do_.DropEvent 1 ∷ do_.AddEvent 1 ∷ [])) 1 ≡ None
time_gone = refl

-- a loop is around its event once
loop_once : around (effect two (do_.AddActivity loop_at_two)) 2 ≡ there ∷ back ∷ loop_at_two ∷ []
loop_once = refl

fixed_elsewhere : agrees_with 10 (Some (at_time 4)) 5 ≡ false
fixed_elsewhere = refl

not_fixed_at_all : agrees_with 10 None 5 ≡ true
not_fixed_at_all = refl

-- a window goes on from zero after the last residue of the period
abbrev wrapped : Network
wrapped = after two (do_.SetWindow 1 9 3 ∷ [])

last_admitted : admits wrapped 1 9 ≡ true
last_admitted = refl

first_admitted : admits wrapped 1 0 ≡ true
first_admitted = refl

next_admitted : admits wrapped 1 1 ≡ true
next_admitted = refl

end_not_admitted : admits wrapped 1 2 ≡ false
end_not_admitted = refl

not_fixed_by_it : fixed_of wrapped 1 ≡ None
not_fixed_by_it = refl

window_told : window_of wrapped 1 ≡ Some (record { first = 9; length = 3 })
window_told = refl

-- a window of the whole period admits all and is a window, which may be taken away
whole_admitted : admits (effect two (do_.SetWindow 1 0 10)) 1 5 ≡ true
whole_admitted = refl

whole_taken_away : edited (effect two (do_.SetWindow 1 0 10)) (do_.Unfix 1) ≡ Ok two
whole_taken_away = refl

-- a fixed time is a window of one residue
fixed_window : effect two (do_.Fix 1 4) ≡ effect two (do_.SetWindow 1 4 1)
fixed_window = refl

-- the event is looked at before the first residue, and that before the length
window_event_first : edited two (do_.SetWindow 9 10 0) ≡ Err (no.NoEvent 9)
window_event_first = refl

first_out_of_range : edited two (do_.SetWindow 1 10 0) ≡ Err (no.TimeOutOfRange 10)
first_out_of_range = refl

no_length : edited two (do_.SetWindow 1 0 0) ≡ Err (no.LengthOutOfRange 0)
no_length = refl

length_above_the_period : edited two (do_.SetWindow 1 0 11) ≡ Err (no.LengthOutOfRange 11)
length_above_the_period = refl

-- an event admits its fixed time alone, and without one each residue
admitted : admits (effect two (do_.Fix 1 4)) 1 4 ≡ true
admitted = refl

not_admitted : admits (effect two (do_.Fix 1 4)) 1 5 ≡ false
not_admitted = refl

all_admitted : admits two 1 5 ≡ true
all_admitted = refl

-- the same ends are ends like any others
same_ends : edited two (do_.SetEnds 1 1 2) ≡ Ok two
same_ends = refl
