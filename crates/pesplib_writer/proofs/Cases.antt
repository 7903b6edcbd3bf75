-- Small cases of the definitions, by computation.
use Rattle.std.proofs.Common.{◌≡◌, refl, [], ◌∷◌, Ok, codes}
use Rattle.std.specs.Fmt.{digits}
use Rattle.pesp_base.specs.Texts.{as_lines}
use Rattle.pesp_instance.specs.Network.{Network, new_event}
use Rattle.pesp_instance.specs.Edited.{after, empty_network}
use Rattle.pesp_instance.specs.declared.edit.Edit.TheVariants as do_
use Rattle.pesplib_writer.specs.Texts.{activities_text, fixed_text, times_text, without_windows}
use Rattle.pesplib_writer.specs.Script.{applied, script, script_edits}
use Rattle.pesp_base.proofs.Samples.{arc}

-- two events, and an activity each way between them
abbrev two : Network
two = record {
  period = 10;
  events = new_event 1 ∷ new_event 2 ∷ [];
  activities = arc 1 1 2 3 5 2 ∷ arc 2 2 1 4 6 1 ∷ [];
}

two_script : script two ≡ as_lines (codes "# period 10 lines 4" ∷ codes "add event 1" ∷ codes "add event 2" ∷ codes "add activity 1 1 2 3 5 2" ∷ codes "add activity 2 2 1 4 6 1" ∷ [])
unfolding digits
two_script = refl

empty_script : script (empty_network 10) ≡ as_lines (codes "# period 10 lines 0" ∷ [])
unfolding digits
empty_script = refl

two_applied : applied (empty_network 10) (script_edits two) ≡ Ok two
two_applied = refl

lone_event : script (after (empty_network 10) (do_.AddEvent 7 ∷ do_.Fix 7 3 ∷ [])) ≡ as_lines (codes "# period 10 lines 2" ∷ codes "add event 7" ∷ codes "fix 7 3" ∷ [])
unfolding digits
lone_event = refl

two_activities : activities_text two ≡ as_lines (codes "1; 1; 2; 3; 5; 2" ∷ codes "2; 2; 1; 4; 6; 1" ∷ [])
unfolding digits
two_activities = refl

-- a window that is not one of one residue stands in the script alone
wide_event : script (after (empty_network 10) (do_.AddEvent 7 ∷ do_.SetWindow 7 9 3 ∷ [])) ≡ as_lines (codes "# period 10 lines 2" ∷ codes "add event 7" ∷ codes "window 7 9 3" ∷ [])
unfolding digits
wide_event = refl

whole_event : script (after (empty_network 10) (do_.AddEvent 7 ∷ do_.SetWindow 7 0 10 ∷ [])) ≡ as_lines (codes "# period 10 lines 2" ∷ codes "add event 7" ∷ codes "window 7 0 10" ∷ [])
unfolding digits
whole_event = refl

wide_not_fixed : fixed_text (after two (do_.SetWindow 1 9 3 ∷ [])) ≡ []
unfolding digits
wide_not_fixed = refl

one_fixed : fixed_text (after two (do_.Fix 1 0 ∷ [])) ≡ as_lines (codes "1; 0" ∷ [])
unfolding digits
one_fixed = refl

two_times : times_text (record { period = 10; entries = (1, 0) ∷ (2, 4) ∷ [] }) ≡ as_lines (codes "1; 0" ∷ codes "2; 4" ∷ [])
unfolding digits
two_times = refl

windowless_two : without_windows (after two (do_.Fix 1 0 ∷ [])) ≡ two
windowless_two = refl
