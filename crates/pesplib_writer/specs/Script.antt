-- The script that builds an instance.
use Rattle.std.specs.Prelude.{ℕ, List, [], ◌∷◌, ◌++◌, map, filter_map, length, codes, decimal, ◌==◌, if◌then◌else◌, Option, option_map, Result, Ok, Err}
use Rattle.std.specs.Fmt.{signed_decimal}
use Rattle.pesp_base.specs.declared.refusal.Refusal.{Refusal}
use Rattle.pesp_base.specs.Texts.{words_line, as_lines}
use Rattle.pesp_base.specs.Windows.{Interval}
use Rattle.pesp_instance.specs.declared.edit.Edit.{Edit}
use Rattle.pesp_instance.specs.declared.edit.Edit.TheVariants.{AddEvent, DropEvent, Fix, SetWindow, Unfix, AddActivity, DropActivity, SetSpan, SetWeight, SetEnds}
use Rattle.pesp_instance.specs.declared.event.Event.{Event}
use Rattle.pesp_instance.specs.Edited.{edited}
use Rattle.pesp_instance.specs.Network.{Network, event_ids}
use Rattle.pesplib_writer.specs.Texts.{activity_fields}

-- the edit that gives an event a window: one that fixes its time where there is one residue
abbrev pub window_edit : ℕ → Interval → Edit
window_edit e window = if window.length == 1 then Fix e window.first else SetWindow e window.first window.length

-- the edit that gives an event its window, if it has one
abbrev pub own_edit : Event → Option Edit
own_edit e = option_map (window_edit e.id) e.window

-- the edits that build an instance: its events, their windows, and its activities
abbrev pub script_edits : Network → List Edit
script_edits I = map AddEvent (event_ids I) ++ filter_map own_edit I.events ++ map AddActivity I.activities

-- the line that says an edit
abbrev pub edit_line : Edit → List ℕ
edit_line (AddEvent e) = words_line (codes "add event" ∷ decimal e ∷ [])
edit_line (DropEvent e) = words_line (codes "drop event" ∷ decimal e ∷ [])
edit_line (Fix e t) = words_line (codes "fix" ∷ decimal e ∷ decimal t ∷ [])
edit_line (SetWindow e first length) = words_line (codes "window" ∷ decimal e ∷ decimal first ∷ decimal length ∷ [])
edit_line (Unfix e) = words_line (codes "unfix" ∷ decimal e ∷ [])
edit_line (AddActivity a) = words_line (codes "add activity" ∷ activity_fields a)
edit_line (DropActivity n) = words_line (codes "drop activity" ∷ decimal n ∷ [])
edit_line (SetSpan n span) = words_line (codes "span" ∷ decimal n ∷ signed_decimal span.lower ∷ signed_decimal span.upper ∷ [])
edit_line (SetWeight n weight) = words_line (codes "weight" ∷ decimal n ∷ decimal weight ∷ [])
edit_line (SetEnds n from to) = words_line (codes "ends" ∷ decimal n ∷ decimal from ∷ decimal to ∷ [])

-- the lines of an instance's script, after the first one
abbrev pub script_lines : Network → List (List ℕ)
script_lines I = map edit_line (script_edits I)

-- the comment in front: the period, and how many lines follow
abbrev pub script_head : Network → List ℕ
script_head I = words_line (codes "# period" ∷ decimal I.period ∷ codes "lines" ∷ decimal (length (script_lines I)) ∷ [])

-- the comment, and the lines of the edits
abbrev pub script : Network → List ℕ
script I = as_lines (script_head I ∷ script_lines I)

-- what comes of an edited instance, or its refusal
abbrev pub on_accepted : (Network → Result Network Refusal) → Result Network Refusal → Result Network Refusal
on_accepted next (Ok J) = next J
on_accepted next (Err refusal) = Err refusal

-- the instance after edits that are all accepted, or the first refusal
abbrev pub applied : Network → List Edit → Result Network Refusal
applied I [] = Ok I
applied I (edit ∷ edits) = on_accepted (λ J. applied J edits) (edited I edit)
