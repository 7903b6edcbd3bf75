-- Each kind of line of a script says the edit that it was written for.
use Rattle.std.proofs.Common.{ℕ, ◌≤◌, [], ◌∷◌, codes, decimal, pos, refl, arith}
use Rattle.std.proofs.lemmas.Int.{ints}
use Rattle.pesp_base.specs.declared.activity.Activity.{Activity}
use Rattle.pesp_base.specs.Limits.{greatest_number, greatest_weight}
use Rattle.pesp_instance.specs.declared.edit.Edit.{Edit}
use Rattle.pesp_instance.specs.declared.edit.Edit.TheVariants.{AddActivity, AddEvent, Fix, SetWindow}
use Rattle.pesp_instance.specs.Network.{IsActivity}
use Rattle.pesplib_writer.specs.Script.{edit_line}
use Rattle.pesplib_writer.specs.Texts.{activity_fields}
use Rattle.pesp_shell_commands.specs.declared.command.Command.TheVariants as command
use Rattle.pesp_shell_commands.specs.declared.parsing.TheConstants.{GREATEST_TIME}
use Rattle.pesp_shell_commands.specs.Parsed.{Form, bound, id, natural, plain, span_at, time, weight, with_span}
use Rattle.pesp_shell_commands.proofs.FormLemmas.AreNumbers.{none, one_more}
use Rattle.pesp_shell_commands.proofs.LineLemmas.{SaysEdit, says_form}
use Rattle.pesp_shell_commands.proofs.WordLemmas.{IsNumber, IsPlain, decimal_number, not_less, plain_name, signed_number}

-- the words of the edits' names are plain
name_add : IsPlain (codes "add")
name_add = plain_name (codes "add") refl refl (omega arith) (omega arith)

name_event : IsPlain (codes "event")
name_event = plain_name (codes "event") refl refl (omega arith) (omega arith)

name_fix : IsPlain (codes "fix")
name_fix = plain_name (codes "fix") refl refl (omega arith) (omega arith)

name_window : IsPlain (codes "window")
name_window = plain_name (codes "window") refl refl (omega arith) (omega arith)

name_activity : IsPlain (codes "activity")
name_activity = plain_name (codes "activity") refl refl (omega arith) (omega arith)

-- the number of an event or an activity
id_number : (n : ℕ) → n ≤ greatest_number → IsNumber id (decimal n) (pos n)
id_number n h = decimal_number greatest_number n h (omega arith)

-- the forms of the four edits that scripts have
abbrev add_event : Form
add_event = plain (codes "add event") (id ∷ []) (λ ns. command.Edit (AddEvent (natural ns 0)))

abbrev fix : Form
fix = plain (codes "fix") (id ∷ time ∷ []) (λ ns. command.Edit (Fix (natural ns 0) (natural ns 1)))

abbrev window : Form
window = plain (codes "window") (id ∷ time ∷ time ∷ []) (λ ns. command.Edit (SetWindow (natural ns 0) (natural ns 1) (natural ns 2)))

abbrev add_activity : Form
add_activity =
    with_span (codes "add activity") (id ∷ id ∷ id ∷ bound ∷ bound ∷ weight ∷ []) 3
    (λ ns. command.Edit (AddActivity (record { id = natural ns 0; from = natural ns 1; to = natural ns 2; span = span_at ns 3; weight = natural ns 5 })))

-- the line of an edit says the edit
abbrev pub Says : Edit → Type 0
Says edit = SaysEdit edit (edit_line edit)

-- an event is added
pub event_says : (e : ℕ) → e ≤ greatest_number → Says (AddEvent e)
event_says e h =
    says_form add_event (AddEvent e) (decimal e ∷ []) (pos e ∷ []) (name_add, (name_event, tt)) (one_more (id_number e h) none) (omega arith) refl refl refl

-- an event's time is fixed
pub fix_says : (e t : ℕ) → e ≤ greatest_number → t ≤ GREATEST_TIME → Says (Fix e t)
fix_says e t number time =
    says_form fix (Fix e t) (decimal e ∷ decimal t ∷ []) (pos e ∷ pos t ∷ []) (name_fix, tt)
    (one_more (id_number e number) (one_more (decimal_number GREATEST_TIME t time (omega arith)) none)) (omega arith) refl refl refl

-- an event has a window
pub window_says : (e first length : ℕ) → e ≤ greatest_number → first ≤ GREATEST_TIME → length ≤ GREATEST_TIME → Says (SetWindow e first length)
window_says e first length number low long =
    says_form window (SetWindow e first length) (decimal e ∷ decimal first ∷ decimal length ∷ []) (pos e ∷ pos first ∷ pos length ∷ []) (name_window, tt)
    (one_more (id_number e number) (one_more (decimal_number GREATEST_TIME first low (omega arith)) (one_more (decimal_number GREATEST_TIME length long (omega arith)) none))) (omega arith) refl refl refl

-- an activity is added
pub activity_says : (a : Activity) → IsActivity a → a.from ≤ greatest_number → a.to ≤ greatest_number → Says (AddActivity a)
activity_says a is from to =
    says_form add_activity (AddActivity a) (activity_fields a) (pos a.id ∷ pos a.from ∷ pos a.to ∷ a.span.lower ∷ a.span.upper ∷ pos a.weight ∷ [])
    (name_add, (name_activity, tt))
    (one_more (id_number a.id is.number) (one_more (id_number a.from from) (one_more (id_number a.to to)
    (one_more (signed_number a.span.lower is.bounds.above_least (omega (arith, ints, is.bounds.in_order, is.bounds.below_greatest)))
    (one_more (signed_number a.span.upper (omega (arith, ints, is.bounds.above_least, is.bounds.in_order)) is.bounds.below_greatest)
    (one_more (decimal_number greatest_weight a.weight is.weight (omega arith)) none))))))
    (omega arith) refl (not_less a.span.lower a.span.upper is.bounds.in_order) refl
