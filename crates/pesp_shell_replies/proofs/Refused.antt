-- A refused edit is told by its refusal, and leaves the work as it was.
use Rattle.std.proofs.Common.{◌≡◌, ℕ, List, [], ◌∷◌, Option, Some, None, Ok, Err, inl, inr, ap, sym, ◌∙◌}
use Rattle.std.specs.Result.{result_unwrap_or}
use Rattle.pesp_base.specs.declared.refusal.Refusal.{Refusal}
use Rattle.pesp_base.specs.declared.refusal.Refusal.TheVariants as no
use Rattle.pesp_base.specs.Refusals.{unless_refused}
use Rattle.pesp_instance.specs.declared.edit.Edit.{Edit}
use Rattle.pesp_instance.specs.Edited.{IsRefusal, effect, refusals}
use Rattle.pesp_bench.specs.State.{times_after}
use Rattle.pesp_shell_replies.specs.Legal.{Changes, Work, edited_work}
use Rattle.pesp_shell_replies.specs.Replies.{ok_text, refusal_text, told}

-- the first refusal of a list is the same whatever the value is
refused_too : {X Y : Type 0} (list : List (Option Refusal)) (x : X) (y : Y) (refusal : Refusal) → unless_refused list x ≡ Err refusal → unless_refused list y ≡ Err refusal
refused_too [] x y refusal is = absurd (cc)
refused_too (None ∷ rest) x y refusal is = refused_too rest x y refusal is
refused_too (Some first ∷ rest) x y refusal is = let same : first ≡ refusal = cc in ap Err same

no_text : (refusal : Refusal) (text : List ℕ) → refusal ≡ no.Memory → refusal_text refusal ≡ Some text → ⊥
no_text refusal text memory tells = absurd (let none : refusal_text refusal ≡ None = ap refusal_text memory in cc)

pub changes_nothing : (w next : Work) (edit : Edit) (refusal : Refusal) (text : List ℕ) → IsRefusal w.instance edit refusal → next ≡ w → refusal_text refusal ≡ Some text → Changes w (edited_work w edit) text next
changes_nothing w next edit refusal text (inl is) same tells =
    let refused : edited_work w edit ≡ Err refusal = refused_too (refusals w.instance edit) (effect w.instance edit) (record { instance = effect w.instance edit; times = times_after edit w.times }) refusal is in
    record { tells = ap (told (λ done. ok_text)) refused ∙ tells; leaves = same ∙ sym (ap (λ outcome. result_unwrap_or outcome w) refused) }
changes_nothing w next edit refusal text (inr memory) same tells = absurd (no_text refusal text memory.0 tells)
