-- Without the number and its slot, the others stand as they did.
use Rattle.std.proofs.Common.{sym, ap, ◌∙◌}
use Rattle.pesp_instance.specs.Table.{values_in}
use Rattle.pesp_instance.proofs.Links.{slot_is_used}
use Rattle.pesp_instance.proofs.Tables.{found, missing, removed_in, take_out-missing}
use Rattle.pesp_instance.proofs.table.Table.remove.Goals as goal

pub returns-in_err-slot-clause-value : goal.returns-in_err-slot-clause-value
returns-in_err-slot-clause-value g c =
    rw (← c.self.view_is) (c.from_residual.ensures ∙ sym (missing g.V.Numbered.number _ _ c.self.invariant _ (sym c.in_err-slot.ensures.value)))

pub returns-in_err-slot-clause-removed : goal.returns-in_err-slot-clause-removed
returns-in_err-slot-clause-removed g c =
    rw (← c.self.view_is)
    (ap (values_in c.self.inside.slots.slots) c.in_err-slot.ensures.unchanged ∙ sym (take_out-missing g.V.Numbered.number _ _ _ c.self.invariant (sym c.in_err-slot.ensures.value)))

pub remove-requires-2 : goal.remove-requires-2
remove-requires-2 g c = slot_is_used _ _ _ _ c.self.invariant.linked (sym c.in_ok-slot.ensures.value)

pub invariant_of-self-2 : goal.invariant_of-self-2
invariant_of-self-2 g c =
    (removed_in g.V.Numbered.number _ _ _ _ _ _ c.remove-2.ensures.updates c.in_ok-slot.ensures.entries c.in_ok-slot.ensures.ordered c.self.invariant (sym c.in_ok-slot.ensures.value)).1

pub returns-clause-value : goal.returns-clause-value
returns-clause-value g c =
    rw (← c.self.view_is) (sym c.remove-2.ensures.value ∙ found g.V.Numbered.number _ _ c.self.invariant _ _ (sym c.in_ok-slot.ensures.value))

pub returns-clause-removed : goal.returns-clause-removed
returns-clause-removed g c =
    rw (← c.self.view_is)
    (removed_in g.V.Numbered.number _ _ _ _ _ _ c.remove-2.ensures.updates c.in_ok-slot.ensures.entries c.in_ok-slot.ensures.ordered c.self.invariant (sym c.in_ok-slot.ensures.value)).0
