-- A number has a slot where it has a value.
use Rattle.std.proofs.Common.{is_some, sym, ap, ◌∙◌}
use Rattle.pesp_instance.proofs.Tables.{same_presence}
use Rattle.pesp_instance.proofs.table.Table.slot.Goals as goal

pub returns-in-Some-clause-present : goal.returns-in-Some-clause-present
returns-in-Some-clause-present g c = rw (← c.self.view_is) (ap is_some (sym (rw (← c.self.view_is) at c.in-Some.ensures)) ∙ same_presence g.V.Numbered.number _ _ c.self.invariant c.args.number)

pub returns-in-None-clause-present : goal.returns-in-None-clause-present
returns-in-None-clause-present g c = rw (← c.self.view_is) (ap is_some (c.copied.ensures ∙ c.get.ensures.value) ∙ same_presence g.V.Numbered.number _ _ c.self.invariant c.args.number)
