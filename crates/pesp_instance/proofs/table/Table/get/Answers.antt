-- The value in a number's slot is the one that has the number.
use Rattle.std.proofs.Common.{sym, ◌∙◌}
use Rattle.pesp_instance.proofs.Tables.{found, missing}
use Rattle.pesp_instance.proofs.table.Table.get.Goals as goal

pub returns-in-Some : goal.returns-in-Some
returns-in-Some g c = rw (← c.self.view_is) (c.get.ensures ∙ found g.V.Numbered.number _ _ c.self.invariant _ _ (rw (← c.self.view_is) at (sym c.in-Some.ensures.slot)))

pub returns-in-None : goal.returns-in-None
returns-in-None g c = rw (← c.self.view_is) (sym (missing g.V.Numbered.number _ _ c.self.invariant _ (rw (← c.self.view_is) at (sym c.in-None.ensures.slot))))
