-- There are as many numbers as values.
use Rattle.std.proofs.Common.{sym, ◌∙◌}
use Rattle.pesp_instance.proofs.Tables.{len}
use Rattle.pesp_instance.proofs.table.Table.len.Goals as goal

pub returns : goal.returns
returns g c = rw (← c.self.view_is) (c.len.ensures.len ∙ sym (len g.V.Numbered.number _ _ c.self.invariant))
