-- The value in a number's slot is the one that has the number.
use Rattle.std.proofs.Common.{◌≡◌, Some, sym, ◌∙◌}
use Rattle.std.specs.BTreeMap.{is_at}
use Rattle.std.specs.Map.{lookup}
use Rattle.std.specs.Ordering.{nat_cmp}
use Rattle.pesp_instance.proofs.Links.{slot_is_used}
use Rattle.pesp_instance.proofs.Tables.{found}
use Rattle.pesp_instance.proofs.table.Table.value_at.Goals as goal

pub index-requires : goal.index-requires
index-requires g c =
    let is = rw (← c.self.view_is) at c.requires.slot in
    slot_is_used _ _ _ _ c.self.invariant.linked is.1

pub returns : goal.returns
returns g c n is =
    let its : lookup (is_at (nat_cmp n)) c.self.inside.numbers.entries ≡ Some c.args.slot = rw (← c.self.view_is) at is in
    rw (← c.self.view_is) (sym (found g.V.Numbered.number _ _ c.self.invariant n _ its) ∙ c.index.ensures)
