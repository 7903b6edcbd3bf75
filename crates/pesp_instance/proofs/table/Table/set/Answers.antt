-- The value in a number's slot is the one that has the number.
use Rattle.std.proofs.Common.{refl}
use Rattle.pesp_instance.proofs.Links.{slot_is_used}
use Rattle.pesp_instance.proofs.Tables.{written_in}
use Rattle.pesp_instance.proofs.table.Table.set.Goals as goal

pub index_mut-requires : goal.index_mut-requires
index_mut-requires g c = slot_is_used _ _ _ _ c.self.invariant.linked (rw (← c.self.view_is) at c.requires.slot)

pub invariant_of-self : goal.invariant_of-self
invariant_of-self g c =
    (written_in g.V.Numbered.number c.self.inside.slots _ _ _ c.args.value refl c.self.invariant (rw (← c.self.view_is) at c.requires.slot)).1

pub returns : goal.returns
returns g c =
    rw (← c.self.view_is)
    (written_in g.V.Numbered.number c.self.inside.slots _ _ _ c.args.value refl c.self.invariant (rw (← c.self.view_is) at c.requires.slot)).0
