-- The vertex of the slot stands as before, with another window.
use Rattle.std.proofs.Common.{◌≡◌, Some, refl}
use Rattle.std.specs.BTreeMap.{is_at}
use Rattle.std.specs.Map.{lookup}
use Rattle.std.specs.Ordering.{nat_cmp}
use Rattle.pesp_instance.proofs.Links.{slot_is_used}
use Rattle.pesp_instance.proofs.Vertices.{IsTable-written, events_rewindowed, lists_same}
use Rattle.pesp_instance.proofs.ends.Table+Vertex.rewindow.Goals as goal

pub index_mut-requires : goal.index_mut-requires
index_mut-requires c =
    let is = rw (← c.self.view_is) at c.requires.slot in
    slot_is_used _ _ _ _ c.self.invariant.linked is.1

pub invariant_of-self : goal.invariant_of-self
invariant_of-self c =
    let is = rw (← c.self.view_is) at c.requires.slot in
    IsTable-written c.self.inside.slots _ c.self.invariant is.0 _ is.1 _ c.index_mut.ensures.value _ refl

pub returns-clause-events : goal.returns-clause-events
returns-clause-events c e at =
    let is : lookup (is_at (nat_cmp e)) c.self.inside.numbers.entries ≡ Some c.args.slot = rw (← c.self.view_is) at at in
    rw (← c.self.view_is) (events_rewindowed c.self.inside.slots _ c.self.invariant e _ is _ c.index_mut.ensures.value c.args.window)

pub returns-clause-listed : goal.returns-clause-listed
returns-clause-listed c =
    let is = rw (← c.self.view_is) at c.requires.slot in
    rw (← c.self.view_is) (lists_same c.self.inside.slots _ c.self.invariant is.0 _ is.1 _ c.index_mut.ensures.value _ refl refl)
