-- The vertex of the slot stands as before, with one number more in its set.
use Rattle.std.proofs.Common.{◌≡◌, Some, not, refl, sym, ap, ◌∙◌}
use Rattle.std.specs.BTreeMap.{is_at}
use Rattle.std.specs.Map.{lookup}
use Rattle.std.specs.Ordering.{nat_cmp}
use Rattle.pesp_base.proofs.Tests.{always_err}
use Rattle.pesp_instance.proofs.Links.{slot_is_used}
use Rattle.pesp_instance.proofs.Vertices.{IsTable-written, events_kept, lists_here, lists_more, lists_same, one_more}
use Rattle.pesp_instance.proofs.ends.Table+Vertex.list.Goals as goal

pub index_mut-requires : goal.index_mut-requires
index_mut-requires c =
    let is = rw (← c.self.view_is) at c.requires.slot in
    slot_is_used _ _ _ _ c.self.invariant.linked is.1

pub invariant_of-self : goal.invariant_of-self
invariant_of-self c =
    let is = rw (← c.self.view_is) at c.requires.slot in
    IsTable-written c.self.inside.slots _ c.self.invariant is.0 _ is.1 _ c.index_mut.ensures.value _ refl

pub returns-in_err-insert-clause-err : goal.returns-in_err-insert-clause-err
returns-in_err-insert-clause-err c =
    let is = rw (← c.self.view_is) at c.requires.slot in
    rw (← c.self.view_is) (always_err c.from_residual.result (lists_same c.self.inside.slots _ c.self.invariant is.0 _ is.1 _ c.index_mut.ensures.value _ refl c.in_err-insert.ensures.err))

pub invariant_of-self-2 : goal.invariant_of-self-2
invariant_of-self-2 c =
    let is = rw (← c.self.view_is) at c.requires.slot in
    IsTable-written c.self.inside.slots _ c.self.invariant is.0 _ is.1 _ c.index_mut.ensures.value _ refl

pub returns-clause-added : goal.returns-clause-added
returns-clause-added c e at =
    let is : lookup (is_at (nat_cmp e)) c.self.inside.numbers.entries ≡ Some c.args.slot = rw (← c.self.view_is) at at in
    rw (← c.self.view_is) (c.in_ok-insert.ensures.added ∙ ap not (sym (lists_here c.self.inside.slots _ c.self.invariant e _ is _ c.index_mut.ensures.value c.args.number)))

pub returns-clause-ok : goal.returns-clause-ok
returns-clause-ok c e at =
    let is : lookup (is_at (nat_cmp e)) c.self.inside.numbers.entries ≡ Some c.args.slot = rw (← c.self.view_is) at at in
    rw (← c.self.view_is) (lists_more c.self.inside.slots _ c.self.invariant e _ is _ c.index_mut.ensures.value _ refl c.args.number (one_more _ _ c.args.number c.in_ok-insert.ensures.updates.0))

pub returns-clause-kept : goal.returns-clause-kept
returns-clause-kept c =
    let is = rw (← c.self.view_is) at c.requires.slot in
    rw (← c.self.view_is) (record { events = events_kept c.self.inside.slots _ c.self.invariant is.0 _ is.1 _ c.index_mut.ensures.value _ refl; slots = refl })
