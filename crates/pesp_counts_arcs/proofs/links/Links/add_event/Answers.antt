-- The event has its place, or it is taken away again.
use Rattle.std.proofs.Common.{◌≡◌, ◌==◌, ◌<◌, ◌≤◌, ℕ, Some, if◌then◌else◌, refl, sym, ◌∙◌, arith}
use Rattle.pesp_instance.proofs.Effects.{on_ok}
use Rattle.pesp_counts_arcs.specs.Places.{Places, place_of}
use Rattle.pesp_base.proofs.Tests.{always_err}
use Rattle.pesp_counts_arcs.proofs.StandEdits.{came_and_went, event_added, housed_events, look_itself, look_same}
use Rattle.pesp_counts_arcs.proofs.links.Links.add_event.Goals as goal
use Rattle.pesp_counts_arcs.proofs.links.Links.add_event.Goals.{After-remove}

-- the new event is in reach, and so are the others
in_reach : (before after : Places) (e p many more : ℕ) → ((n : ℕ) → place_of after n ≡ (if n == e then Some p else place_of before n)) → ((n q : ℕ) → place_of before n ≡ Some q → q < many) → many ≤ more → p < more → (n q : ℕ) → place_of after n ≡ Some q → q < more
in_reach before after e p many more came room longer reach n q is = let at = came n in let low = room n q in grind (arith, at, low, is, longer, reach)

-- the place that came went again
same : (c : After-remove) (e : ℕ) → place_of c.remove.new.self e ≡ place_of c.self.inside.events e
same c =
    came_and_went c.self.inside.events c.insert.new.self c.remove.new.self c.args.event c.in_ok-place.place (rw (sym c.self.view_is) at c.requires.absent)
    (rw c.get.ensures.value at c.in_ok-place.ensures.places)
    (rw c.get-then-is_err.ensures.value at c.remove.ensures.places)

pub returns-in_err-place-clause-err : goal.returns-in_err-place-clause-err
returns-in_err-place-clause-err c =
    always_err c.from_residual.result
    (rw (c.in_err-place.ensures.err, sym c.self.view_is) (look_itself c.self.inside.events c.self.inside.activities c.self.inside.ends.items c.self.inside.at c.self.invariant))

pub invariant_of-self-then-is_err : goal.invariant_of-self-then-is_err
invariant_of-self-then-is_err c =
    let inside = c.self.inside in
    let as_before = same (goal.at.invariant_of-self-then-is_err c).After-remove in
    let more = c.grow_lists.ensures.more in
    housed_events inside.events c.remove.new.self inside.activities inside.ends.items inside.at c.grow_lists.new.self c.self.invariant c.remove.ensures.paired c.grow_lists.ensures.items c.grow_lists.ensures.lists c.grow_lists.ensures.stored
    (λ e p is. let low = c.self.invariant.event_room e p (sym (as_before e) ∙ is) in omega (arith, low, more))

pub returns-then-is_err-clause-err : goal.returns-then-is_err-clause-err
returns-then-is_err-clause-err c =
    let inside = c.self.inside in
    let as_before = same (goal.at.returns-then-is_err-clause-err c).After-remove in
    rw (sym c.self.view_is)
    (look_same inside.events c.remove.new.self inside.activities inside.activities inside.ends.items inside.at c.grow_lists.new.self.lists c.self.invariant c.remove.ensures.paired c.self.invariant.are_activities as_before (λ n. refl) c.grow_lists.ensures.lists)

pub returns-clause-room : goal.returns-clause-room
returns-clause-room c =
    let place : ℕ = c.in_ok-place.place in
    let many = on_ok c.grow_lists.result c.if-is_err.ensures.value c.grow_lists.ensures.many in
    let small = c.grow_lists.ensures.stored.few_lists in
    let next = c.saturating_add.ensures in
    omega (arith, many, small, next)

pub invariant_of-self-else-is_err : goal.invariant_of-self-else-is_err
invariant_of-self-else-is_err c =
    let inside = c.self.inside in
    let came = rw c.get.ensures.value at c.in_ok-place.ensures.places in
    housed_events inside.events c.insert.new.self inside.activities inside.ends.items inside.at c.grow_lists.new.self c.self.invariant c.insert.ensures.paired c.grow_lists.ensures.items c.grow_lists.ensures.lists c.grow_lists.ensures.stored
    (in_reach inside.events c.insert.new.self c.args.event c.in_ok-place.place _ _ came c.self.invariant.event_room c.grow_lists.ensures.more (returns-clause-room c))

pub returns-clause-ok : goal.returns-clause-ok
returns-clause-ok c I stand =
    let came = rw c.get.ensures.value at c.in_ok-place.ensures.places in
    let absent = rw (sym c.self.view_is) at c.requires.absent in
    event_added I _ c.insert.new.self c.grow_lists.new.self.lists c.args.event c.in_ok-place.place absent came c.insert.ensures.paired c.grow_lists.ensures.lists (rw (sym c.self.view_is) at stand)
