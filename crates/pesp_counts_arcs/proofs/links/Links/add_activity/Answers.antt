-- The activity has its place and its ends, or the place is taken away again.
use Rattle.std.proofs.Common.{◌≡◌, ◌+◌, ◌*◌, ◌<◌, ℕ, List, Some, length, refl, slice_set, sym, ap, ◌∙◌, inl, arith}
use Rattle.pesp_base.specs.declared.activity.Activity.{Activity}
use Rattle.pesp_instance.proofs.Effects.{on_err, on_ok}
use Rattle.pesp_domains.specs.declared.side.Side.{Side}
use Rattle.pesp_domains.specs.declared.side.Side.TheVariants.{Tail, Head}
use Rattle.pesp_domains.specs.Domains.{own}
use Rattle.pesp_counts_arcs.specs.declared.end.End.{End}
use Rattle.pesp_counts_arcs.specs.Ends.{end_at, ends_of}
use Rattle.pesp_counts_arcs.specs.Links.{AreListedAt, IsEndFor, KeepOthers, LookAt, end_number}
use Rattle.pesp_counts_arcs.specs.Places.{place_of}
use Rattle.pesp_base.proofs.Tests.{always_err}
use Rattle.pesp_counts_arcs.proofs.StandAround.{two_made}
use Rattle.pesp_counts_arcs.proofs.StandEdits.{came_and_went, look_itself, look_same, shared_ends}
use Rattle.pesp_counts_arcs.proofs.StandLaws.{by_side}
use Rattle.pesp_counts_arcs.proofs.StandMore.{activity_added, housed_more, housed_room, unlisted_yet, was_listed}
use Rattle.pesp_counts_arcs.proofs.StandPairs.{head_free, listed_at}
use Rattle.pesp_counts_arcs.proofs.links.Links.add_activity.Goals as goal
use Rattle.pesp_counts_arcs.proofs.links.Links.add_activity.Goals.{After-add-2, After-remove}

-- the place that came went again
same : (c : After-remove) (n : ℕ) → place_of c.remove.new.self n ≡ place_of c.self.inside.activities n
same c =
    came_and_went c.self.inside.activities c.insert.new.self c.remove.new.self c.args.activity.now.id c.in_ok-place.place (rw (sym c.self.view_is) at c.requires.absent)
    (rw c.get.ensures.value at c.in_ok-place.ensures.places)
    (rw c.get-then-is_err.ensures.value at c.remove.ensures.places)

pub returns-in_err-place-clause-err : goal.returns-in_err-place-clause-err
returns-in_err-place-clause-err c =
    always_err c.from_residual.result
    (rw (c.in_err-place.ensures.err, sym c.self.view_is) (look_itself c.self.inside.events c.self.inside.activities c.self.inside.ends.items c.self.inside.at c.self.invariant))

pub invariant_of-self-then-is_err : goal.invariant_of-self-then-is_err
invariant_of-self-then-is_err c =
    let inside = c.self.inside in
    let as_before = same (goal.at.invariant_of-self-then-is_err c).After-remove in
    let ends = on_err c.make_ends.result c.if-is_err.ensures.value c.make_ends.ensures.err in
    rw ends
    (housed_room inside.events inside.activities c.remove.new.self inside.ends.items inside.at c.make_ends.new.at c.self.invariant c.remove.ensures.paired as_before
    (rw ends at c.make_ends.ensures.items) c.make_ends.ensures.lists c.make_ends.ensures.stored)

pub returns-then-is_err-clause-err : goal.returns-then-is_err-clause-err
returns-then-is_err-clause-err c =
    let inside = c.self.inside in
    let as_before = same (goal.at.returns-then-is_err-clause-err c).After-remove in
    let ends = on_err c.make_ends.result c.if-is_err.ensures.value c.make_ends.ensures.err in
    rw (ends, sym c.self.view_is)
    (look_same inside.events inside.events inside.activities c.remove.new.self inside.ends.items inside.at c.make_ends.new.at.lists c.self.invariant c.self.invariant.are_events c.remove.ensures.paired (λ e. refl) as_before
    (λ p. ap (λ xs. ends_of xs p) c.make_ends.ensures.lists))

pub add-requires-clause-free : goal.add-requires-clause-free
add-requires-clause-free c p i =
    let inside = c.self.inside in
    unlisted_yet inside.events inside.activities inside.ends.items inside.at c.in_ok-place.place c.self.invariant c.in_ok-place.ensures.free p _ (rw c.make_ends.ensures.lists at i) (inl refl)

pub add-requires-2-clause-free : goal.add-requires-2-clause-free
add-requires-2-clause-free c p i =
    let inside = c.self.inside in
    let from = c.self.invariant.event_room _ _ (rw c.get-2.ensures.value at (sym c.place.ensures ∙ c.unwrap-tail_at.ensures)) in
    let free = unlisted_yet inside.events inside.activities inside.ends.items inside.at c.in_ok-place.place c.self.invariant c.in_ok-place.ensures.free in
    head_free inside.at.lists c.in_ok-place.place c.unwrap-tail_at.result from free p (rw (c.add.ensures.lists, c.make_ends.ensures.lists) at i)

listed : (c : After-add-2) → AreListedAt c.self.inside.at.lists c.add-2.new.self.lists c.in_ok-place.place c.unwrap-tail_at.result c.unwrap-head_at.result
listed c =
    let from = c.self.invariant.event_room _ _ (rw c.get-2.ensures.value at (sym c.place.ensures ∙ c.unwrap-tail_at.ensures)) in
    let to = c.self.invariant.event_room _ _ (rw c.get-3.ensures.value at (sym c.place-2.ensures ∙ c.unwrap-head_at.ensures)) in
    rw (c.add-2.ensures.lists, c.add.ensures.lists, c.make_ends.ensures.lists) (listed_at c.self.inside.at.lists c.in_ok-place.place c.unwrap-tail_at.result from c.unwrap-head_at.result to)

-- the ends as they were written
abbrev made : After-add-2 → List End
made c = slice_set (slice_set c.make_ends.new.ends.items (2 * c.in_ok-place.place) c.tail.result) (2 * c.in_ok-place.place + 1) c.head.result

wrote : (c : After-add-2) → let q = c.in_ok-place.place in let span = c.args.activity.now.span in
    2 * q + 1 < length c.make_ends.new.ends.items → KeepOthers c.make_ends.new.ends.items (made c) q × IsEndFor c.args.period span Tail (end_at (made c) (2 * q)) × IsEndFor c.args.period span Head (end_at (made c) (2 * q + 1))
    × LookAt (made c) q c.unwrap-tail_at.result c.unwrap-head_at.result
wrote c room =
    two_made c.args.period c.args.activity.now.span c.make_ends.new.ends.items c.in_ok-place.place _ _ _ c.tail.result c.head.result refl room
    (record { first = c.tail.ensures.first; some = c.tail.ensures.some; width = c.tail.ensures.width; joins = c.tail.ensures.joins })
    (record { first = c.head.ensures.first; some = c.head.ensures.some; width = c.head.ensures.width; joins = c.head.ensures.joins })
    (c.tail.ensures.looks, c.tail.ensures.mate) (c.head.ensures.looks, c.head.ensures.mate)

pub invariant_of-self-2 : goal.invariant_of-self-2
invariant_of-self-2 c =
    let inside = c.self.inside in
    let put = (goal.at.invariant_of-self-2 c).After-add-2 in
    let came = rw c.get.ensures.value at c.in_ok-place.ensures.places in
    let absent = rw (sym c.self.view_is) at c.requires.absent in
    let room = on_ok c.make_ends.result c.if-is_err.ensures.value c.make_ends.ensures.ok in
    let long = (wrote put room).0.many in
    let more = c.make_ends.ensures.more in
    let few = c.make_ends.ensures.items in
    let items = c.add-2.ensures.items ∙ c.add.ensures.items in
    housed_more inside.events inside.activities c.insert.new.self inside.ends.items (made put) inside.at c.add-2.new.self c.args.activity.now.id c.in_ok-place.place _ _ c.self.invariant absent c.insert.ensures.paired came
    (omega (arith, more, long)) (omega (arith, room, long)) (omega (arith, few, long, items)) (listed put) c.add-2.ensures.stored

pub returns-clause-ok : goal.returns-clause-ok
returns-clause-ok c I J period ok stand =
    let inside = c.self.inside in
    let a : Activity = c.args.activity.now in
    let put = (goal.at.returns-clause-ok c).After-add-2 in
    let at : Side → ℕ = by_side (λ s. ℕ) c.unwrap-tail_at.result c.unwrap-head_at.result in
    let came = rw c.get.ensures.value at c.in_ok-place.ensures.places in
    let absent = rw (sym c.self.view_is) at c.requires.absent in
    let from = rw c.get-2.ensures.value at (sym c.place.ensures ∙ c.unwrap-tail_at.ensures) in
    let to = rw c.get-3.ensures.value at (sym c.place-2.ensures ∙ c.unwrap-head_at.ensures) in
    let (keep, tail, head, look) = wrote put (on_ok c.make_ends.result c.if-is_err.ensures.value c.make_ends.ensures.ok) in
    let shared = shared_ends inside.events c.insert.new.self (made put) c.add-2.new.self (invariant_of-self-2 c) in
    activity_added I _ c.insert.new.self (made put) c.add-2.new.self.lists a c.in_ok-place.place at absent came c.insert.ensures.paired c.in_ok-place.ensures.free
    (by_side (λ s. place_of inside.events (own s a) ≡ Some (at s)) from to)
    (λ k out. keep.others k out ∙ c.make_ends.ensures.ends k)
    (rw (sym period) at (by_side (λ s. IsEndFor c.args.period a.span s (end_at (made put) (end_number s c.in_ok-place.place))) tail head))
    look (listed put) shared (rw (sym c.self.view_is) at stand) J ok

pub returns-clause-changed : goal.returns-clause-changed
returns-clause-changed c =
    let put = (goal.at.returns-clause-changed c).After-add-2 in
    let (keep, tail, head, look) = wrote put (on_ok c.make_ends.result c.if-is_err.ensures.value c.make_ends.ensures.ok) in
    rw (sym c.self.view_is)
    (record {
      events = λ e. refl;
      listed = λ p k i out. was_listed _ _ c.in_ok-place.place _ _ p k (listed put) i out;
      ends = λ k out. keep.others k out ∙ c.make_ends.ensures.ends k;
    })
