-- The ends go from where their mates look, and come to the events.
use Rattle.std.proofs.Common.{◌≡◌, ◌+◌, ◌*◌, List, refl, slice_set, sym, ap, subst, ◌∙◌, inl, inr, arith}
use Rattle.std.specs.List.{Contains}
use Rattle.std.proofs.lemmas.Grind.{common_steps}
use Rattle.pesp_counts_arcs.specs.declared.end.End.{End}
use Rattle.pesp_counts_arcs.specs.Ends.{end_at, ends_of}
use Rattle.pesp_counts_arcs.specs.Links.{AreListedAt, AreUnlisted, KeepOthers, Links}
use Rattle.pesp_counts_arcs.proofs.StandAround.{head_listed, mate_listed, side_of, tail_listed, two_written}
use Rattle.pesp_counts_arcs.proofs.StandEdits.{shared_ends}
use Rattle.pesp_counts_arcs.proofs.StandMore.{new_or_old, was_listed}
use Rattle.pesp_counts_arcs.proofs.StandMoved.{ends_moved, housed_moved}
use Rattle.pesp_counts_arcs.proofs.StandPairs.{head_free, listed_at, still_there, unlisted}
use Rattle.pesp_counts_arcs.proofs.links.Links.set_ends.Goals as goal
use Rattle.pesp_counts_arcs.proofs.links.Links.set_ends.Goals.{After-add-in-Some, After-remove-in-Some}

-- the ends as they were written
abbrev turned : After-add-in-Some → List End
turned c =
    slice_set (slice_set c.self.inside.ends.items c.tail_at-tail.result (record c.index_mut.result.now { looks_at = c.unwrap-to_at.result }))
    (c.tail_at-tail.result + 1) (record c.index_mut-in-Some.result.now { looks_at = c.unwrap-from_at.result })

wrote : (c : After-add-in-Some) → let ends = c.self.inside.ends.items in let q = c.in-Some.place in
    KeepOthers ends (turned c) q × (end_at (turned c) (2 * q) ≡ record (end_at ends (2 * q)) { looks_at = c.unwrap-to_at.result }) × (end_at (turned c) (2 * q + 1) ≡ record (end_at ends (2 * q + 1)) { looks_at = c.unwrap-from_at.result })
wrote c =
    let low = c.self.invariant.activity_room c.args.id c.in-Some.place (rw (sym c.self.view_is) at (sym c.activity.ensures ∙ c.in-Some.is)) in
    let was : c.index_mut.result.now ≡ end_at c.self.inside.ends.items (2 * c.in-Some.place) = grind (arith, common_steps, low, c.tail_at-tail.ensures, c.index_mut.ensures.value) in
    let was' : c.index_mut-in-Some.result.now ≡ end_at c.self.inside.ends.items (2 * c.in-Some.place + 1) = grind (arith, common_steps, low, c.tail_at-tail.ensures, c.index_mut-in-Some.ensures.value) in
    let w = two_written c.self.inside.ends.items c.in-Some.place _ _ _ c.tail_at-tail.ensures low in
    (w.0, w.1 ∙ ap (λ (e : End). record e { looks_at = c.unwrap-to_at.result }) was, w.2 ∙ ap (λ (e : End). record e { looks_at = c.unwrap-from_at.result }) was')

pub remove-requires : goal.remove-requires
remove-requires c =
    let listed = tail_listed c.requires.stood.0 _ c.args.id c.in-Some.place (sym c.activity.ensures ∙ c.in-Some.is) c.requires.stood.1 in
    rw (c.tail_at-tail.ensures, c.events_of-tail_at.ensures.from, sym c.self.view_is) (rw (sym c.self.view_is) at listed)

pub remove-requires-in-Some : goal.remove-requires-in-Some
remove-requires-in-Some c =
    let at = sym c.activity.ensures ∙ c.in-Some.is in
    let tail = rw (sym c.self.view_is) at (tail_listed c.requires.stood.0 _ c.args.id c.in-Some.place at c.requires.stood.1) in
    let head = rw (sym c.self.view_is) at (head_listed c.requires.stood.0 _ c.args.id c.in-Some.place at c.requires.stood.1) in
    rw (c.remove.ensures.lists, c.tail_at-tail.ensures, c.events_of-tail_at.ensures.from, c.events_of-tail_at.ensures.to, sym c.self.view_is)
    (still_there c.self.inside.at.lists c.self.inside.at.items c.in-Some.place _ _ c.self.invariant.listed_in.shared tail head)

gone : (c : After-remove-in-Some) → AreUnlisted c.self.inside.at.lists c.remove-in-Some.new.self.lists c.in-Some.place
gone c =
    let at = sym c.activity.ensures ∙ c.in-Some.is in
    let tail = rw (sym c.self.view_is) at (tail_listed c.requires.stood.0 _ c.args.id c.in-Some.place at c.requires.stood.1) in
    let head = rw (sym c.self.view_is) at (head_listed c.requires.stood.0 _ c.args.id c.in-Some.place at c.requires.stood.1) in
    rw (c.remove-in-Some.ensures.lists, c.remove.ensures.lists, c.tail_at-tail.ensures, c.events_of-tail_at.ensures.from, c.events_of-tail_at.ensures.to, sym c.self.view_is)
    (unlisted c.self.inside.at.lists c.self.inside.at.items c.in-Some.place _ _ c.self.invariant.listed_in.shared tail head)

pub add-requires-clause-free : goal.add-requires-clause-free
add-requires-clause-free c p i = (gone (goal.at.add-requires-clause-free c).After-remove-in-Some).gone p _ i (inl c.tail_at-tail.ensures)

pub add-requires-in-Some-clause-free : goal.add-requires-in-Some-clause-free
add-requires-in-Some-clause-free c p i =
    let less = gone (goal.at.add-requires-in-Some-clause-free c).After-remove-in-Some in
    let many = less.many in
    let low = c.self.invariant.event_room _ _ (rw (sym c.self.view_is) at (sym c.event.ensures ∙ c.unwrap-from_at.ensures)) in
    head_free c.remove-in-Some.new.self.lists c.in-Some.place c.unwrap-from_at.result (omega (arith, low, many)) less.gone p
    (rw (c.add.ensures.lists, c.tail_at-tail.ensures) at i)

listed : (c : After-add-in-Some) → AreUnlisted c.self.inside.at.lists c.remove-in-Some.new.self.lists c.in-Some.place → AreListedAt c.remove-in-Some.new.self.lists c.add-in-Some.new.self.lists c.in-Some.place c.unwrap-from_at.result c.unwrap-to_at.result
listed c less =
    let many = less.many in
    let from = c.self.invariant.event_room _ _ (rw (sym c.self.view_is) at (sym c.event.ensures ∙ c.unwrap-from_at.ensures)) in
    let to = c.self.invariant.event_room _ _ (rw (sym c.self.view_is) at (sym c.event-in-Some.ensures ∙ c.unwrap-to_at.ensures)) in
    rw (c.add-in-Some.ensures.lists, c.add.ensures.lists, c.tail_at-tail.ensures)
    (listed_at c.remove-in-Some.new.self.lists c.in-Some.place c.unwrap-from_at.result (omega (arith, from, many)) c.unwrap-to_at.result (omega (arith, to, many)))

pub invariant_of-self : goal.invariant_of-self
invariant_of-self c =
    let less = gone (goal.at.invariant_of-self c).After-remove-in-Some in
    let inside = c.self.inside in
    let put = (goal.at.invariant_of-self c).After-add-in-Some in
    let at = rw (sym c.self.view_is) at (sym c.activity.ensures ∙ c.in-Some.is) in
    housed_moved inside.events inside.activities inside.ends.items (turned put) inside.at c.remove-in-Some.new.self.lists c.add-in-Some.new.self c.args.id c.in-Some.place _ _ c.self.invariant at (wrote put).0.many
    (c.add-in-Some.ensures.items ∙ c.add.ensures.items ∙ c.remove-in-Some.ensures.items ∙ c.remove.ensures.items) less (listed put less) c.add-in-Some.ensures.stored

pub returns-in-Some-clause-stand : goal.returns-in-Some-clause-stand
returns-in-Some-clause-stand c I J ok stand =
    let less = gone (goal.at.returns-in-Some-clause-stand c).After-remove-in-Some in
    let inside = c.self.inside in
    let put = (goal.at.returns-in-Some-clause-stand c).After-add-in-Some in
    let at = rw (sym c.self.view_is) at (sym c.activity.ensures ∙ c.in-Some.is) in
    let from = rw (sym c.self.view_is) at (sym c.event.ensures ∙ c.unwrap-from_at.ensures) in
    let to = rw (sym c.self.view_is) at (sym c.event-in-Some.ensures ∙ c.unwrap-to_at.ensures) in
    let (keep, tail, head) = wrote put in
    let shared = shared_ends inside.events inside.activities (turned put) c.add-in-Some.new.self (invariant_of-self c) in
    ends_moved I _ (turned put) c.remove-in-Some.new.self.lists c.add-in-Some.new.self.lists c.args.id c.args.from c.args.to c.in-Some.place _ _ at from to tail head keep
    less (listed put less) shared (rw (sym c.self.view_is) at stand) J ok

pub returns-in-Some-clause-listed : goal.returns-in-Some-clause-listed
returns-in-Some-clause-listed c p k is =
    let less = gone (goal.at.returns-in-Some-clause-listed c).After-remove-in-Some in
    elim (new_or_old _ _ c.in-Some.place _ _ p k (listed (goal.at.returns-in-Some-clause-listed c).After-add-in-Some less) is) [
      | inl end ↦
          let side = side_of c.in-Some.place k end in
          let listed = mate_listed c.requires.stood.0 _ c.args.id c.in-Some.place (sym c.activity.ensures ∙ c.in-Some.is) c.requires.stood.1 side.0 in
          (_, subst (Contains (ends_of c.args.self.now.lists _)) (sym side.1) listed)
      | inr old ↦ (p, subst (λ (L : Links). Contains (ends_of L.lists p) k) c.self.view_is (less.was p k old))
    ]

pub returns-in-Some-clause-changed : goal.returns-in-Some-clause-changed
returns-in-Some-clause-changed c =
    let less = gone (goal.at.returns-in-Some-clause-changed c).After-remove-in-Some in
    let put = (goal.at.returns-in-Some-clause-changed c).After-add-in-Some in
    let (keep, tail, head) = wrote put in
    rw (sym c.activity.ensures ∙ c.in-Some.is, sym c.self.view_is)
    (record {
      events = λ e. refl;
      listed = λ p k i out. less.was p k (was_listed _ _ c.in-Some.place _ _ p k (listed put less) i out);
      ends = keep.others;
    })
