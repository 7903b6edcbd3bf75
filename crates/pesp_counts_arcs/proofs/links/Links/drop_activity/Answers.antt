-- The ends stand where their mates look, and go with the place.
use Rattle.std.proofs.Common.{refl, sym, ◌∙◌}
use Rattle.pesp_counts_arcs.proofs.StandAround.{activity_dropped, head_listed, housed_less, tail_listed}
use Rattle.pesp_counts_arcs.proofs.StandEdits.{shared_ends}
use Rattle.pesp_counts_arcs.specs.Links.{AreUnlisted}
use Rattle.pesp_counts_arcs.proofs.StandPairs.{still_there, unlisted}
use Rattle.pesp_counts_arcs.proofs.links.Links.drop_activity.Goals as goal
use Rattle.pesp_counts_arcs.proofs.links.Links.drop_activity.Goals.{After-remove-in-Some-2}

pub remove-requires : goal.remove-requires
remove-requires c =
    let listed = tail_listed c.requires.0 _ c.args.id c.in-Some.place (sym c.activity.ensures ∙ c.in-Some.is) c.requires.1 in
    rw (c.tail_at-tail.ensures, c.events_of-from_at.ensures.from, sym c.self.view_is) (rw (sym c.self.view_is) at listed)

pub remove-requires-in-Some : goal.remove-requires-in-Some
remove-requires-in-Some c =
    let at = sym c.activity.ensures ∙ c.in-Some.is in
    let tail = rw (sym c.self.view_is) at (tail_listed c.requires.0 _ c.args.id c.in-Some.place at c.requires.1) in
    let head = rw (sym c.self.view_is) at (head_listed c.requires.0 _ c.args.id c.in-Some.place at c.requires.1) in
    rw (c.remove.ensures.lists, c.tail_at-tail.ensures, c.events_of-from_at.ensures.from, c.events_of-from_at.ensures.to, sym c.self.view_is)
    (still_there c.self.inside.at.lists c.self.inside.at.items c.in-Some.place _ _ c.self.invariant.listed_in.shared tail head)

gone : (c : After-remove-in-Some-2) → AreUnlisted c.self.inside.at.lists c.remove-in-Some.new.self.lists c.in-Some.place
gone c =
    let at = sym c.activity.ensures ∙ c.in-Some.is in
    let tail = rw (sym c.self.view_is) at (tail_listed c.requires.0 _ c.args.id c.in-Some.place at c.requires.1) in
    let head = rw (sym c.self.view_is) at (head_listed c.requires.0 _ c.args.id c.in-Some.place at c.requires.1) in
    rw (c.remove-in-Some.ensures.lists, c.remove.ensures.lists, c.tail_at-tail.ensures, c.events_of-from_at.ensures.from, c.events_of-from_at.ensures.to, sym c.self.view_is)
    (unlisted c.self.inside.at.lists c.self.inside.at.items c.in-Some.place _ _ c.self.invariant.listed_in.shared tail head)

pub invariant_of-self : goal.invariant_of-self
invariant_of-self c =
    let inside = c.self.inside in
    let at = rw (sym c.self.view_is) at (sym c.activity.ensures ∙ c.in-Some.is) in
    let went = rw c.get.ensures.value at c.remove-in-Some-2.ensures.places in
    housed_less inside.events inside.activities c.remove-in-Some-2.new.self inside.ends.items inside.at c.remove-in-Some.new.self c.args.id c.in-Some.place c.self.invariant c.remove-in-Some-2.ensures.paired went at (gone (goal.at.invariant_of-self c).After-remove-in-Some-2) (c.remove-in-Some.ensures.items ∙ c.remove.ensures.items) c.remove-in-Some.ensures.stored

pub returns-in-Some-clause-stand : goal.returns-in-Some-clause-stand
returns-in-Some-clause-stand c I J ok stand =
    let at = rw (sym c.self.view_is) at (sym c.activity.ensures ∙ c.in-Some.is) in
    let went = rw c.get.ensures.value at c.remove-in-Some-2.ensures.places in
    let shared = shared_ends c.self.inside.events c.remove-in-Some-2.new.self c.self.inside.ends.items c.remove-in-Some.new.self (invariant_of-self c) in
    activity_dropped I J _ c.remove-in-Some-2.new.self c.remove-in-Some.new.self.lists c.args.id c.in-Some.place ok at went c.remove-in-Some-2.ensures.paired (gone (goal.at.returns-in-Some-clause-stand c).After-remove-in-Some-2) shared (rw (sym c.self.view_is) at stand)

pub returns-in-Some-clause-changed : goal.returns-in-Some-clause-changed
returns-in-Some-clause-changed c =
    rw (sym c.activity.ensures ∙ c.in-Some.is, sym c.self.view_is)
    (record { events = λ e. refl; listed = λ p k is apart. (gone (goal.at.returns-in-Some-clause-changed c).After-remove-in-Some-2).was p k is; ends = λ k apart. refl })

pub returns-in-Some-clause-gone : goal.returns-in-Some-clause-gone
returns-in-Some-clause-gone c = rw (sym c.activity.ensures ∙ c.in-Some.is) (gone (goal.at.returns-in-Some-clause-gone c).After-remove-in-Some-2).gone
