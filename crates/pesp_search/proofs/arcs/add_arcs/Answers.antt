-- An activity more has its arc.
use Rattle.std.proofs.Common.{◌≡◌, ◌++◌, ◌∷◌, [], append_assoc, append-nil, refl, ap, sym, subst, ◌∙◌, arith}
use Rattle.std.specs.List.{Contains}
use Rattle.std.proofs.lemmas.List.Elements.{All-head, All-tail, All-contains, All-contains_itself}
use Rattle.pesp_instance.specs.Network.{HasEnds}
use Rattle.pesp_search.specs.Arcs.{AreArcsOf}
use Rattle.pesp_search.proofs.Networks.{arcs_more, event_among, room_for_arc}
use Rattle.pesp_search.proofs.arcs.add_arcs.Goals as goal

pub loop-activity-init : goal.loop-activity-init
loop-activity-init c =
    let all = c.into_iter-activity-iterator.ensures.into_iter_gives ∙ c.activities-activity-items.ensures.value in
    record {
      can_next = tt;
      is_finite = tt;
      among = rw all (All-contains_itself c.args.instance.now.activities);
      done = ([], all, rw c.requires.none tt);
      period = refl;
      indices = refl;
      rows = refl;
    }

pub arc_of-requires-clause-rises : goal.arc_of-requires-clause-rises
arc_of-requires-clause-rises c = rw c.requires.events c.activities-activity-items.ensures.network.events_rise

pub arc_of-requires-clause-from : goal.arc_of-requires-clause-from
arc_of-requires-clause-from c =
    let I = c.args.instance.now in
    let a = c.in-Some.activity.now in
    let among = All-head (Contains I.activities) a c.next.new.self (rw c.in-Some.ensures.steps at c.loop-activity.invariant.among) in
    let ends = All-contains (HasEnds I.events) I.activities a c.activities-activity-items.ensures.network.ends among in
    rw c.requires.events (event_among I a.from ends.from)

pub arc_of-requires-clause-to : goal.arc_of-requires-clause-to
arc_of-requires-clause-to c =
    let I = c.args.instance.now in
    let a = c.in-Some.activity.now in
    let among = All-head (Contains I.activities) a c.next.new.self (rw c.in-Some.ensures.steps at c.loop-activity.invariant.among) in
    let ends = All-contains (HasEnds I.events) I.activities a c.activities-activity-items.ensures.network.ends among in
    rw c.requires.events (event_among I a.to ends.to)

pub add-requires-clause-from : goal.add-requires-clause-from
add-requires-clause-from c =
    let low = c.arc_of.ensures.from in
    omega (arith, low, c.requires.indices, c.loop-activity.invariant.indices)

pub add-requires-clause-to : goal.add-requires-clause-to
add-requires-clause-to c =
    let low = c.arc_of.ensures.to in
    omega (arith, low, c.requires.indices, c.loop-activity.invariant.indices)

pub add-requires-clause-few : goal.add-requires-clause-few
add-requires-clause-few c =
    let I = c.args.instance.now in
    let done = c.loop-activity.invariant.done in
    let all : done.0 ++ c.in-Some.activity.now ∷ c.next.new.self ≡ I.activities = sym (ap (λ list. done.0 ++ list) c.in-Some.ensures.steps) ∙ done.1 in
    room_for_arc I c.args.events.now done.0 c.next.new.self c.in-Some.activity.now c.loop-activity.network.arcs c.activities-activity-items.ensures.network all done.2

pub loop-activity-preserved : goal.loop-activity-preserved
loop-activity-preserved c =
    let I = c.args.instance.now in
    let a = c.in-Some.activity.now in
    let left = c.next.new.self in
    let now = rw c.in-Some.ensures.steps at c.loop-activity.invariant in
    let done = now.done in
    let added = c.in_ok-add.ensures.ok in
    record {
      can_next = tt;
      is_finite = tt;
      among = All-tail (Contains I.activities) a left now.among;
      done = (
        done.0 ++ a ∷ [],
        append_assoc done.0 (a ∷ []) left ∙ done.1,
        rw added (arcs_more c.args.events.now done.0 c.loop-activity.network.arcs a c.arc_of.result done.2 c.arc_of.ensures),
      );
      period = rw added now.period;
      indices = rw added now.indices;
      rows = rw added now.rows;
    }

pub returns-clause-arcs : goal.returns-clause-arcs
returns-clause-arcs c =
    let I = c.args.instance.now in
    let done = c.loop-activity.invariant.done in
    let all : done.0 ≡ I.activities = sym (append-nil done.0) ∙ sym (ap (λ list. done.0 ++ list) c.in-None.ensures.steps.0) ∙ done.1 in
    subst (λ front. AreArcsOf c.args.events.now front c.loop-activity.network.arcs) all done.2
