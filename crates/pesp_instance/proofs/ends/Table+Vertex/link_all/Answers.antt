-- Each activity is listed after those of lesser number, until none is left.
use Rattle.std.proofs.Common.{◌≡◌, ◌++◌, ◌∷◌, [], sym, ap, subst, ◌∙◌}
use Rattle.std.proofs.lemmas.List.{append_assoc, append-nil}
use Rattle.pesp_instance.specs.Network.{HasEnds, IsActivity}
use Rattle.pesp_instance.specs.Ends.{events_of}
use Rattle.pesp_instance.proofs.Linked.{IsLinkedTo, linked_more, none_linked}
use Rattle.pesp_instance.proofs.Numbers.{activity_number as id_of}
use Rattle.pesp_instance.proofs.Rising.{Rises, Rises-from_increasing}
use Rattle.pesp_instance.proofs.ends.Table+Vertex.link_all.Goals as goal

pub loop-activity-init : goal.loop-activity-init
loop-activity-init c = ([], c.into_iter-activity-iterator.ensures.into_iter_gives ∙ c.iter-activity-items.ensures, none_linked c.args.self.now.values c.requires.none)

pub loop-activity-preserved : goal.loop-activity-preserved
loop-activity-preserved c =
    let front = c.loop-activity.invariant.0 in
    let a = c.in-Some.activity.now in
    let all : front ++ a ∷ c.next.new.self ≡ c.args.activities.now.values = ap (λ as'. front ++ as') (sym c.in-Some.ensures.steps) ∙ c.loop-activity.invariant.1 in
    let rises : Rises id_of (front ++ a ∷ c.next.new.self) = rw all (Rises-from_increasing id_of c.args.activities.now.values c.requires.rising) in
    let so = c.loop-activity.invariant.2 in
    let within : IsActivity a = record { number = c.get.ensures.limit; bounds = c.lower.ensures.limits; weight = c.get-in-loop-activity.ensures.limit } in
    let ends : HasEnds (events_of c.args.self.now.values) a = rw (← so.kept) (record { from = sym c.in-Some-event_slot.ensures.known; to = sym c.in-Some-event_slot-2.ensures.known }) in (
      front ++ a ∷ [],
      append_assoc front (a ∷ []) c.next.new.self ∙ all,
      linked_more c.args.self.now.values c.loop-activity.self.values c.link.new.self.values front a c.next.new.self rises so within ends c.in_ok-link.ensures.ok c.in_ok-link.ensures.kept.events,
    )

-- none is left
all_linked : (c : goal.In-None) → IsLinkedTo c.args.self.now.values c.loop-activity.self.values c.args.activities.now.values
all_linked c =
    let front = c.loop-activity.invariant.0 in
    subst (IsLinkedTo c.args.self.now.values c.loop-activity.self.values) (sym (append-nil front) ∙ ap (λ as'. front ++ as') (sym c.in-None.ensures.steps.0) ∙ c.loop-activity.invariant.1) c.loop-activity.invariant.2

pub returns-clause-listed : goal.returns-clause-listed
returns-clause-listed c is = (all_linked c).listed

pub returns-clause-ends : goal.returns-clause-ends
returns-clause-ends c is = (all_linked c).ends

pub returns-clause-within : goal.returns-clause-within
returns-clause-within c is = (all_linked c).within

pub returns-clause-kept : goal.returns-clause-kept
returns-clause-kept c is = (all_linked c).kept
