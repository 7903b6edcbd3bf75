-- The rows follow the instance, what was added goes again where it finds no room, and what was put back is told by number.
use Rattle.std.proofs.Common.{◌≡◌, ◌∙◌, ap, sym, subst, [], Ok, map, vec_capacity, arith}
use Rattle.std.specs.Result.{is_err}
use Rattle.std.proofs.lemmas.Bool.{false≢true}
use Rattle.pesp_instance.proofs.Effects.{on_err, on_ok}
use Rattle.pesp_domains.proofs.Edits.{few_left}
use Rattle.pesp_counts.specs.declared.keeper.CountKeeper.TheInside.{Inside}
use Rattle.pesp_counts_supports.specs.Resting.{HaveRoom}
use Rattle.pesp_counts.specs.Changes.{IsFollowed, WereSettled}
use Rattle.pesp_counts.specs.Restores.{Restores, Seen, StaysWithin, numbered_pair}
use Rattle.pesp_counts.proofs.Applied.{found, keeping_none, none_pushed, not_adds}
use Rattle.pesp_counts.proofs.Keeping.{room_same}
use Rattle.pesp_counts.proofs.Told.{told_places, told_restored, told_room, within_told}
use Rattle.pesp_counts.specs.declared.work.Work.{Work}
use Rattle.pesp_counts.specs.Works.{IsWork}
use Rattle.pesp_base.proofs.Tests.{always_err}
use Rattle.pesp_counts.proofs.Worked.{work_is}
use Rattle.pesp_counts.proofs.keeper.CountKeeperKeeper.apply.Goals as goal
use Rattle.pesp_counts.proofs.keeper.CountKeeperKeeper.apply.Goals.{After-clear, in-AddEvent, in-AddActivity, in_default}

pub from_edit-change-requires : goal.from_edit-change-requires
from_edit-change-requires c = c.self.invariant.settled.fits.stand

-- the edit finds the domains of the instance before it, and room for what it puts back
start : (c : After-clear) → WereSettled c.self.inside.instance c.apply.new.self c.args.edit.now c.self.inside.counted.links c.forget.new.self × HaveRoom c.forget.new.self (vec_capacity c.clear.new.self) (vec_capacity c.self.inside.counted.restored)
start c =
    let f = c.forget.ensures in
    let (were, room) = found c.self.inside c.apply.new.self c.args.edit.now c.forget.new.self c.self.invariant (ap (λ (k : Seen). k.pushes) c.self.view_is ∙ c.requires) c.in_ok-apply.ensures.ok f.rows f.counted f.counts f.trail f.shape in
    (were, rw c.clear.ensures.capacity room)

pub add_event-followed-requires-clause-before : goal.add_event-followed-requires-clause-before
add_event-followed-requires-clause-before c = (c.self.inside.instance, rw c.in-AddEvent.is at (start c.before.before.before.before).0)

pub add_activity-followed-requires-clause-before : goal.add_activity-followed-requires-clause-before
add_activity-followed-requires-clause-before c = (c.self.inside.instance, rw c.in-AddActivity.is at (start c.before.before.before).0)

pub add_activity-followed-requires-clause-room : goal.add_activity-followed-requires-clause-room
add_activity-followed-requires-clause-room c = (start c.before.before.before).1.back

pub follow-requires-clause-adds : goal.follow-requires-clause-adds
follow-requires-clause-adds c = not_adds c.args.edit.now c.in_default.not-AddEvent c.in_default.not-AddActivity

pub follow-requires-clause-before : goal.follow-requires-clause-before
follow-requires-clause-before c = (c.self.inside.instance, (start c.before.before.before).0, c.from_edit-change.ensures c.apply.new.self c.in_ok-apply.ensures.ok)

pub follow-requires-clause-room : goal.follow-requires-clause-room
follow-requires-clause-room c = (start c.before.before.before).1.back

-- the edit was followed, and there is room for what it put back
facts : (c : goal.After-number_pairs-arg-2-1) → WereSettled c.self.inside.instance c.apply.new.self c.args.edit.now c.self.inside.counted.links c.forget.new.self × IsFollowed c.self.inside.instance c.apply.new.self c.args.edit.now c.self.inside.counted.links c.match-edit.self-inside.counted.links c.forget.new.self c.match-edit.self-inside.counted.supports c.match-edit.self-inside.counted.back.items × HaveRoom c.match-edit.self-inside.counted.supports (vec_capacity c.match-edit.self-inside.counted.back) (vec_capacity c.match-edit.self-inside.counted.restored)
facts c =
    let i = c.self.inside in
    let I = i.instance in
    let s = c.forget.new.self in
    let (were, kept) = start c.before.before.before.before.before.before.before.before.before in
    elim c.match-edit.branch [
      | in-AddEvent w ↦
          let a = w.add_event-followed in
          let ok = on_ok a.result (c.if-is_err.ensures.value ∙ ap is_err w.followed-is) a.ensures.ok in
          rw w.self-inside-is (were, rw w.in-AddEvent.is (ok I (rw w.in-AddEvent.is at were)), a.ensures.room kept)
      | in-AddActivity w ↦
          let a = w.add_activity-followed in
          let ok = on_ok a.result (c.if-is_err.ensures.value ∙ ap is_err w.followed-is) a.ensures.ok in
          rw w.self-inside-is (
            were,
            rw w.in-AddActivity.is (ok I (rw w.in-AddActivity.is at were)),
            record { back = rw (a.ensures.room, a.ensures.period, a.ensures.rows) kept.back; restored = rw (a.ensures.restored, a.ensures.period, a.ensures.rows) kept.restored },
          )
      | in_default w ↦
          let a = w.follow in
          rw w.self-inside-is (were, a.ensures.followed I (c.from_edit-change.ensures c.apply.new.self c.in_ok-apply.ensures.ok) were, rw (a.ensures.room, a.ensures.restored) (room_same s a.new.counted.supports (vec_capacity c.clear.new.self) (vec_capacity i.counted.restored) a.ensures.shape kept))
    ]

pub number_pairs-requires : goal.number_pairs-requires
number_pairs-requires c =
    let i = c.self.inside in
    let k = c.match-edit.self-inside in
    let (were, followed, room) = facts c in
    rw c.deref.ensures.value
    (record {
      places = told_places i.instance c.apply.new.self c.args.edit.now i.counted.links k.counted.links c.forget.new.self k.counted.supports k.counted.back.items followed c.in_ok-apply.ensures.ok;
      room = told_room i.instance c.apply.new.self c.args.edit.now i.counted.links k.counted.links c.forget.new.self k.counted.supports k.counted.back.items followed c.in_ok-apply.ensures.ok (vec_capacity k.counted.back) (vec_capacity k.counted.restored) room;
    })

pub invariant_of-self-then-is_err : goal.invariant_of-self-then-is_err
invariant_of-self-then-is_err c =
    let i = c.self.inside in
    let (were, kept) = start c.before.before.before.before.before.before in
    let I = i.instance in
    let h = c.self.invariant in
    let made = c.in_ok-apply.ensures.ok in
    let nothing : i.pushed.items ≡ [] = none_pushed i.pushed.items (ap (λ (k : Seen). k.pushes) c.self.view_is ∙ c.requires) in
    elim c.match-edit.branch [
      | in-AddEvent w ↦
          let a = w.add_event-followed in
          let back : c.take_back.new.instance ≡ I = c.take_back.ensures I h.settled.network (made ∙ ap (λ (k : Inside). Ok k.instance) (sym w.self-inside-is)) in
          let err = on_err a.result (c.if-is_err.ensures.value ∙ ap is_err w.followed-is) a.ensures.err in
          rw (back, w.self-inside-is)
          (keeping_none I a.new.pushed.items a.new.counted.links a.new.counted.supports (vec_capacity a.new.pushed) (vec_capacity a.new.counted.back) (vec_capacity a.new.counted.restored) a.ensures.pushed
          (err I (rw w.in-AddEvent.is at were)) (omega (arith, h.room_pushed, a.ensures.more)) (a.ensures.room kept))
      | in-AddActivity w ↦
          let a = w.add_activity-followed in
          let back : c.take_back.new.instance ≡ I = c.take_back.ensures I h.settled.network (made ∙ ap (λ (k : Inside). Ok k.instance) (sym w.self-inside-is)) in
          let err = on_err a.result (c.if-is_err.ensures.value ∙ ap is_err w.followed-is) a.ensures.err in
          let still : HaveRoom a.new.counted.supports (vec_capacity a.new.counted.back) (vec_capacity a.new.counted.restored) = record { back = rw (a.ensures.room, a.ensures.period, a.ensures.rows) kept.back; restored = rw (a.ensures.restored, a.ensures.period, a.ensures.rows) kept.restored } in
          rw (back, w.self-inside-is)
          (keeping_none I i.pushed.items a.new.counted.links a.new.counted.supports (vec_capacity i.pushed) (vec_capacity a.new.counted.back) (vec_capacity a.new.counted.restored) nothing
          (err I (rw w.in-AddActivity.is at were)) h.room_pushed still)
      | in_default w ↦ absurd (false≢true (sym (c.if-is_err.ensures.value ∙ ap is_err w.followed-is)))
    ]

-- and so it is in the end
at_last : (c : goal.After-self-1) → WereSettled c.self.inside.instance c.apply.new.self c.args.edit.now c.self.inside.counted.links c.forget.new.self × IsFollowed c.self.inside.instance c.apply.new.self c.args.edit.now c.self.inside.counted.links c.match-edit.self-inside.counted.links c.forget.new.self c.match-edit.self-inside.counted.supports c.match-edit.self-inside.counted.back.items × HaveRoom c.match-edit.self-inside.counted.supports (vec_capacity c.match-edit.self-inside.counted.back) (vec_capacity c.match-edit.self-inside.counted.restored)
at_last c = facts c.before.before.before.before.before.before.before

pub invariant_of-self-2 : goal.invariant_of-self-2
invariant_of-self-2 c =
    let i = c.self.inside in
    let I = i.instance in
    let J = c.apply.new.self in
    let h = c.self.invariant in
    let k = c.match-edit.self-inside in
    let made = c.in_ok-apply.ensures.ok in
    let (were, followed, room) = at_last c in
    let nothing : i.pushed.items ≡ [] = none_pushed i.pushed.items (ap (λ (k : Seen). k.pushes) c.self.view_is ∙ c.requires) in
    let room_then : HaveRoom k.counted.supports (vec_capacity k.counted.back) (vec_capacity c.number_pairs.new.restored) = rw c.number_pairs.ensures.capacity room in
    elim c.match-edit.branch [
      | in-AddEvent w ↦
          let a = w.add_event-followed in
          let many = on_ok a.result (c.if-is_err.ensures.value ∙ ap is_err w.followed-is) a.ensures.many in
          rw w.self-inside-is
          (keeping_none J a.new.pushed.items a.new.counted.links a.new.counted.supports (vec_capacity a.new.pushed) (vec_capacity a.new.counted.back) (vec_capacity c.number_pairs.new.restored) a.ensures.pushed
          (rw w.self-inside-is at followed.settled) many (rw w.self-inside-is at room_then))
      | in-AddActivity w ↦
          let a = w.add_activity-followed in
          let few = few_left I J c.args.edit.now made (λ e is. absurd (cc)) in
          rw w.self-inside-is
          (keeping_none J i.pushed.items a.new.counted.links a.new.counted.supports (vec_capacity i.pushed) (vec_capacity a.new.counted.back) (vec_capacity c.number_pairs.new.restored) nothing
          (rw w.self-inside-is at followed.settled) (omega (arith, few, h.room_pushed)) (rw w.self-inside-is at room_then))
      | in_default w ↦
          let a = w.follow in
          let few = few_left I J c.args.edit.now made w.in_default.not-AddEvent in
          rw w.self-inside-is
          (keeping_none J i.pushed.items a.new.counted.links a.new.counted.supports (vec_capacity i.pushed) (vec_capacity a.new.counted.back) (vec_capacity c.number_pairs.new.restored) nothing
          (rw w.self-inside-is at followed.settled) (omega (arith, few, h.room_pushed)) (rw w.self-inside-is at room_then))
    ]

pub returns-clause-restored : goal.returns-clause-restored
returns-clause-restored c =
    let i = c.self.inside in
    let k = c.match-edit.self-inside in
    let told = told_restored i.instance c.apply.new.self c.args.edit.now i.counted.links k.counted.links c.forget.new.self k.counted.supports k.counted.back.items (at_last c).1 c.in_ok-apply.ensures.ok in
    let same = c.number_pairs.ensures.pairs ∙ ap (map (numbered_pair k.counted.links)) c.deref.ensures.value in
    subst (λ (v : Seen). Restores v.network c.args.edit.now c.number_pairs.new.restored.items) c.self.view_is (subst (Restores i.instance c.args.edit.now) (sym same) told)

pub returns-clause-within : goal.returns-clause-within
returns-clause-within c =
    let i = c.self.inside in
    let restored = c.number_pairs.new.restored.items in
    let told : Restores i.instance c.args.edit.now restored = subst (λ (v : Seen). Restores v.network c.args.edit.now restored) (sym c.self.view_is) (returns-clause-restored c) in
    subst (λ (v : Seen). StaysWithin v.network c.args.edit.now restored) c.self.view_is (within_told i.instance c.apply.new.self c.args.edit.now restored c.self.invariant.settled.network c.in_ok-apply.ensures.ok told)

pub returns-clause-work : goal.returns-clause-work
returns-clause-work c =
    let i = c.self.inside in
    let f = c.forget.ensures in
    let I = i.instance in
    let k = c.match-edit.self-inside in
    let (were, followed, room) = at_last c in
    let same = c.number_pairs.ensures.pairs ∙ ap (map (numbered_pair k.counted.links)) c.deref.ensures.value in
    let work : Work = record { restored = c.len.result; removed = c.mark.result; probes = c.probes.result } in
    let told = work_is I c.apply.new.self c.args.edit.now i.counted.links k.counted.links c.forget.new.self k.counted.supports k.counted.back.items were.made were.settled followed.settled followed.worked followed.reached followed.places work f.probes (c.len.ensures ∙ k.counted.back.ok.0) c.mark.ensures c.probes.ensures in
    subst (λ (v : Seen). IsWork v.network c.args.edit.now c.number_pairs.new.restored.items work) c.self.view_is (subst (λ restored. IsWork I c.args.edit.now restored work) (sym same) told)

pub returns-in_err-apply-clause-still : goal.returns-in_err-apply-clause-still
returns-in_err-apply-clause-still c = always_err c.from_residual.result (ap (λ (v : Seen). v.restored) c.self.view_is, ap (λ (v : Seen). v.work) c.self.view_is)

pub returns-then-is_err-clause-still : goal.returns-then-is_err-clause-still
returns-then-is_err-clause-still c =
    let restored = ap (λ (v : Seen). v.restored) c.self.view_is in
    let work = ap (λ (v : Seen). v.work) c.self.view_is in
    elim c.match-edit.branch [
      | in-AddEvent w ↦ rw w.self-inside-is (w.add_event-followed.ensures.restored ∙ restored, work)
      | in-AddActivity w ↦ rw w.self-inside-is (rw w.add_activity-followed.ensures.restored restored, work)
      | in_default w ↦ absurd (false≢true (sym (c.if-is_err.ensures.value ∙ ap is_err w.followed-is)))
    ]
