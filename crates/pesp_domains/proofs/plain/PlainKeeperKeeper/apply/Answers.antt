-- The rows follow the instance, and an added event goes again where it finds no room.
use Rattle.std.proofs.Common.{◌≡◌, [], ap, subst, sym, ◌∙◌, arith, Some, replicate, true, length, ◌≤◌, vec_capacity}
use Rattle.pesp_instance.specs.declared.edit.Edit.TheVariants.{AddEvent, DropEvent}
use Rattle.pesp_instance.specs.Edited.{edited}
use Rattle.pesp_instance.specs.Network.{Network}
use Rattle.pesp_instance.proofs.Effects.{on_err, on_ok}
use Rattle.pesp_domains.specs.Kept.{Kept}
use Rattle.pesp_domains.specs.Rows.{AreRowsOf, SetsRow, has}
use Rattle.pesp_domains.specs.Sweeps.{AreDomains}
use Rattle.pesp_domains.proofs.Edits.{drops_not_adds, effect_is, few_left, rows_added, rows_dropped, rows_same, undone}
use Rattle.pesp_domains.proofs.Pushes.{kept_again, pushed_none}
use Rattle.pesp_domains.proofs.plain.PlainKeeperKeeper.apply.Goals as goal
use Rattle.pesp_domains.proofs.plain.PlainKeeperKeeper.apply.Goals.{in-AddEvent+else-is_err, in-DropEvent, in_default}

pub invariant_of-self-then-is_err : goal.invariant_of-self-then-is_err
invariant_of-self-then-is_err c =
    let I = c.self.inside.instance in
    let nothing : c.self.inside.pushed.items ≡ [] = ap (λ (k : Kept). k.pushes) c.self.view_is ∙ c.requires in
    let same = on_err c.make_room.result c.if-is_err.ensures.value c.make_room.ensures.err in
    let back = undone I c.apply.new.self c.apply-then-is_err.new.self c.in-AddEvent.event c.apply-then-is_err.result c.self.invariant.network (ap (edited I) (sym c.in-AddEvent.is) ∙ c.in_ok-apply.ensures.ok) c.apply-then-is_err.ensures.ok c.apply-then-is_err.ensures.err in
    rw (back, same, c.make_room.ensures.pushed)
    (record {
      network = c.self.invariant.network;
      of_events = c.self.invariant.of_events;
      domains = subst (λ pushes. AreDomains I pushes (has c.self.inside.rows)) nothing c.self.invariant.domains;
      pushed = pushed_none I;
      room = omega (arith, c.self.invariant.room, c.make_room.ensures.capacity);
    })

pub returns-then-is_err-clause-unchanged : goal.returns-then-is_err-clause-unchanged
returns-then-is_err-clause-unchanged c =
    let I = c.self.inside.instance in
    undone I c.apply.new.self c.apply-then-is_err.new.self c.in-AddEvent.event c.apply-then-is_err.result c.self.invariant.network (ap (edited I) (sym c.in-AddEvent.is) ∙ c.in_ok-apply.ensures.ok) c.apply-then-is_err.ensures.ok c.apply-then-is_err.ensures.err
    ∙ ap (λ (k : Kept). k.network) c.self.view_is

pub remake-requires : goal.remake-requires
remake-requires c =
    let I = c.self.inside.instance in
    let J = c.apply.new.self in
    elim c.match-edit.branch [
      | in-AddEvent+else-is_err w ↦
          let is = effect_is I J (AddEvent w.in-AddEvent.event) (ap (edited I) (sym w.in-AddEvent.is) ∙ c.in_ok-apply.ensures.ok) in
          let row = on_ok w.make_room.result w.if-is_err.ensures.value w.make_room.ensures.row in
          rw w.self-inside-is (subst (λ (K : Network). AreRowsOf K w.make_room.new.rows) (sym is) (rows_added I w.in-AddEvent.event c.self.inside.rows w.make_room.new.rows c.self.invariant.of_events
          (subst (λ (K : Network). SetsRow w.in-AddEvent.event (Some (replicate K.period true)) c.self.inside.rows w.make_room.new.rows) is row)))
      | in-DropEvent w ↦
          let is = effect_is I J (DropEvent w.in-DropEvent.event) (ap (edited I) (sym w.in-DropEvent.is) ∙ c.in_ok-apply.ensures.ok) in
          rw w.self-inside-is (subst (λ (K : Network). AreRowsOf K w.remove.new.self) (sym is) (rows_dropped I w.in-DropEvent.event c.self.inside.rows w.remove.new.self c.self.invariant.of_events w.remove.ensures))
      | in_default w ↦ rw w.self-inside-is (rows_same I J c.args.edit.now c.self.inside.rows c.in_ok-apply.ensures.ok w.in_default.not-AddEvent w.in_default.not-DropEvent c.self.invariant.of_events)
    ]

pub invariant_of-self-2 : goal.invariant_of-self-2
invariant_of-self-2 c =
    let I = c.self.inside.instance in
    let J = c.apply.new.self in
    let inside = c.match-edit.self-inside in
    let nothing : c.self.inside.pushed.items ≡ [] = ap (λ (k : Kept). k.pushes) c.self.view_is ∙ c.requires in
    let kept = λ (empty : inside.pushed.items ≡ []) (room : length inside.instance.events ≤ vec_capacity inside.pushed). kept_again inside.instance inside.pushed.items c.deref.result.now c.remake.new.rows (vec_capacity inside.pushed) empty c.deref.ensures.value c.remake.ensures.network c.remake.ensures.rows c.remake.ensures.domains room in
    elim c.match-edit.branch [
      | in-AddEvent+else-is_err w ↦ kept (rw w.self-inside-is w.make_room.ensures.pushed) (rw w.self-inside-is (on_ok w.make_room.result w.if-is_err.ensures.value w.make_room.ensures.room))
      | in-DropEvent w ↦
          let few = few_left I J c.args.edit.now c.in_ok-apply.ensures.ok (drops_not_adds c.args.edit.now w.in-DropEvent.event w.in-DropEvent.is) in
          kept (rw w.self-inside-is nothing) (rw w.self-inside-is (omega (arith, few, c.self.invariant.room)))
      | in_default w ↦
          let few = few_left I J c.args.edit.now c.in_ok-apply.ensures.ok w.in_default.not-AddEvent in
          kept (rw w.self-inside-is nothing) (rw w.self-inside-is (omega (arith, few, c.self.invariant.room)))
    ]
