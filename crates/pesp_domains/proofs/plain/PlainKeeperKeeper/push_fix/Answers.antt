-- A pair more goes on from the domains that there are.
use Rattle.std.proofs.Common.{IsTrue, subst, sym, arith}
use Rattle.pesp_instance.specs.Network.{has_event}
use Rattle.pesp_domains.specs.declared.pair.Pair.{Pair}
use Rattle.pesp_domains.specs.Domains.{In}
use Rattle.pesp_domains.specs.Kept.{Kept}
use Rattle.pesp_domains.specs.Rows.{has}
use Rattle.pesp_domains.proofs.Opened.{rows_stay, shape_then}
use Rattle.pesp_domains.proofs.Pushes.{push_settles, pushed_more, room_to_push}
use Rattle.pesp_domains.proofs.plain.PlainKeeperKeeper.push_fix.Goals as goal

pub push_reserved-requires : goal.push_reserved-requires
push_reserved-requires c =
    let x : Pair = record { event = c.args.event; residue = c.args.residue } in
    let I = c.self.inside.instance in
    let pushes = c.self.inside.pushed.items in
    let event : IsTrue (has_event I c.args.event) = subst (λ (k : Kept). IsTrue (has_event k.network c.args.event)) (sym c.self.view_is) c.requires.event in
    let room = room_to_push I pushes x _ event (λ r i. c.requires.free r (subst (λ (k : Kept). In k.pushes c.args.event r) c.self.view_is i)) c.self.invariant.pushed c.self.invariant.room in
    omega (arith, room)

pub invariant_of-self : goal.invariant_of-self
invariant_of-self c =
    let x : Pair = record { event = c.args.event; residue = c.args.residue } in
    let I = c.self.inside.instance in
    let pushes = c.self.inside.pushed.items in
    let event : IsTrue (has_event I c.args.event) = subst (λ (k : Kept). IsTrue (has_event k.network c.args.event)) (sym c.self.view_is) c.requires.event in
    rw c.push_reserved.ensures.items
    (record {
      network = c.self.invariant.network;
      of_events = rows_stay I _ _ (shape_then _ _ _ c.keep_only.ensures.shape c.settle.ensures.shape) c.self.invariant.of_events;
      domains = push_settles I pushes x _ (has c.keep_only.new.self) _ c.keep_only.ensures.has c.settle.ensures.settles c.self.invariant.domains;
      pushed = pushed_more I pushes x event (λ r i. c.requires.free r (subst (λ (k : Kept). In k.pushes c.args.event r) c.self.view_is i)) c.self.invariant.pushed;
      room = omega (arith, c.self.invariant.room);
    })
