-- A pair more goes on from the domains that there are.
use Rattle.std.proofs.Common.{IsTrue, ap, subst, sym, arith, rules}
use Rattle.std.specs.Vec.{vec_capacity}
use Rattle.std.proofs.lemmas.List.{length-map}
use Rattle.pesp_instance.specs.Network.{has_event}
use Rattle.pesp_domains.specs.declared.pair.Pair.{Pair}
use Rattle.pesp_domains.specs.Domains.{In}
use Rattle.pesp_counts.specs.Restores.{Seen}
use Rattle.pesp_domains.proofs.Pushes.{room_to_push}
use Rattle.pesp_counts.proofs.Bridge.{place_is}
use Rattle.pesp_counts.specs.declared.keeper.Pushed.{Pushed}
use Rattle.pesp_counts.specs.Keeping.{pairs_of}
use Rattle.pesp_counts.proofs.Keeping.{keeping_push}
use Rattle.pesp_counts.proofs.keeper.CountKeeperKeeper.push_fix.Goals as goal

pub push_reserved-requires : goal.push_reserved-requires
push_reserved-requires c =
    let i = c.self.inside in
    let x : Pair = record { event = c.args.event; residue = c.args.residue } in
    let event : IsTrue (has_event i.instance c.args.event) = subst (λ (k : Seen). IsTrue (has_event k.network c.args.event)) (sym c.self.view_is) c.requires.event in
    let room = room_to_push i.instance (pairs_of i.pushed.items) x _ event (λ r i. c.requires.free r (subst (λ (k : Seen). In k.pushes c.args.event r) c.self.view_is i)) c.self.invariant.pushed c.self.invariant.room_pushed in
    let long = length-map i.pushed.items (λ (y : Pushed). y.pair) in
    omega (arith, room, long)

pub limit_event-requires-clause-fits : goal.limit_event-requires-clause-fits
limit_event-requires-clause-fits c = (c.self.inside.instance, c.self.invariant.settled.fits)

pub invariant_of-self : goal.invariant_of-self
invariant_of-self c =
    let i = c.self.inside in
    let x : Pair = record { event = c.args.event; residue = c.args.residue } in
    let event : IsTrue (has_event i.instance c.args.event) = subst (λ (k : Seen). IsTrue (has_event k.network c.args.event)) (sym c.self.view_is) c.requires.event in
    let p = place_is i.instance i.counted.links c.self.invariant.settled.fits.stand c.args.event event in
    rw (c.push_reserved.ensures.items, c.mark-mark.ensures, c.push_reserved.ensures.capacity)
    (keeping_push i.instance i.pushed.items x i.counted.links i.counted.supports c.limit_event.new.supports p.0 (vec_capacity i.pushed) (vec_capacity i.counted.back) (vec_capacity i.counted.restored) c.self.invariant event
    (λ r i. c.requires.free r (subst (λ (k : Seen). In k.pushes c.args.event r) c.self.view_is i)) p.1 (c.limit_event.ensures.narrowed p.0 p.1))

pub returns-clause-work : goal.returns-clause-work
returns-clause-work c = ap (λ (v : Seen). v.work) c.self.view_is

-- by search, and named so that a wrong body is refused here at once
pub returns-clause-restored : goal.returns-clause-restored
returns-clause-restored c = search rules
