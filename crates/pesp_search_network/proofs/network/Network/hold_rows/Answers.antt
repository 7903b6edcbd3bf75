-- One row more is held.
use Rattle.std.proofs.Common.{◌<◌, refl, ◌∙◌, arith}
use Rattle.pesp_search_network.specs.declared.presolve.shift.Shift.{Shift}
use Rattle.pesp_search_network.proofs.Held.{rows-none, rows_more}
use Rattle.pesp_search_network.proofs.network.Network.hold_rows.Goals as goal

pub loop-event-preserved : goal.loop-event-preserved
loop-event-preserved c =
    let N = c.args.self.now in
    let M = c.loop-event.reduced in
    let event = c.loop-event.event in
    let d : Shift = record { index = 0; offset = 0 } in
    let there : event < N.events = omega (arith, c.loop-event-test.true, c.events-event-end.ensures.value) in
    let inside = c.requires.within event d there in
    record {
      held = rows_more N c.args.shifts.now event d M c.hold_to.new.reduced c.loop-event.invariant.held c.hold_to.ensures (c.loop-event.invariant.period ∙ c.requires.period) (omega (arith, there, c.requires.long))
          (omega (arith, inside, c.loop-event.invariant.events));
      period = c.hold_to.ensures.period ∙ c.loop-event.invariant.period;
      events = c.hold_to.ensures.events ∙ c.loop-event.invariant.events;
      arcs = c.hold_to.ensures.arcs ∙ c.loop-event.invariant.arcs;
    }

pub loop-event-init : goal.loop-event-init
loop-event-init c = record {
  held = rows-none c.args.self.now c.args.shifts.now c.args.reduced.now c.requires.period c.requires.full;
  period = refl;
  events = refl;
  arcs = refl;
}
