-- One arc more is met, and after the last one all are.
use Rattle.std.proofs.Common.{◌<◌, length, slice_index, sym, arith}
use Rattle.pesp_search_network.proofs.ArcCosts.{cost_met-some, cost_more, met_more, keeps_rows-met}
use Rattle.pesp_search_network.proofs.network.Network.cost_in_rows.Goals as goal

pub loop-index-preserved : goal.loop-index-preserved
loop-index-preserved c =
    let N = c.args.self.now in
    let map = c.args.map.now in
    let k = c.loop-index.index in
    let a = c.arc.result in
    let within : k < length N.arcs = omega (arith, c.arc_count-index-end.ensures.value) in
    let known = cost_met-some N.period a (slice_index map a.from) (slice_index map a.to) c.in_ok-cost.field-0 (sym c.in_ok-cost.ensures.value) in
    let more = cost_more N.period map N.arcs k a within c.arc.ensures.value in
    record {
      met = met_more N.period map N.arcs k a within c.arc.ensures.value c.loop-index.invariant.met known.0;
      cost = omega (arith, more, known.1);
      small = omega (arith, c.in_ok-cost.ensures.small);
    }

pub returns : goal.returns
returns c =
    let N = c.args.self.now in
    keeps_rows-met N c.args.map.now c.loop-index.index c.loop-index.cost c.requires (omega (arith, c.arc_count-index-end.ensures.value)) c.loop-index.invariant.met c.loop-index.invariant.cost
