-- A node more is bounded.
use Rattle.std.proofs.Common.{◌≡◌, take, get_or, arith}
use Rattle.std.proofs.lemmas.List.{get_or_read, take_more}
use Rattle.pesp_search_least.proofs.Underway.{lowest_step}
use Rattle.pesp_search_least.proofs.search.lowest.Goals as goal

pub loop-node-preserved : goal.loop-node-preserved
loop-node-preserved g c =
    let k = c.loop-node.node-index in
    let nodes = c.args.nodes.now in
    let node = c.node-item.result in
    let item : node ≡ get_or nodes k node = get_or_read nodes k node c.loop-node-test.true c.node-item.is node in
    let less = c.bound_of-lower_bound.ensures.within in
    record {
      bound = rw (take_more nodes k node c.loop-node-test.true, ← item) (lowest_step g.R.Relaxation.sums (take k nodes) node c.loop-node.lower_bound c.bound_of-lower_bound.result c.loop-node.invariant.bound c.bound_of-lower_bound.ensures.bound less);
      within = omega (arith, less, c.loop-node.invariant.within);
    }
