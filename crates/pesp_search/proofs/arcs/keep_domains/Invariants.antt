-- The rows before this one are domains, and the others full.
use Rattle.std.proofs.Common.{◌≡◌}
use Rattle.pesp_search_network.specs.Arcs.{Arcs}
use Rattle.pesp_search.proofs.Networks.{AreKept}
use Rattle.pesp_search.proofs.arcs.keep_domains.Given as goal

abbrev pub invariant-loop-index : goal.invariant-loop-index
invariant-loop-index g l = record {
  same : ◌≡◌ {A = Arcs} l.network (record l.fn.network { rows = l.network.rows });
  rows : AreKept (g.K.Keeper.network l.keeper) (g.K.Keeper.pushes l.keeper) l.network.rows l.fn.network.events l.index;
}
