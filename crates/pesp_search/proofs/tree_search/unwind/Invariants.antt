-- As many pairs are pushed as there are pops to come.
use Rattle.std.proofs.Common.{◌≡◌, ◌+◌, length}
use Rattle.pesp_search.proofs.tree_search.unwind.Given as goal

abbrev pub invariant-loop-pair : goal.invariant-loop-pair
invariant-loop-pair g l = record {
  network : g.K.Keeper.network l.keeper ≡ g.K.Keeper.network l.fn.keeper;
  count : g.K.Keeper.push_count l.keeper ≡ g.K.Keeper.push_count l.fn.keeper;
  pushes : length (g.K.Keeper.pushes l.keeper) + l._pair ≡ l.depth;
}
