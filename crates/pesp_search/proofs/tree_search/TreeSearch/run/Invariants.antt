-- The search goes on, and less of it is left after each step.
use Rattle.std.proofs.Common.{◌≡◌}
use Rattle.pesp_search.specs.Searching.{GoesOn}
use Rattle.pesp_search.specs.Tree.{WerePushed}
use Rattle.pesp_search.proofs.Rest.{rest_of}
use Rattle.pesp_search.proofs.tree_search.TreeSearch.run.Given as goal

abbrev pub invariant-nodes : goal.invariant-nodes
invariant-nodes g l =
    record {
      network : g.K.Keeper.network l.keeper ≡ g.K.Keeper.network l.fn.keeper;
      counted : WerePushed (g.K.Keeper.push_count l.fn.keeper) l.self.nodes (g.K.Keeper.push_count l.keeper);
      goes : GoesOn (g.K.Keeper.network l.fn.keeper) (g.K.Keeper.pushes l.keeper) l.fn.self l.self;
    }

abbrev pub decreases-nodes : goal.decreases-nodes
decreases-nodes g l = rest_of (g.K.Keeper.network l.fn.keeper) l.self
