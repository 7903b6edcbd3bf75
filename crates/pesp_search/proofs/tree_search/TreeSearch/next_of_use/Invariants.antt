-- Each residue so far is of no use, and of the search only times after the branch have changed.
use Rattle.pesp_search.specs.Branch.{IsFront}
use Rattle.pesp_search.specs.Found.{AreCut, limit_of}
use Rattle.pesp_search.specs.Searching.{IsSameNode}
use Rattle.pesp_search.proofs.tree_search.TreeSearch.next_of_use.Given as goal

abbrev pub invariant-loop-residue : goal.invariant-loop-residue
invariant-loop-residue g l =
    record {
      same : IsSameNode l.fn.self l.self;
      front : IsFront (g.K.Keeper.network l.fn.keeper) l.fn.self.branch.times.items l.self.branch.timetable;
      cut : AreCut (g.K.Keeper.network l.fn.keeper) (limit_of l.fn.self.incumbent) l.fn.self.branch.times.items l.fn.first l.residue;
    }
