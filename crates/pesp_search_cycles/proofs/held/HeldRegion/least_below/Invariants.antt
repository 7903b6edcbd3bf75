-- No leaf so far has a map of the cost with a lesser residue.
use Rattle.std.proofs.Common.{◌+◌, take}
use Rattle.pesp_search_least.specs.Spending.{OnlySpends}
use Rattle.pesp_search_least.specs.Sums.{IsLowerBound}
use Rattle.pesp_search_cycles.specs.Maps.{IsLeft}
use Rattle.pesp_search_cycles.proofs.held.HeldRegion.least_below.Given as goal

abbrev pub invariant-loop-leaf : goal.invariant-loop-leaf
invariant-loop-leaf l = record {
  none : IsLowerBound (IsLeft l.self.cycles.now l.question.residues.items (take l.leaf l.self.leaves.boxes.items)) (l.cost + 1);
  spent : OnlySpends l.initial.budget.left l.budget.left;
}
