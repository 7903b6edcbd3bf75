-- The best has least sum, at the cost of the first one; its residue lessens.
use Rattle.std.proofs.Common.{◌≡◌, get_or}
use Rattle.pesp_search_least.specs.Spending.{OnlySpends}
use Rattle.pesp_search_least.specs.Sums.{IsLeast}
use Rattle.pesp_search_least.proofs.order.first_at.Given as goal

abbrev pub invariant-lesser : goal.invariant-lesser
invariant-lesser g l =
    record {
      least : IsLeast (g.R.Region.sums l.rest) l.best;
      costs : l.best.cost ≡ l.fn.candidate.cost;
      budget : OnlySpends l.fn.budget.left l.budget.left;
    }

abbrev pub decreases-lesser : goal.decreases-lesser
decreases-lesser g l = get_or l.best.map.items l.event 0
