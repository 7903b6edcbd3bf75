-- The best is first up to the event.
use Rattle.std.proofs.Common.{◌≡◌}
use Rattle.pesp_search_least.specs.Spending.{OnlySpends}
use Rattle.pesp_search_least.proofs.Along.{IsAlong, IsFirstAlong}
use Rattle.pesp_search_least.proofs.order.first.Given as goal

abbrev pub invariant-held : goal.invariant-held
invariant-held g l =
    record {
      along : IsAlong (g.R.Region.sums l.fn.region) (g.R.Region.sums l.rest) l.event l.candidate;
      events : g.R.Region.events l.rest ≡ g.R.Region.events l.fn.region;
    }

abbrev pub invariant-events : goal.invariant-events
invariant-events g l =
    record {
      along : IsFirstAlong (g.R.Region.sums l.fn.region) (g.R.Region.sums l.rest) l.event l.best;
      costs : l.best.cost ≡ l.fn.candidate.cost;
      events : g.R.Region.events l.rest ≡ g.R.Region.events l.fn.region;
      budget : OnlySpends l.fn.budget.left l.budget.left;
    }
