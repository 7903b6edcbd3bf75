-- How far the search has come; every expansion spent a unit.
use Rattle.std.proofs.Common.{◌≡◌, ◌≤◌, All}
use Rattle.pesp_search_least.proofs.Stack.{to_expand}
use Rattle.pesp_search_least.specs.Expansions.{limit_of}
use Rattle.pesp_search_least.specs.Reached.{IsReached, IsUnderway}
use Rattle.pesp_search_least.proofs.Underway.{HasBegun}
use Rattle.pesp_search_least.proofs.search.go_on.Given as goal

abbrev pub invariant-expansions : goal.invariant-expansions
invariant-expansions g l =
    record {
      underway : IsUnderway g.R.Relaxation.sums (IsReached g.R.Relaxation.sums l.initial.nodes.items l.fn.best) l.nodes.items l.incumbent.cap l.incumbent.best;
      base : (b : g.R.Relaxation.Base) → All (λ n. g.R.Relaxation.base n ≡ b) l.initial.nodes.items → All (λ n. g.R.Relaxation.base n ≡ b) l.nodes.items;
      better : limit_of l.incumbent.cap l.incumbent.best ≤ limit_of l.incumbent.cap l.fn.best;
      cap : l.incumbent.cap ≡ l.fn.limits.cap;
      begun : HasBegun l.initial.nodes.items l.fn.best l.nodes.items l.incumbent.best l.initial.budget.left l.budget.left;
    }

abbrev pub decreases-expansions : goal.decreases-expansions
decreases-expansions g l = to_expand g.R.Relaxation.size l.nodes.items
