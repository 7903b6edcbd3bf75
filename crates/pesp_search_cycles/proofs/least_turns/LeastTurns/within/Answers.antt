-- The other search is of the same network.
use Rattle.std.proofs.Common.{sym, subst}
use Rattle.pesp_search_least.specs.Sums.{IsLowerBound}
use Rattle.pesp_search_network.specs.Arcs.{Arcs, IsCosted}
use Rattle.pesp_search_cycles.proofs.least_turns.LeastTurns.within.Goals as goal

pub within-resting-requires : goal.within-resting-requires
within-resting-requires c =
    subst (λ (A : Arcs). IsLowerBound (IsCosted A) c.args.limits.floor) (sym (c.args.self.same_network c.in-Some.other c.in-Some.is)) c.requires
