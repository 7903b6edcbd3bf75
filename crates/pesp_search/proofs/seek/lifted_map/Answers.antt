-- The map is lifted, and so is what is known of it.
use Rattle.std.proofs.Common.{Option, List, ℕ, subst, arith}
use Rattle.pesp_search_least.specs.declared.outcome.Candidate.{Candidate}
use Rattle.pesp_search_network.specs.Arcs.{IsCosted}
use Rattle.pesp_search_network.specs.Shifts.{lifted}
use Rattle.pesp_search.specs.Sought.{IsSoughtMap}
use Rattle.pesp_search.proofs.Lifted.{lifted_bound, lifted_nothing, lifted_sought}
use Rattle.pesp_search.proofs.seek.lifted_map.Goals as goal

pub returns-in_ok-lift-in-Some-clause-best : goal.returns-in_ok-lift-in-Some-clause-best
returns-in_ok-lift-in-Some-clause-best c = λ cap part caps is.
    let r = c.args.reduction.now in
    let other = c.in_ok-lift-in-Some.ensures in
    lifted_sought c.args.network.now r.network r.fixed r.factor (lifted r.network.period r.shifts.items) c.requires.reduction cap part c.args.sought.is_end c.in-Some.candidate c.in_ok-lift-in-Some.field-0 caps
    other.costed other.map other.cost (subst (λ (b : Option Candidate). IsSoughtMap (IsCosted r.network) part c.args.sought.is_end b) c.in-Some.is is)

pub returns-in_ok-lift-in-Some-clause-floor : goal.returns-in_ok-lift-in-Some-clause-floor
returns-in_ok-lift-in-Some-clause-floor c = λ is.
    let r = c.args.reduction.now in
    lifted_bound c.args.network.now r.network r.fixed r.factor (lifted r.network.period r.shifts.items) c.requires.reduction c.args.sought.floor c.lower_bound-floor.result (omega (arith, c.lower_bound-floor.ensures)) is

pub returns-in-None : goal.returns-in-None
returns-in-None c =
    let r = c.args.reduction.now in
    let lift : List ℕ → List ℕ = lifted r.network.period r.shifts.items in
    record {
      best = λ cap part caps is.
          lifted_nothing c.args.network.now r.network r.fixed r.factor lift c.requires.reduction cap part c.args.sought.is_end caps
          (subst (λ (b : Option Candidate). IsSoughtMap (IsCosted r.network) part c.args.sought.is_end b) c.in-None.is is);
      floor = λ is. lifted_bound c.args.network.now r.network r.fixed r.factor lift c.requires.reduction c.args.sought.floor c.lower_bound-floor.result (omega (arith, c.lower_bound-floor.ensures)) is;
    }
