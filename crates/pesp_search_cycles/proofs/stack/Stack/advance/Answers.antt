-- What is found in the open nodes is found in the network.
use Rattle.pesp_search_least.proofs.Outcomes.{floor_after}
use Rattle.pesp_search_least.specs.Reached.{IsLeft, IsReached}
use Rattle.pesp_search_least.specs.Sums.{IsOutcome}
use Rattle.pesp_search_least.specs.declared.outcome.Outcome.TheVariants.{Spent}
use Rattle.pesp_search_network.specs.Arcs.{IsCosted}
use Rattle.pesp_search_cycles.specs.Leaves.{sums_of}
use Rattle.pesp_search_cycles.proofs.Stood.{no_stop, outcome_of_open, stack_after}
use Rattle.pesp_search_cycles.proofs.stack.Stack.advance.Goals as goal

pub returns-in_default : goal.returns-in_default
returns-in_default c =
    let N = c.args.cycles.now in
    let s = c.args.self in
    record {
      outcome = outcome_of_open N s.nodes.items c.in_ok-open.open.items s.progress.limits.cap s.progress.best c.requires.underway c.in_ok-open.ensures.there c.in_ok-open.ensures.back c.in_ok-outcome.outcome c.in_ok-outcome.ensures.outcome;
      stack = tt;
      cap = tt;
      ends = λ none stop. no_stop c.in_ok-outcome.outcome c.in_default.not-Spent stop;
      spent = c.in_ok-outcome.ensures.spent;
      budget = c.go_on.ensures.budget;
    }

pub asleep-requires : goal.asleep-requires
asleep-requires c = c.in_ok-outcome.ensures.base c.args.cycles.now c.in_ok-open.ensures.same

pub returns-clause-outcome : goal.returns-clause-outcome
returns-clause-outcome c =
    let N = c.args.cycles.now in
    let s = c.args.self in
    outcome_of_open N s.nodes.items c.in_ok-open.open.items s.progress.limits.cap s.progress.best c.requires.underway c.in_ok-open.ensures.there c.in_ok-open.ensures.back c.in_ok-outcome.outcome c.in_ok-outcome.ensures.outcome

pub returns-clause-stack : goal.returns-clause-stack
returns-clause-stack c =
    let N = c.args.cycles.now in
    let s = c.args.self in
    let left : IsLeft sums_of (IsReached sums_of c.in_ok-open.open.items s.progress.best) c.go_on.new.nodes.items s.progress.limits.cap s.progress.best (Spent c.in-Spent.best c.in-Spent.lower_bound) =
    rw c.in-Spent.is at c.in_ok-outcome.ensures.left in
    let stop : IsOutcome (IsCosted N.network) s.progress.limits.cap (Spent c.in-Spent.best c.in-Spent.lower_bound) =
    rw c.in-Spent.is at (outcome_of_open N s.nodes.items c.in_ok-open.open.items s.progress.limits.cap s.progress.best c.requires.underway c.in_ok-open.ensures.there c.in_ok-open.ensures.back c.in_ok-outcome.outcome c.in_ok-outcome.ensures.outcome) in
    record {
      nodes = c.in_ok-nodes.ensures.waiting;
      underway = stack_after N s.nodes.items c.in_ok-open.open.items s.progress.limits.cap s.progress.best c.requires.underway c.in_ok-open.ensures.there c.in_ok-open.ensures.back
          c.go_on.new.nodes.items c.in_ok-nodes.nodes.items c.in-Spent.best c.in_ok-best.best c.in-Spent.lower_bound left c.in_ok-nodes.ensures.there c.in_ok-nodes.ensures.back c.in_ok-best.ensures;
      floor = rw (c.max.ensures, c.min.ensures) (floor_after (IsCosted N.network) s.progress.limits.floor s.progress.limits.cap c.in-Spent.lower_bound c.requires.floor stop.1);
    }
