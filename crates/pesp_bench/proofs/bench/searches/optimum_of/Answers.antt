-- Found by search, and named so that a wrong body is refused here at once.
use Rattle.std.proofs.Common.{rules}
use Rattle.pesp_bench.proofs.bench.searches.optimum_of.Goals as goal

pub returns-in-Infeasible-clause-refused : goal.returns-in-Infeasible-clause-refused
returns-in-Infeasible-clause-refused c = search rules
