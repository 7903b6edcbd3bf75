-- Found by search, and named so that a wrong body is refused here at once.
use Rattle.std.proofs.Common.{rules}
use Rattle.pesp_base.proofs.period.Period.new.Goals as goal

pub returns-else-value-ge-LEAST_PERIOD : goal.returns-else-value-ge-LEAST_PERIOD
returns-else-value-ge-LEAST_PERIOD c = search rules

pub invariant_of-result : goal.invariant_of-result
invariant_of-result c = search rules

pub returns-then-value-le-GREATEST_PERIOD : goal.returns-then-value-le-GREATEST_PERIOD
returns-then-value-le-GREATEST_PERIOD c = search rules
