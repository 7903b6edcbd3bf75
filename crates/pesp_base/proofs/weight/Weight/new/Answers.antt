-- Found by search, and named so that a wrong body is refused here at once.
use Rattle.std.proofs.Common.{rules}
use Rattle.pesp_base.proofs.weight.Weight.new.Goals as goal

pub invariant_of-result : goal.invariant_of-result
invariant_of-result c = search rules

pub returns-then-value-le-GREATEST_WEIGHT : goal.returns-then-value-le-GREATEST_WEIGHT
returns-then-value-le-GREATEST_WEIGHT c = search rules
