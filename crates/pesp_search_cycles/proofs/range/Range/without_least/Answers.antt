-- Each number is a whole number of ones.
use Rattle.std.proofs.Common.{to_z, of_z, w64}
use Rattle.pesp_search_cycles.proofs.Halved.{one_times}
use Rattle.pesp_search_cycles.proofs.range.Range.without_least.Goals as goal

pub cut-requires-clause-at : goal.cut-requires-clause-at
cut-requires-clause-at c = (to_z w64 (of_z w64 c.args.self.low), one_times (to_z w64 (of_z w64 c.args.self.low)))
