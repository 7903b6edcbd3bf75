-- What is admitted anew depends on the two windows alone.
use Rattle.pesp_domains.proofs.Anew.{fix_is, unfix_time, unfix_whole}
use Rattle.pesp_bench.proofs.laws.windows_admit.Goals as goal

pub returns : goal.returns
returns c = (fix_is, unfix_time, unfix_whole)
