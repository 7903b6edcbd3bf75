-- One word has the fault that is met, and its number is the one that was read.
use Rattle.std.proofs.Common.{arith}
use Rattle.pesp_shell_commands.specs.Parsed as ranges
use Rattle.pesp_shell_commands.proofs.NumberLemmas.{no_fault_of_one, number_of_one, one_word, said_of_one}
use Rattle.pesp_shell_commands.proofs.numbers.Numbers.limit.Goals as goal

pub returns-clause-no_fault : goal.returns-clause-no_fault
returns-clause-no_fault c = no_fault_of_one ranges.limit c.limit_at.result (one_word c.args.self.now c.self.inside.words.now c.self.inside.place _ c.self.view_is (omega arith) (omega arith)) c.limit_at.ensures.no_fault

pub returns-clause-value : goal.returns-clause-value
returns-clause-value c = number_of_one c.limit_at.result (one_word c.args.self.now c.self.inside.words.now c.self.inside.place _ c.self.view_is (omega arith) (omega arith)) c.limit_at.ensures.value

pub returns-clause-fault : goal.returns-clause-fault
returns-clause-fault c = said_of_one ranges.limit c.limit_at.result (one_word c.args.self.now c.self.inside.words.now c.self.inside.place _ c.self.view_is (omega arith) (omega arith)) c.limit_at.ensures.fault
