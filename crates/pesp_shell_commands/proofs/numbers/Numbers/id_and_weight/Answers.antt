-- Two words have the first fault that is met, and their numbers are those that were read.
use Rattle.std.proofs.Common.{sym, ap, ◌∙◌}
use Rattle.pesp_shell_commands.specs.Forms.{values}
use Rattle.pesp_shell_commands.specs.Parsed.{id, natural, weight}
use Rattle.pesp_shell_commands.proofs.NumberLemmas.{first_of_two, none_of_two, passed_up, second_of_two, two_words}
use Rattle.pesp_shell_commands.proofs.numbers.Numbers.id_and_weight.Goals as goal

pub returns-in_err-id-clause-fault : goal.returns-in_err-id-clause-fault
returns-in_err-id-clause-fault c =
    passed_up c.from_residual.result c.in_err-id.field-0.0 _ c.from_residual.ensures.1
    (first_of_two id weight (two_words c.args.self.now c.self.inside.words.now c.self.inside.place _ c.self.view_is c.in-len2.len_at_least c.in-len2.len_below) c.in_err-id.ensures.fault)

pub returns-in_err-weight-clause-fault : goal.returns-in_err-weight-clause-fault
returns-in_err-weight-clause-fault c =
    passed_up c.from_residual-in_err-weight.result c.in_err-weight.field-0.0 _ c.from_residual-in_err-weight.ensures.1
    (second_of_two id weight (two_words c.args.self.now c.self.inside.words.now c.self.inside.place _ c.self.view_is c.in-len2.len_at_least c.in-len2.len_below) c.in_ok-id.ensures.no_fault c.in_err-weight.ensures.fault)

pub returns-clause-no_fault : goal.returns-clause-no_fault
returns-clause-no_fault c = none_of_two id weight (two_words c.args.self.now c.self.inside.words.now c.self.inside.place _ c.self.view_is c.in-len2.len_at_least c.in-len2.len_below) c.in_ok-id.ensures.no_fault c.in_ok-weight.ensures.no_fault

pub returns-clause-id : goal.returns-clause-id
returns-clause-id c = c.in_ok-id.ensures.value ∙ ap (λ a. natural (values a) 0) (sym (two_words c.args.self.now c.self.inside.words.now c.self.inside.place _ c.self.view_is c.in-len2.len_at_least c.in-len2.len_below).are)

pub returns-clause-weight : goal.returns-clause-weight
returns-clause-weight c = c.in_ok-weight.ensures.value ∙ ap (λ a. natural (values a) 1) (sym (two_words c.args.self.now c.self.inside.words.now c.self.inside.place _ c.self.view_is c.in-len2.len_at_least c.in-len2.len_below).are)
