-- Three words have the first fault that is met, and their numbers are those that were read.
use Rattle.std.proofs.Common.{sym, ap, ◌∙◌}
use Rattle.pesp_shell_commands.specs.Forms.{values}
use Rattle.pesp_shell_commands.specs.Parsed.{id, natural, never}
use Rattle.pesp_shell_commands.proofs.NumberLemmas.{after_three, first_of_three, passed_up, second_of_three, third_of_three, three_words}
use Rattle.pesp_shell_commands.proofs.numbers.Numbers.id_and_ends.Goals as goal

pub returns-in_err-id-clause-fault : goal.returns-in_err-id-clause-fault
returns-in_err-id-clause-fault c =
    passed_up c.from_residual.result c.in_err-id.field-0.0 _ c.from_residual.ensures.1
    (first_of_three id id id never (three_words c.args.self.now c.self.inside.words.now c.self.inside.place _ c.self.view_is c.in-len3.len_at_least c.in-len3.len_below) c.in_err-id.ensures.fault)

pub returns-in_err-from-clause-fault : goal.returns-in_err-from-clause-fault
returns-in_err-from-clause-fault c =
    passed_up c.from_residual-in_err-from.result c.in_err-from.field-0.0 _ c.from_residual-in_err-from.ensures.1
    (second_of_three id id id never (three_words c.args.self.now c.self.inside.words.now c.self.inside.place _ c.self.view_is c.in-len3.len_at_least c.in-len3.len_below) c.in_ok-id.ensures.no_fault c.in_err-from.ensures.fault)

pub returns-in_err-to-clause-fault : goal.returns-in_err-to-clause-fault
returns-in_err-to-clause-fault c =
    passed_up c.from_residual-in_err-to.result c.in_err-to.field-0.0 _ c.from_residual-in_err-to.ensures.1
    (third_of_three id id id never (three_words c.args.self.now c.self.inside.words.now c.self.inside.place _ c.self.view_is c.in-len3.len_at_least c.in-len3.len_below) c.in_ok-id.ensures.no_fault c.in_ok-from.ensures.no_fault c.in_err-to.ensures.fault)

pub returns-clause-no_fault : goal.returns-clause-no_fault
returns-clause-no_fault c =
    after_three id id id never (three_words c.args.self.now c.self.inside.words.now c.self.inside.place _ c.self.view_is c.in-len3.len_at_least c.in-len3.len_below) c.in_ok-id.ensures.no_fault c.in_ok-from.ensures.no_fault c.in_ok-to.ensures.no_fault

pub returns-clause-id : goal.returns-clause-id
returns-clause-id c = c.in_ok-id.ensures.value ∙ ap (λ a. natural (values a) 0) (sym (three_words c.args.self.now c.self.inside.words.now c.self.inside.place _ c.self.view_is c.in-len3.len_at_least c.in-len3.len_below).are)

pub returns-clause-from : goal.returns-clause-from
returns-clause-from c = c.in_ok-from.ensures.value ∙ ap (λ a. natural (values a) 1) (sym (three_words c.args.self.now c.self.inside.words.now c.self.inside.place _ c.self.view_is c.in-len3.len_at_least c.in-len3.len_below).are)

pub returns-clause-to : goal.returns-clause-to
returns-clause-to c = c.in_ok-to.ensures.value ∙ ap (λ a. natural (values a) 2) (sym (three_words c.args.self.now c.self.inside.words.now c.self.inside.place _ c.self.view_is c.in-len3.len_at_least c.in-len3.len_below).are)
