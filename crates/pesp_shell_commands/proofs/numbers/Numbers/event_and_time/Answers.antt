-- Two words have the first fault that is met, and their numbers are those that were read.
use Rattle.std.proofs.Common.{sym, ap, ◌∙◌}
use Rattle.pesp_shell_commands.specs.Forms.{values}
use Rattle.pesp_shell_commands.specs.Parsed.{id, natural, time}
use Rattle.pesp_shell_commands.proofs.NumberLemmas.{first_of_two, none_of_two, passed_up, second_of_two, two_words}
use Rattle.pesp_shell_commands.proofs.numbers.Numbers.event_and_time.Goals as goal

pub returns-in_err-event-clause-fault : goal.returns-in_err-event-clause-fault
returns-in_err-event-clause-fault c =
    passed_up c.from_residual.result c.in_err-event.field-0.0 _ c.from_residual.ensures.1
    (first_of_two id time (two_words c.args.self.now c.self.inside.words.now c.self.inside.place _ c.self.view_is c.in-len2.len_at_least c.in-len2.len_below) c.in_err-event.ensures.fault)

pub returns-in_err-time-clause-fault : goal.returns-in_err-time-clause-fault
returns-in_err-time-clause-fault c =
    passed_up c.from_residual-in_err-time.result c.in_err-time.field-0.0 _ c.from_residual-in_err-time.ensures.1
    (second_of_two id time (two_words c.args.self.now c.self.inside.words.now c.self.inside.place _ c.self.view_is c.in-len2.len_at_least c.in-len2.len_below) c.in_ok-event.ensures.no_fault c.in_err-time.ensures.fault)

pub returns-clause-no_fault : goal.returns-clause-no_fault
returns-clause-no_fault c = none_of_two id time (two_words c.args.self.now c.self.inside.words.now c.self.inside.place _ c.self.view_is c.in-len2.len_at_least c.in-len2.len_below) c.in_ok-event.ensures.no_fault c.in_ok-time.ensures.no_fault

pub returns-clause-event : goal.returns-clause-event
returns-clause-event c = c.in_ok-event.ensures.value ∙ ap (λ a. natural (values a) 0) (sym (two_words c.args.self.now c.self.inside.words.now c.self.inside.place _ c.self.view_is c.in-len2.len_at_least c.in-len2.len_below).are)

pub returns-clause-time : goal.returns-clause-time
returns-clause-time c = c.in_ok-time.ensures.value ∙ ap (λ a. natural (values a) 1) (sym (two_words c.args.self.now c.self.inside.words.now c.self.inside.place _ c.self.view_is c.in-len2.len_at_least c.in-len2.len_below).are)
