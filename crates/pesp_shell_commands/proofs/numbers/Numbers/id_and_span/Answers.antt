-- Three words have the first fault that is met, and their numbers are those that were read.
use Rattle.std.proofs.Common.{refl, sym, ap, ◌∙◌, Some}
use Rattle.std.proofs.lemmas.Result.{IfOk-from_err}
use Rattle.pesp_shell_commands.specs.Forms.{values}
use Rattle.pesp_shell_commands.specs.Parsed.{bound, crosses_at, id, natural, span_at}
use Rattle.pesp_shell_commands.proofs.NumberLemmas.{after_three, crossing, first_of_three, passed_up, second_of_three, span_read, third_of_three, three_words}
use Rattle.pesp_shell_commands.proofs.numbers.Numbers.id_and_span.Goals as goal

pub returns-in_err-id-clause-no_fault : goal.returns-in_err-id-clause-no_fault
returns-in_err-id-clause-no_fault c = IfOk-from_err c.from_residual.result _ c.from_residual.ensures.0

pub returns-in_err-id-clause-fault : goal.returns-in_err-id-clause-fault
returns-in_err-id-clause-fault c =
    passed_up c.from_residual.result c.in_err-id.field-0.0 _ c.from_residual.ensures.1
    (first_of_three id bound bound (crosses_at 1) (three_words c.args.self.now c.self.inside.words.now c.self.inside.place _ c.self.view_is c.in-len3.len_at_least c.in-len3.len_below) c.in_err-id.ensures.fault)

pub returns-in_err-lower-clause-fault : goal.returns-in_err-lower-clause-fault
returns-in_err-lower-clause-fault c =
    passed_up c.from_residual-in_err-lower.result c.in_err-lower.field-0.0 _ c.from_residual-in_err-lower.ensures.1
    (second_of_three id bound bound (crosses_at 1) (three_words c.args.self.now c.self.inside.words.now c.self.inside.place _ c.self.view_is c.in-len3.len_at_least c.in-len3.len_below) c.in_ok-id.ensures.no_fault c.in_err-lower.ensures.fault)

pub returns-in_err-upper-clause-fault : goal.returns-in_err-upper-clause-fault
returns-in_err-upper-clause-fault c =
    passed_up c.from_residual-in_err-upper.result c.in_err-upper.field-0.0 _ c.from_residual-in_err-upper.ensures.1
    (third_of_three id bound bound (crosses_at 1) (three_words c.args.self.now c.self.inside.words.now c.self.inside.place _ c.self.view_is c.in-len3.len_at_least c.in-len3.len_below) c.in_ok-id.ensures.no_fault c.in_ok-lower.ensures.no_fault c.in_err-upper.ensures.fault)

pub returns-in_err-span-clause-fault : goal.returns-in_err-span-clause-fault
returns-in_err-span-clause-fault c =
    passed_up c.from_residual-in_err-span.result c.in_err-span.field-0.0 _ c.from_residual-in_err-span.ensures.1
    (after_three id bound bound (crosses_at 1) (three_words c.args.self.now c.self.inside.words.now c.self.inside.place _ c.self.view_is c.in-len3.len_at_least c.in-len3.len_below) c.in_ok-id.ensures.no_fault c.in_ok-lower.ensures.no_fault c.in_ok-upper.ensures.no_fault
    ∙ rw (crossing c.in_ok-lower.lower c.in_ok-upper.upper c.in_ok-lower.ensures.within c.in_ok-upper.ensures.within c.in_ok-lower.ensures.value c.in_ok-upper.ensures.value c.in_err-span.ensures.crossed) (ap Some (sym c.in_err-span.ensures.fault)))

pub returns-clause-no_fault : goal.returns-clause-no_fault
returns-clause-no_fault c =
    after_three id bound bound (crosses_at 1) (three_words c.args.self.now c.self.inside.words.now c.self.inside.place _ c.self.view_is c.in-len3.len_at_least c.in-len3.len_below) c.in_ok-id.ensures.no_fault c.in_ok-lower.ensures.no_fault c.in_ok-upper.ensures.no_fault
    ∙ rw (crossing c.in_ok-lower.lower c.in_ok-upper.upper c.in_ok-lower.ensures.within c.in_ok-upper.ensures.within c.in_ok-lower.ensures.value c.in_ok-upper.ensures.value c.in_ok-span.ensures.in_order) refl

pub returns-clause-id : goal.returns-clause-id
returns-clause-id c = c.in_ok-id.ensures.value ∙ ap (λ a. natural (values a) 0) (sym (three_words c.args.self.now c.self.inside.words.now c.self.inside.place _ c.self.view_is c.in-len3.len_at_least c.in-len3.len_below).are)

pub returns-clause-span : goal.returns-clause-span
returns-clause-span c =
    span_read c.in_ok-lower.lower c.in_ok-upper.upper c.in_ok-span.span c.in_ok-lower.ensures.within c.in_ok-upper.ensures.within c.in_ok-lower.ensures.value c.in_ok-upper.ensures.value c.in_ok-span.ensures.value
    ∙ ap (λ a. span_at (values a) 1) (sym (three_words c.args.self.now c.self.inside.words.now c.self.inside.place _ c.self.view_is c.in-len3.len_at_least c.in-len3.len_below).are)
