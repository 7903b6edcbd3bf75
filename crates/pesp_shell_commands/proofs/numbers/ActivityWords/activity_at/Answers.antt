-- The first fault is the one that is met, and the numbers are those that were read.
use Rattle.std.proofs.Common.{refl, sym, ap, Some, ◌∙◌}
use Rattle.pesp_shell_commands.proofs.NumberLemmas.{after_six, crossing, fifth_of_six, first_of_six, fourth_of_six, passed_up, second_of_six, sixth_of_six, span_read, third_of_six}
use Rattle.pesp_shell_commands.proofs.numbers.ActivityWords.activity_at.Goals as goal

pub returns-in_err-id-clause-fault : goal.returns-in_err-id-clause-fault
returns-in_err-id-clause-fault c =
    passed_up c.from_residual.result c.in_err-id.field-0.0 _ c.from_residual.ensures.1
    (first_of_six c.args.place c.args.self.now c.in_err-id.ensures.fault)

pub returns-in_err-from-clause-fault : goal.returns-in_err-from-clause-fault
returns-in_err-from-clause-fault c =
    passed_up c.from_residual-in_err-from.result c.in_err-from.field-0.0 _ c.from_residual-in_err-from.ensures.1
    (second_of_six c.args.place c.args.self.now c.in_ok-id.ensures.no_fault c.in_err-from.ensures.fault)

pub returns-in_err-to-clause-fault : goal.returns-in_err-to-clause-fault
returns-in_err-to-clause-fault c =
    passed_up c.from_residual-in_err-to.result c.in_err-to.field-0.0 _ c.from_residual-in_err-to.ensures.1
    (third_of_six c.args.place c.args.self.now c.in_ok-id.ensures.no_fault c.in_ok-from.ensures.no_fault c.in_err-to.ensures.fault)

pub returns-in_err-lower-clause-fault : goal.returns-in_err-lower-clause-fault
returns-in_err-lower-clause-fault c =
    passed_up c.from_residual-in_err-lower.result c.in_err-lower.field-0.0 _ c.from_residual-in_err-lower.ensures.1
    (fourth_of_six c.args.place c.args.self.now c.in_ok-id.ensures.no_fault c.in_ok-from.ensures.no_fault c.in_ok-to.ensures.no_fault c.in_err-lower.ensures.fault)

pub returns-in_err-upper-clause-fault : goal.returns-in_err-upper-clause-fault
returns-in_err-upper-clause-fault c =
    passed_up c.from_residual-in_err-upper.result c.in_err-upper.field-0.0 _ c.from_residual-in_err-upper.ensures.1
    (fifth_of_six c.args.place c.args.self.now c.in_ok-id.ensures.no_fault c.in_ok-from.ensures.no_fault c.in_ok-to.ensures.no_fault c.in_ok-lower.ensures.no_fault c.in_err-upper.ensures.fault)

pub returns-in_err-weight-clause-fault : goal.returns-in_err-weight-clause-fault
returns-in_err-weight-clause-fault c =
    passed_up c.from_residual-in_err-weight.result c.in_err-weight.field-0.0 _ c.from_residual-in_err-weight.ensures.1
    (sixth_of_six c.args.place c.args.self.now c.in_ok-id.ensures.no_fault c.in_ok-from.ensures.no_fault c.in_ok-to.ensures.no_fault c.in_ok-lower.ensures.no_fault c.in_ok-upper.ensures.no_fault c.in_err-weight.ensures.fault)

pub returns-in_err-span-clause-fault : goal.returns-in_err-span-clause-fault
returns-in_err-span-clause-fault c =
    passed_up c.from_residual-in_err-span.result c.in_err-span.field-0.0 _ c.from_residual-in_err-span.ensures.1
    (after_six c.args.place c.args.self.now c.in_ok-id.ensures.no_fault c.in_ok-from.ensures.no_fault c.in_ok-to.ensures.no_fault c.in_ok-lower.ensures.no_fault c.in_ok-upper.ensures.no_fault c.in_ok-weight.ensures.no_fault
    ∙ rw (crossing c.in_ok-lower.lower c.in_ok-upper.upper c.in_ok-lower.ensures.within c.in_ok-upper.ensures.within c.in_ok-lower.ensures.value c.in_ok-upper.ensures.value c.in_err-span.ensures.crossed) (ap Some (sym c.in_err-span.ensures.fault)))

pub returns-clause-no_fault : goal.returns-clause-no_fault
returns-clause-no_fault c =
    after_six c.args.place c.args.self.now c.in_ok-id.ensures.no_fault c.in_ok-from.ensures.no_fault c.in_ok-to.ensures.no_fault c.in_ok-lower.ensures.no_fault c.in_ok-upper.ensures.no_fault c.in_ok-weight.ensures.no_fault
    ∙ rw (crossing c.in_ok-lower.lower c.in_ok-upper.upper c.in_ok-lower.ensures.within c.in_ok-upper.ensures.within c.in_ok-lower.ensures.value c.in_ok-upper.ensures.value c.in_ok-span.ensures.in_order) refl

pub returns-clause-value : goal.returns-clause-value
returns-clause-value c =
    let span = span_read c.in_ok-lower.lower c.in_ok-upper.upper c.in_ok-span.span c.in_ok-lower.ensures.within c.in_ok-upper.ensures.within c.in_ok-lower.ensures.value c.in_ok-upper.ensures.value c.in_ok-span.ensures.value in
    rw (c.in_ok-id.ensures.value, c.in_ok-from.ensures.value, c.in_ok-to.ensures.value, span, c.in_ok-weight.ensures.value) refl
