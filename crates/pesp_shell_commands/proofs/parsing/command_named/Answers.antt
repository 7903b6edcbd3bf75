-- A fixed time, or the first fault of its words.
use Rattle.std.proofs.Common.{◌≡◌, ℕ, [], ◌∷◌, None, Some, Ok, Err, rules, ap, sym, ◌∙◌}
use Rattle.pesp_instance.specs.declared.edit.Edit.TheVariants.{Fix}
use Rattle.pesp_shell_commands.specs.declared.command.Command.TheVariants as command
use Rattle.pesp_shell_commands.specs.declared.name.Name.{Name}
use Rattle.pesp_shell_commands.specs.declared.name.Name.TheVariants as name
use Rattle.pesp_shell_commands.specs.declared.parsing.ParseFault.{ParseFault}
use Rattle.pesp_shell_commands.specs.Forms.{Arguments, first_fault, said, unless_faulty, values}
use Rattle.pesp_shell_commands.specs.Parsed as ranges
use Rattle.pesp_shell_commands.specs.Parsed.{natural, never}
use Rattle.pesp_shell_commands.proofs.parsing.command_named.Goals as goal

module _ (n : Name) (a : Arguments) (is : n ≡ name.Fix) where
  fixed : (event time : ℕ) → first_fault a (ranges.id ∷ ranges.time ∷ []) never ≡ None → event ≡ natural (values a) 0 → time ≡ natural (values a) 1
      → Ok (command.Edit (Fix event time)) ≡ said n a
  fixed event time none first second =
      ap (λ e. Ok (command.Edit (Fix e time))) first ∙ ap (λ t. Ok (command.Edit (Fix (natural (values a) 0) t))) second
      ∙ ap (λ f. unless_faulty f (command.Edit (Fix (natural (values a) 0) (natural (values a) 1)))) (sym none) ∙ ap (λ m. said m a) (sym is)

  not_fixed : (fault : ParseFault) → first_fault a (ranges.id ∷ ranges.time ∷ []) never ≡ Some fault → said n a ≡ Err fault
  not_fixed fault some =
      ap (λ m. said m a) is ∙ ap (λ f. unless_faulty f (command.Edit (Fix (natural (values a) 0) (natural (values a) 1)))) some

pub returns-in_err-event-in-Fix : goal.returns-in_err-event-in-Fix
returns-in_err-event-in-Fix c =
    let said_is : said c.args.name c.args.numbers.now ≡ Err c.in_err-event-in-Fix.field-0.0 =
    not_fixed c.args.name c.args.numbers.now c.in-Fix.is c.in_err-event-in-Fix.field-0.0 c.in_err-event-in-Fix.ensures.fault in
    rw said_is (search rules)

pub returns-in_ok-event-in-Fix : goal.returns-in_ok-event-in-Fix
returns-in_ok-event-in-Fix c =
    fixed c.args.name c.args.numbers.now c.in-Fix.is c.in_ok-event-in-Fix.event c.in_ok-event-in-Fix.time
    c.in_ok-event-in-Fix.ensures.no_fault c.in_ok-event-in-Fix.ensures.event c.in_ok-event-in-Fix.ensures.time

-- by search, and named so that a wrong body is refused here at once
pub returns-in_ok-event-in-Untime : goal.returns-in_ok-event-in-Untime
returns-in_ok-event-in-Untime c = search rules
