-- The first words of a line say what the line says.
use Rattle.std.proofs.Common.{◌≡◌, Err, rules, sym, ◌∙◌}
use Rattle.pesp_shell_commands.specs.Parsed.{parsed}
use Rattle.pesp_shell_commands.proofs.ParseLemmas.{spoken_texts}
use Rattle.pesp_shell_commands.proofs.parsing.parse.Goals as goal

pub returns : goal.returns
returns c =
    c.in_ok-command.ensures
    ∙ spoken_texts c.args.line.now c.as_slice-words.result.now _ (c.as_slice-words.ensures ∙ c.new-words.ensures) c.in-len1-up.len_at_least (sym c.starts_with.ensures.value ∙ c.if-starts_with.false)

pub returns-in_err-command : goal.returns-in_err-command
returns-in_err-command c =
    let fault : Err c.in_err-command.field-0.0 ≡ parsed c.args.line.now =
    c.in_err-command.ensures
    ∙ spoken_texts c.args.line.now c.as_slice-words.result.now _ (c.as_slice-words.ensures ∙ c.new-words.ensures) c.in-len1-up.len_at_least (sym c.starts_with.ensures.value ∙ c.if-starts_with.false) in
    rw (← fault) (search rules)
