use Rattle.std.proofs.Common.{◌≡◌, drop, map}
use Rattle.std.specs.List.{find}
use Rattle.pesp_shell_commands.specs.Forms.{begins_with}
use Rattle.pesp_shell_commands.specs.Parsed.{form_for}
use Rattle.pesp_shell_commands.specs.Words.{texts}
use Rattle.pesp_shell_commands.proofs.name.first_named.Given as goal

-- no name so far is the one that is looked for
abbrev pub invariant-loop-own : goal.invariant-loop-own
invariant-loop-own l = find (begins_with (texts l.words)) (map (λ row. form_for row.1) (drop l.own-index l.names)) ≡ find (begins_with (texts l.words)) (map (λ row. form_for row.1) l.names)
