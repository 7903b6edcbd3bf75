-- What a script's line answers in place of an instance.
use Rattle.std.specs.Prelude.{◌≡◌, Bool, IsTrue, Result, MatchResult}
use Rattle.pesp_base.specs.declared.refusal.Refusal.TheVariants as no
use Rattle.pesp_instance.specs.Network.{Network}
use Rattle.pesp_shell_commands.specs.declared.replaying.ReplayKind.{ReplayKind}
use Rattle.pesp_shell_commands.specs.declared.replaying.ReplayKind.TheVariants as kind

-- the fault of a line, or out of memory where it has none and may grow
abbrev pub IsLineFault : Result Network ReplayKind → Bool → ReplayKind → Type 0
IsLineFault stands grows found = MatchResult stands (λ _. (found ≡ kind.Refused no.Memory) × IsTrue grows) (λ first. found ≡ first)
