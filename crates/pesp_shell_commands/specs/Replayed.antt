-- What a script makes of the instance without events.
use Rattle.std.specs.Prelude.{◌≡◌, ◌⊎◌, ℕ, ◌+◌, ◌-◌, ◌<◌, ◌≤◌, nat_lt, Bool, true, false, IsTrue, List, [], ◌∷◌, map, length, slice_index_or, Option, Some, None, Result, Ok, Err, IfErr, MatchResult}
use Rattle.pesp_base.specs.declared.refusal.Refusal.{Refusal}
use Rattle.pesp_base.specs.declared.refusal.Refusal.TheVariants as no
use Rattle.pesp_instance.specs.declared.edit.Edit.{Edit}
use Rattle.pesp_instance.specs.Network.{Network, IsNetwork}
use Rattle.pesp_instance.specs.Edited.{edited, empty_network, grows}
use Rattle.pesplib_writer.specs.Script.{script, script_edits, script_head, script_lines}
use Rattle.pesp_shell_commands.specs.declared.command.Command.{Command}
use Rattle.pesp_shell_commands.specs.declared.command.Command.TheVariants as command
use Rattle.pesp_shell_commands.specs.declared.parsing.ParseFault.{ParseFault}
use Rattle.pesp_shell_commands.specs.declared.replaying.ReplayFault.{ReplayFault}
use Rattle.pesp_shell_commands.specs.declared.replaying.ReplayKind.{ReplayKind}
use Rattle.pesp_shell_commands.specs.declared.replaying.ReplayKind.TheVariants as kind
use Rattle.pesp_shell_io.specs.Lines.{lines_of, longest_line, most_lines}
use Rattle.pesp_shell_commands.specs.Parsed.{parsed}

-- an edited instance, or its refusal as a script's fault
abbrev pub or_refused : Result Network Refusal → Result Network ReplayKind
or_refused (Ok I) = Ok I
or_refused (Err refusal) = Err (kind.Refused refusal)

-- the instance after what a line says, which is to be an edit or nothing
abbrev pub after_said : Network → Result (Option Command) ParseFault → Result Network ReplayKind
after_said I (Ok None) = Ok I
after_said I (Ok (Some (command.Edit edit))) = or_refused (edited I edit)
after_said I (Ok (Some other)) = Err kind.NotAnEdit
after_said I (Err fault) = Err (kind.Parse fault)

-- the same, where there are not too many lines and the line is not too long
abbrev pub within_limits : Bool → Bool → Result Network ReplayKind → Result Network ReplayKind
within_limits true is_long after = Err kind.TooManyLines
within_limits false true after = Err kind.LineTooLong
within_limits false false after = after

-- the instance after the n-th line
abbrev pub after_line : ℕ → Network → List ℕ → Result Network ReplayKind
after_line n I line = within_limits (nat_lt most_lines n) (nat_lt longest_line (length line)) (after_said I (parsed line))

-- what comes of the instance after the n-th line, or that line's fault
abbrev pub on_line : ℕ → (Network → Result Network ReplayFault) → Result Network ReplayKind → Result Network ReplayFault
on_line n next (Ok I) = next I
on_line n next (Err kind) = Err (record { line = n; kind = kind })

-- the instance after lines, the first of which is the n-th, or the fault of the first faulty one
abbrev pub replayed_from : ℕ → Network → List (List ℕ) → Result Network ReplayFault
replayed_from n I [] = Ok I
replayed_from n I (line ∷ lines) = on_line n (λ J. replayed_from (n + 1) J lines) (after_line n I line)

-- the instance that a script makes, or the fault of its first faulty line
abbrev pub replayed : ℕ → List ℕ → Result Network ReplayFault
replayed period bytes = replayed_from 1 (empty_network period) (lines_of bytes)

-- whether what a line says is an edit that may need memory
abbrev pub may_grow : Result (Option Command) ParseFault → Bool
may_grow (Ok (Some (command.Edit edit))) = grows edit
may_grow other = false

-- the line of a number, from 1
abbrev pub line_at : List (List ℕ) → ℕ → List ℕ
line_at lines n = slice_index_or lines (n - 1) []

-- out of memory at one of the lines, an edit that may grow: neither it nor a line before it is faulty
pub record IsMemoryFault (lines : List (List ℕ)) (stands : Result Network ReplayFault) (found : ReplayFault) : Type 0 where
  pub kind : found.kind ≡ kind.Refused no.Memory
  pub from_one : 0 < found.line
  pub in_script : found.line ≤ length lines
  pub grows : IsTrue (may_grow (parsed (line_at lines found.line)))
  pub none_faulty : IfErr stands (λ first. found.line < first.line)

-- the fault of a script's first faulty line, or out of memory
abbrev pub IsReplayFault : List ℕ → Result Network ReplayFault → ReplayFault → Type 0
IsReplayFault bytes stands found = (stands ≡ Err found) ⊎ IsMemoryFault (lines_of bytes) stands found

-- a line that says an edit
abbrev pub said : Edit → Result (Option Command) ParseFault
said edit = Ok (Some (command.Edit edit))

-- the script of an instance has these lines: a comment, and lines of which each says the edit that it was written for
pub record IsSaid (I : Network) : Type 0 where
  pub lines : lines_of (script I) ≡ script_head I ∷ script_lines I
  pub head : parsed (script_head I) ≡ Ok None
  pub edits : map parsed (script_lines I) ≡ map said (script_edits I)

-- where the bytes are the script of an instance, the answer is that instance, or out of memory
abbrev pub GivesBack : ℕ → List ℕ → Result Network ReplayFault → Type 0
GivesBack period bytes answer =
    (I : Network) → IsNetwork I → I.period ≡ period → bytes ≡ script I
    → IsSaid I × MatchResult answer (λ J. J ≡ I) (λ found. found.kind ≡ kind.Refused no.Memory)
