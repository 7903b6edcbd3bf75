-- The replies to lines, one after another.
use Rattle.std.specs.Prelude.{◌≡◌, ◌≤◌, ℕ, Bool, true, false, List, [], ◌∷◌, ◌++◌, filter_map, length, take, drop, Option, Some, None, Result, Ok}
use Rattle.pesp_instance.specs.declared.edit.Edit.{Edit}
use Rattle.pesp_instance.specs.Edited.{after}
use Rattle.pesp_tension.specs.Timetables.{Times}
use Rattle.pesp_shell_commands.specs.declared.command.Command.{Command}
use Rattle.pesp_shell_commands.specs.declared.command.Command.TheVariants as command
use Rattle.pesp_shell_commands.specs.declared.parsing.ParseFault.{ParseFault}
use Rattle.pesp_shell_commands.specs.Parsed.{parsed}
use Rattle.pesp_shell_replies.specs.Legal.{Legal, Work}

-- the lines lead from the first work to the last, and the output is their replies, each legal in the work that the line before left
abbrev pub Leads : Work → List (List ℕ) → List ℕ → Work → Type 0
Leads first [] output last = (output ≡ []) × (last ≡ first)
Leads first (line ∷ lines) output last =
    (reply : List ℕ) × (next : Work) × (rest : List ℕ) × Legal first line reply next × Leads next lines rest last × (output ≡ reply ++ rest)

-- the output is the replies to the lines
abbrev pub IsTranscript : Work → List (List ℕ) → List ℕ → Type 0
IsTranscript first lines output = (last : Work) × Leads first lines output last

-- the edit that a line asks for
abbrev pub edit_said : Result (Option Command) ParseFault → Option Edit
edit_said (Ok (Some (command.Edit edit))) = Some edit
edit_said other = None

abbrev pub edit_in : List ℕ → Option Edit
edit_in line = edit_said (parsed line)

-- the edits that lines ask for, in order
abbrev pub edits_in : List (List ℕ) → List Edit
edits_in lines = filter_map edit_in lines

-- after its first n lines a transcript goes on as one for the instance that their edits leave, and the working timetable that they lead to
pub record GoesOnAfresh (first : Work) (lines : List (List ℕ)) (output : List ℕ) (n : ℕ) : Type 0 where
  pub times : Times
  pub told : List ℕ
  pub rest : List ℕ
  pub whole : output ≡ told ++ rest
  pub before : Leads first (take n lines) told (record { instance = after first.instance (edits_in (take n lines)); times = times })
  pub later : IsTranscript (record { instance = after first.instance (edits_in (take n lines)); times = times }) (drop n lines) rest

-- each reply of a transcript is one for the instance that the accepted edits before it leave, read afresh
abbrev pub AreAfresh : Type 0
AreAfresh =
    (first : Work) (lines : List (List ℕ)) (output : List ℕ) (n : ℕ) → n ≤ length lines → IsTranscript first lines output
    → GoesOnAfresh first lines output n

-- whether what a line says is `try`, which may stop or not
abbrev pub is_try : Result (Option Command) ParseFault → Bool
is_try (Ok (Some (command.TryOptimum limit))) = true
is_try other = false

-- a line that is no `try` has one reply, and one work after it
abbrev pub OneReply : Type 0
OneReply =
    (w : Work) (line text other : List ℕ) (next after : Work) → is_try (parsed line) ≡ false → Legal w line text next → Legal w line other after
    → (text ≡ other) × (next ≡ after)
