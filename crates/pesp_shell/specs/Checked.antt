-- What a check answers.
use Rattle.std.specs.Prelude.{◌≡◌, ℕ, List, Option, Some, None}
use Rattle.pesp_instance.specs.Network.{Network}
use Rattle.pesp_tension.specs.Answers.{cost_of, tensions_of, violations_of, where_timed}
use Rattle.pesp_tension.specs.Timetables.{Times}
use Rattle.pesplib_reader.specs.Reading.{with_fixed}
use Rattle.pesp_shell.specs.declared.run_fault.RunFault.{RunFault}
use Rattle.pesp_shell.specs.declared.run_fault.RunFault.TheVariants as ended
use Rattle.pesp_shell.specs.Opening.{Files, IsFirstFault, StandFor}
use Rattle.pesp_shell_replies.specs.Replies.{appended, cost_text, tensions_text, told, violations_text}

-- one reply after another, where both are there
abbrev pub joined : Option (List ℕ) → Option (List ℕ) → Option (List ℕ)
joined None later = None
joined (Some text) later = appended text later

-- the replies to `tensions`, `violations` and `cost`
abbrev pub check_text : Network → Times → Option (List ℕ)
check_text I m =
    joined (told tensions_text (where_timed I m (tensions_of I m)))
    (joined (told violations_text (where_timed I m (violations_of I m))) (told cost_text (where_timed I m (cost_of I m))))

-- the text is the replies for the instance and the times that the files stand for
pub record IsCheck (f : Files) (text : List ℕ) (I : Network) (fixed times : Times) : Type 0 where
  pub files : StandFor f I fixed times
  pub tells : check_text (with_fixed I fixed) times ≡ Some text

-- the fault is that of the first file that has one, or out of memory after all
abbrev pub IsCheckFault : Files → RunFault → Type 0
IsCheckFault f (ended.File source fault) = IsFirstFault f source fault
IsCheckFault f (ended.Memory line) = (I : Network) × (fixed : Times) × (times : Times) × StandFor f I fixed times × (line ≡ 0)
IsCheckFault f other = ⊥
