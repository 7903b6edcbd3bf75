-- What a call does: the headline.
use Rattle.std.specs.Prelude.{◌≡◌, ℕ, Bool, false, length, take, drop, List, [], ◌++◌, Option, Some, Result}
use Rattle.pesp_shell.specs.declared.run_fault.RunFault.{RunFault}
use Rattle.pesp_shell.specs.Opening.{files}
use Rattle.pesp_shell.specs.Runs.{IsRun, marks}
use Rattle.pesp_embedded.specs.Numbers.{field_of, place_of, reason_of, status_of}
use Rattle.pesp_embedded.specs.declared.told.Told.{Told}

-- the text in front of a room, as far as it fits, and after it what was there
abbrev pub fronted : List ℕ → List ℕ → List ℕ
fronted text room = take (length room) text ++ drop (length text) room

-- files of activities, fixed times and times, and commands, have a run, in which no read fails; its output is put in front of the room, and how it ended is told
pub record IsAnswered (period : ℕ) (activities fixed times commands room room' : List ℕ) (told : Told) : Type 0 where
  pub output : List ℕ
  pub ended : Result (Unit {0}) RunFault
  pub left : Option (List ℕ)
  pub at_end : Bool
  pub not_written : Bool
  pub passed_on : Bool
  pub run : IsRun (files period activities (Some fixed) (Some times)) (Some commands) left (Some []) (Some output) (marks at_end false not_written passed_on) ended
  pub shown : room' ≡ fronted output room
  pub length : told.length ≡ length output
  pub status : told.status ≡ status_of ended
  pub place : told.place ≡ place_of ended
  pub reason : told.reason ≡ reason_of ended
  pub field : told.field ≡ field_of ended
