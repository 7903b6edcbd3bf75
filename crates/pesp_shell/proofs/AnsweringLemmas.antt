-- How the answers to the lines of a run end where all replies are passed on.
use Rattle.std.proofs.Common.{◌≡◌, ℕ, Bool, false, List, [], ◌∷◌, length, Option, Result, Ok, Err, OnOk, IsTrue, refl, sym, subst, append-nil, arith}
use Rattle.std.proofs.lemmas.List.{take_all}
use Rattle.std.specs.Io.KnownBytes.{Appends, IsAtEnd, Keeps}
use Rattle.std.proofs.KnownBytes.{Appends-kept, Appends-nil}
use Rattle.pesp_shell_replies.specs.Legal.{Legal, Work}
use Rattle.pesp_shell_replies.specs.Transcripts.{Leads}
use Rattle.pesp_shell.specs.declared.run_fault.RunFault.{RunFault}
use Rattle.pesp_shell.specs.declared.run_fault.RunFault.TheVariants as fault
use Rattle.pesp_shell.specs.Runs.{Marks}
use Rattle.pesp_shell.specs.Sessions.{MayAnswer, MayEndAfter, MayFinish}

-- one line and its reply
pub told : (first last : Work) (line reply : List ℕ) → Legal first line reply last → Leads first (line ∷ []) reply last
told first last line reply legal = (reply, last, [], legal, (refl, refl), sym (append-nil reply))

-- no line
pub nothing : (first : Work) (number : ℕ) (written : Option (List ℕ)) (mark : Bool) → mark ≡ false → MayAnswer first [] number first written written mark (Ok tt)
nothing first number written mark off = (off, [], (refl, refl), Appends-nil written)

-- where a run finishes, all that was written is passed on
pub finished_passed : (mark passed : Bool) (ended : Result (Unit {0}) RunFault) → MayFinish mark passed ended → OnOk ended (IsTrue passed)
finished_passed mark passed (Ok done) may = may.1
finished_passed mark passed (Err fault) may = tt

-- all replies are written, and passed on or not
pub passed_on : (first last : Work) (lines : List (List ℕ)) (number : ℕ) (written written' written'' : Option (List ℕ)) (before mark passed : Bool) (ended : Result (Unit {0}) RunFault)
    → MayAnswer first lines number last written written' before (Ok tt) → Keeps written' written'' → MayFinish mark passed ended
    → MayAnswer first lines number last written written'' mark ended
passed_on first last lines number written written' written'' before mark passed (Ok done) (off, replies, leads, appended) keeps may =
    (may.0, replies, leads, Appends-kept written written' written'' replies appended keeps)
passed_on first last lines number written written' written'' before mark passed (Err fault.Write) (off, replies, leads, appended) keeps failed = (
  failed,
  last,
  replies,
  length replies,
  leads,
  subst (Appends written written'') (sym (take_all (length replies) replies (omega arith))) (Appends-kept written written' written'' replies appended keeps),
)
passed_on first last lines number written written' written'' before mark passed (Err (fault.File source found)) may keeps none = absurd none
passed_on first last lines number written written' written'' before mark passed (Err fault.Read) may keeps none = absurd none
passed_on first last lines number written written' written'' before mark passed (Err (fault.Memory line)) may keeps none = absurd none
passed_on first last lines number written written' written'' before mark passed (Err (fault.LineTooLong line)) may keeps none = absurd none
passed_on first last lines number written written' written'' before mark passed (Err fault.TooManyLines) may keeps none = absurd none

-- nothing is left, and all replies are passed on or not
pub ended_after : (rest : List ℕ) (left : Option (List ℕ)) (m : Marks) (ended : Result (Unit {0}) RunFault)
    → rest ≡ [] → IsTrue m.at_end → IsAtEnd left → m.not_read ≡ false → MayFinish m.not_written m.passed_on ended → MayEndAfter rest left m ended
ended_after rest left m (Ok done) none at_end empty off may = ((off, may.0), none, at_end, empty, may.1)
ended_after rest left m (Err fault.Write) none at_end empty off failed = (off, none, failed)
ended_after rest left m (Err (fault.File source found)) none at_end empty off may = absurd may
ended_after rest left m (Err fault.Read) none at_end empty off may = absurd may
ended_after rest left m (Err (fault.Memory line)) none at_end empty off may = absurd may
ended_after rest left m (Err (fault.LineTooLong line)) none at_end empty off may = absurd may
ended_after rest left m (Err fault.TooManyLines) none at_end empty off may = absurd may
