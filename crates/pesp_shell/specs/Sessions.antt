-- How the parts of a run may end.
use Rattle.std.specs.Prelude.{◌≡◌, ◌≢◌, ℕ, ◌<◌, Bool, false, IsTrue, length, take, List, [], ◌∷◌, Option, None, Result, Ok, Err}
use Rattle.std.specs.Io.KnownBytes.{Appends, IsAtEnd, Keeps}
use Rattle.pesp_shell_commands.specs.Parsed.{parsed}
use Rattle.pesp_shell_replies.specs.Legal.{Work}
use Rattle.pesp_shell_replies.specs.Transcripts.{Leads}
use Rattle.pesp_shell.specs.declared.run_fault.RunFault.{RunFault}
use Rattle.pesp_shell.specs.declared.run_fault.RunFault.TheVariants as fault
use Rattle.pesp_shell.specs.Runs.{Marks, NoneFailed}

-- lines, the last of which has this number, are answered in the first work and leave the last, and their answering may end so
abbrev pub MayAnswer : Work → List (List ℕ) → ℕ → Work → Option (List ℕ) → Option (List ℕ) → Bool → Result (Unit {0}) RunFault → Type 0
-- their replies are written
MayAnswer first lines number last written written' not_written (Ok done) =
    (not_written ≡ false) × (replies : List ℕ) × Leads first lines replies last × Appends written written' replies
-- one line, which has a reply, found no memory, and nothing is written
MayAnswer first lines number last written written' not_written (Err (fault.Memory line)) =
    (not_written ≡ false) × (line ≡ number) × (asking : List ℕ) × (lines ≡ asking ∷ []) × (parsed asking ≢ Ok None) × Keeps written written'
-- writing failed after some first bytes of their replies
MayAnswer first lines number last written written' not_written (Err fault.Write) =
    IsTrue not_written × (next : Work) × (replies : List ℕ) × (n : ℕ) × Leads first lines replies next × Appends written written' (take n replies)
MayAnswer first lines number last written written' not_written (Err other) = ⊥

-- all that was written is passed on, or passing it on failed; no write failed before
abbrev pub MayFinish : Bool → Bool → Result (Unit {0}) RunFault → Type 0
MayFinish not_written passed_on (Ok done) = (not_written ≡ false) × IsTrue passed_on
MayFinish not_written passed_on (Err fault.Write) = IsTrue not_written
MayFinish not_written passed_on (Err other) = ⊥

-- after the greatest number of lines these bytes are left, and the run may end so
abbrev pub MayEndAfter : List ℕ → Option (List ℕ) → Marks → Result (Unit {0}) RunFault → Type 0
MayEndAfter rest left m (Ok done) = NoneFailed m × (rest ≡ []) × IsTrue m.at_end × IsAtEnd left × IsTrue m.passed_on
MayEndAfter rest left m (Err fault.Read) = (m.not_written ≡ false) × (rest ≡ []) × IsTrue m.not_read
MayEndAfter rest left m (Err fault.Write) = (m.not_read ≡ false) × (rest ≡ []) × IsTrue m.not_written
MayEndAfter rest left m (Err fault.TooManyLines) = NoneFailed m × (0 < length rest)
MayEndAfter rest left m (Err other) = ⊥
