-- How the writing of a check may end.
use Rattle.std.specs.Prelude.{◌≡◌, ◌⊎◌, ℕ, Bool, false, IsTrue, List, Option, take}
use Rattle.std.specs.Io.KnownBytes.{Appends, Keeps}
use Rattle.pesp_instance.specs.Network.{Network}
use Rattle.pesp_tension.specs.Timetables.{Times}
use Rattle.pesp_shell.specs.declared.run_fault.RunFault.{RunFault}
use Rattle.pesp_shell.specs.declared.run_fault.RunFault.TheVariants as fault
use Rattle.pesp_shell.specs.Checked.{IsCheck, IsCheckFault}
use Rattle.pesp_shell.specs.Opening.{Files}

-- the text is what a check of the files answers
abbrev pub Checks : Files → List ℕ → Type 0
Checks f text = (I : Network) × (fixed : Times) × (times : Times) × IsCheck f text I fixed times

-- the answer is written and passed on, and no write failed
abbrev pub IsWritten : Files → Option (List ℕ) → Option (List ℕ) → Bool → Bool → Type 0
IsWritten f written written' failed passed_on =
    (failed ≡ false) × IsTrue passed_on × (text : List ℕ) × Checks f text × Appends written written' text

-- the files have a fault or memory is wanted, and nothing is written and no write failed; or a write failed after some first bytes of the answer
abbrev pub IsUnchecked : Files → Option (List ℕ) → Option (List ℕ) → Bool → RunFault → Type 0
IsUnchecked f written written' failed ended =
    (IsCheckFault f ended × (failed ≡ false) × Keeps written written')
    ⊎ ((ended ≡ fault.Write) × IsTrue failed × (text : List ℕ) × (n : ℕ) × Checks f text × Appends written written' (take n text))
