-- A word that is no text is reported, and ends with the status of refused words.
use Rattle.std.proofs.Common.{◌⊎◌, inl, inr, Result, Ok, Err, OnErr}
use Rattle.std.specs.Prelude.{OnOk}
use Rattle.pesp_shell_main.proofs.ending.Ending.report.Goals as goal

-- one of what holds at either outcome holds
either : {X E P Q : Type 0} (r : Result X E) → OnOk r P → OnErr r Q → P ⊎ Q
either (Ok x) p q = inl p
either (Err e) p q = inr q

pub returns-in-NotText : goal.returns-in-NotText
returns-in-NotText g c = rw c.in-NotText.is (either c.report_line.result c.report_line.ensures.reported c.report_line.ensures.failed, c.from.ensures)
