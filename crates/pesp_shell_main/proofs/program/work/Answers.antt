-- An early end uses no stream; and what is answered is answered of the files that were read.
use Rattle.std.proofs.Common.{Err, inl, inr, rules}
use Rattle.pesp_shell_main.proofs.program.work.Goals as goal

pub returns-in_err-files : goal.returns-in_err-files
returns-in_err-files g c = inr (inl record {
  settings = c.in_ok-settings.settings;
  given = search rules;
  fault = c.in_err-files.field-0.0;
  first = search rules;
  ends = search rules;
  unused = search rules;
})

pub returns-in_err-answer_files : goal.returns-in_err-answer_files
returns-in_err-answer_files g c = inr (inr record {
  settings = c.in_ok-settings.settings;
  given = search rules;
  files = c.in_ok-files.files;
  read = search rules;
  result = Err c.in_err-answer_files.field-0.0;
  answer = record { check = search rules; commands = search rules };
  ends = search rules;
})
