-- The text stands for the timetable, whose events ascend and are within the limits.
use Rattle.std.proofs.Common.{◌≡◌, ◌≤◌, arith, rules}
use Rattle.pesp_base.specs.Limits.{greatest_period}
use Rattle.pesplib_writer.specs.Texts.{times_text}
use Rattle.pesplib_writer.proofs.FileLaws.{times_stand}
use Rattle.pesplib_writer.proofs.files.write_times.Goals as goal

pub returns-in-Ok-clause-stands : goal.returns-in-Ok-clause-stands
returns-in-Ok-clause-stands c =
    let written : c.put_times.new.text.items ≡ times_text c.args.timetable.now = search rules in
    let limit : c.args.timetable.now.period ≤ greatest_period = omega arith in
    rw written (times_stand c.args.timetable.now limit c.put_times.ensures.rising c.put_times.ensures.within)
