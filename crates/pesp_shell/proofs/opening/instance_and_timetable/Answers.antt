-- The files stand for what was read of them, and the fault of the times comes after files that can be read.
use Rattle.std.proofs.Common.{◌≡◌, ap, refl}
use Rattle.std.specs.Prelude.{option_copied, is_ok}
use Rattle.pesp_shell.specs.Opening.{given}
use Rattle.pesp_shell.specs.declared.run_fault.Source.TheVariants as source
use Rattle.pesplib_reader.specs.Reading.{times_read}
use Rattle.pesplib_reader.specs.Taking.{IsReadFault}
use Rattle.pesp_shell.proofs.Given.{given_or}
use Rattle.pesp_shell.proofs.opening.instance_and_timetable.Goals as goal

pub returns-in-Err-read_times-clause-fault : goal.returns-in-Err-read_times-clause-fault
returns-in-Err-read_times-clause-fault c =
    let fixed : c.unwrap_or.result.now ≡ given (option_copied c.args.fixed) = given_or c.args.fixed _ c.unwrap_or.result c.unwrap_or.ensures refl in
    let times : c.unwrap_or-2.result.now ≡ given (option_copied c.args.times) = given_or c.args.times _ c.unwrap_or-2.result c.unwrap_or-2.ensures refl in
    let stand = rw fixed at c.in_default.ensures.ok.1 in
    let found : IsReadFault (given (option_copied c.args.times)) (times_read c.args.period (given (option_copied c.args.times))) c.in-Err-read_times.fault
    = rw times at c.in-Err-read_times.ensures.fault in
    (source.Times, c.in-Err-read_times.fault, c.in_file-in-Err-read_times.ensures, (c.in-Ok.instance, c.in-Ok.ensures.ok, ap is_ok stand, found))

pub returns-in-Ok-read_times-clause-ok : goal.returns-in-Ok-read_times-clause-ok
returns-in-Ok-read_times-clause-ok c =
    let fixed : c.unwrap_or.result.now ≡ given (option_copied c.args.fixed) = given_or c.args.fixed _ c.unwrap_or.result c.unwrap_or.ensures refl in
    let times : c.unwrap_or-2.result.now ≡ given (option_copied c.args.times) = given_or c.args.times _ c.unwrap_or-2.result c.unwrap_or-2.ensures refl in
    let (m, is, same) = c.in_default.ensures.ok in (
      c.in-Ok.instance,
      m,
      record { activities = c.in-Ok.ensures.ok; fixed_times = rw fixed at is; timetable = rw times at c.in-Ok-read_times.ensures.ok },
      same,
    )
