-- The text stands for the instance without its windows.
use Rattle.std.proofs.Common.{◌≡◌, rules}
use Rattle.pesplib_writer.specs.Texts.{activities_text}
use Rattle.pesplib_writer.proofs.FileLaws.{activities_stand}
use Rattle.pesplib_writer.proofs.files.write_activities.Goals as goal

pub returns-in-Ok-clause-stands : goal.returns-in-Ok-clause-stands
returns-in-Ok-clause-stands c =
    let written : c.put_activities.new.text.items ≡ activities_text c.args.instance.now = search rules in
    rw written (activities_stand c.args.instance.now c.put_activities.ensures.network)
