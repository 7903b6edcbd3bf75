-- The edits of the script build the instance.
use Rattle.pesplib_writer.proofs.ScriptLaws.{script_builds}
use Rattle.pesplib_writer.proofs.script.dump.Goals as goal

pub returns-in-Ok-clause-builds : goal.returns-in-Ok-clause-builds
returns-in-Ok-clause-builds c = script_builds c.args.instance.now c.put_script.ensures.network

pub returns-in-Err-clause-builds : goal.returns-in-Err-clause-builds
returns-in-Err-clause-builds c = script_builds c.args.instance.now c.put_script.ensures.network
