-- A line that is taken leaves the lines after it; one that cannot be taken is the first faulty one, or finds no memory.
use Rattle.pesp_shell_commands.proofs.ReplayLemmas.{ended, given_back, only_memory, stopped_at, taken}
use Rattle.pesp_shell_commands.proofs.ScriptLaws.{script_is_said}
use Rattle.pesp_shell_commands.proofs.replaying.replay.Goals as goal

pub lines-preserved : goal.lines-preserved
lines-preserved c =
    taken c.args.period c.args.script.now c.lines.number c.lines.instance c.lines.rest.now c.in-Some.line.now c.in-Some.after.now c.lines.invariant c.in-Some.ensures.lines c.take_line.new.instance c.in_default-take_line.ensures.ok c.in-Some.ensures.shorter

pub returns-in-Err-clause-fault : goal.returns-in-Err-clause-fault
returns-in-Err-clause-fault c =
    stopped_at c.args.period c.args.script.now c.lines.number c.lines.instance c.lines.rest.now c.in-Some.line.now c.in-Some.after.now c.lines.invariant c.in-Some.ensures.lines c.in-Err.kind c.in-Err.ensures.fault

pub returns-in-Err-clause-script : goal.returns-in-Err-clause-script
returns-in-Err-clause-script c I network same_period same =
    (script_is_said I network, only_memory c.args.period c.args.script.now I network same_period same _ (returns-in-Err-clause-fault c))

pub returns-clause-script : goal.returns-clause-script
returns-clause-script c I network same_period same = (
  script_is_said I network,
  given_back c.args.period c.args.script.now I network same_period same c.lines.instance
      (ended c.args.period c.args.script.now c.lines.number c.lines.instance c.lines.rest.now c.lines.invariant c.in_default.ensures.lines),
)
