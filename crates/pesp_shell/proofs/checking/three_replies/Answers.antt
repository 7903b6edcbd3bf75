-- Each event has a time and the assessment is told, or one has none and that is told three times.
use Rattle.pesp_shell.proofs.CheckLemmas.{check_refused, check_timed}
use Rattle.pesp_shell.proofs.checking.three_replies.Goals as goal
use Rattle.pesp_shell.proofs.checking.three_replies.Goals.{in-Ok+in_ok-put_assessment-in-Ok, in-Err+in_ok-put_refusals-in-Err}

pub returns : goal.returns
returns c =
    elim c.match-assess.branch [
      | in-Ok+in_ok-put_assessment-in-Ok w ↦ rw w.text-is
          (check_timed c.args.instance.now c.args.timetable.now w.put_assessment.new.text.items w.in-Ok.ensures.timed
          (rw (c.new-text.ensures.items, w.in-Ok.ensures.ok.tensions, w.in-Ok.ensures.ok.violations, w.in-Ok.ensures.ok.cost) at w.in_ok-put_assessment-in-Ok.ensures))
      | in-Err+in_ok-put_refusals-in-Err w ↦ rw w.text-is
          (check_refused c.args.instance.now c.args.timetable.now w.in-Err.refusal w.put_refusals.new.text.items w.in-Err.ensures.refused (rw c.new-text.ensures.items at w.in_ok-put_refusals-in-Err.ensures))
    ]
