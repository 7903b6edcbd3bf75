-- The lines of the times that are left are to come.
use Rattle.std.proofs.Common.{◌≡◌, ◌++◌, map}
use Rattle.pesp_base.specs.Texts.{as_lines}
use Rattle.pesp_shell_replies.specs.Replies.{time_line}
use Rattle.pesp_shell_replies.proofs.rows.put_times.Given as goal

abbrev pub invariant-loop-timed : goal.invariant-loop-timed
invariant-loop-timed l = record {
  can_next : (goal.iterator-loop-timed).can_next l.timed-iterator;
  is_finite : (goal.iterator-loop-timed).is_finite l.timed-iterator;
  left : l.text.items ++ as_lines (map time_line l.timed-iterator) ≡ l.fn.text.items ++ as_lines (map time_line l.times.entries);
}
