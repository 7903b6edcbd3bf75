-- With the present run, the event and those of its residues that were gone over are written.
use Rattle.std.proofs.Common.{◌≡◌, ◌≤◌, ◌-◌, ◌++◌, filter}
use Rattle.std.specs.List.{range_with_len}
use Rattle.pesp_domains.specs.Domains.{holds}
use Rattle.pesp_shell_replies.specs.Replies.{domain_line}
use Rattle.pesp_shell_replies.specs.Spaced.{spaced}
use Rattle.pesp_shell_replies.proofs.rows.put_line.Given as goal

abbrev pub invariant-loop-residue : goal.invariant-loop-residue
invariant-loop-residue l = record {
  order : l.first ≤ l.residue;
  text : l.text.items ++ spaced (range_with_len l.first (l.residue - l.first)) ≡ l.fn.text.items ++ domain_line l.fn.event (filter (holds l.row) (range_with_len 0 l.residue));
}
