-- The residues of the event's row are those of its domain.
use Rattle.std.proofs.lemmas.Result.{on_ok_weaker}
use Rattle.pesp_shell_replies.proofs.DomainLemmas.{line_added}
use Rattle.pesp_shell_replies.proofs.answers.put_domain.Goals as goal

pub returns : goal.returns
returns g c =
    on_ok_weaker c.put_line.result
    (line_added c.args.bench.now.instance c.args.event c.unwrap-row.result.now c.args.text.now.items c.put_line.new.text.items (rw c.unwrap-row.ensures at c.domain.ensures.row))
    c.put_line.ensures
