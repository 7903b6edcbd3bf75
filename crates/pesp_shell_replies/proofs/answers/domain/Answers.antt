-- The residues of the event's row are those of its domain.
use Rattle.std.proofs.Common.{refl}
use Rattle.pesp_shell_replies.specs.Legal.{work_of}
use Rattle.pesp_shell_replies.proofs.DomainLemmas.{domain_told}
use Rattle.pesp_shell_replies.proofs.answers.domain.Goals as goal

pub returns-in_ok-put_row-in-Ok : goal.returns-in_ok-put_row-in-Ok
returns-in_ok-put_row-in-Ok g c =
    domain_told (work_of c.args.bench.now) c.args.event c.in-Ok.row.now c.put_row.new.text.items (c.in-Ok.ensures.event.0 refl) c.in-Ok.ensures.row (rw c.new-text.ensures.items at c.in_ok-put_row-in-Ok.ensures)
