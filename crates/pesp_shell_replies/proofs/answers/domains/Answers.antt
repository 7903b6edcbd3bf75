-- The first line has the number of the events, and a line for each of them follows.
use Rattle.pesp_shell_replies.specs.Legal.{work_of}
use Rattle.pesp_shell_replies.proofs.DomainLemmas.{domains_told}
use Rattle.pesp_shell_replies.proofs.answers.domains.Goals as goal

pub returns : goal.returns
returns g c =
    domains_told (work_of c.args.bench.now) c.put_domains.new.text.items
    (rw (c.in_ok-put_between.ensures.text, c.new-text.ensures.items, c.event_count-count.ensures.value, c.instance-2.ensures) at c.in_ok-put_domains.ensures)
