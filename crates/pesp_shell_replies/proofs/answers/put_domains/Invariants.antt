-- The lines of the events that were gone over are written.
use Rattle.std.proofs.Common.{map}
use Rattle.pesp_shell_replies.proofs.DomainLemmas.{AreOver}
use Rattle.pesp_shell_replies.proofs.answers.put_domains.Given as goal

abbrev pub invariant-loop-event : goal.invariant-loop-event
invariant-loop-event g l = AreOver l.bench.instance (map (λ e. e.id) l.event-iterator) l.fn.text.items l.text.items
