-- The row of an event is its domain; a number without a row is no event.
use Rattle.std.proofs.Common.{◌+◌, ◌/◌, ◌∙◌, ap, refl}
use Rattle.pesp_instance.specs.Network.{Network}
use Rattle.pesp_shell_replies.specs.Legal.{work_of}
use Rattle.pesp_embedded.proofs.Bits.{domain_shown, none_shown}
use Rattle.pesp_embedded.proofs.domain.show_domain.Goals as goal

pub returns-in-Some : goal.returns-in-Some
returns-in-Some c =
    domain_shown (work_of c.args.bench.now) c.args.number c.in-Some.row.now c.put_bits-count.result c.args.room.now c.put_bits-count.new.room c.ended.result
    c.in-Some.ensures.event c.in-Some.ensures.row
    (c.put_bits-count.ensures.count ∙ ap (λ period. (period + 7) / 8) (c.period.ensures.value ∙ ap (λ (I : Network). I.period) c.instance.ensures)) c.put_bits-count.ensures.room c.ended.ensures

pub returns-in-None : goal.returns-in-None
returns-in-None c = none_shown (work_of c.args.bench.now) c.args.number c.args.room.now c.args.room.now c.no_event.result c.in-None.ensures.event refl c.no_event.ensures
