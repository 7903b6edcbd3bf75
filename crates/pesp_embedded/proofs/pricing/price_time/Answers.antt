-- A number that is no event.
use Rattle.std.proofs.Common.{◌∙◌, ap, sym}
use Rattle.pesp_base.specs.declared.refusal.Refusal.TheVariants as no
use Rattle.pesp_instance.specs.Network.{has_event}
use Rattle.pesp_embedded.specs.declared.fault.Fault.TheVariants as fault
use Rattle.pesp_embedded.proofs.Prices.{no_event_fault}
use Rattle.pesp_embedded.proofs.pricing.price_time.Goals as goal

pub returns-in-None-clause-refused : goal.returns-in-None-clause-refused
returns-in-None-clause-refused c = (
  fault.Refused (no.NoEvent c.args.number),
  no_event_fault c.args.bench.now.instance c.args.number c.args.time (ap (λ I. has_event I c.args.number) (sym c.instance.ensures) ∙ c.in-None.ensures.none),
  c.no_event.ensures,
)
