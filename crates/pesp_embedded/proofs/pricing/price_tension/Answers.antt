-- A number that is no activity.
use Rattle.std.proofs.Common.{◌∙◌, ap, sym}
use Rattle.pesp_base.specs.declared.refusal.Refusal.TheVariants as no
use Rattle.pesp_instance.specs.Network.{activity_of}
use Rattle.pesp_embedded.specs.Prices.{tension_span}
use Rattle.pesp_embedded.specs.declared.fault.Fault.TheVariants as fault
use Rattle.pesp_embedded.proofs.Prices.{no_activity_fault}
use Rattle.pesp_embedded.proofs.pricing.price_tension.Goals as goal

pub returns-in-None-clause-refused : goal.returns-in-None-clause-refused
returns-in-None-clause-refused c = (
  fault.Refused (no.NoActivity c.args.number),
  no_activity_fault c.args.bench.now.instance c.args.number (tension_span c.args.tension) (ap (λ I. activity_of I c.args.number) (sym c.instance.ensures) ∙ c.in-None.ensures.none),
  c.no_activity.ensures c.args.number,
)
