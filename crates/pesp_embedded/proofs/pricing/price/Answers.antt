-- Why there is no price.
use Rattle.pesp_embedded.proofs.Prices.{price_fault}
use Rattle.pesp_embedded.proofs.pricing.price.Goals as goal

pub returns-in-Err-clause-refused : goal.returns-in-Err-clause-refused
returns-in-Err-clause-refused c = (
  c.of_refusal.result,
  price_fault c.args.bench.now.instance c.args.trial.now c.in-Err.refusal c.of_refusal.result c.of_refusal.ensures.memory c.of_refusal.ensures.refused c.in-Err.ensures.refused,
  c.told.ensures,
)
