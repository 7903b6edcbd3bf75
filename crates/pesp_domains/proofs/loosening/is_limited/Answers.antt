-- Without a window each residue is admitted.
use Rattle.std.proofs.Common.{◌∙◌, None, rules, tests, sym, arith}
use Rattle.std.proofs.lemmas.Iterator.{YieldsList-from_range}
use Rattle.std.proofs.lemmas.Iterator.Search.{any_from_yields_List}
use Rattle.pesp_instance.specs.Network.{window_of}
use Rattle.pesp_domains.proofs.Anew.{agrees_anew, anew_is}
use Rattle.pesp_domains.proofs.loosening.is_limited.Goals as goal

pub returns : goal.returns
returns c =
    any_from_yields_List (agrees_anew c.args.instance.now.period (window_of c.args.instance.now c.args.event) None) _ _ _ c.any.ensures.ran
    (YieldsList-from_range 0 c.get.result c.args.instance.now.period (cc) (omega (arith, c.get.ensures.value, c.period-period.ensures.value))) (λ x b q k. search (rules, tests))
    ∙ sym (anew_is c.args.instance.now c.args.event None)
