-- What is admitted anew is told by the two windows, and found by steps up from the first residue of the new one.
use Rattle.std.proofs.Common.{◌∙◌, ◌+◌, ◌%◌, not, min, Some, rules, tests, sym, arith}
use Rattle.std.proofs.lemmas.Iterator.{YieldsList-from_range}
use Rattle.std.proofs.lemmas.Iterator.Search.{any_from_yields_List}
use Rattle.pesp_base.specs.Windows.{Interval}
use Rattle.pesp_instance.specs.Network.{agrees_with, window_of}
use Rattle.pesp_domains.proofs.Anew.{anew_ahead, anew_is}
use Rattle.pesp_domains.proofs.loosening.window_admits_anew.Goals as goal

pub returns : goal.returns
returns c =
    let T = c.args.instance.now.period in
    let w : Interval = record { first = c.args.first; length = c.args.length } in
    let old = window_of c.args.instance.now c.args.event in
    any_from_yields_List (λ k. not (agrees_with T old ((c.args.first + k) % T))) _ _ _ c.any.ensures.ran
    (YieldsList-from_range 0 c.min.result (min c.args.length T) (cc) (omega (arith, c.min.ensures, c.get.ensures.value, c.period-period.ensures.value))) (λ x b q k. search (rules, tests))
    ∙ anew_ahead T old w (omega (arith, c.get.ensures, c.period-period.ensures.value))
    ∙ sym (anew_is c.args.instance.now c.args.event (Some w))
