-- What is known is kept where the edit brings nothing, and for an optimum where it stands.
use Rattle.std.proofs.Common.{◌≡◌, ◌↔◌, ◌∙◌, Some, IfSome, IsTrue, rules, sym, subst}
use Rattle.pesp_search.specs.declared.answer.Answer.TheVariants.{Optimal}
use Rattle.pesp_search.specs.Optima.{IsAnswer}
use Rattle.pesp_bench.specs.Kept.{Keeps}
use Rattle.pesp_bench.proofs.Stands.{keeps_standing}
use Rattle.pesp_bench.proofs.kept.keeps.Goals as goal

pub returns-then-not-cheapens-clause-value : goal.returns-then-not-cheapens-clause-value
returns-then-not-cheapens-clause-value c J is =
    let I = c.args.instance.now in
    let known : c.args.known.now ≡ Some (Optimal c.in-Some-Optimal.field-0-0 c.in-Some-Optimal.times) = search rules in
    subst (λ o. IfSome o (λ answer. IsTrue c.stands.result ↔ Keeps I c.args.edit.now answer)) (sym known)
    (keeps_standing I J c.args.edit.now c.in-Some-Optimal.field-0-0 c.in-Some-Optimal.times c.stands.result c.period-period.ensures.network is (sym c.cheapens.ensures ∙ c.if-not-cheapens.true) (subst (λ o. IfSome o (IsAnswer I)) known c.requires) c.stands.ensures)

-- by search, and named so that a wrong body is refused here at once
pub returns-in-Some-Infeasible-clause-value : goal.returns-in-Some-Infeasible-clause-value
returns-in-Some-Infeasible-clause-value c = search rules
