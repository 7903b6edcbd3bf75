-- From the first partner upwards, as far as the upper bound or the period lets it go, are all partners, each once.
use Rattle.std.proofs.Common.{rules, ◌≡◌, ◌≢◌, ◌<◌, ◌↔◌, AllPairs, Contains, ap, ◌∙◌, sym, subst, arith, pos, ◌+ℤ◌, to_z, of_z, w32}
use Rattle.pesp_base.specs.Tensions.{IsMet, residue}
use Rattle.pesp_base.proofs.ResidueLaws.{partners_met, partners_once, residues_left-partners}
use Rattle.pesp_base.proofs.residues.partners.Goals as goal

pub returns-clause-order : goal.returns-clause-order
returns-clause-order c =
    let some : 0 < c.args.period = omega (arith, c.requires) in
    let sum : to_z w32 (of_z w32 (to_z w32 c.args.r +ℤ to_z w32 (of_z w32 c.lower.result))) ≡ pos c.args.r +ℤ c.args.span.lower = search rules in
    residues_left-partners c.args.period c.args.span some c.lower.ensures.limits.in_order c.args.r c.remainder.result c.count.result (c.remainder.ensures.value ∙ ap (residue c.args.period) sum) c.count.ensures.value

pub returns-clause-met : goal.returns-clause-met
returns-clause-met c s =
    let some : 0 < c.args.period = omega (arith, c.requires) in
    subst (λ rest. Contains rest s ↔ ((s < c.args.period) × IsMet c.args.period c.args.span c.args.r s)) (sym (returns-clause-order c))
    (partners_met c.args.period c.args.span some c.lower.ensures.limits.in_order c.args.r s)

pub returns-clause-once : goal.returns-clause-once
returns-clause-once c =
    let some : 0 < c.args.period = omega (arith, c.requires) in
    subst (AllPairs (λ a b. a ≢ b)) (sym (returns-clause-order c))
    (partners_once c.args.period c.args.span some c.lower.ensures.limits.in_order c.args.r)
