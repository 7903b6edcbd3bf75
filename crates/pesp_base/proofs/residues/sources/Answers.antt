-- From the first source downwards, as far as the upper bound or the period lets it go, are all sources, each once.
use Rattle.std.proofs.Common.{rules, ◌≡◌, ◌≢◌, ◌<◌, ◌↔◌, AllPairs, Contains, ap, ◌∙◌, sym, subst, arith, pos, ◌-ℤ◌, to_z, of_z, w32}
use Rattle.pesp_base.specs.Tensions.{IsMet, residue}
use Rattle.pesp_base.proofs.ResidueLaws.{sources_met, sources_once, residues_left-sources}
use Rattle.pesp_base.proofs.residues.sources.Goals as goal

pub returns-clause-order : goal.returns-clause-order
returns-clause-order c =
    let some : 0 < c.args.period = omega (arith, c.requires) in
    let difference : to_z w32 (of_z w32 (to_z w32 c.args.s -ℤ to_z w32 (of_z w32 c.lower.result))) ≡ pos c.args.s -ℤ c.args.span.lower = search rules in
    residues_left-sources c.args.period c.args.span some c.lower.ensures.limits.in_order c.args.s c.remainder.result c.count.result (c.remainder.ensures.value ∙ ap (residue c.args.period) difference) c.count.ensures.value

pub returns-clause-met : goal.returns-clause-met
returns-clause-met c r =
    let some : 0 < c.args.period = omega (arith, c.requires) in
    subst (λ rest. Contains rest r ↔ ((r < c.args.period) × IsMet c.args.period c.args.span r c.args.s)) (sym (returns-clause-order c))
    (sources_met c.args.period c.args.span some c.lower.ensures.limits.in_order c.args.s r)

pub returns-clause-once : goal.returns-clause-once
returns-clause-once c =
    let some : 0 < c.args.period = omega (arith, c.requires) in
    subst (AllPairs (λ a b. a ≢ b)) (sym (returns-clause-order c))
    (sources_once c.args.period c.args.span some c.lower.ensures.limits.in_order c.args.s)
