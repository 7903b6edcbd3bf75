-- What stands up to the lower bound below passes.
use Rattle.std.proofs.Common.{◌≡◌, ◌<◌, rules, ap, ◌∙◌, arith, pos, neg_ℤ, ◌-ℤ◌, to_z, of_z, w32}
use Rattle.std.proofs.lemmas.Int.{ints}
use Rattle.pesp_base.specs.Residues.{reach}
use Rattle.pesp_base.specs.Tensions.{residue}
use Rattle.pesp_counts_arcs.specs.declared.end.End.{End}
use Rattle.pesp_counts_arcs.proofs.EndLaws.{head_passes}
use Rattle.pesp_counts_arcs.proofs.end.End.head.Goals as goal

pub returns-clause-joins : goal.returns-clause-joins
returns-clause-joins c =
    let below = c.remainder-first.ensures.below in
    let some : 0 < c.args.period = omega (arith, below) in
    let end : End = record { looks_at = c.args.looks_at; mate = c.args.mate; first = c.remainder-first.result; width = c.width_of-width.result } in
    let way : to_z w32 (of_z w32 (to_z w32 (of_z w32 (pos 1 -ℤ to_z w32 (of_z w32 c.lower.result))) -ℤ to_z w32 c.width_of-width.result)) ≡ pos 1 -ℤ c.args.span.lower -ℤ pos c.width_of-width.result = search rules in
    let wide = c.width_of-width.ensures.value in
    let low : pos 1 -ℤ c.args.span.lower -ℤ pos c.width_of-width.result ≡ neg_ℤ c.args.span.lower -ℤ pos (reach c.args.period c.args.span) = omega (arith, ints, wide) in
    head_passes c.args.period c.args.span some c.lower.ensures.limits.in_order end wide
    (c.remainder-first.ensures.value ∙ ap (residue c.args.period) (way ∙ low))
