-- What stands from the lower bound on passes.
use Rattle.std.proofs.Common.{◌≡◌, ◌<◌, rules, ap, ◌∙◌, arith, to_z, of_z, w32}
use Rattle.pesp_base.specs.Tensions.{residue}
use Rattle.pesp_counts_arcs.specs.declared.end.End.{End}
use Rattle.pesp_counts_arcs.proofs.EndLaws.{tail_passes}
use Rattle.pesp_counts_arcs.proofs.end.End.tail.Goals as goal

pub returns-clause-joins : goal.returns-clause-joins
returns-clause-joins c =
    let below = c.remainder-first.ensures.below in
    let some : 0 < c.args.period = omega (arith, below) in
    let end : End = record { looks_at = c.args.looks_at; mate = c.args.mate; first = c.remainder-first.result; width = c.width_of-width.result } in
    let way : to_z w32 (of_z w32 c.lower.result) ≡ c.args.span.lower = search rules in
    tail_passes c.args.period c.args.span some c.lower.ensures.limits.in_order end c.width_of-width.ensures.value
    (c.remainder-first.ensures.value ∙ ap (residue c.args.period) way)
