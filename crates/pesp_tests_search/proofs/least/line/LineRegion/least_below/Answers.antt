-- The part has the maps that are below the residue, and no others.
use Rattle.std.proofs.Common.{◌≡◌, ◌+◌, min, arith}
use Rattle.std.proofs.lemmas.Result.{IfOk-weaker}
use Rattle.pesp_tests_search.specs.Lines.{IsOnLine}
use Rattle.pesp_search_least.specs.Order.{BelowResidue}
use Rattle.pesp_search_least.specs.Sums.{IsWithin}
use Rattle.pesp_tests_search.proofs.Lines.{line_above, line_below, line_within}
use Rattle.pesp_search_least.proofs.Outcomes.{outcome_same}
use Rattle.pesp_tests_search.proofs.least.line.LineRegion.least_below.Goals as goal

pub least-requires : goal.least-requires
least-requires c =
    let l = c.args.self.now in
    let p = c.part-lesser.result in
    let within : IsWithin (IsOnLine p.costs p.lowest p.end) (IsOnLine l.costs l.lowest l.end) =
    rw (c.part-lesser.ensures.costs, c.part-lesser.ensures.lowest) (line_within l.costs l.lowest l.end p.end (omega (arith, c.part-lesser.ensures.end, c.min.ensures)))
    in
    record { floor = λ map sum is. c.requires.floor map sum (within map sum is) }

pub returns-clause-outcome : goal.returns-clause-outcome
returns-clause-outcome c =
    let l = c.args.self.now in
    let p = c.part-lesser.result in
    let last : p.end ≡ min l.end c.args.residue = omega (arith, c.part-lesser.ensures.end, c.min.ensures, l.within) in
    let within : IsWithin (IsOnLine p.costs p.lowest p.end) (BelowResidue (IsOnLine l.costs l.lowest l.end) c.args._event c.args.residue) =
    rw (c.part-lesser.ensures.costs, c.part-lesser.ensures.lowest) (line_below l.costs l.lowest l.end p.end c.args._event c.args.residue c.requires.event last)
    in
    let back : IsWithin (BelowResidue (IsOnLine l.costs l.lowest l.end) c.args._event c.args.residue) (IsOnLine p.costs p.lowest p.end) =
    rw (c.part-lesser.ensures.costs, c.part-lesser.ensures.lowest) (line_above l.costs l.lowest l.end p.end c.args._event c.args.residue c.requires.event last)
    in
    IfOk-weaker c.least.result _ _ (λ outcome is. outcome_same _ _ (c.args.cost + 1) outcome within back is) c.least.ensures.outcome
