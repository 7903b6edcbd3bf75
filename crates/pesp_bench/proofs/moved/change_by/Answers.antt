-- The cost moves by what lies at the event.
use Rattle.std.proofs.Common.{rules, ◌≡◌, ◌∙◌, ◌-ℤ◌, arith, of_z, pos, to_z, w64}
use Rattle.pesp_bench.proofs.CostMoves.{changes_by}
use Rattle.pesp_bench.proofs.moved.change_by.Goals as goal

pub returns : goal.returns
returns c =
    let costs = c.costs_around-costs.result in
    let value : to_z w64 (of_z w64 (to_z w64 costs.1 -ℤ to_z w64 costs.0)) ≡ pos costs.1 -ℤ pos costs.0 = search rules in
    value ∙ changes_by c.args.instance.now c.args.times.now c.args.event c.args.time costs.0 costs.1 c.costs_around-costs.ensures.before c.costs_around-costs.ensures.after
