-- The cost moves by what lies at the event, and the event lacks a time no more.
use Rattle.std.proofs.Common.{◌≡◌, ℕ, ◌-◌, ◌∙◌, Bool, true, false, cond, sym, ap, is_some, sum_by, arith}
use Rattle.pesp_instance.specs.Network.{around}
use Rattle.pesp_tension.specs.Answers.{cost_in}
use Rattle.pesp_bench.specs.Costing.{IsCosted}
use Rattle.pesp_bench.proofs.CostMoves.{after_set, around_part, cost_small, one_lacks, taken}
use Rattle.pesp_bench.proofs.costing.KeptCost.set.Goals as goal
use Rattle.pesp_bench.proofs.costing.KeptCost.set.Goals.{then-is_none, else-is_none}

pub replace-requires-clause-part : goal.replace-requires-clause-part
replace-requires-clause-part c =
    let part = around_part c.args.instance.now c.args.times.now c.args.timed.event in
    omega (arith, part, c.costs_around-costs.ensures.before, c.requires.costed.costs)

pub replace-requires-clause-room : goal.replace-requires-clause-room
replace-requires-clause-room c =
    let small = cost_small c.args.instance.now c.args.times.now c.costs_around-costs.ensures.network c.requires.times.period in
    let most = c.costs_around-costs.ensures.small in
    omega (arith, small, most.1, c.requires.costed.costs)

pub overflow_sub-self : goal.overflow_sub-self
overflow_sub-self c =
    let one = one_lacks c.args.instance.now c.args.times.now c.args.timed.event c.args.self.now.cost c.args.self.now.missing c.costs_around-costs.ensures.network c.requires.times c.requires.costed c.requires.event
    (sym (ap is_some c.requires.before) ∙ c.if-is_none.ensures) in
    omega (arith, one, c.replace.ensures.missing)

pub returns-clause-costed : goal.returns-clause-costed
returns-clause-costed c = elim c.if-is_none.branch [
  | then-is_none w ↦ rw w.self-is (costed false w.if-is_none.ensures (c.replace.new.self.missing - 1) (omega (arith, c.replace.ensures.missing)))
  | else-is_none w ↦ rw w.self-is (costed true w.if-is_none.ensures c.replace.new.self.missing (omega (arith, c.replace.ensures.missing)))
]
  where
    costed : (had : Bool) → is_some c.args.before ≡ had → (left : ℕ) → left ≡ c.args.self.now.missing - cond had 0 1 → IsCosted c.args.instance.now c.set.new.self c.replace.new.self.cost left
    costed had is left =
        let costs = c.costs_around-costs in
        after_set c.args.instance.now c.args.times.now c.set.new.self c.args.timed.event c.args.timed.time c.args.self.now.cost c.args.self.now.missing costs.result.0 costs.result.1
        c.replace.new.self.cost left had costs.ensures.network c.requires.times c.requires.costed c.requires.event c.in_ok-set.ensures.ok costs.ensures.before
        after c.replace.ensures.cost (sym (ap is_some c.requires.before) ∙ is)
      where
        after : c.costs_around-costs.result.1 ≡ sum_by (cost_in c.set.new.self) (around c.args.instance.now c.args.timed.event)
        after = c.costs_around-costs.ensures.after ∙ ap (λ k. sum_by (cost_in k) (around c.args.instance.now c.args.timed.event)) (sym (taken c.args.times.now c.set.new.self c.args.timed.event c.args.timed.time c.in_ok-set.ensures.ok))
