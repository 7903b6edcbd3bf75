-- One walk more.
use Rattle.std.proofs.Common.{◌≡◌, ◌≤◌, ℕ, ◌++◌, ◌∷◌, [], List, length, get_or, ap, arith}
use Rattle.std.proofs.lemmas.Grind.{common_steps}
use Rattle.pesp_search_cycles.specs.declared.range.Range.{Range}
use Rattle.pesp_search_cycles.specs.Maps.{numbers_of}
use Rattle.pesp_search_cycles.specs.Ranges.{AreIn, IsIn, width}
use Rattle.pesp_search_cycles.specs.Walks.{Path, no_path, round, widths}
use Rattle.pesp_search_cycles.proofs.Pushed.{pushed_each, pushed_long}
use Rattle.pesp_search_cycles.proofs.root.round_ranges.Goals as goal

pub loop-index-preserved : goal.loop-index-preserved
loop-index-preserved c =
    let N = c.args.cycles.now in
    let i = c.loop-index.index in
    let pushed : c.push.new.self.items ≡ c.loop-index.ranges.items ++ c.in-Some.range ∷ [] = grind (arith, common_steps, c.push.ensures.items, c.if-is_err.ensures.value) in
    record {
      long = pushed_long c.loop-index.ranges.items c.push.new.self.items i c.in-Some.range c.loop-index.invariant.long pushed;
      each = pushed_each (λ k (r : Range). (xs : List ℕ) → AreIn c.args.numbers.now (numbers_of N.network xs) → IsIn r (round N.network.arcs (numbers_of N.network xs) (get_or N.walks k no_path))) c.loop-index.ranges.items c.push.new.self.items i c.in-Some.range c.loop-index.invariant.long pushed c.loop-index.invariant.each c.in-Some.ensures.inside;
      narrow = pushed_each (λ k (r : Range). (walk : Path) → walk ≡ get_or N.walks k no_path → walk.from ≡ walk.to → width r ≤ widths c.args.numbers.now walk.steps) c.loop-index.ranges.items c.push.new.self.items i c.in-Some.range c.loop-index.invariant.long pushed c.loop-index.invariant.narrow c.in-Some.ensures.closed;
    }

pub returns-clause-narrow : goal.returns-clause-narrow
returns-clause-narrow c k h walk is closed =
    c.loop-index.invariant.narrow k (omega (arith, h, ap (λ (ps : List Path). length ps) c.walks-count.ensures.value)) walk is closed
