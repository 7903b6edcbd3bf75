-- One event more.
use Rattle.std.proofs.Common.{◌≡◌, ℕ, ◌<◌, ◌++◌, ◌∷◌, [], IsTrue, pos, get_or, ◌∙◌, arith}
use Rattle.std.proofs.lemmas.Grind.{common_steps}
use Rattle.pesp_search_network.specs.Arcs.{has}
use Rattle.pesp_search_cycles.specs.declared.range.Range.{Range}
use Rattle.pesp_search_cycles.specs.Ranges.{IsIn}
use Rattle.pesp_search_cycles.proofs.Pushed.{pushed_each, pushed_long}
use Rattle.pesp_search_cycles.proofs.residues.residue_ranges.Goals as goal

pub loop-event-preserved : goal.loop-event-preserved
loop-event-preserved c =
    let N = c.args.network.now in
    let i = c.loop-event.event in
    let pushed : c.push.new.self.items ≡ c.loop-event.ranges.items ++ c.row_range.result ∷ [] = grind (arith, common_steps, c.push.ensures.items, c.if-is_err.ensures.value) in
    record {
      long = pushed_long c.loop-event.ranges.items c.push.new.self.items i c.row_range.result c.loop-event.invariant.long pushed;
      each = pushed_each (λ k (range : Range). (r : ℕ) → r < N.period → IsTrue (has N k r) → IsIn range (pos r)) c.loop-event.ranges.items c.push.new.self.items i c.row_range.result c.loop-event.invariant.long pushed c.loop-event.invariant.each
          (λ r h is. c.row_range.ensures r (omega (arith, h, c.row.ensures.long)) (c.row.ensures.values r h ∙ is));
    }

pub returns-clause-long : goal.returns-clause-long
returns-clause-long c = omega (arith, c.loop-event.invariant.long, c.events-event-end.ensures.value)

pub returns-clause-inside : goal.returns-clause-inside
returns-clause-inside c xs met = record {
  long = omega (arith, c.loop-event.invariant.long, c.events-event-end.ensures.value, met.long);
  each = λ k h.
      let here : k < c.loop-event.event = omega (arith, h, c.events-event-end.ensures.value, met.long) in
      c.loop-event.invariant.each k here (get_or xs k 0) (met.below k 0 h) (met.rows k (omega (arith, h, met.long)));
}
