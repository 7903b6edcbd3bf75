-- One arc more is moved.
use Rattle.std.proofs.Common.{◌+◌, ◌<◌, ◌++◌, ◌∷◌, [], List, length, ap, ◌∙◌, arith}
use Rattle.std.proofs.lemmas.List.{length_push}
use Rattle.pesp_search_network.specs.Arcs.{Arcs}
use Rattle.pesp_search_network.specs.Shifts.{lifted}
use Rattle.pesp_search_network.specs.declared.presolve.shift.Shift.{Shift}
use Rattle.pesp_search_network.proofs.Exchanged.{exchanged_more}
use Rattle.pesp_search_network.proofs.Moved.{moved_exchanged}
use Rattle.pesp_search_network.proofs.network.Network.move_arcs.Goals as goal

pub loop-index-preserved : goal.loop-index-preserved
loop-index-preserved c =
    let N = c.args.self.now in
    let shifts : List Shift = c.args.shifts.now in
    let a = c.arc-arc.result in
    let b = c.in-Some.moved in
    let k = c.loop-index.index in
    let d : Shift = record { index = 0; offset = 0 } in
    let there : k < length N.arcs = omega (arith, c.loop-index-test.true, c.arc_count-index-end.ensures.value) in
    let from : a.from < length shifts = omega (arith, c.arc-arc.ensures.between.from, c.requires.long) in
    let to : a.to < length shifts = omega (arith, c.arc-arc.ensures.between.to, c.requires.long) in
    let is = rw c.period-period.ensures at c.in-Some.ensures in
    let M = c.loop-index.reduced in
    let added = c.in_ok-add.ensures.ok in
    rw added (record {
      exchanged = λ y. exchanged_more N.period 0 0 N.arcs (lifted N.period shifts y) M.arcs (b ∷ []) y k a there c.arc-arc.ensures.value (c.loop-index.invariant.exchanged y) (moved_exchanged N.period shifts y a b d from to is);
      count = length_push M.arcs b ∙ ap (λ n. n + 1) c.loop-index.invariant.count;
      same = ap (λ (K : Arcs). record K { arcs = M.arcs ++ b ∷ [] }) c.loop-index.invariant.same;
    })
