-- A range without a number, or a row without one in its range, leaves no map.
use Rattle.std.proofs.Common.{List, refl, sym, subst}
use Rattle.pesp_search_network.specs.Arcs.{Arcs, IsMet}
use Rattle.pesp_search_cycles.specs.declared.range.Range.{Range}
use Rattle.pesp_search_cycles.specs.Maps.{numbers_of}
use Rattle.pesp_search_cycles.specs.Ranges.{AreIn}
use Rattle.pesp_search_cycles.specs.Walks.{RoundsAreIn}
use Rattle.pesp_search_cycles.proofs.Numbered.{tail_in}
use Rattle.pesp_search_cycles.proofs.node.Node.is_empty.Goals as goal

pub returns-then-has_empty : goal.returns-then-has_empty
returns-then-has_empty c _ xs cost s =
    c.if-has_empty.ensures refl _ _
    (subst (λ (rs : List Range). AreIn rs (numbers_of c.args.self.now.cycles.now.network xs)) (sym c.deref.ensures.value) s.inside.numbers)

pub returns-then-has_empty-2 : goal.returns-then-has_empty-2
returns-then-has_empty-2 c _ xs cost s =
    let N = c.args.self.now.cycles.now in
    c.if-has_empty-2.ensures refl _ _
    (subst (λ (rs : List Range). RoundsAreIn rs N.network.arcs (numbers_of N.network xs) N.walks) (sym c.deref-2.ensures.value) s.inside.rounds)

pub returns : goal.returns
returns c is xs cost s =
    let n = c.args.self.now in
    let A : Arcs = n.cycles.now.network in
    c.has_lost_event.ensures is xs (subst (λ (B : Arcs). IsMet B xs) (sym c.network.ensures) s.costed.met)
    (subst (λ (rs : List Range). AreIn rs xs) (sym c.residues.ensures) (tail_in A n.boxes.numbers.items xs n.fit.numbers s.costed.met.long s.inside.numbers))
