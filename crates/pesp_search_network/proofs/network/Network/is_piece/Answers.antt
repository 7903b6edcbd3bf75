-- One arc more ends where it may, and after the last one all do.
use Rattle.std.proofs.Common.{◌≡◌, ◌<◌, ◌≤◌, true, All, List, length, subst, arith}
use Rattle.std.proofs.lemmas.List.{take_all}
use Rattle.std.proofs.lemmas.List.Elements.{All-more}
use Rattle.pesp_search_network.specs.Pieces.{StaysIn}
use Rattle.pesp_search_graph.specs.declared.arc.Arc.{Arc}
use Rattle.pesp_search_network.proofs.network.Network.is_piece.Goals as goal

pub loop-index-preserved : goal.loop-index-preserved
loop-index-preserved c =
    let N = c.args.self.now in
    let cut = c.args.cut.now in
    let k = c.loop-index.index in
    let within : k < length N.arcs = omega (arith, c.arc_count-index-end.ensures.value) in
    let stays : c.stays.result ≡ true = cc in
    All-more (StaysIn N cut.inner.items cut.joint) N.arcs k c.arc.result within c.loop-index.invariant
    (subst (StaysIn N cut.inner.items cut.joint) c.arc.ensures.value (c.stays.ensures stays))

pub returns : goal.returns
returns c _ =
    let N = c.args.self.now in
    let cut = c.args.cut.now in
    let all : length N.arcs ≤ c.loop-index.index = omega (arith, c.arc_count-index-end.ensures.value) in
    let turns : c.may_turn.result ≡ true = cc in
    record {
      turns = c.may_turn.ensures turns;
      ends = subst (λ (arcs : List Arc). All (StaysIn N cut.inner.items cut.joint) arcs) (take_all c.loop-index.index N.arcs all) c.loop-index.invariant;
    }
