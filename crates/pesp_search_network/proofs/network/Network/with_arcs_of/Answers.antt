-- What holds of all arcs holds of some.
use Rattle.std.proofs.Common.{◌≡◌, Bool, List, filter, length, sym, subst, ap, ◌∙◌, arith, rules}
use Rattle.std.proofs.lemmas.List.Elements.{All-filter, All-same}
use Rattle.std.proofs.lemmas.List.Sums.{length-filter, count_by-le-length}
use Rattle.pesp_search_network.specs.Arcs.{AreArcs, Arcs, IsBetween}
use Rattle.pesp_search_network.specs.Pieces.{is_of}
use Rattle.pesp_search_graph.specs.declared.arc.Arc.{Arc}
use Rattle.pesp_search_network.proofs.network.Network.with_arcs_of.Goals as goal

some_arcs : (N : Arcs) (p : Arc → Bool) (arcs : List Arc) (rows : List Bool) → AreArcs N → arcs ≡ filter p N.arcs → length rows ≡ length N.rows
    → AreArcs (record { period = N.period; events = N.events; arcs = arcs; rows = rows })
some_arcs N p arcs rows are is same = record {
  some = are.some;
  short = are.short;
  few = are.few;
  ends = All-same (IsBetween N.events) arcs (filter p N.arcs) is (All-filter p (IsBetween N.events) N.arcs are.ends);
  count = omega (arith, ap length is, length-filter p N.arcs, count_by-le-length p N.arcs, are.count);
  rows = same ∙ are.rows;
}

pub invariant_of-result : goal.invariant_of-result
invariant_of-result c =
    let inside = c.self.inside in
    let p = is_of c.args.cut.now.inner.items c.args.side in
    let told = subst (λ (N : Arcs). c.in_ok-arcs.arcs.items ≡ filter p N.arcs) (sym c.self.view_is) c.in_ok-arcs.ensures in
    let long : length c.in-Ok.rows.items ≡ length inside.rows.items = search rules in
    some_arcs (record { period = inside.period; events = inside.events; arcs = inside.arcs.items; rows = inside.rows.items }) p c.in_ok-arcs.arcs.items c.in-Ok.rows.items c.self.invariant told long
