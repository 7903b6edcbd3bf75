-- What the search of a part has found.
use Rattle.std.proofs.Common.{◌≡◌, ◌==◌, ◌≤◌, sym, subst, ◌∙◌, rules, arith}
use Rattle.pesp_search_network.specs.Arcs.{Arcs}
use Rattle.pesp_search_network.specs.Weights.{AreAlike}
use Rattle.pesp_search_network.proofs.Weights.{weighed_alike}
use Rattle.pesp_search_cycles.specs.Starts.{IsFound, part_of}
use Rattle.pesp_search_cycles.proofs.Alike.{IsAlike}
use Rattle.pesp_search_cycles.proofs.Parted.{alike_of, found_of}
use Rattle.pesp_search_cycles.proofs.starts.found_in.Goals as goal

pub over-requires-clause-alike : goal.over-requires-clause-alike
over-requires-clause-alike c =
    let W = c.args.site.now.cycles.now.network in
    let labels = c.args.part.parts.now.arcs.items in
    let same : c.in_ok-network.network ≡ part_of W labels c.args.part.name = search rules in
    subst (λ (A : Arcs). AreAlike A.arcs W.arcs) (sym same) (weighed_alike (λ p. p == c.args.part.name) labels W.arcs)

pub returns-clause-found : goal.returns-clause-found
returns-clause-found c =
    let N = c.args.site.now.cycles.now in
    let W = N.network in
    let R = c.args.site.now.residues.now in
    let labels = c.args.part.parts.now.arcs.items in
    let M = c.in_ok-cycles.cycles in
    let leaves = c.in_ok-leaves.leaves in
    let part : c.in_ok-network.network ≡ part_of W labels c.args.part.name = search rules in
    let same : M.network ≡ part_of W labels c.args.part.name = c.in_ok-cycles.ensures.network ∙ part in
    let alike : IsAlike M.network W = subst (λ (A : Arcs). IsAlike A W) (sym same) (alike_of W labels (λ p. p == c.args.part.name)) in
    let enough : c.in-Some.cost ≤ leaves.least = omega (arith, c.if-leaves-cost.false) in
    subst (λ (A : Arcs). IsFound A N R c.in-Some.cost leaves.boxes.items) same
    (found_of N M R alike (sym c.in_ok-cycles.ensures.walks) c.in-Some.cost leaves.least leaves.boxes.items enough c.in_ok-leaves.ensures.least c.in_ok-leaves.ensures.cut c.in_ok-leaves.ensures.fit)
