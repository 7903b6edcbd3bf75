-- The numbers, and then the times of the walks.
use Rattle.std.proofs.Common.{List, sym, subst}
use Rattle.pesp_search_network.specs.Arcs.{Arcs, IsMet}
use Rattle.pesp_search_cycles.specs.declared.range.Range.{Range}
use Rattle.pesp_search_cycles.specs.Maps.{numbers_of}
use Rattle.pesp_search_cycles.specs.Ranges.{AreIn}
use Rattle.pesp_search_cycles.specs.Walks.{AreNarrow}
use Rattle.pesp_search_cycles.proofs.root.root.Goals as goal

pub returns-clause-inside : goal.returns-clause-inside
returns-clause-inside c xs met residues =
    let A = c.args.cycles.now.network in
    let met_here : IsMet c.network.result.now xs = subst (λ (n : Arcs). IsMet n xs) (sym c.network.ensures) met in
    let numbers : AreIn c.in_ok-numbers.numbers.items (numbers_of A xs) =
    subst (λ (n : Arcs). AreIn c.in_ok-numbers.numbers.items (numbers_of n xs)) c.network.ensures (c.in_ok-numbers.ensures.inside xs met_here residues) in
    let given : AreIn c.deref.result.now (numbers_of A xs) = subst (λ (rs : List Range). AreIn rs (numbers_of A xs)) (sym c.deref.ensures.value) numbers in
    record { numbers = numbers; rounds = (rw c.in-Some.is at c.in_ok-rounds.ensures.inside) xs given }

pub returns-clause-narrow : goal.returns-clause-narrow
returns-clause-narrow c =
    subst (λ (numbers : List Range). AreNarrow c.in-Some.rounds.items numbers c.args.cycles.now.walks) c.deref.ensures.value (rw c.in-Some.is at c.in_ok-rounds.ensures.narrow)
