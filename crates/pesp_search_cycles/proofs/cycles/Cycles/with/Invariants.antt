-- The walks so far begin with those before, and each leads from its first event to its last.
use Rattle.std.proofs.Common.{◌≡◌, ◌++◌, All, IsTrue, List}
use Rattle.pesp_search_cycles.specs.Walks.{Path, joins}
use Rattle.pesp_search_cycles.proofs.cycles.Cycles.with.Given as goal

abbrev pub invariant-loop-index : goal.invariant-loop-index
invariant-loop-index l = record {
  joined : All (λ p. IsTrue (joins l.network.events l.network.arcs p)) l.walks.items;
  begun : (others : List Path) × (l.walks.items ≡ l.self.walks ++ others);
}
