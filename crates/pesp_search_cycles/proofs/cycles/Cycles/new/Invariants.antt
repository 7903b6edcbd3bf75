-- Each walk so far leads from its first event to its last.
use Rattle.std.proofs.Common.{All, IsTrue}
use Rattle.pesp_search_cycles.specs.Walks.{joins}
use Rattle.pesp_search_cycles.proofs.cycles.Cycles.new.Given as goal

abbrev pub invariant-loop-walk : goal.invariant-loop-walk
invariant-loop-walk l = All (λ p. IsTrue (joins l.network.events l.network.arcs p)) l.joined.items
