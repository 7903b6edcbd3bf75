-- The arcs before this one are weighed.
use Rattle.std.proofs.Common.{◌≡◌, ◌==◌, take}
use Rattle.pesp_search_network.specs.Weights.{weighed}
use Rattle.pesp_search_network.proofs.network.arcs_of_part.Given as goal

abbrev pub invariant-loop-index : goal.invariant-loop-index
invariant-loop-index l = l.of_part.items ≡ weighed (λ p. p == l.part) (take l.index l.parts) (take l.index l.arcs)
