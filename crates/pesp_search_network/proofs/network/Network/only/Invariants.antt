-- An earlier residue at which the event may stand is the one that is kept.
use Rattle.std.proofs.Common.{◌≡◌, ℕ, ◌<◌, IfSome, IsTrue, Some}
use Rattle.pesp_search_network.specs.Arcs.{has}
use Rattle.pesp_search_network.proofs.network.Network.only.Given as goal

abbrev pub invariant-loop-residue : goal.invariant-loop-residue
invariant-loop-residue l = record {
  held : (s : ℕ) → s < l.residue → IsTrue (has l.self l.event s) → l.only ≡ Some s;
  below : IfSome l.only (λ r. r < l.residue);
}
