-- The arcs before this one are met, at this cost.
use Rattle.std.proofs.Common.{◌≡◌, ◌≤◌, ◌*◌, All, IsTrue, sum_by, take}
use Rattle.pesp_search_network.specs.Arcs.{cost_in, meets}
use Rattle.pesp_search_network.proofs.network.Network.cost_in_rows.Given as goal

abbrev pub invariant-loop-index : goal.invariant-loop-index
invariant-loop-index l = record {
  met : All (λ a. IsTrue (meets l.self.period l.map a)) (take l.index l.self.arcs);
  cost : l.cost ≡ sum_by (cost_in l.self.period l.map) (take l.index l.self.arcs);
  small : l.cost ≤ 1439000000000 * l.index;
}
