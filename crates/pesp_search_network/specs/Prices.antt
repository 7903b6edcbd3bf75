-- Arcs that are exchanged for others.
use Rattle.std.specs.Prelude.{◌≡◌, ℕ, ◌+◌, List, sum_by, if◌then◌else◌}
use Rattle.pesp_search_network.specs.Arcs.{cost_in, meets}
use Rattle.pesp_search_graph.specs.declared.arc.Arc.{Arc}

-- 1 for an arc that the map does not meet
abbrev pub unmet : ℕ → List ℕ → Arc → ℕ
unmet T of_map a = if meets T of_map a then 0 else 1

-- the one map meets all of the one arcs exactly where the other one meets all of the others, and then it costs so much more there
pub record AreExchanged (T fixed : ℕ) (arcs : List Arc) (of_map : List ℕ) (others : List Arc) (other : List ℕ) : Type 0 where
  pub met : sum_by (unmet T of_map) arcs ≡ 0 → sum_by (unmet T other) others ≡ 0
  pub back : sum_by (unmet T other) others ≡ 0 → sum_by (unmet T of_map) arcs ≡ 0
  pub costs : sum_by (unmet T other) others ≡ 0 → sum_by (cost_in T of_map) arcs ≡ fixed + sum_by (cost_in T other) others
