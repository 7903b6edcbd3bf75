-- A network of arcs between events by index, and what its maps of events to residues cost.
use Rattle.std.specs.Prelude.{◌≡◌, ℕ, ◌+◌, ◌*◌, ◌<◌, ◌≤◌, Bool, false, IsTrue, Option, Some, None, List, All, length, slice_index, slice_index_or, sum_by, if◌then◌else◌}
use Rattle.pesp_base.specs.Tensions.{is_met, slack_of}
use Rattle.pesp_search_graph.specs.declared.arc.Arc.{Arc}

-- a period, how many events there are, the arcs in their order, and for each event, for each residue, whether it is admitted
pub record Arcs : Type 0 where
  pub period : ℕ
  pub events : ℕ
  pub arcs : List Arc
  pub rows : List Bool

-- whether the row of the event has the residue
abbrev pub has : Arcs → ℕ → ℕ → Bool
has N event residue = slice_index_or N.rows (event * N.period + residue) false

-- whether the residues of its ends meet the arc
abbrev pub meets : ℕ → List ℕ → Arc → Bool
meets T map a = is_met T a.span (slice_index map a.from) (slice_index map a.to)

-- weight times slack of an arc
abbrev pub cost_in : ℕ → List ℕ → Arc → ℕ
cost_in T map a = a.weight * slack_of T a.span (slice_index map a.from) (slice_index map a.to)

-- the map gives each event a residue of its row, and meets every arc
pub record IsMet (N : Arcs) (map : List ℕ) : Type 0 where
  pub long : length map ≡ N.events
  pub below : All (λ r. r < N.period) map
  pub rows : (v : ℕ) → v < N.events → IsTrue (has N v (slice_index map v))
  pub met : All (λ a. IsTrue (meets N.period map a)) N.arcs

-- the cost of a map that meets everything; other maps have none
pub record IsCosted (N : Arcs) (map : List ℕ) (cost : ℕ) : Type 0 where
  pub met : IsMet N map
  pub costs : sum_by (cost_in N.period map) N.arcs ≡ cost

-- the map gives each event a residue of its row
pub record KeepsRows (N : Arcs) (map : List ℕ) : Type 0 where
  pub long : length map ≡ N.events
  pub below : (v : ℕ) → v < N.events → slice_index map v < N.period
  pub rows : (v : ℕ) → v < N.events → IsTrue (has N v (slice_index map v))

-- weight times slack of an arc between residues of its ends, none where they do not meet it
abbrev pub cost_met : ℕ → Arc → ℕ → ℕ → Option ℕ
cost_met T a r s = if is_met T a.span r s then Some (a.weight * slack_of T a.span r s) else None

-- the ends of an arc are events
pub record IsBetween (events : ℕ) (a : Arc) : Type 0 where
  pub from : a.from < events
  pub to : a.to < events

-- what holds of all networks
pub record AreArcs (N : Arcs) : Type 0 where
  pub some : 2 ≤ N.period
  pub short : N.period ≤ 1440
  pub few : N.events ≤ 20000
  pub ends : All (IsBetween N.events) N.arcs
  pub count : length N.arcs ≤ 100000
  pub rows : length N.rows ≡ N.events * N.period
