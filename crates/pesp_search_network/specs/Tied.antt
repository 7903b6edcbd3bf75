-- Events that go with others at each map that meets everything.
use Rattle.std.specs.Prelude.{◌≡◌, ℕ, ◌+◌, ◌*◌, ◌%◌, ◌<◌, ◌≤◌, ◌⊎◌, ⊤, IsTrue, List, [], ◌∷◌, length, slice_index, slice_index_or}
use Rattle.pesp_search_network.specs.Arcs.{Arcs, IsMet, has}
use Rattle.pesp_search_network.specs.Prices.{AreExchanged}
use Rattle.pesp_search_network.specs.Shifts.{lifted}
use Rattle.pesp_search_network.specs.declared.presolve.shift.Shift.{Shift}
use Rattle.pesp_search_graph.specs.declared.arc.Arc.{Arc}
use Rattle.pesp_base.specs.Tensions.{is_met, slack_of}

-- the event has the residue of one that is not after it, and so much more
pub record IsTied (N : Arcs) (event : ℕ) (tie : Shift) : Type 0 where
  pub before : tie.index ≤ event
  pub tied : (of_map : List ℕ) → IsMet N of_map → slice_index of_map event ≡ (slice_index of_map tie.index + tie.offset) % N.period

-- each event goes with itself
pub record AreUntied (events : ℕ) (ties : List Shift) : Type 0 where
  pub long : length ties ≡ events
  pub each : (event : ℕ) (d : Shift) → event < events → slice_index_or ties event d ≡ record { index = event; offset = 0 }

-- each event is tied
pub record AreTied (N : Arcs) (ties : List Shift) : Type 0 where
  pub long : length ties ≡ N.events
  pub each : (event : ℕ) (d : Shift) → event < N.events → IsTied N event (slice_index_or ties event d)

-- each of the first events goes with one of the leaders
pub record AreLed (N : Arcs) (count : ℕ) (leaders : List ℕ) (shifts : List Shift) : Type 0 where
  pub long : length shifts ≡ count
  pub few : length leaders ≤ count
  pub within : (event : ℕ) (d : Shift) → event < count → (slice_index_or shifts event d).index < length leaders
  pub tied : (event : ℕ) (d : Shift) (of_map : List ℕ) → event < count → IsMet N of_map
      → slice_index of_map event ≡ (slice_index of_map (slice_index leaders (slice_index_or shifts event d).index) + (slice_index_or shifts event d).offset) % N.period

-- each event goes with one that another went with before, or with the next one, and no later
abbrev pub AreAscending : ℕ → List Shift → Type 0
AreAscending seen [] = ⊤
AreAscending seen (s ∷ shifts) = ((s.index < seen) × AreAscending seen shifts) ⊎ ((s.index ≡ seen) × (s.offset ≡ 0) × AreAscending (seen + 1) shifts)

-- the residue of an event at a map of the reduced network
abbrev pub shifted : ℕ → List Shift → List ℕ → ℕ → Shift → ℕ
shifted T shifts reduced event d = (slice_index reduced (slice_index_or shifts event d).index + (slice_index_or shifts event d).offset) % T

-- of the residues below this one the event of the reduced network has those alone at which the event may stand that goes with it
pub record IsHeldTo (N : Arcs) (event : ℕ) (shift : Shift) (limit : ℕ) (old new : Arcs) : Type 0 where
  pub period : new.period ≡ old.period
  pub events : new.events ≡ old.events
  pub arcs : new.arcs ≡ old.arcs
  pub fewer : (v r : ℕ) → r < old.period → IsTrue (has new v r) → IsTrue (has old v r) × (v ≡ shift.index → r < limit → IsTrue (has N event ((r + shift.offset) % N.period)))
  pub kept : (v r : ℕ) → r < old.period → IsTrue (has old v r) → (v ≡ shift.index → r < limit → IsTrue (has N event ((r + shift.offset) % N.period))) → IsTrue (has new v r)

-- a map has residues below the period
abbrev pub IsBelow : ℕ → List ℕ → Type 0
IsBelow T reduced = (v : ℕ) → slice_index reduced v < T

-- a map keeps the rows of the reduced network exactly where the map that it is keeps those of the first events
pub record AreRowsHeld (N : Arcs) (shifts : List Shift) (count : ℕ) (M : Arcs) : Type 0 where
  pub fewer : (reduced : List ℕ) → IsBelow N.period reduced → ((v : ℕ) → v < M.events → IsTrue (has M v (slice_index reduced v)))
      → (event : ℕ) (d : Shift) → event < count → IsTrue (has N event (shifted N.period shifts reduced event d))
  pub kept : (reduced : List ℕ) → IsBelow N.period reduced → ((event : ℕ) (d : Shift) → event < count → IsTrue (has N event (shifted N.period shifts reduced event d)))
      → (v : ℕ) → v < M.events → IsTrue (has M v (slice_index reduced v))

-- ---- arcs

-- at maps of which the one is the other, shifted, both arcs are met or not, and cost the same
pub record IsMoved (T : ℕ) (a : Arc) (from to : Shift) (moved : Arc) : Type 0 where
  pub tail : moved.from ≡ from.index
  pub head : moved.to ≡ to.index
  pub meets : (r s : ℕ) → is_met T moved.span r s ≡ is_met T a.span ((r + from.offset) % T) ((s + to.offset) % T)
  pub costs : (r s : ℕ) → moved.weight * slack_of T moved.span r s ≡ a.weight * slack_of T a.span ((r + from.offset) % T) ((s + to.offset) % T)

-- the arcs of the reduced network are exchanged for those of the other
abbrev pub AreMoved : Arcs → List Shift → Arcs → Type 0
AreMoved N shifts M = (reduced : List ℕ) → AreExchanged N.period 0 N.arcs (lifted N.period shifts reduced) M.arcs reduced
