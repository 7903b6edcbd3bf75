-- A network in two: a piece that is solved apart, and the rest.
use Rattle.std.specs.Prelude.{◌≡◌, ℕ, ◌+◌, ◌-◌, ◌%◌, ◌<◌, ◌⊎◌, ⊤, Bool, true, false, not, ◌||◌, IsTrue, Option, Some, None, List, All, filter, length, slice_index, slice_index_or}
use Rattle.pesp_search_network.specs.Arcs.{Arcs, IsBetween, has}
use Rattle.pesp_search_network.specs.Only.{IsOnly}
use Rattle.pesp_search_graph.specs.declared.arc.Arc.{Arc}

-- whether the event is in the piece
abbrev pub is_inner : List Bool → ℕ → Bool
is_inner inner v = slice_index_or inner v false

-- whether the arc has an end in the piece
abbrev pub touches : List Bool → Arc → Bool
touches inner a = is_inner inner a.from || is_inner inner a.to

-- whether the arc is one of the piece, or else one of the rest
abbrev pub is_of : List Bool → Bool → Arc → Bool
is_of inner true a = touches inner a
is_of inner false a = not (touches inner a)

-- ---- where a network may be cut

-- the event has one residue alone
abbrev pub IsFixed : Arcs → ℕ → Type 0
IsFixed N v = (r : ℕ) × IsOnly N v r

-- the event may stand at every residue
abbrev pub IsFree : Arcs → ℕ → Type 0
IsFree N v = (r : ℕ) → r < N.period → IsTrue (has N v r)

-- where an arc of the piece may end: in the piece, or at its joint, or, where it has no joint, at an event that has one residue alone
abbrev pub IsEnd : Arcs → List Bool → Option ℕ → ℕ → Type 0
IsEnd N inner None v = IsTrue (is_inner inner v) ⊎ IsFixed N v
IsEnd N inner (Some c) v = IsTrue (is_inner inner v) ⊎ (v ≡ c)

-- both ends of the arc are such ends, if it is one of the piece
pub record StaysIn (N : Arcs) (inner : List Bool) (joint : Option ℕ) (a : Arc) : Type 0 where
  pub between : IsBetween N.events a
  pub from : IsTrue (touches inner a) → IsEnd N inner joint a.from
  pub to : IsTrue (touches inner a) → IsEnd N inner joint a.to

-- the joint is an event outside, and the events of the piece may stand everywhere
pub record IsJoint (N : Arcs) (inner : List Bool) (c : ℕ) : Type 0 where
  pub there : c < N.events
  pub outside : is_inner inner c ≡ false
  pub free : (v : ℕ) → v < N.events → IsTrue (is_inner inner v) → IsFree N v

abbrev pub MayTurn : Arcs → List Bool → Option ℕ → Type 0
MayTurn N inner None = ⊤
MayTurn N inner (Some c) = IsJoint N inner c

-- what such a piece costs does not depend on the rest
pub record IsPiece (N : Arcs) (inner : List Bool) (joint : Option ℕ) : Type 0 where
  pub turns : MayTurn N inner joint
  pub ends : All (StaysIn N inner joint) N.arcs

-- ---- the two networks

-- the rows of events on this side are as they were; others may have lost residues, and have one yet where they had one
pub record IsThinned (inner : List Bool) (side : Bool) (N M : Arcs) : Type 0 where
  pub period : M.period ≡ N.period
  pub events : M.events ≡ N.events
  pub arcs : M.arcs ≡ N.arcs
  pub kept : (v r : ℕ) → r < N.period → is_inner inner v ≡ side → has M v r ≡ has N v r
  pub fewer : (v r : ℕ) → r < N.period → IsTrue (has M v r) → IsTrue (has N v r)
  pub some : (v r : ℕ) → r < N.period → IsTrue (has N v r) → (q : ℕ) × (q < N.period) × IsTrue (has M v q)

-- the same with the arcs of this side alone
abbrev pub IsShare : List Bool → Bool → Arcs → Arcs → Type 0
IsShare inner side N M = IsThinned inner side (record N { arcs = filter (is_of inner side) N.arcs }) M

-- a piece is peeled off a network, and the rest is left
pub record IsPeeled (N P R : Arcs) (inner : List Bool) (joint : Option ℕ) : Type 0 where
  pub piece : IsPiece N inner joint
  pub inside : IsShare inner true N P
  pub outside : IsShare inner false N R

-- ---- maps

-- how far s is ahead of r, round the period
abbrev pub difference : ℕ → ℕ → ℕ → ℕ
difference T r s = (s + (T - r % T)) % T

-- how far a map of the piece is turned, so that both maps agree at the joint
abbrev pub turn_of : ℕ → Option ℕ → List ℕ → List ℕ → ℕ
turn_of T None inside outside = 0
turn_of T (Some c) inside outside = difference T (slice_index inside c) (slice_index outside c)

-- the events of the piece have the residues of its map, turned, and the others have those of the other map
pub record IsJoined (T : ℕ) (inner : List Bool) (turn : ℕ) (inside outside map : List ℕ) : Type 0 where
  pub long : length map ≡ length outside
  pub turned : (v : ℕ) → v < length outside → IsTrue (is_inner inner v) → slice_index map v ≡ (slice_index inside v + turn) % T
  pub stays : (v : ℕ) → v < length outside → is_inner inner v ≡ false → slice_index map v ≡ slice_index outside v
