-- What maps of events to residues cost, and which maps boxes admit.
use Rattle.std.specs.Prelude.{◌≡◌, ℕ, ◌+◌, ◌++◌, IsTrue, List, All, length, map, slice_index}
use Rattle.pesp_base.specs.Tensions.{slack_of}
use Rattle.pesp_search_graph.specs.declared.arc.Arc.{Arc}
use Rattle.pesp_search_least.specs.Sums.{InSome}
use Rattle.pesp_search_network.specs.Arcs.{AreArcs, Arcs, IsCosted, IsMet}
use Rattle.pesp_search_cycles.specs.declared.boxes.Boxes.{Boxes}
use Rattle.pesp_search_cycles.specs.declared.flip.FlipCut.{FlipCut}
use Rattle.pesp_search_cycles.specs.declared.range.Range.{Range}
use Rattle.pesp_search_cycles.specs.Ranges.{AreIn}
use Rattle.pesp_search_cycles.specs.Terms.{IsKept}
use Rattle.pesp_search_cycles.specs.Walks.{Path, RoundsAreIn, joins}

-- the slack of an arc at a map
abbrev pub slack_at : ℕ → List ℕ → Arc → ℕ
slack_at T xs a = slack_of T a.span (slice_index xs a.from) (slice_index xs a.to)

-- the slacks of the arcs at a map
abbrev pub slacks_of : Arcs → List ℕ → List ℕ
slacks_of A xs = map (slack_at A.period xs) A.arcs

-- and then its residues
abbrev pub numbers_of : Arcs → List ℕ → List ℕ
numbers_of A xs = slacks_of A xs ++ xs

-- a cut is kept by each map that meets everything
abbrev pub Holds : Arcs → FlipCut → Type 0
Holds A cut = (xs : List ℕ) → IsMet A xs → IsKept cut (numbers_of A xs)

-- a network, walks in it, and cuts
pub record Net : Type 0 where
  pub network : Arcs
  pub walks : List Path
  pub cuts : List FlipCut

-- what holds of all of these
pub record AreCycles (N : Net) : Type 0 where
  pub arcs : AreArcs N.network
  pub joined : All (λ p. IsTrue (joins N.network.events N.network.arcs p)) N.walks
  pub kept : All (Holds N.network) N.cuts

-- its slacks and residues and the times of the walks are in the boxes
pub record IsInside (N : Net) (B : Boxes) (xs : List ℕ) : Type 0 where
  pub numbers : AreIn B.numbers.items (numbers_of N.network xs)
  pub rounds : RoundsAreIn B.rounds.items N.network.arcs (numbers_of N.network xs) N.walks

-- the cost of a map that meets everything and is in the boxes
pub record IsSummed (N : Net) (B : Boxes) (xs : List ℕ) (cost : ℕ) : Type 0 where
  pub costed : IsCosted N.network xs cost
  pub inside : IsInside N B xs

-- the cost of a map that meets everything and has its residues in these ranges
pub record IsAmong (A : Arcs) (residues : List Range) (xs : List ℕ) (cost : ℕ) : Type 0 where
  pub costed : IsCosted A xs cost
  pub inside : AreIn residues xs

-- the cost of a map that meets everything, is in the boxes, and has its residues in these ranges
abbrev pub IsHere : Net → List Range → Boxes → List ℕ → ℕ → Type 0
IsHere N residues B xs cost = IsSummed N B xs cost × AreIn residues xs

-- the cost of a map that meets everything, is in one of these boxes, and has its residues in these ranges
abbrev pub IsLeft : Net → List Range → List Boxes → List ℕ → ℕ → Type 0
IsLeft N residues leaves xs cost = InSome (IsSummed N) leaves xs cost × AreIn residues xs

-- there is a range for each number
pub record AreBoxes (N : Net) (B : Boxes) : Type 0 where
  pub numbers : length B.numbers.items ≡ length N.network.arcs + N.network.events
  pub rounds : length B.rounds.items ≡ length N.walks
