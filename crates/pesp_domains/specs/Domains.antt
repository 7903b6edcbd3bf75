-- The domains of an instance under pushed pairs: its largest mutually supported family. A pair is an event and a residue.
use Rattle.std.specs.Prelude.{◌≡◌, ℕ, ◌<◌, ◌↔◌, Bool, false, IsTrue, List, length, filter, slice_index_or}
use Rattle.std.specs.List.{Contains, range_with_len}
use Rattle.pesp_base.specs.declared.activity.Activity.{Activity}
use Rattle.pesp_base.specs.Tensions.{IsMet}
use Rattle.pesp_instance.specs.Network.{Network, admits, has_event}
use Rattle.pesp_domains.specs.declared.pair.Pair.{Pair}
use Rattle.pesp_domains.specs.declared.side.Side.{Side}
use Rattle.pesp_domains.specs.declared.side.Side.TheVariants.{Tail, Head}

-- the list has the pair
abbrev pub In : List Pair → ℕ → ℕ → Type 0
In pairs e r = Contains pairs (record { event = e; residue = r })

-- the event at this end of the activity, and the one at the other
abbrev pub own : Side → Activity → ℕ
own Tail a = a.from
own Head a = a.to

abbrev pub other : Side → Activity → ℕ
other Tail a = a.to
other Head a = a.from

-- the activity is met by residue r at this end and s at the other
abbrev pub Joins : Side → ℕ → Activity → ℕ → ℕ → Type 0
Joins Tail period a r s = IsMet period a.span r s
Joins Head period a r s = IsMet period a.span s r

-- the pair is of the instance, its event admits the residue, and a pushed residue of its event is this one
pub record IsAdmitted (I : Network) (pushes : List Pair) (e r : ℕ) : Type 0 where
  pub of_event : IsTrue (has_event I e)
  pub below : r < I.period
  pub window : IsTrue (admits I e r)
  pub pushed : (s : ℕ) → In pushes e s → s ≡ r

-- the pair at this end of the activity has a partner in S along it
abbrev pub HasPartner : ℕ → (ℕ → ℕ → Type 0) → Side → Activity → ℕ → Type 0
HasPartner period S side a r = (s : ℕ) × S (other side a) s × Joins side period a r s

-- the pair is admitted, and has a partner in S along each activity at each end that is its event
pub record Stands (I : Network) (pushes : List Pair) (S : ℕ → ℕ → Type 0) (e r : ℕ) : Type 0 where
  pub admitted : IsAdmitted I pushes e r
  pub partner : (side : Side) (a : Activity) → Contains I.activities a → own side a ≡ e → HasPartner I.period S side a r

-- each pair of the family stands by the family itself
pub record IsSupported (I : Network) (pushes : List Pair) (family : List Pair) : Type 0 where
  pub each : (e r : ℕ) → In family e r → Stands I pushes (In family) e r

-- some mutually supported family has the pair
pub record InDomains (I : Network) (pushes : List Pair) (e r : ℕ) : Type 0 where
  pub family : List Pair
  pub supported : IsSupported I pushes family
  pub member : In family e r

-- whether a row, which has a test for each residue below the period, holds the residue
abbrev pub holds : List Bool → ℕ → Bool
holds row r = slice_index_or row r false

-- the residues of a row, ascending
abbrev pub residues : List Bool → List ℕ
residues row = filter (holds row) (range_with_len 0 (length row))

-- the row is the event's domain
pub record IsDomain (I : Network) (pushes : List Pair) (e : ℕ) (row : List Bool) : Type 0 where
  pub long : length row ≡ I.period
  pub exact : (r : ℕ) → IsTrue (holds row r) ↔ InDomains I pushes e r
