-- What moves out of the counts or into them, and how the counts go with it.
use Rattle.std.specs.Prelude.{◌≡◌, ℕ, ◌+◌, ◌<◌, ◌≤◌, Bool, true, false, ◌==◌, nat_lt, cond, IsTrue, ⊤, List, Option, length, sum_by}
use Rattle.pesp_domains.specs.Sweeps.{Pairs}
use Rattle.pesp_counts_supports.specs.declared.moving.Moved.{Moved}
use Rattle.pesp_counts_supports.specs.declared.moving.Moved.TheVariants.{One, Block}
use Rattle.pesp_counts_supports.specs.declared.moving.Way.{Way}
use Rattle.pesp_counts_supports.specs.declared.moving.Way.TheVariants.{Out, In}
use Rattle.pesp_counts_supports.specs.declared.trail.Placed.{Placed}
use Rattle.pesp_counts_arcs.specs.declared.end.End.{End}
use Rattle.pesp_counts_arcs.specs.Ends.{end_at, ends_of, passes}
use Rattle.pesp_counts_arcs.specs.Links.{Links}
use Rattle.pesp_counts_supports.specs.Blocks.{AreSums, come_at, gone_at, joined_block}
use Rattle.pesp_counts_supports.specs.Counts.{count_at, supporters}
use Rattle.pesp_counts_supports.specs.Restored.{AreExactBut}
use Rattle.pesp_counts_supports.specs.Supports.{Supports}

-- ---- what moves

-- where it is one residue, that is below the period
abbrev pub IsOne : ℕ → Moved → Type 0
IsOne period (One residue) = residue < period
IsOne period Block = ⊤

-- the residues that move are the one, or those of a block, and the sums are of them
abbrev pub IsMoved : ℕ → Moved → List ℕ → (ℕ → Bool) → Type 0
IsMoved period (One residue) sums moves = (residue < period) × ((r : ℕ) → moves r ≡ (r == residue)) × AreSums period moves sums
IsMoved period Block sums moves = AreSums period moves sums

-- of a place one residue leaves, or all that the counts have seen and the rows do not hold
abbrev pub leaves_of : Supports → ℕ → Moved → ℕ → Bool
leaves_of s p (One residue) r = r == residue
leaves_of s p Block r = gone_at s p r

-- to a place one residue comes, or all that the rows hold and the counts have not seen
abbrev pub comes_of : Supports → ℕ → Moved → ℕ → Bool
comes_of s p (One residue) r = r == residue
comes_of s p Block r = come_at s p r

-- what waits at a place to leave it, or to come
abbrev pub waiting_at : Way → Supports → ℕ → ℕ → Bool
waiting_at Out = gone_at
waiting_at In = come_at

-- the one residue or all that wait, either way
abbrev pub moves_of : Way → Supports → ℕ → Moved → ℕ → Bool
moves_of Out = leaves_of
moves_of In = comes_of

-- which residues the counts see anew: the one, or all
abbrev pub is_leveled : ℕ → Moved → ℕ → Bool
is_leveled period (One residue) r = r == residue
is_leveled period Block r = nat_lt r period

-- whether a residue at the other event of an end goes with the one that moves, or with some that may
abbrev pub is_touched : ℕ → Moved → End → ℕ → Bool
is_touched period (One residue) end r = passes period end residue r
is_touched period Block end r = true

-- ---- how counts go with it

-- how many partners a residue at the far end of an activity has among those that move at the near one
abbrev pub partners : ℕ → List End → ℕ → (ℕ → Bool) → ℕ → ℕ
partners period ends near moves r = supporters period moves (passes period (end_at ends (end_at ends near).mate) r)

-- a count can move by so many
abbrev pub CanShift : ℕ → Way → ℕ → ℕ → Type 0
CanShift period Out many count = (many ≤ count) × (count ≤ period)
CanShift period In many count = count + many ≤ period

-- it did
abbrev pub IsShifted : Way → ℕ → ℕ → ℕ → Type 0
IsShifted Out many before after = after + many ≡ before
IsShifted In many before after = after ≡ before + many

-- each count at the far end can move by its partners among those that move
abbrev pub CanMove : Way → ℕ → List End → ℕ → (ℕ → Bool) → List ℕ → Type 0
CanMove way period ends near moves counts =
    (r : ℕ) → r < period → CanShift period way (partners period ends near moves r) (count_at period counts (end_at ends near).mate r)

-- each count at the far end moves so, and no other count changes
abbrev pub MovesBy : Way → ℕ → List End → ℕ → (ℕ → Bool) → List ℕ → List ℕ → Type 0
MovesBy way period ends near moves before after =
    (k r : ℕ) → r < period → IsShifted way (cond (k == (end_at ends near).mate) (partners period ends near moves r) 0) (count_at period before k r) (count_at period after k r)

-- nothing but counts and probes changes: there are as many counts, and no fewer probes
pub record OnlyCounts (before after : Supports) : Type 0 where
  pub same : after ≡ record before { counts = after.counts; probes = after.probes }
  pub long : length after.counts ≡ length before.counts
  pub counts_on : before.probes ≤ after.probes

-- ---- from one set to another

-- a set has what another has, and at a place the residues that move, which that one lacks
pub record IsJoined (less : Pairs) (place : ℕ) (moves : ℕ → Bool) (more : Pairs) : Type 0 where
  pub apart : (r : ℕ) → IsTrue (moves r) → less place r ≡ false
  pub joined : (p r : ℕ) → more p r ≡ joined_block less place moves p r

-- residues go out of a set, or into it
abbrev pub Goes : Way → Pairs → ℕ → (ℕ → Bool) → Pairs → Type 0
Goes Out from place moves to = IsJoined to place moves from
Goes In from place moves to = IsJoined from place moves to

-- what moves at a place takes the one set, of which the counts are, to the other
pub record Moves (links : Links) (spared : Option ℕ) (s : Supports) (place : ℕ) (what : Moved) (way : Way) (from : Pairs) (moves : ℕ → Bool) (to : Pairs) : Type 0 where
  pub exact : AreExactBut links spared s from
  pub moved : IsMoved s.period what s.sums moves
  pub goes : Goes way from place moves to

-- ---- what is owed

-- how many ends there are at the places of those of these pairs that are in the set
abbrev pub owed : Links → Pairs → List Placed → ℕ
owed links S pairs = sum_by (λ x. cond (S x.place x.residue) (length (ends_of links.lists x.place)) 0) pairs
