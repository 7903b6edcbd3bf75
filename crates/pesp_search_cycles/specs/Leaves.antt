-- What becomes of a node where all maps below a cap are to be kept.
use Rattle.std.specs.Prelude.{◌≡◌, ℕ, ◌<◌}
use Rattle.pesp_search_least.specs.Sums.{AreHalves, IsLowerBound, Sums}
use Rattle.pesp_search_cycles.specs.declared.open.Next.{Next}
use Rattle.pesp_search_cycles.specs.declared.open.Next.TheVariants.{Nothing, Leaf, Halves}
use Rattle.pesp_search_cycles.specs.declared.node.Node.{Node}
use Rattle.pesp_search_cycles.specs.Maps.{IsSummed}
use Rattle.pesp_search_cycles.specs.Splits.{size}

-- the maps of a node
abbrev pub sums_of : Node → Sums
sums_of n = IsSummed n.cycles.now n.boxes

-- no map of it is below the cap; or it has the same maps as before; or its maps are in two halves of a lesser size
abbrev pub IsNext : ℕ → Node → Node → Next → Type 0
IsNext cap old new Nothing = IsLowerBound (IsSummed old.cycles.now old.boxes) cap
IsNext cap old new Leaf = new.boxes ≡ old.boxes
IsNext cap old new (Halves other) =
    (size new.boxes < size old.boxes) × (size other.boxes < size old.boxes) × (other.cycles ≡ old.cycles)
    × AreHalves (IsSummed old.cycles.now old.boxes) (IsSummed new.cycles.now new.boxes) (IsSummed other.cycles.now other.boxes)
