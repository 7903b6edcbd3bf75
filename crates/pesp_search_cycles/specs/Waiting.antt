-- Nodes that wait, apart from their cycles.
use Rattle.std.specs.Option.{ForNone, ForSome}
use Rattle.pesp_search_least.specs.Sums.{IsEmpty, IsLowerBound, Sums}
use Rattle.pesp_search_cycles.specs.declared.waiting.Waiting.{Waiting}
use Rattle.pesp_search_cycles.specs.Maps.{AreBoxes, IsSummed, Net}

-- the maps of one that waits, in these cycles
abbrev pub sums_in : Net → Waiting → Sums
sums_in N w = IsSummed N w.boxes

-- its boxes are boxes of these cycles, and its bound is one of its maps
pub record IsWaiting (N : Net) (w : Waiting) : Type 0 where
  pub fit : AreBoxes N w.boxes
  pub none : ForNone w.bound (IsEmpty (IsSummed N w.boxes))
  pub lower : ForSome w.bound (IsLowerBound (IsSummed N w.boxes))
