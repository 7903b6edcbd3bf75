-- The widest so far is one of the ranges.
use Rattle.std.proofs.Common.{◌<◌, IfSome, length, get_or}
use Rattle.pesp_search_cycles.specs.Ranges.{IsHalved, no_range}
use Rattle.pesp_search_cycles.proofs.cut.widest.Given as goal

abbrev pub invariant-loop-index : goal.invariant-loop-index
invariant-loop-index l =
    IfSome l.widest (λ cut. (cut.index < length l.ranges) × IsHalved l.step (get_or l.ranges cut.index no_range) cut.halves)
