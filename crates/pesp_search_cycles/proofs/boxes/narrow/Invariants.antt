-- So many ranges are narrowed.
use Rattle.pesp_search_cycles.proofs.Narrowed.{IsUpTo}
use Rattle.pesp_search_cycles.proofs.boxes.narrow.Given as goal

abbrev pub invariant-loop-index : goal.invariant-loop-index
invariant-loop-index l = IsUpTo l.initial.ranges l.others l.index l.ranges
