-- So many walks are copied.
use Rattle.std.proofs.Common.{◌≡◌, take}
use Rattle.pesp_search_cycles.proofs.walk.copied.Given as goal

abbrev pub invariant-loop-index : goal.invariant-loop-index
invariant-loop-index l = l.copy.items ≡ take l.index l.walks
