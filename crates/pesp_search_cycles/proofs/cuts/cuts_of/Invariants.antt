-- Each cut so far is kept.
use Rattle.std.proofs.Common.{All}
use Rattle.pesp_search_cycles.specs.Maps.{Holds}
use Rattle.pesp_search_cycles.proofs.cuts.cuts_of.Given as goal

abbrev pub invariant-loop-index : goal.invariant-loop-index
invariant-loop-index l = All (Holds l.cycles.network) l.cuts.items
