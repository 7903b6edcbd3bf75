-- Each arc so far has its slack.
use Rattle.std.proofs.Common.{◌≡◌, map, take}
use Rattle.pesp_search_cycles.specs.Maps.{slack_at}
use Rattle.pesp_search_cycles.proofs.admitted.slacks.Given as goal

abbrev pub invariant-loop-index : goal.invariant-loop-index
invariant-loop-index l = l.slacks.items ≡ map (slack_at l.period l.map) (take l.index l.arcs)
