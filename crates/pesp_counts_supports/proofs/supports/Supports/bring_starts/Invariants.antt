-- The places before this one are open.
use Rattle.std.proofs.Common.{◌+◌, ◌≤◌, length, take}
use Rattle.pesp_counts_supports.specs.Restored.{IsBrought, of_starts}
use Rattle.pesp_counts_supports.proofs.supports.Supports.bring_starts.Given as goal

abbrev pub invariant-loop-place : goal.invariant-loop-place
invariant-loop-place l =
    record {
      brought : IsBrought (of_starts l.instance l.links (take l.place-index l.starts)) l.fn.self l.self l.fn.back l.back;
      probes : l.self.probes + length l.fn.back.items ≤ l.fn.self.probes + length l.back.items;
    }
