-- The pairs so far are listed.
use Rattle.std.proofs.Common.{◌≡◌, map, take, vec_capacity}
use Rattle.pesp_counts.specs.Restores.{numbered_pair}
use Rattle.pesp_counts.proofs.keeper.told.number_pairs.Given as goal

abbrev pub invariant-loop-placed : goal.invariant-loop-placed
invariant-loop-placed l =
    record {
      pairs : l.restored.items ≡ map (numbered_pair l.fn.links) (take l.placed-index l.fn.back);
      capacity : vec_capacity l.restored ≡ vec_capacity l.fn.restored;
    }
