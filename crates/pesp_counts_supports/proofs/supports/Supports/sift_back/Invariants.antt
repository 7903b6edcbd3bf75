-- Of the pairs so far those with a partner at each end are left.
use Rattle.std.proofs.Common.{◌+◌, ◌≤◌, take, drop}
use Rattle.pesp_counts_supports.specs.Supports.{IsTaken, Keeps}
use Rattle.pesp_counts_supports.specs.Spent.{ends_at}
use Rattle.pesp_counts_supports.proofs.PutBack.{Sifts}
use Rattle.pesp_counts_supports.proofs.supports.Supports.sift_back.Given as goal

abbrev pub invariant-loop-pair : goal.invariant-loop-pair
invariant-loop-pair l =
    record {
      rows : Sifts l.fn.links l.fn.self (take l.pair-index l.fn.back) l.self.rows;
      taken : IsTaken l.fn.self l.self;
      keeps : Keeps l.fn.self l.self;
      counts_on : l.fn.self.probes ≤ l.self.probes;
      probes : l.self.probes + ends_at l.fn.links (drop l.pair-index l.fn.back) ≤ l.fn.self.probes + ends_at l.fn.links l.fn.back;
    }
