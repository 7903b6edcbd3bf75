-- The ends to come decide.
use Rattle.std.proofs.Common.{◌≡◌, ◌+◌, ◌≤◌, ◌==◌, ℕ, length}
use Rattle.std.specs.List.{Contains, list_any}
use Rattle.pesp_counts_arcs.specs.Ends.{ends_of}
use Rattle.pesp_counts_supports.specs.Counts.{count_at}
use Rattle.pesp_counts_supports.specs.Supports.{lacks_partner}
use Rattle.pesp_counts_supports.proofs.supports.Supports.lacks_partner.Given as goal

abbrev pub invariant-loop-end : goal.invariant-loop-end
invariant-loop-end l =
    record {
      can : (goal.iterator-loop-end).can_next l.end-iterator;
      finite : (goal.iterator-loop-end).is_finite l.end-iterator;
      listed : (k : ℕ) → Contains l.end-iterator k → Contains (ends_of l.fn.links.lists l.fn.pair.place) k;
      lacks : lacks_partner l.fn.links l.fn.self l.fn.pair.place l.fn.pair.residue ≡ list_any (λ k. count_at l.fn.self.period l.fn.self.counts k l.fn.pair.residue == 0) l.end-iterator;
      same : l.self ≡ record l.fn.self { probes = l.self.probes };
      counts_on : l.fn.self.probes ≤ l.self.probes;
      probes : l.self.probes + length l.end-iterator ≤ l.fn.self.probes + length (ends_of l.fn.links.lists l.fn.pair.place);
    }
