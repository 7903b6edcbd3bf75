-- What is known of an end that is listed, and of its mate.
use Rattle.std.proofs.Common.{◌≡◌, ℕ, ◌+◌, ◌*◌, ◌<◌, ◌≤◌, length}
use Rattle.std.specs.List.{Contains}
use Rattle.pesp_counts_arcs.specs.declared.end.End.{End}
use Rattle.pesp_counts_arcs.specs.Ends.{IsEndAt, end_at, ends_of}
use Rattle.pesp_counts_arcs.specs.Links.{Links}
use Rattle.pesp_counts_supports.specs.Supports.{Fit, Supports}

-- both are ends, there is a row where it looks, and there are counts for its mate
pub end_known : (links : Links) (s : Supports) → Fit links s → (p number : ℕ) → Contains (ends_of links.lists p) number → (end : End) → end ≡ end_at links.ends number
    → IsEndAt s.period links.ends links.lists p number × IsEndAt s.period links.ends links.lists end.looks_at end.mate × (end.looks_at < length s.rows) × (end.mate * s.period + s.period ≤ length s.counts)
end_known links s fit p number listed end is =
    let at = fit.linked.each p number listed in
    let other : End = end_at links.ends number in
    rw is (at, fit.linked.each other.looks_at other.mate at.mate_there, fit.rows other.looks_at other.mate at.mate_there, fit.counts other.looks_at other.mate at.mate_there)
