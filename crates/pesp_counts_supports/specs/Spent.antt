-- What is spent by place.
use Rattle.std.specs.Prelude.{ℕ, zero, suc, ◌+◌, ◌-◌, cond, List, Option, length, sum_by}
use Rattle.pesp_counts_arcs.specs.declared.end.End.{End}
use Rattle.pesp_counts_arcs.specs.declared.end.Ranges.{Ranges}
use Rattle.pesp_counts_supports.specs.declared.trail.Placed.{Placed}
use Rattle.pesp_counts_arcs.specs.Ends.{ends_of}
use Rattle.pesp_counts_arcs.specs.Links.{Links}
use Rattle.pesp_counts_supports.specs.Blocks.{is_met_by}

-- the greatest number of probes that is told
abbrev pub most_probes : ℕ
most_probes = 18446744073709551615

-- how many ends there are at the places of these pairs
abbrev pub ends_at : Links → List Placed → ℕ
ends_at links pairs = sum_by (λ x. length (ends_of links.lists x.place)) pairs

-- how many of so many residues from one on do not meet what moved, as an end sees it
abbrev pub unmet : List ℕ → Option End → ℕ → ℕ → ℕ
unmet sums met low zero = 0
unmet sums met low (suc n) = unmet sums met low n + cond (is_met_by sums met (low + n)) 0 1

-- how many of the residues of two ranges do not
abbrev pub unmet_in : List ℕ → Option End → Ranges → ℕ
unmet_in sums met w = unmet sums met w.start (w.end - w.start) + unmet sums met 0 w.wrapped
