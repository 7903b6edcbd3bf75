-- Walks along and against arcs, and the times that they take.
use Rattle.std.specs.Prelude.{◌≡◌, ◌<◌, ◌≤◌, ℕ, ℤ, pos, ◌+◌, ◌+ℤ◌, ◌-ℤ◌, neg_ℤ, Bool, ◌==◌, ◌&&◌, nat_lt, List, [], ◌∷◌, length, slice_index, slice_index_or, sum_by, if◌then◌else◌}
use Rattle.pesp_search_graph.specs.declared.arc.Arc.{Arc}
use Rattle.pesp_search_graph.specs.declared.step.Step.{Step}
use Rattle.pesp_search_cycles.specs.declared.range.Range.{Range}
use Rattle.pesp_search_cycles.specs.Ranges.{AllIn, no_range, width}

-- steps from one event to another
pub record Path : Type 0 where
  pub from : ℕ
  pub steps : List Step
  pub to : ℕ

-- what stands for a walk where there is none
abbrev pub no_path : Path
no_path = record { from = 0; steps = []; to = 0 }

-- what stands for an arc where there is none
abbrev pub no_arc : Arc
no_arc = record { from = 0; to = 0; span = record { lower = pos 0; upper = pos 0 }; weight = 0 }

abbrev pub arc_at : List Arc → ℕ → Arc
arc_at arcs index = slice_index_or arcs index no_arc

-- the events at which a step begins and ends
abbrev pub start_of : Arc → Bool → ℕ
start_of a along = if along then a.from else a.to

abbrev pub end_of : Arc → Bool → ℕ
end_of a along = if along then a.to else a.from

-- whether the steps lead from the one event to the other, each from where the one before it ends
abbrev pub leads : List Arc → ℕ → List Step → ℕ → Bool
leads arcs u [] v = u == v
leads arcs u (s ∷ ss) v =
    nat_lt s.arc (length arcs) && (start_of (arc_at arcs s.arc) s.along == u && leads arcs (end_of (arc_at arcs s.arc) s.along) ss v)

-- whether the walk leads between events, from its first one to its last
abbrev pub joins : ℕ → List Arc → Path → Bool
joins events arcs p = nat_lt p.from events && (nat_lt p.to events && leads arcs p.from p.steps p.to)

-- along or against
abbrev pub signed : Bool → ℤ → ℤ
signed along z = if along then z else neg_ℤ z

-- the time that a step takes at these numbers, which begin with the slacks: that of its arc, or less than 0 where it goes against it
abbrev pub time_of : List Arc → List ℕ → Step → ℤ
time_of arcs zs s = signed s.along ((arc_at arcs s.arc).span.lower +ℤ pos (slice_index zs s.arc))

-- the time that the steps take together
abbrev pub times : List Arc → List ℕ → List Step → ℤ
times arcs zs [] = pos 0
times arcs zs (s ∷ ss) = time_of arcs zs s +ℤ times arcs zs ss

-- how far apart the ends of the slacks' ranges are, of all steps together
abbrev pub widths : List Range → List Step → ℕ
widths ranges steps = sum_by (λ s. width (slice_index_or ranges s.arc no_range)) steps

-- the residue of an event at these numbers, of which the residues come after the slacks
abbrev pub residue : List Arc → List ℕ → ℕ → ℤ
residue arcs zs v = pos (slice_index zs (length arcs + v))

-- the residue at the first event less that at the last
abbrev pub ends : List Arc → List ℕ → Path → ℤ
ends arcs zs p = residue arcs zs p.from -ℤ residue arcs zs p.to

-- the time that the steps take, from the residue at the first event and less that at the last: a whole number of periods
abbrev pub round : List Arc → List ℕ → Path → ℤ
round arcs zs p = times arcs zs p.steps +ℤ (residue arcs zs p.from -ℤ residue arcs zs p.to)

-- each range has the time of the walk at its place, and there are as many
abbrev pub RoundsAreIn : List Range → List Arc → List ℕ → List Path → Type 0
RoundsAreIn ranges arcs zs walks = AllIn ranges (length walks) (λ k. round arcs zs (slice_index_or walks k no_path))

-- the range of each closed walk is no wider than the slacks of its steps
abbrev pub AreNarrow : List Range → List Range → List Path → Type 0
AreNarrow rounds numbers walks = (k : ℕ) → k < length walks → (walk : Path) → walk ≡ slice_index_or walks k no_path → walk.from ≡ walk.to → width (slice_index_or rounds k no_range) ≤ widths numbers walk.steps
