-- Sums over the slacks of arcs and the residues of events.
use Rattle.std.specs.Prelude.{ℕ, ◌+◌, ◌*◌, ℤ, pos, ◌+ℤ◌, ◌-ℤ◌, ◌*ℤ◌, ◌≤ℤ◌, List, [], ◌∷◌, Option, None, Some, map, max, slice_index, slice_index_or}
use Rattle.pesp_search_graph.specs.declared.arc.Arc.{Arc}
use Rattle.pesp_search_cycles.specs.declared.flip.Part.{Part}
use Rattle.pesp_search_cycles.specs.declared.flip.FlipCut.{FlipCut}
use Rattle.pesp_search_cycles.specs.declared.flip.Making.{Making}

-- each rate times the number at its place, together
abbrev pub products : List ℤ → List ℕ → ℤ
products [] ys = pos 0
products (r ∷ rs) [] = pos 0
products (r ∷ rs) (y ∷ ys) = r *ℤ pos y +ℤ products rs ys

-- a number and such products
abbrev pub value : ℤ → List ℤ → List ℕ → ℤ
value sum rates ys = sum +ℤ products rates ys

-- the scale times the weight
abbrev pub rate_of : ℕ → Arc → ℤ
rate_of scale a = pos (scale * a.weight)

-- the scale times the weight of the arc at this place, and 0 where there is none
abbrev pub rate_at : ℕ → List Arc → ℕ → ℤ
rate_at scale arcs k = slice_index_or (map (rate_of scale) arcs) k (pos 0)

-- each weight times the slack at its place, together
abbrev pub weighed : List Arc → List ℕ → ℕ
weighed [] ys = 0
weighed (a ∷ arcs) [] = 0
weighed (a ∷ arcs) (y ∷ ys) = a.weight * y + weighed arcs ys

-- the greater of two lower bounds, and none where one of them is none
abbrev pub greater : Option ℕ → Option ℕ → Option ℕ
greater None other = None
greater (Some bound) None = None
greater (Some bound) (Some other) = Some (max bound other)

-- each number as often as its term says, together
abbrev pub left : List Part → List ℕ → ℤ
left [] zs = pos 0
left (t ∷ ts) zs = t.rate *ℤ pos (slice_index zs t.number) +ℤ left ts zs

-- the terms of a cut are at least as much as it says
abbrev pub IsKept : FlipCut → List ℕ → Type 0
IsKept cut zs = cut.least ≤ℤ left cut.terms.items zs

-- what a cut is made of, at steps that take this time: they are counted at least 0 times, and at least as often as they take more than the base
pub record IsMade (period : ℕ) (rest : ℤ) (made : Making) (zs : List ℕ) (time : ℤ) : Type 0 where
  pub some : made.least ≤ℤ (left made.terms.items zs +ℤ rest *ℤ time)
  pub above : (made.least +ℤ pos period *ℤ (time -ℤ made.base)) ≤ℤ (left made.terms.items zs +ℤ rest *ℤ time)
