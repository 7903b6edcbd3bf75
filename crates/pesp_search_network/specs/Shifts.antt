-- How the maps of a network follow from those of one with fewer events.
use Rattle.std.specs.Prelude.{ℕ, ◌+◌, ◌%◌, List, map, slice_index}
use Rattle.pesp_search_network.specs.declared.presolve.shift.Shift.{Shift}

-- each event has the residue of the event that it goes with, and so much more
abbrev pub lifted : ℕ → List Shift → List ℕ → List ℕ
lifted T shifts reduced = map (λ s. (slice_index reduced s.index + s.offset) % T) shifts
