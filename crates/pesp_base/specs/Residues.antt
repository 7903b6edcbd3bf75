-- The residues that an activity admits at one end, for a residue at the other, in the order in which they are listed.
use Rattle.std.specs.Prelude.{ℕ, ◌+◌, ◌-◌, min, List, map, pos, ◌+ℤ◌, ◌-ℤ◌, unsigned_abs}
use Rattle.std.specs.List.{range_with_len}
use Rattle.pesp_base.specs.declared.residues.Direction.{Direction}
use Rattle.pesp_base.specs.declared.residues.Direction.TheVariants as toward
use Rattle.pesp_base.specs.Bounds.{Bounds}
use Rattle.pesp_base.specs.Tensions.{residue}

-- how far the last of the residues is from the first: all are there where the span is as wide as the period
abbrev pub reach : ℕ → Bounds → ℕ
reach period span = min (unsigned_abs (span.upper -ℤ span.lower)) (period - 1)

-- the residues that an activity admits at its head, for residue r at its tail: upwards from the lower bound
abbrev pub partners_of : ℕ → Bounds → ℕ → List ℕ
partners_of period span r =
    map (λ k. residue period (pos r +ℤ span.lower +ℤ pos k)) (range_with_len 0 (reach period span + 1))

-- those that it admits at its tail, for residue s at its head: downwards from the lower bound
abbrev pub sources_of : ℕ → Bounds → ℕ → List ℕ
sources_of period span s =
    map (λ k. residue period (pos s -ℤ span.lower -ℤ pos k)) (range_with_len 0 (reach period span + 1))

-- the residue so many steps above the first one, or below it
abbrev pub residue_at : Direction → ℕ → ℕ → ℕ → ℕ
residue_at toward.Up period first step = residue period (pos first +ℤ pos step)
residue_at toward.Down period first step = residue period (pos first -ℤ pos step)

-- the residues of the steps from `start` on and before `end`
abbrev pub residues_left : Direction → ℕ → ℕ → ℕ → ℕ → List ℕ
residues_left direction period first start end = map (residue_at direction period first) (range_with_len start (end - start))
