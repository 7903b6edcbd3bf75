-- Ends of activities: which residues of the event at the other end go with a residue at this one.
use Rattle.std.specs.Prelude.{◌≡◌, ◌≢◌, ℕ, ◌+◌, ◌-◌, ◌%◌, ◌<◌, ◌≤◌, Bool, ◌&&◌, nat_le, nat_lt, List, [], length, slice_index_or, AllPairs}
use Rattle.std.specs.List.{Contains}
use Rattle.pesp_counts_arcs.specs.declared.end.End.{End}

-- whether residue s of the other event goes with residue r of this one
abbrev pub passes : ℕ → End → ℕ → ℕ → Bool
passes period end r s = nat_lt ((s + (period - (r + end.first) % period)) % period) end.width

-- whether the residue is in the range
abbrev pub is_from_to : ℕ → ℕ → ℕ → Bool
is_from_to low high r = nat_le low r && nat_lt r high

-- the end of a number
abbrev pub end_at : List End → ℕ → End
end_at ends k = slice_index_or ends k (record { looks_at = 0; mate = 0; first = 0; width = 0 })

-- the ends at a place
abbrev pub ends_of : List (List ℕ) → ℕ → List ℕ
ends_of lists p = slice_index_or lists p []

-- the end at this place has the other end of its activity as mate, which is at the place that this one looks at
pub record IsEndAt (period : ℕ) (ends : List End) (lists : List (List ℕ)) (p k : ℕ) : Type 0 where
  pub within : k < length ends
  pub mate_there : Contains (ends_of lists (end_at ends k).looks_at) (end_at ends k).mate
  pub mate_looks : (end_at ends (end_at ends k).mate).looks_at ≡ p
  pub mate_back : (end_at ends (end_at ends k).mate).mate ≡ k
  pub first : (end_at ends k).first < period
  pub some : 0 < (end_at ends k).width
  pub width : (end_at ends k).width ≤ period
  pub both_ways : (r s : ℕ) → r < period → s < period → passes period (end_at ends k) r s ≡ passes period (end_at ends (end_at ends k).mate) s r

-- each listed end is one, and no place lists an end twice
pub record AreLinked (period : ℕ) (ends : List End) (lists : List (List ℕ)) : Type 0 where
  pub each : (p k : ℕ) → Contains (ends_of lists p) k → IsEndAt period ends lists p k
  pub once : (p : ℕ) → AllPairs (λ j k. j ≢ k) (ends_of lists p)
