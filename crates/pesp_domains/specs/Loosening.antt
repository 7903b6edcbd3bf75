-- Whether a change of a window or of a span lets in what was not let in before.
use Rattle.std.specs.Prelude.{ℕ, ◌<◌, Bool, false, ◌&&◌, not}
use Rattle.std.specs.List.{list_any, range_with_len}
use Rattle.std.specs.Option.{option_map_or}
use Rattle.pesp_base.specs.Bounds.{Bounds}
use Rattle.pesp_base.specs.Tensions.{IsMet, is_met}
use Rattle.pesp_instance.specs.Network.{Network, activity_of, admits}

-- whether the second instance admits a residue at the event that the first one does not
abbrev pub admits_anew : Network → Network → ℕ → Bool
admits_anew I J e = list_any (λ r. admits J e r && not (admits I e r)) (range_with_len 0 I.period)

-- whether the second span admits a pair of residues that the first one does not. What a span admits depends on how far the second residue is ahead of the first alone
abbrev pub admits_more : ℕ → Bounds → Bounds → Bool
admits_more period old new = list_any (λ d. is_met period new 0 d && not (is_met period old 0 d)) (range_with_len 0 period)

-- some residues of the two events are admitted by the second span, and not by the first one
abbrev pub AdmitsNewPair : ℕ → Bounds → Bounds → Type 0
AdmitsNewPair period old new = (r : ℕ) × (s : ℕ) × (r < period) × (s < period) × IsMet period new r s × (IsMet period old r s → ⊥)

-- whether the activity has another span, which admits more
abbrev pub is_looser : Network → ℕ → Bounds → Bool
is_looser I n span = option_map_or (λ a. admits_more I.period a.span span) (activity_of I n) false
