-- Maps of one event, for examples.
use Rattle.std.proofs.Common.{◌≡◌, ℕ, zero, suc, ◌+◌, ◌-◌, ◌/◌, ◌<◌, ◌≤◌, min, List, [], ◌∷◌, get_or, Option, refl, inl, inr, arith}
use Rattle.std.proofs.lemmas.Bool.{cases_lt}
use Rattle.pesp_tests_search.specs.Lines.{IsOnLine}
use Rattle.pesp_search_least.specs.Order.{BelowResidue}
use Rattle.pesp_search_least.specs.Sums.{AreHalves, IsWithin}

-- the residues from the middle on, and those before, are halves
pub line_halved : (costs : List (Option ℕ)) (lowest middle end last : ℕ) → lowest ≤ middle → middle ≤ end → last ≡ middle → AreHalves (IsOnLine costs lowest end) (IsOnLine costs middle end) (IsOnLine costs lowest last)
line_halved costs lowest middle end last above below same =
    record {
      keeps = λ map sum is. elim (cases_lt is.residue middle) [
        | inl less ↦ inr (record { residue = is.residue; above = is.above; below = omega (arith, less, same); gives = is.gives; costs_it = is.costs_it })
        | inr more ↦ inl (record { residue = is.residue; above = more; below = is.below; gives = is.gives; costs_it = is.costs_it })
      ];
      first_within = λ map sum is. record { residue = is.residue; above = omega (arith, is.above, above); below = is.below; gives = is.gives; costs_it = is.costs_it };
      second_within = λ map sum is. record { residue = is.residue; above = is.above; below = omega (arith, is.below, below, same); gives = is.gives; costs_it = is.costs_it };
    }

-- a part has no other maps
pub line_within : (costs : List (Option ℕ)) (lowest end last : ℕ) → last ≤ end → IsWithin (IsOnLine costs lowest last) (IsOnLine costs lowest end)
line_within costs lowest end last less map sum is =
    record { residue = is.residue; above = is.above; below = omega (arith, is.below, less); gives = is.gives; costs_it = is.costs_it }

-- the residue of the one event
at_zero : (event r : ℕ) → event < 1 → get_or (r ∷ []) event 0 ≡ r
at_zero zero r inside = refl
at_zero (suc event) r inside = absurd (omega (arith, inside))

-- a part that ends at the residue has the maps that are below it
pub line_below : (costs : List (Option ℕ)) (lowest end last event residue : ℕ) → event < 1 → last ≡ min end residue → IsWithin (IsOnLine costs lowest last) (BelowResidue (IsOnLine costs lowest end) event residue)
line_below costs lowest end last event residue inside same map sum is =
    let less : is.residue < residue = omega (arith, is.below, same) in
    (line_within costs lowest end last (omega (arith, same)) map sum is, rw (is.gives, at_zero event is.residue inside) less)

-- and no others
pub line_above : (costs : List (Option ℕ)) (lowest end last event residue : ℕ) → event < 1 → last ≡ min end residue → IsWithin (BelowResidue (IsOnLine costs lowest end) event residue) (IsOnLine costs lowest last)
line_above costs lowest end last event residue inside same map sum both =
    let is = both.0 in
    let less : is.residue < residue = rw (is.gives, at_zero event is.residue inside) at both.1 in
    record { residue = is.residue; above = is.above; below = omega (arith, is.below, less, same); gives = is.gives; costs_it = is.costs_it }

-- the middle of a part lies within it
pub middle_within : (lowest end : ℕ) → lowest < end → lowest + (end - lowest) / 2 < end
middle_within lowest end less = omega (arith, less)
