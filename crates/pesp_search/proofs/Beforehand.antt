-- A search under the cost of a member that was found beforehand answers for the bound that was given.
use Rattle.std.proofs.Common.{◌≡◌, ℕ, ◌≤◌, Bool, true, false, Option, Some, None, IfSome, refl, ap, sym, inl, inr, arith}
use Rattle.std.proofs.lemmas.Bool.{cases_lt}
use Rattle.std.proofs.lemmas.Option.{none-some}
use Rattle.pesp_instance.specs.Network.{Network}
use Rattle.pesp_tension.specs.Answers.{cost_of}
use Rattle.pesp_search.specs.declared.answer.Best.{Best}
use Rattle.pesp_search.specs.Beforehand.{least_bound, told_best, told_bound}
use Rattle.pesp_search.specs.Optima.{IsBound}
use Rattle.pesp_search.specs.Known.{IsFloor, IsKnown}
use Rattle.pesp_search.specs.Tried.{IsBestSoFar, IsFound, IsOutcome, IsWithin, MayStop}

-- what is within a lower bound is within the given one
within_more : (bound : Option ℕ) (low cost : ℕ) → IsWithin bound low → cost ≤ low → IsWithin bound cost
within_more None low cost is less = tt
within_more (Some b) low cost is less = omega (arith, is, less)

-- a member is a bound at its own cost
pub bound_of_found : (I : Network) (bound : Option ℕ) (before : Best) → IsFound I bound before → IsBound I (Some before.cost)
bound_of_found I bound before found = (before.times, found.member, (let costs = found.costs in omega (arith, costs)))

found_more : (I : Network) (bound : Option ℕ) (before : Best) (found : Option Best) → IsFound I bound before → IfSome found (IsFound I (Some before.cost)) → IfSome (told_best true found (Some before)) (IsFound I bound)
found_more I bound before None is found = is
found_more I bound before (Some best) is found =
    let within = found.within in
    record { member = found.member; costs = found.costs; within = within_more bound before.cost best.cost is.within (omega (arith, within)) }

best_more : (I : Network) (bound : Option ℕ) (limit : ℕ) (before : Best) (found : Option Best) → IfSome found (IsFound I (Some before.cost)) → IsBestSoFar I (Some before.cost) limit found → IsBestSoFar I bound limit (told_best true found (Some before))
best_more I bound limit before None told best m place member is reached within =
    elim (cases_lt before.cost (cost_of I m)) [
      | inl above ↦ omega (arith, above)
      | inr low ↦ absurd (best m place member is reached low)
    ]
best_more I bound limit before (Some found) told best m place member is reached within =
    elim (cases_lt before.cost (cost_of I m)) [
      | inl above ↦ (let under = told.within in omega (arith, above, under))
      | inr low ↦ best m place member is reached low
    ]

-- a stop under the cost of a member is a stop under the given bound, with that member where none was found
pub stop_more : (I : Network) (bound : Option ℕ) (limit : ℕ) (before : Best) (found : Option Best) → IsFound I bound before → MayStop I (Some before.cost) limit found → MayStop I bound limit (told_best true found (Some before))
stop_more I bound limit before found is stop =
    record {
      below = stop.below;
      member = found_more I bound before found is stop.member;
      best = best_more I bound limit before found stop.member stop.best;
    }

-- where there is no such member, the bound is the given one
pub bound_of_before : (I : Network) (bound : Option ℕ) (before : Option Best) → IsBound I bound → IfSome before (IsFound I bound) → IsBound I (least_bound bound before)
bound_of_before I bound None is found = is
bound_of_before I bound (Some before) is found = bound_of_found I bound before found

-- what is told of a search under that bound
pub outcome_told : (I : Network) (bound limit : Option ℕ) (before best : Option Best) (stopped : Bool) (nodes : ℕ) → IfSome before (IsFound I bound) → (limit ≡ Some 0 → before ≡ None)
    → IsOutcome I (least_bound bound before) limit stopped best nodes → IsOutcome I bound limit stopped (told_best stopped best before) nodes
outcome_told I bound limit before best false nodes found none is = is
outcome_told I bound None before best true nodes found none is = is
outcome_told I bound (Some limit) None None true nodes found none is = is
outcome_told I bound (Some limit) None (Some best) true nodes found none is = is
outcome_told I bound (Some limit) (Some before) best true nodes found none is = (stop_more I bound limit before best found is.0, is.1, λ zero. absurd (none-some _ (sym (none (ap Some zero)))))

-- ---- the lower bound that is told

-- no member costs less than it
pub floor_told : (I : Network) (bound limit : Option ℕ) (stopped : Bool) (best : Option Best) (floor nodes : ℕ) → IsFloor I floor → IsOutcome I bound limit stopped best nodes → IsFloor I (told_bound stopped best floor)
floor_told I bound limit false None floor nodes is told = is
floor_told I bound limit false (Some best) floor nodes is told = told.0.least
floor_told I bound limit true best floor nodes is told = is

-- at the end the optimum costs just that
pub exact_told : (stopped : Bool) (best : Option Best) (floor : ℕ) → stopped ≡ false → IfSome best (λ b. b.cost ≡ told_bound stopped best floor)
exact_told stopped None floor end = tt
exact_told stopped (Some best) floor end = rw end refl

-- what is known at an end
pub known_of_end : (I : Network) (bound limit : Option ℕ) (best : Option Best) (floor : ℕ) → IsOutcome I bound limit false best 0 → IsFloor I floor
    → IsKnown I bound limit (record { best = best; lower_bound = told_bound false best floor; is_stopped = false }) 0
known_of_end I bound limit best floor outcome is =
    record {
      outcome = outcome;
      floor = floor_told I bound limit false best floor 0 is outcome;
      exact = exact_told false best floor;
    }
