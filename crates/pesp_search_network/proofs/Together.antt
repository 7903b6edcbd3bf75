-- Least sums of two are together the least sum of the whole.
use Rattle.std.proofs.Common.{◌≡◌, ℕ, ◌+◌, ◌-◌, ◌<◌, ◌≤◌, max, arith}
use Rattle.pesp_search_least.specs.Sums.{IsCandidate, IsLeast, IsLowerBound, IsLowerBoundBelow, Sums}
use Rattle.pesp_search_least.specs.declared.outcome.Candidate.{Candidate}
use Rattle.pesp_search_network.specs.SumsApart.{IsSumOf}

module _ (whole one other : Sums) (sums : IsSumOf whole one other) where
  -- a floor of the whole, less what a map of the one has, is a floor of the other
  pub floor_left : (floor : ℕ) (part : Candidate) → IsLowerBound whole floor → IsCandidate one part → IsLowerBound other (floor - part.cost)
  floor_left floor part least has map sum is =
      let both = sums.together part.map.items map part.cost sum has is in
      omega (arith, least both.0 (part.cost + sum) both.1)

  -- two least ones make a least one
  pub least_joined : (part rest joined : Candidate) → IsLeast one part → IsLeast other rest → IsCandidate whole joined → joined.cost ≡ part.cost + rest.cost → IsLeast whole joined
  least_joined part rest joined first second has cost = record {
    has = has;
    least = λ map sum is.
        (let two = sums.apart map sum is in
        omega (arith, two.adds, cost, first.least two.first two.part two.has_first, second.least two.second two.rest two.has_second));
  }

  -- where the one has no sum below the cap, the whole has none
  pub none_of_one : (cap : ℕ) → IsLowerBound one cap → IsLowerBound whole cap
  none_of_one cap none map sum is =
      let two = sums.apart map sum is in
      omega (arith, two.adds, none two.first two.part two.has_first)

  -- where the other has none below what is left of the cap, the whole has none
  pub none_of_other : (cap : ℕ) (part : Candidate) → part.cost ≤ cap → IsLeast one part → IsLowerBound other (cap - part.cost) → IsLowerBound whole cap
  none_of_other cap part within least none map sum is =
      let two = sums.apart map sum is in
      omega (arith, two.adds, within, least.least two.first two.part two.has_first, none two.second two.rest two.has_second)

  -- what bounds the one where it stops bounds the whole, and so does its floor
  pub stop_of_one : (cap floor lower_bound bound : ℕ) → IsLowerBound whole floor → IsLowerBoundBelow one cap lower_bound → bound ≡ max lower_bound floor → IsLowerBoundBelow whole cap bound
  stop_of_one cap floor lower_bound bound least low greatest map sum is below =
      let two = sums.apart map sum is in
      let room : two.part < cap = omega (arith, two.adds, below) in
      omega (arith, two.adds, greatest, least map sum is, low two.first two.part two.has_first room)

  -- what bounds the other where it stops bounds the whole, with the least sum of the one
  pub stop_of_other : (cap lower_bound bound : ℕ) (part : Candidate) → IsLeast one part → IsLowerBoundBelow other (cap - part.cost) lower_bound → bound ≤ part.cost + lower_bound → IsLowerBoundBelow whole cap bound
  stop_of_other cap lower_bound bound part least low within map sum is below =
      let two = sums.apart map sum is in
      let first : part.cost ≤ two.part = least.least two.first two.part two.has_first in
      let room : two.rest < cap - part.cost = omega (arith, two.adds, first, below) in
      omega (arith, two.adds, first, within, low two.second two.rest two.has_second room)
