-- A search that goes on from where another one stopped.
use Rattle.std.proofs.Common.{◌≡◌, ℕ, ◌<◌, ◌≤◌, List, Option, Some, None, IfSome, IsSomeAnd, inl, inr, refl, sym, subst, arith}
use Rattle.std.proofs.lemmas.Bool.{cases_lt}
use Rattle.pesp_search_least.specs.declared.outcome.Candidate.{Candidate}
use Rattle.pesp_search_least.specs.declared.outcome.Outcome.{Outcome}
use Rattle.pesp_search_least.specs.declared.outcome.Outcome.TheVariants.{Found, NoneBelow, Spent}
use Rattle.pesp_search_least.specs.Expansions.{limit_of}
use Rattle.pesp_search_least.specs.Reached.{AreEqual, IsReached, IsUnderway}
use Rattle.pesp_search_least.specs.Sums.{InSome, IsBelow, IsLeast, IsLowerBound, IsOutcome, IsWithin, Sums}
use Rattle.pesp_search_least.proofs.Outcomes.{below_same}

-- the best of the root is a sum of it
best_has : (root : Sums) (cap : ℕ) (best : Option Candidate) (map : List ℕ) (sum : ℕ) → IfSome best (IsBelow root cap) → IsSomeAnd best (λ c. (map ≡ c.map.items) × (sum ≡ c.cost)) → root map sum
best_has root cap None map sum found is = absurd is
best_has root cap (Some c) map sum found is = subst (λ m. root m sum) (sym is.0) (subst (λ s. root c.map.items s) (sym is.1) found.0)

module _ {R : Type 0} (sums : R → Sums) (root : Sums) (nodes : List R) (cap : ℕ) (best : Option Candidate) (is : IsUnderway sums root nodes cap best) where
  -- what is reached is of the root,
  pub reached_within : IsWithin (IsReached sums nodes best) root
  reached_within map sum has = elim has [ inl here ↦ is.within map sum here | inr it ↦ best_has root cap best map sum is.found it ]

  -- and costs what a sum of the root costs, or less
  reached_under : (n : ℕ) → IsLowerBound (IsReached sums nodes best) n → n ≤ cap → IsLowerBound root n
  reached_under n bound small map sum has =
      elim (cases_lt sum (limit_of cap best)) [
        | inl below ↦ bound map sum (inl (is.left map sum has below))
        | inr above ↦ over best (λ m s it. bound m s (inr it)) above
      ]
    where
      over : (b : Option Candidate) → ((m : List ℕ) (s : ℕ) → IsSomeAnd b (λ c. (m ≡ c.map.items) × (s ≡ c.cost)) → n ≤ s) → limit_of cap b ≤ sum → n ≤ sum
      over None told above = omega (arith, small, above)
      over (Some c) told above = omega (arith, told c.map.items c.cost (refl, refl), above)

  no_best : IsLowerBound (IsReached sums nodes best) cap → IsLowerBound root cap
  no_best bound = reached_under cap bound (omega arith)

  -- an outcome of what is reached is one of the root
  pub outcome_of_all : (outcome : Outcome) → IsOutcome (IsReached sums nodes best) cap outcome → IsOutcome root cap outcome
  outcome_of_all (Found c) o = (
    record { has = reached_within c.map.items c.cost o.0.has; least = reached_under c.cost o.0.least (omega (arith, o.1)) },
    o.1,
  )
  outcome_of_all NoneBelow o = no_best o
  outcome_of_all (Spent found lower_bound) o = (
    below_same (IsReached sums nodes best) root cap found reached_within o.0,
    λ map sum has below.
        elim (cases_lt sum (limit_of cap best)) [
          | inl less ↦ o.1 map sum (inl (is.left map sum has less)) below
          | inr more ↦ over best is.found (λ m s it small. o.1 m s (inr it) small) more below
        ],
  )
    where
      over : {sum : ℕ} (b : Option Candidate) → IfSome b (IsBelow root cap) → ((m : List ℕ) (s : ℕ) → IsSomeAnd b (λ c. (m ≡ c.map.items) × (s ≡ c.cost)) → s < cap → lower_bound ≤ s) → limit_of cap b ≤ sum → sum < cap → lower_bound ≤ sum
      over None found told more below = omega (arith, more, below)
      over (Some c) found told more below = omega (arith, told c.map.items c.cost (refl, refl) found.1, more)

  -- what is left of what is reached is left of the root
  pub left_of_all : (new : List R) (found : Option Candidate) → IsUnderway sums (IsReached sums nodes best) new cap found → limit_of cap found ≤ limit_of cap best → IsUnderway sums root new cap found
  left_of_all new found left better = record {
    within = λ map sum has. reached_within map sum (left.within map sum has);
    left = λ map sum has below. left.left map sum (inl (is.left map sum has (omega (arith, below, better)))) below;
    found = below_same (IsReached sums nodes best) root cap found reached_within left.found;
  }

-- other nodes with the same sums
pub underway_alike : {R S : Type 0} (of : R → Sums) (in' : S → Sums) (root : Sums) (rs : List R) (ss : List S) (cap : ℕ) (best : Option Candidate) → IsWithin (InSome of rs) (InSome in' ss) → IsWithin (InSome in' ss) (InSome of rs) → IsUnderway of root rs cap best → IsUnderway in' root ss cap best
underway_alike {R} {S} of in' root rs ss cap best there back is = record {
  within = λ map sum has. is.within map sum (back map sum has);
  left = λ map sum has below. there map sum (is.left map sum has below);
  found = is.found;
}

-- a copy of the best
pub below_equal : (root : Sums) (cap : ℕ) (one other : Candidate) → AreEqual one other → IsBelow root cap one → IsBelow root cap other
below_equal root cap one other same is =
    (subst (λ m. root m other.cost) (sym same.map) (subst (λ s. root one.map.items s) (sym same.cost) is.0), rw same.cost is.1)

pub least_equal : (root : Sums) (one other : Candidate) → AreEqual one other → IsLeast root one → IsLeast root other
least_equal root one other same is = record {
  has = subst (λ m. root m other.cost) (sym same.map) (subst (λ s. root one.map.items s) (sym same.cost) is.has);
  least = λ map sum has. omega (arith, is.least map sum has, same.cost);
}
