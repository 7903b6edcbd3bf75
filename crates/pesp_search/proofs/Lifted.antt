-- What is sought among the maps of a reduced network is told of those of the other.
use Rattle.std.proofs.Common.{◌≡◌, ℕ, ◌+◌, ◌*◌, ◌<◌, ◌≤◌, ◌↔◌, Bool, true, false, Option, Some, None, IfSome, List, sym, subst, arith}
use Rattle.std.proofs.Math.Nat.{mul-le-mul_left}
use Rattle.pesp_search_least.specs.declared.outcome.Candidate.{Candidate}
use Rattle.pesp_search_least.specs.Order.{IsFirst, Precedes}
use Rattle.pesp_search_least.specs.Sums.{IsCandidate, IsLowerBound}
use Rattle.pesp_search_network.specs.Arcs.{Arcs, IsCosted}
use Rattle.pesp_search_network.specs.Reduced.{IsReduced}
use Rattle.pesp_search.specs.Sought.{IsSoughtMap}

abbrev pub IsCapOf : ℕ → ℕ → ℕ → ℕ → Type 0
IsCapOf fixed factor cap part = (cost : ℕ) → (cost < part) ↔ (fixed + factor * cost < cap)

module _ (N M : Arcs) (fixed factor : ℕ) (lift : List ℕ → List ℕ) (reduced : IsReduced N M fixed factor lift) where
  -- a lower bound in proportion
  pub lifted_bound : (bound floor : ℕ) → floor ≤ fixed + factor * bound → IsLowerBound (IsCosted M) bound → IsLowerBound (IsCosted N) floor
  lifted_bound bound floor less is x cost has =
      let of_map = reduced.down x cost has in
      let above : bound ≤ of_map.part = is of_map.reduced of_map.part of_map.has in
      omega (arith, less, of_map.costs, mul-le-mul_left factor above)

  -- where no map of the one is below the cap none of the other is
  pub lifted_none : (cap part : ℕ) → IsCapOf fixed factor cap part → IsLowerBound (IsCosted M) part → IsLowerBound (IsCosted N) cap
  lifted_none cap part caps is x cost has =
      let of_map = reduced.down x cost has in
      let above : part ≤ of_map.part = is of_map.reduced of_map.part of_map.has in
      not_below (fixed + factor * of_map.part) cap cost of_map.costs (λ less. omega (arith, above, (caps of_map.part).1 less))
    where
      not_below : (n cap cost : ℕ) → cost ≡ n → (n < cap → ⊥) → cap ≤ cost
      not_below n cap cost e not = omega (arith, e, not)

  -- the first map is lifted to the first
  pub lifted_first : (one other : Candidate) → IsCandidate (IsCosted N) other → other.map.items ≡ lift one.map.items → other.cost ≡ fixed + factor * one.cost → IsFirst (IsCosted M) one → IsFirst (IsCosted N) other
  lifted_first one other has same costs is = record {
    least = record { has = has; least = lifted_bound one.cost other.cost (omega (arith, costs)) is.least.least };
    first = λ x cost costed before.
        (let of_map = reduced.down x cost costed in
        let sooner : Precedes (lift of_map.reduced) (lift one.map.items) = subst (λ (y : List ℕ). Precedes (lift of_map.reduced) y) same (subst (λ (y : List ℕ). Precedes y other.map.items) of_map.is before) in
        let dearer : one.cost < of_map.part = is.first of_map.reduced of_map.part of_map.has (reduced.order of_map.reduced one.map.items of_map.part one.cost of_map.has is.least.has sooner) in
        more factor one.cost of_map.part reduced.some dearer costs of_map.costs);
  }
    where
      more : (f a b : ℕ) {m n : ℕ} → 0 < f → a < b → m ≡ fixed + f * a → n ≡ fixed + f * b → m < n
      more f a b some less e g = omega (arith, some, e, g, mul-le-mul_left f (suc_le a b less), mul_suc f a)
        where
          suc_le : (a b : ℕ) → a < b → a + 1 ≤ b
          suc_le a b h = omega (arith, h)

          mul_suc : (f a : ℕ) → f * (a + 1) ≡ f * a + f
          mul_suc f a = omega arith

  -- what was sought
  pub lifted_sought : (cap part : ℕ) (is_end : Bool) (one other : Candidate) → IsCapOf fixed factor cap part → IsCandidate (IsCosted N) other → other.map.items ≡ lift one.map.items → other.cost ≡ fixed + factor * one.cost
      → IsSoughtMap (IsCosted M) part is_end (Some one) → IsSoughtMap (IsCosted N) cap is_end (Some other)
  lifted_sought cap part true one other caps has same costs is = lifted_first one other has same costs is
  lifted_sought cap part false one other caps has same costs is = (has, subst (λ n. n < cap) (sym costs) ((caps one.cost).0 is.1))

  pub lifted_nothing : (cap part : ℕ) (is_end : Bool) → IsCapOf fixed factor cap part → IsSoughtMap (IsCosted M) part is_end None → IsSoughtMap (IsCosted N) cap is_end None
  lifted_nothing cap part true caps is = lifted_none cap part caps is
  lifted_nothing cap part false caps is = tt

-- what is sought is a map with its cost
pub candidate_of_sought : (M : Arcs) (cap : ℕ) (is_end : Bool) (found : Option Candidate) → IsSoughtMap (IsCosted M) cap is_end found → IfSome found (IsCandidate (IsCosted M))
candidate_of_sought M cap true None is = tt
candidate_of_sought M cap false None is = tt
candidate_of_sought M cap true (Some c) is = is.least.has
candidate_of_sought M cap false (Some c) is = is.0

-- nothing below a cap where there is no map
pub none_at_all : (N : Arcs) (cap : ℕ) → ((x : List ℕ) (cost : ℕ) → IsCosted N x cost → ⊥) → IsLowerBound (IsCosted N) cap
none_at_all N cap none x cost has = absurd (none x cost has)
