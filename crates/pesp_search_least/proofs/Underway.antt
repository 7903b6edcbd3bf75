-- How far a search has come: what its stack still has, what it found, and what it spent of the budget.
use Rattle.std.proofs.Common.{◌≡◌, ◌≢◌, ℕ, ◌<◌, ◌≤◌, ◌⊎◌, sym, ◌∙◌, List, [], ◌∷◌, ◌++◌, Option, Some, None, IfSome, inl, inr, arith}
use Rattle.pesp_search_least.specs.declared.outcome.Candidate.{Candidate}
use Rattle.pesp_search_least.specs.Spending.{OnlySpends, SpendsUnit}
use Rattle.pesp_search_least.specs.Sums.{AreHalvesBelow, InSome, IsBelow, IsLowerBound, IsWithin, Sums}
use Rattle.pesp_search_least.specs.Expansions.{IsBetter, limit_of}
use Rattle.pesp_search_least.specs.Reached.{IsReached, IsUnderway}
use Rattle.pesp_search_least.proofs.Budgets.{spends_none, unit_after, unit_none, unit_spends}
use Rattle.pesp_search_least.proofs.Stack.{in_some_pop, in_some_push}
use Rattle.pesp_search_least.proofs.Expanded.{better_limit}

-- one node, and nothing found: its sums, and no others
pub reached_alone : {R : Type 0} (sums : R → Sums) (root : R) → IsWithin (IsReached sums (root ∷ []) None) (sums root)
reached_alone {R} sums root map sum has = elim has [ inl (inl here) ↦ here | inl (inr none) ↦ absurd none | inr none ↦ absurd none ]

pub alone_reached : {R : Type 0} (sums : R → Sums) (root : R) → IsWithin (sums root) (IsReached sums (root ∷ []) None)
alone_reached {R} sums root map sum has = inl (inl has)

-- the limit is at most the cap
pub limit_under : (root : Sums) (cap : ℕ) (best : Option Candidate) → IfSome best (IsBelow root cap) → limit_of cap best ≤ cap
limit_under root cap None is = omega arith
limit_under root cap (Some c) is = omega (arith, is.1)

-- a better one of a part is below the cap too
found_on : (part root : Sums) (cap : ℕ) (old new : Option Candidate) → IsWithin part root → IfSome old (IsBelow root cap) → IsBetter part cap old new → IfSome new (IsBelow root cap)
found_on part root cap old new within is (inl same) = rw same is
found_on part root cap old new within is (inr (c, new_is, has, less)) =
    rw new_is (within c.map.items c.cost has, omega (arith, less, limit_under root cap old is))

-- the sums of the node on top are the root's
top_within : {R : Type 0} (sums : R → Sums) (root : Sums) (ns : List R) (n : R) → IsWithin (InSome sums (ns ++ n ∷ [])) root → IsWithin (sums n) root
top_within {R} sums root ns n within map sum has = within map sum (in_some_push sums ns n map sum (inr has))

-- after a node that has nothing below the limit
pub underway_closed : {R : Type 0} (sums : R → Sums) (root : Sums) (ns : List R) (n : R) (cap : ℕ) (old new : Option Candidate) → IsUnderway sums root (ns ++ n ∷ []) cap old → IsBetter (sums n) cap old new → IsLowerBound (sums n) (limit_of cap new) → IsUnderway sums root ns cap new
underway_closed {R} sums root ns n cap old new is better bound =
    record {
      within = λ map sum has. is.within map sum (in_some_push sums ns n map sum (inl has));
      left = λ map sum has below.
          elim (in_some_pop sums ns n map sum (is.left map sum has (omega (arith, below, better_limit (sums n) cap old new better)))) [
            | inl there ↦ there
            | inr here ↦ absurd (omega (arith, bound map sum here, below))
          ];
      found = found_on (sums n) root cap old new (top_within sums root ns n is.within) is.found better;
    }

-- with both halves in place of a node
pub underway_halves : {R : Type 0} (sums : R → Sums) (root : Sums) (ns : List R) (n a b : R) (cap : ℕ) (old new : Option Candidate) → IsUnderway sums root (ns ++ n ∷ []) cap old → IsBetter (sums n) cap old new → AreHalvesBelow (limit_of cap new) (sums n) (sums a) (sums b) → IsUnderway sums root ((ns ++ b ∷ []) ++ a ∷ []) cap new
underway_halves {R} sums root ns n a b cap old new is better halves =
    record {
      within = λ map sum has.
          elim (in_some_pop sums (ns ++ b ∷ []) a map sum has) [
            | inl under ↦ elim (in_some_pop sums ns b map sum under) [
              | inl there ↦ is.within map sum (in_some_push sums ns n map sum (inl there))
              | inr second ↦ is.within map sum (in_some_push sums ns n map sum (inr (halves.second_within map sum second)))
            ]
            | inr first ↦ is.within map sum (in_some_push sums ns n map sum (inr (halves.first_within map sum first)))
          ];
      left = λ map sum has below.
          in_some_push sums (ns ++ b ∷ []) a map sum
          (elim (in_some_pop sums ns n map sum (is.left map sum has (omega (arith, below, better_limit (sums n) cap old new better)))) [
            | inl there ↦ inl (in_some_push sums ns b map sum (inl there))
            | inr here ↦ elim (halves.keeps map sum below here) [ inl first ↦ inr first | inr second ↦ inl (in_some_push sums ns b map sum (inr second)) ]
          ]);
      found = found_on (sums n) root cap old new (top_within sums root ns n is.within) is.found better;
    }

-- a bound on one node more
pub lowest_step : {R : Type 0} (sums : R → Sums) (ns : List R) (n : R) (lower_bound new : ℕ) → IsLowerBound (InSome sums ns) lower_bound → IsLowerBound (sums n) new → new ≤ lower_bound → IsLowerBound (InSome sums (ns ++ n ∷ [])) new
lowest_step {R} sums ns n lower_bound new there here less map sum has =
    elim (in_some_pop sums ns n map sum has) [ inl other ↦ omega (arith, there map sum other, less) | inr one ↦ here map sum one ]

-- ---- the budget

-- nothing was expanded yet, or a unit was spent
abbrev pub HasBegun : {R : Type 0} → List R → Option Candidate → List R → Option Candidate → Option ℕ → Option ℕ → Type 0
HasBegun {R} first start nodes best old new = ((nodes ≡ first) × (best ≡ start) × (new ≡ old)) ⊎ SpendsUnit old new

module _ {R : Type 0} (first : List R) (start : Option Candidate) (nodes : List R) (best : Option Candidate) where
  -- either way nothing was put back
  pub begun_spends : (old new : Option ℕ) → HasBegun first start nodes best old new → OnlySpends old new
  begun_spends old new (inl begun) = rw begun.2 (spends_none old)
  begun_spends old new (inr spends) = unit_spends old new spends

  -- an expansion spends a unit
  pub begun_expansion : (old mid new : Option ℕ) → HasBegun first start nodes best old mid → SpendsUnit mid new → SpendsUnit old new
  begun_expansion old mid new is spends = unit_after old mid new (begun_spends old mid is) spends

  -- where the budget is spent at first, nothing is expanded
  pub begun_at_none : (old new : Option ℕ) → HasBegun first start nodes best old new → old ≡ Some 0 → (nodes ≡ first) × (best ≡ start)
  begun_at_none old new (inl begun) spent = (begun.0, begun.1)
  begun_at_none old new (inr spends) spent = absurd (unit_none new (rw spent at spends))

  -- where something is to be done and the budget is spent at first, it is not the end
  pub begun_no_end : (old new : Option ℕ) (cap floor : ℕ) → HasBegun first start nodes best old new → old ≡ Some 0 → floor < limit_of cap start → first ≢ [] → floor < limit_of cap best × (nodes ≢ [])
  begun_no_end old new cap floor is spent less some =
      let same = begun_at_none old new is spent in
      (rw same.1 less, rw same.0 some)

  -- where something is to be done and the budget is not, at first, but then is spent, a unit was
  pub begun_at_stop : (old new : Option ℕ) → HasBegun first start nodes best old new → old ≢ Some 0 → new ≡ Some 0 → SpendsUnit old new
  begun_at_stop old new (inl begun) some spent = absurd (some (sym begun.2 ∙ spent))
  begun_at_stop old new (inr spends) some spent = spends

  -- and at an end
  pub begun_at_end : (old new : Option ℕ) (cap floor : ℕ) → HasBegun first start nodes best old new → floor < limit_of cap start → first ≢ [] → (floor < limit_of cap best → nodes ≡ []) → SpendsUnit old new
  begun_at_end old new cap floor (inl begun) less some over = absurd (some (sym begun.0 ∙ over (rw begun.1 less)))
  begun_at_end old new cap floor (inr spends) less some over = spends
