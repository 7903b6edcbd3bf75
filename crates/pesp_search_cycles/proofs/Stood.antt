-- Searches for a least map that go on from where they stand.
use Rattle.std.proofs.Common.{◌≡◌, ℕ, ◌<◌, ◌≤◌, All, List, [], ◌∷◌, Option, Some, None, IfSome, inl, inr, sym, subst, refl, arith}
use Rattle.std.proofs.lemmas.List.Elements.{All-cons, All-nil}
use Rattle.pesp_search_least.specs.declared.outcome.Candidate.{Candidate}
use Rattle.pesp_search_least.specs.declared.outcome.Outcome.{Outcome}
use Rattle.pesp_search_least.specs.declared.outcome.Outcome.TheVariants.{Found, NoneBelow, Spent}
use Rattle.pesp_search_least.specs.declared.limits.Limits.{Limits}
use Rattle.pesp_search_least.specs.Expansions.{limit_of}
use Rattle.pesp_search_least.specs.Reached.{IsLeft, IsReached, IsUnderway}
use Rattle.pesp_search_least.specs.Sums.{InSome, IsBelow, IsLowerBound, IsOutcome, IsStop, IsWithin, Sums}
use Rattle.pesp_search_least.proofs.Reached.{below_equal, left_of_all, outcome_of_all, underway_alike}
use Rattle.pesp_search_network.specs.Arcs.{Arcs, IsCosted, IsMet}
use Rattle.pesp_search_cycles.specs.declared.flip.FlipCut.{FlipCut}
use Rattle.pesp_search_cycles.specs.declared.node.Node.{Node}
use Rattle.pesp_search_cycles.specs.declared.waiting.Waiting.{Waiting}
use Rattle.pesp_search_cycles.specs.Leaves.{sums_of}
use Rattle.pesp_search_cycles.specs.declared.range.Range.{Range}
use Rattle.pesp_search_cycles.specs.Maps.{AreCycles, IsAmong, IsSummed, Net}
use Rattle.pesp_search_cycles.specs.Ranges.{AreIn}
use Rattle.pesp_search_cycles.specs.declared.stack.Progress.{Progress}
use Rattle.pesp_search_cycles.specs.Stacks.{AreEqualBests, IsProgress, net_of}
use Rattle.pesp_search_cycles.specs.Waiting.{IsWaiting, sums_in}
use Rattle.pesp_search_cycles.specs.Walks.{Path}

-- a copy of the best serves as well
pub underway_equal : {R : Type 0} (sums : R → Sums) (root : Sums) (nodes : List R) (cap : ℕ) (best copy : Option Candidate) → AreEqualBests best copy → IsUnderway sums root nodes cap best → IsUnderway sums root nodes cap copy
underway_equal {R} sums root nodes cap None None same is = is
underway_equal {R} sums root nodes cap None (Some c) same is = absurd same
underway_equal {R} sums root nodes cap (Some b) None same is = absurd same
underway_equal {R} sums root nodes cap (Some b) (Some c) same is = record {
  within = is.within;
  left = λ map sum has less. is.left map sum has (omega (arith, less, same.cost));
  found = below_equal root cap b c same is.found;
}

-- what is no stop
pub no_stop : (outcome : Outcome) → ((best : Option Candidate) (bound : ℕ) → outcome ≡ Spent best bound → ⊥) → IsStop outcome → ⊥
no_stop (Found c) none stop = stop
no_stop NoneBelow none stop = stop
no_stop (Spent best bound) none stop = none best bound refl

module _ (N : Net) (before : List Waiting) (now : List Node) (cap : ℕ) (best : Option Candidate)
    (is : IsUnderway (sums_in N) (IsCosted N.network) before cap best)
    (there : IsWithin (InSome (sums_in N) before) (InSome sums_of now)) (back : IsWithin (InSome sums_of now) (InSome (sums_in N) before)) where
  opened : IsUnderway sums_of (IsCosted N.network) now cap best
  opened = underway_alike (sums_in N) sums_of (IsCosted N.network) before now cap best there back is

  pub outcome_of_open : (outcome : Outcome) → IsOutcome (IsReached sums_of now best) cap outcome → IsOutcome (IsCosted N.network) cap outcome
  outcome_of_open outcome o = outcome_of_all sums_of (IsCosted N.network) now cap best opened outcome o

  pub stack_after : (new : List Node) (after : List Waiting) (found copy : Option Candidate) (bound : ℕ) → IsLeft sums_of (IsReached sums_of now best) new cap best (Spent found bound)
      → IsWithin (InSome sums_of new) (InSome (sums_in N) after) → IsWithin (InSome (sums_in N) after) (InSome sums_of new) → AreEqualBests found copy → IsUnderway (sums_in N) (IsCosted N.network) after cap copy
  stack_after new after found copy bound left away home same =
      underway_equal (sums_in N) (IsCosted N.network) after cap found copy same
      (underway_alike sums_of (sums_in N) (IsCosted N.network) new after cap found away home
      (left_of_all sums_of (IsCosted N.network) now cap best opened new found left.0 left.1))

-- a search at its beginning, by a node that has all maps with these residues
module _ (N : Net) (R : List Range) (all : (xs : List ℕ) → IsMet N.network xs → AreIn R xs) (one : Waiting) (nodes : List Waiting) (alone : nodes ≡ one ∷ []) (cap : ℕ) (best : Option Candidate) where
  pub begun_underway : IsWithin (IsAmong N.network R) (IsSummed N one.boxes) → IfSome best (IsBelow (IsCosted N.network) cap) → IsUnderway (sums_in N) (IsCosted N.network) nodes cap best
  begun_underway there found = subst (λ (ns : List Waiting). IsUnderway (sums_in N) (IsCosted N.network) ns cap best) (sym alone) (record {
    within = λ map sum has. elim has [ inl here ↦ here.costed | inr none ↦ absurd none ];
    left = λ map sum has less. inl (there map sum (record { costed = has; inside = all map has.met }));
    found = found;
  })

  pub begun_waiting : IsWaiting N one → All (IsWaiting N) nodes
  begun_waiting is = subst (λ (ns : List Waiting). All (IsWaiting N) ns) (sym alone) (All-cons (IsWaiting N) one [] is (All-nil (IsWaiting N)))

-- ---- what cycles are made of

pub cycles_of : (M : Net) (A : Arcs) (walks : List Path) (cuts : List FlipCut) → M.network ≡ A → walks ≡ M.walks → M.cuts ≡ cuts → AreCycles M → AreCycles (net_of A walks cuts)
cycles_of M A walks cuts network same kept is =
    subst (λ (B : Arcs). AreCycles (net_of B walks cuts)) network
    (subst (λ (ws : List Path). AreCycles (net_of M.network ws cuts)) (sym same)
    (subst (λ (cs : List FlipCut). AreCycles (net_of M.network M.walks cs)) kept is))

-- ---- what another search has found

pub found_copied : (sums : Sums) (cap : ℕ) (best copy : Option Candidate) → AreEqualBests best copy → IfSome best (IsBelow sums cap) → IfSome copy (IsBelow sums cap)
found_copied sums cap None None same is = tt
found_copied sums cap None (Some c) same is = absurd same
found_copied sums cap (Some b) None same is = absurd same
found_copied sums cap (Some b) (Some c) same is = below_equal sums cap b c same is

pub progress_copied : (sums : Sums) (p q : Progress) → q.limits ≡ p.limits → AreEqualBests p.best q.best → IsProgress sums p → IsProgress sums q
progress_copied sums p q limits same is = record {
  floor = subst (λ (l : Limits). IsLowerBound sums l.floor) (sym limits) is.floor;
  found = subst (λ (l : Limits). IfSome q.best (IsBelow sums l.cap)) (sym limits) (found_copied sums p.limits.cap p.best q.best same is.found);
}
