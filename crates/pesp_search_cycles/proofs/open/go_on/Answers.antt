-- The bound is that of the maps before.
use Rattle.std.proofs.Common.{◌≡◌, ℕ, Option, Some, None, MatchOption, refl, arith}
use Rattle.pesp_search_least.specs.Sums.{IsEmpty, IsLowerBound}
use Rattle.pesp_search_cycles.specs.Leaves.{sums_of}
use Rattle.pesp_search_cycles.proofs.Covered.{bound_before}
use Rattle.pesp_search_cycles.proofs.open.go_on.Goals as goal

pub returns-in_default-clause-next : goal.returns-in_default-clause-next
returns-in_default-clause-next c =
    let node = c.solve.new.self in
    bound_before node c.args.node.now c.args.limits.cap c.solve.ensures.cycles c.solve.ensures.boxes
    (λ map sum s. absurd (none_left (IsEmpty (sums_of node)) (IsLowerBound (sums_of node)) c.bound.result c.in_default.not-Some c.bound.ensures map sum s))
  where
    none_left : (P : Type 0) (Q : ℕ → Type 0) (o : Option ℕ) → ((x : ℕ) → o ≡ Some x → ⊥) → MatchOption o P Q → P
    none_left P Q None n h = h
    none_left P Q (Some x) n h = absurd (n x refl)

pub returns-then-limits-bound-clause-next : goal.returns-then-limits-bound-clause-next
returns-then-limits-bound-clause-next c =
    let node = c.solve.new.self in
    let least : IsLowerBound (sums_of node) c.in-Some.bound = rw c.in-Some.is at c.bound.ensures in
    bound_before node c.args.node.now c.args.limits.cap c.solve.ensures.cycles c.solve.ensures.boxes
    (λ map sum s. omega (arith, least map sum s, c.if-limits-bound.true))
