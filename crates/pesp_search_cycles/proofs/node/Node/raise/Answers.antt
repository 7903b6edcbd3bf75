-- The bound is the greater one.
use Rattle.std.proofs.Common.{Option, ℕ, sym, subst}
use Rattle.std.specs.Option.{ForNone, ForSome}
use Rattle.pesp_search_least.specs.Sums.{IsEmpty, IsLowerBound}
use Rattle.pesp_search_cycles.specs.Maps.{IsSummed}
use Rattle.pesp_search_cycles.proofs.Floors.{greater_none, greater_some}
use Rattle.pesp_search_cycles.proofs.node.Node.raise.Goals as goal

pub invariant_of-self-clause-none : goal.invariant_of-self-clause-none
invariant_of-self-clause-none c =
    let s = c.told-told.new.self in
    subst (λ (o : Option ℕ). ForNone o (IsEmpty (IsSummed s.cycles.now s.boxes))) (sym c.greater-self.ensures)
    (greater_none (IsSummed s.cycles.now s.boxes) s.bound c.told-told.result s.none c.told-told.ensures.told)

pub invariant_of-self-clause-lower : goal.invariant_of-self-clause-lower
invariant_of-self-clause-lower c =
    let s = c.told-told.new.self in
    subst (λ (o : Option ℕ). ForSome o (IsLowerBound (IsSummed s.cycles.now s.boxes))) (sym c.greater-self.ensures)
    (greater_some (IsSummed s.cycles.now s.boxes) s.bound c.told-told.result s.lower c.told-told.ensures.told)
