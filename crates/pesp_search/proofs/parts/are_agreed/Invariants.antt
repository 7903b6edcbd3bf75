-- Labels are agreed where they are along the activities that are left.
use Rattle.std.proofs.Common.{◌≡◌, ◌↔◌, All}
use Rattle.pesp_search.specs.Parts.{AreAgreed}
use Rattle.pesp_search.specs.Paths.{at}
use Rattle.pesp_search.proofs.parts.are_agreed.Given as goal

abbrev pub invariant-loop-activity : goal.invariant-loop-activity
invariant-loop-activity l = record {
  can_next : (goal.iterator-loop-activity).can_next l.activity-iterator;
  is_finite : (goal.iterator-loop-activity).is_finite l.activity-iterator;
  left : AreAgreed l.instance l.labels ↔ All (λ a. at l.instance l.labels a.from ≡ at l.instance l.labels a.to) l.activity-iterator;
}
