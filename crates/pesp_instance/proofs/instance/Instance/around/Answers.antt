-- The numbers at the event name the activities around it.
use Rattle.pesp_instance.proofs.Listed.{named_by-numbers_at, AreNames-numbers_at}
use Rattle.pesp_instance.proofs.Rising.{Rises-from_increasing}
use Rattle.pesp_instance.proofs.instance.Instance.around.Goals as goal

pub invariant_of-result : goal.invariant_of-result
invariant_of-result c =
    rw c.numbers_at.ensures.value (AreNames-numbers_at c.args.event c.self.inside.vertices.values c.self.inside.activities.values (rw c.numbers_at.ensures.value at c.numbers_at.ensures.ordered) (Rises-from_increasing (λ a. a.id) c.self.inside.activities.values c.self.invariant.network.activities_rise) c.self.invariant.listed)

pub returns-clause-value : goal.returns-clause-value
returns-clause-value c =
    rw (c.numbers_at.ensures.value, ← c.self.view_is) (named_by-numbers_at c.args.event c.self.inside.vertices.values c.self.inside.activities.values (rw c.numbers_at.ensures.value at c.numbers_at.ensures.ordered) (Rises-from_increasing (λ a. a.id) c.self.inside.activities.values c.self.invariant.network.activities_rise) c.self.invariant.listed)
