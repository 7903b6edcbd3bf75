use Rattle.pesp_tests_keepers.proofs.driven.Driven.push.Goals as goal

-- no pair of the event is among those that were noted, and these are the pushed ones
pub push_fix-requires-clause-free : goal.push_fix-requires-clause-free
push_fix-requires-clause-free g c r is =
    c.has_event-2.ensures c.if-has_event.false r (rw (c.self.invariant, ← c.deref.ensures.value) at is)
