-- The search is by the number of each entry.
use Rattle.std.proofs.Common.{rules}
use Rattle.std.proofs.lemmas.List.Sorted.{answers_always}
use Rattle.pesp_tension.proofs.Places.{searched}
use Rattle.pesp_tension.proofs.look_up.place.Goals as goal

pub returns : goal.returns
returns c =
    let facts = c.binary_search_by_key.ensures in
    let by_event = facts.position (λ entry. entry.0) (answers_always _ _ _ (λ f a r g called. search rules)) in
    rw (← c.get.ensures.value) (searched c.args.times.now c.get.result _ c.requires facts.bound by_event)
