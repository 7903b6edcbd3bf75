-- The number that goes leaves its place to none, and the map forgets it.
use Rattle.std.proofs.Common.{◌∙◌, refl}
use Rattle.pesp_counts_arcs.specs.Places.{Places}
use Rattle.pesp_counts_arcs.proofs.PlaceLaws.{AreFound-gone, IsTakenOut, place_stands, taken_guess, taken_other, went, went_none}
use Rattle.pesp_counts_arcs.proofs.places.Places.remove.Goals as goal
use Rattle.pesp_counts_arcs.proofs.places.Places.remove.Goals.{in-Some, in-None}

pub remove-requires : goal.remove-requires
remove-requires c =
    let taken : IsTakenOut c.self.inside.numbers.slots c.match-guessed_place.self-inside.numbers.slots c.match-guessed_place.self-inside.guesses.items c.self.inside.others.entries c.match-guessed_place.self-inside.others.entries c.args.number c.match-guessed_place.place = elim c.match-guessed_place.branch [
      | in-Some w ↦ rw (w.place-is, w.self-inside-is) (taken_guess c.self.inside.numbers.slots c.self.inside.guesses.items c.deref.result.now c.self.inside.others.entries c.args.number c.self.invariant c.deref.ensures.value w.in-Some.place w.in-Some.ensures)
      | in-None w ↦ rw (w.place-is, w.self-inside-is) (taken_other c.self.inside.numbers.slots c.self.inside.guesses.items c.deref.result.now c.self.inside.others.entries c.args.number c.self.invariant c.deref.ensures.value w.remove-place.new.self.entries w.remove-place.result w.in-None.ensures w.remove-place.ensures.value w.remove-place.ensures.updates.0)
    ] in
    rw (place_stands (record { numbers = c.match-guessed_place.self-inside.numbers.slots }) c.args.number c.in-Some-place.place (taken.its ∙ c.in-Some-place.is)) refl

taken-remove : (c : goal.After-remove) → IsTakenOut c.self.inside.numbers.slots c.match-guessed_place.self-inside.numbers.slots c.match-guessed_place.self-inside.guesses.items c.self.inside.others.entries c.match-guessed_place.self-inside.others.entries c.args.number c.match-guessed_place.place
taken-remove c =
    elim c.match-guessed_place.branch [
      | in-Some w ↦ rw (w.place-is, w.self-inside-is) (taken_guess c.self.inside.numbers.slots c.self.inside.guesses.items c.deref.result.now c.self.inside.others.entries c.args.number c.self.invariant c.deref.ensures.value w.in-Some.place w.in-Some.ensures)
      | in-None w ↦ rw (w.place-is, w.self-inside-is) (taken_other c.self.inside.numbers.slots c.self.inside.guesses.items c.deref.result.now c.self.inside.others.entries c.args.number c.self.invariant c.deref.ensures.value w.remove-place.new.self.entries w.remove-place.result w.in-None.ensures w.remove-place.ensures.value w.remove-place.ensures.updates.0)
    ]

pub invariant_of-self : goal.invariant_of-self
invariant_of-self c =
    let taken = taken-remove c in
    let old : Places = record { numbers = c.match-guessed_place.self-inside.numbers.slots } in
    let new : Places = record { numbers = c.remove.new.self.slots } in
    let there = place_stands old c.args.number c.in-Some-place.place (taken.its ∙ c.in-Some-place.is) in
    AreFound-gone old new c.args.number c.in-Some-place.place taken.found.are_places c.remove.ensures.updates.others there c.remove.ensures.updates.changed c.match-guessed_place.self-inside.guesses.items c.self.inside.others.entries c.match-guessed_place.self-inside.others.entries taken.found taken.same taken.gone

pub returns-in-Some-place-clause-places : goal.returns-in-Some-place-clause-places
returns-in-Some-place-clause-places c n =
    let taken = taken-remove c in
    let old : Places = record { numbers = c.match-guessed_place.self-inside.numbers.slots } in
    let new : Places = record { numbers = c.remove.new.self.slots } in
    let there = place_stands old c.args.number c.in-Some-place.place (taken.its ∙ c.in-Some-place.is) in
    rw (← c.self.view_is, ← taken.view) (went old new c.args.number c.in-Some-place.place taken.found.are_places c.remove.ensures.updates.others there c.remove.ensures.updates.changed n)

pub returns-in-Some-place-clause-paired : goal.returns-in-Some-place-clause-paired
returns-in-Some-place-clause-paired c = (invariant_of-self c).are_places

pub returns-in_default-clause-places : goal.returns-in_default-clause-places
returns-in_default-clause-places c n =
    let taken : IsTakenOut c.self.inside.numbers.slots c.match-guessed_place.self-inside.numbers.slots c.match-guessed_place.self-inside.guesses.items c.self.inside.others.entries c.match-guessed_place.self-inside.others.entries c.args.number c.match-guessed_place.place = elim c.match-guessed_place.branch [
      | in-Some w ↦ rw (w.place-is, w.self-inside-is) (taken_guess c.self.inside.numbers.slots c.self.inside.guesses.items c.deref.result.now c.self.inside.others.entries c.args.number c.self.invariant c.deref.ensures.value w.in-Some.place w.in-Some.ensures)
      | in-None w ↦ rw (w.place-is, w.self-inside-is) (taken_other c.self.inside.numbers.slots c.self.inside.guesses.items c.deref.result.now c.self.inside.others.entries c.args.number c.self.invariant c.deref.ensures.value w.remove-place.new.self.entries w.remove-place.result w.in-None.ensures w.remove-place.ensures.value w.remove-place.ensures.updates.0)
    ] in
    rw (← c.self.view_is, ← taken.view) (went_none (record { numbers = c.match-guessed_place.self-inside.numbers.slots }) c.args.number (taken.its ∙ c.in_default.is) n)
