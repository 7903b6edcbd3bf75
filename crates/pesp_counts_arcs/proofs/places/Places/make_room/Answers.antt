-- More guesses find what was found.
use Rattle.std.proofs.Common.{◌≡◌, ap}
use Rattle.pesp_counts_arcs.proofs.PlaceLaws.{AreFound-more}
use Rattle.pesp_counts_arcs.proofs.places.Places.make_room.Goals as goal

pub invariant_of-self-2 : goal.invariant_of-self-2
invariant_of-self-2 c =
    let same : c.reserve.new.self.slots ≡ c.self.inside.numbers.slots = ap (λ s. s.slots) c.in_ok-reserve.ensures.rest_kept in
    rw same (AreFound-more (record { numbers = c.self.inside.numbers.slots }) c.self.inside.guesses.items c.make_guesses.new.guesses.items c.self.inside.others.entries c.self.invariant c.make_guesses.ensures.by_bits c.make_guesses.ensures.stay)
