-- The guesses double, and those that were looked up stay.
use Rattle.std.proofs.Common.{◌<◌, ◌-◌, length}
use Rattle.pesp_counts_arcs.specs.Places.{AreByBits, StayGuessed}
use Rattle.pesp_counts_arcs.proofs.places.make_guesses.Given as goal

abbrev pub invariant-loop-guesses : goal.invariant-loop-guesses
invariant-loop-guesses l = record {
  some : 0 < length l.guesses.items;
  by_bits : AreByBits l.guesses.items;
  stay : StayGuessed l.fn.guesses.items l.guesses.items;
}

abbrev pub decreases-loop-guesses : goal.decreases-loop-guesses
decreases-loop-guesses l = l.count - length l.guesses.items
