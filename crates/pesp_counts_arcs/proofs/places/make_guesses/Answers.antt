-- The list is copied behind itself, and what was guessed stays.
use Rattle.std.proofs.Common.{◌≡◌, ◌++◌, ◌-◌, ◌∙◌, ap, take, arith, length, length-append}
use Rattle.std.proofs.Math.Seq.{take-length}
use Rattle.pesp_counts_arcs.proofs.GuessLaws.{AreByBits-copied, guess_of-copied}
use Rattle.pesp_counts_arcs.proofs.places.make_guesses.Goals as goal

pub loop-guesses-preserved : goal.loop-guesses-preserved
loop-guesses-preserved c =
    let guesses = c.loop-guesses.guesses.items in
    let many : c.loop-guesses.guesses.len - 0 ≡ length guesses = omega arith in
    let twice : c.extend_from_within.new.self.items ≡ guesses ++ guesses = c.in_ok-extend_from_within.ensures.items ∙ ap (λ n. guesses ++ take n guesses) many ∙ ap (λ k. guesses ++ k) (take-length guesses) in
    rw twice
    (record {
      some = omega (arith, c.loop-guesses.invariant.some, length-append guesses guesses);
      by_bits = AreByBits-copied guesses c.loop-guesses.invariant.by_bits;
      stay = λ n p is. guess_of-copied guesses n p (c.loop-guesses.invariant.stay n p is);
    })
