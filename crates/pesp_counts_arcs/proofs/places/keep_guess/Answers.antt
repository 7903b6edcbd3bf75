-- A guess is written where no number stands at the one that there was.
use Rattle.std.proofs.Common.{◌≡◌, ◌<◌, ◌≤◌, ◌∙◌, ◌%◌, ℕ, Some, None, get_or, length, ap, sym, rules, arith}
use Rattle.slab.specs.Slab.{get}
use Rattle.pesp_counts_arcs.specs.Places.{IsGuessed}
use Rattle.pesp_counts_arcs.proofs.GuessLaws.{AreGuessed-lost, AreGuessed-written, guess_of-same}
use Rattle.pesp_counts_arcs.proofs.places.keep_guess.Goals as goal
use Rattle.pesp_counts_arcs.proofs.places.keep_guess.Goals.{in-Some+else-guess_index-index, in_default-get}

pub returns-in_default : goal.returns-in_default
returns-in_default c =
    let high : 4294967296 ≤ c.args.numbers.now.vacant_key = search rules in
    let low : get_or c.args.guesses.now (c.args.number % length c.args.guesses.now) 0 < 4294967296 = search rules in
    AreGuessed-lost c.args.guesses.now c.args.number 0 c.args.numbers.now c.requires.some (λ same. absurd (omega arith))

pub returns-then-guess_index-index : goal.returns-then-guess_index-index
returns-then-guess_index-index c =
    let free : get c.args.numbers.now c.args.numbers.now.vacant_key ≡ None = rw c.vacant_key.ensures.value at c.vacant_key.ensures.vacant in
    let stands : Some c.in-Some.other.now ≡ get c.args.numbers.now (get_or c.args.guesses.now (c.args.number % length c.args.guesses.now) 0) = rw (← c.guess_index-index.ensures) c.in-Some.ensures in
    AreGuessed-lost c.args.guesses.now c.args.number 0 c.args.numbers.now c.requires.some
    (λ same. let none : Some c.in-Some.other.now ≡ None = stands ∙ ap (get c.args.numbers.now) same ∙ free in absurd (cc))

pub returns : goal.returns
returns c =
    let out : (m q : ℕ) → m % length c.args.guesses.now ≡ c.args.number % length c.args.guesses.now → IsGuessed c.args.numbers.now c.args.guesses.now m q → ⊥ = λ m q same guessed.
    let there : get_or c.args.guesses.now c.guess_index-index.result 0 ≡ q = rw c.guess_index-index.ensures (guess_of-same c.args.guesses.now c.args.number m q c.requires.some same guessed.0) in
    elim c.match-get.branch [
      | in-Some+else-guess_index-index w ↦
          let that : Some w.in-Some.other.now ≡ Some m = w.in-Some.ensures ∙ ap (get c.args.numbers.now) there ∙ guessed.1 in
          let other : w.in-Some.other.now ≡ m = cc in
          absurd (w.if-guess_index-index.false (w.guess_index.ensures ∙ ap (λ k. k % length c.args.guesses.now) other ∙ same ∙ sym c.guess_index-index.ensures))
      | in_default-get w ↦ let none : None ≡ Some m = w.in_default-get.ensures ∙ ap (get c.args.numbers.now) there ∙ guessed.1 in absurd (cc)
    ] in
    rw c.guess_index-index.ensures (AreGuessed-written c.args.guesses.now c.args.number c.in-Ok.place c.requires.some c.args.numbers.now (sym (c.in-Ok.ensures.1 ∙ c.vacant_key.ensures.value)) out)
