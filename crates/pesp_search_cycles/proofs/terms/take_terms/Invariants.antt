-- What is left of the terms is still to be taken.
use Rattle.std.proofs.Common.{◌≡◌, ℕ, List, ◌+ℤ◌, ◌-ℤ◌, ◌*ℤ◌, drop, length}
use Rattle.pesp_search_cycles.specs.Terms.{left, products}
use Rattle.pesp_search_cycles.proofs.terms.take_terms.Given as goal

abbrev pub invariant-loop-term : goal.invariant-loop-term
invariant-loop-term l = record {
  long : length l.rates ≡ length l.initial.rates;
  taken : (zs : List ℕ) → length zs ≡ length l.initial.rates → products l.rates zs ≡ (products l.initial.rates zs -ℤ l.multiplier *ℤ left l.terms zs) +ℤ l.multiplier *ℤ left (drop l.term-index l.terms) zs;
}
