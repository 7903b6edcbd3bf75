-- The rates so far.
use Rattle.std.proofs.Common.{◌≡◌, ℕ, ◌<◌, pos, length, get_or}
use Rattle.pesp_search_cycles.specs.Terms.{rate_at}
use Rattle.pesp_search_cycles.proofs.terms.weigh.Given as goal

abbrev pub invariant-loop-index : goal.invariant-loop-index
invariant-loop-index l = record {
  long : length l.rates ≡ length l.initial.rates;
  each : (k : ℕ) → k < l.index → get_or l.rates k (pos 0) ≡ rate_at l.scale l.arcs k;
}
