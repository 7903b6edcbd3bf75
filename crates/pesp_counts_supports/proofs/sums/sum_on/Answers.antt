-- One sum more.
use Rattle.std.proofs.Common.{◌≡◌, ◌≢◌, ◌+◌, ◌<◌, ◌≤◌, ℕ, length, slice_index_or, slice_set, inl, inr, ap, ◌∙◌, arith}
use Rattle.std.proofs.lemmas.Bool.{cases_eq}
use Rattle.std.proofs.lemmas.List.{get_or-set_other, get_or-set_same, length-set}
use Rattle.pesp_counts_supports.proofs.SumLaws.{on_low}
use Rattle.pesp_counts_supports.proofs.sums.sum_on.Goals as goal

pub overflow_add-sums : goal.overflow_add-sums
overflow_add-sums c =
    let T = c.args.period in
    let i = c.loop-at.invariant in
    let at = c.loop-at.at in
    let once : (k : ℕ) → k < T → slice_index_or c.loop-at.sums k 0 ≤ c.args.many = λ k low. let e = i.once k low in let f = c.requires.low k low in omega (arith, e, f) in
    let most = on_low T c.args.many c.requires.some c.loop-at.sums at once i.on 2 at (omega arith) (omega (arith, c.loop-at-test.true)) in
    omega (arith, most, c.requires.few, c.requires.period)

pub loop-at-preserved : goal.loop-at-preserved
loop-at-preserved c =
    let T = c.args.period in
    let i = c.loop-at.invariant in
    let at = c.loop-at.at in
    let sums = c.loop-at.sums in
    let more : ℕ = slice_index_or sums at 0 + c.args.many in
    let place : ℕ = T + at in
    let within : place < length sums = omega (arith, i.long, c.requires.long, c.loop-at-test.true) in
    let other : (k : ℕ) → k ≢ place → slice_index_or (slice_set sums place more) k 0 ≡ slice_index_or sums k 0 = λ k apart. get_or-set_other sums place k more 0 apart in
    record {
      long = length-set sums place more ∙ i.long;
      once = λ k low. other k (λ e. absurd (omega (arith, low, e))) ∙ i.once k low;
      on = λ k low.
          let low_is : slice_index_or (slice_set sums place more) k 0 ≡ slice_index_or sums k 0 = other k (λ e. absurd (omega (arith, low, e, c.requires.some))) in
          elim (cases_eq k at) [
            | inl same ↦
                let here : slice_index_or (slice_set sums place more) place 0 ≡ more = get_or-set_same sums place more 0 within in
                let there : slice_index_or (slice_set sums place more) (T + k) 0 ≡ more = ap (λ n. slice_index_or (slice_set sums place more) (T + n) 0) same ∙ here in
                let was = ap (λ n. slice_index_or sums n 0) same in
                omega (arith, there, low_is, was)
            | inr apart ↦
                let so_far = i.on k (omega (arith, low, apart)) in
                let stays = other (T + k) (λ e. absurd (omega (arith, e, apart))) in
                omega (arith, so_far, stays, low_is)
          ];
    }

pub returns-clause-on : goal.returns-clause-on
returns-clause-on c i most = c.loop-at.invariant.on i (omega (arith, most, c.loop-at-test.false))
