-- An event beyond the limit is none of the instance, and so has no window.
use Rattle.std.proofs.Common.{◌≡◌, ◌<◌, nat_lt, true, arith, inl, inr, refl}
use Rattle.std.proofs.lemmas.Bool.{cases_lt}
use Rattle.pesp_base.specs.Limits.{greatest_number}
use Rattle.pesp_counts_supports.proofs.Brought.{unwindowed_beyond}
use Rattle.pesp_counts_supports.proofs.bringing.admitted_at.Goals as goal

pub returns-in_err-new-clause-none : goal.returns-in_err-new-clause-none
returns-in_err-new-clause-none c is r rl =
    let I = c.args.instance.now in
    let n = c.in-Some.number in
    let beyond : greatest_number < n =
    elim (cases_lt greatest_number n) [
      | inl more ↦ more
      | inr few ↦ absurd (c.in_err-new.ensures few)
    ] in
    let below : nat_lt r I.period ≡ true = grind (arith, rl) in
    rw (← c.in-Some.ensures) (rw (below, unwindowed_beyond I n c.period-period.ensures.network beyond) refl)
