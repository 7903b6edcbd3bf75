-- The slack is the same, and reaches as far.
use Rattle.std.proofs.Common.{◌≡◌, pos, neg_ℤ, ◌+ℤ◌, arith}
use Rattle.std.proofs.lemmas.Int.{ints}
use Rattle.pesp_search_network.proofs.Moved.{moved_by}
use Rattle.pesp_search_network.proofs.presolve.moved.move_arc.Goals as goal

pub returns : goal.returns
returns c =
    let span = c.in_ok-span.span in
    let lower : span.lower ≡ neg_ℤ (pos c.slack.result) = omega (arith, ints, c.in_ok-span.ensures.0, c.from-lower.ensures) in
    let upper : span.upper ≡ span.lower +ℤ pos c.width.result = omega (arith, ints, c.in_ok-span.ensures.0, c.in_ok-span.ensures.1, c.from-lower.ensures, c.from.ensures) in
    moved_by c.args.period c.args.arc.now c.args.from c.args.to span c.width.result (omega (arith, c.get.ensures.limits.0)) c.width.ensures.value (rw c.slack.ensures.value at lower) upper
