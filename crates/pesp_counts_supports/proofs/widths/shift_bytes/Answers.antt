-- One count more.
use Rattle.std.proofs.Common.{◌≡◌, ℕ, ◌+◌, ◌-◌, ◌<◌, length, slice_index_or, ◌∙◌, inr, arith}
use Rattle.std.proofs.lemmas.List.{length-set}
use Rattle.pesp_counts_supports.proofs.SumLaws.{kept_more, moved_more, out_still}
use Rattle.pesp_counts_supports.proofs.widths.shift_bytes.Goals as goal

pub overflow_add-count : goal.overflow_add-count
overflow_add-count c =
    let at = c.loop-at.at in
    let same = c.loop-at.invariant.elsewhere (c.args.from + at) (inr (omega arith)) in
    omega (arith, same, c.from.ensures, c.requires.can.small at c.loop-at-test.true)

pub overflow_sub-bytes : goal.overflow_sub-bytes
overflow_sub-bytes c =
    let at = c.loop-at.at in
    let same = c.loop-at.invariant.elsewhere (c.args.from + at) (inr (omega arith)) in
    omega (arith, same, c.from.ensures, c.requires.can.some at c.loop-at-test.true)

pub overflow_cast-bytes : goal.overflow_cast-bytes
overflow_cast-bytes c =
    let at = c.loop-at.at in
    let same = c.loop-at.invariant.elsewhere (c.args.from + at) (inr (omega arith)) in
    omega (arith, same, c.from.ensures, c.requires.can.some at c.loop-at-test.true, c.requires.can.low at c.loop-at-test.true)

pub loop-at-preserved : goal.loop-at-preserved
loop-at-preserved c =
    let i = c.loop-at.invariant in
    let at = c.loop-at.at in
    let from = c.args.from in
    let counts = c.loop-at.bytes in
    let down : ℕ → ℕ = λ k. slice_index_or c.args.down.now k 0 in
    let up : ℕ → ℕ = λ k. slice_index_or c.args.up.now k 0 in
    let x : ℕ = c.from.result + up at - down at in
    let same = i.elsewhere (from + at) (inr (omega arith)) in
    let within : from + at < length counts = omega (arith, i.long, c.requires.within, c.loop-at-test.true) in
    let is : x + down at ≡ slice_index_or c.args.bytes.now (from + at) 0 + up at = omega (arith, same, c.from.ensures, c.requires.can.some at c.loop-at-test.true) in
    record {
      long = length-set counts (from + at) x ∙ i.long;
      here = moved_more counts c.args.bytes.now from at x down up within is i.here;
      elsewhere = kept_more counts c.args.bytes.now from at x i.elsewhere;
    }

pub returns : goal.returns
returns c =
    record {
      shifted = record {
        long = c.loop-at.invariant.long;
        here = λ i low. c.loop-at.invariant.here i (omega (arith, low, c.loop-at-test.false));
        elsewhere = λ i out. c.loop-at.invariant.elsewhere i (out_still c.args.from (length c.args.down.now) c.loop-at.at i c.loop-at.auto.at-end out);
      };
    }
