-- What goes with residue 0 at the end is what the window holds.
use Rattle.std.proofs.Common.{◌≡◌, ◌%◌, ◌<◌, min, refl, ap, sym, subst, ◌∙◌, arith, mod-lt}
use Rattle.pesp_base.specs.Windows.{is_held}
use Rattle.pesp_counts_arcs.specs.declared.end.End.{End}
use Rattle.pesp_counts_supports.specs.Restored.{AreRanges}
use Rattle.pesp_counts_supports.proofs.OneSum.{held_within, passes_held, window_few}
use Rattle.pesp_counts_supports.proofs.bringing.ranges_of.Goals as goal
use Rattle.pesp_counts_supports.proofs.bringing.ranges_of.Goals.{After-ranges-2}

-- the end that is made for the window
abbrev end_for : (c : After-ranges-2) → End
end_for c = record { looks_at = 0; mate = 0; first = c.first.result % c.get.result; width = c.min.result }

pub returns : goal.returns
returns c =
    let w = c.args.window in
    let T = c.get-3.result in
    let is : T ≡ c.args.period = c.get-3.ensures.value in
    let some : 0 < T = omega (arith, is, c.get.ensures.limits.0) in
    let first : c.first.result % c.get.result ≡ w.first % T = rw (c.first.ensures, c.get.ensures.value, is) refl in
    let width : c.min.result ≡ min w.length T = omega (arith, c.min.ensures, c.length.ensures, c.get-2.ensures.value, is) in
    let low : w.first % T < T = mod-lt w.first some in
    let are : AreRanges T c.ranges-2.result = record { order = c.ranges-2.ensures.order; below = c.ranges-2.ensures.below; wrapped = c.ranges-2.ensures.wrapped } in
    record {
      ranges = subst (λ n. AreRanges n c.ranges-2.result) is are;
      few = λ less. let few = window_few T (end_for c) c.ranges-2.result are (omega (arith, first, low)) (omega (arith, width, less, is)) c.ranges-2.ensures.passes in omega (arith, few, is);
      held = λ r rl.
          let below : r < T = omega (arith, rl, is) in
          sym (c.ranges-2.ensures.passes r below)
          ∙ passes_held T (record { first = w.first % T; length = min w.length T }) (end_for c) r first width low below
          ∙ held_within T w r some
          ∙ ap (λ n. is_held n w r) is;
    }
