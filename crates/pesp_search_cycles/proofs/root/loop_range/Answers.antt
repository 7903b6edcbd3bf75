-- A loop has one slack wherever its event stands.
use Rattle.std.proofs.Common.{◌≡◌, ℕ, ℤ, pos, ◌-ℤ◌, sym, ap, ◌∙◌, arith}
use Rattle.std.proofs.lemmas.Int.{ints}
use Rattle.pesp_base.specs.Tensions.{residue, slack_of}
use Rattle.pesp_search_cycles.proofs.root.loop_range.Goals as goal

pub returns : goal.returns
returns c r met =
    let T = c.args.period in
    let span = c.args.arc.now.span in
    let same : slack_of T span r r ≡ slack_of T span 0 0 = ap (residue T) (apart r span.lower) in
    (c.at.ensures (slack_of T span r r)).1 (c.span_range-range.ensures r r met, same ∙ sym c.slack.ensures.value)
  where
    apart : (r : ℕ) (l : ℤ) → (pos r -ℤ pos r) -ℤ l ≡ (pos 0 -ℤ pos 0) -ℤ l
    apart r l = omega (arith, ints)
