-- The first line feed ends a line, which is too long or not; without one all bytes are of one line.
use Rattle.std.proofs.Common.{ℕ, ◌<◌, ◌≤◌, [], length, take, drop, sym, arith, rules, append-nil, length-take-le, take-append-drop}
use Rattle.std.proofs.lemmas.Bool.{eqb-true, false_from_ne_true}
use Rattle.pesp_shell_io.specs.declared.limits.TheConstants.{LONGEST_LINE}
use Rattle.pesp_shell_io.specs.Lines.{is_line_feed}
use Rattle.pesp_shell_io.proofs.SplitLemmas.{uncut_before, uncut_by}
use Rattle.pesp_shell_io.proofs.line_reader.front_of.Goals as goal

pub returns-in-Some-clause-front : goal.returns-in-Some-clause-front
returns-in-Some-clause-front c =
    let held = c.args.held.now in
    let i = c.in-Some.length in
    let within : i ≤ length held = omega (arith, c.in-Some.ensures.0.high) in
    let before = λ (k : ℕ) (below : k < i). false_from_ne_true _ (c.in-Some.ensures.0.before k (omega arith) below) in
    (c.in-Some.ensures.0.high, eqb-true _ _ c.in-Some.ensures.1, uncut_before is_line_feed held i within before, search rules)

pub returns-in-None-clause-front : goal.returns-in-None-clause-front
returns-in-None-clause-front c =
    (uncut_by is_line_feed c.args.held.now (λ k below. false_from_ne_true _ (c.in-None.ensures k (omega arith) below)), search rules)

pub returns-in_default-clause-front : goal.returns-in_default-clause-front
returns-in_default-clause-front c =
    let held = c.args.held.now in
    let i = c.in-Some.length in
    let within : i ≤ length held = omega (arith, c.in-Some.ensures.0.high) in
    let before = λ (k : ℕ) (below : k < i). false_from_ne_true _ (c.in-Some.ensures.0.before k (omega arith) below) in
    let long : LONGEST_LINE < i = search rules in
    (take i held, drop i held, sym (take-append-drop i held), uncut_before is_line_feed held i within before, omega (arith, long, length-take-le i held within))

pub returns-in_default-2-clause-front : goal.returns-in_default-2-clause-front
returns-in_default-2-clause-front c =
    let held = c.args.held.now in
    (held, [], sym (append-nil held), uncut_by is_line_feed held (λ k below. false_from_ne_true _ (c.in-None.ensures k (omega arith) below)), search rules)
