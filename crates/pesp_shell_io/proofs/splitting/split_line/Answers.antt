-- The first line feed ends the first line; a text without one is a line.
use Rattle.std.proofs.Common.{slice_index, true, ◌≡◌, ◌<◌, [], ◌∷◌, ℕ, ◌+◌, List, length, add-one, rules, arith}
use Rattle.std.proofs.lemmas.Bool.{false_from_ne_true}
use Rattle.std.proofs.lemmas.List.{take_rest}
use Rattle.pesp_shell_io.specs.Lines.{is_line_feed, lines_of}
use Rattle.pesp_shell_io.proofs.SplitLemmas.{cut_first, cut_nowhere}
use Rattle.pesp_shell_io.proofs.splitting.split_line.Goals as goal

pub returns-in-Some-clause-lines : goal.returns-in-Some-clause-lines
returns-in-Some-clause-lines c =
    rw (take_rest c.args.text.now (c.in-Some.end + 1), add-one) (cut_first is_line_feed c.args.text.now c.in-Some.end c.in-Some.ensures.0.high
    (λ k below. false_from_ne_true _ (c.in-Some.ensures.0.before k (omega arith) below)) c.in-Some.ensures.1)

whole : (text : List ℕ) → 0 < length text → ((k : ℕ) → k < length text → ¬ (is_line_feed (slice_index text k) ≡ true)) → lines_of text ≡ text ∷ []
whole [] some none = absurd (omega (arith, some))
whole (b ∷ bytes) some none = cut_nowhere is_line_feed b bytes (λ k below. false_from_ne_true _ (none k below))

pub returns-in-None-clause-lines : goal.returns-in-None-clause-lines
returns-in-None-clause-lines c = whole c.args.text.now (search rules) (λ k below. c.in-None.ensures k (omega arith) below)
