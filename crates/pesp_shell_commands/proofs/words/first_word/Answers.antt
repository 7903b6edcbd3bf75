-- The text after its spaces begins with its first word.
use Rattle.std.proofs.Common.{arith, ap, sym, ◌∙◌, ◌∷◌, take, drop}
use Rattle.pesp_shell_commands.specs.Words.{words_of}
use Rattle.pesp_shell_commands.proofs.FirstWordLemmas.{first_word_of, length_of_word-le-length}
use Rattle.pesp_shell_commands.proofs.words.first_word.Goals as goal

pub split_at-requires : goal.split_at-requires
split_at-requires c = omega (arith, length_of_word-le-length c.skip_spaces-text.result.now)

pub returns : goal.returns
returns c =
    sym c.skip_spaces-text.ensures.words
    ∙ first_word_of c.skip_spaces-text.result.now c.skip_spaces-text.ensures.word (sym c.is_empty.ensures ∙ c.if-is_empty.false)
    ∙ ap (λ n. take n c.skip_spaces-text.result.now ∷ words_of (drop n c.skip_spaces-text.result.now)) (sym c.length_of_word.ensures)
    ∙ ap (λ w. w ∷ words_of (drop c.length_of_word.result c.skip_spaces-text.result.now)) (sym c.split_at.ensures.front)
    ∙ ap (λ b. c.split_at.result.0.now ∷ words_of b) (sym c.split_at.ensures.back)
