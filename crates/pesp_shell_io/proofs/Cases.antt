-- Small cases of the definitions, by computation.
use Rattle.std.proofs.Common.{◌≡◌, refl, [], ◌∷◌, ◌++◌, codes}
use Rattle.pesp_shell_io.specs.declared.limits.TheConstants.{LONGEST_LINE, MOST_LINES}
use Rattle.pesp_shell_io.specs.Lines.{ended_lines, lines_of, longest_line, most_lines}

no_lines : lines_of [] ≡ []
no_lines = refl

line_with_end : lines_of (codes "a" ++ 10 ∷ []) ≡ codes "a" ∷ []
line_with_end = refl

line_without_end : lines_of (codes "a" ++ 10 ∷ 10 ∷ codes "b") ≡ codes "a" ∷ [] ∷ codes "b" ∷ []
line_without_end = refl

return_in_a_line : lines_of (codes "a" ++ 13 ∷ 10 ∷ []) ≡ (codes "a" ++ 13 ∷ []) ∷ []
return_in_a_line = refl

ended : ended_lines (codes "a" ++ 10 ∷ 10 ∷ codes "b") ≡ codes "a" ∷ [] ∷ []
ended = refl

longest : LONGEST_LINE ≡ longest_line
longest = refl

most : MOST_LINES ≡ most_lines
most = refl
