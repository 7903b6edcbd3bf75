-- A text at its first point.
use Rattle.std.proofs.Common.{◌≡◌, ℕ, ◌+◌, inl, inr, Bool, cond, List, [], length, take, drop, Option, Some, None, MatchOption, refl, sym, subst, arith}
use Rattle.std.specs.List.{position, position_or_len}
use Rattle.std.proofs.lemmas.Bool.{cases_lt, lt-ltb, le-ltb}
use Rattle.std.proofs.lemmas.List.{drop_all, take_all}
use Rattle.pesplib_reader.specs.Rows.{decimals, is_point, whole_part}

-- the text is cut at the point that was found
abbrev pub IsCutAt : List ℕ → Option ℕ → Type 0
IsCutAt text found =
    MatchOption found ((whole_part text ≡ text) × (decimals text ≡ []))
    (λ place. (whole_part text ≡ take place text) × (decimals text ≡ drop (place + 1) text))

module _ (text : List ℕ) where
  abbrev place : ℕ
  place = position_or_len is_point text

  abbrev found_if : Bool → Option ℕ
  found_if is_there = cond is_there (Some place) None

  cut_at_first : IsCutAt text (position is_point text)
  cut_at_first =
      elim (cases_lt place (length text)) [
        | inl h ↦ subst (λ t. IsCutAt text (found_if t)) (sym (lt-ltb place (length text) h)) (refl, refl)
        | inr h ↦ subst (λ t. IsCutAt text (found_if t)) (sym (le-ltb place (length text) h)) (take_all place text h, drop_all (place + 1) text (omega arith))
      ]

  -- the same at what a search found
  pub cut_at : (found : Option ℕ) → found ≡ position is_point text → IsCutAt text found
  cut_at found e = subst (IsCutAt text) (sym e) cut_at_first
