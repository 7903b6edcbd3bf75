-- The words that are taken from a line, one after the other.
use Rattle.std.proofs.Common.{◌≡◌, ℕ, ◌+◌, ◌<◌, ◌≤◌, ◌-◌, List, [], ◌∷◌, ◌++◌, length, take, drop, Bor, ap, sym, ◌∙◌, append_assoc, add-one, arith, slice_set}
use Rattle.std.proofs.lemmas.List.{append-nil, drop-map, length-map, length-take-le, map-append, take_all, take_rest}
use Rattle.std.proofs.Math.Seq.{take-append_seam, take-suc-set}
use Rattle.pesp_shell_commands.specs.Words.{texts}

module _ (words : List (Bor (List ℕ))) (n : ℕ) (all : List (List ℕ)) where
  -- one word more
  pub one_more : (w : Bor (List ℕ)) (left after : List (List ℕ)) → n < length words → texts (take n words) ++ left ≡ all → left ≡ w.now ∷ after
      → texts (take (n + 1) (slice_set words n w)) ++ after ≡ all
  one_more w left after room so_far is =
      let more : take (n + 1) (slice_set words n w) ≡ take n words ++ w ∷ [] = rw add-one (take-suc-set words n w room) in
      ap (λ ws. texts ws ++ after) more ∙ ap (λ ts. ts ++ after) (map-append (λ v. v.now) (take n words) (w ∷ []))
      ∙ append_assoc (texts (take n words)) (w.now ∷ []) after ∙ ap (λ l. texts (take n words) ++ l) (sym is) ∙ so_far

  -- no word is left
  pub none_left : (left : List (List ℕ)) → n ≤ 9 → length words ≡ 9 → texts (take n words) ++ left ≡ all → left ≡ [] → texts (take n words) ≡ take 9 all
  none_left left few room so_far is =
      let whole : texts (take n words) ≡ all = sym (append-nil (texts (take n words))) ∙ ap (λ l. texts (take n words) ++ l) (sym is) ∙ so_far in
      let count : length all ≡ n = ap length (sym whole) ∙ length-map (take n words) (λ v. v.now) ∙ length-take-le n words (omega arith) in
      whole ∙ sym (take_all 9 all (omega arith))

  -- there is no room for one more
  pub no_room : (left : List (List ℕ)) → n ≡ 9 → length words ≡ 9 → texts (take n words) ++ left ≡ all → texts (take n words) ≡ take 9 all
  no_room left full room so_far =
      let count : length (texts (take n words)) ≡ 9 = length-map (take n words) (λ v. v.now) ∙ length-take-le n words (omega arith) ∙ full in
      sym (take-append_seam (texts (take n words)) left) ∙ ap (λ k. take k (texts (take n words) ++ left)) count ∙ ap (take 9) so_far

-- the words after the first ones
pub texts_after : (words : List (Bor (List ℕ))) (n : ℕ) → texts (take (length words - n) (drop n words)) ≡ drop n (texts words)
texts_after words n = ap texts (take_rest words n) ∙ sym (drop-map (λ w. w.now) n words)
