-- Whether words begin with a name, and the names that were gone over.
use Rattle.std.proofs.Common.{◌≡◌, ℕ, ◌+◌, ◌<◌, ◌≤◌, Bool, true, false, suc, cond, All, List, length, map, take, drop, get_or, Some, Bor, ap, sym, ◌∙◌, add-one, arith}
use Rattle.std.specs.List.{find}
use Rattle.std.proofs.Math.Seq.{drop-cons}
use Rattle.std.specs.Cmp.Derive.Mapped.{pointwise-map}
use Rattle.std.specs.Cmp.Lexicographic.{pointwise}
use Rattle.std.specs.List.{starts_with}
use Rattle.std.specs.Str.{bytes_eq}
use Rattle.std.proofs.lemmas.List.{length-map, take-map}
use Rattle.pesp_shell_commands.specs.declared.name.Name.{Name}
use Rattle.pesp_shell_commands.specs.Forms.{AreAfter, Arguments, IsNamed, begins_with}
use Rattle.pesp_shell_commands.specs.Parsed.{form_for}
use Rattle.pesp_shell_commands.specs.Words.{texts}

-- what a test of references tells of their texts
pub begins_texts : (words own : List (Bor (List ℕ))) → starts_with (λ a b. bytes_eq a.now b.now) words own ≡ starts_with bytes_eq (texts words) (texts own)
begins_texts words own =
    sym (pointwise-map (λ w. w.now) bytes_eq own (take (length own) words))
    ∙ ap (λ ts. pointwise bytes_eq (texts own) ts) (sym (take-map (λ w. w.now) (length own) words))
    ∙ ap (λ n. pointwise bytes_eq (texts own) (take n (texts words))) (sym (length-map own (λ w. w.now)))

-- the words of a command, and its name
abbrev Row : Type 0
Row = Bor (List (Bor (List ℕ))) × Name

module _ (words : List (Bor (List ℕ))) (rows : List Row) (i : ℕ) (d : Row) (named : All IsNamed rows) (below : i < length rows) where
  -- the one that is looked at
  abbrev row : Row
  row = get_or rows i d

  begins : starts_with bytes_eq (texts words) (texts row.0.now) ≡ begins_with (texts words) (form_for row.1)
  begins = ap (starts_with bytes_eq (texts words)) (named i d below).words

  looked_at : (b : Bool) → b ≡ starts_with bytes_eq (texts words) (texts row.0.now)
      → find (begins_with (texts words)) (map (λ r. form_for r.1) (drop i rows)) ≡ cond b (Some (form_for row.1)) (find (begins_with (texts words)) (map (λ r. form_for r.1) (drop (i + 1) rows)))
  looked_at b is =
      ap (λ rs. find (begins_with (texts words)) (map (λ r. form_for r.1) rs)) (drop-cons rows i d below)
      ∙ ap (λ t. cond t (Some (form_for row.1)) (find (begins_with (texts words)) (map (λ r. form_for r.1) (drop (suc i) rows)))) (sym (is ∙ begins))
      ∙ ap (λ n. cond b (Some (form_for row.1)) (find (begins_with (texts words)) (map (λ r. form_for r.1) (drop n rows)))) (sym (add-one i))

  -- the words begin with it
  pub found : true ≡ starts_with bytes_eq (texts words) (texts row.0.now) → find (begins_with (texts words)) (map (λ r. form_for r.1) (drop i rows)) ≡ Some (form_for row.1)
  found is = looked_at true is

  -- they do not
  pub passed : false ≡ starts_with bytes_eq (texts words) (texts row.0.now)
      → find (begins_with (texts words)) (map (λ r. form_for r.1) (drop i rows)) ≡ find (begins_with (texts words)) (map (λ r. form_for r.1) (drop (i + 1) rows))
  passed is = looked_at false is

  -- what stands after it
  pub after : (a : Arguments) → length row.0.now ≤ length words → a.words ≡ drop (length row.0.now) (texts words) → a.place ≡ length row.0.now + 1 → AreAfter (texts words) (form_for row.1) a
  after a within is place =
      let same : length row.0.now ≡ length (form_for row.1).name = sym (length-map row.0.now (λ w. w.now)) ∙ ap length (named i d below).words in
      record {
        within = omega (arith, within, same, length-map words (λ w. w.now));
        words = is ∙ ap (λ n. drop n (texts words)) same;
        place = place ∙ ap (λ n. n + 1) same;
      }
