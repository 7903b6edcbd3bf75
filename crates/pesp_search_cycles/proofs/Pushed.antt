-- Lists of ranges with one more at their end.
use Rattle.std.proofs.Common.{◌≡◌, ℕ, ◌+◌, ◌<◌, ◌++◌, ◌∷◌, [], List, length, get_or, inl, inr, sym, ap, subst, ◌∙◌, arith}
use Rattle.std.proofs.Math.Seq.{get_or-append_seam}
use Rattle.std.proofs.lemmas.Bool.{cases_eq}
use Rattle.std.proofs.lemmas.List.{get_or_append_left, length-append}
use Rattle.pesp_search_cycles.specs.declared.range.Range.{Range}
use Rattle.pesp_search_cycles.specs.Ranges.{no_range}

-- there is one more
pub pushed_long : (rs ts : List Range) (i : ℕ) (r : Range) → length rs ≡ i → ts ≡ rs ++ r ∷ [] → length ts ≡ i + 1
pushed_long rs ts i r long e = ap (λ (l : List Range). length l) e ∙ (let n = length-append rs (r ∷ []) in omega (arith, n, long))

-- what holds of those before and of the last one holds of each
pub pushed_each : (P : ℕ → Range → Type 0) (rs ts : List Range) (i : ℕ) (r : Range) → length rs ≡ i → ts ≡ rs ++ r ∷ [] → ((k : ℕ) → k < i → P k (get_or rs k no_range)) → P i r → (k : ℕ) → k < i + 1 → P k (get_or ts k no_range)
pushed_each P rs ts i r long e before last k h =
    elim (cases_eq k i) [
      | inl same ↦
          subst (λ j. P j (get_or ts j no_range)) (sym same)
          (subst (P i) (sym (ap (λ (l : List Range). get_or l i no_range) e ∙ ap (λ j. get_or (rs ++ r ∷ []) j no_range) (sym long) ∙ get_or-append_seam rs r [] no_range)) last)
      | inr other ↦
          let within : k < i = omega (arith, h, other) in
          subst (P k) (sym (ap (λ (l : List Range). get_or l k no_range) e ∙ get_or_append_left rs (r ∷ []) no_range k (omega (arith, within, long)))) (before k within)
    ]
