-- The numbers from 0 on as a list: those that pass a test, in their order, and whether there is one.
use Rattle.std.proofs.Common.{◌≡◌, ℕ, ◌+◌, ◌<◌, Bool, true, cond, [], ◌∷◌, ◌++◌, length, filter, get_or, ap, ◌∙◌, arith}
use Rattle.std.proofs.lemmas.List.{map-id}
use Rattle.std.proofs.lemmas.List.Folds.{list_any_at}
use Rattle.std.proofs.lemmas.List.FromFn.{filter_of_map_range_with_len_more, get_or-range_with_len, length-range_with_len}
use Rattle.std.specs.List.{list_any, range_with_len}
use Rattle.std.specs.List.Sorted.{IsStrictlyIncreasing}

pub range_rises : (n : ℕ) → IsStrictlyIncreasing (range_with_len 0 n)
range_rises n = λ k l.
    let long : length (range_with_len 0 n) ≡ n = length-range_with_len 0 n in
    rw (get_or-range_with_len 0 n k 0 (omega (arith, l, long)), get_or-range_with_len 0 n (k + 1) 0 (omega (arith, l, long))) (omega arith)

-- one number more is tested
pub filter_more : (test : ℕ → Bool) (n : ℕ)
    → filter test (range_with_len 0 (n + 1)) ≡ filter test (range_with_len 0 n) ++ cond (test n) (n ∷ []) []
filter_more test n =
    rw (← map-id (range_with_len 0 (n + 1)), ← map-id (range_with_len 0 n))
    (filter_of_map_range_with_len_more test (λ k. k) 0 n n (omega arith))

-- one number below that passes
pub some_below : (test : ℕ → Bool) (n k : ℕ) → k < n → test k ≡ true → list_any test (range_with_len 0 n) ≡ true
some_below test n k below passes =
    let long : length (range_with_len 0 n) ≡ n = length-range_with_len 0 n in
    let here : get_or (range_with_len 0 n) k 0 ≡ k = omega (arith, get_or-range_with_len 0 n k 0 below) in
    list_any_at test (range_with_len 0 n) k 0 (omega (arith, below, long)) (ap test here ∙ passes)
