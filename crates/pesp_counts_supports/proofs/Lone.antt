-- The first residue without a partner, where a part of a row is looked through.
use Rattle.std.proofs.Common.{◌≡◌, ℕ, ◌+◌, ◌-◌, ◌<◌, ◌≤◌, Bool, List, Option, Some, None, IsTrue, false, drop, length, option_map, take, subst, refl, sym, ◌∙◌, arith}
use Rattle.std.proofs.lemmas.List.{get_or-drop, get_or-take, length-drop, length-take}
use Rattle.pesp_counts_supports.specs.Lone.{IsFirst, is_lone}

-- the first that passes, where all are told apart by what stands so far behind them
pub first_behind : (test behind : ℕ → Bool) (from many : ℕ) (first : Option ℕ) → ((i : ℕ) → i < many → behind i ≡ test (from + i)) → IsFirst behind 0 many first → IsFirst test from (from + many) (option_map (λ i. from + i) first)
first_behind test behind from many None same none = λ r low high.
    let i = r - from in
    let is : from + i ≡ r = omega (arith, low) in
    subst (λ n. test n ≡ false) is (sym (same i (omega (arith, low, high))) ∙ none i (omega arith) (omega (arith, low, high)))
first_behind test behind from many (Some first) same told = (
  omega arith,
  omega (arith, told.1),
  subst IsTrue (same first told.1) told.2,
  λ r low high.
      let i = r - from in
      let is : from + i ≡ r = omega (arith, low) in
      subst (λ n. test n ≡ false) is (sym (same i (omega (arith, low, high, told.1))) ∙ told.3 i (omega arith) (omega (arith, low, high))),
)

-- a residue of a part of a row is lone as in the whole row
lone_behind : (row : List Bool) (counts : List ℕ) (base from many i : ℕ) → i < many → is_lone (take many (drop from row)) counts (base + from) i ≡ is_lone row counts base (from + i)
lone_behind row counts base from many i low =
    let held = get_or-take many (drop from row) i false low ∙ get_or-drop from row i false in
    let at : base + from + i ≡ base + (from + i) = omega arith in
    rw (held, at) refl

-- so the first lone one of the part is that of the whole row in the range
pub lone_within : (row : List Bool) (counts : List ℕ) (base from to : ℕ) (first : Option ℕ) → from ≤ to → to ≤ length row → IsFirst (is_lone (take (to - from) (drop from row)) counts (base + from)) 0 (length (take (to - from) (drop from row))) first → IsFirst (is_lone row counts base) from to (option_map (λ i. from + i) first)
lone_within row counts base from to first order high told =
    let many : length (take (to - from) (drop from row)) ≡ to - from = omega (arith, order, high, length-take (to - from) (drop from row), length-drop from row) in
    let end : from + (to - from) ≡ to = omega (arith, order) in
    subst (λ n. IsFirst (is_lone row counts base) from n (option_map (λ i. from + i) first)) end
    (first_behind (is_lone row counts base) (is_lone (take (to - from) (drop from row)) counts (base + from)) from (to - from) first (lone_behind row counts base from (to - from))
    (subst (λ n. IsFirst (is_lone (take (to - from) (drop from row)) counts (base + from)) 0 n first) many told))
