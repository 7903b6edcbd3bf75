-- Rows that come are empty, and rows that are opened are full.
use Rattle.std.proofs.Common.{◌≡◌, ℕ, zero, suc, ◌*◌, ◌<◌, ◌≤◌, Bool, true, false, List, [], ◌∷◌, ◌++◌, All, length, max, replicate, get_or, set, refl, ap, ◌∙◌, inl, inr, arith}
use Rattle.std.proofs.Math.Nat.{mul-le-mul_right}
use Rattle.std.proofs.lemmas.Bool.{cases_lt}
use Rattle.std.proofs.lemmas.List.{get_or_append_left, get_or_past, get_or_push, get_or-replicate, length-replicate, length_push}
use Rattle.std.proofs.lemmas.List.Elements.{All-from_get_or, All-get_or, All-push, All-set}
use Rattle.std.proofs.lemmas.List.Sums.{sum_by-le, sum_by_push}
use Rattle.pesp_domains.specs.Domains.{holds}
use Rattle.pesp_counts_supports.specs.Counts.{has_at, held_in, supporters}
use Rattle.pesp_counts_supports.specs.Supports.{ArePadded, held}

-- ---- how many

-- there are no more than there are residues
pub supporters_le : (n : ℕ) (S f : ℕ → Bool) → supporters n S f ≤ n
supporters_le zero S f = omega arith
supporters_le (suc n) S f = let few = supporters_le n S f in grind (arith, few)

-- an empty set has none
pub supporters_empty : (n : ℕ) (S f : ℕ → Bool) → ((s : ℕ) → S s ≡ false) → supporters n S f ≡ 0
supporters_empty zero S f none = refl
supporters_empty (suc n) S f none = let rest = supporters_empty n S f none in rw (none n) (omega (arith, rest))

-- rows hold no more than all residues
pub held_le : (period : ℕ) (rows : List (List Bool)) → All (λ row. length row ≡ period) rows → held rows ≤ length rows * period
held_le period rows long =
    sum_by-le held_in period rows
    (All-from_get_or (λ row. held_in row ≤ period) rows []
    (λ i l.
    let few = supporters_le (length (get_or rows i [])) (holds (get_or rows i [])) (λ r. true) in
    let is : length (get_or rows i []) ≡ period = All-get_or (λ row. length row ≡ period) rows i [] l long in
    omega (arith, few, is)))

-- no more rows than before or than places need no more room than either
pub room_for : (rows old places period room : ℕ) → rows ≤ max old places → old * period ≤ room → places * period ≤ room → rows * period ≤ room
room_for rows old places period room few fits more =
    elim (cases_lt rows places) [
      | inl low ↦ let l = mul-le-mul_right period (let le : rows ≤ places = omega (arith, low) in le) in omega (arith, l, more)
      | inr high ↦
          elim (cases_lt old rows) [
            | inr le ↦ let l = mul-le-mul_right period le in omega (arith, l, fits)
            | inl lt ↦ let same : rows ≡ places = omega (arith, few, high, lt) in rw same more
          ]
    ]

-- ---- a row that comes

module _ (rows : List (List Bool)) (row : List Bool) (empty : (r : ℕ) → holds row r ≡ false) where
  pub has_added : (p r : ℕ) → has_at (rows ++ row ∷ []) p r ≡ has_at rows p r
  has_added p r =
      let old = get_or_append_left rows (row ∷ []) [] p in
      let new = get_or_push rows row [] p in
      grind (arith, old, new, get_or_past rows p [], get_or_past (rows ++ row ∷ []) p [], length_push rows row, empty r)

  pub held_added : held (rows ++ row ∷ []) ≡ held rows
  held_added =
      let none : held_in row ≡ 0 = supporters_empty (length row) (holds row) (λ r. true) empty in
      let sum = sum_by_push held_in rows row in
      omega (arith, sum, none)

-- one row after another that is as long
pub long_set : (period place : ℕ) (rows : List (List Bool)) (row item : List Bool) → place < length rows → All (λ r. length r ≡ period) rows → item ≡ get_or rows place item → length row ≡ length item → All (λ r. length r ≡ period) (set rows place row)
long_set period place rows row item within long read same =
    All-set (λ r. length r ≡ period) rows place row (same ∙ ap length read ∙ All-get_or (λ r. length r ≡ period) rows place item within long) long

-- one empty row more
pub padded_one : (period : ℕ) (before rows : List (List Bool)) (row : List Bool) → ArePadded period before rows → length row ≡ period → ((r : ℕ) → holds row r ≡ false) → ArePadded period before (rows ++ row ∷ [])
padded_one period before rows row so_far is empty =
    let many = length_push rows row in
    record {
      long = All-push (λ r. length r ≡ period) rows row so_far.long is;
      has = λ p r. has_added rows row empty p r ∙ so_far.has p r;
      held = held_added rows row empty ∙ so_far.held;
      more = omega (arith, many, so_far.more);
    }

-- and a row made without a residue is one
pub padded_empty : (period : ℕ) (before rows : List (List Bool)) (row : List Bool) → ArePadded period before rows → row ≡ replicate period false → ArePadded period before (rows ++ row ∷ [])
padded_empty period before rows row so_far is =
    padded_one period before rows row so_far (ap length is ∙ length-replicate period false)
    (λ r.
    elim (cases_lt r period) [
      | inl low ↦ ap (λ xs. holds xs r) is ∙ get_or-replicate period r false false low
      | inr high ↦ get_or_past row r false (omega (arith, ap length is, length-replicate period false, high))
    ])
