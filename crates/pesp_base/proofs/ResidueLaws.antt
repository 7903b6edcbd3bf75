-- Whole periods change no residue, and the listed residues are those with which an activity is met, each once.
use Rattle.std.proofs.Common.{◌≡◌, ◌≢◌, ℕ, ◌+◌, ◌-◌, ◌%◌, ◌<◌, ◌≤◌, ◌↔◌, List, [], ◌∷◌, ◌++◌, map, length, get_or, ℤ, pos, negsuc, neg_ℤ, ◌+ℤ◌, ◌-ℤ◌, ◌*ℤ◌, ◌≤ℤ◌, ◌<ℤ◌, int_le, unsigned_abs, true, refl, sym, ap, ap₂, subst, ◌∙◌, arith}
use Rattle.std.specs.List.{Contains, AllPairs, range_with_len}
use Rattle.std.proofs.Math.IntN.{pos-*ℤ-pos}
use Rattle.std.proofs.iter.Rest.{range_with_len_first, range_with_len_last}
use Rattle.std.proofs.lemmas.Int.{ints}
use Rattle.std.proofs.lemmas.List.{map_push}
use Rattle.std.proofs.lemmas.List.FromFn.{length-map-range_with_len, get_or-map-range_with_len}
use Rattle.pesp_base.specs.declared.residues.Direction.{Direction}
use Rattle.pesp_base.specs.declared.residues.Direction.TheVariants as toward
use Rattle.pesp_base.specs.Bounds.{Bounds}
use Rattle.pesp_base.specs.Residues.{reach, partners_of, sources_of, residue_at, residues_left}
use Rattle.pesp_base.specs.Tensions.{IsMet, residue, slack_of}
use Rattle.pesp_base.proofs.Laws.{quotient, residue_is, residue_below, multiple, spread, against, met_is}

-- ---- residues and whole periods

-- the period times a difference
difference : (T : ℕ) (p q : ℤ) → pos T *ℤ (p +ℤ neg_ℤ q) ≡ pos T *ℤ p +ℤ neg_ℤ (pos T *ℤ q)
difference T p q = spread T p (neg_ℤ q) ∙ ap (λ k. pos T *ℤ p +ℤ k) (against T q)

-- multiples of the period that differ by less than a period are equal
pub multiples_near : (T : ℕ) (p q : ℤ) → neg_ℤ (pos T) <ℤ (pos T *ℤ p -ℤ pos T *ℤ q) → (pos T *ℤ p -ℤ pos T *ℤ q) <ℤ pos T → pos T *ℤ p ≡ pos T *ℤ q
multiples_near T p q g h =
    let low : pos 0 ≤ℤ (pos T *ℤ (p +ℤ neg_ℤ q)) = multiple T (p +ℤ neg_ℤ q) (omega (arith, ints, difference T p q, g)) in
    let high : pos 0 ≤ℤ (pos T *ℤ (q +ℤ neg_ℤ p)) = multiple T (q +ℤ neg_ℤ p) (omega (arith, ints, difference T q p, h)) in
    omega (arith, ints, difference T p q, difference T q p, low, high)

-- a number below the period is the residue of each number that is whole periods away from it
pub residue_unique : (T : ℕ) (z q : ℤ) (k : ℕ) → k < T → z ≡ pos T *ℤ q +ℤ pos k → residue T z ≡ k
residue_unique T z q k h e =
    let some : 0 < T = omega (arith, h) in
    let f : z ≡ pos T *ℤ quotient T z +ℤ pos (residue T z) = residue_is T z some in
    let low : residue T z < T = residue_below T z some in
    let same : pos T *ℤ quotient T z ≡ pos T *ℤ q = multiples_near T (quotient T z) q (omega (arith, ints, e, f, low, h)) (omega (arith, ints, e, f, low, h)) in
    omega (arith, ints, e, f, same)

-- whole periods change no residue
pub residue-whole_periods : (T : ℕ) (z q : ℤ) → 0 < T → residue T (z +ℤ pos T *ℤ q) ≡ residue T z
residue-whole_periods T z q some =
    residue_unique T (z +ℤ pos T *ℤ q) (quotient T z +ℤ q) (residue T z) (residue_below T z some)
    (omega (arith, ints, residue_is T z some, spread T (quotient T z) q))

-- in a sum a number may be taken for its residue
pub residue-residue_add : (T : ℕ) (z y : ℤ) → 0 < T → residue T (pos (residue T z) +ℤ y) ≡ residue T (z +ℤ y)
residue-residue_add T z y some =
    let parts : z +ℤ y ≡ (pos (residue T z) +ℤ y) +ℤ pos T *ℤ quotient T z = omega (arith, ints, residue_is T z some) in
    sym (ap (residue T) parts ∙ residue-whole_periods T (pos (residue T z) +ℤ y) (quotient T z) some)

-- and in a difference
pub residue-residue_sub : (T : ℕ) (z y : ℤ) → 0 < T → residue T (pos (residue T z) -ℤ y) ≡ residue T (z -ℤ y)
residue-residue_sub T z y some =
    let parts : z -ℤ y ≡ (pos (residue T z) -ℤ y) +ℤ pos T *ℤ quotient T z = omega (arith, ints, residue_is T z some) in
    sym (ap (residue T) parts ∙ residue-whole_periods T (pos (residue T z) -ℤ y) (quotient T z) some)

-- a residue below another is reached from one period further up
pub residue-below_first : (T a b : ℕ) → 0 < T → b ≤ T → residue T (pos a -ℤ pos b) ≡ (a + (T - b)) % T
residue-below_first T a b some h =
    let up : pos (a + (T - b)) ≡ (pos a -ℤ pos b) +ℤ pos T *ℤ pos 1 = omega (arith, ints, h, pos-*ℤ-pos T 1) in
    sym (ap (residue T) up ∙ residue-whole_periods T (pos a -ℤ pos b) (pos 1) some)

-- numbers of one residue that differ by less than a period are equal
pub same_from_residue : (T : ℕ) (x y : ℤ) → 0 < T → residue T x ≡ residue T y → neg_ℤ (pos T) <ℤ (x -ℤ y) → (x -ℤ y) <ℤ pos T → x ≡ y
same_from_residue T x y some e g h =
    let a : x ≡ pos T *ℤ quotient T x +ℤ pos (residue T x) = residue_is T x some in
    let b : y ≡ pos T *ℤ quotient T y +ℤ pos (residue T y) = residue_is T y some in
    let same : pos T *ℤ quotient T x ≡ pos T *ℤ quotient T y = multiples_near T (quotient T x) (quotient T y) (omega (arith, ints, a, b, e, g)) (omega (arith, ints, a, b, e, h)) in
    omega (arith, ints, a, b, e, same)

-- where k above z has residue s, s less z has residue k
pub residue_of_rise : (T : ℕ) (z : ℤ) (k s : ℕ) → k < T → residue T (z +ℤ pos k) ≡ s → residue T (pos s -ℤ z) ≡ k
residue_of_rise T z k s h e =
    let some : 0 < T = omega (arith, h) in
    let q : ℤ = quotient T (z +ℤ pos k) in
    residue_unique T (pos s -ℤ z) (neg_ℤ q) k h (omega (arith, ints, residue_is T (z +ℤ pos k) some, against T q, e))

-- and the other way
pub residue_after_rise : (T : ℕ) (z : ℤ) (k s : ℕ) → s < T → residue T (pos s -ℤ z) ≡ k → residue T (z +ℤ pos k) ≡ s
residue_after_rise T z k s h e =
    let some : 0 < T = omega (arith, h) in
    let q : ℤ = quotient T (pos s -ℤ z) in
    residue_unique T (z +ℤ pos k) (neg_ℤ q) s h (omega (arith, ints, residue_is T (pos s -ℤ z) some, against T q, e))

-- where k below z has residue r, r below z has residue k
pub residue_of_fall : (T : ℕ) (z : ℤ) (k r : ℕ) → k < T → residue T (z -ℤ pos k) ≡ r → residue T (z -ℤ pos r) ≡ k
residue_of_fall T z k r h e =
    let some : 0 < T = omega (arith, h) in
    residue_unique T (z -ℤ pos r) (quotient T (z -ℤ pos k)) k h (omega (arith, ints, residue_is T (z -ℤ pos k) some, e))

-- ---- what a function gives of the numbers from 0 on

-- functions that agree give the same
map_agree : (f g : ℕ → ℕ) → ((k : ℕ) → f k ≡ g k) → (xs : List ℕ) → map f xs ≡ map g xs
map_agree f g h [] = refl
map_agree f g h (x ∷ xs) = ap₂ ◌∷◌ (h x) (map_agree f g h xs)

module _ (f : ℕ → ℕ) (n : ℕ) where
  -- what stands at a place, and how many there are
  at_place : (k d : ℕ) → k < n → get_or (map f (range_with_len 0 n)) k d ≡ f k
  at_place k d h = get_or-map-range_with_len f 0 n k k d h (omega arith)

  many : length (map f (range_with_len 0 n)) ≡ n
  many = length-map-range_with_len f 0 n

  -- the list has what f gives of a number below n
  pub Contains-listed : (x : ℕ) → Contains (map f (range_with_len 0 n)) x ↔ ((k : ℕ) × (k < n) × (f k ≡ x))
  Contains-listed x = (
    (λ c. let low : c.0 < n = omega (arith, c.1, many) in (c.0, low, sym (at_place c.0 x low) ∙ c.2)),
    (λ g. (g.0, omega (arith, g.1, many), at_place g.0 x g.1 ∙ g.2)),
  )

  -- where f gives nothing twice, the list has nothing twice
  pub once_listed : ((i j : ℕ) → i < n → j < n → f i ≡ f j → i ≡ j) → AllPairs (λ a b. a ≢ b) (map f (range_with_len 0 n))
  once_listed h i j d before within e =
      let high : j < n = omega (arith, within, many) in
      let low : i < n = omega (arith, before, high) in
      absurd (omega (arith, before, h i j low high (sym (at_place i d low) ∙ e ∙ at_place j d high)))

-- ---- the ends of what is left

module _ (way : Direction) (T first start end start' end' step x : ℕ) (some : 0 < end - start) (is : x ≡ residue_at way T first step) where
  -- the first step gives the first of the residues that are left
  pub residues_left-first : step ≡ start → start' ≡ start + 1 → end' ≡ end → residues_left way T first start end ≡ x ∷ residues_left way T first start' end'
  residues_left-first e f g =
      ap (map (residue_at way T first)) (range_with_len_first start end (omega (arith, some)))
      ∙ ap₂ ◌∷◌ (sym (is ∙ ap (residue_at way T first) e)) (ap₂ (residues_left way T first) (sym f) (sym g))

  -- and the last step the last of them
  pub residues_left-last : step ≡ end' → end ≡ end' + 1 → start' ≡ start → residues_left way T first start end ≡ residues_left way T first start' end' ++ x ∷ []
  residues_left-last e f g =
      let before : end - 1 ≡ end' = omega (arith, f) in
      ap (map (residue_at way T first)) (range_with_len_last start end (omega (arith, some)) ∙ ap (λ n. range_with_len start (n - start) ++ n ∷ []) before)
      ∙ map_push (residue_at way T first) (range_with_len start (end' - start)) end'
      ∙ ap₂ (λ a y. residues_left way T first a end' ++ y ∷ []) (sym g) (sym (is ∙ ap (residue_at way T first) e))

-- ---- partners and sources

-- a number that is not negative is its own absolute value
pos-unsigned_abs : (z : ℤ) → pos 0 ≤ℤ z → pos (unsigned_abs z) ≡ z
pos-unsigned_abs (pos n) h = refl
pos-unsigned_abs (negsuc n) h = absurd (omega (arith, ints, h))

-- what is k above the lower bound is within the upper one where k is at most the width
within_width : (l u : ℤ) (k w : ℕ) → pos w ≡ u -ℤ l → (int_le (l +ℤ pos k) u ≡ true) ↔ (k ≤ w)
within_width l u k w e = ((λ h. omega (arith, ints, e, h)), (λ h. grind (arith, ints, e, h)))

module _ (T : ℕ) (span : Bounds) (some : 0 < T) (in_order : span.lower ≤ℤ span.upper) where
  -- how far apart the bounds are
  abbrev width : ℕ
  width = unsigned_abs (span.upper -ℤ span.lower)

  -- an activity is met where its slack is within reach
  pub met_within_reach : (r s : ℕ) → IsMet T span r s ↔ (slack_of T span r s ≤ reach T span)
  met_within_reach r s =
      let wide : pos width ≡ span.upper -ℤ span.lower = pos-unsigned_abs (span.upper -ℤ span.lower) (omega (arith, ints, in_order)) in (
        (λ m. omega (arith, (within_width span.lower span.upper (slack_of T span r s) width wide).0 ((met_is T span r s some).1 m), residue_below T (pos s -ℤ pos r -ℤ span.lower) some)),
        (λ h. (met_is T span r s some).0 ((within_width span.lower span.upper (slack_of T span r s) width wide).1 (omega (arith, h)))),
      )

  -- a step within reach is below the period
  pub step_below : (k : ℕ) → k < reach T span + 1 → k < T
  step_below k h = omega (arith, h, some)

  module _ (r : ℕ) where
    -- the partner of a step
    abbrev upwards : ℕ → ℕ
    upwards k = residue T (pos r +ℤ span.lower +ℤ pos k)

    -- the slack by way of the first partner
    slack_up : (s : ℕ) → slack_of T span r s ≡ residue T (pos s -ℤ (pos r +ℤ span.lower))
    slack_up s = let e : pos s -ℤ pos r -ℤ span.lower ≡ pos s -ℤ (pos r +ℤ span.lower) = omega (arith, ints) in ap (residue T) e

    -- the partners are the residues below the period with which the activity is met
    pub partners_met : (s : ℕ) → Contains (partners_of T span r) s ↔ ((s < T) × IsMet T span r s)
    partners_met s = (
      (λ c.
          let g : (k : ℕ) × (k < reach T span + 1) × (upwards k ≡ s) = (Contains-listed upwards (reach T span + 1) s).0 c in
          let slack : slack_of T span r s ≡ g.0 = slack_up s ∙ residue_of_rise T (pos r +ℤ span.lower) g.0 s (step_below g.0 g.1) g.2 in (
            subst (λ x. x < T) g.2 (residue_below T (pos r +ℤ span.lower +ℤ pos g.0) some),
            (met_within_reach r s).1 (omega (arith, g.1, slack)),
          )),
      (λ m. (Contains-listed upwards (reach T span + 1) s).1 (
        slack_of T span r s,
        omega (arith, (met_within_reach r s).0 m.1),
        residue_after_rise T (pos r +ℤ span.lower) (slack_of T span r s) s m.0 (sym (slack_up s)),
      )),
    )

    -- each partner comes once
    pub partners_once : AllPairs (λ a b. a ≢ b) (partners_of T span r)
    partners_once = once_listed upwards (reach T span + 1)
        (λ i j g h e.
        let same : pos r +ℤ span.lower +ℤ pos i ≡ pos r +ℤ span.lower +ℤ pos j = same_from_residue T _ _ some e (omega (arith, ints, step_below j h)) (omega (arith, ints, step_below i g)) in
        omega (arith, ints, same))

    -- from the first partner upwards the partners are listed
    pub residues_left-partners : (first count : ℕ) → first ≡ residue T (pos r +ℤ span.lower) → count ≡ reach T span + 1 → residues_left toward.Up T first 0 count ≡ partners_of T span r
    residues_left-partners first count e f =
        let all : count - 0 ≡ reach T span + 1 = omega (arith, f) in
        ap (λ n. map (residue_at toward.Up T first) (range_with_len 0 n)) all
        ∙ map_agree (residue_at toward.Up T first) upwards (λ k. ap (λ m. residue T (pos m +ℤ pos k)) e ∙ residue-residue_add T (pos r +ℤ span.lower) (pos k) some) (range_with_len 0 (reach T span + 1))

  module _ (s : ℕ) where
    -- the source of a step
    abbrev downwards : ℕ → ℕ
    downwards k = residue T (pos s -ℤ span.lower -ℤ pos k)

    -- the slack by way of the first source
    slack_down : (r : ℕ) → slack_of T span r s ≡ residue T (pos s -ℤ span.lower -ℤ pos r)
    slack_down r = let e : pos s -ℤ pos r -ℤ span.lower ≡ pos s -ℤ span.lower -ℤ pos r = omega (arith, ints) in ap (residue T) e

    -- the sources are the residues below the period with which the activity is met
    pub sources_met : (r : ℕ) → Contains (sources_of T span s) r ↔ ((r < T) × IsMet T span r s)
    sources_met r = (
      (λ c.
          let g : (k : ℕ) × (k < reach T span + 1) × (downwards k ≡ r) = (Contains-listed downwards (reach T span + 1) r).0 c in
          let slack : slack_of T span r s ≡ g.0 = slack_down r ∙ residue_of_fall T (pos s -ℤ span.lower) g.0 r (step_below g.0 g.1) g.2 in (
            subst (λ x. x < T) g.2 (residue_below T (pos s -ℤ span.lower -ℤ pos g.0) some),
            (met_within_reach r s).1 (omega (arith, g.1, slack)),
          )),
      (λ m. (Contains-listed downwards (reach T span + 1) r).1 (
        slack_of T span r s,
        omega (arith, (met_within_reach r s).0 m.1),
        residue_of_fall T (pos s -ℤ span.lower) r (slack_of T span r s) m.0 (sym (slack_down r)),
      )),
    )

    -- each source comes once
    pub sources_once : AllPairs (λ a b. a ≢ b) (sources_of T span s)
    sources_once = once_listed downwards (reach T span + 1)
        (λ i j g h e.
        let same : pos s -ℤ span.lower -ℤ pos i ≡ pos s -ℤ span.lower -ℤ pos j = same_from_residue T _ _ some e (omega (arith, ints, step_below i g)) (omega (arith, ints, step_below j h)) in
        omega (arith, ints, same))

    -- from the first source downwards the sources are listed
    pub residues_left-sources : (first count : ℕ) → first ≡ residue T (pos s -ℤ span.lower) → count ≡ reach T span + 1 → residues_left toward.Down T first 0 count ≡ sources_of T span s
    residues_left-sources first count e f =
        let all : count - 0 ≡ reach T span + 1 = omega (arith, f) in
        ap (λ n. map (residue_at toward.Down T first) (range_with_len 0 n)) all
        ∙ map_agree (residue_at toward.Down T first) downwards (λ k. ap (λ m. residue T (pos m -ℤ pos k)) e ∙ residue-residue_sub T (pos s -ℤ span.lower) (pos k) some) (range_with_len 0 (reach T span + 1))
