-- Products of whole numbers, and what one is at least.
use Rattle.std.proofs.Common.{◌≡◌, ℕ, suc, ◌+◌, ◌-◌, ◌*◌, ℤ, pos, negsuc, neg_ℤ, ◌+ℤ◌, ◌*ℤ◌, ◌≤ℤ◌, Bool, int_le, true, false, if◌then◌else◌, FitsSigned, to_z, of_z, w64, refl, sym, ap, ◌∙◌, arith}
use Rattle.std.proofs.Math.IntN.{*ℤ_comm, *ℤ-zero, neg_ℤ-neg_ℤ, pos-*ℤ-pos, pos-*ℤ-negsuc, negsuc-*ℤ-pos, negsuc-*ℤ-negsuc}
use Rattle.std.proofs.lemmas.Int.{ints}
use Rattle.pesp_base.proofs.Laws.{spread}
use Rattle.pesp_search_cycles.specs.declared.range.Range.{Range}
use Rattle.pesp_search_cycles.specs.Ranges.{IsIn, least_product}

negsuc_times : (n : ℕ) (z : ℤ) → negsuc n *ℤ z ≡ neg_ℤ (pos (suc n) *ℤ z)
negsuc_times n (pos m) = negsuc-*ℤ-pos n m ∙ ap neg_ℤ (sym (pos-*ℤ-pos (suc n) m))
negsuc_times n (negsuc m) =
    negsuc-*ℤ-negsuc n m ∙ sym (neg_ℤ-neg_ℤ (pos (suc n * suc m))) ∙ ap neg_ℤ (sym (pos-*ℤ-negsuc (suc n) m))

negated : (a b c : ℤ) → a ≡ b +ℤ c → neg_ℤ a ≡ neg_ℤ b +ℤ neg_ℤ c
negated a b c e = omega (arith, ints, e)

pub times_sum : (a b c : ℤ) → a *ℤ (b +ℤ c) ≡ a *ℤ b +ℤ a *ℤ c
times_sum (pos n) b c = spread n b c
times_sum (negsuc n) b c =
    negsuc_times n (b +ℤ c) ∙ negated (pos (suc n) *ℤ (b +ℤ c)) (pos (suc n) *ℤ b) (pos (suc n) *ℤ c) (spread (suc n) b c)
    ∙ sym (ap (λ k. k +ℤ negsuc n *ℤ c) (negsuc_times n b) ∙ ap (λ k. neg_ℤ (pos (suc n) *ℤ b) +ℤ k) (negsuc_times n c))

pub sum_times : (a b c : ℤ) → (a +ℤ b) *ℤ c ≡ a *ℤ c +ℤ b *ℤ c
sum_times a b c =
    *ℤ_comm (a +ℤ b) c ∙ times_sum c a b ∙ ap (λ k. k +ℤ c *ℤ b) (*ℤ_comm c a) ∙ ap (λ k. a *ℤ c +ℤ k) (*ℤ_comm c b)

opposite : (a b c : ℤ) → a ≡ pos 0 → a ≡ b +ℤ c → c ≡ neg_ℤ b
opposite a b c e f = omega (arith, ints, e, f)

none_left : (b c : ℤ) → b +ℤ neg_ℤ b ≡ pos 0
none_left b c = omega (arith, ints)

pub times_neg : (a b : ℤ) → a *ℤ neg_ℤ b ≡ neg_ℤ (a *ℤ b)
times_neg a b =
    opposite (a *ℤ (b +ℤ neg_ℤ b)) (a *ℤ b) (a *ℤ neg_ℤ b) (ap (λ k. a *ℤ k) (none_left b b) ∙ *ℤ-zero a) (times_sum a b (neg_ℤ b))

pub neg_times : (a b : ℤ) → neg_ℤ a *ℤ b ≡ neg_ℤ (a *ℤ b)
neg_times a b = *ℤ_comm (neg_ℤ a) b ∙ times_neg b a ∙ ap neg_ℤ (*ℤ_comm b a)

-- a number is another one and so much more
more : (a b : ℤ) → a ≤ℤ b → (k : ℕ) × (b ≡ a +ℤ pos k)
more (pos a) (pos b) h = (b - a, omega (arith, ints, h))
more (pos a) (negsuc b) h = absurd (omega (arith, ints, h))
more (negsuc a) (pos b) h = (b + suc a, omega (arith, ints))
more (negsuc a) (negsuc b) h = (a - b, omega (arith, ints, h))

above : (a b : ℤ) (k : ℕ) → b ≡ a +ℤ pos k → a ≤ℤ b
above a b k e = omega (arith, ints, e)

below : (a b c : ℤ) (k : ℕ) → a ≡ b +ℤ c → c ≡ neg_ℤ (pos k) → a ≤ℤ b
below a b c k e f = omega (arith, ints, e, f)

pub times_up : (n : ℕ) (a b : ℤ) → a ≤ℤ b → (pos n *ℤ a) ≤ℤ (pos n *ℤ b)
times_up n a b h =
    let m = more a b h in
    above (pos n *ℤ a) (pos n *ℤ b) (n * m.0)
    (ap (λ k. pos n *ℤ k) m.1 ∙ times_sum (pos n) a (pos m.0) ∙ ap (λ k. pos n *ℤ a +ℤ k) (pos-*ℤ-pos n m.0))

pub times_down : (n : ℕ) (a b : ℤ) → a ≤ℤ b → (negsuc n *ℤ b) ≤ℤ (negsuc n *ℤ a)
times_down n a b h =
    let m = more a b h in
    below (negsuc n *ℤ b) (negsuc n *ℤ a) (negsuc n *ℤ pos m.0) (suc n * m.0)
    (ap (λ k. negsuc n *ℤ k) m.1 ∙ times_sum (negsuc n) a (pos m.0))
    (negsuc-*ℤ-pos n m.0)

pick : (b : Bool) (x y t : ℤ) → (b ≡ true → x ≤ℤ t) → (b ≡ false → y ≤ℤ t) → (if b then x else y) ≤ℤ t
pick true x y t p q = p refl
pick false x y t p q = q refl

at_low : (rate a b : ℤ) → a ≤ℤ b → int_le (pos 0) rate ≡ true → (rate *ℤ a) ≤ℤ (rate *ℤ b)
at_low (pos n) a b h e = times_up n a b h
at_low (negsuc n) a b h e = absurd (omega (arith, ints, e))

at_high : (rate a b : ℤ) → a ≤ℤ b → int_le (pos 0) rate ≡ false → (rate *ℤ b) ≤ℤ (rate *ℤ a)
at_high (pos n) a b h e = absurd (omega (arith, ints, e))
at_high (negsuc n) a b h e = times_down n a b h

pub least_product_le : (rate : ℤ) (range : Range) (z : ℤ) → IsIn range z → least_product rate range ≤ℤ (rate *ℤ z)
least_product_le rate range z i =
    pick (int_le (pos 0) rate) (rate *ℤ range.low) (rate *ℤ range.high) (rate *ℤ z) (at_low rate range.low z i.above) (at_high rate z range.high i.below)

-- a number that was written as bits and is read again
pub back : (z : ℤ) → FitsSigned w64 z → to_z w64 (of_z w64 z) ≡ z
back z f = omega (arith, ints, f)
