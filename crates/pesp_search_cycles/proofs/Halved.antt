-- Whole numbers of steps on both sides of a cut.
use Rattle.std.proofs.Common.{◌≡◌, ℕ, suc, ◌*◌, ◌<◌, ◌⊎◌, inl, inr, ℤ, pos, negsuc, neg_ℤ, ◌+ℤ◌, ◌-ℤ◌, ◌*ℤ◌, ◌≤ℤ◌, ◌<ℤ◌, refl, sym, ap, subst, ◌∙◌, arith}
use Rattle.std.specs.Int.{int_rem_euclid}
use Rattle.std.proofs.lemmas.Int.{ints, by_lt_z}
use Rattle.pesp_base.proofs.Laws.{le_through, quotient, residue_is, spread}
use Rattle.pesp_base.specs.Tensions.{residue}
use Rattle.pesp_search_cycles.specs.declared.range.Range.{Range}
use Rattle.pesp_search_cycles.specs.Ranges.{IsHalved, IsIn, IsMultiple, clipped}
use Rattle.pesp_search_cycles.proofs.Numbers.{times_up}

times_one : (T : ℕ) → pos T *ℤ pos 1 ≡ pos T
times_one T = ap pos (omega arith)

along : (a b z : ℤ) (T : ℕ) → z ≡ a +ℤ b → b ≡ pos T → z ≡ a +ℤ pos T
along a b z T e f = omega (arith, ints, e, f)

through : (a b z : ℤ) → z ≡ a → z ≤ℤ b → a ≤ℤ b
through a b z e h = omega (arith, ints, e, h)

next : (a b : ℤ) → a <ℤ b → (a +ℤ pos 1) ≤ℤ b
next a b h = omega (arith, ints, h)

-- of two whole numbers of steps the one is not after the other, or a step after it
pub apart : (T : ℕ) (p q : ℤ) → ((pos T *ℤ q) ≤ℤ (pos T *ℤ p)) ⊎ ((pos T *ℤ p +ℤ pos T) ≤ℤ (pos T *ℤ q))
apart T p q =
    by_lt_z p q
    (λ h. inr (through _ _ _ (along (pos T *ℤ p) (pos T *ℤ pos 1) (pos T *ℤ (p +ℤ pos 1)) T (spread T p (pos 1)) (times_one T)) (times_up T (p +ℤ pos 1) q (next p q h))))
    (λ h. inl (times_up T q p h))

-- of two whole numbers of steps, again
pub apart_whole : (T : ℕ) (a z : ℤ) → IsMultiple T a → IsMultiple T z → (z ≤ℤ a) ⊎ ((a +ℤ pos T) ≤ℤ z)
apart_whole T a z m n =
    subst (λ k. (z ≤ℤ k) ⊎ ((k +ℤ pos T) ≤ℤ z)) (sym m.1) (subst (λ k. (k ≤ℤ (pos T *ℤ m.0)) ⊎ ((pos T *ℤ m.0 +ℤ pos T) ≤ℤ k)) (sym n.1) (apart T m.0 n.0))

clipped_less : (y z : ℤ) → y <ℤ z → pos 0 <ℤ z → clipped y < clipped z
clipped_less (pos y) (pos z) h s = omega (arith, ints, h)
clipped_less (negsuc y) (pos z) h s = omega (arith, ints, s)
clipped_less y (negsuc z) h s = absurd (omega (arith, ints, s))

lesser_below : (low high at : ℤ) → low ≤ℤ at → at <ℤ high → (at -ℤ low) <ℤ (high -ℤ low)
lesser_below low high at g h = omega (arith, ints, g, h)

lesser_above : (low high at next : ℤ) (T : ℕ) → 0 < T → next ≡ at +ℤ pos T → low ≤ℤ at → at <ℤ high → (high -ℤ next) <ℤ (high -ℤ low)
lesser_above low high at next T some e g h = omega (arith, ints, e, g, h)

some_width : (low high at : ℤ) → low ≤ℤ at → at <ℤ high → pos 0 <ℤ (high -ℤ low)
some_width low high at g h = omega (arith, ints, g, h)

after : (low at next : ℤ) (T : ℕ) → next ≡ at +ℤ pos T → low ≤ℤ at → low ≤ℤ next
after low at next T e h = omega (arith, ints, e, h)

before : (at high : ℤ) → at <ℤ high → at ≤ℤ high
before at high h = omega (arith, ints, h)

cut_at : (T : ℕ) (range : Range) (at next : ℤ) → 0 < T → IsMultiple T at → next ≡ at +ℤ pos T → range.low ≤ℤ at → at <ℤ range.high → IsHalved T range (record { below = record { low = range.low; high = at }; above = record { low = next; high = range.high } })
cut_at T range at next some m e low high = record {
  keeps = λ z many inside. side z inside (apart_whole T at z m many);
  below_within = λ z i. record { above = i.above; below = le_through z at range.high i.below (before at range.high high) };
  above_within = λ z i. record { above = le_through range.low next z (after range.low at next T e low) i.above; below = i.below };
  below_less = clipped_less _ _ (lesser_below range.low range.high at low high) (some_width range.low range.high at low high);
  above_less = clipped_less _ _ (lesser_above range.low range.high at next T some e low high) (some_width range.low range.high at low high);
}
  where
    side : (z : ℤ) → IsIn range z → (z ≤ℤ at) ⊎ ((at +ℤ pos T) ≤ℤ z) → IsIn (record { low = range.low; high = at }) z ⊎ IsIn (record { low = next; high = range.high }) z
    side z i (inl h) = inl (record { above = i.above; below = h })
    side z i (inr h) = inr (record { above = subst (λ k. k ≤ℤ z) (sym e) h; below = i.below })

-- the same of a cut whose ends are these
pub halved : (T : ℕ) (range : Range) (at next a b c d : ℤ) → 0 < T → IsMultiple T at → next ≡ at +ℤ pos T → range.low ≤ℤ at → at <ℤ range.high → a ≡ range.low → b ≡ at → c ≡ next → d ≡ range.high → IsHalved T range (record { below = record { low = a; high = b }; above = record { low = c; high = d } })
halved T range at next a b c d some m e low high p q r s =
    subst (λ k. IsHalved T range (record { below = record { low = k; high = b }; above = record { low = c; high = d } })) (sym p)
    (subst (λ k. IsHalved T range (record { below = record { low = range.low; high = k }; above = record { low = c; high = d } })) (sym q)
    (subst (λ k. IsHalved T range (record { below = record { low = range.low; high = at }; above = record { low = k; high = d } })) (sym r)
    (subst (λ k. IsHalved T range (record { below = record { low = range.low; high = at }; above = record { low = next; high = k } })) (sym s)
    (cut_at T range at next some m e low high))))

once : (n : ℕ) → suc n ≡ 1 * suc n
once n = omega arith

pub one_times : (z : ℤ) → z ≡ pos 1 *ℤ z
one_times (pos n) = ap pos (omega arith)
one_times (negsuc n) = ap (λ k. neg_ℤ (pos k)) (once n)

rem_is : (T : ℕ) (z : ℤ) → int_rem_euclid z (pos T) ≡ pos (residue T z)
rem_is T (pos n) = refl
rem_is T (negsuc n) = refl

without : (z m r a : ℤ) → z ≡ m +ℤ r → a ≡ z -ℤ r → a ≡ m
without z m r a e f = omega (arith, ints, e, f)

-- a number less its remainder
pub down_to : (T : ℕ) (z r a : ℤ) → 0 < T → r ≡ int_rem_euclid z (pos T) → a ≡ z -ℤ r → IsMultiple T a
down_to T z r a some e f =
    (quotient T z, without z (pos T *ℤ quotient T z) (pos (residue T z)) a (residue_is T z some) (f ∙ ap (λ k. z -ℤ k) (e ∙ rem_is T z)))

not_above : (T : ℕ) (l low z : ℤ) → low ≤ℤ z → l ≤ℤ ((low +ℤ pos T) -ℤ pos 1) → (z +ℤ pos T) ≤ℤ l → ⊥
not_above T l low z a b c = omega (arith, ints, a, b, c)

not_under : (T : ℕ) (h high z : ℤ) → z ≤ℤ high → high <ℤ (h +ℤ pos T) → (h +ℤ pos T) ≤ℤ z → ⊥
not_under T h high z a b c = omega (arith, ints, a, b, c)

pub rounded_in : (T : ℕ) (range new : Range) (z : ℤ) → IsMultiple T new.low → IsMultiple T new.high → new.low ≤ℤ ((range.low +ℤ pos T) -ℤ pos 1) → range.high <ℤ (new.high +ℤ pos T) → IsMultiple T z → IsIn range z → IsIn new z
rounded_in T range new z l h low high m i = record { above = upward (apart_whole T z new.low m l); below = downward (apart_whole T new.high z h m) }
  where
    upward : (new.low ≤ℤ z) ⊎ ((z +ℤ pos T) ≤ℤ new.low) → new.low ≤ℤ z
    upward (inl g) = g
    upward (inr g) = absurd (not_above T new.low range.low z i.above low g)

    downward : (z ≤ℤ new.high) ⊎ ((new.high +ℤ pos T) ≤ℤ z) → z ≤ℤ new.high
    downward (inl g) = g
    downward (inr g) = absurd (not_under T new.high range.high z i.below high g)
