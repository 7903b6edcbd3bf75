-- How far apart the ends of ranges are: of sums, and of what is within others.
use Rattle.std.proofs.Common.{◌≡◌, ℕ, ◌+◌, ◌<◌, ◌≤◌, ℤ, pos, negsuc, ◌+ℤ◌, ◌-ℤ◌, ◌≤ℤ◌, List, drop, length, get_or, ap, ◌∙◌, arith}
use Rattle.std.proofs.lemmas.Int.{ints}
use Rattle.std.proofs.lemmas.List.{drop_more}
use Rattle.std.proofs.lemmas.List.Sums.{sum_by-cons}
use Rattle.pesp_search_graph.specs.declared.step.Step.{Step}
use Rattle.pesp_search_cycles.specs.declared.range.Range.{Range}
use Rattle.pesp_search_cycles.specs.Ranges.{clipped, no_range, width}
use Rattle.pesp_search_cycles.specs.Walks.{widths}

clipped_at_most : (z : ℤ) (n : ℕ) → z ≤ℤ pos n → clipped z ≤ n
clipped_at_most (pos m) n h = omega (arith, ints, h)
clipped_at_most (negsuc m) n h = omega arith

clipped_above : (z : ℤ) → z ≤ℤ pos (clipped z)
clipped_above (pos m) = omega (arith, ints)
clipped_above (negsuc m) = omega (arith, ints)

apart : (l h al ah bl bh : ℤ) (m n : ℕ) → l ≡ al +ℤ bl → h ≡ ah +ℤ bh → (ah -ℤ al) ≤ℤ pos m → (bh -ℤ bl) ≤ℤ pos n → (h -ℤ l) ≤ℤ pos (m + n)
apart l h al ah bl bh m n e f p q = omega (arith, ints, e, f, p, q)

pub width_sum : (a b : Range) (low high : ℤ) → low ≡ a.low +ℤ b.low → high ≡ a.high +ℤ b.high → width (record { low = low; high = high }) ≤ width a + width b
width_sum a b low high e f =
    clipped_at_most (high -ℤ low) (width a + width b)
    (apart low high a.low a.high b.low b.high (width a) (width b) e f (clipped_above (a.high -ℤ a.low)) (clipped_above (b.high -ℤ b.low)))

nearer : (l h al ah : ℤ) (m : ℕ) → al ≤ℤ l → h ≤ℤ ah → (ah -ℤ al) ≤ℤ pos m → (h -ℤ l) ≤ℤ pos m
nearer l h al ah m p q r = omega (arith, ints, p, q, r)

pub width_within : (a : Range) (low high : ℤ) → a.low ≤ℤ low → high ≤ℤ a.high → width (record { low = low; high = high }) ≤ width a
width_within a low high p q =
    clipped_at_most (high -ℤ low) (width a) (nearer low high a.low a.high (width a) p q (clipped_above (a.high -ℤ a.low)))

none : (z : ℤ) → (z -ℤ z) ≤ℤ pos 0
none z = omega (arith, ints)

-- one number alone has no width
pub beside_one : (z : ℤ) (other : Range) (m : ℕ) → m ≤ width (record { low = z; high = z }) + width other → m ≤ width other
beside_one z other m h = omega (arith, clipped_at_most (z -ℤ z) 0 (none z), h)

-- the widths from a step on are that of its slack, and those from the next one on
pub widths_from : (ranges : List Range) (steps : List Step) (i : ℕ) (d : Step) → i < length steps → widths ranges (drop i steps) ≡ width (get_or ranges (get_or steps i d).arc no_range) + widths ranges (drop (i + 1) steps)
widths_from ranges steps i d h =
    ap (widths ranges) (drop_more steps i d h)
    ∙ sum_by-cons (λ (s : Step). width (get_or ranges s.arc no_range)) (get_or steps i d) (drop (i + 1) steps)
