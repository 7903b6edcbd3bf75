-- The partners of a residue stand in a window, which moves on with the residue.
use Rattle.std.proofs.Common.{◌≡◌, ℕ, zero, suc, ◌+◌, ◌-◌, ◌*◌, ◌%◌, ◌<◌, ◌≤◌, ◌==◌, ◌||◌, nat_lt, Bool, true, false, List, get_or, refl, sym, ap, ◌∙◌, inl, inr, ◌⊎◌, ◌↔◌, arith}
use Rattle.std.proofs.lemmas.Bool.Decides.{nat_tests}
use Rattle.std.specs.Int.{from_bool}
use Rattle.std.proofs.Math.Nat.{mod-add-mod, mod-lt}
use Rattle.std.proofs.lemmas.Bool.{cases_eq}
use Rattle.pesp_counts_arcs.specs.declared.end.End.{End}
use Rattle.pesp_domains.specs.Sweeps.{Pairs}
use Rattle.pesp_counts_arcs.specs.Ends.{end_at, passes}
use Rattle.pesp_counts_supports.specs.Counts.{IsExactAt, supporters}
use Rattle.pesp_counts_supports.specs.Supports.{IsWide, around}
use Rattle.pesp_counts_supports.proofs.Raised.{block_out}
use Rattle.pesp_counts_supports.proofs.Supporters.{one, supporters_same}
use Rattle.pesp_domains.proofs.Around.{mod_above, mod_below}

-- ---- what a window has

-- a test as a number
pub byte_is : (b : Bool) → from_bool b ≡ one b
byte_is b = grind arith

-- no more than the window has
pub around_le : (period : ℕ) (S : ℕ → Bool) (first width : ℕ) → around period S first width ≤ width
around_le period S first zero = omega arith
around_le period S first (suc width) = let rest = around_le period S first width in grind (arith, rest)

-- all of a window are in a full set
pub around_full : (period : ℕ) (S : ℕ → Bool) (first width : ℕ) → 0 < period → ((s : ℕ) → s < period → S s ≡ true) → around period S first width ≡ width
around_full period S first zero some full = refl
around_full period S first (suc width) some full =
    let rest = around_full period S first width some full in
    rw (full ((first + width) % period) (mod-lt (first + width) some)) (omega (arith, rest))

-- ---- what passes is a window

-- as one residue more passes, the count rises by one where the set has it
supporters_more : (n : ℕ) (S f g : ℕ → Bool) (q : ℕ) → ((s : ℕ) → s < n → g s ≡ (f s || q == s)) → q < n → f q ≡ false → supporters n S g ≡ supporters n S f + one (S q)
supporters_more zero S f g q more l out = absurd (omega (arith, l))
supporters_more (suc n) S f g q more l out =
    elim (cases_eq n q) [
      | inl same ↦
          let rest = supporters_same n S S f g (λ s m. refl) (λ s m. grind (arith, nat_tests, more s (omega (arith, m)), same, m)) in
          grind (arith, nat_tests, rest, more n (omega arith), same, out)
      | inr apart ↦
          let rest = supporters_more n S f g q (λ s m. more s (omega (arith, m))) (omega (arith, l, apart)) out in
          grind (arith, nat_tests, rest, more n (omega arith), apart)
    ]

-- a residue is so far above one where it is the residue that is so far above it
far_where : (T b w s : ℕ) → b < T → w < T → s < T → ((s + (T - b)) % T ≡ w) ↔ ((b + w) % T ≡ s)
far_where T b w s bl wl sl =
    let near = mod_below T (s + (T - b)) in
    let far = mod_above T (s + (T - b)) in
    let first = mod_below T (b + w) in
    let second = mod_above T (b + w) in
    ((λ e. grind (arith, e, near, far, first, second)), (λ e. grind (arith, e, near, far, first, second)))

-- one residue more of the window
test_more : (T b w s : ℕ) → b < T → w < T → s < T → nat_lt ((s + (T - b)) % T) (suc w) ≡ (nat_lt ((s + (T - b)) % T) w || (b + w) % T == s)
test_more T b w s bl wl sl = let (there, back) = far_where T b w s bl wl sl in grind (arith, nat_tests, there, back)

-- none is below itself
pub not_below : (m : ℕ) → nat_lt m m ≡ false
not_below m = grind arith

-- what passes the test of a window is counted along it
around_is : (T : ℕ) (S : ℕ → Bool) (a w : ℕ) → 0 < T → w ≤ T → supporters T S (λ s. nat_lt ((s + (T - a % T)) % T) w) ≡ around T S a w
around_is T S a zero some le = none T
  where
    none : (n : ℕ) → supporters n S (λ s. nat_lt ((s + (T - a % T)) % T) 0) ≡ 0
    none zero = refl
    none (suc n) = let rest = none n in grind (arith, nat_tests, rest)
around_is T S a (suc w) some le =
    let b : ℕ = a % T in
    let bl : b < T = mod-lt a some in
    let wl : w < T = omega (arith, le) in
    let rest = around_is T S a w some (omega (arith, le)) in
    let q : ℕ = (b + w) % T in
    let ql : q < T = mod-lt (b + w) some in
    let at : (q + (T - b)) % T ≡ w = (far_where T b w q bl wl ql).1 refl in
    let out : nat_lt ((q + (T - b)) % T) w ≡ false = rw at (not_below w) in
    let more = supporters_more T S (λ s. nat_lt ((s + (T - b)) % T) w) (λ s. nat_lt ((s + (T - b)) % T) (suc w)) q (λ s sl. test_more T b w s bl wl sl) ql out in
    let last = ap (λ n. one (S n)) (mod-add-mod a T w) in
    omega (arith, more, rest, last)

-- the partners of a residue are those of its window
pub supporters_around : (period : ℕ) (S : ℕ → Bool) (end : End) (r : ℕ) → 0 < period → end.width ≤ period → supporters period S (passes period end r) ≡ around period S (r + end.first) end.width
supporters_around period S end r some width = around_is period S (r + end.first) end.width some width

-- ---- full rows

-- the block of one end is made wide, and no other is changed
module _ (period : ℕ) (ends : List End) (counts changed : List ℕ) (m base width : ℕ) (base_is : base ≡ m * period) (width_is : width ≡ (end_at ends m).width) (made : (r : ℕ) → r < period → get_or changed (base + r) 0 ≡ width) (elsewhere : (i : ℕ) → (i < base) ⊎ (base + period ≤ i) → get_or changed i 0 ≡ get_or counts i 0) where
  pub wide_still : (k : ℕ) → (m ≡ k) ⊎ IsWide period ends counts k → IsWide period ends changed k
  wide_still k from r rl =
      elim (cases_eq m k) [
        | inl same ↦ rw (sym same, sym base_is) (made r rl ∙ width_is)
        | inr apart ↦
            let far = block_out period k m r (λ e. apart (sym e)) rl in
            elsewhere (k * period + r) (grind (arith, far, base_is)) ∙ elim from [ inl same ↦ absurd (apart same) | inr wide ↦ wide r rl ]
      ]

-- a wide end is exact over full rows
pub exact_full : (period : ℕ) (ends : List End) (counts : List ℕ) (S : Pairs) (k : ℕ) → 0 < period → (end_at ends k).width ≤ period → ((s : ℕ) → s < period → S (end_at ends k).looks_at s ≡ true) → IsWide period ends counts k → IsExactAt period ends counts S k
exact_full period ends counts S k some le full wide r rl =
    let end : End = end_at ends k in
    wide r rl ∙ sym (supporters_around period (S end.looks_at) end r some le ∙ around_full period (S end.looks_at) (r + end.first) end.width some full)
