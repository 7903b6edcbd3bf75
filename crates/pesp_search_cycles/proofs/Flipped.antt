-- Flip cuts: how they are made step by step, and that each map keeps them.
use Rattle.std.proofs.Common.{◌≡◌, ℕ, zero, suc, ◌*◌, ◌≤◌, ℤ, pos, negsuc, neg_ℤ, ◌+ℤ◌, ◌-ℤ◌, ◌*ℤ◌, ◌≤ℤ◌, ◌<◌, All, List, [], length, ◌∷◌, ◌++◌, get_or, sym, ap, subst, ◌∙◌, arith}
use Rattle.std.proofs.Math.IntN.{*ℤ_comm, *ℤ-zero, pos-*ℤ-negsuc, pos-*ℤ-pos}
use Rattle.std.proofs.lemmas.Int.{ints}
use Rattle.pesp_search_cycles.specs.declared.flip.Part.{Part}
use Rattle.pesp_search_cycles.specs.declared.flip.FlipCut.{FlipCut}
use Rattle.pesp_search_cycles.specs.declared.flip.Making.{Making}
use Rattle.pesp_search_cycles.specs.Terms.{IsMade, left}
use Rattle.pesp_search_cycles.proofs.Halved.{one_times}
use Rattle.pesp_search_cycles.proofs.Numbers.{neg_times, sum_times, times_neg, times_sum, times_up}
use Rattle.pesp_search_cycles.proofs.Totals.{rest}

one_more : (m : ℤ) (n : ℕ) → m *ℤ pos (suc n) ≡ m *ℤ pos n +ℤ m
one_more m n =
    let next : pos (suc n) ≡ pos n +ℤ pos 1 = omega (arith, ints) in
    ap (λ k. m *ℤ k) next ∙ times_sum m (pos n) (pos 1) ∙ ap (λ k. m *ℤ pos n +ℤ k) (*ℤ_comm m (pos 1) ∙ sym (one_times m))

-- a product of three, of which the last one is a number
pub times_pos : (c r : ℤ) (n : ℕ) → (c *ℤ r) *ℤ pos n ≡ c *ℤ (r *ℤ pos n)
times_pos c r zero = *ℤ-zero (c *ℤ r) ∙ sym (ap (λ k. c *ℤ k) (*ℤ-zero r) ∙ *ℤ-zero c)
times_pos c r (suc n) =
    one_more (c *ℤ r) n ∙ ap (λ k. k +ℤ c *ℤ r) (times_pos c r n)
    ∙ sym (ap (λ k. c *ℤ k) (one_more r n) ∙ times_sum c (r *ℤ pos n) r)

pub plus_neg : (p q : ℤ) → p +ℤ neg_ℤ q ≡ p -ℤ q
plus_neg p q = omega (arith, ints)

less_by : (a b c : ℤ) → a *ℤ (b -ℤ c) ≡ a *ℤ b -ℤ a *ℤ c
less_by a b c =
    let apart : b -ℤ c ≡ b +ℤ neg_ℤ c = omega (arith, ints) in
    ap (λ k. a *ℤ k) apart ∙ times_sum a b (neg_ℤ c) ∙ ap (λ k. a *ℤ b +ℤ k) (times_neg a c) ∙ plus_neg (a *ℤ b) (a *ℤ c)

-- a term more
pub left_more : (ts us : List Part) (t : Part) (zs : List ℕ) → us ≡ ts ++ t ∷ [] → left us zs ≡ left ts zs +ℤ t.rate *ℤ pos (get_or zs t.number 0)
left_more ts us t zs e = ap (λ (l : List Part). left l zs) e ∙ go ts
  where
    alone : (p : ℤ) → p +ℤ pos 0 ≡ pos 0 +ℤ p
    alone p = omega (arith, ints)

    go : (l : List Part) → left (l ++ t ∷ []) zs ≡ left l zs +ℤ t.rate *ℤ pos (get_or zs t.number 0)
    go [] = alone (t.rate *ℤ pos (get_or zs t.number 0))
    go (u ∷ l) = rest (u.rate *ℤ pos (get_or zs u.number 0)) (left (l ++ t ∷ []) zs) (left l zs) (t.rate *ℤ pos (get_or zs t.number 0)) (go l)

-- times of a piece, and what is taken of them
taken : (c f r : ℤ) (y : ℕ) → c *ℤ (f +ℤ r *ℤ pos y) ≡ c *ℤ f +ℤ (c *ℤ r) *ℤ pos y
taken c f r y = times_sum c f (r *ℤ pos y) ∙ ap (λ k. c *ℤ f +ℤ k) (sym (times_pos c r y))

moved : (T : ℕ) (t x b e : ℤ) → pos T *ℤ ((t +ℤ x) -ℤ (b +ℤ e)) ≡ (pos T *ℤ (t -ℤ b) +ℤ pos T *ℤ x) -ℤ pos T *ℤ e
moved T t x b e =
    let apart : (t +ℤ x) -ℤ (b +ℤ e) ≡ ((t -ℤ b) +ℤ x) -ℤ e = omega (arith, ints) in
    ap (λ k. pos T *ℤ k) apart ∙ less_by (pos T) ((t -ℤ b) +ℤ x) e ∙ ap (λ k. k -ℤ pos T *ℤ e) (times_sum (pos T) (t -ℤ b) x)

counted_some : (k l at ax tx tlo cf cry cx m n aboth : ℤ) → cx ≡ cf +ℤ cry → tx ≡ cx +ℤ ax → m ≡ k +ℤ (tlo -ℤ cf) → n ≡ l +ℤ cry → aboth ≡ at +ℤ ax → tlo ≤ℤ tx → k ≤ℤ (l +ℤ at) → m ≤ℤ (n +ℤ aboth)
counted_some k l at ax tx tlo cf cry cx m n aboth e f g h i j p = omega (arith, ints, e, f, g, h, i, j, p)

counted_above : (k l at ax tt tx tlo cf cry cx m n aboth tall : ℤ) → cx ≡ cf +ℤ cry → tx ≡ cx +ℤ ax → m ≡ k +ℤ (tlo -ℤ cf) → n ≡ l +ℤ cry → aboth ≡ at +ℤ ax → tall ≡ (tt +ℤ tx) -ℤ tlo → (k +ℤ tt) ≤ℤ (l +ℤ at) → (m +ℤ tall) ≤ℤ (n +ℤ aboth)
counted_above k l at ax tt tx tlo cf cry cx m n aboth tall e f g h i j p = omega (arith, ints, e, f, g, h, i, j, p)

-- with a step that is counted
pub counted : (T : ℕ) (a c : ℤ) (old new : Making) (zs : List ℕ) (t f r lo : ℤ) (y : ℕ) → c ≡ pos T -ℤ a → lo ≤ℤ (f +ℤ r *ℤ pos y) → new.base ≡ old.base +ℤ lo → new.least ≡ old.least +ℤ (pos T *ℤ lo -ℤ c *ℤ f) → left new.terms.items zs ≡ left old.terms.items zs +ℤ (c *ℤ r) *ℤ pos y → IsMade T a old zs t → IsMade T a new zs (t +ℤ (f +ℤ r *ℤ pos y))
counted T a c old new zs t f r lo y often low base least terms made =
    let x : ℤ = f +ℤ r *ℤ pos y in
    let whole : pos T ≡ c +ℤ a = omega (arith, ints, often) in
    let all : pos T *ℤ x ≡ c *ℤ x +ℤ a *ℤ x = ap (λ k. k *ℤ x) whole ∙ sum_times c a x in
    let both : a *ℤ (t +ℤ x) ≡ a *ℤ t +ℤ a *ℤ x = times_sum a t x in
    let over : pos T *ℤ ((t +ℤ x) -ℤ new.base) ≡ (pos T *ℤ (t -ℤ old.base) +ℤ pos T *ℤ x) -ℤ pos T *ℤ lo = ap (λ k. pos T *ℤ ((t +ℤ x) -ℤ k)) base ∙ moved T t x old.base lo in
    record {
      some = counted_some old.least (left old.terms.items zs) (a *ℤ t) (a *ℤ x) (pos T *ℤ x) (pos T *ℤ lo) (c *ℤ f) ((c *ℤ r) *ℤ pos y) (c *ℤ x) new.least (left new.terms.items zs) (a *ℤ (t +ℤ x)) (taken c f r y) all least terms both (times_up T lo x low) made.some;
      above = counted_above old.least (left old.terms.items zs) (a *ℤ t) (a *ℤ x) (pos T *ℤ (t -ℤ old.base)) (pos T *ℤ x) (pos T *ℤ lo) (c *ℤ f) ((c *ℤ r) *ℤ pos y) (c *ℤ x) new.least (left new.terms.items zs) (a *ℤ (t +ℤ x)) (pos T *ℤ ((t +ℤ x) -ℤ new.base)) (taken c f r y) all least terms both over made.above;
    }

other_some : (k l at ax af ary m n ry aboth : ℤ) → ax ≡ af +ℤ ary → m ≡ k +ℤ af → ry ≡ neg_ℤ ary → n ≡ l +ℤ ry → aboth ≡ at +ℤ ax → k ≤ℤ (l +ℤ at) → m ≤ℤ (n +ℤ aboth)
other_some k l at ax af ary m n ry aboth e f g h i p = omega (arith, ints, e, f, g, h, i, p)

other_above : (k l at ax tt tx thi af ary m n ry aboth tall : ℤ) → ax ≡ af +ℤ ary → m ≡ k +ℤ af → ry ≡ neg_ℤ ary → n ≡ l +ℤ ry → aboth ≡ at +ℤ ax → tall ≡ (tt +ℤ tx) -ℤ thi → tx ≤ℤ thi → (k +ℤ tt) ≤ℤ (l +ℤ at) → (m +ℤ tall) ≤ℤ (n +ℤ aboth)
other_above k l at ax tt tx thi af ary m n ry aboth tall e f g h i j p q = omega (arith, ints, e, f, g, h, i, j, p, q)

-- with a step that is not counted
pub other : (T : ℕ) (a : ℤ) (old new : Making) (zs : List ℕ) (t f r hi : ℤ) (y : ℕ) → (f +ℤ r *ℤ pos y) ≤ℤ hi → new.base ≡ old.base +ℤ hi → new.least ≡ old.least +ℤ a *ℤ f → left new.terms.items zs ≡ left old.terms.items zs +ℤ neg_ℤ (a *ℤ r) *ℤ pos y → IsMade T a old zs t → IsMade T a new zs (t +ℤ (f +ℤ r *ℤ pos y))
other T a old new zs t f r hi y high base least terms made =
    let x : ℤ = f +ℤ r *ℤ pos y in
    let both : a *ℤ (t +ℤ x) ≡ a *ℤ t +ℤ a *ℤ x = times_sum a t x in
    let over : pos T *ℤ ((t +ℤ x) -ℤ new.base) ≡ (pos T *ℤ (t -ℤ old.base) +ℤ pos T *ℤ x) -ℤ pos T *ℤ hi = ap (λ k. pos T *ℤ ((t +ℤ x) -ℤ k)) base ∙ moved T t x old.base hi in
    record {
      some = other_some old.least (left old.terms.items zs) (a *ℤ t) (a *ℤ x) (a *ℤ f) ((a *ℤ r) *ℤ pos y) new.least (left new.terms.items zs) (neg_ℤ (a *ℤ r) *ℤ pos y) (a *ℤ (t +ℤ x)) (taken a f r y) least (neg_times (a *ℤ r) (pos y)) terms both made.some;
      above = other_above old.least (left old.terms.items zs) (a *ℤ t) (a *ℤ x) (pos T *ℤ (t -ℤ old.base)) (pos T *ℤ x) (pos T *ℤ hi) (a *ℤ f) ((a *ℤ r) *ℤ pos y) new.least (left new.terms.items zs) (neg_ℤ (a *ℤ r) *ℤ pos y) (a *ℤ (t +ℤ x)) (pos T *ℤ ((t +ℤ x) -ℤ new.base)) (taken a f r y) least (neg_times (a *ℤ r) (pos y)) terms both over (times_up T x hi high) made.above;
    }

-- a product of numbers that were written and read
pub product_is : (a b p x y : ℤ) → p ≡ x *ℤ y → x ≡ a → y ≡ b → p ≡ a *ℤ b
product_is a b p x y e f g = e ∙ ap (λ k. k *ℤ y) f ∙ ap (λ k. a *ℤ k) g

-- a time with its number once, along or against
pub once : (f lower : ℤ) (y : ℕ) → f ≡ lower → f +ℤ pos 1 *ℤ pos y ≡ lower +ℤ pos y
once f lower y e = omega (arith, ints, e)

pub against_once : (f lower : ℤ) (y : ℕ) → f ≡ neg_ℤ lower → f +ℤ negsuc 0 *ℤ pos y ≡ neg_ℤ (lower +ℤ pos y)
against_once f lower y e = omega (arith, ints, e)

pub back_again : (t r s : ℤ) → r ≡ s → t ≡ t +ℤ (r -ℤ s)
back_again t r s e = omega (arith, ints, e)

pub with_ends : (t x y r s : ℤ) → x ≡ r → y ≡ neg_ℤ s → (t +ℤ x) +ℤ y ≡ t +ℤ (r -ℤ s)
with_ends t x y r s e f = omega (arith, ints, e, f)

-- at most 0 periods
few : (T n : ℕ) → (pos T *ℤ negsuc n +ℤ pos T) ≤ℤ pos 0
few T n = at (T * suc n) T (pos T *ℤ negsuc n) (pos-*ℤ-negsuc T n) (let enough : T ≤ T * suc n = omega arith in enough)
  where
    at : (p q : ℕ) (z : ℤ) → z ≡ neg_ℤ (pos p) → q ≤ p → (z +ℤ pos q) ≤ℤ pos 0
    at p q z e h = omega (arith, ints, e, h)

up_both : (n T : ℕ) (p : ℕ) → pos n ≤ℤ pos T → (pos n *ℤ pos p) ≤ℤ (pos T *ℤ pos p)
up_both n T p h =
    let turned = times_up p (pos n) (pos T) h in
    subst (λ k. k ≤ℤ (pos T *ℤ pos p)) (*ℤ_comm (pos p) (pos n)) (subst (λ k. (pos p *ℤ pos n) ≤ℤ k) (*ℤ_comm (pos p) (pos T)) turned)

-- the cut in each of the two cases: the periods are fewer than those of the base and the rest, or not
below_case : (k l rs az first m : ℤ) → first +ℤ rs ≡ az → az ≤ℤ pos 0 → m ≡ k +ℤ first → k ≤ℤ (l +ℤ rs) → m ≤ℤ l
below_case k l rs az first m e f g h = omega (arith, ints, e, f, g, h)

above_case : (k l rs az first m ts atk at ttk ta : ℤ) → first +ℤ rs ≡ az → az ≡ atk +ℤ at → ts ≡ ttk +ℤ ta → atk ≤ℤ ttk → at ≡ ta → m ≡ k +ℤ first → (k +ℤ ts) ≤ℤ (l +ℤ rs) → m ≤ℤ l
above_case k l rs az first m ts atk at ttk ta e f g h i j p = omega (arith, ints, e, f, g, h, i, j, p)

apart : (t w s p e : ℤ) → w ≡ e → p ≡ s -ℤ e → (t -ℤ w) +ℤ s ≡ p +ℤ t
apart t w s p e f g = omega (arith, ints, f, g)

over : (b n w s p e : ℤ) → w ≡ b +ℤ n → w ≡ e → p ≡ s -ℤ e → s -ℤ b ≡ p +ℤ n
over b n w s p e f g h = omega (arith, ints, f, g, h)

module _ (T n : ℕ) (made : Making) (zs : List ℕ) (q b whole least : ℤ) (rest : pos n ≤ℤ pos T) (base : whole ≡ made.base +ℤ pos n) (periods : whole ≡ pos T *ℤ b) (first : least ≡ made.least +ℤ pos n *ℤ (pos T -ℤ whole)) (h : IsMade T (pos n) made zs (pos T *ℤ q)) where
  all_of : (p : ℤ) → p ≡ pos T *ℤ q -ℤ pos T *ℤ b → pos n *ℤ (pos T -ℤ whole) +ℤ pos n *ℤ (pos T *ℤ q) ≡ pos n *ℤ (p +ℤ pos T)
  all_of p e =
      sym (times_sum (pos n) (pos T -ℤ whole) (pos T *ℤ q))
      ∙ ap (λ k. pos n *ℤ k) (apart (pos T) whole (pos T *ℤ q) p (pos T *ℤ b) periods e)

  of_periods : (k : ℤ) → pos T *ℤ k ≡ pos T *ℤ q -ℤ pos T *ℤ b → least ≤ℤ left made.terms.items zs
  of_periods (negsuc j) e =
      below_case made.least (left made.terms.items zs) (pos n *ℤ (pos T *ℤ q)) (pos n *ℤ (pos T *ℤ negsuc j +ℤ pos T)) (pos n *ℤ (pos T -ℤ whole)) least
      (all_of (pos T *ℤ negsuc j) e)
      (subst (λ k. (pos n *ℤ (pos T *ℤ negsuc j +ℤ pos T)) ≤ℤ k) (*ℤ-zero (pos n)) (times_up n (pos T *ℤ negsuc j +ℤ pos T) (pos 0) (few T j)))
      first h.some
  of_periods (pos j) e =
      above_case made.least (left made.terms.items zs) (pos n *ℤ (pos T *ℤ q)) (pos n *ℤ (pos T *ℤ pos j +ℤ pos T)) (pos n *ℤ (pos T -ℤ whole)) least (pos T *ℤ (pos T *ℤ q -ℤ made.base)) (pos n *ℤ (pos T *ℤ pos j)) (pos n *ℤ pos T) (pos T *ℤ (pos T *ℤ pos j)) (pos T *ℤ pos n)
      (all_of (pos T *ℤ pos j) e)
      (times_sum (pos n) (pos T *ℤ pos j) (pos T))
      (ap (λ k. pos T *ℤ k) (over made.base (pos n) whole (pos T *ℤ q) (pos T *ℤ pos j) (pos T *ℤ b) base periods e) ∙ times_sum (pos T) (pos T *ℤ pos j) (pos n))
      (subst (λ k. (pos n *ℤ k) ≤ℤ (pos T *ℤ k)) (sym (pos-*ℤ-pos T j)) (up_both n T (T * j) rest))
      (*ℤ_comm (pos n) (pos T))
      first h.above

  -- each number of periods keeps the cut
  pub kept : least ≤ℤ left made.terms.items zs
  kept = of_periods (q -ℤ b) (less_by (pos T) q b)

-- a number of periods keeps the cut, with a rest from 0 to the period
pub keeps : (T : ℕ) (a : ℤ) (made : Making) (zs : List ℕ) (q b whole least time : ℤ) → pos 0 ≤ℤ a → a ≤ℤ pos T → whole ≡ made.base +ℤ a → whole ≡ pos T *ℤ b → least ≡ made.least +ℤ a *ℤ (pos T -ℤ whole) → time ≡ pos T *ℤ q → IsMade T a made zs time → least ≤ℤ left made.terms.items zs
keeps T (pos n) made zs q b whole least time some rest base periods first is h =
    kept T n made zs q b whole least rest base periods first (subst (λ t. IsMade T (pos n) made zs t) is h)
keeps T (negsuc n) made zs q b whole least time some rest base periods first is h = absurd (omega (arith, ints, some))

-- one cut more
pub kept_more : (P : FlipCut → Type 0) (cs ds : List FlipCut) (f : FlipCut) → ds ≡ cs ++ f ∷ [] → All P cs → P f → All P ds
kept_more P cs ds f e all last = λ k d h. subst (λ (l : List FlipCut). P (get_or l k d)) (sym e) (go cs k d all (subst (λ (l : List FlipCut). k < length l) e h))
  where
    go : (l : List FlipCut) (k : ℕ) (d : FlipCut) → All P l → k < length (l ++ f ∷ []) → P (get_or (l ++ f ∷ []) k d)
    go [] zero d a h = last
    go [] (suc k) d a h = absurd (omega (arith, h))
    go (x ∷ l) zero d a h = a 0 d (omega arith)
    go (x ∷ l) (suc k) d a h = go l k d (λ j e' i. a (suc j) e' (omega (arith, i))) (omega (arith, h))
