-- Sums over slacks, step by step.
use Rattle.std.proofs.Common.{◌≡◌, ℕ, zero, suc, ◌+◌, ◌<◌, ℤ, pos, ◌+ℤ◌, ◌-ℤ◌, ◌*ℤ◌, ◌≤ℤ◌, List, [], ◌∷◌, drop, length, get_or, sym, ap, subst, ◌∙◌, arith}
use Rattle.std.proofs.Math.ListN.{set}
use Rattle.std.proofs.lemmas.Int.{ints}
use Rattle.std.proofs.lemmas.List.{drop_more, get_or_default}
use Rattle.pesp_search_cycles.specs.declared.range.Range.{Range}
use Rattle.pesp_search_cycles.specs.Ranges.{AreIn, IsIn, least_product, no_range}
use Rattle.pesp_search_cycles.specs.Terms.{products, value}
use Rattle.pesp_search_cycles.proofs.Numbers.{least_product_le, sum_times}

first : (r v x y p : ℤ) → x ≡ r *ℤ y +ℤ (v -ℤ r) *ℤ y → x +ℤ p ≡ (r *ℤ y +ℤ p) +ℤ (v -ℤ r) *ℤ y
first r v x y p e = omega (arith, ints, e)

whole : (r v : ℤ) → v ≡ r +ℤ (v -ℤ r)
whole r v = omega (arith, ints)

pub rest : (a p q d : ℤ) → p ≡ q +ℤ d → a +ℤ p ≡ (a +ℤ q) +ℤ d
rest a p q d e = omega (arith, ints, e)

-- where one rate is another one, its slack counts so many times more
pub products-set : (rs : List ℤ) (ys : List ℕ) (i : ℕ) (v : ℤ) → i < length rs → length ys ≡ length rs → products (set rs i v) ys ≡ products rs ys +ℤ (v -ℤ get_or rs i (pos 0)) *ℤ pos (get_or ys i 0)
products-set [] ys i v h e = absurd (omega (arith, h))
products-set (r ∷ rs) [] i v h e = absurd (omega (arith, e))
products-set (r ∷ rs) (y ∷ ys) zero v h e =
    first r v (v *ℤ pos y) (pos y) (products rs ys) (ap (λ k. k *ℤ pos y) (whole r v) ∙ sum_times r (v -ℤ r) (pos y))
products-set (r ∷ rs) (y ∷ ys) (suc i) v h e =
    rest (r *ℤ pos y) (products (set rs i v) ys) (products rs ys) ((v -ℤ get_or rs i (pos 0)) *ℤ pos (get_or ys i 0)) (products-set rs ys i v (omega (arith, h)) (omega (arith, e)))

-- the products from a place on are that at the place and those after it
pub products-drop : (rs : List ℤ) (ys : List ℕ) (i : ℕ) → i < length rs → length ys ≡ length rs → products (drop i rs) (drop i ys) ≡ get_or rs i (pos 0) *ℤ pos (get_or ys i 0) +ℤ products (drop (i + 1) rs) (drop (i + 1) ys)
products-drop rs ys i h e =
    let there : i < length ys = omega (arith, h, e) in
    ap (λ k. products k (drop i ys)) (drop_more rs i (pos 0) h) ∙ ap (λ k. products (get_or rs i (pos 0) ∷ drop (i + 1) rs) k) (drop_more ys i 0 there)

pub AreIn-length : (ranges : List Range) (ys : List ℕ) → AreIn ranges ys → length ys ≡ length ranges
AreIn-length ranges ys h = sym h.long

pub AreIn-at : (ranges : List Range) (ys : List ℕ) (i : ℕ) (d : Range) → AreIn ranges ys → i < length ranges → IsIn (get_or ranges i d) (pos (get_or ys i 0))
AreIn-at ranges ys i d h lt =
    subst (λ r. IsIn r (pos (get_or ys i 0))) (get_or_default ranges i no_range d lt) (h.each i (omega (arith, lt, h.long)))

-- one product settled at the least end of its range
settled : (t l n m p q a : ℤ) → n ≡ l +ℤ m → m ≤ℤ a → p ≡ a +ℤ q → (l +ℤ p) ≤ℤ t → (n +ℤ q) ≤ℤ t
settled t l n m p q a s h e g = omega (arith, ints, s, h, e, g)

pub settle_more : (sum : ℤ) (rates : List ℤ) (ranges : List Range) (ys : List ℕ) (i : ℕ) (d : Range) (least product next : ℤ) → i < length rates → length ranges ≡ length rates → AreIn ranges ys → next ≡ least +ℤ product → product ≡ least_product (get_or rates i (pos 0)) (get_or ranges i d) → (least +ℤ products (drop i rates) (drop i ys)) ≤ℤ value sum rates ys → (next +ℤ products (drop (i + 1) rates) (drop (i + 1) ys)) ≤ℤ value sum rates ys
settle_more sum rates ranges ys i d least product next h e all s p v =
    settled (value sum rates ys) least next product (products (drop i rates) (drop i ys)) (products (drop (i + 1) rates) (drop (i + 1) ys)) (get_or rates i (pos 0) *ℤ pos (get_or ys i 0)) s
    (subst (λ m. m ≤ℤ (get_or rates i (pos 0) *ℤ pos (get_or ys i 0))) (sym p) (least_product_le (get_or rates i (pos 0)) (get_or ranges i d) (pos (get_or ys i 0)) (AreIn-at ranges ys i d all (omega (arith, h, e)))))
    (products-drop rates ys i h (AreIn-length ranges ys all ∙ e)) v
