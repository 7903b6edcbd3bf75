-- Multiples of what steps and walks take, and what a sum is without them.
use Rattle.std.proofs.Common.{◌≡◌, ℕ, ◌+◌, ◌<◌, ◌≤◌, Bool, true, false, ℤ, pos, negsuc, neg_ℤ, ◌+ℤ◌, ◌-ℤ◌, ◌*ℤ◌, ◌≤ℤ◌, List, drop, length, get_or, refl, sym, ap, subst, ◌∙◌, arith}
use Rattle.std.proofs.Math.IntN.{*ℤ-zero}
use Rattle.std.proofs.Math.ListN.{set}
use Rattle.std.proofs.lemmas.Int.{ints}
use Rattle.std.proofs.lemmas.List.{drop_all, drop_more}
use Rattle.pesp_search_graph.specs.declared.arc.Arc.{Arc}
use Rattle.pesp_search_cycles.specs.declared.range.Range.{Range}
use Rattle.pesp_search_graph.specs.declared.step.Step.{Step}
use Rattle.pesp_search_cycles.specs.declared.flip.Part.{Part}
use Rattle.pesp_search_cycles.specs.Ranges.{IsIn, least_product, no_range}
use Rattle.pesp_search_cycles.specs.Terms.{left, products, value}
use Rattle.pesp_search_cycles.specs.Walks.{Path, RoundsAreIn, arc_at, no_path, residue, round, signed, time_of, times}
use Rattle.pesp_search_cycles.proofs.Flipped.{plus_neg, times_pos}
use Rattle.pesp_search_cycles.proofs.Numbers.{least_product_le, neg_times, times_neg, times_sum, times_up}
use Rattle.pesp_search_cycles.proofs.Totals.{products-set}

less_rate : (rate r part : ℤ) → rate ≡ r -ℤ part → rate -ℤ r ≡ neg_ℤ part
less_rate rate r part e = omega (arith, ints, e)

together : (sum less fixed p q a b : ℤ) → less ≡ sum -ℤ fixed → q ≡ p +ℤ neg_ℤ a → b ≡ fixed +ℤ a → less +ℤ q ≡ (sum +ℤ p) -ℤ b
together sum less fixed p q a b e f g = omega (arith, ints, e, f, g)

turned : (along : Bool) (m z : ℤ) → signed along m *ℤ z ≡ m *ℤ signed along z
turned true m z = refl
turned false m z = neg_times m z ∙ sym (times_neg m z)

pub step_taken : (arcs : List Arc) (ys : List ℕ) (rs : List ℤ) (s : Step) (m part fixed sum less rate : ℤ) → s.arc < length rs → length ys ≡ length rs → part ≡ signed s.along m → fixed ≡ part *ℤ (arc_at arcs s.arc).span.lower → less ≡ sum -ℤ fixed → rate ≡ get_or rs s.arc (pos 0) -ℤ part → value less (set rs s.arc rate) ys ≡ value sum rs ys -ℤ m *ℤ time_of arcs ys s
step_taken arcs ys rs s m part fixed sum less rate h f p q g r =
    let lower = (arc_at arcs s.arc).span.lower in
    let y : ℤ = pos (get_or ys s.arc 0) in
    together sum less fixed (products rs ys) (products (set rs s.arc rate) ys) (part *ℤ y) (m *ℤ time_of arcs ys s) g
    (products-set rs ys s.arc rate h f ∙ ap (λ k. products rs ys +ℤ k) (ap (λ k. k *ℤ y) (less_rate rate (get_or rs s.arc (pos 0)) part r) ∙ neg_times part y))
    (sym (turned s.along m (lower +ℤ y)) ∙ ap (λ k. k *ℤ (lower +ℤ y)) (sym p) ∙ times_sum part lower y ∙ ap (λ k. k +ℤ part *ℤ y) (sym q))

-- a number taken so often
pub number_taken : (rs : List ℤ) (zs : List ℕ) (i : ℕ) (m rate : ℤ) → i < length rs → length zs ≡ length rs → rate ≡ get_or rs i (pos 0) -ℤ m → products (set rs i rate) zs ≡ products rs zs -ℤ m *ℤ pos (get_or zs i 0)
number_taken rs zs i m rate h e r =
    products-set rs zs i rate h e ∙ ap (λ k. products rs zs +ℤ k) (ap (λ k. k *ℤ pos (get_or zs i 0)) (less_rate rate (get_or rs i (pos 0)) m r) ∙ neg_times m (pos (get_or zs i 0)))
    ∙ plus_neg (products rs zs) (m *ℤ pos (get_or zs i 0))

both_sum : (p q r a b c d : ℤ) → q ≡ p -ℤ a → r ≡ q -ℤ b → b ≡ neg_ℤ d → c ≡ a +ℤ neg_ℤ d → r ≡ p -ℤ c
both_sum p q r a b c d e f g h = omega (arith, ints, e, f, g, h)

minus_is : (x y : ℤ) → x -ℤ y ≡ x +ℤ neg_ℤ y
minus_is x y = omega (arith, ints)

-- the residues at both ends
pub ends_taken : (p q r m back x y : ℤ) → back ≡ neg_ℤ m → q ≡ p -ℤ m *ℤ x → r ≡ q -ℤ back *ℤ y → r ≡ p -ℤ m *ℤ (x -ℤ y)
ends_taken p q r m back x y b e f =
    both_sum p q r (m *ℤ x) (back *ℤ y) (m *ℤ (x -ℤ y)) (m *ℤ y) e f (ap (λ k. k *ℤ y) b ∙ neg_times m y)
    (ap (λ k. m *ℤ k) (minus_is x y) ∙ times_sum m x (neg_ℤ y) ∙ ap (λ k. m *ℤ x +ℤ k) (times_neg m y))

opened_sum : (sum less product p q e a r : ℤ) → less ≡ sum +ℤ product → product ≤ℤ r → r ≡ a +ℤ e → q ≡ p -ℤ e → (less +ℤ q) ≤ℤ ((sum +ℤ p) +ℤ a)
opened_sum sum less product p q e a r d h f g = omega (arith, ints, d, h, f, g)

-- a sum with what a multiple of a walk is at least, without that of its ends
pub opened : (arcs : List Arc) (zs : List ℕ) (rs ts : List ℤ) (path : Path) (range : Range) (m sum less product : ℤ) → less ≡ sum +ℤ product → product ≡ least_product m range → IsIn range (round arcs zs path) → products ts zs ≡ products rs zs -ℤ m *ℤ (residue arcs zs path.from -ℤ residue arcs zs path.to) → value less ts zs ≤ℤ (value sum rs zs +ℤ m *ℤ times arcs zs path.steps)
opened arcs zs rs ts path range m sum less product e p i t =
    let ends : ℤ = residue arcs zs path.from -ℤ residue arcs zs path.to in
    opened_sum sum less product (products rs zs) (products ts zs) (m *ℤ ends) (m *ℤ times arcs zs path.steps) (m *ℤ round arcs zs path) e
    (subst (λ k. k ≤ℤ (m *ℤ round arcs zs path)) (sym p) (least_product_le m range (round arcs zs path) i))
    (times_sum m (times arcs zs path.steps) ends) t

one_less : (v w a b t r : ℤ) → w ≡ v -ℤ t → b ≡ t +ℤ r → v ≡ a +ℤ b → w ≡ a +ℤ r
one_less v w a b t r e f h = omega (arith, ints, e, f, h)

-- one step of the walk more
pub walked : (arcs : List Arc) (ys : List ℕ) (steps : List Step) (i : ℕ) (d : Step) (m v w a : ℤ) → i < length steps → w ≡ v -ℤ m *ℤ time_of arcs ys (get_or steps i d) → v ≡ a +ℤ m *ℤ times arcs ys (drop i steps) → w ≡ a +ℤ m *ℤ times arcs ys (drop (i + 1) steps)
walked arcs ys steps i d m v w a h e le =
    one_less v w a (m *ℤ times arcs ys (drop i steps)) (m *ℤ time_of arcs ys (get_or steps i d)) (m *ℤ times arcs ys (drop (i + 1) steps)) e
    (ap (λ k. m *ℤ times arcs ys k) (drop_more steps i d h) ∙ times_sum m (time_of arcs ys (get_or steps i d)) (times arcs ys (drop (i + 1) steps))) le

none_left : (v a b : ℤ) → b ≡ pos 0 → v ≡ a +ℤ b → v ≡ a
none_left v a b e h = omega (arith, ints, e, h)

-- the whole walk
pub walked_all : (arcs : List Arc) (ys : List ℕ) (steps : List Step) (i : ℕ) (m v a : ℤ) → length steps ≤ i → v ≡ a +ℤ m *ℤ times arcs ys (drop i steps) → v ≡ a
walked_all arcs ys steps i m v a h le =
    none_left v a (m *ℤ times arcs ys (drop i steps)) (ap (λ k. m *ℤ times arcs ys k) (drop_all i steps h) ∙ *ℤ-zero m) le

pub none_yet : (v b : ℤ) → v ≡ (v -ℤ b) +ℤ b
none_yet v b = omega (arith, ints)

closed_sum : (w v a b : ℤ) → w ≡ v -ℤ b → v ≤ℤ (a +ℤ b) → w ≤ℤ a
closed_sum w v a b e h = omega (arith, ints, e, h)

-- with all steps taken nothing is over
pub closed : (v w a b : ℤ) → v ≤ℤ (a +ℤ b) → w ≡ v -ℤ b → w ≤ℤ a
closed v w a b h e = closed_sum w v a b e h

pub RoundsAreIn-at : (ranges : List Range) (arcs : List Arc) (zs : List ℕ) (walks : List Path) (i : ℕ) → RoundsAreIn ranges arcs zs walks → i < length walks → IsIn (get_or ranges i no_range) (round arcs zs (get_or walks i no_path))
RoundsAreIn-at ranges arcs zs walks i h lt = h.each i lt

-- one term of a cut more
pub termed : (terms : List Part) (zs : List ℕ) (i : ℕ) (d : Part) (m multiple p q a : ℤ) → i < length terms → multiple ≡ m *ℤ (get_or terms i d).rate → q ≡ p -ℤ multiple *ℤ pos (get_or zs (get_or terms i d).number 0) → p ≡ a +ℤ m *ℤ left (drop i terms) zs → q ≡ a +ℤ m *ℤ left (drop (i + 1) terms) zs
termed terms zs i d m multiple p q a h e f g =
    let t = get_or terms i d in
    let y = get_or zs t.number 0 in
    one_less p q a (m *ℤ left (drop i terms) zs) (multiple *ℤ pos y) (m *ℤ left (drop (i + 1) terms) zs) f
    (ap (λ k. m *ℤ left k zs) (drop_more terms i d h) ∙ times_sum m (t.rate *ℤ pos y) (left (drop (i + 1) terms) zs) ∙ ap (λ k. k +ℤ m *ℤ left (drop (i + 1) terms) zs) (sym (times_pos m t.rate y) ∙ ap (λ k. k *ℤ pos y) (sym e)))
    g

-- all terms
pub termed_all : (terms : List Part) (zs : List ℕ) (i : ℕ) (m v a : ℤ) → length terms ≤ i → v ≡ a +ℤ m *ℤ left (drop i terms) zs → v ≡ a
termed_all terms zs i m v a h e =
    none_left v a (m *ℤ left (drop i terms) zs) (ap (λ k. m *ℤ left k zs) (drop_all i terms h) ∙ *ℤ-zero m) e

up : (m a b : ℤ) → pos 0 ≤ℤ m → a ≤ℤ b → (m *ℤ a) ≤ℤ (m *ℤ b)
up (pos n) a b h l = times_up n a b l
up (negsuc n) a b h l = absurd (omega (arith, ints, h))

-- a cut taken so often
pub cut_taken : (m sum more product p q l least : ℤ) → pos 0 ≤ℤ m → more ≡ sum +ℤ product → product ≡ m *ℤ least → q ≡ p -ℤ m *ℤ l → least ≤ℤ l → (more +ℤ q) ≤ℤ (sum +ℤ p)
cut_taken m sum more product p q l least some e f g h = go (m *ℤ least) (m *ℤ l) f g (up m least l some h)
  where
    go : (a b : ℤ) → product ≡ a → q ≡ p -ℤ b → a ≤ℤ b → (more +ℤ q) ≤ℤ (sum +ℤ p)
    go a b i j k = omega (arith, ints, e, i, j, k)
