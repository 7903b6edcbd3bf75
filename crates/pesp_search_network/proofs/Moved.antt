-- Arcs between the events with which their ends go.
use Rattle.std.proofs.Common.{◌≡◌, ℕ, ◌+◌, ◌-◌, ◌*◌, ◌/◌, ◌%◌, ◌<◌, ◌≤◌, Bool, true, false, IsTrue, min, ℤ, pos, neg_ℤ, ◌+ℤ◌, ◌-ℤ◌, ◌*ℤ◌, refl, sym, ap, ap₂, ◌∙◌, arith, List, [], ◌∷◌, length, get_or, slice_index}
use Rattle.std.specs.Prelude.{unsigned_abs, cond, ◌||◌, int_lt, negsuc, ◌≤ℤ◌, Ok, Err}
use Rattle.std.specs.Int.{int_min}
use Rattle.std.proofs.lemmas.Int.{int_min_is, ints}
use Rattle.pesp_base.specs.Bounds.{Bounds, is_out, span_of}
use Rattle.pesp_base.specs.declared.span.SpanFault.{SpanFault}
use Rattle.pesp_base.specs.declared.span.SpanFault.TheVariants as fault
use Rattle.std.proofs.lemmas.List.{get_or-map}
use Rattle.pesp_search_network.specs.Prices.{AreExchanged}
use Rattle.pesp_search_network.specs.Shifts.{lifted}
use Rattle.pesp_search_network.specs.Tied.{IsMoved, shifted}
use Rattle.pesp_search_network.proofs.Exchanged.{exchanged_one}
use Rattle.pesp_search_network.specs.declared.presolve.shift.Shift.{Shift}
use Rattle.pesp_search_graph.specs.declared.arc.Arc.{Arc}
use Rattle.pesp_base.specs.Residues.{reach}
use Rattle.pesp_base.specs.Tensions.{is_met, residue, slack_of}
use Rattle.pesp_base.proofs.Laws.{against, met_is, quotient, residue_is, spread}
use Rattle.pesp_base.proofs.ResidueLaws.{met_within_reach, residue-whole_periods}
use Rattle.pesp_search_network.proofs.Turned.{turned_parts}

-- where both ends are turned, each by its own, the slack is that from a lower bound that is turned as far
pub slack-moved : (T : ℕ) (span moved : Bounds) (o p r s : ℕ) → 0 < T → moved.lower ≡ neg_ℤ (pos (slack_of T span o p)) → slack_of T moved r s ≡ slack_of T span ((r + o) % T) ((s + p) % T)
slack-moved T span moved o p r s some is =
    let first : ℤ = neg_ℤ (pos ((s + p) / T)) in
    let second : ℤ = neg_ℤ (pos ((r + o) / T)) in
    let third : ℤ = quotient T (pos p -ℤ pos o -ℤ span.lower) in
    let whole : pos p -ℤ pos o -ℤ span.lower ≡ pos T *ℤ third +ℤ pos (slack_of T span o p) = residue_is T (pos p -ℤ pos o -ℤ span.lower) some in
    let parts : pos ((s + p) % T) -ℤ pos ((r + o) % T) -ℤ span.lower ≡ (pos s -ℤ pos r -ℤ moved.lower) +ℤ pos T *ℤ ((first +ℤ neg_ℤ second) +ℤ third) =
    together (span.lower) moved.lower (pos T *ℤ first) (pos T *ℤ second) (pos T *ℤ neg_ℤ second) (pos T *ℤ third) (pos T *ℤ (first +ℤ neg_ℤ second)) (pos T *ℤ ((first +ℤ neg_ℤ second) +ℤ third)) r s o p
    ((r + o) % T) ((s + p) % T) (slack_of T span o p) (turned_parts T p s) (turned_parts T o r) whole (against T second) (spread T first (neg_ℤ second)) (spread T (first +ℤ neg_ℤ second) third) is in
    sym (ap (residue T) parts ∙ residue-whole_periods T (pos s -ℤ pos r -ℤ moved.lower) ((first +ℤ neg_ℤ second) +ℤ third) some)
  where
    together : (l m a b c d e f : ℤ) (r s o p x y k : ℕ) → pos y ≡ pos (s + p) +ℤ a → pos x ≡ pos (r + o) +ℤ b → pos p -ℤ pos o -ℤ l ≡ d +ℤ pos k → c ≡ neg_ℤ b → e ≡ a +ℤ c → f ≡ e +ℤ d → m ≡ neg_ℤ (pos k)
        → pos y -ℤ pos x -ℤ l ≡ (pos s -ℤ pos r -ℤ m) +ℤ f
    together l m a b c d e f r s o p x y k h₁ h₂ h₃ h₄ h₅ h₆ h₇ = omega (arith, ints, h₁, h₂, h₃, h₄, h₅, h₆, h₇)

-- two tests that hold at once
same_tests : (b c : Bool) → (IsTrue b → IsTrue c) → (IsTrue c → IsTrue b) → b ≡ c
same_tests true c there back = sym (there refl)
same_tests false true there back = back refl
same_tests false false there back = refl

-- the same slack below the same reach is met alike
pub met-moved : (T : ℕ) (span moved : Bounds) (r s q t : ℕ) → 0 < T → span.lower ≤ℤ span.upper → moved.lower ≤ℤ moved.upper → slack_of T moved r s ≡ slack_of T span q t → reach T moved ≡ reach T span
    → is_met T moved r s ≡ is_met T span q t
met-moved T span moved r s q t some one other slack far =
    let reached : (slack_of T moved r s ≤ reach T moved) → (slack_of T span q t ≤ reach T span) = λ h. omega (arith, slack, far, h) in
    let back : (slack_of T span q t ≤ reach T span) → (slack_of T moved r s ≤ reach T moved) = λ h. omega (arith, slack, far, h) in
    same_tests (is_met T moved r s) (is_met T span q t)
    (λ h. (met_is T span q t some).1 ((met_within_reach T span some one q t).1 (reached ((met_within_reach T moved some other r s).0 ((met_is T moved r s some).0 h)))))
    (λ h. (met_is T moved r s some).1 ((met_within_reach T moved some other r s).1 (back ((met_within_reach T span some one q t).0 ((met_is T span q t some).0 h)))))

-- the bounds of a span that has a width are in order
pub ordered_of_width : (T width : ℕ) (l u : ℤ) → 0 < T → pos width ≡ int_min (u -ℤ l) (pos T -ℤ pos 1) → l ≤ℤ u
ordered_of_width T width l u some e = omega (arith, ints, int_min_is (u -ℤ l) (pos T -ℤ pos 1), e)

wide_of : (z w t : ℤ) (n T : ℕ) → pos n ≡ z → 0 < T → w ≡ int_min z (pos T -ℤ pos 1) → w ≡ pos (min n (T - 1))
wide_of z w t n T e some is = omega (arith, ints, int_min_is z (pos T -ℤ pos 1), e, is)

-- the length of a difference that is not negative
length_of : (z : ℤ) (n : ℕ) → pos 0 ≤ℤ z → n ≡ unsigned_abs z → pos n ≡ z
length_of (pos k) n h e = ap pos e
length_of (negsuc k) n h e = absurd (omega (arith, ints, h))

-- a span that is as wide as another reaches as far
pub reach_of_width : (T : ℕ) (span moved : Bounds) (width : ℕ) → 0 < T → pos width ≡ int_min (span.upper -ℤ span.lower) (pos T -ℤ pos 1) → moved.upper ≡ moved.lower +ℤ pos width → reach T moved ≡ reach T span
reach_of_width T span moved width some e f =
    let ordered = ordered_of_width T width span.lower span.upper some e in
    let wide : pos (unsigned_abs (span.upper -ℤ span.lower)) ≡ span.upper -ℤ span.lower = length_of (span.upper -ℤ span.lower) _ (omega (arith, ints, ordered)) refl in
    let within : width ≡ min (unsigned_abs (span.upper -ℤ span.lower)) (T - 1) =
    (let same : pos width ≡ pos (min (unsigned_abs (span.upper -ℤ span.lower)) (T - 1)) = wide_of (span.upper -ℤ span.lower) (pos width) (pos 0) (unsigned_abs (span.upper -ℤ span.lower)) T wide some e in
    omega (arith, ints, same)) in
    let apart : moved.upper -ℤ moved.lower ≡ pos width = omega (arith, ints, f) in
    ap (λ z. min (unsigned_abs z) (T - 1)) apart ∙ omega (arith, within)

-- ---- the span of a moved arc

chosen_span : (b c : Bool) (f g : SpanFault) (s t : Bounds) → cond b (Err f) (cond c (Err g) (Ok s)) ≡ Ok t → s ≡ t
chosen_span true c f g s t e = absurd (cc)
chosen_span false true f g s t e = absurd (cc)
chosen_span false false f g s t e = cc

-- a span that there is has its bounds
pub span_is : (l u : ℤ) (s : Bounds) → Ok s ≡ span_of l u → (l ≡ s.lower) × (u ≡ s.upper)
span_is l u s e =
    let same = chosen_span (is_out l || is_out u) (int_lt u l) fault.OutOfRange fault.Crossed (record { lower = l; upper = u }) s (sym e) in
    (ap (λ (b : Bounds). b.lower) same, ap (λ (b : Bounds). b.upper) same)

pub moved_by : (T : ℕ) (a : Arc) (from to : Shift) (span : Bounds) (width : ℕ) → 0 < T → pos width ≡ int_min (a.span.upper -ℤ a.span.lower) (pos T -ℤ pos 1)
    → span.lower ≡ neg_ℤ (pos (slack_of T a.span from.offset to.offset)) → span.upper ≡ span.lower +ℤ pos width
    → IsMoved T a from to (record { from = from.index; to = to.index; span = span; weight = a.weight })
moved_by T a from to span width some wide lower upper =
    let slack = λ (r s : ℕ). slack-moved T a.span span from.offset to.offset r s some lower in
    record {
      tail = refl;
      head = refl;
      meets = λ r s.
          met-moved T a.span span r s ((r + from.offset) % T) ((s + to.offset) % T) some (ordered_of_width T width a.span.lower a.span.upper some wide) (omega (arith, ints, upper)) (slack r s)
          (reach_of_width T a.span span width some wide upper);
      costs = λ r s. ap (λ n. a.weight * n) (slack r s);
    }

-- ---- all arcs

-- the residue of an event at a map that is lifted
pub lifted_at : (T : ℕ) (shifts : List Shift) (y : List ℕ) (v : ℕ) (d : Shift) → v < length shifts → slice_index (lifted T shifts y) v ≡ shifted T shifts y v d
lifted_at T shifts y v d h = get_or-map (λ s. (slice_index y s.index + s.offset) % T) shifts v d 0 h

-- an arc that is moved is exchanged
pub moved_exchanged : (T : ℕ) (shifts : List Shift) (y : List ℕ) (a b : Arc) (d : Shift) → a.from < length shifts → a.to < length shifts → IsMoved T a (get_or shifts a.from d) (get_or shifts a.to d) b
    → AreExchanged T 0 (a ∷ []) (lifted T shifts y) (b ∷ []) y
moved_exchanged T shifts y a b d from to is =
    let x = lifted T shifts y in
    let tail = lifted_at T shifts y a.from d from in
    let head = lifted_at T shifts y a.to d to in
    exchanged_one T a x b y
    (ap₂ (is_met T b.span) (ap (slice_index y) is.tail) (ap (slice_index y) is.head) ∙ is.meets _ _ ∙ sym (ap₂ (is_met T a.span) tail head))
    (ap₂ (λ r s. b.weight * slack_of T b.span r s) (ap (slice_index y) is.tail) (ap (slice_index y) is.head) ∙ is.costs _ _ ∙ sym (ap₂ (λ r s. a.weight * slack_of T a.span r s) tail head))
