-- Which events go with one another at each map.
use Rattle.std.proofs.Common.{◌≡◌, ℕ, ◌+◌, ◌-◌, ◌%◌, ◌<◌, ◌≤◌, true, IsTrue, inl, inr, List, ◌++◌, ◌∷◌, [], length, get_or, slice_index, ℤ, pos, neg_ℤ, ◌+ℤ◌, ◌-ℤ◌, ◌*ℤ◌, int_le, refl, sym, subst, ap, ◌∙◌, arith}
use Rattle.std.specs.Int.{int_min}
use Rattle.std.specs.Prelude.{Result, Ok, Err}
use Rattle.std.specs.Result.{OnOk}
use Rattle.pesp_base.specs.declared.memory.Memory.{Memory}
use Rattle.std.proofs.Math.ListN.{set}
use Rattle.std.proofs.Math.IntN.{pos-*ℤ-pos}
use Rattle.std.proofs.Math.Nat.{add-mod-mod, mod-add-mod}
use Rattle.std.proofs.lemmas.Int.{int_min_is, ints}
use Rattle.std.proofs.lemmas.Bool.{cases_eq, cases_lt}
use Rattle.std.proofs.lemmas.List.{get_or-set_same, get_or-set_other, get_or_append_left, get_or_push, length-set, length_push}
use Rattle.pesp_base.specs.Tensions.{residue, slack_of}
use Rattle.pesp_base.proofs.Laws.{against, quotient, residue_below, residue_is, spread}
use Rattle.pesp_base.proofs.ResidueLaws.{residue_unique}
use Rattle.pesp_base.proofs.WindowLaws.{after_no_step}
use Rattle.pesp_search_network.specs.Arcs.{Arcs, IsBetween, IsMet, meets}
use Rattle.pesp_search_graph.specs.declared.arc.Arc.{Arc}
use Rattle.pesp_search_network.specs.Tied.{AreLed, AreTied, IsTied}
use Rattle.pesp_search_network.specs.declared.presolve.shift.Shift.{Shift}
use Rattle.pesp_search_network.proofs.Residues.{keeps_rows}

-- ---- an arc of width 0

no_rise : (l u : ℤ) (k T w : ℕ) → 2 ≤ T → pos w ≡ int_min (u -ℤ l) (pos T -ℤ pos 1) → w ≡ 0 → int_le (l +ℤ pos k) u ≡ true → k ≡ 0
no_rise l u k T w some e none h = omega (arith, ints, int_min_is (u -ℤ l) (pos T -ℤ pos 1), e, none, h)

-- from the head back to the tail
module _ (T r s back : ℕ) (l : ℤ) (some : 0 < T) (level : residue T (pos s -ℤ pos r -ℤ l) ≡ 0) (is_back : residue T (pos 0 -ℤ pos 0 -ℤ l) ≡ back) where
  abbrev q₁ : ℤ
  q₁ = quotient T (pos s -ℤ pos r -ℤ l)

  abbrev q₂ : ℤ
  q₂ = quotient T (pos 0 -ℤ pos 0 -ℤ l)

  far : pos s -ℤ pos r -ℤ l ≡ pos T *ℤ q₁ +ℤ pos 0
  far = residue_is T (pos s -ℤ pos r -ℤ l) some ∙ ap (λ k. pos T *ℤ q₁ +ℤ pos k) level

  near : pos 0 -ℤ pos 0 -ℤ l ≡ pos T *ℤ q₂ +ℤ pos back
  near = residue_is T (pos 0 -ℤ pos 0 -ℤ l) some ∙ ap (λ k. pos T *ℤ q₂ +ℤ pos k) is_back

  one_way : (l a b t₁ t₂ : ℤ) (r s back : ℕ) → pos s -ℤ pos r -ℤ l ≡ a +ℤ pos 0 → pos 0 -ℤ pos 0 -ℤ l ≡ b +ℤ pos back → t₁ ≡ a +ℤ t₂ → t₂ ≡ neg_ℤ b → pos (s + back) ≡ t₁ +ℤ pos r
  one_way l a b t₁ t₂ r s back e f g h = omega (arith, ints, e, f, g, h)

  -- the tail is so much later than the head
  pub tail_of : r < T → r ≡ (s + back) % T
  tail_of below =
      sym
      (residue_unique T (pos (s + back)) (q₁ +ℤ neg_ℤ q₂) r below
      (one_way l (pos T *ℤ q₁) (pos T *ℤ q₂) (pos T *ℤ (q₁ +ℤ neg_ℤ q₂)) (pos T *ℤ neg_ℤ q₂) r s back far near (spread T q₁ (neg_ℤ q₂)) (against T q₂)))

  other_way : (l a b p t₁ t₂ t₃ : ℤ) (T r s back : ℕ) → back ≤ T → pos s -ℤ pos r -ℤ l ≡ a +ℤ pos 0 → pos 0 -ℤ pos 0 -ℤ l ≡ b +ℤ pos back → t₁ ≡ t₂ +ℤ p → t₂ ≡ b +ℤ t₃ → t₃ ≡ neg_ℤ a → p ≡ pos T
      → pos (r + (T - back)) ≡ t₁ +ℤ pos s
  other_way l a b p t₁ t₂ t₃ T r s back few e f g h i j = omega (arith, ints, few, e, f, g, h, i, j)

  -- and the head is so much later than the tail
  pub head_of : s < T → back ≤ T → s ≡ (r + (T - back)) % T
  head_of below few =
      sym
      (residue_unique T (pos (r + (T - back))) (q₂ +ℤ neg_ℤ q₁ +ℤ pos 1) s below
      (other_way l (pos T *ℤ q₁) (pos T *ℤ q₂) (pos T *ℤ pos 1) (pos T *ℤ (q₂ +ℤ neg_ℤ q₁ +ℤ pos 1)) (pos T *ℤ (q₂ +ℤ neg_ℤ q₁)) (pos T *ℤ neg_ℤ q₁) T r s back few far near
      (spread T (q₂ +ℤ neg_ℤ q₁) (pos 1)) (spread T q₂ (neg_ℤ q₁)) (against T q₁) (pos-*ℤ-pos T 1 ∙ ap pos (omega arith))))

-- ---- one tie after the other

pub later_twice : (T a o b : ℕ) → ((a + o) % T + b) % T ≡ (a + (o + b) % T) % T
later_twice T a o b = mod-add-mod (a + o) T b ∙ ap (λ n. n % T) (omega arith) ∙ sym (add-mod-mod a (o + b) T)

pub chained : (T a o b x y : ℕ) → y ≡ (a + o) % T → x ≡ (y + b) % T → x ≡ (a + (o + b) % T) % T
chained T a o b x y e f = f ∙ ap (λ n. (n + b) % T) e ∙ later_twice T a o b

-- an event is tied anew
pub retied : (N : Arcs) (ties : List Shift) (event : ℕ) (tie : Shift) → AreTied N ties → event < N.events → IsTied N event tie → AreTied N (set ties event tie)
retied N ties event tie are there is = record {
  long = length-set ties event tie ∙ are.long;
  each = λ v d h. elim (cases_eq v event) [
    | inl same ↦
        (let here : get_or (set ties event tie) v d ≡ tie = ap (λ k. get_or (set ties event tie) k d) same ∙ get_or-set_same ties event tie d (omega (arith, there, are.long)) in
        subst (λ (t : Shift). IsTied N v t) (sym here) (subst (λ k. IsTied N k tie) (sym same) is))
    | inr other ↦ subst (λ (t : Shift). IsTied N v t) (sym (get_or-set_other ties event v tie d other)) (are.each v d h)
  ];
}

-- what goes with one event goes with the one that this goes with
pub tied_on : (N : Arcs) (event between offset : ℕ) (tie : Shift) → tie.index ≤ event → IsTied N between tie → ((of_map : List ℕ) → IsMet N of_map → slice_index of_map event ≡ (slice_index of_map between + offset) % N.period)
    → IsTied N event (record { index = tie.index; offset = (tie.offset + offset) % N.period })
tied_on N event between offset tie before is step = record {
  before = before;
  tied = λ x met. chained N.period (slice_index x tie.index) tie.offset offset (slice_index x event) (slice_index x between) (is.tied x met) (step x met);
}

-- ---- leaders

abbrev pub follows : ℕ → Shift → Shift → Shift
follows T led tie = record { index = led.index; offset = (led.offset + tie.offset) % T }

abbrev pub leads : ℕ → Shift
leads index = record { index = index; offset = 0 }

module _ (N : Arcs) (count : ℕ) (leaders : List ℕ) (shifts : List Shift) (led : AreLed N count leaders shifts) where
  pushed : (shift : Shift) (v : ℕ) (d : Shift) → v < count → get_or (shifts ++ shift ∷ []) v d ≡ get_or shifts v d
  pushed shift v d h = get_or_append_left shifts (shift ∷ []) d v (omega (arith, h, led.long))

  last : (shift d : Shift) → get_or (shifts ++ shift ∷ []) count d ≡ shift
  last shift d = get_or_push shifts shift d count led.long

  -- one event more goes with one that went with a leader
  pub led_on : (tie : Shift) (d : Shift) → tie.index < count → IsTied N count tie
      → AreLed N (count + 1) leaders (shifts ++ follows N.period (get_or shifts tie.index d) tie ∷ [])
  led_on tie d before is = record {
    long = length_push shifts (follows N.period (get_or shifts tie.index d) tie) ∙ ap (λ n. n + 1) led.long;
    few = omega (arith, led.few);
    within = λ v e h. elim (cases_lt v count) [
      | inl less ↦ subst (λ (s : Shift). s.index < length leaders) (sym (pushed (follows N.period (get_or shifts tie.index d) tie) v e less)) (led.within v e less)
      | inr most ↦
          (let here : v ≡ count = omega (arith, most, h) in
          subst (λ (s : Shift). s.index < length leaders) (sym (ap (λ k. get_or (shifts ++ (follows N.period (get_or shifts tie.index d) tie) ∷ []) k e) here ∙ last (follows N.period (get_or shifts tie.index d) tie) e)) (led.within tie.index d before))
    ];
    tied = λ v e x h met. elim (cases_lt v count) [
      | inl less ↦
          subst (λ (s : Shift). slice_index x v ≡ (slice_index x (slice_index leaders s.index) + s.offset) % N.period) (sym (pushed (follows N.period (get_or shifts tie.index d) tie) v e less)) (led.tied v e x less met)
      | inr most ↦
          (let here : v ≡ count = omega (arith, most, h) in
          subst (λ (s : Shift). slice_index x v ≡ (slice_index x (slice_index leaders s.index) + s.offset) % N.period)
          (sym (ap (λ k. get_or (shifts ++ (follows N.period (get_or shifts tie.index d) tie) ∷ []) k e) here ∙ last (follows N.period (get_or shifts tie.index d) tie) e))
          (ap (slice_index x) here
          ∙ chained N.period (slice_index x (slice_index leaders (get_or shifts tie.index d).index)) (get_or shifts tie.index d).offset tie.offset (slice_index x count) (slice_index x tie.index)
          (led.tied tie.index d x before met) (is.tied x met)))
    ];
  }

  -- or leads
  pub led_next : count < N.events → AreLed N (count + 1) (leaders ++ count ∷ []) (shifts ++ leads (length leaders) ∷ [])
  led_next there = record {
    long = length_push shifts (leads (length leaders)) ∙ ap (λ n. n + 1) led.long;
    few = omega (arith, led.few, length_push leaders count);
    within = λ v e h. elim (cases_lt v count) [
      | inl less ↦
          (let one : (get_or shifts v e).index < length leaders = led.within v e less in
          subst (λ (s : Shift). s.index < length (leaders ++ count ∷ [])) (sym (pushed (leads (length leaders)) v e less)) (omega (arith, one, length_push leaders count)))
      | inr most ↦
          (let here : v ≡ count = omega (arith, most, h) in
          subst (λ (s : Shift). s.index < length (leaders ++ count ∷ [])) (sym (ap (λ k. get_or (shifts ++ (leads (length leaders)) ∷ []) k e) here ∙ last (leads (length leaders)) e)) (omega (arith, length_push leaders count)))
    ];
    tied = λ v e x h met. elim (cases_lt v count) [
      | inl less ↦
          (let was : slice_index (leaders ++ count ∷ []) (get_or shifts v e).index ≡ slice_index leaders (get_or shifts v e).index =
          get_or_append_left leaders (count ∷ []) 0 (get_or shifts v e).index (led.within v e less) in
          subst (λ (s : Shift). slice_index x v ≡ (slice_index x (slice_index (leaders ++ count ∷ []) s.index) + s.offset) % N.period) (sym (pushed (leads (length leaders)) v e less))
          (led.tied v e x less met ∙ ap (λ k. (slice_index x k + (get_or shifts v e).offset) % N.period) (sym was)))
      | inr most ↦
          (let here : v ≡ count = omega (arith, most, h) in
          let now : slice_index (leaders ++ count ∷ []) (length leaders) ≡ count = get_or_push leaders count 0 (length leaders) refl in
          let below : slice_index x v < N.period = (keeps_rows N x met).below v (omega (arith, here, there)) in
          subst (λ (s : Shift). slice_index x v ≡ (slice_index x (slice_index (leaders ++ count ∷ []) s.index) + s.offset) % N.period)
          (sym (ap (λ k. get_or (shifts ++ (leads (length leaders)) ∷ []) k e) here ∙ last (leads (length leaders)) e))
          (sym (ap (λ k. (slice_index x k + 0) % N.period) (now ∙ sym here) ∙ after_no_step N.period (slice_index x v) below)))
    ];
  }

-- each event goes with itself
pub tied_itself : (N : Arcs) (event : ℕ) → event < N.events → IsTied N event (record { index = event; offset = 0 })
tied_itself N event there = record {
  before = omega arith;
  tied = λ x met. sym (after_no_step N.period (slice_index x event) ((keeps_rows N x met).below event there));
}

-- ---- the ends of an arc of width 0

module _ (N : Arcs) (ties : List Shift) (arc : Arc) (width back : ℕ) (are : AreTied N ties) (some : 2 ≤ N.period) (between : IsBetween N.events arc)
    (met : (x : List ℕ) → IsMet N x → IsTrue (meets N.period x arc)) (is_width : pos width ≡ int_min (arc.span.upper -ℤ arc.span.lower) (pos N.period -ℤ pos 1)) (none : width ≡ 0)
    (is_back : back ≡ slack_of N.period arc.span 0 0) where
  level : (x : List ℕ) → IsMet N x → residue N.period (pos (slice_index x arc.to) -ℤ pos (slice_index x arc.from) -ℤ arc.span.lower) ≡ 0
  level x is = no_rise arc.span.lower arc.span.upper (slack_of N.period arc.span (slice_index x arc.from) (slice_index x arc.to)) N.period width some is_width none (met x is)

  few : back ≤ N.period
  few = omega (arith, is_back, residue_below N.period (pos 0 -ℤ pos 0 -ℤ arc.span.lower) (omega (arith, some)))

  -- the head goes with what the tail goes with
  pub tied_head : (d : Shift) → (get_or ties arc.from d).index < (get_or ties arc.to d).index
      → AreTied N (set ties arc.to (record { index = (get_or ties arc.from d).index; offset = ((get_or ties arc.from d).offset + (N.period - back)) % N.period }))
  tied_head d less =
      retied N ties arc.to _ are between.to
      (tied_on N arc.to arc.from (N.period - back) (get_or ties arc.from d) (omega (arith, less, (are.each arc.to d between.to).before)) (are.each arc.from d between.from)
      (λ x is. head_of N.period (slice_index x arc.from) (slice_index x arc.to) back arc.span.lower (omega (arith, some)) (level x is) (sym is_back) ((keeps_rows N x is).below arc.to between.to) few))

  -- or the tail with what the head goes with
  pub tied_tail : (d : Shift) → (get_or ties arc.to d).index < (get_or ties arc.from d).index
      → AreTied N (set ties arc.from (record { index = (get_or ties arc.to d).index; offset = ((get_or ties arc.to d).offset + back) % N.period }))
  tied_tail d less =
      retied N ties arc.from _ are between.from
      (tied_on N arc.from arc.to back (get_or ties arc.to d) (omega (arith, less, (are.each arc.from d between.from).before)) (are.each arc.to d between.to)
      (λ x is. tail_of N.period (slice_index x arc.from) (slice_index x arc.to) back arc.span.lower (omega (arith, some)) (level x is) (sym is_back) ((keeps_rows N x is).below arc.from between.from)))

-- what was put after the others is told where memory was there
pub told_led : (N : Arcs) (count : ℕ) (leaders : List ℕ) (shifts : List Shift) (shift : Shift) (r : Result (Unit {0}) Memory) (new_leaders : List ℕ) (new_shifts : List Shift) → new_leaders ≡ leaders → OnOk r (new_shifts ≡ shifts ++ shift ∷ [])
    → AreLed N count leaders (shifts ++ shift ∷ []) → OnOk r (AreLed N count new_leaders new_shifts)
told_led N count leaders shifts shift (Ok u) new_leaders new_shifts same pushed led = rw (same, pushed) led
told_led N count leaders shifts shift (Err e) new_leaders new_shifts same pushed led = tt
