-- Items that lead around their lists, to the one after and to the one before.
use Rattle.std.proofs.Common.{◌≡◌, ◌≢◌, ℕ, zero, suc, ◌-◌, ◌<◌, ◌≤◌, List, ◌∷◌, AllPairs, length, get_or, set, refl, sym, ap, subst, ◌∙◌, inl, inr, ◌⊎◌, arith}
use Rattle.std.specs.List.{Contains}
use Rattle.std.proofs.lemmas.Bool.{cases_eq}
use Rattle.std.proofs.lemmas.Grind.{common_steps}
use Rattle.std.proofs.lemmas.List.{get_or-set_other, get_or-set_same, length-set}
use Rattle.pesp_domains.proofs.Families.{not_in_none}
use Rattle.pesp_counts_arcs.specs.Lists.{AreShared, LeadRound, items_at, steps}
use Rattle.pesp_counts_arcs.proofs.ListLaws.{comes_there, length-steps, stays_there, steps_same, steps_same_to, was_or_new}
use Rattle.pesp_counts_arcs.proofs.StandLists.{all_but, is_gone, is_left, list_there, step_next, was_there, without_first, without_later}

-- ---- along one list

pub first_at : (next : List ℕ) (first n : ℕ) → 0 < n → get_or (steps next first n) 0 0 ≡ first
first_at next first zero l = absurd (omega (arith, l))
first_at next first (suc n) l = refl

-- the item that leads to the first one is none but the last
pub last_alone : (next : List ℕ) (first n last i : ℕ) → AllPairs (λ a b. a ≢ b) (steps next first n) → get_or next last 0 ≡ first → suc i < n → get_or (steps next first n) i 0 ≢ last
last_alone next first n last i once leads l same =
    let long = length-steps next first n in
    let second = step_next next first n i l in
    once zero (suc i) 0 (omega arith) (omega (arith, l, long))
    (first_at next first n (omega (arith, l)) ∙ sym (second ∙ ap (λ j. get_or next j 0) same ∙ leads))

-- the walk without one of its items, begun at the next one where it was the first
pub walk_less : (A B : List ℕ) (first n item begun : ℕ) → AllPairs (λ a b. a ≢ b) (steps A first n) → Contains (steps A first n) item → ((k : ℕ) → Contains (steps A first n) k → get_or B (get_or A k 0) 0 ≡ k)
    → get_or B item 0 < length A → get_or A (get_or B item 0) 0 ≡ item → ((first ≡ item) × (begun ≡ get_or A item 0)) ⊎ ((first ≢ item) × (begun ≡ first)) → steps (set A (get_or B item 0) (get_or A item 0)) begun (n - 1) ≡ all_but item (steps A first n)
walk_less A B first zero item begun once i returns low leads front = absurd (not_in_none item i)
walk_less A B first (suc n) item begun once i returns low leads front =
    let before : ℕ = get_or B item 0 in
    let next : List ℕ = set A before (get_or A item 0) in
    let fewer : suc n - 1 ≡ n = omega arith in
    ap (steps next begun) fewer
    ∙ elim front [
      | inl at ↦
          ap (λ j. steps next j n) (at.1 ∙ ap (λ j. get_or A j 0) (sym at.0))
          ∙ steps_same_to A (get_or A first 0) n before (get_or A item 0) (λ j l. last_alone A first (suc n) before (suc j) once (leads ∙ sym at.0) (omega (arith, l)))
          ∙ without_first A first n once
          ∙ ap (λ j. all_but j (steps A first (suc n))) at.0
      | inr at ↦ ap (λ j. steps next j n) at.1 ∙ without_later A B item first n low leads returns once i at.0
    ]

-- the walk with an item in front of it, to which the last one leads
pub walk_more : (A : List ℕ) (first n last item : ℕ) → item < length A → (Contains (steps A first n) item → ⊥) → ((i : ℕ) → suc i < n → get_or (steps A first n) i 0 ≢ last)
    → steps (set (set A last item) item first) item (suc n) ≡ item ∷ steps A first n
walk_more A first n last item low out end =
    let next : List ℕ = set A last item in
    let walk : steps next first n ≡ steps A first n = steps_same_to A first n last item end in
    let read : get_or (set next item first) item 0 ≡ first = get_or-set_same next item first 0 (omega (arith, low, length-set A last item)) in
    ap (λ xs. item ∷ xs)
    (ap (λ j. steps (set next item first) j n) read ∙ steps_same next first n item first (λ i. out (subst (λ xs. Contains xs item) walk i)) ∙ walk)

-- ---- lists that are the same

pub round_same : (there back : List ℕ) (lists after : List (List ℕ)) → ((p : ℕ) → items_at after p ≡ items_at lists p) → LeadRound there back lists → LeadRound there back after
round_same there back lists after same h =
    record {
      stays = λ p k i. subst (λ xs. Contains xs (get_or there k 0)) (sym (same p)) (h.stays p k (subst (λ xs. Contains xs k) (same p) i));
      returns = λ p k i. h.returns p k (subst (λ xs. Contains xs k) (same p) i);
    }

pub round_read : (there back there' back' : List ℕ) (lists : List (List ℕ)) → ((k : ℕ) → get_or there' k 0 ≡ get_or there k 0) → ((k : ℕ) → get_or back' k 0 ≡ get_or back k 0) → LeadRound there back lists → LeadRound there' back' lists
round_read there back there' back' lists same same' h =
    record {
      stays = λ p k i. subst (Contains (items_at lists p)) (sym (same k)) (h.stays p k i);
      returns = λ p k i. same' (get_or there' k 0) ∙ ap (λ j. get_or back j 0) (same k) ∙ h.returns p k i;
    }

-- ---- an item goes: the one before it and the one after it lead to each other

module _ (A B : List ℕ) (lists : List (List ℕ)) (p item items : ℕ) (there_is : Contains (items_at lists p) item) (shared : AreShared items lists) (round : LeadRound A B lists) (back : LeadRound B A lists) (low : items ≤ length A) (low' : items ≤ length B) where
  pub round_less : LeadRound (set A (get_or B item 0) (get_or A item 0)) (set B (get_or A item 0) (get_or B item 0)) (set lists p (all_but item (items_at lists p)))
  round_less =
      let a : ℕ = get_or A item 0 in
      let b : ℕ = get_or B item 0 in
      let less : List (List ℕ) = set lists p (all_but item (items_at lists p)) in
      let within = list_there lists p item there_is in
      let a_in : Contains (items_at lists p) a = round.stays p item there_is in
      let b_in : Contains (items_at lists p) b = back.stays p item there_is in
      let a_low : a < length B = (let l = shared.within p a a_in in omega (arith, l, low')) in
      let b_low : b < length A = (let l = shared.within p b b_in in omega (arith, l, low)) in
      let led : get_or B a 0 ≡ item = round.returns p item there_is in
      let read : (k : ℕ) → k ≡ b → get_or (set A b a) k 0 ≡ a =
      λ k same. ap (λ j. get_or (set A b a) j 0) same ∙ get_or-set_same A b a 0 b_low
      in
      let other : (q k : ℕ) → Contains (items_at less q) k → k ≢ item =
      λ q k i same. is_gone lists p item within items there_is shared q (subst (Contains (items_at less q)) same i)
      in
      record {
        stays = λ q k i.
            let old = was_there lists p item within q k i in
            elim (cases_eq k b) [
              | inl same ↦
                  let at : q ≡ p = shared.apart q p k old (subst (Contains (items_at lists p)) (sym same) b_in) in
                  let far : a ≢ item = λ is. other q k i (same ∙ ap (λ j. get_or B j 0) (sym is) ∙ led) in
                  subst (Contains (items_at less q)) (sym (read k same))
                  (is_left lists p item within q a (subst (λ e. Contains (items_at lists e) a) (sym at) a_in) far)
              | inr apart ↦
                  let far : get_or A k 0 ≢ item = λ is. apart (sym (round.returns q k old) ∙ ap (λ j. get_or B j 0) is) in
                  subst (Contains (items_at less q)) (sym (get_or-set_other A b k a 0 apart))
                  (is_left lists p item within q (get_or A k 0) (round.stays q k old) far)
            ];
        returns = λ q k i.
            let returned = round.returns q k (was_there lists p item within q k i) in
            let far = other q k i in
            grind (arith, common_steps, returned, far, led, a_low, b_low);
      }

-- ---- an item comes between the last item and the first one

-- the last item leads to the new one and that to the first one; where the new one is alone, to itself
pub record LeadIn (before after : List ℕ) (last item first : ℕ) : Type 0 where
  pub new : get_or after item 0 ≡ first
  pub end : last ≢ item → get_or after last 0 ≡ item
  pub rest : (k : ℕ) → k ≢ item → k ≢ last → get_or after k 0 ≡ get_or before k 0

pub leads_in : (A : List ℕ) (last item first : ℕ) → last < length A → item < length A → LeadIn A (set (set A last item) item first) last item first
leads_in A last item first low low' =
    record {
      new = get_or-set_same (set A last item) item first 0 (omega (arith, low', length-set A last item));
      end = λ apart. get_or-set_other (set A last item) item last first 0 apart ∙ get_or-set_same A last item 0 low;
      rest = λ k other apart. get_or-set_other (set A last item) item k first 0 other ∙ get_or-set_other A last k item 0 apart;
    }

pub led_in : (B : List ℕ) (last item first : ℕ) → (first ≡ item → last ≡ item) → first < length B → item < length B → LeadIn B (set (set B item last) first item) first item last
led_in B last item first alone low low' =
    record {
      new = grind (arith, common_steps, alone, low, low');
      end = λ apart. get_or-set_same (set B item last) first item 0 (omega (arith, low, length-set B item last));
      rest = λ k other apart. get_or-set_other (set B item last) first k item 0 apart ∙ get_or-set_other B item k last 0 other;
    }

-- the first and the last item of a list lead to each other
pub record AreEnds (there back items : List ℕ) (first last : ℕ) : Type 0 where
  pub first_in : Contains items first
  pub last_in : Contains items last
  pub leads : get_or there last 0 ≡ first
  pub led : get_or back first 0 ≡ last

module _ (A B A' B' : List ℕ) (lists : List (List ℕ)) (p item first last items : ℕ) (within : p < length lists) (shared : AreShared items lists) (out : (q : ℕ) → Contains (items_at lists q) item → ⊥)
    (round : LeadRound A B lists) (there : LeadIn A A' last item first) (back : LeadIn B B' first item last)
    (ends : ((last ≡ item) × (first ≡ item)) ⊎ AreEnds A B (items_at lists p) first last) where
  first_there : Contains (items_at (set lists p (item ∷ items_at lists p)) p) first
  first_there =
      elim ends [
        | inl alone ↦ subst (Contains (items_at (set lists p (item ∷ items_at lists p)) p)) (sym alone.1) (comes_there lists p item within)
        | inr two ↦ stays_there lists p item within p first two.first_in
      ]

  last_there : (q k : ℕ) → Contains (items_at lists q) k → k ≢ item → k ≡ last → q ≡ p
  last_there q k old other same =
      elim ends [
        | inl alone ↦ absurd (other (same ∙ alone.0))
        | inr two ↦ shared.apart q p k old (subst (Contains (items_at lists p)) (sym same) two.last_in)
      ]

  from_first : get_or B' first 0 ≡ item
  from_first =
      elim ends [
        | inl alone ↦ ap (λ j. get_or B' j 0) alone.1 ∙ back.new ∙ alone.0
        | inr two ↦ back.end (λ same. out p (subst (Contains (items_at lists p)) same two.first_in))
      ]

  -- none but the last leads to the first
  not_first : (q k : ℕ) → Contains (items_at lists q) k → k ≢ last → get_or A k 0 ≢ first
  not_first q k old apart same =
      elim ends [
        | inl alone ↦ out q (subst (Contains (items_at lists q)) (same ∙ alone.1) (round.stays q k old))
        | inr two ↦ apart (sym (round.returns q k old) ∙ ap (λ j. get_or B j 0) same ∙ two.led)
      ]

  pub round_more : LeadRound A' B' (set lists p (item ∷ items_at lists p))
  round_more =
      let more : List (List ℕ) = set lists p (item ∷ items_at lists p) in
      let other : (q k : ℕ) → Contains (items_at lists q) k → k ≢ item = λ q k old same. out q (subst (Contains (items_at lists q)) same old) in
      let read : (q k : ℕ) → Contains (items_at lists q) k → k ≡ last → get_or A' k 0 ≡ item =
      λ q k old same. ap (λ j. get_or A' j 0) same ∙ there.end (λ is. other q k old (same ∙ is))
      in
      record {
        stays = λ q k i.
            elim (was_or_new lists p item within q k i) [
              | inl new ↦
                  subst (Contains (items_at more q)) (sym (ap (λ j. get_or A' j 0) new.1 ∙ there.new))
                  (subst (λ e. Contains (items_at more e) first) (sym new.0) first_there)
              | inr old ↦
                  elim (cases_eq k last) [
                    | inl same ↦
                        subst (Contains (items_at more q)) (sym (read q k old same))
                        (subst (λ e. Contains (items_at more e) item) (sym (last_there q k old (other q k old) same)) (comes_there lists p item within))
                    | inr apart ↦
                        subst (Contains (items_at more q)) (sym (there.rest k (other q k old) apart))
                        (stays_there lists p item within q (get_or A k 0) (round.stays q k old))
                  ]
            ];
        returns = λ q k i.
            elim (was_or_new lists p item within q k i) [
              | inl new ↦ grind (arith, new.1, there.new, from_first)
              | inr old ↦
                  let rest = there.rest k (other q k old) in
                  let led = back.rest (get_or A k 0) (other q (get_or A k 0) (round.stays q k old)) in
                  grind (arith, read q k old, back.new, rest, led, not_first q k old, round.returns q k old)
            ];
      }
