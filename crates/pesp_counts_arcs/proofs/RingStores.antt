-- The store of the lists, with an item more in one of them or an item less.
use Rattle.std.proofs.Common.{◌≡◌, ◌≢◌, ℕ, suc, ◌+◌, ◌-◌, ◌<◌, ◌≤◌, List, ◌∷◌, AllPairs, length, get_or, map, set, refl, sym, ap, subst, ◌∙◌, inl, inr, ◌⊎◌, arith}
use Rattle.std.specs.List.{Contains}
use Rattle.std.proofs.lemmas.Bool.{cases_eq, eq-eqb, ne_eqb}
use Rattle.std.proofs.lemmas.List.{get_or-map, get_or_default, length-map, length-set}
use Rattle.std.proofs.lemmas.List.Elements.{Contains-get_or}
use Rattle.pesp_domains.proofs.Families.{here}
use Rattle.pesp_counts_arcs.specs.declared.lists.Head.{Head}
use Rattle.pesp_counts_arcs.specs.declared.lists.Neighbours.{Neighbours}
use Rattle.pesp_counts_arcs.specs.Lists.{AreRings, AreShared, afters, befores, first_of, items_at, last_of, lists_of, steps}
use Rattle.pesp_counts_arcs.proofs.ListLaws.{items_any, length-steps, list_within, lists_but, no_head, shared_more, steps_more, steps_same}
use Rattle.pesp_counts_arcs.proofs.RingLaws.{AreEnds, LeadIn, last_alone, leads_in, led_in, round_less, round_more, walk_less, walk_more}
use Rattle.pesp_counts_arcs.proofs.StandLists.{all_but, list_there, shared_less}

abbrev pub no_neighbours : Neighbours
no_neighbours = record { before = 0; after = 0 }

pub length-afters : (items : List Neighbours) → length (afters items) ≡ length items
length-afters items = length-map items (λ (n : Neighbours). n.after)

pub length-befores : (items : List Neighbours) → length (befores items) ≡ length items
length-befores items = length-map items (λ (n : Neighbours). n.before)

-- a field of what was read at an item
pub field_read : (f : Neighbours → ℕ) (items : List Neighbours) (item : ℕ) (found : Neighbours) → item < length items → found ≡ get_or items item found → f found ≡ get_or (map f items) item 0
field_read f items item found low is = ap f is ∙ sym (get_or-map f items item found 0 low)

-- a store of rings, with the head of one of its lists
pub record Opened (items : List Neighbours) (heads : List Head) (p : ℕ) (head : Head) : Type 0 where
  pub rings : AreRings items (lists_of (afters items) heads)
  pub there : p < length (lists_of (afters items) heads)
  pub is : (d : Head) → head ≡ get_or heads p d

pub opened : (items : List Neighbours) (heads : List Head) (p : ℕ) (head : Head) → AreRings items (lists_of (afters items) heads) → p < length (lists_of (afters items) heads) → head ≡ get_or heads p head → Opened items heads p head
opened items heads p head rings there read = record { rings = rings; there = there; is = λ d. read ∙ get_or_default heads p head d (list_within (afters items) heads p there) }

module _ (items : List Neighbours) (heads : List Head) (p : ℕ) (head : Head) (store : Opened items heads p head) where
  abbrev A : List ℕ
  A = afters items

  abbrev B : List ℕ
  B = befores items

  abbrev lists : List (List ℕ)
  lists = lists_of (afters items) heads

  pub walked : items_at lists p ≡ steps A head.first head.count
  walked = items_any A heads p ∙ ap (λ (h : Head). steps A h.first h.count) (sym (store.is no_head))

  once : AllPairs (λ a b. a ≢ b) (steps A head.first head.count)
  once = subst (AllPairs (λ a b. a ≢ b)) walked (store.rings.stored.shared.once p)

  in_list : (q k : ℕ) → Contains (steps A (get_or heads q no_head).first (get_or heads q no_head).count) k → Contains (items_at lists q) k
  in_list q k = subst (λ xs. Contains xs k) (sym (items_any A heads q))

  low_item : (q k : ℕ) → Contains (items_at lists q) k → k < length A
  low_item q k i = let low = store.rings.stored.shared.within q k i in omega (arith, low, length-afters items)

  -- ---- an item goes

  module _ (after : List Neighbours) (item first : ℕ) (there_is : Contains (items_at lists p) item)
      (ahead : afters after ≡ set A (get_or B item 0) (get_or A item 0))
      (back : befores after ≡ set B (get_or A item 0) (get_or B item 0))
      (front : ((head.first ≡ item) × (first ≡ get_or A item 0)) ⊎ ((head.first ≢ item) × (first ≡ head.first))) where
    pub lists_less : lists_of (afters after) (set heads p (record { first = first; count = head.count - 1 })) ≡ set lists p (all_but item (items_at lists p))
    lists_less =
        let a : ℕ = get_or A item 0 in
        let b : ℕ = get_or B item 0 in
        let b_in : Contains (items_at lists p) b = store.rings.backward.stays p item there_is in
        ap (λ xs. lists_of xs (set heads p (record { first = first; count = head.count - 1 }))) ahead
        ∙ lists_but A (set A b a) heads p (record { first = first; count = head.count - 1 })
        (λ q apart. steps_same A _ _ b a (λ i. apart (store.rings.stored.shared.apart q p b (in_list q b i) b_in)))
        ∙ ap (set lists p)
        (walk_less A B head.first head.count item first once (subst (λ xs. Contains xs item) walked there_is)
        (λ k i. store.rings.forward.returns p k (subst (λ xs. Contains xs k) (sym walked) i))
        (low_item p b b_in) (store.rings.backward.returns p item there_is) front
        ∙ ap (all_but item) (sym walked))

    pub rings_less : length after ≡ length items → AreRings after (lists_of (afters after) (set heads p (record { first = first; count = head.count - 1 })))
    rings_less many =
        let r = store.rings in
        let less : List (List ℕ) = set lists p (all_but item (items_at lists p)) in
        let low : length items ≤ length A = omega (arith, length-afters items) in
        let low' : length items ≤ length B = omega (arith, length-befores items) in
        subst (AreRings after) (sym lists_less)
        (record {
          stored = record {
            few = (let few = r.stored.few in omega (arith, many, few));
            few_lists = rw (length-set lists p _) r.stored.few_lists;
            shared = subst (λ n. AreShared n less) (sym many) (shared_less lists p item (list_there lists p item there_is) (length items) there_is r.stored.shared);
          };
          forward = rw (ahead, back) (round_less A B lists p item (length items) there_is r.stored.shared r.forward r.backward low low');
          backward = rw (ahead, back) (round_less B A lists p item (length items) there_is r.stored.shared r.backward r.forward low' low);
        })

  -- ---- an item comes

  module _ (item : ℕ) (low : item < length items) (out : (q : ℕ) → Contains (items_at lists q) item → ⊥) where
    abbrev first : ℕ
    first = first_of head item

    abbrev last : ℕ
    last = last_of (befores items) head item

    ends : ((last ≡ item) × (first ≡ item)) ⊎ AreEnds A B (items_at lists p) first last
    ends =
        elim (cases_eq head.count 0) [
          | inl none ↦ inl (rw (eq-eqb head.count 0 none) refl, rw (eq-eqb head.count 0 none) refl)
          | inr some ↦
              let at : first ≡ head.first = rw (ne_eqb head.count 0 some) refl in
              let led : last ≡ get_or B head.first 0 = rw (ne_eqb head.count 0 some) refl in
              let walk = walked ∙ steps_more A head.first head.count some in
              let i : Contains (items_at lists p) head.first = subst (λ xs. Contains xs head.first) (sym walk) (here head.first _) in
              inr (record {
                first_in = subst (Contains (items_at lists p)) (sym at) i;
                last_in = subst (Contains (items_at lists p)) (sym led) (store.rings.backward.stays p head.first i);
                leads = ap (λ j. get_or A j 0) led ∙ store.rings.backward.returns p head.first i ∙ sym at;
                led = ap (λ j. get_or B j 0) at ∙ sym led;
              })
        ]

    pub first_low : first < length items
    first_low = elim ends [ inl alone ↦ subst (λ k. k < length items) (sym alone.1) low | inr two ↦ store.rings.stored.shared.within p first two.first_in ]

    pub last_low : last < length items
    last_low = elim ends [ inl alone ↦ subst (λ k. k < length items) (sym alone.0) low | inr two ↦ store.rings.stored.shared.within p last two.last_in ]

    walked_on : steps A first head.count ≡ steps A head.first head.count
    walked_on =
        elim (cases_eq head.count 0) [
          | inl none ↦ ap (steps A first) none ∙ sym (ap (steps A head.first) none)
          | inr some ↦ let at : first ≡ head.first = rw (ne_eqb head.count 0 some) refl in ap (λ j. steps A j head.count) at
        ]

    -- the last one is in no list but at the end of its own
    at_end : (i : ℕ) → suc i < head.count → get_or (steps A first head.count) i 0 ≢ last
    at_end i l =
        elim ends [
          | inl alone ↦ λ same. out p (subst (Contains (items_at lists p)) (same ∙ alone.0) (in_walk i (omega (arith, l))))
          | inr two ↦ last_alone A first head.count last i (subst (AllPairs (λ a b. a ≢ b)) (sym walked_on) once) two.leads l
        ]
      where
        in_walk : (i : ℕ) → i < head.count → Contains (items_at lists p) (get_or (steps A first head.count) i 0)
        in_walk i l = subst (λ xs. Contains xs (get_or (steps A first head.count) i 0)) (walked_on ∙ sym walked) (Contains-get_or (steps A first head.count) i 0 (omega (arith, l, length-steps A first head.count)))

    others : (q : ℕ) → q ≢ p → steps (set (set A last item) item first) (get_or heads q no_head).first (get_or heads q no_head).count ≡ steps A (get_or heads q no_head).first (get_or heads q no_head).count
    others q apart =
        let same = steps_same A (get_or heads q no_head).first (get_or heads q no_head).count last item
        (λ i. elim ends [
          | inl alone ↦ out q (subst (Contains (items_at lists q)) alone.0 (in_list q last i))
          | inr two ↦ apart (store.rings.stored.shared.apart q p last (in_list q last i) two.last_in)
        ])
        in
        steps_same (set A last item) _ _ item first (λ i. out q (in_list q item (subst (λ xs. Contains xs item) same i))) ∙ same

    -- where the new item is the first one, it is the last one too
    alone_at : first ≡ item → last ≡ item
    alone_at same = elim ends [ inl alone ↦ alone.0 | inr two ↦ absurd (out p (subst (Contains (items_at lists p)) same two.first_in)) ]

    lead_there : LeadIn A (set (set A last item) item first) last item first
    lead_there = leads_in A last item first (omega (arith, last_low, length-afters items)) (omega (arith, low, length-afters items))

    lead_back : LeadIn B (set (set B item last) first item) first item last
    lead_back = led_in B last item first alone_at (omega (arith, first_low, length-befores items)) (omega (arith, low, length-befores items))

    module _ (after : List Neighbours) (ahead : afters after ≡ set (set A last item) item first) (back : befores after ≡ set (set B item last) first item) where
      pub lists_more : lists_of (afters after) (set heads p (record { first = item; count = head.count + 1 })) ≡ set lists p (item ∷ items_at lists p)
      lists_more =
          let more : head.count + 1 ≡ suc head.count = omega arith in
          let walk : steps A first head.count ≡ items_at lists p = walked_on ∙ sym walked in
          ap (λ xs. lists_of xs (set heads p (record { first = item; count = head.count + 1 }))) ahead
          ∙ lists_but A (set (set A last item) item first) heads p (record { first = item; count = head.count + 1 }) others
          ∙ ap (set lists p)
          (ap (steps (set (set A last item) item first) item) more
          ∙ walk_more A first head.count last item (omega (arith, low, length-afters items)) (λ i. out p (subst (λ xs. Contains xs item) walk i)) at_end
          ∙ ap (λ xs. item ∷ xs) walk)

      pub rings_more : length after ≡ length items → AreRings after (lists_of (afters after) (set heads p (record { first = item; count = head.count + 1 })))
      rings_more many =
          let r = store.rings in
          let more : List (List ℕ) = set lists p (item ∷ items_at lists p) in
          subst (AreRings after) (sym lists_more)
          (record {
            stored = record {
              few = (let few = r.stored.few in omega (arith, many, few));
              few_lists = rw (length-set lists p _) r.stored.few_lists;
              shared = subst (λ n. AreShared n more) (sym many) (shared_more lists p item store.there (length items) low out r.stored.shared);
            };
            forward = rw (ahead, back) (round_more A B _ _ lists p item first last (length items) store.there r.stored.shared out r.forward lead_there lead_back ends);
            backward = rw (ahead, back) (round_more B A _ _ lists p item last first (length items) store.there r.stored.shared out r.backward lead_back lead_there turned);
          })
        where
          turned : ((first ≡ item) × (last ≡ item)) ⊎ AreEnds B A (items_at lists p) last first
          turned =
              elim ends [
                | inl alone ↦ inl (alone.1, alone.0)
                | inr two ↦ inr (record { first_in = two.last_in; last_in = two.first_in; leads = two.led; led = two.leads })
              ]
