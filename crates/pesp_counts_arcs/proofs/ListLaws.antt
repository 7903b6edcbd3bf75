-- An item in front of a list, and the others as they were.
use Rattle.std.proofs.Common.{◌≡◌, ◌≢◌, ℕ, zero, suc, ◌-◌, ◌<◌, ◌≤◌, eqb, List, [], ◌∷◌, ◌++◌, AllPairs, drop, length, get_or, replicate, set, take, refl, sym, ap, subst, ◌∙◌, inl, inr, ◌⊎◌, arith}
use Rattle.std.specs.List.{Contains, list_any, range_with_len}
use Rattle.std.specs.Cmp.{nat_eq_equiv}
use Rattle.std.proofs.lemmas.Bool.{cases_Bool, cases_eq, ne_eqb}
use Rattle.std.proofs.lemmas.Grind.{common_steps}
use Rattle.std.proofs.lemmas.List.{get_or-map, get_or-set_other, get_or-set_same, length-map, length-set, map-set, same_lists}
use Rattle.std.proofs.lemmas.List.Elements.{Contains-get_or}
use Rattle.std.proofs.lemmas.List.FromFn.{length-range_with_len}
use Rattle.std.proofs.lemmas.Map.Keys.{IsDistinct-from_apart}
use Rattle.std.proofs.lemmas.Map.Made.{length-le_from_is_member}
use Rattle.pesp_domains.proofs.Families.{here, here_or_there, in_range, none_passes, passing, there}
use Rattle.pesp_counts_arcs.specs.declared.lists.Head.{Head}
use Rattle.pesp_counts_arcs.specs.Lists.{AreShared, items_at, lists_of, steps}

abbrev pub no_head : Head
no_head = record { first = 0; count = 0 }

pub length-steps : (next : List ℕ) (item n : ℕ) → length (steps next item n) ≡ n
length-steps next item zero = refl
length-steps next item (suc n) = ap suc (length-steps next (get_or next item 0) n)

-- what stands at the last of them does not matter, nor at an item that is not among them
pub steps_same_to : (next : List ℕ) (item n k v : ℕ) → ((i : ℕ) → suc i < n → get_or (steps next item n) i 0 ≢ k) → steps (set next k v) item n ≡ steps next item n
steps_same_to next item zero k v out = refl
steps_same_to next item (suc zero) k v out = refl
steps_same_to next item (suc (suc n)) k v out =
    let rest = steps_same_to next (get_or next item 0) (suc n) k v (λ i l. out (suc i) (omega (arith, l))) in
    let read : get_or (set next k v) item 0 ≡ get_or next item 0 = get_or-set_other next k item v 0 (out zero (omega arith)) in
    ap (λ xs. item ∷ xs) (ap (λ j. steps (set next k v) j (suc n)) read ∙ rest)

pub steps_same : (next : List ℕ) (item n k v : ℕ) → (Contains (steps next item n) k → ⊥) → steps (set next k v) item n ≡ steps next item n
steps_same next item n k v out =
    steps_same_to next item n k v
    (λ i l same. out (subst (Contains (steps next item n)) same (Contains-get_or (steps next item n) i 0 (omega (arith, l, length-steps next item n)))))

-- the items at any place, also where there is no list
pub items_any : (next : List ℕ) (heads : List Head) (p : ℕ) → items_at (lists_of next heads) p ≡ steps next (get_or heads p no_head).first (get_or heads p no_head).count
items_any next heads p = let within = get_or-map (λ (h : Head). steps next h.first h.count) heads p no_head [] in grind (arith, common_steps, within)

-- lists change at one place alone where the others are walked as before
pub lists_but : (next after : List ℕ) (heads : List Head) (p : ℕ) (head : Head) → ((q : ℕ) → q ≢ p → steps after (get_or heads q no_head).first (get_or heads q no_head).count ≡ steps next (get_or heads q no_head).first (get_or heads q no_head).count)
    → lists_of after (set heads p head) ≡ set (lists_of next heads) p (steps after head.first head.count)
lists_but next after heads p head others =
    let walk : List ℕ → Head → List ℕ = λ store h. steps store h.first h.count in
    let y : List ℕ = walk after head in
    let many : length (lists_of after heads) ≡ length heads = length-map heads (walk after) in
    let many' : length (lists_of next heads) ≡ length heads = length-map heads (walk next) in
    map-set (walk after) heads p head
    ∙ same_lists (set (lists_of after heads) p y) (set (lists_of next heads) p y)
    (length-set (lists_of after heads) p y ∙ many ∙ sym many' ∙ sym (length-set (lists_of next heads) p y))
    (λ q d l.
    let within : q < length heads = (let long = length-set (lists_of after heads) p y in omega (arith, l, long, many)) in
    elim (cases_eq q p) [
      | inl same ↦ grind (arith, common_steps, same, within, many, many')
      | inr apart ↦
          let was = others q apart in
          let old = get_or-map (walk next) heads q no_head d within in
          let new = get_or-map (walk after) heads q no_head d within in
          grind (arith, common_steps, apart, was, old, new)
    ])

pub once_more : (x : ℕ) (xs : List ℕ) → (Contains xs x → ⊥) → AllPairs (λ a b. a ≢ b) xs → AllPairs (λ a b. a ≢ b) (x ∷ xs)
once_more x xs out h zero zero d l m = absurd (omega (arith, l))
once_more x xs out h (suc i) zero d l m = absurd (omega (arith, l))
once_more x xs out h zero (suc j) d l m = λ same. out (subst (Contains xs) (sym same) (Contains-get_or xs j d (omega (arith, m))))
once_more x xs out h (suc i) (suc j) d l m = h i j d (omega (arith, l)) (omega (arith, m))

-- ---- what stays true of the lists

-- where a list was put in
module _ (lists : List (List ℕ)) (p k : ℕ) (within : p < length lists) where
  abbrev more : List (List ℕ)
  more = set lists p (k ∷ items_at lists p)

  at_list : items_at more p ≡ k ∷ items_at lists p
  at_list = get_or-set_same lists p (k ∷ items_at lists p) [] within

  elsewhere : (q : ℕ) → q ≢ p → items_at more q ≡ items_at lists q
  elsewhere q apart = get_or-set_other lists p q (k ∷ items_at lists p) [] apart

  -- an item is the new one in its list, or was where it is
  pub was_or_new : (q j : ℕ) → Contains (items_at more q) j → ((q ≡ p) × (j ≡ k)) ⊎ Contains (items_at lists q) j
  was_or_new q j i =
      elim (cases_eq q p) [
        | inr apart ↦ inr (subst (λ xs. Contains xs j) (elsewhere q apart) i)
        | inl same ↦
            let i' : Contains (k ∷ items_at lists p) j = subst (λ xs. Contains xs j) (ap (items_at more) same ∙ at_list) i in
            elim (here_or_there j k (items_at lists p) i') [
              | inl new ↦ inl (same, sym new)
              | inr old ↦ inr (subst (λ e. Contains (items_at lists e) j) (sym same) old)
            ]
      ]

  -- what was there is, and so is the item
  pub stays_there : (q j : ℕ) → Contains (items_at lists q) j → Contains (items_at more q) j
  stays_there q j i =
      elim (cases_eq q p) [
        | inr apart ↦ subst (λ xs. Contains xs j) (sym (elsewhere q apart)) i
        | inl same ↦
            subst (λ xs. Contains xs j) (sym (ap (items_at more) same ∙ at_list))
            (there j k (items_at lists p) (subst (λ e. Contains (items_at lists e) j) same i))
      ]

  pub comes_there : Contains (items_at more p) k
  comes_there = subst (λ xs. Contains xs k) (sym at_list) (here k (items_at lists p))

  pub shared_more : (items : ℕ) → k < items → ((q : ℕ) → Contains (items_at lists q) k → ⊥) → AreShared items lists → AreShared items more
  shared_more items below out h =
      record {
        within = λ q j i. elim (was_or_new q j i) [ inl new ↦ subst (λ n. n < items) (sym new.1) below | inr old ↦ h.within q j old ];
        once = λ q.
            elim (cases_eq q p) [
              | inr apart ↦ subst (AllPairs (λ a b. a ≢ b)) (sym (elsewhere q apart)) (h.once q)
              | inl same ↦ subst (AllPairs (λ a b. a ≢ b)) (sym (ap (items_at more) same ∙ at_list)) (once_more k (items_at lists p) (out p) (h.once p))
            ];
        apart = λ q q' j i i'.
            elim (was_or_new q j i) [
              | inl new ↦
                  elim (was_or_new q' j i') [
                    | inl new' ↦ new.0 ∙ sym new'.0
                    | inr old' ↦ absurd (out q' (subst (Contains (items_at lists q')) new.1 old'))
                  ]
              | inr old ↦
                  elim (was_or_new q' j i') [
                    | inl new' ↦ absurd (out q (subst (Contains (items_at lists q)) new'.1 old))
                    | inr old' ↦ h.apart q q' j old old'
                  ]
            ];
      }

-- a list is no longer than there are items
pub short : (items : ℕ) (xs : List ℕ) → ((j : ℕ) → Contains xs j → j < items) → AllPairs (λ a b. a ≢ b) xs → length xs ≤ items
short items xs below once =
    let distinct = IsDistinct-from_apart eqb xs (λ i j d l m. ne_eqb _ _ (once i j d l m)) in
    let few = length-le_from_is_member nat_eq_equiv xs (range_with_len 0 items) distinct
    (λ q found.
    let w = passing (eqb q) xs found in
    elim (cases_Bool (list_any (eqb q) (range_with_len 0 items))) [
      | inl there ↦ there
      | inr none ↦
          absurd (none_passes (eqb q) (range_with_len 0 items) none w.0 (in_range 0 items w.0 (omega arith) (omega (arith, below w.0 w.1))) w.2)
    ]) in
    omega (arith, few, length-range_with_len 0 items)

-- there are as many lists as heads
pub list_within : (next : List ℕ) (heads : List Head) (p : ℕ) → p < length (lists_of next heads) → p < length heads
list_within next heads p l = omega (arith, l, length-map heads (λ (h : Head). steps next h.first h.count))

-- a list that is not at its end has its first item and then the others
pub steps_more : (next : List ℕ) (item n : ℕ) → (n ≡ 0 → ⊥) → steps next item n ≡ item ∷ steps next (get_or next item 0) (n - 1)
steps_more next item zero some = absurd (some refl)
steps_more next item (suc n) some = let e : suc n - 1 ≡ n = omega arith in rw e refl

-- ---- more room

pub resized : {X : Type 0} (xs : List X) (n long : ℕ) (v : X) → long ≡ length xs → long < n → (i : ℕ) → get_or (take n xs ++ replicate (n - long) v) i v ≡ get_or xs i v
resized xs n long v is more i = grind (arith, common_steps)

-- what a slice of a vector becomes, the vector holds
pub items_written : {X : Type 0} (ws items : List X) (len : ℕ) → len ≡ length items → length ws ≡ length items → take len (ws ++ drop (length ws) items) ≡ ws
items_written ws items len is same = grind (arith, common_steps)

-- as many steps over what reads the same
steps_read : (next after : List ℕ) → ((i : ℕ) → get_or after i 0 ≡ get_or next i 0) → (item n : ℕ) → steps after item n ≡ steps next item n
steps_read next after same item zero = refl
steps_read next after same item (suc n) = ap (λ xs. item ∷ xs) (ap (λ j. steps after j n) (same item) ∙ steps_read next after same (get_or next item 0) n)

-- lists stay where what stands at each item reads the same
pub lists_read : (next after : List ℕ) → ((i : ℕ) → get_or after i 0 ≡ get_or next i 0) → (heads : List Head) → lists_of after heads ≡ lists_of next heads
lists_read next after same heads =
    same_lists (lists_of after heads) (lists_of next heads)
    (length-map heads (λ (h : Head). steps after h.first h.count) ∙ sym (length-map heads (λ (h : Head). steps next h.first h.count)))
    (λ p d l.
    let within : p < length heads = omega (arith, l, length-map heads (λ (h : Head). steps after h.first h.count)) in
    get_or-map (λ h. steps after h.first h.count) heads p no_head d within
    ∙ steps_read next after same _ _
    ∙ sym (get_or-map (λ h. steps next h.first h.count) heads p no_head d within))

-- lists that come are empty
pub items_of_more : (next : List ℕ) (heads : List Head) (n long p : ℕ) → long ≡ length heads → long < n → items_at (lists_of next (take n heads ++ replicate (n - long) no_head)) p ≡ items_at (lists_of next heads) p
items_of_more next heads n long p is more =
    items_any next (take n heads ++ replicate (n - long) no_head) p
    ∙ ap (λ (h : Head). steps next h.first h.count) (resized heads n long no_head is more p)
    ∙ sym (items_any next heads p)

pub shared_room : (m n : ℕ) (lists : List (List ℕ)) → m ≤ n → AreShared m lists → AreShared n lists
shared_room m n lists more h = record { within = λ p k i. (let l = h.within p k i in omega (arith, l, more)); once = h.once; apart = h.apart }

-- lists with the same items are shared as those are
pub shared_same : (items : ℕ) (lists after : List (List ℕ)) → ((p : ℕ) → items_at after p ≡ items_at lists p) → AreShared items lists → AreShared items after
shared_same items lists after same h =
    record {
      within = λ p k i. h.within p k (subst (λ xs. Contains xs k) (same p) i);
      once = λ p. subst (AllPairs (λ j k. j ≢ k)) (sym (same p)) (h.once p);
      apart = λ p q k i j. h.apart p q k (subst (λ xs. Contains xs k) (same p) i) (subst (λ xs. Contains xs k) (same q) j);
    }
