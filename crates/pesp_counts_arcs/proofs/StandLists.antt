-- An item goes from its list, and the others stay as they were.
use Rattle.std.proofs.Common.{◌≡◌, ◌≢◌, ℕ, zero, suc, ◌<◌, ◌==◌, not, List, [], ◌∷◌, AllPairs, filter, length, get_or, set, refl, sym, ap, subst, ◌∙◌, inl, inr, arith}
use Rattle.std.specs.List.{Contains}
use Rattle.std.proofs.lemmas.Bool.{cases_eq, cases_lt, eq-eqb, false≢true, ne_eqb}
use Rattle.std.proofs.lemmas.List.{get_or_default, get_or-set_other, get_or-set_same, get_or_past}
use Rattle.pesp_domains.proofs.Families.{here, here_or_there, in_filter, not_in_none, of_filter, there}
use Rattle.pesp_counts_arcs.specs.Lists.{AreShared, items_at, steps}
use Rattle.pesp_counts_arcs.proofs.ListLaws.{once_more, steps_same}

-- ---- lists in which no two items are one

module _ {X : Type 0} (x : X) (xs : List X) (once : AllPairs (λ a b. a ≢ b) (x ∷ xs)) where
  pub once_rest : AllPairs (λ a b. a ≢ b) xs
  once_rest i j d l m = once (suc i) (suc j) d (omega (arith, l)) (omega (arith, m))

  pub once_first : (y : X) → Contains xs y → x ≢ y
  once_first y i same = once zero (suc i.0) x (omega arith) (let l = i.1 in omega (arith, l)) (same ∙ sym (get_or_default xs i.0 x y i.1 ∙ i.2))

-- all but one item
abbrev pub all_but : ℕ → List ℕ → List ℕ
all_but item xs = filter (λ k. not (k == item)) xs

-- where it does not stand nothing goes
pub all_but_same : (item : ℕ) (xs : List ℕ) → (Contains xs item → ⊥) → all_but item xs ≡ xs
all_but_same item [] out = refl
all_but_same item (x ∷ xs) out =
    let apart : x ≢ item = λ same. out (subst (Contains (x ∷ xs)) same (here x xs)) in
    rw (ne_eqb x item apart) (ap (λ ys. x ∷ ys) (all_but_same item xs (λ i. out (there item x xs i))))

pub all_but_first : (item x : ℕ) (xs : List ℕ) → x ≡ item → all_but item (x ∷ xs) ≡ all_but item xs
all_but_first item x xs same = rw (eq-eqb x item same) refl

pub all_but_later : (item x : ℕ) (xs : List ℕ) → x ≢ item → all_but item (x ∷ xs) ≡ x ∷ all_but item xs
all_but_later item x xs apart = rw (ne_eqb x item apart) refl

-- ---- the chain without an item

-- what stands at an item of the chain is the one after it
pub step_next : (next : List ℕ) (first n k : ℕ) → suc k < n → get_or (steps next first n) (suc k) 0 ≡ get_or next (get_or (steps next first n) k 0) 0
step_next next first zero k l = absurd (omega (arith, l))
step_next next first (suc zero) k l = absurd (omega (arith, l))
step_next next first (suc (suc n)) zero l = refl
step_next next first (suc (suc n)) (suc k) l = step_next next (get_or next first 0) (suc n) k (omega (arith, l))

-- the chain from its second item on is that without the first
pub without_first : (next : List ℕ) (item n : ℕ) → AllPairs (λ a b. a ≢ b) (steps next item (suc n)) → steps next (get_or next item 0) n ≡ all_but item (steps next item (suc n))
without_first next item n once =
    let rest : List ℕ = steps next (get_or next item 0) n in
    sym (all_but_first item item rest refl ∙ all_but_same item rest (λ i. once_first item rest once item i refl))

-- the chain in which the item before one leads to the one after it is that without the one
pub without_later : (next back : List ℕ) (item first n : ℕ) → get_or back item 0 < length next → get_or next (get_or back item 0) 0 ≡ item → ((k : ℕ) → Contains (steps next first (suc n)) k → get_or back (get_or next k 0) 0 ≡ k)
    → AllPairs (λ a b. a ≢ b) (steps next first (suc n)) → Contains (steps next first (suc n)) item → first ≢ item → steps (set next (get_or back item 0) (get_or next item 0)) first n ≡ all_but item (steps next first (suc n))
without_later next back item first zero low leads returns once i apart = elim (here_or_there item first [] i) [ inl same ↦ absurd (apart same) | inr none ↦ absurd (not_in_none item none) ]
without_later next back item first (suc n) low leads returns once i apart =
    let before : ℕ = get_or back item 0 in
    let after : ℕ = get_or next item 0 in
    let second : ℕ = get_or next first 0 in
    let store : List ℕ = set next before after in
    let rest : List ℕ = steps next second (suc n) in
    let still : Contains rest item = elim (here_or_there item first rest i) [ inl same ↦ absurd (apart same) | inr later ↦ later ] in
    let gone : steps store first (suc n) ≡ first ∷ all_but item rest =
    ap (λ xs. first ∷ xs)
    (elim (cases_eq second item) [
      | inl then ↦
          let is : first ≡ before = sym (returns first (here first rest)) ∙ ap (λ j. get_or back j 0) then in
          let read : get_or store first 0 ≡ after = ap (λ j. get_or store j 0) is ∙ get_or-set_same next before after 0 low in
          let end : steps next second (suc n) ≡ item ∷ steps next after n = ap (λ j. steps next j (suc n)) then in
          let out : Contains (steps next after n) before → ⊥ = λ j. once_first first rest once before (subst (λ xs. Contains xs before) (sym end) (there before item (steps next after n) j)) is in
          ap (λ j. steps store j n) read ∙ steps_same next after n before after out
          ∙ without_first next item n (subst (AllPairs (λ a b. a ≢ b)) end (once_rest first rest once)) ∙ ap (all_but item) (sym end)
      | inr other ↦
          let read : get_or store first 0 ≡ second = get_or-set_other next before first after 0 (λ is. other (ap (λ j. get_or next j 0) is ∙ leads)) in
          ap (λ j. steps store j n) read ∙ without_later next back item second n low leads (λ k j. returns k (there k first rest j)) (once_rest first rest once) still other
    ])
    in
    gone ∙ sym (all_but_later item first rest apart)

-- ---- the lists without an item

-- an item stands only where there is a list
pub list_there : (lists : List (List ℕ)) (p k : ℕ) → Contains (items_at lists p) k → p < length lists
list_there lists p k i =
    elim (cases_lt p (length lists)) [
      | inl within ↦ within
      | inr beyond ↦ absurd (not_in_none k (subst (λ xs. Contains xs k) (get_or_past lists p [] beyond) i))
    ]

-- ---- what stays true of the lists

pub once_all_but : (item : ℕ) (xs : List ℕ) → AllPairs (λ a b. a ≢ b) xs → AllPairs (λ a b. a ≢ b) (all_but item xs)
once_all_but item [] h = λ i j d l m. absurd (omega (arith, m))
once_all_but item (x ∷ xs) h =
    let rest = once_all_but item xs (once_rest x xs h) in
    elim (cases_eq x item) [
      | inl same ↦ subst (AllPairs (λ a b. a ≢ b)) (sym (all_but_first item x xs same)) rest
      | inr apart ↦
          subst (AllPairs (λ a b. a ≢ b)) (sym (all_but_later item x xs apart))
          (once_more x (all_but item xs) (λ i. once_first x xs h x (of_filter (λ k. not (k == item)) xs x i).0 refl) rest)
    ]

-- what the list without an item has, and what it lacks
pub of_all_but : (item : ℕ) (xs : List ℕ) (k : ℕ) → Contains (all_but item xs) k → Contains xs k × (k ≢ item)
of_all_but item xs k i =
    let w = of_filter (λ j. not (j == item)) xs k i in
    (w.0, λ same. false≢true (sym (ap not (eq-eqb k item same)) ∙ w.1))

pub in_all_but : (item : ℕ) (xs : List ℕ) (k : ℕ) → Contains xs k → k ≢ item → Contains (all_but item xs) k
in_all_but item xs k i apart = in_filter (λ j. not (j == item)) xs k i (ap not (ne_eqb k item apart))

module _ (lists : List (List ℕ)) (p item : ℕ) (within : p < length lists) where
  abbrev pub less : List (List ℕ)
  less = set lists p (all_but item (items_at lists p))

  less_at : items_at less p ≡ all_but item (items_at lists p)
  less_at = get_or-set_same lists p (all_but item (items_at lists p)) [] within

  less_elsewhere : (q : ℕ) → q ≢ p → items_at less q ≡ items_at lists q
  less_elsewhere q apart = get_or-set_other lists p q (all_but item (items_at lists p)) [] apart

  -- what is left was there, and it is not the item where this was taken out
  pub was_there : (q k : ℕ) → Contains (items_at less q) k → Contains (items_at lists q) k
  was_there q k i =
      elim (cases_eq q p) [
        | inl same ↦
            let i' = of_all_but item (items_at lists p) k (subst (λ xs. Contains xs k) (ap (items_at less) same ∙ less_at) i) in
            subst (λ e. Contains (items_at lists e) k) (sym same) i'.0
        | inr apart ↦ subst (λ xs. Contains xs k) (less_elsewhere q apart) i
      ]

  pub is_left : (q k : ℕ) → Contains (items_at lists q) k → k ≢ item → Contains (items_at less q) k
  is_left q k i other =
      elim (cases_eq q p) [
        | inl same ↦
            subst (λ xs. Contains xs k) (sym (ap (items_at less) same ∙ less_at))
            (in_all_but item (items_at lists p) k (subst (λ e. Contains (items_at lists e) k) same i) other)
        | inr apart ↦ subst (λ xs. Contains xs k) (sym (less_elsewhere q apart)) i
      ]

  module _ (items : ℕ) (there_is : Contains (items_at lists p) item) (h : AreShared items lists) where
    -- the item is in no list any more
    pub is_gone : (q : ℕ) → Contains (items_at less q) item → ⊥
    is_gone q i =
        let same : q ≡ p = h.apart q p item (was_there q item i) there_is in
        (of_all_but item (items_at lists p) item (subst (λ xs. Contains xs item) (ap (items_at less) same ∙ less_at) i)).1 refl

    pub shared_less : AreShared items less
    shared_less =
        record {
          within = λ q k i. h.within q k (was_there q k i);
          once = λ q.
              elim (cases_eq q p) [
                | inl same ↦ subst (AllPairs (λ a b. a ≢ b)) (sym (ap (items_at less) same ∙ less_at)) (once_all_but item (items_at lists p) (h.once p))
                | inr apart ↦ subst (AllPairs (λ a b. a ≢ b)) (sym (less_elsewhere q apart)) (h.once q)
              ];
          apart = λ q q' k i j. h.apart q q' k (was_there q k i) (was_there q' k j);
        }
