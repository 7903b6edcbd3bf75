-- Members of lists of pairs.
use Rattle.std.proofs.Common.{◌≡◌, ℕ, zero, suc, ◌+◌, ◌<◌, ◌≤◌, ◌==◌, ◌&&◌, ◌||◌, Bool, true, false, cond, List, [], ◌∷◌, ◌++◌, map, filter, flat_map, Some, is_some, refl, sym, ap, subst, ◌∙◌, inl, inr, ◌⊎◌, arith, IsTrue}
use Rattle.std.specs.List.{Contains, count_by, list_any, range_with_len}
use Rattle.std.proofs.lemmas.Bool.{cases_eq, false≢true, eqb-true, cases_Bool, eq-eqb}
use Rattle.std.proofs.lemmas.List.Elements.{Contains-append_left, Contains-append_right}
use Rattle.std.proofs.lemmas.List.Sums.{sum_by-cons}
use Rattle.pesp_base.specs.Numbered.{with_number}
use Rattle.pesp_instance.specs.declared.event.Event.{Event}
use Rattle.pesp_instance.specs.Network.{Network, has_event}
use Rattle.pesp_domains.specs.declared.pair.Pair.{Pair}
use Rattle.pesp_domains.specs.Domains.{In}
use Rattle.pesp_domains.specs.Sweeps.{all_pairs}

pub and_left : (a b : Bool) → IsTrue (a && b) → IsTrue a
and_left true b h = refl
and_left false b h = absurd (false≢true h)

pub and_right : (a b : Bool) → IsTrue (a && b) → IsTrue b
and_right true b h = h
and_right false b h = absurd (false≢true h)

-- ---- any list

module _ {X : Type 0} where
  pub here : (x : X) (xs : List X) → Contains (x ∷ xs) x
  here x xs = (0, omega arith, refl)

  pub there : (x y : X) (xs : List X) → Contains xs x → Contains (y ∷ xs) x
  there x y xs (k, l, e) = (suc k, omega (arith, l), e)

  pub here_or_there : (x y : X) (xs : List X) → Contains (y ∷ xs) x → (y ≡ x) ⊎ Contains xs x
  here_or_there x y xs (zero, l, e) = inl e
  here_or_there x y xs (suc k, l, e) = inr (k, omega (arith, l), e)

  pub not_in_none : (x : X) → Contains [] x → ⊥
  not_in_none x (k, l, e) = absurd (omega (arith, l))

  -- what a list has and passes, the list of what passes has
  pub in_filter : (p : X → Bool) (xs : List X) (x : X) → Contains xs x → p x ≡ true → Contains (filter p xs) x
  in_filter p [] x i e = absurd (not_in_none x i)
  in_filter p (y ∷ xs) x i e =
      elim (here_or_there x y xs i) [
        | inl same ↦ let passes : p y ≡ true = ap p same ∙ e in rw passes (subst (λ z. Contains (y ∷ filter p xs) z) same (here y (filter p xs)))
        | inr rest ↦
            let later = in_filter p xs x rest e in
            elim (p y) as (λ b. Contains (cond b (y ∷ filter p xs) (filter p xs)) x) [ true ↦ there x y (filter p xs) later | false ↦ later ]
      ]

  -- and the other way round
  pub of_filter : (p : X → Bool) (xs : List X) (x : X) → Contains (filter p xs) x → Contains xs x × (p x ≡ true)
  of_filter p [] x i = absurd (not_in_none x i)
  of_filter p (y ∷ xs) x i =
      elim (p y) as (λ b. p y ≡ b → Contains (cond b (y ∷ filter p xs) (filter p xs)) x → Contains (y ∷ xs) x × (p x ≡ true)) [
        | true ↦ λ is j.
            elim (here_or_there x y (filter p xs) j) [
              | inl same ↦ (subst (λ z. Contains (y ∷ xs) z) same (here y xs), ap p (sym same) ∙ is)
              | inr later ↦ let w = of_filter p xs x later in (there x y xs w.0, w.1)
            ]
        | false ↦ λ is j. let w = of_filter p xs x j in (there x y xs w.0, w.1)
      ] refl i

  -- of two tests, of which one lets through what the other does and one element less, it counts fewer
  count_le : (p q : X → Bool) (xs : List X) → ((x : X) → p x ≡ true → q x ≡ true) → count_by p xs ≤ count_by q xs
  count_le p q [] less = omega arith
  count_le p q (x ∷ xs) less =
      let rest = count_le p q xs less in
      rw (sum_by-cons (λ y. cond (p y) 1 0) x xs, sum_by-cons (λ y. cond (q y) 1 0) x xs)
      (elim (p x) as (λ b. p x ≡ b → cond b 1 0 + count_by p xs ≤ cond (q x) 1 0 + count_by q xs) [
        | true ↦ λ is. rw (less x is) (omega (arith, rest))
        | false ↦ λ is. omega (arith, rest)
      ] refl)

  pub count_less : (p q : X → Bool) (xs : List X) (x : X) → ((y : X) → p y ≡ true → q y ≡ true) → Contains xs x → p x ≡ false → q x ≡ true → count_by p xs < count_by q xs
  count_less p q [] x less i out in_ = absurd (not_in_none x i)
  count_less p q (y ∷ xs) x less i out in_ =
      rw (sum_by-cons (λ z. cond (p z) 1 0) y xs, sum_by-cons (λ z. cond (q z) 1 0) y xs)
      (elim (here_or_there x y xs i) [
        | inl same ↦
            let rest = count_le p q xs less in
            let missing : p y ≡ false = ap p same ∙ out in
            let present : q y ≡ true = ap q same ∙ in_ in
            rw (missing, present) (omega (arith, rest))
        | inr later ↦
            let rest = count_less p q xs x less later out in_ in
            elim (p y) as (λ b. p y ≡ b → cond b 1 0 + count_by p xs < cond (q y) 1 0 + count_by q xs) [
              | true ↦ λ is. rw (less y is) (omega (arith, rest))
              | false ↦ λ is. omega (arith, rest)
            ] refl
      ])

-- ---- numbers of a range

pub in_range : (a n r : ℕ) → a ≤ r → r < a + n → Contains (range_with_len a n) r
in_range a zero r low high = absurd (omega (arith, low, high))
in_range a (suc n) r low high =
    elim (cases_eq a r) [
      | inl same ↦ subst (λ k. Contains (range_with_len a (suc n)) k) same (here a (range_with_len (a + 1) n))
      | inr apart ↦ there r a (range_with_len (a + 1) n) (in_range (a + 1) n r (omega (arith, low, apart)) (omega (arith, high)))
    ]

pub of_range : (a n r : ℕ) → Contains (range_with_len a n) r → (a ≤ r) × (r < a + n)
of_range a zero r i = absurd (not_in_none r i)
of_range a (suc n) r i =
    elim (here_or_there r a (range_with_len (a + 1) n) i) [
      | inl same ↦ (omega (arith, same), omega (arith, same))
      | inr later ↦ let w = of_range (a + 1) n r later in (omega (arith, w.0), omega (arith, w.1))
    ]

-- ---- the pairs of an instance

abbrev block : ℕ → ℕ → List Pair
block period e = map (λ r. record { event = e; residue = r }) (range_with_len 0 period)

in_block : (e r : ℕ) (rs : List ℕ) → Contains rs r → In (map (λ s. record { event = e; residue = s }) rs) e r
in_block e r [] i = absurd (not_in_none r i)
in_block e r (s ∷ rs) i =
    elim (here_or_there r s rs i) [
      | inl same ↦ subst (λ k. In (map (λ t. record { event = e; residue = t }) (s ∷ rs)) e k) same (here (record { event = e; residue = s }) (map (λ t. record { event = e; residue = t }) rs))
      | inr later ↦ there (record { event = e; residue = r }) (record { event = e; residue = s }) (map (λ t. record { event = e; residue = t }) rs) (in_block e r rs later)
    ]

-- an event of a list has a block of its own
in_blocks : (period e r : ℕ) (xs : List Event) → r < period → IsTrue (is_some (with_number (λ x. x.id) e xs)) → In (flat_map (block period) (map (λ x. x.id) xs)) e r
in_blocks period e r [] below is = absurd (false≢true is)
in_blocks period e r (x ∷ xs) below is =
    let rest = flat_map (block period) (map (λ y. y.id) xs) in
    elim (x.id == e) as (λ b. (x.id == e) ≡ b → IsTrue (is_some (cond b (Some x) (with_number (λ y. y.id) e xs))) → In (block period x.id ++ rest) e r) [
      | true ↦ λ same _. Contains-append_left (block period x.id) rest _ (subst (λ f. In (block period f) e r) (sym (eqb-true x.id e same)) (in_block e r (range_with_len 0 period) (in_range 0 period r (omega arith) (omega (arith, below)))))
      | false ↦ λ _ later. Contains-append_right (block period x.id) rest _ (in_blocks period e r xs below later)
    ] refl is

-- each event of the instance has each residue below the period among all pairs
pub in_all_pairs : (I : Network) (e r : ℕ) → IsTrue (has_event I e) → r < I.period → In (all_pairs I) e r
in_all_pairs I e r event below = in_blocks I.period e r I.events below event

-- ---- a test of the members of a list

-- some member passes
pub passing : {X : Type 0} (p : X → Bool) (xs : List X) → list_any p xs ≡ true → (x : X) × Contains xs x × IsTrue (p x)
passing p [] e = absurd (false≢true e)
passing p (x ∷ xs) e =
    elim (p x) as (λ b. p x ≡ b → (b || list_any p xs) ≡ true → (y : _) × Contains (x ∷ xs) y × IsTrue (p y)) [
      | true ↦ λ is _. (x, here x xs, is)
      | false ↦ λ _ later. let w = passing p xs later in (w.0, there w.0 x xs w.1, w.2)
    ] refl e

-- no member passes
pub none_passes : {X : Type 0} (p : X → Bool) (xs : List X) → list_any p xs ≡ false → (x : X) → Contains xs x → IsTrue (p x) → ⊥
none_passes p [] e x i h = not_in_none x i
none_passes p (y ∷ xs) e x i h =
    elim (here_or_there x y xs i) [
      | inl same ↦ false≢true (sym e ∙ left (p y) (list_any p xs) (ap p same ∙ h))
      | inr later ↦ none_passes p xs (right (p y) (list_any p xs) e) x later h
    ]
  where
    left : (a b : Bool) → IsTrue a → (a || b) ≡ true
    left true b h = refl
    left false b h = absurd (false≢true h)

    right : (a b : Bool) → (a || b) ≡ false → b ≡ false
    right true b h = absurd (false≢true (sym h))
    right false b h = h

-- a member that is equal to a number is found
pub found_equal : (m n : ℕ) (xs : List ℕ) → Contains xs n → m ≡ n → list_any (λ x. m == x) xs ≡ true
found_equal m n xs is same =
    elim (cases_Bool (list_any (λ x. m == x) xs)) [
      | inl found ↦ found
      | inr none ↦ absurd (none_passes (λ x. m == x) xs none n is (eq-eqb m n same))
    ]
