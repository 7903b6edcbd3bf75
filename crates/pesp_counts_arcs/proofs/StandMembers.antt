-- Which members a list with numbers has after a change.
use Rattle.std.proofs.Common.{◌≡◌, ◌≢◌, ◌⊎◌, ℕ, ◌<◌, ◌==◌, not, nat_lt, if◌then◌else◌, List, [], ◌∷◌, map, filter, refl, sym, ap, subst, ◌∙◌, inl, inr, arith}
use Rattle.std.specs.List.{Contains}
use Rattle.std.proofs.lemmas.Bool.{cases_eq, cases_lt, eq-eqb, false≢true, lt-ltb, ne_eqb}
use Rattle.std.proofs.lemmas.List.Elements.{Contains-append_cases, Contains-append_left, Contains-append_right}
use Rattle.pesp_base.specs.Numbered.{change_in, put_in, take_out}
use Rattle.pesp_domains.proofs.Families.{here, here_or_there, in_filter, not_in_none, of_filter, there}

module _ {X Y : Type 0} (f : X → Y) where
  pub in_map : (xs : List X) (x : X) → Contains xs x → Contains (map f xs) (f x)
  in_map [] x i = absurd (not_in_none x i)
  in_map (y ∷ xs) x i =
      elim (here_or_there x y xs i) [
        | inl same ↦ subst (λ z. Contains (map f (y ∷ xs)) (f z)) same (here (f y) (map f xs))
        | inr later ↦ there (f x) (f y) (map f xs) (in_map xs x later)
      ]

  pub of_map : (xs : List X) (z : Y) → Contains (map f xs) z → (x : X) × Contains xs x × (f x ≡ z)
  of_map [] z i = absurd (not_in_none z i)
  of_map (y ∷ xs) z i =
      elim (here_or_there z (f y) (map f xs) i) [
        | inl same ↦ (y, here y xs, same)
        | inr later ↦ let w = of_map xs z later in (w.0, there w.0 y xs w.1, w.2)
      ]

module _ {X : Type 0} (number : X → ℕ) where
  abbrev low : X → List X → List X
  low v xs = filter (λ y. nat_lt (number y) (number v)) xs

  abbrev high : X → List X → List X
  high v xs = filter (λ y. nat_lt (number v) (number y)) xs

  pub in_take_out : (n : ℕ) (xs : List X) (x : X) → Contains xs x → number x ≢ n → Contains (take_out number n xs) x
  in_take_out n xs x i apart = in_filter (λ y. not (number y == n)) xs x i (ap not (ne_eqb (number x) n apart))

  pub of_take_out : (n : ℕ) (xs : List X) (x : X) → Contains (take_out number n xs) x → Contains xs x × (number x ≢ n)
  of_take_out n xs x i =
      let w = of_filter (λ y. not (number y == n)) xs x i in
      (w.0, λ same. false≢true (sym (ap not (eq-eqb (number x) n same)) ∙ w.1))

  pub in_put_in : (v : X) (xs : List X) (x : X) → Contains xs x → number x ≢ number v → Contains (put_in number v xs) x
  in_put_in v xs x i apart =
      elim (cases_lt (number x) (number v)) [
        | inl below ↦ Contains-append_left (low v xs) (v ∷ high v xs) x (in_filter (λ y. nat_lt (number y) (number v)) xs x i (lt-ltb (number x) (number v) below))
        | inr above ↦
            let over : number v < number x = omega (arith, above, apart) in
            Contains-append_right (low v xs) (v ∷ high v xs) x (there x v (high v xs) (in_filter (λ y. nat_lt (number v) (number y)) xs x i (lt-ltb (number v) (number x) over)))
      ]

  pub new_put_in : (v : X) (xs : List X) → Contains (put_in number v xs) v
  new_put_in v xs =
      Contains-append_right (low v xs) (v ∷ high v xs) v (here v (high v xs))

  pub of_put_in : (v : X) (xs : List X) (x : X) → Contains (put_in number v xs) x → (v ≡ x) ⊎ (Contains xs x × (number x ≢ number v))
  of_put_in v xs x i =
      elim (Contains-append_cases (low v xs) (v ∷ high v xs) x i) [
        | inl below ↦ let w = of_filter (λ y. nat_lt (number y) (number v)) xs x below in inr (w.0, λ same. grind (arith, w.1, same))
        | inr rest ↦
            elim (here_or_there x v (high v xs) rest) [
              | inl new ↦ inl new
              | inr above ↦ let w = of_filter (λ y. nat_lt (number v) (number y)) xs x above in inr (w.0, λ same. grind (arith, w.1, same))
            ]
      ]

  -- a member of another number stays, and one of the number is changed
  pub in_change_other : (n : ℕ) (change : X → X) (xs : List X) (x : X) → Contains xs x → number x ≢ n → Contains (change_in number n change xs) x
  in_change_other n change xs x i apart =
      let stays : (if number x == n then change x else x) ≡ x = rw (ne_eqb (number x) n apart) refl in
      subst (Contains (change_in number n change xs)) stays (in_map (λ y. if number y == n then change y else y) xs x i)

  pub in_change_same : (n : ℕ) (change : X → X) (xs : List X) (x : X) → Contains xs x → number x ≡ n → Contains (change_in number n change xs) (change x)
  in_change_same n change xs x i same =
      let goes : (if number x == n then change x else x) ≡ change x = rw (eq-eqb (number x) n same) refl in
      subst (Contains (change_in number n change xs)) goes (in_map (λ y. if number y == n then change y else y) xs x i)

  pub of_change : (n : ℕ) (change : X → X) (xs : List X) (z : X) → Contains (change_in number n change xs) z → (x : X) × Contains xs x × (((number x ≡ n) × (change x ≡ z)) ⊎ ((number x ≢ n) × (x ≡ z)))
  of_change n change xs z i =
      let w = of_map (λ y. if number y == n then change y else y) xs z i in (
        w.0,
        w.1,
        elim (cases_eq (number w.0) n) [
          | inl same ↦
              let goes : change w.0 ≡ (if number w.0 == n then change w.0 else w.0) = rw (eq-eqb (number w.0) n same) refl in
              inl (same, goes ∙ w.2)
          | inr apart ↦
              let stays : w.0 ≡ (if number w.0 == n then change w.0 else w.0) = rw (ne_eqb (number w.0) n apart) refl in
              inr (apart, stays ∙ w.2)
        ],
      )
