-- Each number keeps the place of its own where one comes or goes, and is found as before.
use Rattle.std.proofs.Common.{◌≡◌, ◌≢◌, ◌⊎◌, ◌↔◌, ◌+◌, ℕ, zero, suc, ◌==◌, Bool, true, false, cond, List, [], ◌∷◌, Option, Some, None, refl, sym, ap, subst, ◌∙◌, inl, inr, get_or, arith}
use Rattle.std.proofs.lemmas.Bool.{cases_eq, eq-eqb, eqb-true, ne_eqb, false≢true}
use Rattle.std.specs.BTreeMap.{is_at}
use Rattle.std.specs.List.{position_from}
use Rattle.std.specs.Ordering.{nat_cmp}
use Rattle.slab.specs.Slab.{Slab, get}
use Rattle.pesp_instance.proofs.Housed.{same_test}
use Rattle.pesp_counts_arcs.proofs.GuessLaws.{by_bits-many}
use Rattle.pesp_counts_arcs.specs.Places.{AreFound, AreGuessed, ArePlaces, AreByBits, IsOther, Places, StayGuessed, guess_of, is_number, number_at, other_of, place_of}

-- ---- the first place of a number

is_number-Some : (n : ℕ) (o : Option ℕ) → is_number n o ≡ true → o ≡ Some n
is_number-Some n None is = absurd (false≢true is)
is_number-Some n (Some m) is = ap (λ k. Some k) (sym (eqb-true n m is))

stands_from : (n : ℕ) (os : List (Option ℕ)) (i p : ℕ) → position_from (is_number n) i os ≡ Some p → (k : ℕ) × (p ≡ i + k) × (get_or os k None ≡ Some n)
stands_from n [] i p is = absurd (cc)
stands_from n (o ∷ os) i p is =
    elim (is_number n o) as (λ b. is_number n o ≡ b → cond b (Some i) (position_from (is_number n) (i + 1) os) ≡ Some p → (k : ℕ) × (p ≡ i + k) × (get_or (o ∷ os) k None ≡ Some n)) [
      | true ↦ λ here at. let same : i ≡ p = cc in (zero, omega (arith, same), is_number-Some n o here)
      | false ↦ λ _ at.
          let w = stands_from n os (i + 1) p at in
          (suc w.0, omega (arith, w.1), w.2)
    ] refl is

found_from : (n : ℕ) (os : List (Option ℕ)) (i k : ℕ) → get_or os k None ≡ Some n → (p : ℕ) × (position_from (is_number n) i os ≡ Some p)
found_from n [] i k at = absurd (cc)
found_from n (o ∷ os) i zero at =
    let here : is_number n o ≡ true = rw at (eq-eqb n n refl) in
    (i, rw here refl)
found_from n (o ∷ os) i (suc k) at =
    let w = found_from n os (i + 1) k at in
    elim (is_number n o) as (λ b. (p : ℕ) × (cond b (Some i) (position_from (is_number n) (i + 1) os) ≡ Some p)) [
      | true ↦ (i, refl)
      | false ↦ w
    ]

pub place_stands : (places : Places) (n p : ℕ) → place_of places n ≡ Some p → number_at places p ≡ Some n
place_stands places n p is =
    let w = stands_from n places.numbers 0 p is in
    let same : w.0 ≡ p = omega (arith, w.1) in
    rw (← same) w.2

-- where no number has two places, each is found at its own
pub ArePlaces-once : (places : Places) → ((n p q : ℕ) → number_at places p ≡ Some n → number_at places q ≡ Some n → p ≡ q) → ArePlaces places
ArePlaces-once places once = record { paired = λ n p. (place_stands places n p, at n p) }
  where
    at : (n p : ℕ) → number_at places p ≡ Some n → place_of places n ≡ Some p
    at n p is =
        let w = found_from n places.numbers 0 p is in
        w.1 ∙ ap (λ k. Some k) (once n w.0 p (place_stands places n w.0 w.1) is)

pub one_place : (places : Places) (n p q : ℕ) → ArePlaces places → number_at places p ≡ Some n → number_at places q ≡ Some n → p ≡ q
one_place places n p q are at_p at_q =
    let both : Some p ≡ Some q = sym ((are.paired n p).1 at_p) ∙ (are.paired n q).1 at_q in
    cc

pub place_is : (places : Places) (n : ℕ) (o : Option ℕ) → ArePlaces places → ((p : ℕ) → o ≡ Some p → number_at places p ≡ Some n) → ((p : ℕ) → number_at places p ≡ Some n → o ≡ Some p) → place_of places n ≡ o
place_is places n (Some p) are there only = (are.paired n p).1 (there p refl)
place_is places n None are there only =
    elim (place_of places n) as (λ o. place_of places n ≡ o → o ≡ None) [
      | None ↦ λ _. refl
      | Some p ↦ λ is. sym (only p (place_stands places n p is))
    ] refl

module _ (old new : Places) (number place : ℕ) (was : ArePlaces old) (others : (p : ℕ) → p ≢ place → number_at new p ≡ number_at old p) where
  -- ---- a new number at a free place

  module _ (absent : place_of old number ≡ None) (free : number_at old place ≡ None) (its : number_at new place ≡ Some number) where
    here : (n p : ℕ) → number_at new p ≡ Some n → ((p ≡ place) × (n ≡ number)) ⊎ ((n ≢ number) × (p ≢ place) × (number_at old p ≡ Some n))
    here n p is =
        elim (cases_eq p place) [
          | inl same ↦
              let that : Some n ≡ Some number = sym is ∙ ap (number_at new) same ∙ its in
              let its_number : n ≡ number = cc in
              inl (same, its_number)
          | inr apart ↦
              let before : number_at old p ≡ Some n = sym (others p apart) ∙ is in
              inr (λ same. let none : Some p ≡ None = sym ((was.paired n p).1 before) ∙ ap (place_of old) same ∙ absent in absurd (cc), apart, before)
        ]

    still : (n p : ℕ) → number_at old p ≡ Some n → number_at new p ≡ Some n
    still n p is = others p (λ same. let none : Some n ≡ None = sym is ∙ ap (number_at old) same ∙ free in absurd (cc)) ∙ is

    once : (n p q : ℕ) → number_at new p ≡ Some n → number_at new q ≡ Some n → p ≡ q
    once n p q at_p at_q =
        elim (here n p at_p) [
          | inl a ↦ elim (here n q at_q) [ inl b ↦ a.0 ∙ sym b.0 | inr b ↦ absurd (b.0 a.1) ]
          | inr a ↦ elim (here n q at_q) [ inl b ↦ absurd (a.0 b.1) | inr b ↦ one_place old n p q was a.2 b.2 ]
        ]

    pub ArePlaces-put : ArePlaces new
    ArePlaces-put = ArePlaces-once new once

    pub placed : (n : ℕ) → place_of new n ≡ cond (n == number) (Some place) (place_of old n)
    placed n =
        elim (cases_eq n number) [
          | inl same ↦ rw (eq-eqb n number same) ((ArePlaces-put.paired n place).1 (rw same its))
          | inr apart ↦ rw (ne_eqb n number apart) (place_is new n (place_of old n) ArePlaces-put (λ p is. still n p (place_stands old n p is)) (λ p is. elim (here n p is) [ inl a ↦ absurd (apart a.1) | inr a ↦ (was.paired n p).1 a.2 ]))
        ]

    -- it is found by its guess, or by the map where another place is guessed for it
    pub AreFound-put : (guesses : List ℕ) (entries entries' : List (ℕ × ℕ)) → AreFound old guesses entries → ((n : ℕ) → n ≢ number → other_of entries' n ≡ other_of entries n)
        → ((guess_of guesses number ≡ Some place) × (other_of entries' number ≡ None)) ⊎ (IsOther new guesses number place × (other_of entries' number ≡ Some place)) → AreFound new guesses entries'
    AreFound-put guesses entries entries' is same change = record {
      are_places = ArePlaces-put;
      by_bits = is.by_bits;
      found = λ n p at. elim (here n p at) [
        | inl a ↦ rw (a.0, a.1) (elim change [ inl k ↦ inl k.0 | inr k ↦ inr k.1 ])
        | inr a ↦ elim (is.found n p a.2) [ inl g ↦ inl g | inr m ↦ inr (same n a.0 ∙ m) ]
      ];
      mapped = λ n p at. elim (cases_eq n number) [
        | inl its_number ↦ subst (λ m. IsOther new guesses m p) (sym its_number) (own p (subst (λ m. other_of entries' m ≡ Some p) its_number at))
        | inr apart ↦ let o = is.mapped n p (sym (same n apart) ∙ at) in record { stands = still n p o.stands; guess = o.guess; guessed = o.guessed; apart = o.apart }
      ];
    }
      where
        own : (p : ℕ) → other_of entries' number ≡ Some p → IsOther new guesses number p
        own p at =
            elim change [
              | inl k ↦ let none : Some p ≡ None = sym at ∙ k.1 in absurd (cc)
              | inr k ↦
                  let there : Some place ≡ Some p = sym k.1 ∙ at in
                  let that : place ≡ p = cc in
                  subst (IsOther new guesses number) that k.0
            ]

  -- ---- a number that goes from its place

  module _ (there : number_at old place ≡ Some number) (none : number_at new place ≡ None) where
    left : (n p : ℕ) → number_at new p ≡ Some n → (n ≢ number) × (p ≢ place) × (number_at old p ≡ Some n)
    left n p is =
        let apart : p ≢ place = λ same. let gone : Some n ≡ None = sym is ∙ ap (number_at new) same ∙ none in absurd (cc) in
        let before : number_at old p ≡ Some n = sym (others p apart) ∙ is in
        (λ same. apart (one_place old n p place was before (rw same there)), apart, before)

    stays : (n p : ℕ) → n ≢ number → number_at old p ≡ Some n → number_at new p ≡ Some n
    stays n p apart is = others p (λ same. let that : Some n ≡ Some number = sym is ∙ ap (number_at old) same ∙ there in apart (cc)) ∙ is

    pub ArePlaces-gone : ArePlaces new
    ArePlaces-gone = ArePlaces-once new (λ n p q at_p at_q. one_place old n p q was (left n p at_p).2 (left n q at_q).2)

    pub went : (n : ℕ) → place_of new n ≡ cond (n == number) None (place_of old n)
    went n =
        elim (cases_eq n number) [
          | inl same ↦ rw (eq-eqb n number same) (place_is new n None ArePlaces-gone (λ p is. absurd (cc)) (λ p is. absurd ((left n p is).0 same)))
          | inr apart ↦ rw (ne_eqb n number apart) (place_is new n (place_of old n) ArePlaces-gone (λ p is. stays n p apart (place_stands old n p is)) (λ p is. (was.paired n p).1 (left n p is).2))
        ]

    -- the map has it no more, and its guess is one still
    pub AreFound-gone : (guesses : List ℕ) (entries entries' : List (ℕ × ℕ)) → AreFound old guesses entries → ((n : ℕ) → n ≢ number → other_of entries' n ≡ other_of entries n) → other_of entries' number ≡ None → AreFound new guesses entries'
    AreFound-gone guesses entries entries' is same gone = record {
      are_places = ArePlaces-gone;
      by_bits = is.by_bits;
      found = λ n p at. elim (is.found n p (left n p at).2) [ inl g ↦ inl g | inr m ↦ inr (same n (left n p at).0 ∙ m) ];
      mapped = λ n p at.
          let apart : n ≢ number = λ its. let none : Some p ≡ None = sym at ∙ ap (other_of entries') its ∙ gone in absurd (cc) in
          let o = is.mapped n p (sym (same n apart) ∙ at) in
          record { stands = stays n p apart o.stands; guess = o.guess; guessed = o.guessed; apart = o.apart };
    }

-- ---- what is found

-- a number that stands at its guess is not in the map
pub not_other : (places : Places) (guesses : List ℕ) (others : List (ℕ × ℕ)) (n p : ℕ) → AreFound places guesses others → guess_of guesses n ≡ Some p → number_at places p ≡ Some n → other_of others n ≡ None
not_other places guesses others n p is guessed stands =
    elim (other_of others n) as (λ o. other_of others n ≡ o → o ≡ None) [
      | None ↦ λ _. refl
      | Some q ↦ λ at.
          let o = is.mapped n q at in
          let same : q ≡ p = one_place places n q p is.are_places o.stands stands in
          let guess : Some o.guess ≡ Some p = sym o.guessed ∙ guessed in
          absurd (o.apart (cc))
    ] refl

-- a number that does not stand at its guess has the place that the map says
pub place_of_other : (places : Places) (guesses : List ℕ) (others : List (ℕ × ℕ)) (n : ℕ) → AreFound places guesses others → ((p : ℕ) → guess_of guesses n ≡ Some p → number_at places p ≡ Some n → ⊥) → place_of places n ≡ other_of others n
place_of_other places guesses others n is out =
    place_is places n (other_of others n) is.are_places (λ p at. (is.mapped n p at).stands) (λ p at. elim (is.found n p at) [ inl g ↦ absurd (out p g at) | inr m ↦ m ])

-- more guesses find what was found, where those that there were stay
pub AreFound-more : (places : Places) (guesses guesses' : List ℕ) (others : List (ℕ × ℕ)) → AreFound places guesses others → AreByBits guesses' → StayGuessed guesses guesses' → AreFound places guesses' others
AreFound-more places guesses guesses' others is by_bits stay = record {
  are_places = is.are_places;
  by_bits = by_bits;
  found = λ n p at. elim (is.found n p at) [ inl g ↦ inl (stay n p g) | inr m ↦ inr m ];
  mapped = λ n p at. let o = is.mapped n p at in record { stands = o.stands; guess = o.guess; guessed = stay n o.guess o.guessed; apart = o.apart };
}

-- the vacant place is guessed for a number whose guess was no number's own
pub AreFound-guessed : (numbers : Slab ℕ) (before after : List ℕ) (entries : List (ℕ × ℕ)) (number : ℕ) (kept : Bool) → AreFound (record { numbers = numbers.slots }) before entries → AreGuessed numbers before after number kept → AreByBits after → get numbers numbers.vacant_key ≡ None
    → AreFound (record { numbers = numbers.slots }) after entries
AreFound-guessed numbers before after entries number kept is guesses by_bits free = record {
  are_places = is.are_places;
  by_bits = by_bits;
  found = λ n p at. elim (is.found n p at) [ inl g ↦ inl (guesses.stays n p (g, at)) | inr m ↦ inr m ];
  mapped = λ n p at.
      let o = is.mapped n p at in
      elim (guesses.was n o.guess o.guessed) [
        | inl g ↦ record { stands = o.stands; guess = o.guess; guessed = g; apart = o.apart }
        | inr g ↦ record { stands = o.stands; guess = numbers.vacant_key; guessed = g; apart = λ same. let none : Some n ≡ None = sym o.stands ∙ ap (get numbers) (sym same) ∙ free in absurd (cc) }
      ];
}

-- a number without a place is not in the map
pub other_of-absent : (places : Places) (guesses : List ℕ) (entries : List (ℕ × ℕ)) (number : ℕ) → AreFound places guesses entries → place_of places number ≡ None → other_of entries number ≡ None
other_of-absent places guesses entries number is absent =
    elim (other_of entries number) as (λ o. other_of entries number ≡ o → o ≡ None) [
      | None ↦ λ _. refl
      | Some p ↦ λ at. let none : Some p ≡ None = sym ((is.are_places.paired number p).1 (is.mapped number p at).stands) ∙ absent in absurd (cc)
    ] refl

-- ---- the place of a number, which the map forgets

pub record IsTakenOut (numbers now : List (Option ℕ)) (guesses : List ℕ) (entries entries' : List (ℕ × ℕ)) (number : ℕ) (place : Option ℕ) : Type 0 where
  pub view : now ≡ numbers
  pub found : AreFound (record { numbers = now }) guesses entries
  pub its : place_of (record { numbers = now }) number ≡ place
  pub same : (n : ℕ) → n ≢ number → other_of entries' n ≡ other_of entries n
  pub gone : other_of entries' number ≡ None

module _ (numbers : List (Option ℕ)) (guesses slice : List ℕ) (entries : List (ℕ × ℕ)) (number : ℕ) (is : AreFound (record { numbers = numbers }) guesses entries) (whole : slice ≡ guesses) where
  pub taken_guess : (place : ℕ) → ((p : ℕ) → (Some place ≡ Some p) ↔ ((guess_of slice number ≡ Some p) × (get_or numbers p None ≡ Some number))) → IsTakenOut numbers numbers guesses entries entries number (Some place)
  taken_guess place guessed =
      let both = (guessed place).0 refl in
      record {
        view = refl;
        found = is;
        its = (is.are_places.paired number place).1 both.1;
        same = λ n apart. refl;
        gone = not_other (record { numbers = numbers }) guesses entries number place is (rw (← whole) both.0) both.1;
      }

  pub taken_other : (entries' : List (ℕ × ℕ)) (place : Option ℕ) → ((p : ℕ) → (None ≡ Some p) ↔ ((guess_of slice number ≡ Some p) × (get_or numbers p None ≡ Some number)))
      → place ≡ other_of entries number → ((n : ℕ) → other_of entries' n ≡ cond (is_at (nat_cmp number) n) None (other_of entries n)) → IsTakenOut numbers numbers guesses entries entries' number place
  taken_other entries' place guessed value updates = record {
    view = refl;
    found = is;
    its = place_of_other (record { numbers = numbers }) guesses entries number is out ∙ sym value;
    same = λ n apart. updates n ∙ rw (same_test number n, ne_eqb n number apart) refl;
    gone = updates number ∙ rw (same_test number number, eq-eqb number number refl) refl;
  }
    where
      out : (p : ℕ) → guess_of guesses number ≡ Some p → get_or numbers p None ≡ Some number → ⊥
      out p guess stands = let none : None ≡ Some p = (guessed p).1 (rw whole guess, stands) in absurd (cc)

-- a number that has no place goes, and each stays where it is
pub went_none : (places : Places) (number : ℕ) → place_of places number ≡ None → (n : ℕ) → place_of places n ≡ cond (n == number) None (place_of places n)
went_none places number none n =
    elim (cases_eq n number) [
      | inl same ↦ rw (eq-eqb n number same) (ap (place_of places) same ∙ none)
      | inr apart ↦ rw (ne_eqb n number apart) refl
    ]

-- ---- a place is guessed before it is taken

pub AreFound-kept : (numbers : Slab ℕ) (before made slice after : List ℕ) (entries : List (ℕ × ℕ)) (number : ℕ) (kept : Bool) → AreFound (record { numbers = numbers.slots }) before entries → AreByBits made → StayGuessed before made
    → slice ≡ made → AreGuessed numbers slice after number kept → get numbers numbers.vacant_key ≡ None → AreFound (record { numbers = numbers.slots }) after entries
AreFound-kept numbers before made slice after entries number kept is by_bits stay same guesses free =
    let found : AreFound (record { numbers = numbers.slots }) slice entries = rw same (AreFound-more (record { numbers = numbers.slots }) before made entries is by_bits stay) in
    AreFound-guessed numbers slice after entries number kept found guesses (by_bits-many slice after found.by_bits guesses.many) free
