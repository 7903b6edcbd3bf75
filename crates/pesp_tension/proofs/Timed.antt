-- Where no event lacks a time, each end of each activity has one.
use Rattle.std.proofs.Common.{◌≡◌, ℕ, zero, suc, eqb, true, false, cond, List, [], ◌∷◌, map, find, All, is_none, is_some, IsSome, IsTrue, Option, Some, None, refl, subst, arith}
use Rattle.std.proofs.lemmas.Bool.{eqb-true}
use Rattle.pesp_base.specs.Numbered.{with_number}
use Rattle.pesp_instance.specs.declared.event.Event.{Event}
use Rattle.pesp_instance.specs.Network.{Network, IsNetwork}
use Rattle.pesp_tension.specs.Timetables.{Times, time_of}
use Rattle.pesp_tension.specs.Answers.{IsTimed, first_missing}

head_timed : (time : Option ℕ) (e : ℕ) (rest : Option ℕ) → cond (is_none time) (Some e) rest ≡ None → IsSome time
head_timed None e rest none = absurd (cc)
head_timed (Some t) e rest none = refl

pub rest_timed : (time : Option ℕ) (e : ℕ) (rest : Option ℕ) → cond (is_none time) (Some e) rest ≡ None → rest ≡ None
rest_timed None e rest none = absurd (cc)
rest_timed (Some t) e rest none = none

-- an event that is found among events that all have times has one
pub found_timed : (m : Times) (es : List Event) (e : ℕ) → find (λ n. is_none (time_of m n)) (map (λ x. x.id) es) ≡ None
    → IsTrue (is_some (with_number (λ x. x.id) e es)) → IsSome (time_of m e)
found_timed m [] e none has = absurd (cc has)
found_timed m (x ∷ es) e none has =
    elim (eqb x.id e) as (λ b. eqb x.id e ≡ b → IsTrue (is_some (cond b (Some x) (with_number (λ y. y.id) e es))) → IsSome (time_of m e)) [
      | true ↦ λ same h. subst (λ n. IsSome (time_of m n)) (eqb-true x.id e same) (head_timed (time_of m x.id) x.id _ none)
      | false ↦ λ other h. found_timed m es e (rest_timed (time_of m x.id) x.id _ none) h
    ] refl has

-- all ends have times
pub ends_timed : (I : Network) (m : Times) → IsNetwork I → first_missing I m ≡ None → All (IsTimed m) I.activities
ends_timed I m is none =
    λ k d h. record { from = found_timed m I.events _ none (is.ends k d h).from; to = found_timed m I.events _ none (is.ends k d h).to }

pub head_of : {X : Type 0} (P : X → Type 0) (x : X) (xs : List X) → All P (x ∷ xs) → P x
head_of P x xs all = all 0 x (omega arith)

pub tail_of : {X : Type 0} (P : X → Type 0) (x : X) (xs : List X) → All P (x ∷ xs) → All P xs
tail_of P x xs all = λ k d h. all (suc k) d (omega (arith, h))

all_with : {X : Type 0} (P : X → Type 0) (x : X) (xs : List X) → P x → All P xs → All P (x ∷ xs)
all_with P x xs here rest zero d h = here
all_with P x xs here rest (suc k) d h = rest k d (omega (arith, h))

-- all events have times
pub events_timed : (m : Times) (es : List Event) → find (λ n. is_none (time_of m n)) (map (λ x. x.id) es) ≡ None → All (λ x. IsSome (time_of m x.id)) es
events_timed m [] none = λ k d h. absurd (omega (arith, h))
events_timed m (x ∷ es) none =
    all_with (λ y. IsSome (time_of m y.id)) x es (head_timed (time_of m x.id) x.id _ none) (events_timed m es (rest_timed (time_of m x.id) x.id _ none))
