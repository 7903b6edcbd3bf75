-- Which numbers are events, and which are activities.
use Rattle.std.proofs.Common.{◌≡◌, ℕ, ◌<◌, ◌≤◌, List, [], ◌∷◌, All, Option, Some, None, IfNone, false, is_some, refl, ap, arith}
use Rattle.std.specs.Option.{SomeIff}
use Rattle.std.proofs.lemmas.Bool.{ne_eqb}
use Rattle.std.proofs.lemmas.List.Elements.{All-head, All-tail}
use Rattle.pesp_base.specs.Limits.{greatest_number}
use Rattle.pesp_base.specs.Numbered.{with_number}
use Rattle.pesp_base.specs.declared.activity.Activity.{Activity}
use Rattle.pesp_instance.specs.declared.event.Event.{Event}
use Rattle.pesp_instance.specs.Network.{IsActivity, IsEvent, IsNetwork, Network, activity_of, has_event}

-- none of a list whose numbers are within the limit has one above it
none_above :
    {T : Type 0} (P : T → Type 0) (number_of : T → ℕ) (n : ℕ) (xs : List T) → ((x : T) → P x → number_of x ≤ greatest_number) → greatest_number < n → All P xs
    → with_number number_of n xs ≡ None
none_above P number_of n [] within l each = refl
none_above P number_of n (x ∷ xs) within l each =
    let here : number_of x ≤ greatest_number = within x (All-head P x xs each) in
    rw (ne_eqb (number_of x) n (λ same. omega (arith, l, here, same))) (none_above P number_of n xs within l (All-tail P x xs each))

-- so a number that is none of an event is not one of the instance
pub no_event_number : (I : Network) (n : ℕ) (o : Option ℕ) → IsNetwork I → SomeIff o (n ≤ greatest_number) n → IfNone o (has_event I n ≡ false)
no_event_number I n (Some e) network is = tt
no_event_number I n None network is =
    ap is_some (none_above (IsEvent I.period) (λ (e : Event). e.id) n I.events (λ x e. e.number) (omega (arith, is)) network.events_within)

-- nor is one that is none of an activity
pub no_activity_number : (I : Network) (n : ℕ) (o : Option ℕ) → IsNetwork I → SomeIff o (n ≤ greatest_number) n → IfNone o (activity_of I n ≡ None)
no_activity_number I n (Some a) network is = tt
no_activity_number I n None network is =
    none_above IsActivity (λ (a : Activity). a.id) n I.activities (λ x a. a.number) (omega (arith, is)) network.activities_within
