-- Each accepted edit asks again what was asked before, but where chains begin.
use Rattle.std.proofs.Common.{◌≡◌, ◌≢◌, ℕ, ◌<◌, ◌==◌, cond, if◌then◌else◌, Bool, true, false, List, [], ◌∷◌, Option, Some, None, is_some, option_map, Ok, refl, sym, ap, subst, ◌∙◌, inl, inr, ◌⊎◌, arith, IsTrue}
use Rattle.std.specs.List.{Contains}
use Rattle.std.specs.Option.{option_and_then, option_map_or}
use Rattle.std.specs.Result.{is_ok}
use Rattle.std.proofs.lemmas.Bool.{cases_Bool, cases_eq, eq-eqb, ne_eqb, false≢true}
use Rattle.std.proofs.lemmas.List.Elements.{All-contains, All-contains_itself}
use Rattle.pesp_base.specs.declared.activity.Activity.{Activity}
use Rattle.pesp_base.specs.declared.refusal.Refusal.{Refusal}
use Rattle.pesp_base.specs.Numbered.{with_number}
use Rattle.pesp_base.specs.Refusals.{unless_refused, when}
use Rattle.pesp_base.specs.Tensions.{IsMet}
use Rattle.pesp_base.specs.Windows.{Interval, at_time}
use Rattle.pesp_instance.specs.declared.edit.Edit.{Edit}
use Rattle.pesp_instance.specs.declared.edit.Edit.TheVariants.{AddEvent, DropEvent, Fix, SetWindow, Unfix, AddActivity, DropActivity, SetSpan, SetWeight, SetEnds}
use Rattle.pesp_instance.specs.declared.event.Event.{Event}
use Rattle.pesp_instance.specs.Edited.{edited, effect, rewindowed}
use Rattle.pesp_instance.specs.Network.{IsNetwork, Network, activity_of, admits, agrees_with, event_of, window_of, has_event}
use Rattle.pesp_instance.proofs.Rising.{All-found, IfSome-with_number, number-with_number, Rises-from_increasing, with_number-change_in, with_number-put_in, with_number-take_out}
use Rattle.pesp_domains.specs.declared.side.Side.{Side}
use Rattle.pesp_domains.specs.declared.side.Side.TheVariants.{Tail, Head}
use Rattle.pesp_domains.specs.Domains.{Joins, other, own}
use Rattle.pesp_domains.proofs.Edits.{effect_is}
use Rattle.pesp_domains.proofs.Families.{here, there}
use Rattle.pesp_counts.specs.Loosened.{AsksAgain, HasHeir}
use Rattle.pesp_domains.specs.Loosening.{admits_anew, admits_more, is_looser}
use Rattle.pesp_counts.specs.Changes.{limited_by}
use Rattle.pesp_counts.specs.Reached.{ends_of, is_edited, starts}
use Rattle.pesp_domains.proofs.Anew.{anew_at}
use Rattle.pesp_domains.proofs.Wider.{no_more_met}
use Rattle.pesp_counts_arcs.proofs.StandMembers.{in_change_other, in_change_same, in_put_in, in_take_out}

abbrev id_of : Activity → ℕ
id_of a = a.id

abbrev number : Event → ℕ
number e = e.id

-- ---- members and numbers

pub found_in : {X : Type 0} (num : X → ℕ) (n : ℕ) (xs : List X) (x : X) → with_number num n xs ≡ Some x → Contains xs x
found_in num n xs x is = IfSome-with_number num (Contains xs) n xs x (All-contains_itself xs) is

-- an activity of the instance stands under its number
activity_found : (I : Network) (a : Activity) → IsNetwork I → Contains I.activities a → activity_of I a.id ≡ Some a
activity_found I a network is =
    All-contains (λ b. activity_of I b.id ≡ Some b) I.activities a (All-found id_of I.activities (Rises-from_increasing id_of I.activities network.activities_rise)) is

own_of_ends : (side : Side) (a : Activity) → Contains (ends_of (Some a)) (own side a)
own_of_ends Tail a = here a.from (a.to ∷ [])
own_of_ends Head a = there a.to a.from (a.to ∷ []) (here a.to [])

-- the first refusal of an accepted edit does not hold
pub first_fails : (b : Bool) (refusal : Refusal) (rest : List (Option Refusal)) (x J : Network) → unless_refused (when b refusal ∷ rest) x ≡ Ok J → b ≡ false
first_fails true refusal rest x J ok = absurd (false≢true (ap is_ok ok))
first_fails false refusal rest x J ok = refl

-- ---- heirs

joins_less : (side : Side) (period : ℕ) (a b : Activity) → ((r s : ℕ) → IsMet period b.span r s → IsMet period a.span r s) → (r s : ℕ) → Joins side period b r s → Joins side period a r s
joins_less Tail period a b less r s m = less r s m
joins_less Head period a b less r s m = less s r m

own_same : (side : Side) (a b : Activity) → b.from ≡ a.from → b.to ≡ a.to → own side b ≡ own side a
own_same Tail a b from to = from
own_same Head a b from to = to

other_same : (side : Side) (a b : Activity) → b.from ≡ a.from → b.to ≡ a.to → other side b ≡ other side a
other_same Tail a b from to = to
other_same Head a b from to = from

-- one at the same ends that joins no more
heir : (I : Network) (edit : Edit) (side : Side) (a b : Activity) → Contains (effect I edit).activities b → b.from ≡ a.from → b.to ≡ a.to → ((r s : ℕ) → IsMet I.period b.span r s → IsMet I.period a.span r s) → (is_edited edit a ≡ false) ⊎ (starts I edit ≡ []) → HasHeir I edit side a
heir I edit side a b there from to less unedited =
    record {
      heir = b;
      there = there;
      own_end = own_same side a b from to;
      other_end = other_same side a b from to;
      no_more = λ r s rl sl. joins_less side I.period a b less r s;
      unedited = unedited;
    }

itself : (I : Network) (edit : Edit) (side : Side) (a : Activity) → Contains (effect I edit).activities a → is_edited edit a ≡ false → HasHeir I edit side a
itself I edit side a is unedited = heir I edit side a a is refl refl (λ r s met. met) (inl unedited)

at_start : (I : Network) (n : ℕ) (side : Side) (a : Activity) → IsNetwork I → Contains I.activities a → a.id ≡ n → Contains (ends_of (activity_of I n)) (own side a)
at_start I n side a network is same = subst (λ o. Contains (ends_of o) (own side a)) (sym (activity_found I a network is) ∙ ap (activity_of I) same) (own_of_ends side a)

-- ---- windows

rewindowed_elsewhere : (I : Network) (n e : ℕ) (window : Option Interval) → e ≢ n → event_of (rewindowed I n window) e ≡ event_of I e
rewindowed_elsewhere I n e window apart = with_number-change_in number e n (λ x. record x { window = window }) (λ x. refl) I.events ∙ still (event_of I e) (λ x. number-with_number number e I.events x)
  where
    still : (o : Option Event) → ((x : Event) → o ≡ Some x → number x ≡ e) → option_map (λ x. cond (number x == n) (record x { window = window }) x) o ≡ o
    still None at = refl
    still (Some x) at = rw (ne_eqb (number x) n (λ same. apart (sym (at x refl) ∙ same))) refl

-- an event that was there and stays is as it was, but for one whose window the edit changes
still_there : (I J : Network) (edit : Edit) (e : ℕ) → edited I edit ≡ Ok J → IsTrue (has_event I e) → IsTrue (has_event (effect I edit) e) → (limited_by edit ≡ Some e → ⊥) → event_of (effect I edit) e ≡ event_of I e
still_there I J (AddEvent v) e ok was is unlimited =
    let apart : v ≢ e = λ same. false≢true (sym (first_fails _ _ _ _ J ok) ∙ ap (has_event I) same ∙ was) in
    with_number-put_in number e (record { id = v; window = None }) I.events ∙ rw (ne_eqb v e apart) refl
still_there I J (DropEvent n) e ok was is unlimited =
    let found = with_number-take_out number e n I.events in
    elim (cases_eq e n) [
      | inl same ↦ let gone : event_of (effect I (DropEvent n)) e ≡ None = found ∙ rw (eq-eqb e n same) refl in absurd (false≢true (sym (ap is_some gone) ∙ is))
      | inr apart ↦ found ∙ rw (ne_eqb e n apart) refl
    ]
still_there I J (Fix n t) e ok was is unlimited = rewindowed_elsewhere I n e (Some (at_time t)) (λ same. unlimited (ap Some (sym same)))
still_there I J (SetWindow n first length) e ok was is unlimited = rewindowed_elsewhere I n e (Some (record { first = first; length = length })) (λ same. unlimited (ap Some (sym same)))
still_there I J (Unfix n) e ok was is unlimited = rewindowed_elsewhere I n e None (λ same. unlimited (ap Some (sym same)))
still_there I J (AddActivity b) e ok was is unlimited = refl
still_there I J (DropActivity n) e ok was is unlimited = refl
still_there I J (SetSpan n span) e ok was is unlimited = refl
still_there I J (SetWeight n weight) e ok was is unlimited = refl
still_there I J (SetEnds n from to) e ok was is unlimited = refl

-- so it admits what it did
admits_same : (I J : Network) (edit : Edit) (e r : ℕ) → edited I edit ≡ Ok J → (effect I edit).period ≡ I.period → IsTrue (has_event I e) → IsTrue (has_event (effect I edit) e) → (limited_by edit ≡ Some e → ⊥) → admits (effect I edit) e r ≡ admits I e r
admits_same I J edit e r ok period was is unlimited =
    ap (λ k. agrees_with k (window_of (effect I edit) e) r) period
    ∙ ap (λ (o : Option Event). agrees_with I.period (option_and_then (λ (x : Event). x.window) o) r) (still_there I J edit e ok was is unlimited)

-- what is admitted after was admitted before, or is a reason to begin at the event
before_or_start : (I J : Network) (n e r : ℕ) → e ≡ n → r < I.period → IsTrue (admits J e r) → IsTrue (admits I e r) ⊎ Contains (if admits_anew I J n then n ∷ [] else []) e
before_or_start I J n e r same below agrees =
    elim (cases_Bool (admits I e r)) [
      | inl as_before ↦ inl as_before
      | inr not_before ↦
          let new : admits_anew I J n ≡ true = ap (admits_anew I J) (sym same) ∙ anew_at I J e r below agrees not_before in
          inr (rw new (subst (Contains (n ∷ [])) (sym same) (here n [])))
    ]

-- ---- the ten edits

-- at the event whose window the edit changes chains begin where it admits more
abbrev BeginsWindow : Network → Edit → Type 0
BeginsWindow I edit = (n : ℕ) × (limited_by edit ≡ Some n) × (starts I edit ≡ (if admits_anew I (effect I edit) n then n ∷ [] else []))

asked : (I J : Network) (edit : Edit) → edited I edit ≡ Ok J → (effect I edit).period ≡ I.period → (limited_by edit ≡ None) ⊎ BeginsWindow I edit → ((side : Side) (a : Activity) → Contains I.activities a → Contains (starts I edit) (own side a) ⊎ HasHeir I edit side a) → AsksAgain I edit
asked I J edit ok period limits activities =
    record {
      period = period;
      window = λ e r below was is agrees.
          let stays : (limited_by edit ≡ Some e → ⊥) → IsTrue (admits I e r) = λ unlimited. sym (admits_same I J edit e r ok period was is unlimited) ∙ agrees in
          elim limits [
            | inl none ↦ inl (stays (λ same. false≢true (ap is_some (sym none ∙ same))))
            | inr w ↦
                elim (cases_eq e w.0) [
                  | inr apart ↦ inl (stays (λ same. let both : Some w.0 ≡ Some e = sym w.1 ∙ same in apart (cc)))
                  | inl same ↦ rw w.2 (before_or_start I (effect I edit) w.0 e r same below agrees)
                ]
          ];
      activities = activities;
    }

pub asks_again : (I J : Network) (edit : Edit) → IsNetwork I → edited I edit ≡ Ok J → AsksAgain I edit
asks_again I J (AddEvent v) network ok = asked I J (AddEvent v) ok refl (inl refl) (λ side a is. inr (itself I (AddEvent v) side a is refl))
asks_again I J (DropEvent n) network ok = asked I J (DropEvent n) ok refl (inl refl) (λ side a is. inr (itself I (DropEvent n) side a is refl))
asks_again I J (Fix n t) network ok = asked I J (Fix n t) ok refl (inr (n, refl, refl)) (λ side a is. inr (itself I (Fix n t) side a is refl))
asks_again I J (SetWindow n first length) network ok = asked I J (SetWindow n first length) ok refl (inr (n, refl, refl)) (λ side a is. inr (itself I (SetWindow n first length) side a is refl))
asks_again I J (Unfix n) network ok = asked I J (Unfix n) ok refl (inr (n, refl, refl)) (λ side a is. inr (itself I (Unfix n) side a is refl))
asks_again I J (AddActivity b) network ok =
    asked I J (AddActivity b) ok refl (inl refl)
    (λ side a is.
    let apart : a.id ≢ b.id = λ same. false≢true (sym (first_fails _ _ _ _ J ok) ∙ ap (λ n. is_some (activity_of I n)) (sym same) ∙ ap is_some (activity_found I a network is)) in
    inr (itself I (AddActivity b) side a (in_put_in id_of b I.activities a is apart) refl))
asks_again I J (DropActivity n) network ok =
    asked I J (DropActivity n) ok refl (inl refl)
    (λ side a is.
    elim (cases_eq a.id n) [
      | inl same ↦ inl (at_start I n side a network is same)
      | inr apart ↦ inr (itself I (DropActivity n) side a (in_take_out id_of n I.activities a is apart) (ne_eqb a.id n apart))
    ])
asks_again I J (SetSpan n span) network ok =
    let set : Activity → Activity = λ a. record a { span = span } in
    asked I J (SetSpan n span) ok refl (inl refl)
    (λ side a is.
    elim (cases_eq a.id n) [
      | inr apart ↦ inr (itself I (SetSpan n span) side a (in_change_other id_of n set I.activities a is apart) (ne_eqb a.id n apart))
      | inl same ↦
          elim (is_looser I n span) as (λ b. is_looser I n span ≡ b → Contains (if b then ends_of (activity_of I n) else []) (own side a) ⊎ HasHeir I (SetSpan n span) side a) [
            | true ↦ λ _. inl (at_start I n side a network is same)
            | false ↦ λ tight.
                let found : activity_of I n ≡ Some a = ap (activity_of I) (sym same) ∙ activity_found I a network is in
                let less : admits_more I.period a.span span ≡ false = sym (ap (λ o. option_map_or (λ b. admits_more I.period b.span span) o false) found) ∙ tight in
                inr (heir I (SetSpan n span) side a (set a) (in_change_same id_of n set I.activities a is same) refl refl (no_more_met I.period a.span span (omega (arith, network.period_low)) less) (inr (rw tight refl)))
          ] refl
    ])
asks_again I J (SetWeight n weight) network ok =
    let set : Activity → Activity = λ a. record a { weight = weight } in
    asked I J (SetWeight n weight) ok refl (inl refl)
    (λ side a is.
    elim (cases_eq a.id n) [
      | inr apart ↦ inr (itself I (SetWeight n weight) side a (in_change_other id_of n set I.activities a is apart) refl)
      | inl same ↦ inr (heir I (SetWeight n weight) side a (set a) (in_change_same id_of n set I.activities a is same) refl refl (λ p q met. met) (inl refl))
    ])
asks_again I J (SetEnds n from to) network ok =
    asked I J (SetEnds n from to) ok refl (inl refl)
    (λ side a is.
    elim (cases_eq a.id n) [
      | inl same ↦ inl (at_start I n side a network is same)
      | inr apart ↦ inr (itself I (SetEnds n from to) side a (in_change_other id_of n (λ b. record b { from = from; to = to }) I.activities a is apart) (ne_eqb a.id n apart))
    ])

-- an event that stays admits what it did, where the edit does not change its window
pub still_admits : (I J : Network) (edit : Edit) (e r : ℕ) → IsNetwork I → edited I edit ≡ Ok J → IsTrue (has_event I e) → IsTrue (has_event J e) → (limited_by edit ≡ Some e → ⊥) → IsTrue (admits I e r) → IsTrue (admits J e r)
still_admits I J edit e r network ok was is unlimited agrees =
    let same : J ≡ effect I edit = effect_is I J edit ok in
    let stays = subst (λ (K : Network). IsTrue (has_event K e)) same is in
    ap (λ (K : Network). admits K e r) same ∙ admits_same I J edit e r ok (asks_again I J edit network ok).period was stays unlimited ∙ agrees
