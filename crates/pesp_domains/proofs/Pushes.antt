-- Pushed pairs: rows that are opened, and rows that are limited to one pair more.
use Rattle.std.proofs.Common.{◌≡◌, ℕ, ◌<◌, ◌≤◌, ◌==◌, eqb, length, get_or, map, All, is_some, Bool, true, ◌||◌, not, List, [], ◌∷◌, ◌++◌, refl, sym, ◌∙◌, ap, subst, inl, inr, IsTrue, arith}
use Rattle.std.proofs.lemmas.Bool.{false≢true, cases_eq, cases_lt, eq-eqb, ne_eqb, and_from}
use Rattle.std.proofs.lemmas.List.{length-map, get_or-map, get_or_append_left, get_or_push, length_push}
use Rattle.std.proofs.lemmas.List.Elements.{All-head, All-push, All-tail, Contains-append_left, Contains-get_or, Contains-push, Contains-push_cases}
use Rattle.std.proofs.lemmas.Map.Keys.{IsDistinct-from_apart}
use Rattle.std.proofs.lemmas.Map.Made.{length-le_from_is_member}
use Rattle.std.specs.Cmp.{nat_eq_equiv}
use Rattle.std.specs.List.{list_any}
use Rattle.pesp_base.specs.Numbered.{with_number}
use Rattle.pesp_instance.specs.declared.event.Event.{Event}
use Rattle.pesp_instance.specs.Network.{IsNetwork, Network, event_ids, has_event}
use Rattle.pesp_domains.specs.declared.pair.Pair.{Pair}
use Rattle.pesp_domains.specs.Domains.{In, IsAdmitted}
use Rattle.pesp_domains.specs.Kept.{ArePushed, IsKept}
use Rattle.pesp_domains.specs.Rows.{AreRowsOf, Rows, has}
use Rattle.pesp_domains.specs.Sweeps.{AreDomains, AreOpen, Pairs, Settles, limited, narrowed_to}
use Rattle.pesp_domains.proofs.Families.{and_left, and_right}
use Rattle.pesp_domains.proofs.Laws.{InDomains-admitted, InDomains-fewer}

-- what is left agrees
pub limited_agrees : (S : Pairs) (event residue e r : ℕ) → IsTrue (limited S event residue e r) → e ≡ event → r ≡ residue
limited_agrees S event residue e r h same =
    elim (cases_eq r residue) [
      | inl is ↦ is
      | inr apart ↦
          let wrong = and_right (S e r) (not (e == event) || r == residue) h in
          absurd (false≢true (rw (eq-eqb e event same, ne_eqb r residue apart) at wrong))
    ]

-- and what agrees is left
pub limited_keeps : (S : Pairs) (event residue e r : ℕ) → IsTrue (S e r) → (e ≡ event → r ≡ residue) → IsTrue (limited S event residue e r)
limited_keeps S event residue e r h agrees =
    and_from (S e r) (not (e == event) || r == residue) h
    (elim (cases_eq e event) [
      | inl same ↦ rw (eq-eqb e event same, eq-eqb r residue (agrees same)) refl
      | inr apart ↦ rw (ne_eqb e event apart) refl
    ])

-- what is left passes the test, and what passes is left
pub narrowed_passes : (S : Pairs) (event : ℕ) (test : ℕ → Bool) (e r : ℕ) → IsTrue (narrowed_to S event test e r) → e ≡ event → IsTrue (test r)
narrowed_passes S event test e r h same = rw (eq-eqb e event same) at (and_right (S e r) (not (e == event) || test r) h)

pub narrowed_keeps : (S : Pairs) (event : ℕ) (test : ℕ → Bool) (e r : ℕ) → IsTrue (S e r) → (e ≡ event → IsTrue (test r)) → IsTrue (narrowed_to S event test e r)
narrowed_keeps S event test e r h passes =
    and_from (S e r) (not (e == event) || test r) h
    (elim (cases_eq e event) [
      | inl same ↦ rw (eq-eqb e event same) (passes same)
      | inr apart ↦ rw (ne_eqb e event apart) refl
    ])

module _ (I : Network) (pushes : List Pair) (x : Pair) where
  abbrev all : List Pair
  all = pushes ++ x ∷ []

  -- a pair that agrees with one push more
  admitted_more : (e r : ℕ) → IsAdmitted I pushes e r → (e ≡ x.event → r ≡ x.residue) → IsAdmitted I all e r
  admitted_more e r h agrees =
      record {
        of_event = h.of_event;
        below = h.below;
        window = h.window;
        pushed = λ s i.
            elim (Contains-push_cases pushes x _ i) [
              | inl old ↦ h.pushed s old
              | inr same ↦ sym (ap (λ (p : Pair). p.residue) same) ∙ sym (agrees (sym (ap (λ (p : Pair). p.event) same)))
            ];
      }

  admitted_fewer : (e r : ℕ) → IsAdmitted I all e r → IsAdmitted I pushes e r
  admitted_fewer e r h =
      record { of_event = h.of_event; below = h.below; window = h.window; pushed = λ s i. h.pushed s (Contains-append_left pushes (x ∷ []) _ i) }

  agrees_last : (e r : ℕ) → IsAdmitted I all e r → e ≡ x.event → r ≡ x.residue
  agrees_last e r h same = sym (h.pushed x.residue (subst (λ k. In all k x.residue) (sym same) (Contains-push pushes x)))

  -- an open set that is limited to a pair is open under it
  pub open_more : (S S' : Pairs) → ((e r : ℕ) → S' e r ≡ limited S x.event x.residue e r) → AreOpen I pushes S → AreOpen I all S'
  open_more S S' is before =
      record {
        exact = λ e r. (
          (λ h. let l = sym (is e r) ∙ h in admitted_more e r ((before.exact e r).0 (and_left (S e r) _ l)) (limited_agrees S x.event x.residue e r l)),
          (λ h. is e r ∙ limited_keeps S x.event x.residue e r ((before.exact e r).1 (admitted_fewer e r h)) (agrees_last e r h)),
        );
      }

  -- from the domains under some pairs to those under one more
  pub push_settles : (S S' S'' : Pairs) → ((e r : ℕ) → S' e r ≡ limited S x.event x.residue e r) → Settles I S' S'' → AreDomains I pushes S → AreDomains I all S''
  push_settles S S' S'' is settles domains =
      settles.settles all
      (record {
        each = λ e r h.
            let l = sym (is e r) ∙ h in
            admitted_more e r (InDomains-admitted I pushes e r ((domains.exact e r).0 (and_left (S e r) _ l))) (limited_agrees S x.event x.residue e r l);
      })
      (record {
        each = λ e r h.
            is e r ∙ limited_keeps S x.event x.residue e r
            ((domains.exact e r).1 (InDomains-fewer I pushes all (λ f s. Contains-append_left pushes (x ∷ []) _) e r h))
            (agrees_last e r (InDomains-admitted I all e r h));
      })

-- from an open set sweeps end at the domains
pub open_settles : (I : Network) (pushes : List Pair) (S S' : Pairs) → AreOpen I pushes S → Settles I S S' → AreDomains I pushes S'
open_settles I pushes S S' before settles =
    settles.settles pushes
    (record { each = λ e r h. (before.exact e r).0 h })
    (record { each = λ e r h. (before.exact e r).1 (InDomains-admitted I pushes e r h) })

-- ---- how many pairs can be pushed

found_id : (xs : List Event) (q : ℕ) → IsTrue (is_some (with_number (λ x. x.id) q xs)) → list_any (eqb q) (map (λ x. x.id) xs) ≡ true
found_id [] q h = absurd (false≢true h)
found_id (x ∷ xs) q h =
    elim (cases_eq x.id q) [
      | inl same ↦ rw (eq-eqb q x.id (sym same)) refl
      | inr apart ↦ rw (ne_eqb q x.id (λ same. apart (sym same))) (found_id xs q (rw (ne_eqb x.id q apart) at h))
    ]

inside_ids : (I : Network) (pushes : List Pair) → All (λ p. IsTrue (has_event I p.event)) pushes → (q : ℕ) → list_any (eqb q) (map (λ p. p.event) pushes) ≡ true → list_any (eqb q) (event_ids I) ≡ true
inside_ids I [] inside q h = absurd (false≢true h)
inside_ids I (p ∷ pushes) inside q h =
    elim (cases_eq q p.event) [
      | inl same ↦ rw same (found_id I.events p.event (All-head (λ x. IsTrue (has_event I x.event)) p pushes inside))
      | inr apart ↦ inside_ids I pushes (All-tail (λ x. IsTrue (has_event I x.event)) p pushes inside) q (rw (ne_eqb q p.event apart) at h)
    ]

-- pairs of different events of the instance are no more than its events
few_pushed : (I : Network) (pushes : List Pair) → ArePushed I pushes → length pushes ≤ length I.events
few_pushed I pushes h =
    let event : Pair → ℕ = λ p. p.event in
    let number : Event → ℕ = λ x. x.id in
    let ids : List ℕ = map event pushes in
    let long : length ids ≡ length pushes = length-map pushes event in
    let all : length (event_ids I) ≡ length I.events = length-map I.events number in
    let d : Pair = record { event = 0; residue = 0 } in
    let at : (i : ℕ) (e : ℕ) → i < length pushes → get_or ids i e ≡ (get_or pushes i d).event = λ i e l. get_or-map event pushes i d e l in
    let distinct = IsDistinct-from_apart eqb ids (λ i j e l m.
    let n : j < length pushes = omega (arith, m, long) in
    let k : i < length pushes = omega (arith, n, l) in
    ne_eqb _ _ (λ same. h.apart i j d l n (sym (at i e k) ∙ same ∙ at j e n))) in
    let few = length-le_from_is_member nat_eq_equiv ids (event_ids I) distinct (inside_ids I pushes h.inside) in
    omega (arith, few, long, all)

-- a pair of an event of the instance that has none may be pushed
pub pushed_more : (I : Network) (pushes : List Pair) (x : Pair) → IsTrue (has_event I x.event) → ((r : ℕ) → In pushes x.event r → ⊥) → ArePushed I pushes → ArePushed I (pushes ++ x ∷ [])
pushed_more I pushes x event free h =
    record {
      inside = All-push (λ p. IsTrue (has_event I p.event)) pushes x h.inside event;
      apart = λ i j d ij jl.
          elim (cases_lt j (length pushes)) [
            | inl m ↦
                let k : i < length pushes = omega (arith, ij, m) in
                rw (get_or_append_left pushes (x ∷ []) d i k, get_or_append_left pushes (x ∷ []) d j m) (h.apart i j d ij m)
            | inr g ↦
                let at : length pushes ≡ j = omega (arith, g, jl, length_push pushes x) in
                let k : i < length pushes = omega (arith, ij, at) in
                rw (get_or_append_left pushes (x ∷ []) d i k, get_or_push pushes x d j at)
                (λ same. free (get_or pushes i d).residue (subst (λ e. In pushes e (get_or pushes i d).residue) same (Contains-get_or pushes i d k)))
          ];
    }

-- and there is room for it
pub room_to_push : (I : Network) (pushes : List Pair) (x : Pair) (capacity : ℕ) → IsTrue (has_event I x.event) → ((r : ℕ) → In pushes x.event r → ⊥) → ArePushed I pushes → length I.events ≤ capacity → length pushes < capacity
room_to_push I pushes x capacity event free h room =
    let few = few_pushed I (pushes ++ x ∷ []) (pushed_more I pushes x event free h) in
    omega (arith, few, length_push pushes x, room)

pub pushed_none : (I : Network) → ArePushed I []
pushed_none I = record { inside = λ k d l. absurd (omega (arith, l)); apart = λ i j d ij jl. absurd (omega (arith, jl)) }

-- what is kept where nothing is pushed
pub kept_again : (I : Network) (pushes lent : List Pair) (rows : Rows) (capacity : ℕ) → pushes ≡ [] → lent ≡ pushes → IsNetwork I → AreRowsOf I rows → AreDomains I lent (has rows) → length I.events ≤ capacity → IsKept I pushes rows capacity
kept_again I pushes lent rows capacity nothing same network of_events domains room =
    record {
      network = network;
      of_events = of_events;
      domains = subst (λ list. AreDomains I list (has rows)) same domains;
      pushed = rw nothing (pushed_none I);
      room = room;
    }
