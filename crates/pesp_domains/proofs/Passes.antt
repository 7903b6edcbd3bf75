-- Passes over activities: nothing yet, one pair more, and one pass after another.
use Rattle.std.proofs.Common.{◌≡◌, ℕ, ◌<◌, ◌≤◌, ◌==◌, Bool, true, false, ◌&&◌, ◌||◌, List, ◌∷◌, refl, sym, ◌∙◌, ap, subst, inl, inr, ◌⊎◌, IsTrue, arith}
use Rattle.std.proofs.Math.Bool.{and-false, and-true}
use Rattle.std.proofs.lemmas.Bool.{false≢true, cases_eq, eq-eqb, ne_eqb}
use Rattle.std.proofs.lemmas.List.Elements.{All-contains}
use Rattle.std.specs.List.{Contains, count_by}
use Rattle.pesp_base.specs.declared.activity.Activity.{Activity}
use Rattle.pesp_instance.specs.Network.{HasEnds, IsNetwork, Network, has_event}
use Rattle.pesp_domains.specs.declared.pair.Pair.{Pair}
use Rattle.pesp_domains.specs.declared.side.Side.{Side}
use Rattle.pesp_domains.specs.declared.side.Side.TheVariants.{Tail, Head}
use Rattle.pesp_domains.specs.Domains.{InDomains, Joins, other, own}
use Rattle.pesp_domains.specs.Sweeps.{AreAdmitted, Covers, IsAlone, IsPass, IsSettledAt, Of, Pairs, Settles, Shrinks, all_pairs, held}
use Rattle.pesp_domains.specs.Removals.{without}
use Rattle.pesp_domains.proofs.Families.{and_left, count_less, here_or_there, in_all_pairs}
use Rattle.pesp_domains.proofs.Laws.{InDomains-admitted, InDomains-stands, settled_domains}

pub shrinks_none : (I : Network) (S : Pairs) → Shrinks I S S
shrinks_none I S = record { fewer = λ e r h. h; covers = λ pushes h. h }

pub shrinks_then : (I : Network) (S S' S'' : Pairs) → Shrinks I S S' → Shrinks I S' S'' → Shrinks I S S''
shrinks_then I S S' S'' h k = record { fewer = λ e r i. h.fewer e r (k.fewer e r i); covers = λ pushes c. k.covers pushes (h.covers pushes c) }

pub admitted_shrinks : (I : Network) (pushes : List Pair) (S S' : Pairs) → Shrinks I S S' → AreAdmitted I pushes S → AreAdmitted I pushes S'
admitted_shrinks I pushes S S' h a = record { each = λ e r i. a.each e r (h.fewer e r i) }

pub pass_none : (I : Network) (S : Pairs) → IsPass I S S false
pass_none I S = record { shrinks = shrinks_none I S; less = λ h. absurd (false≢true h); same = λ _ e r. refl }

-- sets with the same pairs have the same
held_same : (I : Network) (S S' : Pairs) → ((e r : ℕ) → S' e r ≡ S e r) → held I S' ≡ held I S
held_same I S S' same = ap (λ (test : Pair → Bool). count_by test (all_pairs I)) (λ i p. same p.event p.residue i)

pub held_le : (I : Network) (S S' : Pairs) (changed : Bool) → IsPass I S S' changed → held I S' ≤ held I S
held_le I S S' true h = let l = h.less refl in omega (arith, l)
held_le I S S' false h = let e = held_same I S S' (h.same refl) in omega (arith, e)

pub pass_then : (I : Network) (S S' S'' : Pairs) (c c' : Bool) → IsPass I S S' c → IsPass I S' S'' c' → IsPass I S S'' (c || c')
pass_then I S S' S'' c c' h k =
    record {
      shrinks = shrinks_then I S S' S'' h.shrinks k.shrinks;
      less = less c c' h k;
      same = same c c' h k;
    }
  where
    less : (c c' : Bool) → IsPass I S S' c → IsPass I S' S'' c' → (c || c') ≡ true → held I S'' < held I S
    less true c' h k x = let l = h.less refl in let m = held_le I S' S'' c' k in omega (arith, l, m)
    less false true h k x = let e = held_le I S S' false h in let l = k.less refl in omega (arith, e, l)
    less false false h k x = absurd (false≢true x)

    same : (c c' : Bool) → IsPass I S S' c → IsPass I S' S'' c' → (c || c') ≡ false → (e r : ℕ) → S'' e r ≡ S e r
    same true c' h k x = absurd (false≢true (sym x))
    same false true h k x = absurd (false≢true (sym x))
    same false false h k x = λ e r. k.same refl e r ∙ h.same refl e r

-- ---- a pair goes

same_pair : (e r : ℕ) → (e == e && r == r) ≡ true
same_pair e r = rw (eq-eqb e e refl, eq-eqb r r refl) refl

pub without_other : (S : Pairs) (event residue e r : ℕ) → (e ≡ event → r ≡ residue → ⊥) → without S event residue e r ≡ S e r
without_other S event residue e r apart =
    elim (cases_eq e event) [
      | inr other ↦ rw (ne_eqb e event other) (and-true (S e r))
      | inl same ↦ rw (eq-eqb e event same, ne_eqb r residue (apart same)) (and-true (S e r))
    ]

pub without_pair : (S : Pairs) (event residue : ℕ) → without S event residue event residue ≡ false
without_pair S event residue = rw (same_pair event residue) (and-false (S event residue))

-- a pair without a partner goes
pub pass_one : (I : Network) (S S' : Pairs) (side : Side) (a : Activity) (r : ℕ)
    → Contains I.activities a → IsTrue (has_event I (own side a)) → r < I.period → IsAlone I.period S side a r
    → ((f s : ℕ) → S' f s ≡ without S (own side a) r f s) → IsPass I S S' true
pass_one I S S' side a r is event below alone goes =
    record {
      shrinks = record { fewer = fewer; covers = λ pushes c. record { each = λ f s i. stays f s (kept pushes c f s i) (c.each f s i) } };
      less = λ _. count_less (λ p. S' p.event p.residue) (λ p. S p.event p.residue) (all_pairs I) (record { event = own side a; residue = r }) (λ p. fewer p.event p.residue) (in_all_pairs I (own side a) r event below) (goes (own side a) r ∙ without_pair S (own side a) r) alone.here;
      same = λ x. absurd (false≢true (sym x));
    }
  where
    fewer : (f s : ℕ) → Of S' f s → Of S f s
    fewer f s h = and_left (S f s) _ (sym (goes f s) ∙ h)

    kept : (pushes : List Pair) → Covers I pushes S → (f s : ℕ) → InDomains I pushes f s → f ≡ own side a → s ≡ r → ⊥
    kept pushes c f s i at to =
        let w = (InDomains-stands I pushes f s i).partner side a is (sym at) in
        alone.alone w.0 (InDomains-admitted I pushes _ _ w.1).below (c.each _ _ w.1) (subst (λ k. Joins side I.period a k w.0) to w.2)

    stays : (f s : ℕ) → (f ≡ own side a → s ≡ r → ⊥) → Of S f s → Of S' f s
    stays f s apart h = goes f s ∙ without_other S (own side a) r f s apart ∙ h

-- one more pass that took a pair out, and one that took none
pub pass_yes : (I : Network) (S S' S'' : Pairs) (c : Bool) → IsPass I S S' c → IsPass I S' S'' true → IsPass I S S'' true
pass_yes I S S' S'' true h k = pass_then I S S' S'' true true h k
pass_yes I S S' S'' false h k = pass_then I S S' S'' false true h k

pub pass_no : (I : Network) (S S' S'' : Pairs) (c : Bool) → IsPass I S S' c → IsPass I S' S'' false → IsPass I S S'' c
pass_no I S S' S'' true h k = pass_then I S S' S'' true false h k
pass_no I S S' S'' false h k = pass_then I S S' S'' false false h k

-- ---- activities that are settled

pub settled_same : (period : ℕ) (S S' : Pairs) (side : Side) (a : Activity) → ((e r : ℕ) → S' e r ≡ S e r) → IsSettledAt period S side a → IsSettledAt period S' side a
settled_same period S S' side a same h =
    record { each = λ r below i. let w = h.each r below (sym (same (own side a) r) ∙ i) in (w.0, same (other side a) w.0 ∙ w.1, w.2) }

-- an activity is settled at both ends after a pass over one and then the other that took nothing out
pub both_settled : (I : Network) (a : Activity) (S S' : Pairs) (tail head : Bool) → IsPass I S S' head
    → (tail ≡ false → IsSettledAt I.period S Tail a) → (head ≡ false → IsSettledAt I.period S' Head a) → (tail || head) ≡ false → (side : Side) → IsSettledAt I.period S' side a
both_settled I a S S' true head h t k x side = absurd (false≢true (sym x))
both_settled I a S S' false true h t k x side = absurd (false≢true (sym x))
both_settled I a S S' false false h t k x Tail = settled_same I.period S S' Tail a (h.same refl) (t refl)
both_settled I a S S' false false h t k x Head = k refl

-- sweeps that end with one that takes nothing out leave the domains
pub sweeps_settle : (I : Network) (S S' S'' : Pairs) → Shrinks I S S' → IsPass I S' S'' false → ((side : Side) (a : Activity) → Contains I.activities a → IsSettledAt I.period S'' side a) → Settles I S S''
sweeps_settle I S S' S'' h k settled =
    let all = shrinks_then I S S' S'' h k.shrinks in
    record {
      settles = λ pushes admitted covers.
          settled_domains I pushes S'' (admitted_shrinks I pushes S S'' all admitted) (all.covers pushes covers) settled;
    }

-- the event at an end of an activity is one of the instance
pub own_is_event : (I : Network) (side : Side) (a : Activity) → IsNetwork I → Contains I.activities a → IsTrue (has_event I (own side a))
own_is_event I Tail a network is = (All-contains (HasEnds I.events) I.activities a network.ends is).from
own_is_event I Head a network is = (All-contains (HasEnds I.events) I.activities a network.ends is).to

-- an activity is still to come or settled after one more of those to come is settled and no pair went
pub settled_more : (I : Network) (S S' : Pairs) (side : Side) (x a : Activity) (rest : List Activity) → ((e r : ℕ) → S' e r ≡ S e r)
    → Contains (x ∷ rest) a ⊎ IsSettledAt I.period S side a → IsSettledAt I.period S' side x → Contains rest a ⊎ IsSettledAt I.period S' side a
settled_more I S S' side x a rest same (inl to_come) settled =
    elim (here_or_there a x rest to_come) [
      | inl is ↦ inr (subst (IsSettledAt I.period S' side) is settled)
      | inr later ↦ inl later
    ]
settled_more I S S' side x a rest same (inr was) settled = inr (settled_same I.period S S' side a same was)
