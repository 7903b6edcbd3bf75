-- Residues that an event admits with another window, or with none, and did not admit before.
use Rattle.std.proofs.Common.{◌≡◌, ℕ, ◌<◌, ◌==◌, ◌&&◌, not, cond, Bool, true, false, List, [], ◌∷◌, Option, Some, None, option_map, refl, sym, ap, ◌∙◌, inl, inr, arith, zero, suc, ◌+◌, ◌%◌, min, mod-lt, All, ◌≤◌}
use Rattle.std.proofs.Math.Bool.{and-false}
use Rattle.std.proofs.Math.Nat.{add-mod-mod, mod-le}
use Rattle.std.specs.List.{list_any, range_with_len}
use Rattle.std.specs.Option.{option_and_then}
use Rattle.std.proofs.lemmas.List.Elements.{All-cons, All-head, All-nil, All-tail}
use Rattle.std.proofs.lemmas.Bool.{and_from, cases_Bool, cases_eq, false≢true, eq-eqb, eqb-true, ne_eqb}
use Rattle.pesp_base.specs.Windows.{Interval, at_time, is_held}
use Rattle.pesp_instance.specs.declared.edit.Edit.TheVariants.{Fix, Unfix}
use Rattle.pesp_instance.specs.declared.event.Event.{Event}
use Rattle.pesp_instance.specs.Edited.{effect, rewindowed}
use Rattle.pesp_instance.specs.Network.{Network, admits, agrees_with, event_of, window_of}
use Rattle.pesp_base.proofs.WindowLaws.{held-at_time, held-full, held_is}
use Rattle.pesp_instance.proofs.Rising.{number-with_number, with_number-change_in}
use Rattle.pesp_domains.specs.Loosening.{admits_anew}
use Rattle.pesp_base.proofs.Ranges.{some_below}
use Rattle.pesp_domains.proofs.Families.{and_left, and_right, of_range, passing}

abbrev number : Event → ℕ
number e = e.id

-- whether a residue is in the second window and not in the first one
abbrev pub agrees_anew : ℕ → Option Interval → Option Interval → ℕ → Bool
agrees_anew period old new r = agrees_with period new r && not (agrees_with period old r)

none_of : (test : ℕ → Bool) (rs : List ℕ) → ((r : ℕ) → test r ≡ false) → list_any test rs ≡ false
none_of test [] each = refl
none_of test (r ∷ rs) each = rw (each r) (none_of test rs each)

-- one residue below the period, admitted after and not before
pub anew_at : (I J : Network) (e r : ℕ) → r < I.period → admits J e r ≡ true → admits I e r ≡ false → admits_anew I J e ≡ true
anew_at I J e r below new old = some_below (λ s. admits J e s && not (admits I e s)) I.period r below (and_from _ _ new (ap not old))

-- it depends on the two windows alone
pub anew_is : (I : Network) (e : ℕ) (window : Option Interval) → admits_anew I (rewindowed I e window) e ≡ list_any (agrees_anew I.period (window_of I e) window) (range_with_len 0 I.period)
anew_is I e window = by (event_of I e) refl
  where
    by : (o : Option Event) → event_of I e ≡ o → admits_anew I (rewindowed I e window) e ≡ list_any (agrees_anew I.period (window_of I e) window) (range_with_len 0 I.period)
    by None none =
        let before : window_of I e ≡ None = ap (option_and_then (λ x. x.window)) none in
        none_of _ (range_with_len 0 I.period) (λ r. rw before (and-false (agrees_with I.period (window_of (rewindowed I e window) e) r)))
        ∙ sym (none_of _ (range_with_len 0 I.period) (λ r. rw before (and-false (agrees_with I.period window r))))
    by (Some x) found =
        let same : x.id ≡ e = number-with_number number e I.events x found in
        let after : window_of (rewindowed I e window) e ≡ window =
        ap (option_and_then (λ y. y.window)) (with_number-change_in number e e (λ y. record y { window = window }) (λ y. refl) I.events ∙ ap (option_map (λ y. cond (number y == e) (record y { window = window }) y)) found)
        ∙ rw (eq-eqb x.id e same) refl in
        rw after refl

-- steps up from the first residue of the second window, as many as it has residues and no more than the period, come to each of them
module _ (T : ℕ) (old : Option Interval) (w : Interval) (some : 0 < T) where
  abbrev lacks_ahead : ℕ → Bool
  lacks_ahead k = not (agrees_with T old ((w.first + k) % T))

  to_residue : list_any lacks_ahead (range_with_len 0 (min w.length T)) ≡ true → list_any (agrees_anew T old (Some w)) (range_with_len 0 T) ≡ true
  to_residue h =
      let (k, in_it, lacks) = passing lacks_ahead (range_with_len 0 (min w.length T)) h in
      let low = (of_range 0 (min w.length T) k in_it).1 in
      let r : ℕ = (w.first + k) % T in
      let held : is_held T w r ≡ true = (held_is T w r some).1 (k, omega (arith, low), refl) in
      some_below (agrees_anew T old (Some w)) T r (mod-lt (w.first + k) some) (and_from _ _ held lacks)

  to_steps : list_any (agrees_anew T old (Some w)) (range_with_len 0 T) ≡ true → list_any lacks_ahead (range_with_len 0 (min w.length T)) ≡ true
  to_steps h =
      let (r, in_it, anew) = passing (agrees_anew T old (Some w)) (range_with_len 0 T) h in
      let (k, few, is) = (held_is T w r some).0 (and_left (is_held T w r) (not (agrees_with T old r)) anew) in
      let lacks : not (agrees_with T old r) ≡ true = and_right (is_held T w r) (not (agrees_with T old r)) anew in
      let at : (w.first + k % T) % T ≡ r = add-mod-mod w.first k T ∙ is in
      let low : k % T < T = mod-lt k some in
      let less : k % T ≤ k = mod-le k T in
      some_below lacks_ahead (min w.length T) (k % T) (omega (arith, low, less, few)) (ap (λ s. not (agrees_with T old s)) at ∙ lacks)

  pub anew_ahead : list_any (λ k. not (agrees_with T old ((w.first + k) % T))) (range_with_len 0 (min w.length T)) ≡ list_any (agrees_anew T old (Some w)) (range_with_len 0 T)
  anew_ahead =
      elim (cases_Bool (list_any lacks_ahead (range_with_len 0 (min w.length T)))) [
        | inl is ↦ is ∙ sym (to_residue is)
        | inr none ↦
            elim (cases_Bool (list_any (agrees_anew T old (Some w)) (range_with_len 0 T))) [
              | inl is ↦ absurd (false≢true (sym none ∙ to_steps is))
              | inr neither ↦ none ∙ sym neither
            ]
      ]

no_other : (period : ℕ) (old : Option Interval) (t r : ℕ) → t < period → agrees_with period old t ≡ true → agrees_anew period old (Some (at_time t)) r ≡ false
no_other period old t r below is =
    rw (held-at_time period t r below)
    (elim (t == r) as (λ b. (t == r) ≡ b → (b && not (agrees_with period old r)) ≡ false) [
      | true ↦ λ same. let at : agrees_with period old r ≡ true = ap (agrees_with period old) (sym (eqb-true t r same)) ∙ is in rw at refl
      | false ↦ λ _. refl
    ] refl)

-- a fixed time admits anew where it is not in the window before, if there was one
pub fix_is : (I : Network) (e t : ℕ) → t < I.period → admits_anew I (effect I (Fix e t)) e ≡ not (agrees_with I.period (window_of I e) t)
fix_is I e t below =
    anew_is I e (Some (at_time t))
    ∙ elim (agrees_with I.period (window_of I e) t) as (λ b. agrees_with I.period (window_of I e) t ≡ b → list_any (agrees_anew I.period (window_of I e) (Some (at_time t))) (range_with_len 0 I.period) ≡ not b) [
      | true ↦ λ is. none_of (agrees_anew I.period (window_of I e) (Some (at_time t))) (range_with_len 0 I.period) (λ d. no_other I.period (window_of I e) t d below is)
      | false ↦ λ is. some_below (agrees_anew I.period (window_of I e) (Some (at_time t))) I.period t below (rw (held-at_time I.period t t below, eq-eqb t t refl, is) refl)
    ] refl

-- a fixed time that goes leaves another residue
pub unfix_time : (I : Network) (e t : ℕ) → 2 ≤ I.period → t < I.period → window_of I e ≡ Some (at_time t) → admits_anew I (effect I (Unfix e)) e ≡ true
unfix_time I e t long below fixed =
    anew_is I e None
    ∙ rw fixed
    (elim (cases_eq t 0) [
      | inl none ↦ some_below (agrees_anew I.period (Some (at_time t)) None) I.period 1 (omega (arith, long)) (rw (held-at_time I.period t 1 below, ne_eqb t 1 (λ same. omega (arith, none, same))) refl)
      | inr apart ↦ some_below (agrees_anew I.period (Some (at_time t)) None) I.period 0 (omega (arith, long)) (rw (held-at_time I.period t 0 below, ne_eqb t 0 apart) refl)
    ])

none_below : (test : ℕ → Bool) (rs : List ℕ) (n : ℕ) → All (λ r. r < n) rs → ((r : ℕ) → r < n → test r ≡ false) → list_any test rs ≡ false
none_below test [] n all each = refl
none_below test (r ∷ rs) n all each = rw (each r (All-head (λ s. s < n) r rs all)) (none_below test rs n (All-tail (λ s. s < n) r rs all) each)

-- a window of the whole period leaves none
pub unfix_whole : (I : Network) (e : ℕ) (w : Interval) → w.length ≡ I.period → window_of I e ≡ Some w → admits_anew I (effect I (Unfix e)) e ≡ false
unfix_whole I e w whole is =
    anew_is I e None
    ∙ rw is (none_below (agrees_anew I.period (Some w) None) (range_with_len 0 I.period) I.period (below_range 0 I.period I.period (omega arith)) (λ r below. rw (held-full I.period w r whole below) refl))
  where
    below_range : (a n m : ℕ) → a + n ≤ m → All (λ r. r < m) (range_with_len a n)
    below_range a zero m le = All-nil _
    below_range a (suc n) m le = All-cons (λ r. r < m) a (range_with_len (a + 1) n) (omega (arith, le)) (below_range (a + 1) n m (omega (arith, le)))
