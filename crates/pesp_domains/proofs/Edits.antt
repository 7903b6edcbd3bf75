-- Which events an edited instance has, and how an added event is taken away again.
use Rattle.std.proofs.Common.{◌≡◌, ℕ, ◌<◌, ltb→lt, T, subst, ◌≤◌, ◌==◌, Bool, true, false, not, cond, nat_lt, nat_le, if◌then◌else◌, List, [], ◌∷◌, ◌++◌, length, filter, find, Option, Some, None, option_map, is_some, Result, Ok, Err, IsTrue, refl, sym, ap, ◌∙◌, inl, inr, arith, All, OnOk, IfErr, replicate}
use Rattle.std.specs.Result.{is_ok, result_unwrap_or}
use Rattle.std.proofs.lemmas.Bool.{false≢true, cases_eq, cases_lt, eq-eqb, ne_eqb, lt-ltb, le-ltb}
use Rattle.std.proofs.lemmas.List.{length-replicate}
use Rattle.std.proofs.lemmas.List.Elements.{All-head, All-tail, filter-append}
use Rattle.pesp_base.specs.declared.activity.Activity.{Activity}
use Rattle.pesp_base.specs.declared.refusal.Refusal.{Refusal}
use Rattle.pesp_base.specs.declared.refusal.Refusal.TheVariants as no
use Rattle.pesp_base.specs.Limits.{max_events}
use Rattle.pesp_base.specs.Numbered.{change_in, put_in, take_out, with_number}
use Rattle.pesp_base.specs.Refusals.{unless_refused, when}
use Rattle.pesp_base.specs.Windows.{Interval, at_time}
use Rattle.pesp_instance.specs.declared.edit.Edit.{Edit}
use Rattle.pesp_instance.specs.declared.edit.Edit.TheVariants.{AddEvent, DropEvent, Fix, SetWindow, Unfix, AddActivity, DropActivity, SetSpan, SetWeight, SetEnds}
use Rattle.pesp_instance.specs.declared.event.Event.{Event}
use Rattle.pesp_instance.specs.Edited.{IsRefusal, edited, effect, refusals}
use Rattle.pesp_instance.specs.Network.{HasEnds, IsNetwork, Network, has_event, is_end_of, new_event}
use Rattle.pesp_instance.proofs.Numbers.{event_number as number}
use Rattle.pesp_instance.proofs.Rising.{Rises, Rises-from_increasing, filter_above-above, filter_below-above, length-change_in, length-take_out, with_number-change_in, with_number-put_in, with_number-take_out}
use Rattle.pesp_domains.specs.Rows.{AreRowsOf, Rows, SetsRow, row_at}

-- an accepted edit has its effect
pub accepted : {X E : Type 0} (refusals : List (Option E)) (x y : X) → unless_refused refusals x ≡ Ok y → y ≡ x
accepted [] x y e = sym (ap (λ r. result_unwrap_or r x) e)
accepted (None ∷ refusals) x y e = accepted refusals x y e
accepted (Some refusal ∷ refusals) x y e = absurd (false≢true (ap is_ok e))

pub effect_is : (I J : Network) (edit : Edit) → edited I edit ≡ Ok J → J ≡ effect I edit
effect_is I J edit e = accepted (refusals I edit) (effect I edit) J e

-- ---- which events there are

has_changed : (xs : List Event) (n e : ℕ) (window : Option Interval) → is_some (with_number number e (change_in number n (λ x. record x { window = window }) xs)) ≡ is_some (with_number number e xs)
has_changed xs n e window = rw (with_number-change_in number e n (λ x. record x { window = window }) (λ x. refl) xs) (still (with_number number e xs))
  where
    still : (o : Option Event) → is_some (option_map (λ x. if number x == n then record x { window = window } else x) o) ≡ is_some o
    still None = refl
    still (Some x) = refl

pub has_put : (xs : List Event) (v : Event) (e : ℕ) → is_some (with_number number e (put_in number v xs)) ≡ (if e == v.id then true else is_some (with_number number e xs))
has_put xs v e =
    rw (with_number-put_in number e v xs)
    (elim (cases_eq e v.id) [
      | inl same ↦ rw (eq-eqb v.id e (sym same), eq-eqb e v.id same) refl
      | inr apart ↦ rw (ne_eqb v.id e (λ same. apart (sym same)), ne_eqb e v.id apart) refl
    ])

pub has_out : (xs : List Event) (n e : ℕ) → is_some (with_number number e (take_out number n xs)) ≡ (if e == n then false else is_some (with_number number e xs))
has_out xs n e = rw (with_number-take_out number e n xs) (by (e == n))
  where
    by : (b : Bool) → is_some (cond (not b) (with_number number e xs) None) ≡ (if b then false else is_some (with_number number e xs))
    by true = refl
    by false = refl

-- ---- rows of an edited instance

choose_then : (b c : Bool) (n : ℕ) → (if b then Some n else if c then Some n else None) ≡ (if (if b then true else c) then Some n else None)
choose_then true c n = refl
choose_then false c n = refl

choose_none : (b c : Bool) (n : ℕ) → (if b then None else if c then Some n else None) ≡ (if (if b then false else c) then Some n else None)
choose_none true c n = refl
choose_none false c n = refl

length_if : (b : Bool) (row other : Option (List Bool)) → option_map length (if b then row else other) ≡ (if b then option_map length row else option_map length other)
length_if true row other = refl
length_if false row other = refl

pub rows_added : (I : Network) (n : ℕ) (before after : Rows) → AreRowsOf I before → SetsRow n (Some (replicate I.period true)) before after → AreRowsOf (effect I (AddEvent n)) after
rows_added I n before after rows sets e =
    let v : Event = new_event n in
    rw (sets e, length_if (e == n) (Some (replicate I.period true)) (row_at before e), length-replicate I.period true, rows e)
    (choose_then (e == n) (has_event I e) I.period ∙ ap (λ b. if b then Some I.period else None) (sym (has_put I.events v e)))

pub rows_dropped : (I : Network) (n : ℕ) (before after : Rows) → AreRowsOf I before → SetsRow n None before after → AreRowsOf (effect I (DropEvent n)) after
rows_dropped I n before after rows sets e =
    rw (sets e, length_if (e == n) None (row_at before e), rows e)
    (choose_none (e == n) (has_event I e) I.period ∙ ap (λ b. if b then Some I.period else None) (sym (has_out I.events n e)))

-- an edit that neither adds nor drops an event leaves the events and the period
abbrev pub KeepsEvents : Edit → Type 0
KeepsEvents edit = (I : Network) → (I.period ≡ (effect I edit).period) × ((e : ℕ) → has_event (effect I edit) e ≡ has_event I e)

pub keeps_fix : (n t : ℕ) → KeepsEvents (Fix n t)
keeps_fix n t I = (refl, λ e. has_changed I.events n e (Some (at_time t)))

pub keeps_window : (n first length : ℕ) → KeepsEvents (SetWindow n first length)
keeps_window n first length I = (refl, λ e. has_changed I.events n e (Some (record { first = first; length = length })))

pub keeps_unfix : (n : ℕ) → KeepsEvents (Unfix n)
keeps_unfix n I = (refl, λ e. has_changed I.events n e None)

pub rows_kept : (I : Network) (edit : Edit) (rows : Rows) → KeepsEvents edit → AreRowsOf I rows → AreRowsOf (effect I edit) rows
rows_kept I edit rows keeps are e =
    are e ∙ ap (λ b. if b then Some I.period else None) (sym ((keeps I).1 e)) ∙ ap (λ n. if has_event (effect I edit) e then Some n else None) (keeps I).0

-- ---- an added event is taken away again

-- the members of smaller numbers and those of greater ones are all, where there is none of the number
both_sides : (n : ℕ) (xs : List Event) → Rises number xs → with_number number n xs ≡ None → filter (λ x. nat_lt (number x) n) xs ++ filter (λ x. nat_lt n (number x)) xs ≡ xs
both_sides n [] rises none = refl
both_sides n (x ∷ xs) rises none =
    elim (cases_lt (number x) n) [
      | inl low ↦
          let rest : with_number number n xs ≡ None = rw (ne_eqb (number x) n (λ same. absurd (omega (arith, low, same)))) at none in
          rw (lt-ltb (number x) n low, le-ltb n (number x) (omega (arith, low))) (ap (λ list. x ∷ list) (both_sides n xs rises.1 rest))
      | inr high ↦
          let apart : n ≡ number x → ⊥ = λ same. false≢true (sym (ap is_some none) ∙ found n x xs same) in
          let above : n < number x = omega (arith, high, apart) in
          rw (le-ltb (number x) n (omega (arith, above)), lt-ltb n (number x) above, filter_below-above number n (number x) xs (omega (arith, above)) rises.0, filter_above-above number n (number x) xs (omega (arith, above)) rises.0) refl
    ]
  where
    found : (n : ℕ) (x : Event) (xs : List Event) → n ≡ number x → is_some (with_number number n (x ∷ xs)) ≡ true
    found n x xs same = rw (eq-eqb (number x) n (sym same)) refl

-- of other numbers than n all stay when those of n go
others_stay : (n : ℕ) (keep : Event → Bool) (xs : List Event) → ((x : Event) → keep x ≡ true → number x ≡ n → ⊥) → take_out number n (filter keep xs) ≡ filter keep xs
others_stay n keep [] apart = refl
others_stay n keep (x ∷ xs) apart =
    elim (keep x) as (λ b. keep x ≡ b → take_out number n (cond b (x ∷ filter keep xs) (filter keep xs)) ≡ cond b (x ∷ filter keep xs) (filter keep xs)) [
      | true ↦ λ is. rw (ne_eqb (number x) n (apart x is)) (ap (λ list. x ∷ list) (others_stay n keep xs apart))
      | false ↦ λ _. others_stay n keep xs apart
    ] refl

taken_out : (n : ℕ) (window : Option Interval) (xs : List Event) → Rises number xs → with_number number n xs ≡ None → take_out number n (put_in number (record { id = n; window = window }) xs) ≡ xs
taken_out n window xs rises none =
    let low : Event → Bool = λ x. nat_lt (number x) n in
    let high : Event → Bool = λ x. nat_lt n (number x) in
    filter-append (λ x. not (number x == n)) (filter low xs) (record { id = n; window = window } ∷ filter high xs)
    ∙ rw (
      eq-eqb n n refl,
      others_stay n low xs (λ x is same. let below : number x < n = ltb→lt (number x) n (subst T (sym is) tt) in omega (arith, below, same)),
      others_stay n high xs (λ x is same. let above : n < number x = ltb→lt n (number x) (subst T (sym is) tt) in omega (arith, above, same)),
    )
    (both_sides n xs rises none)

-- no activity has an end that is no event
no_activity_at : (events : List Event) (e : ℕ) (activities : List Activity) → All (HasEnds events) activities → with_number number e events ≡ None → find (is_end_of e) activities ≡ None
no_activity_at events e [] ends none = refl
no_activity_at events e (a ∷ activities) ends none =
    let here = All-head (HasEnds events) a activities ends in
    let from : (a.from == e) ≡ false = ne_eqb a.from e (missing a.from here.from) in
    let to : (a.to == e) ≡ false = ne_eqb a.to e (missing a.to here.to) in
    rw (from, to) (no_activity_at events e activities (All-tail (HasEnds events) a activities ends) none)
  where
    missing : (n : ℕ) → IsTrue (is_some (with_number number n events)) → n ≡ e → ⊥
    missing n is same = false≢true (sym (ap is_some none) ∙ ap (λ k. is_some (with_number number k events)) (sym same) ∙ is)

dropped_again : (I : Network) (e : ℕ) → IsNetwork I → with_number number e I.events ≡ None → edited (effect I (AddEvent e)) (DropEvent e) ≡ Ok I
dropped_again I e network none =
    let v : Event = new_event e in
    let there_is : has_event (effect I (AddEvent e)) e ≡ true = has_put I.events v e ∙ rw (eq-eqb e e refl) refl in
    rw (there_is, no_activity_at I.events e I.activities network.ends none)
    (ap (λ events. Ok (record I { events = events })) (taken_out e None I.events (Rises-from_increasing number I.events network.events_rise) none))

was_new : (I J : Network) (e : ℕ) → edited I (AddEvent e) ≡ Ok J → with_number number e I.events ≡ None
was_new I J e ok = by (with_number number e I.events) (no.EventExists e) (when (nat_le (max_events I.period) (length I.events)) no.TooManyEvents ∷ []) (effect I (AddEvent e)) ok
  where
    by : (o : Option Event) (refusal : Refusal) (rest : List (Option Refusal)) (x : Network) → unless_refused (when (is_some o) refusal ∷ rest) x ≡ Ok J → o ≡ None
    by None refusal rest x ok = refl
    by (Some event) refusal rest x ok = absurd (false≢true (ap is_ok ok))

-- what the drop of an added event leaves is what was there before, and it is not refused
pub undone : (I J K : Network) (e : ℕ) (answer : Result (Unit {0}) Refusal) → IsNetwork I → edited I (AddEvent e) ≡ Ok J
    → OnOk answer (edited J (DropEvent e) ≡ Ok K) → IfErr answer (IsRefusal J (DropEvent e)) → K ≡ I
undone I J K e answer network added ok err =
    let none = was_new I J e added in
    let back : edited J (DropEvent e) ≡ Ok I = rw (effect_is I J (AddEvent e) added) (dropped_again I e network none) in
    by answer back ok err
  where
    by : (answer : Result (Unit {0}) Refusal) → edited J (DropEvent e) ≡ Ok I → OnOk answer (edited J (DropEvent e) ≡ Ok K) → IfErr answer (IsRefusal J (DropEvent e)) → K ≡ I
    by (Ok done) back ok err = ap (λ r. result_unwrap_or r K) (sym ok ∙ back)
    by (Err refusal) back ok (inl refused) = absurd (false≢true (ap is_ok (sym refused ∙ back)))
    by (Err refusal) back ok (inr memory) = absurd (false≢true memory.1)

-- after an edit that neither adds nor drops an event the rows are still of the instance's events
pub rows_same : (I J : Network) (edit : Edit) (rows : Rows) → edited I edit ≡ Ok J → ((e : ℕ) → edit ≡ AddEvent e → ⊥) → ((e : ℕ) → edit ≡ DropEvent e → ⊥) → AreRowsOf I rows → AreRowsOf J rows
rows_same I J edit rows ok added dropped are = rw (effect_is I J edit ok) (by edit added dropped)
  where
    by : (edit : Edit) → ((e : ℕ) → edit ≡ AddEvent e → ⊥) → ((e : ℕ) → edit ≡ DropEvent e → ⊥) → AreRowsOf (effect I edit) rows
    by (AddEvent e) added dropped = absurd (added e refl)
    by (DropEvent e) added dropped = absurd (dropped e refl)
    by (Fix e t) added dropped = rows_kept I (Fix e t) rows (keeps_fix e t) are
    by (SetWindow e first length) added dropped = rows_kept I (SetWindow e first length) rows (keeps_window e first length) are
    by (Unfix e) added dropped = rows_kept I (Unfix e) rows (keeps_unfix e) are
    by (AddActivity a) added dropped = are
    by (DropActivity n) added dropped = are
    by (SetSpan n span) added dropped = are
    by (SetWeight n weight) added dropped = are
    by (SetEnds n from to) added dropped = are

-- an edit that adds no event leaves no more events than there were
pub few_left : (I J : Network) (edit : Edit) → edited I edit ≡ Ok J → ((e : ℕ) → edit ≡ AddEvent e → ⊥) → length J.events ≤ length I.events
few_left I J edit ok added = rw (effect_is I J edit ok) (by edit added)
  where
    changed : (n : ℕ) (change : Event → Event) → length (change_in number n change I.events) ≤ length I.events
    changed n change = rw (length-change_in number n change I.events) (omega arith)

    by : (edit : Edit) → ((e : ℕ) → edit ≡ AddEvent e → ⊥) → length (effect I edit).events ≤ length I.events
    by (AddEvent e) added = absurd (added e refl)
    by (DropEvent e) added = length-take_out number e I.events
    by (Fix e t) added = changed e (λ x. record x { window = Some (at_time t) })
    by (SetWindow e first length) added = changed e (λ x. record x { window = Some (record { first = first; length = length }) })
    by (Unfix e) added = changed e (λ x. record x { window = None })
    by (AddActivity a) added = omega arith
    by (DropActivity n) added = omega arith
    by (SetSpan n span) added = omega arith
    by (SetWeight n weight) added = omega arith
    by (SetEnds n from to) added = omega arith

pub drops_not_adds : (edit : Edit) (d : ℕ) → edit ≡ DropEvent d → (e : ℕ) → edit ≡ AddEvent e → ⊥
drops_not_adds edit d drops e adds = false≢true (ap is_drop (sym adds ∙ drops))
  where
    is_drop : Edit → Bool
    is_drop (AddEvent e) = false
    is_drop (DropEvent e) = true
    is_drop (Fix e t) = false
    is_drop (SetWindow e first length) = false
    is_drop (Unfix e) = false
    is_drop (AddActivity a) = false
    is_drop (DropActivity n) = false
    is_drop (SetSpan n span) = false
    is_drop (SetWeight n weight) = false
    is_drop (SetEnds n from to) = false
