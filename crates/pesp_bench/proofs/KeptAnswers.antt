-- Why a kept answer is still the optimum: no timetable becomes a member, and none gets cheaper.
use Rattle.std.proofs.Common.{◌≡◌, ℕ, ◌<◌, ◌≤◌, ◌==◌, ◌&&◌, Bool, true, false, not, cond, nat_lt, int_le, is_some, ℤ, pos, ◌+ℤ◌, ◌-ℤ◌, List, [], ◌∷◌, length, map, get_or, Option, Some, None, option_and_then, unwrap_or, Ok, IsTrue, refl, sym, ap, subst, ◌∙◌, inl, inr, arith, All, mul-le-mul_right}
use Rattle.std.specs.BTreeMap.{is_at}
use Rattle.std.specs.Map.{keys_of, values_of, lookup, remove_entry}
use Rattle.std.specs.Ordering.{int_eq, nat_cmp}
use Rattle.std.specs.Result.{is_ok}
use Rattle.std.proofs.lemmas.Bool.{cases_lt, eq-eqb, eqb-true, false≢true, lt-ltb, ne_eqb}
use Rattle.std.proofs.lemmas.Int.{ints}
use Rattle.std.proofs.lemmas.List.Elements.{All-cons, All-filter, All-head, All-tail}
use Rattle.pesp_base.specs.declared.activity.Activity.{Activity}
use Rattle.pesp_base.specs.declared.refusal.Refusal.{Refusal}
use Rattle.pesp_base.specs.Bounds.{Bounds}
use Rattle.pesp_base.specs.Numbered.{put_in, take_out, with_number}
use Rattle.pesp_base.specs.Refusals.{unless_refused, when}
use Rattle.pesp_base.specs.Tensions.{is_met, residue, slack_of, tension_of}
use Rattle.pesp_base.proofs.Laws.{residue_below}
use Rattle.pesp_base.proofs.ResidueLaws.{residue-residue_sub}
use Rattle.pesp_instance.specs.declared.edit.Edit.{Edit}
use Rattle.pesp_instance.specs.declared.edit.Edit.TheVariants.{AddEvent, DropEvent, Fix, SetWindow, Unfix, AddActivity, DropActivity, SetSpan, SetWeight, SetEnds}
use Rattle.pesp_instance.specs.declared.event.Event.{Event}
use Rattle.pesp_base.specs.Windows.{Interval, at_time}
use Rattle.pesp_instance.specs.Edited.{edited, effect, rewindowed}
use Rattle.pesp_instance.specs.Network.{HasEnds, IsNetwork, Network, activity_of, admits, agrees_with, window_of, has_event, new_event}
use Rattle.pesp_instance.proofs.Numbers.{activity_number as id_of, event_number as number}
use Rattle.pesp_instance.proofs.Rising.{All-found, Rises, Rises-from_increasing, Rises-put_in, take_out-above, with_number-change_in, take_out-put_in}
use Rattle.pesp_instance.proofs.Housed.{same_test}
use Rattle.pesp_domains.proofs.Edits.{effect_is}
use Rattle.pesp_search.specs.declared.answer.Answer.{Answer}
use Rattle.pesp_search.specs.declared.answer.Answer.TheVariants.{Optimal, Infeasible}
use Rattle.pesp_search.specs.Optima.{IsAnswer, IsMember, IsOptimum}
use Rattle.pesp_tension.specs.Answers.{agrees, cost_in, cost_of, meets, time_at}
use Rattle.pesp_tension.specs.Timetables.{Times, without_time}
use Rattle.pesp_bench.specs.Kept.{Keeps, cheapens, opens}
use Rattle.pesp_domains.specs.Loosening.{admits_anew, admits_more, is_looser}
use Rattle.pesp_bench.specs.Loosening.{is_lighter, is_moved}
use Rattle.pesp_base.proofs.Tests.{none_from}
use Rattle.pesp_bench.proofs.Changed.{All-before_change, none_below, numbers_stay, of_number, sum_by-change, sum_by-filter, then_old}

-- each member of the second instance is one of the first, which costs no more there
record Tightens (I J : Network) : Type 0 where
  pub members : (m : Times) → IsMember J m → IsMember I m
  pub costs : (m : Times) → IsMember J m → cost_of I m ≤ cost_of J m

-- an optimum that is still a member at its cost is still the optimum
optimum_stays : (I J : Network) (m : Times) (cost : ℕ) → Tightens I J → IsOptimum I m cost → IsMember J m → cost_of J m ≡ cost → IsOptimum J m cost
optimum_stays I J m cost t o member costs = record {
  member = member;
  costs = costs;
  least = λ n is. let l = o.least n (t.members n is) in let c = t.costs n is in omega (arith, l, c);
  first = λ n is before. let l = o.first n (t.members n is) before in let c = t.costs n is in omega (arith, l, c);
}

pub activities_rise : (I : Network) → IsNetwork I → Rises id_of I.activities
activities_rise I ok = Rises-from_increasing id_of I.activities ok.activities_rise

pub events_rise : (I : Network) → IsNetwork I → Rises number I.events
events_rise I ok = Rises-from_increasing number I.events ok.events_rise

-- a refusal whose condition does not hold
pub not_refused : {X : Type 0} (b : Bool) (refusal : Refusal) (rest : List (Option Refusal)) (x y : X) → unless_refused (when b refusal ∷ rest) x ≡ Ok y → b ≡ false
not_refused true refusal rest x y ok = absurd (false≢true (ap is_ok ok))
not_refused false refusal rest x y ok = refl

-- ---- one more activity

added_activity : (I J : Network) (a : Activity) → IsNetwork I → edited I (AddActivity a) ≡ Ok J → Tightens I (effect I (AddActivity a))
added_activity I J a ok is = record {
  members = λ m member. record {
    period = member.period;
    events = member.events;
    below = member.below;
    met = subst (All (λ b. IsTrue (meets m b))) before (All-filter (λ b. not (b.id == a.id)) (λ b. IsTrue (meets m b)) (put_in id_of a I.activities) member.met);
    window = member.window;
  };
  costs = λ m member. subst (λ list. cost_among m list ≤ cost_of (effect I (AddActivity a)) m) before (sum_by-filter (cost_in m) (λ b. not (b.id == a.id)) (put_in id_of a I.activities));
}
  where
    cost_among : Times → List Activity → ℕ
    cost_among m list = cost_of (record I { activities = list }) m

    before : take_out id_of a.id (put_in id_of a I.activities) ≡ I.activities
    before = take_out-put_in id_of a I.activities (activities_rise I ok) (none_from (activity_of I a.id) (not_refused (is_some (activity_of I a.id)) _ _ (effect I (AddActivity a)) J is))

-- ---- another weight

pub not_lighter : (old new : ℕ) → nat_lt new old ≡ false → old ≤ new
not_lighter old new is =
    elim (cases_lt new old) [
      | inl less ↦ absurd (false≢true (sym is ∙ lt-ltb new old less))
      | inr least ↦ least
    ]

weighted_members : (I : Network) (n weight : ℕ) (m : Times) → IsMember (effect I (SetWeight n weight)) m → IsMember I m
weighted_members I n weight m member = record {
  period = member.period;
  events = member.events;
  below = member.below;
  met = All-before_change id_of (λ a. IsTrue (meets m a)) n (λ a. record a { weight = weight }) I.activities (λ k d l same is. is) member.met;
  window = member.window;
}

weighted : (I : Network) (n weight : ℕ) → IsNetwork I → is_lighter I n weight ≡ false → Tightens I (effect I (SetWeight n weight))
weighted I n weight ok none = record {
  members = weighted_members I n weight;
  costs = λ m member. sum_by-change id_of (cost_in m) n (λ a. record a { weight = weight }) I.activities
      (λ k d l same. mul-le-mul_right (slack_at m (get_or I.activities k d)) (not_lighter (get_or I.activities k d).weight weight (of_number id_of (λ a. nat_lt weight a.weight) n I.activities (activities_rise I ok) none k d l same)));
}
  where
    slack_at : Times → Activity → ℕ
    slack_at m a = slack_of m.period a.span (time_at m a.from) (time_at m a.to)

-- ---- another span

-- what a span admits depends on how far the second residue is ahead of the first alone
ahead : (T : ℕ) (span : Bounds) (r s : ℕ) → 0 < T → is_met T span r s ≡ is_met T span 0 (residue T (pos s -ℤ pos r))
ahead T span r s some = ap (λ k. int_le (span.lower +ℤ pos k) span.upper) (sym same)
  where
    from_zero : (x l : ℤ) → x -ℤ pos 0 -ℤ l ≡ x -ℤ l
    from_zero x l = omega (arith, ints)

    same : slack_of T span 0 (residue T (pos s -ℤ pos r)) ≡ slack_of T span r s
    same = ap (residue T) (from_zero (pos (residue T (pos s -ℤ pos r))) span.lower) ∙ residue-residue_sub T (pos s -ℤ pos r) span.lower some

not_looser : (T : ℕ) (old new : Bounds) (r s : ℕ) → 0 < T → admits_more T old new ≡ false → is_met T new r s ≡ true → is_met T old r s ≡ true
not_looser T old new r s some none is =
    let d : ℕ = residue T (pos s -ℤ pos r) in
    ahead T old r s some
    ∙ then_old (is_met T new 0 d) (is_met T old 0 d) (none_below (λ k. is_met T new 0 k && not (is_met T old 0 k)) T d (residue_below T (pos s -ℤ pos r) some) none) (sym (ahead T new r s some) ∙ is)

spanned_members : (I : Network) (n : ℕ) (span : Bounds) (m : Times)
    → All (λ a. a.id ≡ n → is_met m.period span (time_at m a.from) (time_at m a.to) ≡ true → is_met m.period a.span (time_at m a.from) (time_at m a.to) ≡ true) I.activities
    → IsMember (effect I (SetSpan n span)) m → IsMember I m
spanned_members I n span m each member = record {
  period = member.period;
  events = member.events;
  below = member.below;
  met = All-before_change id_of (λ a. IsTrue (meets m a)) n (λ a. record a { span = span }) I.activities each member.met;
  window = member.window;
}

looser_members : (I : Network) (n : ℕ) (span : Bounds) (m : Times) → IsNetwork I → is_looser I n span ≡ false → IsMember (effect I (SetSpan n span)) m → IsMember I m
looser_members I n span m ok none member =
    spanned_members I n span m
    (λ k d l same is.
    let a : Activity = get_or I.activities k d in
    let kept : admits_more m.period a.span span ≡ false = rw member.period (of_number id_of (λ b. admits_more I.period b.span span) n I.activities (activities_rise I ok) none k d l same) in
    not_looser m.period a.span span (time_at m a.from) (time_at m a.to) (let low = ok.period_low in let p = member.period in omega (arith, low, p)) kept is)
    member

same_lower : (x y : ℤ) → int_eq x y ≡ true → x ≡ y
same_lower x y is = grind (arith, ints)

le_through : (a b c : ℤ) → int_le a b ≡ true → int_le b c ≡ true → int_le a c ≡ true
le_through a b c g h = grind (arith, ints)

both : (b c : Bool) → not (b && c) ≡ false → (b ≡ true) × (c ≡ true)
both true true is = (refl, refl)
both true false is = absurd (false≢true (sym is))
both false c is = absurd (false≢true (sym is))

-- the lower bound stays, and the upper one is no larger
pub kept_bounds : (I : Network) (n : ℕ) (span : Bounds) → IsNetwork I → is_moved I n span ≡ false → (k : ℕ) (d : Activity) → k < length I.activities → (get_or I.activities k d).id ≡ n
    → (span.lower ≡ (get_or I.activities k d).span.lower) × (int_le span.upper (get_or I.activities k d).span.upper ≡ true)
kept_bounds I n span ok none k d l same =
    let a : Activity = get_or I.activities k d in
    let w = both (int_eq span.lower a.span.lower) (int_le span.upper a.span.upper) (of_number id_of (λ b. not (int_eq span.lower b.span.lower && int_le span.upper b.span.upper)) n I.activities (activities_rise I ok) none k d l same) in
    (same_lower span.lower a.span.lower w.0, w.1)

moved : (I : Network) (n : ℕ) (span : Bounds) → IsNetwork I → is_moved I n span ≡ false → Tightens I (effect I (SetSpan n span))
moved I n span ok none = record {
  members = λ m member. spanned_members I n span m
      (λ k d l same is.
      let a : Activity = get_or I.activities k d in
      let w = kept_bounds I n span ok none k d l same in
      rw (← w.0) (le_through (tension_of m.period span (time_at m a.from) (time_at m a.to)) span.upper a.span.upper is w.1))
      member;
  costs = λ m member. sum_by-change id_of (cost_in m) n (λ a. record a { span = span }) I.activities
      (λ k d l same. let w = kept_bounds I n span ok none k d l same in rw w.0 (omega arith));
}

-- ---- another window, or none

-- each time is below the period
time_below : (T : ℕ) (es : List (ℕ × ℕ)) (e : ℕ) → 0 < T → All (λ t. t < T) (values_of es) → unwrap_or (lookup (is_at (nat_cmp e)) es) 0 < T
time_below T [] e some below = some
time_below T (x ∷ es) e some below =
    elim (is_at (nat_cmp e) x.0) as (λ b. unwrap_or (cond b (Some x.1) (lookup (is_at (nat_cmp e)) es)) 0 < T) [
      | true ↦ All-head (λ t. t < T) x.1 (values_of es) below
      | false ↦ time_below T es e some (All-tail (λ t. t < T) x.1 (values_of es) below)
    ]

abbrev pub rewindow : Option Interval → Event → Event
rewindow window x = record x { window = window }

-- the windows before and after
fixed_before : (I : Network) (e k : ℕ) (d : Event) → IsNetwork I → k < length I.events → (get_or I.events k d).id ≡ e → with_number number e I.events ≡ Some (get_or I.events k d)
fixed_before I e k d ok l same = ap (λ i. with_number number i I.events) (sym same) ∙ All-found number I.events (events_rise I ok) k d l

fixed_after : (I : Network) (e k : ℕ) (d : Event) (window : Option Interval) → IsNetwork I → k < length I.events → (get_or I.events k d).id ≡ e → window_of (rewindowed I e window) e ≡ window
fixed_after I e k d window ok l same =
    rw (with_number-change_in number e e (rewindow window) (λ x. refl) I.events, fixed_before I e k d ok l same, eq-eqb (get_or I.events k d).id e same) refl

rewindowed_members : (I : Network) (e : ℕ) (window : Option Interval) (m : Times) → IsNetwork I → admits_anew I (rewindowed I e window) e ≡ false → IsMember (rewindowed I e window) m → IsMember I m
rewindowed_members I e window m ok none member = record {
  period = member.period;
  events = member.events ∙ numbers_stay number e (rewindow window) (λ x. refl) I.events;
  below = member.below;
  met = member.met;
  window = All-before_change number (λ x. IsTrue (agrees m x)) e (rewindow window) I.events each member.window;
}
  where
    each : All (λ x. x.id ≡ e → IsTrue (agrees_with m.period window (time_at m x.id)) → IsTrue (agrees_with m.period x.window (time_at m x.id))) I.events
    each k d l same is =
        let x : Event = get_or I.events k d in
        let t : ℕ = time_at m x.id in
        let old : window_of I e ≡ x.window = ap (option_and_then (λ y. y.window)) (fixed_before I e k d ok l same) in
        let new : window_of (rewindowed I e window) e ≡ window = fixed_after I e k d window ok l same in
        let below : t < I.period = time_below I.period m.entries x.id (let low = ok.period_low in omega (arith, low)) member.below in
        let now : agrees_with I.period window t ≡ true = subst (λ p. agrees_with p window t ≡ true) member.period is in
        let before : agrees_with I.period x.window t ≡ true =
        sym (ap (λ o. agrees_with I.period o t) old)
        ∙ then_old (admits (rewindowed I e window) e t) (admits I e t) (none_below (λ r. admits (rewindowed I e window) e r && not (admits I e r)) I.period t below none) (ap (λ o. agrees_with I.period o t) new ∙ now) in
        subst (λ p. agrees_with p x.window t ≡ true) (sym member.period) before

rewindowed_event : (I : Network) (e : ℕ) (window : Option Interval) → IsNetwork I → admits_anew I (rewindowed I e window) e ≡ false → Tightens I (rewindowed I e window)
rewindowed_event I e window ok none = record {
  members = λ m member. rewindowed_members I e window m ok none member;
  costs = λ m member. omega arith;
}

-- ---- one more event

-- the times of the other events
pub other_time : (e q : ℕ) (es : List (ℕ × ℕ)) → (q ≡ e → ⊥) → lookup (is_at (nat_cmp q)) (remove_entry (is_at (nat_cmp e)) es) ≡ lookup (is_at (nat_cmp q)) es
other_time e q [] apart = refl
other_time e q (x ∷ es) apart =
    rw (same_test e x.0, same_test q x.0)
    (elim (x.0 == e) as (λ b. (x.0 == e) ≡ b → lookup (is_at (nat_cmp q)) (cond b es (x ∷ remove_entry (is_at (nat_cmp e)) es)) ≡ cond (x.0 == q) (Some x.1) (lookup (is_at (nat_cmp q)) es)) [
      | true ↦ λ same. rw (ne_eqb x.0 q (λ at. apart (sym at ∙ eqb-true x.0 e same))) refl
      | false ↦ λ _. rw (same_test q x.0) (ap (cond (x.0 == q) (Some x.1)) (other_time e q es apart))
    ] refl)

-- the events of the other times
other_events : (e : ℕ) (es : List (ℕ × ℕ)) (xs : List Event) → Rises number xs → keys_of es ≡ map number xs → keys_of (remove_entry (is_at (nat_cmp e)) es) ≡ map number (take_out number e xs)
other_events e [] [] rises keys = refl
other_events e [] (x ∷ xs) rises keys = absurd (cc)
other_events e (p ∷ es) [] rises keys = absurd (cc)
other_events e (p ∷ es) (x ∷ xs) rises keys =
    let head : p.0 ≡ x.id = cc in
    let tail : keys_of es ≡ map number xs = cc in
    rw (same_test e p.0)
    (elim (p.0 == e) as (λ b. (p.0 == e) ≡ b → keys_of (cond b es (p ∷ remove_entry (is_at (nat_cmp e)) es)) ≡ map number (take_out number e (x ∷ xs))) [
      | true ↦ λ same.
          let here : (x.id == e) ≡ true = ap (λ k. k == e) (sym head) ∙ same in
          rw here (tail ∙ ap (map number) (sym (take_out-above number e x.id xs (let at = eqb-true p.0 e same in omega (arith, at, head)) rises.0)))
      | false ↦ λ other.
          let apart : (x.id == e) ≡ false = ap (λ k. k == e) (sym head) ∙ other in
          rw apart (ap (λ k. k ∷ keys_of (remove_entry (is_at (nat_cmp e)) es)) head ∙ ap (λ ks. x.id ∷ ks) (other_events e es xs rises.1 tail))
    ] refl)

other_values : (T e : ℕ) (es : List (ℕ × ℕ)) → All (λ t. t < T) (values_of es) → All (λ t. t < T) (values_of (remove_entry (is_at (nat_cmp e)) es))
other_values T e [] below = below
other_values T e (x ∷ es) below =
    let rest = All-tail (λ t. t < T) x.1 (values_of es) below in
    elim (is_at (nat_cmp e) x.0) as (λ b. All (λ t. t < T) (values_of (cond b es (x ∷ remove_entry (is_at (nat_cmp e)) es)))) [
      | true ↦ rest
      | false ↦ All-cons (λ t. t < T) x.1 (values_of (remove_entry (is_at (nat_cmp e)) es)) (All-head (λ t. t < T) x.1 (values_of es) below) (other_values T e es rest)
    ]

-- a member loses its time at the added event, and is one of the instance before
added_event : (I J : Network) (e : ℕ) (m : Times) → IsNetwork I → edited I (AddEvent e) ≡ Ok J → IsMember (effect I (AddEvent e)) m → IsMember I (without_time m e)
added_event I J e m ok is member = record {
  period = member.period;
  events = other_events e m.entries (put_in number v I.events) (Rises-put_in number v I.events (events_rise I ok)) member.events ∙ ap (map number) before;
  below = other_values I.period e m.entries member.below;
  met = λ k d l.
      let a : Activity = get_or I.activities k d in
      let ends : HasEnds I.events a = ok.ends k d l in
      same_times a (other a.from ends.from) (other a.to ends.to) (member.met k d l);
  window = λ k d l.
      let x : Event = get_or I.events k d in
      let there : with_number number x.id I.events ≡ Some x = All-found number I.events (events_rise I ok) k d l in
      subst (λ o. IsTrue (agrees_with m.period x.window (unwrap_or o 0))) (sym (other_time e x.id m.entries (other x.id (ap is_some there))))
      (subst (All (λ y. IsTrue (agrees m y))) before (All-filter (λ y. not (y.id == e)) (λ y. IsTrue (agrees m y)) (put_in number v I.events) member.window) k d l);
}
  where
    v : Event
    v = new_event e

    absent : with_number number e I.events ≡ None
    absent = none_from (with_number number e I.events) (not_refused (has_event I e) _ _ (effect I (AddEvent e)) J is)

    before : take_out number e (put_in number v I.events) ≡ I.events
    before = take_out-put_in number v I.events (events_rise I ok) absent

    other : (q : ℕ) → IsTrue (is_some (with_number number q I.events)) → q ≡ e → ⊥
    other q has same = false≢true (sym (ap is_some absent) ∙ ap (λ i. is_some (with_number number i I.events)) (sym same) ∙ has)

    same_times : (a : Activity) → (a.from ≡ e → ⊥) → (a.to ≡ e → ⊥) → IsTrue (meets m a) → IsTrue (meets (without_time m e) a)
    same_times a from to is =
        let f : time_at (without_time m e) a.from ≡ time_at m a.from = ap (λ o. unwrap_or o 0) (other_time e a.from m.entries from) in
        let t : time_at (without_time m e) a.to ≡ time_at m a.to = ap (λ o. unwrap_or o 0) (other_time e a.to m.entries to) in
        rw (f, t) is

-- ---- all edits

-- an edit that cheapens nothing tightens
tightens : (I J : Network) (edit : Edit) → IsNetwork I → edited I edit ≡ Ok J → cheapens I edit ≡ false → Tightens I (effect I edit)
tightens I J (AddEvent e) ok is none = absurd (false≢true (sym none))
tightens I J (DropEvent e) ok is none = absurd (false≢true (sym none))
tightens I J (Fix e t) ok is none = rewindowed_event I e (Some (at_time t)) ok none
tightens I J (SetWindow e first length) ok is none = rewindowed_event I e (Some (record { first = first; length = length })) ok none
tightens I J (Unfix e) ok is none = rewindowed_event I e None ok none
tightens I J (AddActivity a) ok is none = added_activity I J a ok is
tightens I J (DropActivity n) ok is none = absurd (false≢true (sym none))
tightens I J (SetSpan n span) ok is none = moved I n span ok none
tightens I J (SetWeight n weight) ok is none = weighted I n weight ok none
tightens I J (SetEnds n from to) ok is none = absurd (false≢true (sym none))

-- a member after an edit that opens nothing shows one before
had_one : (I J : Network) (edit : Edit) (m : Times) → IsNetwork I → edited I edit ≡ Ok J → opens I edit ≡ false → IsMember (effect I edit) m → (n : Times) × IsMember I n
had_one I J (AddEvent e) m ok is none member = (without_time m e, added_event I J e m ok is member)
had_one I J (DropEvent e) m ok is none member = absurd (false≢true (sym none))
had_one I J (Fix e t) m ok is none member = (m, rewindowed_members I e (Some (at_time t)) m ok none member)
had_one I J (SetWindow e first length) m ok is none member = (m, rewindowed_members I e (Some (record { first = first; length = length })) m ok none member)
had_one I J (Unfix e) m ok is none member = (m, rewindowed_members I e None m ok none member)
had_one I J (AddActivity a) m ok is none member = (m, (added_activity I J a ok is).members m member)
had_one I J (DropActivity n) m ok is none member = absurd (false≢true (sym none))
had_one I J (SetSpan n span) m ok is none member = (m, looser_members I n span m ok none member)
had_one I J (SetWeight n weight) m ok is none member = (m, weighted_members I n weight m member)
had_one I J (SetEnds n from to) m ok is none member = absurd (false≢true (sym none))

-- a kept answer is the edited instance's
pub kept_answer : (I J : Network) (edit : Edit) (answer : Answer) → IsNetwork I → edited I edit ≡ Ok J → Keeps I edit answer → IsAnswer I answer → IsAnswer J answer
kept_answer I J edit Infeasible ok is keeps answer =
    rw (effect_is I J edit is) (λ m member. let w = had_one I J edit m ok is keeps.nothing_new member in answer w.0 w.1)
kept_answer I J edit (Optimal cost m) ok is keeps answer =
    rw (effect_is I J edit is) (optimum_stays I (effect I edit) m cost (tightens I J edit ok is keeps.nothing_new) answer keeps.stays.0 keeps.stays.1)
