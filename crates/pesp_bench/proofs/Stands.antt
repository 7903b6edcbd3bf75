-- Whether an optimum's timetable stays is told by what was edited alone: an activity's test and its share of the cost, or the time of an event.
use Rattle.std.proofs.Common.{◌≡◌, ℕ, ◌+◌, ◌*◌, ◌≤◌, ◌==◌, ◌||◌, ◌<◌, ◌↔◌, Bool, true, false, not, nat_lt, nat_le, is_some, is_none, IfSome, List, [], ◌∷◌, inl, inr, length, get_or, Option, Some, None, unwrap_or, Ok, IsTrue, refl, sym, ap, subst, ◌∙◌, arith, All, mul-le-mul_right}
use Rattle.std.specs.Result.{is_ok}
use Rattle.std.proofs.lemmas.Bool.{cases_Bool, eq-eqb, eqb-true, false≢true, or_parts, not-true, not_from_false}
use Rattle.pesp_base.specs.declared.activity.Activity.{Activity}
use Rattle.pesp_base.specs.declared.refusal.Refusal.{Refusal}
use Rattle.pesp_base.specs.declared.refusal.Refusal.TheVariants as no
use Rattle.pesp_base.specs.Bounds.{Bounds}
use Rattle.pesp_base.specs.Limits.{max_activities}
use Rattle.pesp_base.specs.Numbered.{with_number}
use Rattle.pesp_base.specs.Refusals.{unless_refused, when}
use Rattle.pesp_base.specs.Tensions.{slack_of}
use Rattle.pesp_base.specs.Windows.{Interval, IsWindow, at_time, is_held}
use Rattle.pesp_instance.specs.declared.edit.Edit.TheVariants.{Fix, SetWindow, Unfix, AddActivity, SetSpan, SetWeight}
use Rattle.pesp_instance.specs.declared.event.Event.{Event}
use Rattle.pesp_instance.specs.Edited.{edited, effect, rewindowed}
use Rattle.pesp_instance.specs.Network.{IsNetwork, Network, activity_of, agrees_with, has_event}
use Rattle.pesp_instance.proofs.Numbers.{activity_number as id_of, event_number as number}
use Rattle.pesp_instance.proofs.Rising.{IfSome-with_number, number-with_number}
use Rattle.pesp_search.specs.Optima.{IsMember, IsOptimum}
use Rattle.pesp_search.proofs.Costed.{none_missing}
use Rattle.pesp_tension.specs.Answers.{IsTimed, agrees, cost_in, cost_of, meets, time_at}
use Rattle.pesp_tension.specs.Timetables.{Times, time_of}
use Rattle.pesp_tension.proofs.Timed.{ends_timed, found_timed}
use Rattle.pesp_bench.specs.Kept.{IsKeptBy, Keeps, Stays, TellsStay, cheapens, opens}
use Rattle.pesp_search.specs.declared.answer.Answer.{Answer}
use Rattle.pesp_search.specs.declared.answer.Answer.TheVariants.{Optimal, Infeasible}
use Rattle.pesp_instance.specs.declared.edit.Edit.{Edit}
use Rattle.pesp_base.proofs.Tests.{none_from}
use Rattle.pesp_bench.proofs.Changed.{All-after_change, All-by_number, All-of_change, All-of_put_in, All-put_in, numbers_stay, of_All-by_number, of_number, share-stays, sum_by-change_same, sum_by-put_in}
use Rattle.pesp_bench.proofs.KeptAnswers.{activities_rise, kept_bounds, not_lighter, not_refused, rewindow}

-- a refusal whose condition holds is answered
refused_so : {X : Type 0} (b : Bool) (refusal : Refusal) (rest : List (Option Refusal)) (x y : X) → b ≡ true → unless_refused (when b refusal ∷ rest) x ≡ Ok y → ⊥
refused_so b refusal rest x y is ok = false≢true (sym (not_refused b refusal rest x y ok) ∙ is)

-- the refusals after one whose condition does not hold
pub rest_of : {X : Type 0} (b : Bool) (refusal : Refusal) (rest : List (Option Refusal)) (x y : X) → unless_refused (when b refusal ∷ rest) x ≡ Ok y → unless_refused rest x ≡ Ok y
rest_of true refusal rest x y ok = absurd (false≢true (ap is_ok ok))
rest_of false refusal rest x y ok = ok

pub there_is : (b : Bool) → not b ≡ false → b ≡ true
there_is true is = refl
there_is false is = absurd (false≢true (sym is))

-- a member has times at both ends of each activity
pub member_timed_at : (I : Network) (m : Times) (n : ℕ) (x : Activity) → IsNetwork I → IsMember I m → activity_of I n ≡ Some x → IsTimed m x
member_timed_at I m n x ok member found = IfSome-with_number id_of (IsTimed m) n I.activities x (ends_timed I m ok (none_missing I m member.events)) found

-- ---- an activity more

pub added_tells : (I : Network) (a : Activity) (m : Times) (b : Bool) → (b ≡ true → (meets m a ≡ true) × (cost_in m a ≡ 0)) → (b ≡ false → IsTimed m a → meets m a ≡ true → cost_in m a ≡ 0 → ⊥) → TellsStay I (AddActivity a) m b
added_tells I a m b told untold K cost ok is none member costs = (
  λ now. let w = told now in stays w.0 w.1,
  λ stay. elim (cases_Bool b) [
    | inl now ↦ now
    | inr out ↦ absurd (untold out timed (All-of_put_in id_of (λ c. IsTrue (meets m c)) a I.activities stay.0.met) (let all = stay.1 in omega (arith, all, sum, costs)))
  ],
)
  where
    absent : with_number id_of a.id I.activities ≡ None
    absent = none_from (activity_of I a.id) (not_refused (is_some (activity_of I a.id)) _ _ (effect I (AddActivity a)) K is)

    sum : cost_of (effect I (AddActivity a)) m ≡ cost_of I m + cost_in m a
    sum = sum_by-put_in id_of (cost_in m) a I.activities (activities_rise I ok) absent

    after_number : unless_refused (when (not (has_event I a.from)) (no.NoEvent a.from) ∷ when (not (has_event I a.to)) (no.NoEvent a.to) ∷ when (nat_le (max_activities I.period) (length I.activities)) no.TooManyActivities ∷ []) (effect I (AddActivity a)) ≡ Ok K
    after_number = rest_of (is_some (activity_of I a.id)) _ _ (effect I (AddActivity a)) K is

    timed : IsTimed m a
    timed =
        let missing = none_missing I m member.events in
        record {
          from = found_timed m I.events a.from missing (there_is (has_event I a.from) (not_refused (not (has_event I a.from)) _ _ (effect I (AddActivity a)) K after_number));
          to = found_timed m I.events a.to missing (there_is (has_event I a.to) (not_refused (not (has_event I a.to)) _ _ (effect I (AddActivity a)) K (rest_of (not (has_event I a.from)) _ _ (effect I (AddActivity a)) K after_number)));
        }

    stays : meets m a ≡ true → cost_in m a ≡ 0 → IsMember (effect I (AddActivity a)) m × (cost_of (effect I (AddActivity a)) m ≡ cost)
    stays met free = (
      record { period = member.period; events = member.events; below = member.below; met = All-put_in id_of (λ c. IsTrue (meets m c)) a I.activities member.met met; window = member.window },
      omega (arith, sum, free, costs),
    )

-- ---- another weight

module _ (I : Network) (n weight : ℕ) (m : Times) (x : Activity) (found : activity_of I n ≡ Some x) where
  abbrev heavier : Activity → Activity
  heavier a = record a { weight = weight }

  pub weighted_tells : (b : Bool) → b ≡ (cost_in m (record x { weight = weight }) == cost_in m x) → TellsStay I (SetWeight n weight) m b
  weighted_tells b told K cost ok is none member costs = (
    λ now. (
      record { period = member.period; events = member.events; below = member.below; met = All-after_change id_of (λ a. IsTrue (meets m a)) n heavier I.activities member.met (λ k d l same. member.met k d l); window = member.window },
      sum_by-change_same id_of (cost_in m) n heavier I.activities (All-by_number id_of (λ a. cost_in m (heavier a) ≡ cost_in m a) n I.activities x (activities_rise I ok) found (eqb-true (cost_in m (heavier x)) (cost_in m x) (sym told ∙ now))) ∙ costs,
    ),
    λ stay.
        let same : cost_of (effect I (SetWeight n weight)) m ≡ cost_of I m = stay.1 ∙ sym costs in
        let shares = share-stays id_of (cost_in m) n heavier I.activities rising same in
        told ∙ eq-eqb (cost_in m (heavier x)) (cost_in m x) (of_All-by_number id_of (λ a. cost_in m (heavier a) ≡ cost_in m a) n I.activities x shares found),
  )
    where
      rising : All (λ a. a.id ≡ n → cost_in m a ≤ cost_in m (heavier a)) I.activities
      rising = λ k d l same. mul-le-mul_right (slack_of m.period (get_or I.activities k d).span (time_at m (get_or I.activities k d).from) (time_at m (get_or I.activities k d).to))
          (not_lighter (get_or I.activities k d).weight weight (of_number id_of (λ a. nat_lt weight a.weight) n I.activities (activities_rise I ok) none k d l same))

-- ---- another span

module _ (I : Network) (n : ℕ) (span : Bounds) (m : Times) (x : Activity) (found : activity_of I n ≡ Some x) where
  abbrev spanned : Activity → Activity
  spanned a = record a { span = span }

  pub spanned_tells : (b : Bool) → b ≡ meets m (record x { span = span }) → TellsStay I (SetSpan n span) m b
  spanned_tells b told K cost ok is none member costs = (
    λ now. (
      record {
        period = member.period;
        events = member.events;
        below = member.below;
        met = All-after_change id_of (λ a. IsTrue (meets m a)) n spanned I.activities member.met (All-by_number id_of (λ a. IsTrue (meets m (spanned a))) n I.activities x (activities_rise I ok) found (sym told ∙ now));
        window = member.window;
      },
      sum_by-change_same id_of (cost_in m) n spanned I.activities
          (λ k d l same. ap (λ z. (get_or I.activities k d).weight * slack_of m.period (record { lower = z; upper = span.upper }) (time_at m (get_or I.activities k d).from) (time_at m (get_or I.activities k d).to)) (kept_bounds I n span ok none k d l same).0)
          ∙ costs,
    ),
    λ stay. told ∙ of_All-by_number id_of (λ a. IsTrue (meets m (spanned a))) n I.activities x (All-of_change id_of (λ a. IsTrue (meets m a)) n spanned I.activities stay.0.met) found,
  )

-- there is no such activity, and the edit is refused
pub no_span_tells : (I : Network) (n : ℕ) (span : Bounds) (m : Times) (b : Bool) → activity_of I n ≡ None → TellsStay I (SetSpan n span) m b
no_span_tells I n span m b none K cost ok is nothing member costs = absurd (refused_so (is_none (activity_of I n)) (no.NoActivity n) _ (effect I (SetSpan n span)) K (ap is_none none) is)

pub no_weight_tells : (I : Network) (n weight : ℕ) (m : Times) (b : Bool) → activity_of I n ≡ None → TellsStay I (SetWeight n weight) m b
no_weight_tells I n weight m b none K cost ok is nothing member costs = absurd (refused_so (is_none (activity_of I n)) (no.NoActivity n) _ (effect I (SetWeight n weight)) K (ap is_none none) is)

-- ---- another window, or none

-- a member stays one where its time agrees
rewindowed_member : (I : Network) (e : ℕ) (window : Option Interval) (m : Times) → IsMember I m → agrees_with m.period window (time_at m e) ≡ true → IsMember (rewindowed I e window) m
rewindowed_member I e window m member agreed = record {
  period = member.period;
  events = member.events ∙ sym (numbers_stay number e (rewindow window) (λ x. refl) I.events);
  below = member.below;
  met = member.met;
  window = All-after_change number (λ x. IsTrue (agrees m x)) e (rewindow window) I.events member.window (λ k d l same. subst (λ i. agrees_with m.period window (time_at m i) ≡ true) (sym same) agreed);
}

pub unfixed_tells : (I : Network) (e : ℕ) (m : Times) → TellsStay I (Unfix e) m true
unfixed_tells I e m K cost ok is none member costs = (λ _. (rewindowed_member I e None m member refl, costs), λ _. refl)

second_passes : {X : Type 0} (a b : Bool) (first second : Refusal) (rest : List (Option Refusal)) (x y : X) → unless_refused (when a first ∷ when b second ∷ rest) x ≡ Ok y → b ≡ false
second_passes a b first second rest x y ok = not_refused b second rest x y (rest_of a first (when b second ∷ rest) x y ok)

third_passes : {X : Type 0} (a b c : Bool) (first second third : Refusal) (x y : X) → unless_refused (when a first ∷ when b second ∷ when c third ∷ []) x ≡ Ok y → c ≡ false
third_passes a b c first second third x y ok = second_passes b c second third [] x y (rest_of a first (when b second ∷ when c third ∷ []) x y ok)

below_from : (T t : ℕ) → nat_le T t ≡ false → t < T
below_from T t is = grind (arith, is)

length_from : (T n : ℕ) → (n == 0 || nat_lt T n) ≡ false → (1 ≤ n) × (n ≤ T)
length_from T n is =
    let parts = or_parts (n == 0) (nat_lt T n) is in
    (grind (arith, parts.0), grind (arith, parts.1))

-- a timetable stays a member where its time at the event is in the window, and only there
module _ (I : Network) (e : ℕ) (w : Interval) (m : Times) (b : Bool) (cost : ℕ) (has : IsTrue (has_event I e)) (member : IsMember I m) (costs : cost_of I m ≡ cost) (within : IsWindow I.period w)
    (told : (t : ℕ) → Some t ≡ time_of m e → IsWindow I.period w → b ≡ is_held I.period w t) where
  timed : IsTrue (is_some (time_of m e))
  timed = found_timed m I.events e (none_missing I m member.events) has

  told_so : b ≡ is_held I.period w (time_at m e)
  told_so = by (time_of m e) refl timed
    where
      by : (o : Option ℕ) → o ≡ time_of m e → IsTrue (is_some o) → b ≡ is_held I.period w (unwrap_or (time_of m e) 0)
      by None is some = absurd (false≢true some)
      by (Some t) is some = told t is within ∙ ap (λ o. is_held I.period w (unwrap_or o 0)) is

  agreed : IsMember (rewindowed I e (Some w)) m → agrees_with m.period (Some w) (time_at m e) ≡ true
  agreed new = there (some_of (with_number number e I.events) has)
    where
      some_of : (o : Option Event) → IsTrue (is_some o) → (x : Event) × (o ≡ Some x)
      some_of None some = absurd (false≢true some)
      some_of (Some x) some = (x, refl)

      there : (x : Event) × (with_number number e I.events ≡ Some x) → agrees_with m.period (Some w) (time_at m e) ≡ true
      there v =
          subst (λ i. agrees_with m.period (Some w) (time_at m i) ≡ true) (number-with_number number e I.events v.0 v.1)
          (of_All-by_number number (λ x. agrees_with m.period (Some w) (time_at m x.id) ≡ true) e I.events v.0 (All-of_change number (λ x. IsTrue (agrees m x)) e (rewindow (Some w)) I.events new.window) v.1)

  window_tells : IsTrue b ↔ Stays (rewindowed I e (Some w)) (Optimal cost m)
  window_tells = (
    λ now. (rewindowed_member I e (Some w) m member (subst (λ p. is_held p w (time_at m e) ≡ true) (sym member.period) (sym told_so ∙ now)), costs),
    λ stay. told_so ∙ subst (λ p. is_held p w (time_at m e) ≡ true) member.period (agreed stay.0),
  )

-- by the time that the event has
pub fixed_told : (I : Network) (e t : ℕ) (m : Times) (b : Bool) → ((s : ℕ) → Some s ≡ time_of m e → IsWindow I.period (at_time t) → b ≡ is_held I.period (at_time t) s) → TellsStay I (Fix e t) m b
fixed_told I e t m b told K cost ok is none member costs =
    let new = effect I (Fix e t) in
    let none = not (has_event I e) in
    let late = nat_le I.period t in
    let has = there_is (has_event I e) (not_refused none _ _ new K is) in
    let below : t < I.period = below_from I.period t (second_passes none late _ _ _ new K is) in
    window_tells I e (at_time t) m b cost has member costs (record { first = below; some = omega arith; once = omega (arith, below) }) told

pub window_told : (I : Network) (e first length : ℕ) (m : Times) (b : Bool)
    → ((s : ℕ) → Some s ≡ time_of m e → IsWindow I.period (record { first = first; length = length }) → b ≡ is_held I.period (record { first = first; length = length }) s) → TellsStay I (SetWindow e first length) m b
window_told I e first length m b told K cost ok is none member costs =
    let new = effect I (SetWindow e first length) in
    let none = not (has_event I e) in
    let late = nat_le I.period first in
    let long = length == 0 || nat_lt I.period length in
    let has = there_is (has_event I e) (not_refused none _ _ new K is) in
    let below = below_from I.period first (second_passes none late _ _ _ new K is) in
    let within = length_from I.period length (third_passes none late long _ _ _ new K is) in
    window_tells I e (record { first = first; length = length }) m b cost has member costs (record { first = below; some = within.0; once = within.1 }) told

-- ---- what is kept

-- that nothing meets everything
pub keeps_infeasible : (I : Network) (edit : Edit) (b opened : Bool) → b ≡ not opened → opened ≡ opens I edit → IsTrue b ↔ Keeps I edit Infeasible
keeps_infeasible I edit b opened told is = (
  λ now. record { nothing_new = sym is ∙ not-true opened (sym told ∙ now); stays = tt },
  λ keeps. told ∙ not_from_false opened (is ∙ keeps.nothing_new),
)

-- an optimum, where the edit cheapens something, and where it does not
pub keeps_cheaper : (I : Network) (edit : Edit) (cost : ℕ) (m : Times) → cheapens I edit ≡ true → IsTrue false ↔ Keeps I edit (Optimal cost m)
keeps_cheaper I edit cost m is = (λ no. absurd (false≢true no), λ keeps. absurd (false≢true (sym keeps.nothing_new ∙ is)))

pub keeps_standing : (I J : Network) (edit : Edit) (cost : ℕ) (m : Times) (b : Bool) → IsNetwork I → edited I edit ≡ Ok J → cheapens I edit ≡ false → IsOptimum I m cost → TellsStay I edit m b → IsTrue b ↔ Keeps I edit (Optimal cost m)
keeps_standing I J edit cost m b ok is none optimum tells =
    let w = tells J cost ok is none optimum.member optimum.costs in
    (λ now. record { nothing_new = none; stays = w.0 now }, λ keeps. w.1 keeps.stays)

-- what is known after the edit
pub kept_by : (I : Network) (edit : Edit) (known after : Option Answer) (b : Bool) → IfSome known (λ answer. IsTrue b ↔ Keeps I edit answer) → (b ≡ true → after ≡ known) → (b ≡ false → after ≡ None) → IsKeptBy I edit known after
kept_by I edit known after b told stays goes =
    record {
      stays = λ answer is keeps. stays ((subst tells is told).1 keeps) ∙ is;
      only = λ answer is.
          elim (cases_Bool b) [
            | inl now ↦ let was : known ≡ Some answer = sym (stays now) ∙ is in (was, (subst tells was told).0 now)
            | inr out ↦ absurd (false≢true (ap is_some (sym (goes out) ∙ is)))
          ];
    }
  where
    tells : Option Answer → Type 0
    tells o = IfSome o (λ answer. IsTrue b ↔ Keeps I edit answer)
