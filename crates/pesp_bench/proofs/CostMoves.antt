-- How the cost moves with the time of an event and with an edit, and how many events then have no time.
use Rattle.std.proofs.Common.{◌≡◌, ℕ, pos, ◌-ℤ◌, suc, ◌+◌, ◌-◌, ◌*◌, ◌≤◌, ◌<◌, ◌==◌, ◌&&◌, Bool, true, false, not, cond, is_some, is_none, nat_le, List, [], ◌∷◌, length, map, filter, find, get_or, Option, Some, None, option_map, unwrap_or, IsSome, IsTrue, Ok, refl, sym, ap, ◌∙◌, arith, All, sum_by}
use Rattle.std.specs.Map.{keys_of}
use Rattle.std.specs.Option.{option_map_or}
use Rattle.std.specs.Result.{is_ok}
use Rattle.std.proofs.lemmas.Bool.{eq-eqb, eqb-true, false≢true, or_parts}
use Rattle.std.proofs.lemmas.Int.{ints}
use Rattle.std.proofs.lemmas.List.{length-map}
use Rattle.std.proofs.lemmas.List.Elements.{All-head, All-tail}
use Rattle.std.proofs.lemmas.List.Sums.{sum_by-cons, sum_by-le}
use Rattle.std.proofs.lemmas.Nat.{mul-le}
use Rattle.pesp_base.specs.declared.activity.Activity.{Activity}
use Rattle.pesp_base.specs.declared.refusal.Refusal.TheVariants as no
use Rattle.pesp_base.specs.Limits.{greatest_period, greatest_weight, max_activities, max_events}
use Rattle.pesp_base.specs.Numbered.{change_in, put_in, take_out, with_number}
use Rattle.pesp_base.specs.Refusals.{unless_refused, when}
use Rattle.pesp_base.specs.Tensions.{slack_of}
use Rattle.pesp_base.proofs.Laws.{residue_below}
use Rattle.pesp_base.proofs.Tests.{none_from}
use Rattle.pesp_instance.specs.declared.edit.Edit.{Edit}
use Rattle.pesp_instance.specs.declared.edit.Edit.TheVariants.{AddEvent, DropEvent, Fix, SetWindow, Unfix, AddActivity, DropActivity, SetSpan, SetWeight, SetEnds}
use Rattle.pesp_instance.specs.declared.event.Event.{Event}
use Rattle.pesp_instance.specs.Edited.{changed, edited, effect}
use Rattle.pesp_instance.specs.Network.{IsActivity, IsNetwork, Network, activity_of, around, has_event, is_end_of, new_event}
use Rattle.pesp_instance.proofs.Numbers.{activity_number as id_of, event_number as number}
use Rattle.pesp_instance.proofs.Rising.{All-found, Rises, Rises-change_in, Rises-from_increasing, length-change_in, length-put_in, take_out-above, with_number-put_in, with_number-take_out}
use Rattle.pesp_search.proofs.Costs.{sum_same}
use Rattle.pesp_search.specs.Optima.{IsOptimum}
use Rattle.pesp_tension.specs.Answers.{cost_in, cost_of, first_missing, time_at, where_timed}
use Rattle.pesp_tension.specs.Timetables.{Times, set_time, time_of, with_time, without_time}
use Rattle.pesp_domains.proofs.Edits.{accepted, effect_is}
use Rattle.pesp_bench.specs.Costing.{AreTimesOf, IsCosted, cost_edited, cost_of_number, missing_after}
use Rattle.pesp_bench.specs.State.{times_after}
use Rattle.pesp_bench.proofs.Changed.{sum_by-filter, sum_by-put_in}
use Rattle.pesp_bench.proofs.Entries.{found_without, key, length_put, length_replaced, length_without, other_put, own_put, room, without_none}
use Rattle.pesp_bench.proofs.KeptAnswers.{activities_rise, events_rise, not_refused, other_time}
use Rattle.pesp_bench.proofs.Stands.{rest_of, there_is}

-- ---- sums

-- where the terms of some members change alone, the sum changes by theirs
sum_moves : {X : Type 0} (f g : X → ℕ) (q : X → Bool) (xs : List X) → ((x : X) → q x ≡ false → g x ≡ f x) → sum_by g xs + sum_by f (filter q xs) ≡ sum_by f xs + sum_by g (filter q xs)
sum_moves f g q [] same = refl
sum_moves f g q (x ∷ xs) same =
    let rest = sum_moves f g q xs same in
    (elim (q x) as (λ b. q x ≡ b → sum_by g (x ∷ xs) + sum_by f (cond b (x ∷ filter q xs) (filter q xs)) ≡ sum_by f (x ∷ xs) + sum_by g (cond b (x ∷ filter q xs) (filter q xs))) [
      | true ↦ λ _. omega (arith, rest, sum_by-cons g x xs, sum_by-cons f x xs, sum_by-cons f x (filter q xs), sum_by-cons g x (filter q xs))
      | false ↦ λ out. let here = same x out in omega (arith, rest, here, sum_by-cons g x xs, sum_by-cons f x xs)
    ]) refl

-- where no member passes the test, none is found by it
none_pass : {X : Type 0} (q : X → Bool) (xs : List X) → find q xs ≡ None → filter q xs ≡ []
none_pass q [] none = refl
none_pass q (x ∷ xs) none =
    (elim (q x) as (λ b. cond b (Some x) (find q xs) ≡ None → cond b (x ∷ filter q xs) (filter q xs) ≡ []) [
      | true ↦ λ here. absurd (cc)
      | false ↦ λ left. none_pass q xs left
    ]) none

module _ {X : Type 0} (number : X → ℕ) where
  -- a sum is what the member of a number adds, and what the others do
  sum_by-others : (f : X → ℕ) (n : ℕ) (xs : List X) → Rises number xs → sum_by f xs ≡ sum_by f (take_out number n xs) + option_map_or f (with_number number n xs) 0
  sum_by-others f n [] rises = refl
  sum_by-others f n (x ∷ xs) rises =
      let rest = sum_by-others f n xs rises.1 in
      (elim (number x == n) as (λ b. (number x == n) ≡ b → sum_by f (x ∷ xs) ≡ sum_by f (cond (not b) (x ∷ take_out number n xs) (take_out number n xs)) + option_map_or f (cond b (Some x) (with_number number n xs)) 0) [
        | true ↦ λ same. rw (take_out-above number n (number x) xs (let at = eqb-true (number x) n same in omega (arith, at)) rises.0) (omega (arith, sum_by-cons f x xs))
        | false ↦ λ _. omega (arith, rest, sum_by-cons f x xs, sum_by-cons f x (take_out number n xs))
      ]) refl

  -- the others stay where one is changed
  others_stay : (n : ℕ) (change : X → X) → ((x : X) → number (change x) ≡ number x) → (xs : List X) → take_out number n (change_in number n change xs) ≡ take_out number n xs
  others_stay n change keeps [] = refl
  others_stay n change keeps (x ∷ xs) =
      let rest = others_stay n change keeps xs in
      (elim (number x == n) as (λ b. (number x == n) ≡ b → take_out number n (cond b (change x) x ∷ change_in number n change xs) ≡ cond (not b) (x ∷ take_out number n xs) (take_out number n xs)) [
        | true ↦ λ same. rw (keeps x, same) rest
        | false ↦ λ out. rw out (ap (λ ys. x ∷ ys) rest)
      ]) refl

  -- a member that is there is one of them
  length-take_one : (n : ℕ) (xs : List X) → Rises number xs → IsTrue (is_some (with_number number n xs)) → length (take_out number n xs) + 1 ≡ length xs
  length-take_one n [] rises has = absurd (false≢true has)
  length-take_one n (x ∷ xs) rises has =
      (elim (number x == n) as (λ b. (number x == n) ≡ b → IsTrue (is_some (cond b (Some x) (with_number number n xs))) → length (cond (not b) (x ∷ take_out number n xs) (take_out number n xs)) + 1 ≡ suc (length xs)) [
        | true ↦ λ same _. rw (take_out-above number n (number x) xs (let at = eqb-true (number x) n same in omega (arith, at)) rises.0) (omega arith)
        | false ↦ λ _ left. let rest = length-take_one n xs rises.1 left in omega (arith, rest)
      ]) refl has

-- the same of the same instance and the same times
pub costed_so : (I J : Network) (m n : Times) (cost missing : ℕ) → I ≡ J → n ≡ m → IsCosted I m cost missing → IsCosted J n cost missing
costed_so I J m n cost missing instance times costed = rw (sym instance, times) costed

-- ---- another time

-- an activity with other ends costs what it did
elsewhere : (m n : Times) (e : ℕ) → n.period ≡ m.period → ((q : ℕ) → (q ≡ e → ⊥) → time_of n q ≡ time_of m q) → (a : Activity) → is_end_of e a ≡ false → cost_in n a ≡ cost_in m a
elsewhere m n e period others a out =
    let parts = or_parts (a.from == e) (a.to == e) out in
    let from : time_at n a.from ≡ time_at m a.from = ap (λ o. unwrap_or o 0) (others a.from (apart a.from parts.0)) in
    let to : time_at n a.to ≡ time_at m a.to = ap (λ o. unwrap_or o 0) (others a.to (apart a.to parts.1)) in
    rw (period, from, to) refl
  where
    apart : (q : ℕ) → (q == e) ≡ false → q ≡ e → ⊥
    apart q differs same = false≢true (sym differs ∙ eq-eqb q e same)

-- the cost moves by what lies at the event
moves_around : (I : Network) (m n : Times) (e : ℕ) → n.period ≡ m.period → ((q : ℕ) → (q ≡ e → ⊥) → time_of n q ≡ time_of m q)
    → cost_of I n + sum_by (cost_in m) (around I e) ≡ cost_of I m + sum_by (cost_in n) (around I e)
moves_around I m n e period others = sum_moves (cost_in m) (cost_in n) (is_end_of e) I.activities (elsewhere m n e period others)

-- so it changes by what lies at the event
pub changes_by : (I : Network) (m : Times) (e t before after : ℕ) → before ≡ sum_by (cost_in m) (around I e) → after ≡ sum_by (cost_in (with_time m e t)) (around I e)
    → pos after -ℤ pos before ≡ pos (cost_of I (with_time m e t)) -ℤ pos (cost_of I m)
changes_by I m e t before after was is =
    let moves = moves_around I m (with_time m e t) e refl (λ q apart. other_put e t q m.entries apart) in
    omega (arith, ints, moves, was, is)

-- what lies at an event is a part of the cost
pub around_part : (I : Network) (m : Times) (e : ℕ) → sum_by (cost_in m) (around I e) ≤ cost_of I m
around_part I m e = sum_by-filter (cost_in m) (is_end_of e) I.activities

-- the cost is small
pub cost_small : (I : Network) (m : Times) → IsNetwork I → m.period ≡ I.period → cost_of I m ≤ greatest_weight * (greatest_period - 1) * max_activities I.period
cost_small I m network same =
    let most : ℕ = greatest_weight * (greatest_period - 1) in
    let all = sum_by-le (cost_in m) most I.activities (λ k d l. each (get_or I.activities k d) (network.activities_within k d l)) in
    let more = mul-le (length I.activities) most (max_activities I.period) most network.few_activities (omega arith) in
    omega (arith, all, more)
  where
    each : (a : Activity) → IsActivity a → cost_in m a ≤ greatest_weight * (greatest_period - 1)
    each a is =
        let some : 0 < m.period = omega (arith, network.period_low, same) in
        let slack : slack_of m.period a.span (time_at m a.from) (time_at m a.to) < m.period = residue_below m.period _ some in
        mul-le a.weight _ greatest_weight (greatest_period - 1) is.weight (omega (arith, slack, network.period_high, same))

-- the times ascend
ascend : (I : Network) (m : Times) → AreTimesOf I m → Rises key m.entries
ascend I m times = Rises-from_increasing key m.entries times.rising

-- where an event of the instance has no time, there are fewer times than events
pub room_left : (I : Network) (m : Times) (e : ℕ) → IsNetwork I → AreTimesOf I m → IsTrue (has_event I e) → time_of m e ≡ None → length m.entries < length I.events
room_left I m e network times has none = room m.entries I.events e 0 (ascend I m times) (events_rise I network) times.events has none

-- an event without a time is one of those that have none
pub one_lacks : (I : Network) (m : Times) (e cost missing : ℕ) → IsNetwork I → AreTimesOf I m → IsCosted I m cost missing → IsTrue (has_event I e) → is_some (time_of m e) ≡ false → 1 ≤ missing
one_lacks I m e cost missing network times costed has none =
    let l = room_left I m e network times has (none_from (time_of m e) none) in
    omega (arith, l, costed.lacking)

-- the timetable in which the time was set
pub taken : (m n : Times) (e t : ℕ) → set_time m e t ≡ Ok n → n ≡ with_time m e t
taken m n e t ok = accepted (when (nat_le m.period t) (no.TimeOutOfRange t) ∷ when (is_none (time_of m e) && nat_le (max_events m.period) (length m.entries)) no.TooManyEvents ∷ []) (with_time m e t) n ok

-- after an event got a time, where it may have had one
pub after_set : (I : Network) (m n : Times) (e t cost missing before after new left : ℕ) (had : Bool) → IsNetwork I → AreTimesOf I m → IsCosted I m cost missing
    → IsTrue (has_event I e) → set_time m e t ≡ Ok n → before ≡ sum_by (cost_in m) (around I e) → after ≡ sum_by (cost_in n) (around I e) → new + before ≡ cost + after
    → is_some (time_of m e) ≡ had → left ≡ missing - cond had 0 1 → IsCosted I n new left
after_set I m n e t cost missing before after new left had network times costed has ok was is moved told lacks =
    let at : n ≡ with_time m e t = taken m n e t ok in
    let moves = moves_around I m (with_time m e t) e refl (λ q apart. other_put e t q m.entries apart) in
    let here : after ≡ sum_by (cost_in (with_time m e t)) (around I e) = is ∙ ap (λ k. sum_by (cost_in k) (around I e)) at in
    rw at (record { costs = omega (arith, moves, was, here, moved, costed.costs); lacking = by (time_of m e) refl had told lacks })
  where
    by : (o : Option ℕ) → time_of m e ≡ o → (b : Bool) → is_some o ≡ b → left ≡ missing - cond b 0 1 → left + length (with_time m e t).entries ≡ length I.events
    by None none false is fewer =
        let l = room_left I m e network times has none in
        let more = length_put e t m.entries none in
        omega (arith, l, more, fewer, costed.lacking)
    by None none true is fewer = absurd (false≢true is)
    by (Some u) some false is fewer = absurd (false≢true (sym is))
    by (Some u) some true is fewer =
        let same = length_replaced e t m.entries (ascend I m times) (ap is_some some) in
        omega (arith, same, fewer, costed.lacking)

-- an event without a time counts as one at 0
at_zero : (m : Times) (e q : ℕ) → Rises key m.entries → time_at (with_time m e 0) q ≡ time_at (without_time m e) q
at_zero m e q rises =
    (elim (q == e) as (λ b. (q == e) ≡ b → time_at (with_time m e 0) q ≡ time_at (without_time m e) q) [
      | true ↦ λ same. rw (eqb-true q e same) (ap (λ o. unwrap_or o 0) (own_put e 0 m.entries) ∙ sym (ap (λ o. unwrap_or o 0) (none (time_of (without_time m e) e) refl)))
      | false ↦ λ differs.
          let apart : q ≡ e → ⊥ = λ at. false≢true (sym differs ∙ eq-eqb q e at) in
          ap (λ o. unwrap_or o 0) (other_put e 0 q m.entries apart ∙ sym (other_time e q m.entries apart))
    ]) refl
  where
    none : (o : Option ℕ) → time_of (without_time m e) e ≡ o → time_of (without_time m e) e ≡ None
    none None at = at
    none (Some t) at = absurd ((found_without e e m.entries rises (ap is_some at)).0 refl)

costs_at_zero : (m : Times) (e : ℕ) → Rises key m.entries → (a : Activity) → cost_in (with_time m e 0) a ≡ cost_in (without_time m e) a
costs_at_zero m e rises a = rw (at_zero m e a.from rises, at_zero m e a.to rises) refl

-- after an event lost its time
pub after_clear : (I : Network) (m n : Times) (e cost missing before after new left : ℕ) → AreTimesOf I m → IsCosted I m cost missing → IsSome (time_of m e) → n ≡ without_time m e
    → before ≡ sum_by (cost_in m) (around I e) → after ≡ sum_by (cost_in (with_time m e 0)) (around I e) → new + before ≡ cost + after → left ≡ missing + 1 → IsCosted I n new left
after_clear I m n e cost missing before after new left times costed some at was is moved lacks =
    let moves = moves_around I m (without_time m e) e refl (λ q apart. other_time e q m.entries apart) in
    let here : after ≡ sum_by (cost_in (without_time m e)) (around I e) = is ∙ sum_same (cost_in (with_time m e 0)) (cost_in (without_time m e)) (around I e) (λ k d l. costs_at_zero m e (ascend I m times) (get_or (around I e) k d)) in
    let fewer = length_without e m.entries some in
    rw at (record { costs = omega (arith, moves, was, here, moved, costed.costs); lacking = omega (arith, fewer, lacks, costed.lacking) })

-- ---- the answer

-- where each event has a time, none is found without one
none_lack : (m : Times) (xs : List Event) → All (λ x. IsSome (time_of m x.id)) xs → find (λ e. is_none (time_of m e)) (map (λ x. x.id) xs) ≡ None
none_lack m [] all = refl
none_lack m (x ∷ xs) all =
    (elim (time_of m x.id) as (λ o. IsSome o → cond (is_none o) (Some x.id) (find (λ e. is_none (time_of m e)) (map (λ y. y.id) xs)) ≡ None) [
      | None ↦ λ some. absurd (cc)
      | Some t ↦ λ some. none_lack m xs (All-tail (λ y. IsSome (time_of m y.id)) x xs all)
    ]) (All-head (λ y. IsSome (time_of m y.id)) x xs all)

-- where no event lacks a time, the kept cost is the answer
pub told_so : (I : Network) (m : Times) (cost missing : ℕ) → IsNetwork I → AreTimesOf I m → IsCosted I m cost missing → missing ≡ 0 → Ok cost ≡ where_timed I m (cost_of I m)
told_so I m cost missing network times costed full = rw (none, costed.costs) refl
  where
    timed : (x : Event) → with_number number x.id I.events ≡ Some x → (o : Option ℕ) → time_of m x.id ≡ o → IsSome o
    timed x there (Some t) at = refl
    timed x there None at =
        let l = room_left I m x.id network times (ap is_some there) at in
        absurd (omega (arith, l, costed.lacking, full))

    none : first_missing I m ≡ None
    none = none_lack m I.events (λ k d l. timed (get_or I.events k d) (All-found number I.events (events_rise I network) k d l) (time_of m (get_or I.events k d).id) refl)

-- ---- the optimum

length_keys : (es : List (ℕ × ℕ)) → length (keys_of es) ≡ length es
length_keys [] = refl
length_keys (x ∷ es) = ap suc (length_keys es)

-- an optimum costs what it is known to, and each event has its time
pub optimum_costs : (I : Network) (m : Times) (cost : ℕ) → IsOptimum I m cost → IsCosted I m cost 0
optimum_costs I m cost optimum =
    let all = ap length optimum.member.events in
    record { costs = sym optimum.costs; lacking = omega (arith, all, length_keys m.entries, length-map I.events (λ x. x.id)) }

-- ---- an edit

-- the cost moves by what the edited activity costs
abbrev Moves : Network → Times → Edit → Type 0
Moves I m edit = cost_of (effect I edit) (times_after edit m) + cost_edited I m edit ≡ cost_of I m + cost_edited (effect I edit) m edit

-- another span, weight or ends
moves_change : (I : Network) (m : Times) (n : ℕ) (change : Activity → Activity) → ((a : Activity) → (change a).id ≡ a.id) → IsNetwork I
    → cost_of (changed I n change) m + cost_of_number I m n ≡ cost_of I m + cost_of_number (changed I n change) m n
moves_change I m n change keeps network =
    let rises = activities_rise I network in
    let old = sum_by-others id_of (cost_in m) n I.activities rises in
    let new = sum_by-others id_of (cost_in m) n (change_in id_of n change I.activities) (Rises-change_in id_of n change keeps I.activities rises) in
    let same = ap (sum_by (cost_in m)) (others_stay id_of n change keeps I.activities) in
    omega (arith, old, new, same)

-- the number of an added activity was none
pub absent : (I J : Network) (a : Activity) → edited I (AddActivity a) ≡ Ok J → activity_of I a.id ≡ None
absent I J a is = none_from (activity_of I a.id) (not_refused (is_some (activity_of I a.id)) _ _ (effect I (AddActivity a)) J is)

-- and is the activity's then
pub added : (I : Network) (a : Activity) → activity_of (effect I (AddActivity a)) a.id ≡ Some a
added I a = with_number-put_in id_of a.id a I.activities ∙ (rw (eq-eqb a.id a.id refl) refl)

-- a dropped one has it no more
pub gone : (I : Network) (n : ℕ) → activity_of (effect I (DropActivity n)) n ≡ None
gone I n = with_number-take_out id_of n n I.activities ∙ (rw (eq-eqb n n refl) refl)

-- an activity more
moves_added : (I J : Network) (m : Times) (a : Activity) → IsNetwork I → edited I (AddActivity a) ≡ Ok J → Moves I m (AddActivity a)
moves_added I J m a network is =
    let none : with_number id_of a.id I.activities ≡ None = absent I J a is in
    let there : with_number id_of a.id (put_in id_of a I.activities) ≡ Some a = added I a in
    let sum = sum_by-put_in id_of (cost_in m) a I.activities (activities_rise I network) none in
    rw (none, there) (omega (arith, sum))

-- an activity fewer
moves_dropped : (I : Network) (m : Times) (n : ℕ) → IsNetwork I → Moves I m (DropActivity n)
moves_dropped I m n network =
    let none : with_number id_of n (take_out id_of n I.activities) ≡ None = gone I n in
    let sum = sum_by-others id_of (cost_in m) n I.activities (activities_rise I network) in
    rw none (omega (arith, sum))

-- a dropped event is the end of no activity
unused : (I J : Network) (e : ℕ) → edited I (DropEvent e) ≡ Ok J → around I e ≡ []
unused I J e is = none_pass (is_end_of e) I.activities (by (find (is_end_of e) I.activities) (rest_of (not (has_event I e)) _ _ (effect I (DropEvent e)) J is))
  where
    by : (o : Option Activity) → unless_refused (option_map (λ a. no.EventInUse e a.id) o ∷ []) (effect I (DropEvent e)) ≡ Ok J → o ≡ None
    by None ok = refl
    by (Some a) ok = absurd (false≢true (ap is_ok ok))

moves_unused : (I J : Network) (m : Times) (e : ℕ) → edited I (DropEvent e) ≡ Ok J → Moves I m (DropEvent e)
moves_unused I J m e is =
    let moves = moves_around I m (without_time m e) e refl (λ q apart. other_time e q m.entries apart) in
    rw (unused I J e is) at moves

moves : (I J : Network) (m : Times) (edit : Edit) → IsNetwork I → edited I edit ≡ Ok J → Moves I m edit
moves I J m (AddEvent e) network is = refl
moves I J m (DropEvent e) network is = moves_unused I J m e is
moves I J m (Fix e t) network is = refl
moves I J m (SetWindow e first length) network is = refl
moves I J m (Unfix e) network is = refl
moves I J m (AddActivity a) network is = moves_added I J m a network is
moves I J m (DropActivity n) network is = moves_dropped I m n network
moves I J m (SetSpan n span) network is = moves_change I m n (λ a. record a { span = span }) (λ a. refl) network
moves I J m (SetWeight n weight) network is = moves_change I m n (λ a. record a { weight = weight }) (λ a. refl) network
moves I J m (SetEnds n from to) network is = moves_change I m n (λ a. record a { from = from; to = to }) (λ a. refl) network

-- what an activity costs is a part of the cost
pub found_part : (I : Network) (m : Times) (n : ℕ) (a : Activity) (cost : ℕ) → IsNetwork I → activity_of I n ≡ Some a → cost ≡ cost_in m a → cost ≤ cost_of I m
found_part I m n a cost network found is =
    let sum = sum_by-others id_of (cost_in m) n I.activities (activities_rise I network) in
    let share : option_map_or (cost_in m) (activity_of I n) 0 ≡ cost_in m a = ap (λ o. option_map_or (cost_in m) o 0) found in
    omega (arith, sum, share, is)

-- a dropped event is one of them
dropped_event : (I J : Network) (e : ℕ) → edited I (DropEvent e) ≡ Ok J → IsTrue (has_event I e)
dropped_event I J e is = there_is (has_event I e) (not_refused (not (has_event I e)) _ _ (effect I (DropEvent e)) J is)

-- how many events have no time then
number_left : (I J : Network) (m : Times) (edit : Edit) (missing : ℕ) → IsNetwork I → edited I edit ≡ Ok J → AreTimesOf I m → missing + length m.entries ≡ length I.events
    → missing_after edit m missing + length (times_after edit m).entries ≡ length (effect I edit).events
number_left I J m (AddEvent e) missing network is times all =
    let absent : with_number number e I.events ≡ None = none_from (with_number number e I.events) (not_refused (has_event I e) _ _ (effect I (AddEvent e)) J is) in
    let long = length-put_in number (new_event e) I.events absent in
    omega (arith, long, all)
number_left I J m (DropEvent e) missing network is times all = by (time_of m e) refl
  where
    has : IsTrue (has_event I e)
    has = dropped_event I J e is

    one : length (take_out number e I.events) + 1 ≡ length I.events
    one = length-take_one number e I.events (events_rise I network) has

    by : (o : Option ℕ) → time_of m e ≡ o → cond (is_none o) (missing - 1) missing + length (without_time m e).entries ≡ length (take_out number e I.events)
    by (Some t) at =
        let fewer = length_without e m.entries (ap is_some at) in
        omega (arith, fewer, one, all)
    by None at =
        let l = room_left I m e network times has at in
        let same = ap length (without_none e m.entries at) in
        omega (arith, l, same, one, all)
number_left I J m (Fix e t) missing network is times all = all ∙ sym (length-change_in number e _ I.events)
number_left I J m (SetWindow e first length) missing network is times all = all ∙ sym (length-change_in number e _ I.events)
number_left I J m (Unfix e) missing network is times all = all ∙ sym (length-change_in number e _ I.events)
number_left I J m (AddActivity a) missing network is times all = all
number_left I J m (DropActivity n) missing network is times all = all
number_left I J m (SetSpan n span) missing network is times all = all
number_left I J m (SetWeight n weight) missing network is times all = all
number_left I J m (SetEnds n from to) missing network is times all = all

-- after an edit
pub after_edit : (I J : Network) (m : Times) (edit : Edit) (cost missing before after new left : ℕ) → IsNetwork I → AreTimesOf I m → IsCosted I m cost missing → edited I edit ≡ Ok J
    → (before ≡ cost_edited I m edit) × (after ≡ cost_edited J m edit) → new + before ≡ cost + after → left ≡ missing_after edit m missing → IsCosted J (times_after edit m) new left
after_edit I J m edit cost missing before after new left network times costed makes are moved lacks =
    let at : J ≡ effect I edit = effect_is I J edit makes in
    let here : after ≡ cost_edited (effect I edit) m edit = are.1 ∙ ap (λ n. cost_edited n m edit) at in
    let all = moves I J m edit network makes in
    let some = number_left I J m edit missing network makes times costed.lacking in
    rw at (record { costs = omega (arith, all, here, moved, are.0, costed.costs); lacking = omega (arith, some, lacks) })

-- and so of the same instance before it and the same times
pub costed_then : (H I J : Network) (m n : Times) (edit : Edit) (cost missing : ℕ) → H ≡ I → ((K : Network) → edited H edit ≡ Ok K → IsCosted K (times_after edit m) cost missing) → edited I edit ≡ Ok J
    → n ≡ times_after edit m → IsCosted J n cost missing
costed_then H I J m n edit cost missing same costed makes times = rw times (costed J (ap (λ K. edited K edit) same ∙ makes))
