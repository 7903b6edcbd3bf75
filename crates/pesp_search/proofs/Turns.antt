-- One number added modulo the period to all times of a part that no activity leaves changes no slack: a full list of times stays full at the same cost.
use Rattle.std.proofs.Common.{◌≡◌, ℕ, zero, suc, ◌+◌, ◌-◌, ◌/◌, ◌%◌, ◌*◌, ◌<◌, ◌==◌, Bool, true, false, cond, IsTrue, List, [], ◌∷◌, length, get_or, Option, Some, None, is_some, unwrap_or, option_map, ℤ, pos, neg_ℤ, ◌+ℤ◌, ◌-ℤ◌, ◌*ℤ◌, refl, sym, ◌∙◌, ap, ap₂, subst, inr, arith, mod-lt, div-add-mod', mul_comm}
use Rattle.std.specs.BTreeMap.{is_at}
use Rattle.std.specs.List.{Contains, zip}
use Rattle.std.specs.Map.{lookup}
use Rattle.std.specs.Ordering.{nat_cmp}
use Rattle.std.proofs.Math.IntN.{pos-*ℤ-pos}
use Rattle.std.proofs.Math.Nat.{mod_self}
use Rattle.std.proofs.lemmas.Bool.{eqb-true, false≢true}
use Rattle.std.proofs.lemmas.Int.{ints}
use Rattle.std.proofs.lemmas.List.{get_or_default}
use Rattle.std.proofs.lemmas.List.Elements.{All-contains_itself}
use Rattle.pesp_base.specs.declared.activity.Activity.{Activity}
use Rattle.pesp_base.specs.Bounds.{Bounds}
use Rattle.pesp_base.specs.Tensions.{IsMet, residue, slack_of}
use Rattle.pesp_base.proofs.Laws.{met_is, spread, against}
use Rattle.pesp_base.proofs.ResidueLaws.{residue-whole_periods}
use Rattle.pesp_instance.proofs.Housed.{same_test}
use Rattle.pesp_instance.specs.Network.{HasEnds, IsNetwork, Network, admits, agrees_with, event_ids, has_event}
use Rattle.pesp_domains.specs.declared.pair.Pair.{Pair}
use Rattle.pesp_tension.specs.Answers.{cost_in}
use Rattle.pesp_search.specs.Found.{AtLeast}
use Rattle.pesp_search.proofs.Costs.{all_timed, sum_same}
use Rattle.pesp_search.proofs.Members.{ends_of}
use Rattle.pesp_search.specs.Parts.{IsFreePart, IsLeast, turned, turned_in}
use Rattle.pesp_search.specs.Paths.{at, timetable_of}
use Rattle.pesp_search.specs.Nodes.{Before, Extends, IsAt, IsFull, IsSpent, full_cost}

-- ---- one activity

-- a turned time is the time and the steps, less whole periods
turned_parts : (T k t : ℕ) → pos (turned T k t) ≡ pos (t + k) +ℤ pos T *ℤ neg_ℤ (pos ((t + k) / T))
turned_parts T k t =
    let whole : (t + k) / T * T + (t + k) % T ≡ t + k = div-add-mod' (t + k) T in
    let same : (t + k) / T * T ≡ T * ((t + k) / T) = mul_comm ((t + k) / T) T in
    omega (arith, ints, whole, same, against T (pos ((t + k) / T)), pos-*ℤ-pos T ((t + k) / T))

-- the slack stays
pub slack-turned : (T : ℕ) (span : Bounds) (k r s : ℕ) → 0 < T → slack_of T span (turned T k r) (turned T k s) ≡ slack_of T span r s
slack-turned T span k r s some =
    let q : ℤ = neg_ℤ (pos ((s + k) / T)) in
    let p : ℤ = neg_ℤ (pos ((r + k) / T)) in
    let parts : pos (turned T k s) -ℤ pos (turned T k r) -ℤ span.lower ≡ (pos s -ℤ pos r -ℤ span.lower) +ℤ pos T *ℤ (q +ℤ neg_ℤ p) =
    omega (arith, ints, turned_parts T k s, turned_parts T k r, spread T q (neg_ℤ p), against T p) in
    ap (residue T) parts ∙ residue-whole_periods T (pos s -ℤ pos r -ℤ span.lower) (q +ℤ neg_ℤ p) some

-- and what is met stays met
pub met-turned : (T : ℕ) (span : Bounds) (k r s : ℕ) → 0 < T → IsMet T span r s → IsMet T span (turned T k r) (turned T k s)
met-turned T span k r s some met =
    (met_is T span (turned T k r) (turned T k s) some).0
    (rw (slack-turned T span k r s some) ((met_is T span r s some).1 met))

-- ---- all events

-- the time of an event, where events and times stand side by side
abbrev time_in : List ℕ → List ℕ → ℕ → Option ℕ
time_in ids times e = lookup (is_at (nat_cmp e)) (zip ids times)

-- the time of an event of the part is turned, and no other
abbrev one : ℕ → (ℕ → Bool) → ℕ → ℕ → ℕ → ℕ
one T part k e t = cond (part e) (turned T k t) t

-- there are as many times
length-turned : (T : ℕ) (part : ℕ → Bool) (k : ℕ) (ids times : List ℕ) → length times ≡ length ids → length (turned_in T part k ids times) ≡ length ids
length-turned T part k [] times long = long
length-turned T part k (e ∷ ids) [] long = long
length-turned T part k (e ∷ ids) (t ∷ times) long = ap suc (length-turned T part k ids times (omega (arith, long)))

-- a look-up gives the time, turned where the event is in the part
time-turned : (T : ℕ) (part : ℕ → Bool) (k : ℕ) (ids times : List ℕ) (e : ℕ) → length times ≡ length ids → time_in ids (turned_in T part k ids times) e ≡ option_map (one T part k e) (time_in ids times e)
time-turned T part k [] [] e long = refl
time-turned T part k [] (t ∷ times) e long = refl
time-turned T part k (i ∷ ids) [] e long = absurd (omega (arith, long))
time-turned T part k (i ∷ ids) (t ∷ times) e long =
    rw (same_test e i)
    (elim (i == e) as (λ b. (i == e) ≡ b → cond b (Some (one T part k i t)) (time_in ids (turned_in T part k ids times) e) ≡ option_map (one T part k e) (cond b (Some t) (time_in ids times e))) [
      | true ↦ λ same. ap (λ f. Some (one T part k f t)) (eqb-true i e same)
      | false ↦ λ _. time-turned T part k ids times e (omega (arith, long))
    ] refl)

-- the k-th time
get-turned : (T : ℕ) (part : ℕ → Bool) (k : ℕ) (ids times : List ℕ) (n : ℕ) → length times ≡ length ids → n < length ids → get_or (turned_in T part k ids times) n 0 ≡ one T part k (get_or ids n 0) (get_or times n 0)
get-turned T part k [] times n long l = absurd (omega (arith, l))
get-turned T part k (e ∷ ids) [] n long l = absurd (omega (arith, long))
get-turned T part k (e ∷ ids) (t ∷ times) zero long l = refl
get-turned T part k (e ∷ ids) (t ∷ times) (suc n) long l = get-turned T part k ids times n (omega (arith, long)) (omega (arith, l))

-- times of which none is in the part stay
extends-turned : (T : ℕ) (part : ℕ → Bool) (k : ℕ) (ids times path : List ℕ) → length times ≡ length ids → Extends times path → ((n : ℕ) → n < length path → part (get_or ids n 0) ≡ false) → Extends (turned_in T part k ids times) path
extends-turned T part k ids times [] long x out = tt
extends-turned T part k ids [] (s ∷ path) long x out = absurd x
extends-turned T part k [] (t ∷ times) (s ∷ path) long x out = absurd (omega (arith, long))
extends-turned T part k (e ∷ ids) (t ∷ times) (s ∷ path) long x out = (
  (let here : part e ≡ false = out 0 (omega arith) in ap (λ b. cond b (turned T k t) t) here ∙ x.0),
  extends-turned T part k ids times path (omega (arith, long)) x.1 (λ n l. out (suc n) (omega (arith, l))),
)

module _ (I : Network) (part : ℕ → Bool) (k : ℕ) (times : List ℕ) (ok : IsNetwork I) (free : IsFreePart I part) (full : IsFull I times) where
  some : 0 < I.period
  some = omega (arith, ok.period_low)

  -- the turned times
  abbrev others : List ℕ
  others = turned_in I.period part k (event_ids I) times

  at_turned : (e : ℕ) → IsTrue (has_event I e) → at I others e ≡ one I.period part k e (at I times e)
  at_turned e is =
      let known : IsTrue (is_some (time_in (event_ids I) times e)) = all_timed I.events times e full.events is in
      let given : time_in (event_ids I) others e ≡ option_map (one I.period part k e) (time_in (event_ids I) times e) = time-turned I.period part k (event_ids I) times e full.events in
      ap (λ o. unwrap_or o 0) given
      ∙ elim (time_in (event_ids I) times e) as (λ o. IsTrue (is_some o) → unwrap_or (option_map (one I.period part k e) o) 0 ≡ one I.period part k e (unwrap_or o 0)) [
        | None ↦ λ no. absurd (false≢true no)
        | Some t ↦ λ _. refl
      ] known

  one_below : (e t : ℕ) → t < I.period → one I.period part k e t < I.period
  one_below e t l = elim (part e) as (λ b. cond b (turned I.period k t) t < I.period) [ true ↦ mod-lt (t + k) some | false ↦ l ]

  -- both ends of an activity are turned, or none
  ends_turned : (a : Activity) → Contains I.activities a → HasEnds I.events a → (b : Bool) × (at I others a.from ≡ cond b (turned I.period k (at I times a.from)) (at I times a.from)) × (at I others a.to ≡ cond b (turned I.period k (at I times a.to)) (at I times a.to))
  ends_turned a is ends = (
    part a.from,
    at_turned a.from ends.from,
    at_turned a.to ends.to ∙ ap (λ b. cond b (turned I.period k (at I times a.to)) (at I times a.to)) (sym (free.closed a is)),
  )

  met_both : (span : Bounds) (b : Bool) (r s : ℕ) → IsMet I.period span r s → IsMet I.period span (cond b (turned I.period k r) r) (cond b (turned I.period k s) s)
  met_both span true r s met = met-turned I.period span k r s some met
  met_both span false r s met = met

  slack_both : (span : Bounds) (b : Bool) (r s : ℕ) → slack_of I.period span (cond b (turned I.period k r) r) (cond b (turned I.period k s) s) ≡ slack_of I.period span r s
  slack_both span true r s = slack-turned I.period span k r s some
  slack_both span false r s = refl

  -- the turned times are full
  pub full_turned : IsFull I others
  full_turned =
      record {
        events = length-turned I.period part k (event_ids I) times full.events;
        below = λ n d l.
            let within : n < length (event_ids I) = omega (arith, l, length-turned I.period part k (event_ids I) times full.events) in
            let inside : n < length times = omega (arith, within, full.events) in
            subst (λ t. t < I.period) (get_or_default others n 0 d l)
            (subst (λ t. t < I.period) (sym (get-turned I.period part k (event_ids I) times n full.events within))
            (one_below (get_or (event_ids I) n 0) (get_or times n 0) (full.below n 0 inside)));
        met = λ a is.
            let w = ends_turned a is (ends_of I ok a is) in
            subst (λ r. IsMet I.period a.span r (at I others a.to)) (sym w.1)
            (subst (λ s. IsMet I.period a.span (cond w.0 (turned I.period k (at I times a.from)) (at I times a.from)) s) (sym w.2)
            (met_both a.span w.0 (at I times a.from) (at I times a.to) (full.met a is)));
        window = λ e is.
            elim (part e) as (λ b. part e ≡ b → IsTrue (admits I e (at I others e))) [
              | true ↦ λ inside. subst (λ o. IsTrue (agrees_with I.period o (at I others e))) (sym (free.free e is inside)) refl
              | false ↦ λ out. subst (λ t. IsTrue (admits I e t)) (sym (at_turned e is ∙ ap (λ b. cond b (turned I.period k (at I times e)) (at I times e)) out)) (full.window e is)
            ] refl;
      }

  -- at the same cost
  pub cost_turned : full_cost I others ≡ full_cost I times
  cost_turned =
      sum_same (cost_in (timetable_of I others)) (cost_in (timetable_of I times)) I.activities
      (λ n d l.
      let a : Activity = get_or I.activities n d in
      let is = All-contains_itself I.activities n d l in
      let w = ends_turned a is (ends_of I ok a is) in
      ap₂ (λ r s. a.weight * slack_of I.period a.span r s) w.1 w.2 ∙ ap (λ x. a.weight * x) (slack_both a.span w.0 (at I times a.from) (at I times a.to)))

-- ---- at a node

-- times that begin with the path and take an earlier time at the next event come before the node
before_of_extends : (times path : List ℕ) (from : ℕ) → Extends times path → length path < length times → get_or times (length path) 0 < from → Before times path from
before_of_extends [] path from x l less = absurd (omega (arith, l))
before_of_extends (t ∷ times) [] from x l less = less
before_of_extends (t ∷ times) (s ∷ path) from x l less = inr (x.0, before_of_extends times path from x.1 (omega (arith, l)) less)

-- what costs as much is at least the limit, too
at_least_same : (I : Network) (limit : Option ℕ) (times others : List ℕ) → full_cost I others ≡ full_cost I times → AtLeast I limit others → AtLeast I limit times
at_least_same I None times others same h = h
at_least_same I (Some limit) times others same h = omega (arith, same, h)

-- at the least event of a part without a window nothing is left to try after residue 0
pub spent_turned : (I : Network) (limit : Option ℕ) (pushes : List Pair) (path : List ℕ) (from : ℕ) → IsNetwork I → length path < length (event_ids I) → IsLeast I (length path) → 0 < from → IsAt (AtLeast I limit) I pushes path from → IsSpent (AtLeast I limit) I path from
spent_turned I limit pushes path from ok room least later at_node =
    record { passes = λ times full x _. passes times full x }
  where
    passes : (times : List ℕ) → IsFull I times → Extends times path → AtLeast I limit times
    passes times full x =
        let here : ℕ = get_or times (length path) 0 in
        let within : length path < length times = omega (arith, room, full.events) in
        let below : here < I.period = full.below (length path) 0 within in
        let k : ℕ = I.period - here in
        let twin : List ℕ = turned_in I.period least.part k (event_ids I) times in
        let up : here + k ≡ I.period = omega (arith, below) in
        let zero_there : get_or twin (length path) 0 ≡ 0 =
        get-turned I.period least.part k (event_ids I) times (length path) full.events room
        ∙ ap (λ b. cond b (turned I.period k here) here) least.inside ∙ ap (λ n. n % I.period) up ∙ mod_self I.period in
        let long = length-turned I.period least.part k (event_ids I) times full.events in
        let before : Before twin path from =
        before_of_extends twin path from (extends-turned I.period least.part k (event_ids I) times path full.events x least.none_before)
        (omega (arith, room, long)) (omega (arith, zero_there, later)) in
        at_least_same I limit times twin (cost_turned I least.part k times ok least.is_free full)
        (at_node.passed twin (full_turned I least.part k times ok least.is_free full) before)
