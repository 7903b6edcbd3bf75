-- Where the events of a timetable are those of an instance, no event lacks a time, and so there is a cost.
use Rattle.std.proofs.Common.{◌≡◌, ℕ, cond, true, false, find, is_none, List, [], ◌∷◌, Option, Some, None, IsSome, refl, subst, sym, ◌∙◌, ap, All, Result, Ok, Err}
use Rattle.std.specs.BTreeMap.{is_at}
use Rattle.std.specs.Map.{keys_of, lookup}
use Rattle.std.specs.Ordering.{nat_cmp}
use Rattle.std.proofs.lemmas.Bool.{eq-eqb, false≢true}
use Rattle.std.proofs.lemmas.List.Elements.{All-cons, All-head, All-nil, All-tail, All-weaker}
use Rattle.pesp_instance.proofs.Housed.{same_test}
use Rattle.pesp_instance.specs.Network.{Network, event_ids}
use Rattle.pesp_base.specs.declared.refusal.Refusal.{Refusal}
use Rattle.std.specs.Result.{is_ok, result_unwrap_or}
use Rattle.pesp_tension.specs.Answers.{cost_of, first_missing, where_timed}
use Rattle.pesp_tension.specs.Timetables.{Times, time_of, timed_events}

-- the time of an event
abbrev found : List (ℕ × ℕ) → ℕ → Option ℕ
found es q = lookup (is_at (nat_cmp q)) es

-- each key of a list of entries is found in it
timed : (es : List (ℕ × ℕ)) → All (λ q. IsSome (found es q)) (keys_of es)
timed [] = All-nil (λ q. IsSome (found [] q))
timed (x ∷ es) =
    All-cons (λ q. IsSome (found (x ∷ es) q)) x.0 (keys_of es) (rw (same_test x.0 x.0, eq-eqb x.0 x.0 refl) refl)
    (All-weaker (λ q. IsSome (found es q)) (λ q. IsSome (found (x ∷ es) q)) more (keys_of es) (timed es))
  where
    more : (q : ℕ) → IsSome (found es q) → IsSome (found (x ∷ es) q)
    more q some = (elim (is_at (nat_cmp q) x.0) as (λ b. IsSome (cond b (Some x.1) (found es q))) [ true ↦ refl | false ↦ some ])

-- where each number of a list has a time, none of it lacks one
none_among : (m : Times) (ids : List ℕ) → All (λ q. IsSome (time_of m q)) ids → find (λ e. is_none (time_of m e)) ids ≡ None
none_among m [] all = refl
none_among m (q ∷ ids) all =
    (elim (time_of m q) as (λ o. IsSome o → cond (is_none o) (Some q) (find (λ e. is_none (time_of m e)) ids) ≡ None) [
      | None ↦ λ some. absurd (cc)
      | Some t ↦ λ some. none_among m ids (All-tail (λ p. IsSome (time_of m p)) q ids all)
    ]) (All-head (λ p. IsSome (time_of m p)) q ids all)

-- so no event of the instance does
pub none_missing : (I : Network) (m : Times) → timed_events m ≡ event_ids I → first_missing I m ≡ None
none_missing I m events = none_among m (event_ids I) (subst (All (λ q. IsSome (time_of m q))) events (timed m.entries))

-- the cost is answered, where the events are timed
pub not_without_cost : (I : Network) (m : Times) (r : Result ℕ Refusal) (refusal : Refusal) → timed_events m ≡ event_ids I → r ≡ where_timed I m (cost_of I m) → r ≡ Err refusal → ⊥
not_without_cost I m r refusal events is err =
    let none = none_missing I m events in
    let ok : r ≡ Ok (cost_of I m) = is ∙ (rw none refl) in
    false≢true (ap is_ok (sym err ∙ ok))

-- and the answer is that cost
pub costs_so : (I : Network) (m : Times) (r : Result ℕ Refusal) (cost : ℕ) → timed_events m ≡ event_ids I → r ≡ where_timed I m (cost_of I m) → r ≡ Ok cost → cost_of I m ≡ cost
costs_so I m r cost events is ok =
    let none = none_missing I m events in
    let same : Ok cost ≡ where_timed I m (cost_of I m) = sym ok ∙ is in
    let all : ◌≡◌ {A = Result ℕ Refusal} (Ok cost) (Ok (cost_of I m)) = same ∙ (rw none refl) in
    sym (ap (λ a. result_unwrap_or a 0) all)
