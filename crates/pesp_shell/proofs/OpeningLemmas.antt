-- What files stand for has their period, and the events of an instance keep their times, one entry after the other.
use Rattle.std.proofs.Common.{◌≡◌, ℕ, Bool, true, false, cond, List, [], ◌∷◌, ◌++◌, filter, Result, Ok, Err, OnOk, sym, ap, subst, ◌∙◌, append_assoc}
use Rattle.std.specs.Result.{is_err}
use Rattle.std.proofs.lemmas.Bool.{false≢true}
use Rattle.std.specs.List.Sorted.{IsStrictlyIncreasing}
use Rattle.pesp_base.specs.Refusals.{when}
use Rattle.pesp_base.specs.declared.refusal.Refusal.{Refusal}
use Rattle.pesp_base.specs.declared.refusal.Refusal.TheVariants as no
use Rattle.std.specs.Prelude.{nat_le}
use Rattle.pesp_instance.specs.Network.{Network, has_event}
use Rattle.pesp_instance.specs.Edited.{no_event}
use Rattle.pesp_instance.proofs.Rising.{IsAbove, Rises, Rises-from_increasing}
use Rattle.pesp_tension.specs.Timetables.{Times, timed_events, with_time}
use Rattle.pesp_domains.proofs.Edits.{accepted}
use Rattle.pesp_bench.specs.State.{State, timed_state}
use Rattle.pesp_bench.proofs.Entries.{key, put_last}
use Rattle.pesplib_reader.specs.Reading.{with_fixed}
use Rattle.pesp_shell.specs.Opening.{Files, StandFor}
use Rattle.pesp_shell.proofs.Periods.{activities_period, fixed_period, times_period}

-- the instance and the timetable of files have one period
pub one_period : (f : Files) (J I : Network) (fixed times : Times) → StandFor f I fixed times → J ≡ with_fixed I fixed → J.period ≡ times.period
one_period f J I fixed times stand same =
    ap (λ (K : Network). K.period) same ∙ fixed_period I fixed ∙ activities_period f.period f.activities I stand.activities
    ∙ sym (times_period f.period f.times times stand.timetable)

module _ (test : ℕ × ℕ → Bool) where
  above_kept : (n : ℕ) (es : List (ℕ × ℕ)) → IsAbove key n es → IsAbove key n (filter test es)
  above_kept n [] above = tt
  above_kept n (x ∷ es) above =
      elim (test x) as (λ b. IsAbove key n (cond b (x ∷ filter test es) (filter test es))) [
        | true ↦ (above.0, above_kept n es above.1)
        | false ↦ above_kept n es above.1
      ]

  rises_kept : (es : List (ℕ × ℕ)) → Rises key es → Rises key (filter test es)
  rises_kept [] rises = tt
  rises_kept (x ∷ es) rises =
      elim (test x) as (λ b. Rises key (cond b (x ∷ filter test es) (filter test es))) [
        | true ↦ (above_kept x.0 es rises.0, rises_kept es rises.1)
        | false ↦ rises_kept es rises.1
      ]

-- what holds of a call that is not refused
pub ok_of : (answer : Result (Unit {0}) Refusal) (P : Type 0) → OnOk answer P → is_err answer ≡ false → P
ok_of (Ok done) P p not = p
ok_of (Err refusal) P p not = absurd (false≢true (sym not))

-- the times so far, and those of events among the rest, are those of events among all
pub record IsCopied (I : Network) (all : Times) (rest : List (ℕ × ℕ)) (s : State) : Type 0 where
  pub instance : s.instance ≡ I
  pub period : s.times.period ≡ all.period
  pub entries : filter (λ x. has_event I x.0) all.entries ≡ s.times.entries ++ filter (λ x. has_event I x.0) rest
  pub rising : IsStrictlyIncreasing (timed_events all)

-- a time of an event is set
pub set_more : (I : Network) (all : Times) (x : ℕ × ℕ) (rest : List (ℕ × ℕ)) (s next : State)
    → IsCopied I all (x ∷ rest) s → has_event s.instance x.0 ≡ true → timed_state s x.0 x.1 ≡ Ok next → IsCopied I all rest next
set_more I all x rest s next c is set =
    let of_event : has_event I x.0 ≡ true = ap (λ J. has_event J x.0) (sym c.instance) ∙ is in
    let test = λ (x : ℕ × ℕ). has_event I x.0 in
    let same : next ≡ record s { times = with_time s.times x.0 x.1 } =
    accepted (no_event s.instance x.0 ∷ when (nat_le s.instance.period x.1) (no.TimeOutOfRange x.1) ∷ []) (record s { times = with_time s.times x.0 x.1 }) next set in
    let head : filter test (x ∷ rest) ≡ x ∷ filter test rest = ap (λ b. cond b (x ∷ filter test rest) (filter test rest)) of_event in
    let entries : filter test all.entries ≡ s.times.entries ++ x ∷ filter test rest = c.entries ∙ ap (λ es. s.times.entries ++ es) head in
    let up : Rises key (s.times.entries ++ x ∷ filter test rest) =
    subst (Rises key) entries (rises_kept test all.entries (Rises-from_increasing key all.entries c.rising)) in
    let put : (with_time s.times x.0 x.1).entries ≡ s.times.entries ++ x ∷ [] = put_last s.times.entries (filter test rest) x.0 x.1 up in
    record {
      instance = ap (λ (n : State). n.instance) same ∙ c.instance;
      period = ap (λ (n : State). n.times.period) same ∙ c.period;
      entries = entries ∙ sym (append_assoc s.times.entries (x ∷ []) (filter test rest)) ∙ ap (λ es. es ++ filter test rest) (sym (ap (λ (n : State). n.times.entries) same ∙ put));
      rising = c.rising;
    }

-- a time of no event is passed over
pub set_none : (I : Network) (all : Times) (x : ℕ × ℕ) (rest : List (ℕ × ℕ)) (s : State)
    → IsCopied I all (x ∷ rest) s → has_event s.instance x.0 ≡ false → IsCopied I all rest s
set_none I all x rest s c not =
    let of_none : has_event I x.0 ≡ false = ap (λ J. has_event J x.0) (sym c.instance) ∙ not in
    let test = λ (x : ℕ × ℕ). has_event I x.0 in
    record {
      instance = c.instance;
      period = c.period;
      entries = c.entries ∙ ap (λ es. s.times.entries ++ es) (ap (λ b. cond b (x ∷ filter test rest) (filter test rest)) of_none);
      rising = c.rising;
    }
