-- A timetable that is changed at a place is still within the limits, and rises.
use Rattle.std.proofs.Common.{◌≡◌, ap, sym, ℕ, ◌<◌, ◌≤◌, List, length, set, arith}
use Rattle.std.specs.List.{insert, remove}
use Rattle.std.specs.BTreeMap.{is_at}
use Rattle.std.specs.Ordering.{nat_cmp}
use Rattle.std.proofs.lemmas.List.{length-set}
use Rattle.std.proofs.lemmas.List.Edits.{length-insert, length-remove}
use Rattle.std.proofs.lemmas.Map.Views.{All-keys-insert_entry, All-values-insert_entry, All-map-remove_entry}
use Rattle.pesp_base.specs.Limits.{greatest_number, max_events}
use Rattle.pesp_tension.specs.Places.{IsAt, IsGap, IsKept}
use Rattle.pesp_tension.specs.Timetables.{Times, with_time, without_time}
use Rattle.pesp_tension.proofs.Places.{insert_gap, remove_at, remove_gap, rising_insert, rising_remove, rising_set, set_at}

-- the timetable of a list
abbrev pub of_list : ℕ → List (ℕ × ℕ) → Times
of_list period es = record { period = period; entries = es }

module _ (period : ℕ) (es : List (ℕ × ℕ)) (kept : IsKept (of_list period es)) where
  -- one time in the place of another
  pub kept_set : (e t place : ℕ) → IsAt es e place → e ≤ greatest_number → t < period → IsKept (of_list period (set es place (e, t)))
  kept_set e t place at small below = record {
    within = record {
      numbers = rw (set_at es e t place kept.rising at) (All-keys-insert_entry nat_cmp e t (λ n. n ≤ greatest_number) es kept.within.numbers small);
      times = rw (set_at es e t place kept.rising at) (All-values-insert_entry nat_cmp e t (λ n. n < period) es kept.within.times below);
      few = rw (length-set es place (e, t)) kept.within.few;
    };
    rising = rising_set es e t place kept.rising at;
  }

  -- one time more
  pub kept_insert : (e t place : ℕ) → IsGap es e place → e ≤ greatest_number → t < period → length es < max_events period → IsKept (of_list period (insert es place (e, t)))
  kept_insert e t place gap small below room =
      let long = length-insert es place (e, t) gap.within in
      record {
        within = record {
          numbers = rw (insert_gap es e t place gap) (All-keys-insert_entry nat_cmp e t (λ n. n ≤ greatest_number) es kept.within.numbers small);
          times = rw (insert_gap es e t place gap) (All-values-insert_entry nat_cmp e t (λ n. n < period) es kept.within.times below);
          few = rw long (omega (arith, room));
        };
        rising = rising_insert es e t place kept.rising gap;
      }

  -- one time less
  pub kept_remove : (e place : ℕ) → IsAt es e place → IsKept (of_list period (remove es place))
  kept_remove e place at =
      let short = length-remove es place at.within in
      let few = kept.within.few in
      record {
        within = record {
          numbers = rw (remove_at es e place kept.rising at) (All-map-remove_entry (is_at (nat_cmp e)) (λ x. x.0) (λ n. n ≤ greatest_number) es kept.within.numbers);
          times = rw (remove_at es e place kept.rising at) (All-map-remove_entry (is_at (nat_cmp e)) (λ x. x.1) (λ n. n < period) es kept.within.times);
          few = omega (arith, short, few);
        };
        rising = rising_remove es place kept.rising at.within;
      }

  -- and it is the timetable that the change makes
  pub set_is : (e t place : ℕ) → IsAt es e place → of_list period (set es place (e, t)) ≡ with_time (of_list period es) e t
  set_is e t place at = ap (of_list period) (set_at es e t place kept.rising at)

  pub insert_is : (e t place : ℕ) → IsGap es e place → of_list period (insert es place (e, t)) ≡ with_time (of_list period es) e t
  insert_is e t place gap = ap (of_list period) (insert_gap es e t place gap)

  pub remove_is : (e place : ℕ) → IsAt es e place → of_list period (remove es place) ≡ without_time (of_list period es) e
  remove_is e place at = ap (of_list period) (remove_at es e place kept.rising at)

  pub same_without : (e place : ℕ) → IsGap es e place → of_list period es ≡ without_time (of_list period es) e
  same_without e place gap = ap (of_list period) (sym (remove_gap es e place gap))
