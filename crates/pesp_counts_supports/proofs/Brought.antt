-- Pairs come to the rows and into a list, one after another.
use Rattle.std.proofs.Common.{◌≡◌, ℕ, ◌+◌, ◌*◌, ◌<◌, ◌≤◌, ◌==◌, ◌&&◌, ◌||◌, false, Some, None, [], ◌∷◌, ◌++◌, length, vec_capacity, refl, sym, ap, ◌∙◌, arith, IsTrue, append_assoc}
use Rattle.std.proofs.lemmas.Bool.Decides.{nat_tests}
use Rattle.std.proofs.lemmas.List.{append-nil, length_push}
use Rattle.std.proofs.lemmas.List.Folds.{list_any-append}
use Rattle.std.specs.Option.{option_and_then}
use Rattle.pesp_base.specs.Limits.{greatest_number}
use Rattle.pesp_base.specs.Tensions.{residue}
use Rattle.pesp_instance.specs.declared.event.Event.{Event}
use Rattle.pesp_instance.specs.Network.{IsEvent, IsNetwork, Network, event_of, window_of}
use Rattle.pesp_instance.proofs.Rising.{IfSome-with_number, number-with_number}
use Rattle.pesp_domains.specs.Sweeps.{Pairs}
use Rattle.pesp_counts_arcs.specs.declared.end.Ranges.{Ranges}
use Rattle.pesp_counts_supports.specs.declared.trail.Placed.{Placed}
use Rattle.pesp_counts_supports.specs.Counts.{has_at}
use Rattle.std.specs.Global.{Vec}
use Rattle.pesp_counts_supports.specs.Restored.{HasRoom, IsBrought, of_pair, of_range, of_ranges}
use Rattle.pesp_counts_supports.specs.Supports.{Keeps, Supports, held, is_in, joined}
use Rattle.pesp_counts_supports.proofs.Taken.{found_in, once_then}

-- nothing comes
pub brought_none : (may : Pairs) (s : Supports) (back : Vec Placed) → ((p r : ℕ) → IsTrue (may p r) → IsTrue (has_at s.rows p r)) → IsBrought may s s back back
brought_none may s back there =
    record {
      more = [];
      listed = sym (append-nil back.items);
      rows = λ p r. grind (arith, there p r);
      just = λ p r. grind (arith, there p r);
      once = λ i j d lt within. absurd (omega (arith, within));
      period = refl;
      counts = refl;
      counted = refl;
      many = refl;
      trail = refl;
      for_all = refl;
      sums = refl;
      room = refl;
      held = refl;
    }

-- one pair comes
pub brought_one : (before after : Supports) (back now : Vec Placed) (place residue : ℕ) → has_at before.rows place residue ≡ false
    → now.items ≡ back.items ++ record { place = place; residue = residue } ∷ [] → vec_capacity now ≡ vec_capacity back
    → ((p r : ℕ) → has_at after.rows p r ≡ joined (has_at before.rows) place residue p r)
    → Keeps before after → after.trail ≡ before.trail → held after.rows ≡ held before.rows + 1
    → IsBrought (of_pair place residue) before after back now
brought_one before after back now place residue absent pushed room rows keeps trail more =
    let x : Placed = record { place = place; residue = residue } in
    let long : length now.items ≡ length back.items + 1 = ap length pushed ∙ length_push back.items x in
    record {
      more = x ∷ [];
      listed = pushed;
      rows = λ p r. grind (arith, nat_tests, rows p r);
      just = λ p r. grind (arith, nat_tests);
      once = λ i j d lt within. absurd (omega (arith, within));
      period = keeps.period;
      counts = keeps.counts;
      counted = keeps.counted;
      many = keeps.many;
      trail = trail;
      for_all = keeps.room;
      sums = keeps.sums;
      room = room;
      held = omega (arith, long, more);
    }

-- what comes is said by another test
pub brought_as : (may other : Pairs) (s t : Supports) (back now : Vec Placed) → ((p r : ℕ) → may p r ≡ other p r) → IsBrought may s t back now → IsBrought other s t back now
brought_as may other s t back now same h =
    record {
      more = h.more;
      listed = h.listed;
      rows = λ p r. grind (arith, h.rows p r, same p r);
      just = λ p r. grind (arith, h.just p r, same p r);
      once = h.once;
      period = h.period;
      counts = h.counts;
      counted = h.counted;
      many = h.many;
      trail = h.trail;
      for_all = h.for_all;
      sums = h.sums;
      room = h.room;
      held = h.held;
    }

-- some come, and then others
pub brought_then : (may other : Pairs) (first second third : Supports) (back mid now : Vec Placed) → IsBrought may first second back mid → IsBrought other second third mid now → IsBrought (λ p r. may p r || other p r) first third back now
brought_then may other first second third back mid now h k =
    let both : (p r : ℕ) → is_in (h.more ++ k.more) p r ≡ (is_in h.more p r || is_in k.more p r) = λ p r. list_any-append (λ (x : Placed). x.place == p && x.residue == r) h.more k.more in
    record {
      more = h.more ++ k.more;
      listed = k.listed ∙ ap (λ xs. xs ++ k.more) h.listed ∙ append_assoc back.items h.more k.more;
      rows = λ p r. grind (arith, h.rows p r, k.rows p r);
      just = λ p r. grind (arith, both p r, h.just p r, k.just p r, h.rows p r);
      once = once_then h.more k.more h.once k.once
          (λ x i j. grind (arith, h.just x.place x.residue, k.just x.place x.residue, h.rows x.place x.residue, found_in h.more x i, found_in k.more x j));
      period = k.period ∙ h.period;
      counts = k.counts ∙ h.counts;
      counted = k.counted ∙ h.counted;
      many = k.many ∙ h.many;
      trail = k.trail ∙ h.trail;
      for_all = k.for_all ∙ h.for_all;
      sums = k.sums ∙ h.sums;
      room = k.room ∙ h.room;
      held = omega (arith, h.held, k.held);
    }

-- nothing else but probes changed
pub brought_keeps : (may : Pairs) (s t : Supports) (back now : Vec Placed) → IsBrought may s t back now → Keeps s t
brought_keeps may s t back now h =
    record {
      period = h.period;
      counts = h.counts;
      counted = h.counted;
      many = h.many;
      room = h.for_all;
      sums = h.sums;
    }

-- the room left is as much as before, less what came
pub room_then : (may : Pairs) (s t : Supports) (back now : Vec Placed) → IsBrought may s t back now → HasRoom s back → HasRoom t now
room_then may s t back now h room =
    let area : length t.rows * t.period ≡ length s.rows * s.period = rw (h.many, h.period) refl in
    omega (arith, area, room, h.held, h.room)

-- ---- ranges

-- one residue more of a range
pub range_step : (place low q p r : ℕ) → low ≤ q → (of_range place low q p r || of_pair place q p r) ≡ of_range place low (q + 1) p r
range_step place low q p r le = grind (arith, nat_tests)

-- no residue of a range
pub range_none : (place low p r : ℕ) → IsTrue (of_range place low low p r) → ⊥
range_none place low p r h = grind (arith, nat_tests)

-- both ranges
pub ranges_both : (place : ℕ) (w : Ranges) (p r : ℕ) → (of_range place w.start w.end p r || of_range place 0 w.wrapped p r) ≡ of_ranges place w p r
ranges_both place w p r = grind (arith, nat_tests)

-- ---- windows of events

-- a number beyond the limit is no event's
pub unwindowed_beyond : (I : Network) (n : ℕ) → IsNetwork I → greatest_number < n → window_of I n ≡ None
unwindowed_beyond I n network beyond =
    elim (event_of I n) as (λ o. event_of I n ≡ o → option_and_then (λ (x : Event). x.window) o ≡ None) [
      | None ↦ λ is. refl
      | Some x ↦ λ is.
          let number = number-with_number (λ (e : Event). e.id) n I.events x is in
          let within = (IfSome-with_number (λ (e : Event). e.id) (IsEvent I.period) n I.events x network.events_within is).number in
          absurd (omega (arith, number, within, beyond))
    ] refl
