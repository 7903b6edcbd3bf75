-- What is so of links, counts and rows as the links follow an edit.
use Rattle.std.proofs.Common.{◌≡◌, ◌≢◌, ℕ, ◌+◌, ◌*◌, ◌<◌, ◌≤◌, ◌==◌, ◌⊎◌, IsTrue, false, Option, Some, None, is_none, is_some, option_map, Ok, length, refl, sym, ap, subst, ◌∙◌, inl, inr, arith}
use Rattle.std.proofs.Math.Bool.{or-true}
use Rattle.std.specs.List.{Contains}
use Rattle.std.proofs.lemmas.Bool.{eq-eqb, false≢true}
use Rattle.pesp_instance.specs.declared.edit.Edit.{Edit}
use Rattle.pesp_instance.specs.declared.edit.Edit.TheVariants.{DropEvent}
use Rattle.pesp_instance.specs.Edited.{edited}
use Rattle.pesp_instance.specs.Network.{IsNetwork, Network, activity_of, has_event}
use Rattle.pesp_domains.proofs.Edits.{effect_is, has_out}
use Rattle.pesp_instance.proofs.Rising.{number-with_number}
use Rattle.pesp_base.specs.declared.activity.Activity.{Activity}
use Rattle.pesp_domains.specs.declared.side.Side.{Side}
use Rattle.pesp_domains.specs.declared.side.Side.TheVariants.{Tail, Head}
use Rattle.pesp_counts_arcs.proofs.StandLaws.{linked_from}
use Rattle.pesp_counts_arcs.specs.Ends.{end_at, ends_of}
use Rattle.pesp_counts_supports.specs.Counts.{IsExactAt, IsLiveAt, has_at}
use Rattle.pesp_counts.specs.Keeping.{AreFor}
use Rattle.pesp_counts_supports.specs.Resting.{AreAtRest}
use Rattle.pesp_counts_arcs.specs.Links.{IsEndOf, Links, StandFor, end_number}
use Rattle.pesp_counts_arcs.specs.Places.{place_of}
use Rattle.pesp_counts_supports.specs.Restoring.{is_spared}
use Rattle.pesp_counts_supports.specs.Supports.{IsRoomier, Supports}
use Rattle.pesp_base.proofs.Tests.{same_value, some_from}
use Rattle.pesp_counts.proofs.Asks.{asks_again, found_in}
use Rattle.pesp_counts.proofs.Bridge.{some_of}
use Rattle.pesp_counts_supports.proofs.Supporters.{supporters_same}

pub same_period : (I J : Network) (edit : Edit) → IsNetwork I → edited I edit ≡ Ok J → J.period ≡ I.period
same_period I J edit network made = ap (λ (K : Network). K.period) (effect_is I J edit made) ∙ (asks_again I J edit network made).period

-- an activity that is there has a place
pub place_there : (I : Network) (links : Links) (n : ℕ) → StandFor I links → is_none (activity_of I n) ≡ false → (q : ℕ) × (place_of links.activities n ≡ Some q)
place_there I links n stand there = some_of (place_of links.activities n) (stand.of_activities n ∙ some_from (activity_of I n) there)

-- links that stand for an instance of the same period have rows and counts, where each event had its place or has a row
pub for_carried : (I J : Network) (links links' : Links) (s s' : Supports) → AreFor I links s → J.period ≡ I.period → StandFor J links' → IsRoomier s s' → length s'.counted ≡ length s'.rows → ((e p : ℕ) → place_of links'.events e ≡ Some p → (place_of links.events e ≡ Some p) ⊎ (p < length s'.rows)) → ((p k : ℕ) → Contains (ends_of links'.lists p) k → k * s.period + s.period ≤ length s'.counts) → AreFor J links' s'
for_carried I J links links' s s' h period stand more even places counts =
    record {
      period = more.period ∙ h.period ∙ sym period;
      stand = stand;
      fit =
          record {
            linked = rw (more.period ∙ h.period ∙ sym period) (linked_from J links' stand);
            rows = λ p k is. let l = stand.only p k is in low _ p l.is_end.at;
            counted = λ p k is. let l = stand.only p k is in let b = low _ p l.is_end.at in omega (arith, b, even);
            counts = λ p k is. rw more.period (counts p k is);
          };
      housed = low;
      even = even;
    }
  where
    low : (e p : ℕ) → place_of links'.events e ≡ Some p → p < length s'.rows
    low e p at =
        elim (places e p at) [
          | inl was ↦ let l = h.housed e p was in omega (arith, l, more.more_rows)
          | inr new ↦ new
        ]

-- ends that were listed before have their counts
pub counts_there : (I : Network) (links : Links) (s s' : Supports) (p k : ℕ) → AreFor I links s → IsRoomier s s' → Contains (ends_of links.lists p) k → k * s.period + s.period ≤ length s'.counts
counts_there I links s s' p k h more is = let l = h.fit.counts p k is in omega (arith, l, more.more_counts)

-- a dropped event is not there
pub dropped_not : (I J : Network) (n : ℕ) → edited I (DropEvent n) ≡ Ok J → (e : ℕ) → IsTrue (has_event J e) → e ≢ n
dropped_not I J n made e stays same =
    let gone : has_event J n ≡ false = ap (λ (K : Network). has_event K n) (effect_is I J (DropEvent n) made) ∙ has_out I.events n n ∙ rw (eq-eqb n n refl) refl in
    false≢true (sym gone ∙ ap (has_event J) (sym same) ∙ stays)

-- ---- the tail of an activity

-- it is listed, under twice its place
pub tail_listed : (I : Network) (links : Links) (n q : ℕ) → StandFor I links → place_of links.activities n ≡ Some q → (p : ℕ) × Contains (ends_of links.lists p) (2 * q)
tail_listed I links n q stand at =
    let a = some_of (activity_of I n) (sym (stand.of_activities n) ∙ ap is_some at) in
    let there = found_in (λ (b : Activity). b.id) n I.activities a.0 a.1 in
    let id : a.0.id ≡ n = number-with_number (λ (b : Activity). b.id) n I.activities a.0 a.1 in
    let w = stand.all Tail a.0 there in
    let same : w.1 ≡ q = same_value (place_of links.activities n) w.1 q (ap (place_of links.activities) (sym id) ∙ w.2.numbered) at in
    (w.0, subst (λ k. Contains (ends_of links.lists w.0) (2 * k)) same w.2.listed)

pub tail_low : (I : Network) (links : Links) (n q : ℕ) → StandFor I links → place_of links.activities n ≡ Some q → 2 * q < length links.ends
tail_low I links n q stand at = let w = tail_listed I links n q stand at in stand.shared.within w.0 (2 * q) w.1

-- what is twice a place
pub twice_of : (o : Option ℕ) (n : ℕ) → option_map (λ k. 2 * k) o ≡ Some n → (k : ℕ) × (o ≡ Some k) × (n ≡ 2 * k)
twice_of None n is = absurd (false≢true (ap is_some is))
twice_of (Some k) n is = (k, refl, (let e : 2 * k ≡ n = cc in sym e))

-- and its mate is the head
pub tail_mate : (I : Network) (links : Links) (p q : ℕ) → StandFor I links → Contains (ends_of links.lists p) (2 * q) → (end_at links.ends (2 * q)).mate ≡ 2 * q + 1
tail_mate I links p q stand is =
    let l = stand.only p (2 * q) is in
    by l.side l.activity l.place l.number l.is_end
  where
    by : (side : Side) (a : Activity) (place : ℕ) → 2 * q ≡ end_number side place → IsEndOf I.period links side a p place → (end_at links.ends (2 * q)).mate ≡ 2 * q + 1
    by Head a place number end = absurd (omega (arith, number))
    by Tail a place number end = ap (λ k. (end_at links.ends k).mate) number ∙ end.mate ∙ ap (λ k. k + 1) (sym number)

-- an end that is not one of an activity
pub spared_apart : (q k : ℕ) → is_spared (Some q) k ≡ false → (k ≢ 2 * q) × (k ≢ 2 * q + 1)
spared_apart q k unspared = (
  λ same. false≢true (sym unspared ∙ rw (eq-eqb k (2 * q) same) refl),
  λ same. false≢true (sym unspared ∙ rw (eq-eqb k (2 * q + 1) same) (or-true (k == 2 * q))),
)

-- ---- counts and rows, as others come beside them

pub roomier_none : (s : Supports) → IsRoomier s s
roomier_none s =
    record {
      period = refl;
      counts = λ i. refl;
      more_counts = omega arith;
      counted = λ p r. refl;
      more_counted = omega arith;
      rows = λ p r. refl;
      more_rows = omega arith;
      trail = refl;
      probes = refl;
    }

module _ (links links' : Links) (s s' : Supports) (more : IsRoomier s s') where
  pub exact_at : (k : ℕ) → end_at links'.ends k ≡ end_at links.ends k → IsExactAt s.period links.ends s.counts (has_at s.counted) k → IsExactAt s'.period links'.ends s'.counts (has_at s'.counted) k
  exact_at k end exact =
      rw (more.period, end)
      (λ r rl.
      more.counts (k * s.period + r) ∙ exact r rl
      ∙ sym (supporters_same s.period (has_at s.counted (end_at links.ends k).looks_at) (has_at s'.counted (end_at links.ends k).looks_at) _ _ (λ x l. more.counted (end_at links.ends k).looks_at x) (λ x l. refl)))

  pub live_at : (p k : ℕ) → IsLiveAt s.period s.counts (has_at s.rows) p k → IsLiveAt s'.period s'.counts (has_at s'.rows) p k
  live_at p k live = rw more.period (λ r rl here. subst (λ n. 0 < n) (sym (more.counts (k * s.period + r))) (live r rl (sym (more.rows p r) ∙ here)))

  -- what is at rest stays so where ends are as before
  pub rest_same : AreAtRest links s → ((p k : ℕ) → Contains (ends_of links'.lists p) k → Contains (ends_of links.lists p) k) → ((p k : ℕ) → Contains (ends_of links'.lists p) k → end_at links'.ends k ≡ end_at links.ends k) → AreAtRest links' s'
  rest_same h lists ends =
      record {
        exact = λ p k is. exact_at k (ends p k is) (h.exact p k (lists p k is));
        level = λ p r. more.counted p r ∙ h.level p r ∙ sym (more.rows p r);
        live = λ p k is. live_at p k (h.live p k (lists p k is));
        below = λ p r i. let l = h.below p r (sym (more.rows p r) ∙ i) in omega (arith, l, more.period);
        out = rw more.trail
            (record {
              out = λ p r i. more.rows p r ∙ h.out.out p r i;
              within = λ i d l. let w = h.out.within i d l in omega (arith, w, more.more_rows);
              below = λ i d l. let w = h.out.below i d l in omega (arith, w, more.period);
              once = h.out.once;
            });
      }
