-- The ends of an activity come to other events.
use Rattle.std.proofs.Common.{◌≡◌, ℕ, ◌+◌, ◌*◌, ◌<◌, ◌≤◌, ◌↔◌, List, length, Some, Ok, IsTrue, refl, sym, ap, subst, ◌∙◌, inl, inr, arith}
use Rattle.pesp_base.specs.declared.activity.Activity.{Activity}
use Rattle.pesp_instance.specs.declared.edit.Edit.TheVariants as edits
use Rattle.pesp_instance.specs.Edited.{edited}
use Rattle.pesp_instance.specs.Network.{Network}
use Rattle.pesp_domains.specs.declared.side.Side.{Side}
use Rattle.pesp_domains.specs.Domains.{Joins, own}
use Rattle.pesp_counts_arcs.specs.declared.end.End.{End}
use Rattle.pesp_counts_arcs.specs.Ends.{end_at, passes}
use Rattle.pesp_counts_arcs.specs.Links.{AreHoused, AreListedAt, AreUnlisted, IsEndOf, KeepOthers, Links, StandFor, end_number, opposite}
use Rattle.pesp_counts_arcs.specs.Lists.{AreShared, AreStored}
use Rattle.pesp_counts_arcs.specs.Places.{Places, place_of}
use Rattle.pesp_counts_arcs.specs.Shared.{Shared}
use Rattle.pesp_counts_arcs.proofs.StandAround.{looks_at, stands_changed}
use Rattle.pesp_counts_arcs.proofs.StandLaws.{by_side, joins_same, stands_for}
use Rattle.pesp_counts_arcs.proofs.StandMore.{listed_by, new_or_old, was_listed}

-- the ends of a number went from the lists, and came to others
pub housed_moved : (events activities : Places) (ends ends' : List End) (at : Shared) (lists : List (List ℕ)) (at' : Shared) (n q a b : ℕ) → AreHoused events activities ends at → place_of activities n ≡ Some q → length ends' ≡ length ends → at'.items ≡ at.items → AreUnlisted at.lists lists q → AreListedAt lists at'.lists q a b → AreStored at'.items at'.lists → AreHoused events activities ends' at'
housed_moved events activities ends ends' at lists at' n q a b h is many items unlisted listed stored =
    record {
      are_events = h.are_events;
      are_activities = h.are_activities;
      listed_in = stored;
      items = (let few = h.items in omega (arith, few, many, items));
      event_room = λ e p is_at. let low = h.event_room e p is_at in omega (arith, low, listed.many, unlisted.many);
      activity_room = λ m r is_at. let low = h.activity_room m r is_at in omega (arith, low, many);
      owned = λ p k i.
          elim (new_or_old lists at'.lists q a b p k listed i) [
            | inl new ↦ (n, q, is, new)
            | inr old ↦ h.owned p k (unlisted.was p k old)
          ];
    }

abbrev reend : ℕ → ℕ → Activity → Activity
reend from to a = record a { from = from; to = to }

module _ (I : Network) (before : Links) (ends' : List End) (lists lists' : List (List ℕ)) (n from to q from_at to_at : ℕ)
    (at : place_of before.activities n ≡ Some q)
    (from_is : place_of before.events from ≡ Some from_at)
    (to_is : place_of before.events to ≡ Some to_at)
    (tail : end_at ends' (2 * q) ≡ record (end_at before.ends (2 * q)) { looks_at = to_at })
    (head : end_at ends' (2 * q + 1) ≡ record (end_at before.ends (2 * q + 1)) { looks_at = from_at })
    (keep : KeepOthers before.ends ends' q)
    (unlisted : AreUnlisted before.lists lists q)
    (listed : AreListedAt lists lists' q from_at to_at)
    (shared : AreShared (length ends') lists')
    (stand : StandFor I before) where
  abbrev place_at : Side → ℕ
  place_at = by_side (λ s. ℕ) from_at to_at

  moved : (side : Side) (a : Activity) (p : ℕ) → IsEndOf I.period before side a p q → (r : ℕ) × IsEndOf I.period (record before { ends = ends'; lists = lists' }) side (reend from to a) r q
  moved side a p end =
      let old : End = end_at before.ends (end_number side q) in
      let is = by_side (λ s. end_at ends' (end_number s q) ≡ record (end_at before.ends (end_number s q)) { looks_at = place_at (opposite s) }) tail head side in
      let events = by_side (λ s. place_of before.events (own s (reend from to a)) ≡ Some (place_at s)) from_is to_is in (
        place_at side,
        record {
          numbered = end.numbered;
          at = events side;
          listed = listed_by lists lists' q place_at listed side;
          looks = looks_at before.events (reend from to a) place_at (end_at ends' (end_number side q)) events side (ap (λ (e : End). e.looks_at) is);
          mate = ap (λ (e : End). e.mate) is ∙ end.mate;
          first = subst (λ (e : End). e.first < I.period) (sym is) end.first;
          some = subst (λ (e : End). 0 < e.width) (sym is) end.some;
          width = subst (λ (e : End). e.width ≤ I.period) (sym is) end.width;
          joins = λ r s rl sl.
              subst (λ (e : End). IsTrue (passes I.period e r s) ↔ Joins side I.period (reend from to a) r s) (sym is)
              (subst (λ X. IsTrue (passes I.period old r s) ↔ X) (sym (joins_same side I.period a (reend from to a) r s refl)) (end.joins r s rl sl));
        },
      )

  pub ends_moved : (J : Network) → edited I (edits.SetEnds n from to) ≡ Ok J → StandFor J (record before { ends = ends'; lists = lists' })
  ends_moved J ok =
      stands_for I J (edits.SetEnds n from to) (record before { ends = ends'; lists = lists' }) ok
      (stands_changed I before ends' lists' n q (reend from to) (λ a. refl) at shared keep.others
      (λ p k i out. listed.stays p k (unlisted.stays p k i out))
      (λ p k i out. unlisted.was p k (was_listed lists lists' q from_at to_at p k listed i out))
      moved stand)
