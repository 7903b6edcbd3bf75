-- The outcomes of edits, from what was found.
use Rattle.std.proofs.Common.{◌≡◌, ℕ, Bool, true, false, if◌then◌else◌, nat_le, length, None, is_some, Ok, Err, refl, inl, inr}
use Rattle.pesp_base.specs.declared.activity.Activity.{Activity}
use Rattle.pesp_base.specs.declared.refusal.Refusal.{Refusal}
use Rattle.pesp_base.specs.declared.refusal.Refusal.TheVariants as no
use Rattle.pesp_base.specs.Limits.{max_activities, max_events}
use Rattle.pesp_instance.specs.Edited.{edited, effect, IsRefusal}
use Rattle.pesp_instance.specs.Network.{Network, activity_of, has_event}
use Rattle.pesp_instance.specs.declared.edit.Edit.TheVariants.{AddActivity, AddEvent}

module _ (I : Network) (a : Activity) where
  -- the number is looked up last, and told first
  abbrev pub or_exists : Bool → Refusal → Refusal
  or_exists b other = if b then no.ActivityExists a.id else other

  abbrev known : Bool
  known = is_some (activity_of I a.id)

  pub add_without_from : has_event I a.from ≡ false → edited I (AddActivity a) ≡ Err (or_exists known (no.NoEvent a.from))
  add_without_from from = either_way known refl
    where
      either_way : (b : Bool) → known ≡ b → edited I (AddActivity a) ≡ Err (or_exists b (no.NoEvent a.from))
      either_way true is = rw is refl
      either_way false is = rw (is, from) refl

  module _ (from : has_event I a.from ≡ true) where
    pub add_without_to : has_event I a.to ≡ false → edited I (AddActivity a) ≡ Err (or_exists known (no.NoEvent a.to))
    add_without_to to = either_way known refl
      where
        either_way : (b : Bool) → known ≡ b → edited I (AddActivity a) ≡ Err (or_exists b (no.NoEvent a.to))
        either_way true is = rw is refl
        either_way false is = rw (is, from, to) refl

    module _ (to : has_event I a.to ≡ true) where
      pub add_to_many : nat_le (max_activities I.period) (length I.activities) ≡ true → edited I (AddActivity a) ≡ Err (or_exists known no.TooManyActivities)
      add_to_many many = either_way known refl
        where
          either_way : (b : Bool) → known ≡ b → edited I (AddActivity a) ≡ Err (or_exists b no.TooManyActivities)
          either_way true is = rw is refl
          either_way false is = rw (is, from, to, many) refl

      pub added : activity_of I a.id ≡ None → nat_le (max_activities I.period) (length I.activities) ≡ false → edited I (AddActivity a) ≡ Ok (effect I (AddActivity a))
      added is_new few = rw (is_new, from, to, few) refl

  pub add_known : known ≡ true → edited I (AddActivity a) ≡ Err (no.ActivityExists a.id)
  add_known is = rw is refl

  -- want of memory, which comes last
  pub add_without_memory : has_event I a.from ≡ true → has_event I a.to ≡ true → nat_le (max_activities I.period) (length I.activities) ≡ false → IsRefusal I (AddActivity a) (or_exists known no.Memory)
  add_without_memory from to few = either_way known refl
    where
      either_way : (b : Bool) → known ≡ b → IsRefusal I (AddActivity a) (or_exists b no.Memory)
      either_way true is = inl (add_known is)
      either_way false is = inr (refl, refl, rw (is, from, to, few) refl)

module _ (I : Network) (e : ℕ) where
  abbrev pub or_event : Bool → Refusal → Refusal
  or_event b other = if b then no.EventExists e else other

  pub add_event_to_many : nat_le (max_events I.period) (length I.events) ≡ true → edited I (AddEvent e) ≡ Err (or_event (has_event I e) no.TooManyEvents)
  add_event_to_many many = either_way (has_event I e) refl
    where
      either_way : (b : Bool) → has_event I e ≡ b → edited I (AddEvent e) ≡ Err (or_event b no.TooManyEvents)
      either_way true is = rw is refl
      either_way false is = rw (is, many) refl

  pub added_event : has_event I e ≡ false → nat_le (max_events I.period) (length I.events) ≡ false → edited I (AddEvent e) ≡ Ok (effect I (AddEvent e))
  added_event is few = rw (is, few) refl

  pub add_known_event : has_event I e ≡ true → edited I (AddEvent e) ≡ Err (no.EventExists e)
  add_known_event is = rw is refl

  pub add_event_without_memory : nat_le (max_events I.period) (length I.events) ≡ false → IsRefusal I (AddEvent e) (or_event (has_event I e) no.Memory)
  add_event_without_memory few = either_way (has_event I e) refl
    where
      either_way : (b : Bool) → has_event I e ≡ b → IsRefusal I (AddEvent e) (or_event b no.Memory)
      either_way true is = inl (add_known_event is)
      either_way false is = inr (refl, refl, rw (is, few) refl)
