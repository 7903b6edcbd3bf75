-- What is settled after an edit that adds no event.
use Rattle.std.proofs.Common.{◌≡◌, ℕ, List, [], Option, Some, None, is_some, option_map, refl, sym, ap, subst, ◌∙◌, inl, inr, IsTrue}
use Rattle.std.specs.List.{Contains}
use Rattle.std.proofs.lemmas.Bool.{cases_Bool, cases_eq, false≢true, or_cases, or_left}
use Rattle.pesp_instance.specs.declared.edit.Edit.{Edit}
use Rattle.pesp_instance.specs.Network.{IsNetwork, Network, admits, has_event}
use Rattle.pesp_domains.specs.Domains.{InDomains, IsAdmitted}
use Rattle.pesp_domains.specs.Sweeps.{Of, Pairs, Settles}
use Rattle.pesp_domains.proofs.Edits.{effect_is}
use Rattle.pesp_domains.proofs.Families.{and_left, not_in_none}
use Rattle.pesp_domains.proofs.Laws.{InDomains-admitted}
use Rattle.pesp_domains.proofs.Pushes.{narrowed_keeps, narrowed_passes}
use Rattle.pesp_counts_supports.specs.declared.trail.Placed.{Placed}
use Rattle.pesp_counts_supports.specs.Counts.{has_at}
use Rattle.pesp_counts_supports.specs.Supports.{Supports, is_in, IsRoomier}
use Rattle.pesp_counts_arcs.specs.Links.{Links, IsChangedAt}
use Rattle.pesp_counts_arcs.specs.Places.{ArePlaces, Places, number_at, numbered, place_of}
use Rattle.pesp_counts.specs.declared.keeper.change.Change.{Change}
use Rattle.pesp_counts.specs.declared.keeper.change.PlacedEvent.{PlacedEvent}
use Rattle.pesp_counts.specs.Changes.{AreReached, AreSpared, AreStarts, HaveFollowed, IsChange, IsFollowed, IsPutBack, IsReady, IsRelinked, WereSettled, event_at, left, limited_by, places}
use Rattle.pesp_counts.specs.Keeping.{AreFor, AreSettled, rows_of, SeeSame}
use Rattle.pesp_counts.specs.Reached.{starts}
use Rattle.pesp_counts.specs.Works.{IsWorked}
use Rattle.pesp_base.proofs.Tests.{or_second, same_value}
use Rattle.pesp_counts.proofs.Asks.{asks_again, still_admits}
use Rattle.pesp_counts.proofs.Bridge.{counts_settle, numbered_at, place_is, test_of}
use Rattle.pesp_counts.proofs.Carried.{same_period, tail_listed}
use Rattle.pesp_counts.proofs.Union.{still_admitted, reach_covers}
use Rattle.pesp_counts.proofs.Keeping.{for_same}
use Rattle.pesp_counts.proofs.ReachLaws.{outside_of, restored_reach, restored_reached}
use Rattle.pesp_counts.proofs.Relinked.{followed_ready, had_place, stays, ready, relinked_changed}
use Rattle.pesp_base.specs.declared.activity.Activity.{Activity}
use Rattle.pesp_instance.specs.declared.edit.Edit.TheVariants.{AddActivity}
use Rattle.pesp_counts.specs.declared.keeper.change.Starts.TheVariants.{Nowhere}
use Rattle.pesp_counts.proofs.Changed.{no_start}
use Rattle.pesp_counts.proofs.Gone.{worked_grown}
use Rattle.pesp_counts.proofs.Housed.{for_seen, settled_seen}

-- ---- what a window leaves

left_fewer : (J : Network) (limited : Option PlacedEvent) (S : Pairs) (p r : ℕ) → Of (left J limited S) p r → Of S p r
left_fewer J None S p r i = i
left_fewer J (Some w) S p r i = and_left (S p r) _ i

left_passes : (J : Network) (limited : Option PlacedEvent) (S : Pairs) (e p r : ℕ) → limited ≡ Some (event_at e p) → Of (left J limited S) p r → IsTrue (admits J e r)
left_passes J limited S e p r is i = narrowed_passes S p (admits J e) p r (subst (λ o. Of (left J o S) p r) is i) refl

left_keeps : (J : Network) (events : Places) (limited : Option PlacedEvent) (S : Pairs) (e p r : ℕ) → ArePlaces events → ((w : PlacedEvent) → limited ≡ Some w → place_of events w.event ≡ Some w.place) → place_of events e ≡ Some p → IsTrue (admits J e r) → Of S p r → Of (left J limited S) p r
left_keeps J events None S e p r paired limits at agrees i = i
left_keeps J events (Some w) S e p r paired limits at agrees i =
    narrowed_keeps S w.place (admits J w.event) p r i
    (λ same.
    let here : place_of events w.event ≡ Some p = limits w refl ∙ ap (λ q. Some q) (sym same) in
    let event : e ≡ w.event = same_value (number_at events p) e w.event ((paired.paired e p).0 at) ((paired.paired w.event p).0 here) in
    subst (λ f. IsTrue (admits J f r)) event agrees)

module _ (I J : Network) (edit : Edit) (links links' : Links) (s n : Supports) (change : Change) (back : List Placed) (w : WereSettled I J edit links s) (network : IsNetwork J) (relinked : IsRelinked J edit links links' change.recounted) (ready : IsReady J links' s change) (start : AreStarts I edit links' (places change.loosened)) (others : (f : ℕ) → Contains (starts I edit) f → AreSpared I J edit links' change.recounted) (window : option_map (λ (v : PlacedEvent). v.event) change.limited ≡ limited_by edit) (put : IsPutBack J links' change s n back) where
  h : AreSettled I [] links s
  h = w.settled

  fits : AreFor J links' s
  fits = ready.fits

  had : (e p : ℕ) → place_of links'.events e ≡ Some p → place_of links.events e ≡ Some p
  had = had_place I J edit links links' change.recounted w.made relinked

  reached : AreReached I edit links' back
  reached = restored_reached I J edit links links' s (places change.loosened) change.recounted h w.made fits.stand had start others put.middle back put.restored

  abbrev remains : Pairs
  remains = left J change.limited (has_at put.middle.rows)

  before_at : (e p r : ℕ) → place_of links'.events e ≡ Some p → rows_of links s e r ≡ has_at s.rows p r
  before_at e p r at = numbered_at links.events (has_at s.rows) e p r (had e p at)

  was_event : (e p : ℕ) → place_of links'.events e ≡ Some p → IsTrue (has_event I e)
  was_event e p at = sym (h.fits.stand.of_events e) ∙ ap is_some (had e p at)

  is_event : (e p : ℕ) → place_of links'.events e ≡ Some p → IsTrue (has_event J e)
  is_event e p at = sym (fits.stand.of_events e) ∙ ap is_some at

  -- what was there and is left is in its event's window
  still_in_window : (e p r : ℕ) → place_of links'.events e ≡ Some p → Of remains p r → IsTrue (admits I e r) → IsTrue (admits J e r)
  still_in_window e p r at i agrees = by change.limited refl
    where
      by : (o : Option PlacedEvent) → change.limited ≡ o → IsTrue (admits J e r)
      by None is = still_admits I J edit e r h.network w.made (was_event e p at) (is_event e p at) (λ same. false≢true (ap is_some (ap (option_map (λ (v : PlacedEvent). v.event)) (sym is) ∙ window ∙ same))) agrees
      by (Some v) is =
          elim (cases_eq v.event e) [
            | inl same ↦
                let there : v.place ≡ p = same_value (place_of links'.events e) v.place p (ap (place_of links'.events) (sym same) ∙ ready.limited v is) at in
                left_passes J change.limited (has_at put.middle.rows) e p r (is ∙ ap (λ f. Some (event_at f v.place)) same ∙ ap (λ q. Some (event_at e q)) there) i
            | inr apart ↦
                still_admits I J edit e r h.network w.made (was_event e p at) (is_event e p at)
                (λ same. let both : Some v.event ≡ Some e = ap (option_map (λ (v : PlacedEvent). v.event)) (sym is) ∙ window ∙ same in apart (cc)) agrees
          ]

  admitted : (e r : ℕ) → Of (numbered links'.events remains) e r → IsAdmitted J [] e r
  admitted e r i =
      let p = test_of (λ p. remains p r) (place_of links'.events e) i in
      let there = left_fewer J change.limited (has_at put.middle.rows) p.0 r p.2 in
      elim (cases_Bool (has_at s.rows p.0 r)) [
        | inl was ↦
            let b = before_at e p.0 r p.1 ∙ was in
            let a = InDomains-admitted I [] e r ((h.domains.exact e r).0 b) in
            still_admitted I J (rows_of links s) e r h.domains (same_period I J edit h.network w.made) b (is_event e p.0 p.1) (still_in_window e p.0 r p.1 p.2 a.window)
        | inr new ↦
            let came = or_second (has_at s.rows p.0 r) (is_in back p.0 r) (sym (put.restored.rows p.0 r) ∙ there) new in
            let f = reached.only p.0 r came in
            let same : f.0 ≡ e = same_value (number_at links'.events p.0) f.0 e ((fits.stand.events.paired f.0 p.0).0 f.1) ((fits.stand.events.paired e p.0).0 p.1) in
            subst (λ g. IsAdmitted J [] g r) same (subst (λ (K : Network). IsAdmitted K [] f.0 r) (sym (effect_is I J edit w.made)) (outside_of I edit f.0 r f.2).admitted)
      ]

  covers : (e r : ℕ) → InDomains J [] e r → Of (numbered links'.events remains) e r
  covers e r i =
      let a = InDomains-admitted J [] e r i in
      let p = place_is J links' fits.stand e a.of_event in
      let reach = restored_reach I J edit links links' s (places change.loosened) change.recounted h w.made fits.stand had start others put.middle back put.restored in
      let there : Of (has_at put.middle.rows) p.0 r =
      elim (or_cases (rows_of links s e r) (rows_of links' put.middle e r) (reach_covers I edit (rows_of links s) _ h.network (asks_again I J edit h.network w.made) h.domains reach e r (was_event e p.0 p.1) (subst (λ (K : Network). InDomains K [] e r) (effect_is I J edit w.made) i))) [
        | inl was ↦ put.restored.rows p.0 r ∙ or_left _ _ (sym (before_at e p.0 r p.1) ∙ was)
        | inr now ↦ sym (numbered_at links'.events (has_at put.middle.rows) e p.0 r p.1) ∙ now
      ]
      in
      numbered_at links'.events remains e p.0 r p.1 ∙ left_keeps J links'.events change.limited (has_at put.middle.rows) e p.0 r fits.stand.events ready.limited p.1 a.window there

  settled : AreSettled J [] links' n
  settled =
      let fits' = for_same J links' s n put.shape fits in
      let settles : Settles J (numbered links'.events remains) (rows_of links' n) = counts_settle J links' fits.stand remains n fits'.period put.rest put.keeps in
      record {
        network = network;
        fits = fits';
        rest = put.rest;
        domains = settles.settles [] (record { each = admitted }) (record { each = covers });
      }

  -- the rows are the domains after the edit
  pub followed : IsWorked links' s n back → IsFollowed I J edit links links' s n back
  followed worked =
      record {
        settled = settled;
        reached = reached;
        worked = worked;
        places =
            record {
              places = λ e p at there. relinked.events e (stays I J edit links links' change.recounted w.made relinked e there) ∙ at;
              placed = λ p r i. let v = worked.placed p r i in (v.0, had v.0 p v.1, v.1);
            };
      }

pub followed_put : (I J : Network) (edit : Edit) (links links' : Links) (s n : Supports) (change : Change) (back : List Placed) → WereSettled I J edit links s → IsNetwork J → IsChange I edit links change → HaveFollowed I J edit links links' → IsPutBack J links' change s n back → IsWorked links' s n back → IsFollowed I J edit links links' s n back
followed_put I J edit links links' s n change back w network is h put worked =
    let both = followed_ready I J edit links links' s change w is h in
    followed I J edit links links' s n change back w network (rw is.recounted h.relinked) both.0 both.1 (λ e i. rw is.recounted (h.spared e i)) is.window put worked

-- ---- an activity that is added

module _ (I J : Network) (a : Activity) (links after : Links) (s m : Supports) (place : Option ℕ) (q : ℕ) (w : WereSettled I J (AddActivity a) links s) (fits : AreFor J after m) (at : place_of after.activities a.id ≡ Some q) (changed : IsChangedAt links after q) (grown : IsRoomier s m) (found : place ≡ place_of after.activities a.id) where
  abbrev change : Change
  change = record { loosened = Nowhere; limited = None; recounted = place }

  seen : SeeSame links links
  seen = record { events = λ e. refl; ends = λ p k is. refl; lists = λ p k is. is }

  were : WereSettled I J (AddActivity a) links m
  were =
      let before = for_seen I links links s m w.settled.fits w.settled.fits.stand seen grown fits.even in
      record { made = w.made; settled = settled_seen I [] links links s m w.settled before seen grown; trail = grown.trail ∙ w.trail }

  relinked : IsRelinked J (AddActivity a) links after place
  relinked = subst (IsRelinked J (AddActivity a) links after) (sym (found ∙ at)) (relinked_changed J (AddActivity a) links after q fits.stand changed (tail_listed J after a.id q fits.stand at))

  both : IsReady J after m change × AreStarts I (AddActivity a) after []
  both = ready I J (AddActivity a) links after place w.made relinked m change were fits (no_start I (AddActivity a) links refl) refl (λ v has. absurd (cc)) refl

  pub added_ready : IsReady J after m change
  added_ready = both.0

  pub added_followed : (n : Supports) (back : List Placed) → IsNetwork J → IsPutBack J after change m n back → IsWorked after m n back → IsFollowed I J (AddActivity a) links after s n back
  added_followed n back network put worked =
      let f = followed I J (AddActivity a) links after m n change back were network relinked both.0 both.1 (λ e i. absurd (not_in_none e i)) refl put worked in
      record { settled = f.settled; reached = f.reached; worked = worked_grown after s m n back grown f.worked; places = f.places }
