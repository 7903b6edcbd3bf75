-- The links follow an edit.
use Rattle.std.proofs.Common.{◌≡◌, ◌≢◌, ℕ, ◌+◌, ◌*◌, ◌<◌, ◌==◌, false, List, Option, Some, None, is_none, is_some, option_map, Ok, IfSome, length, get_or, refl, sym, ap, subst, ◌∙◌, inl, inr, IsTrue, true, arith}
use Rattle.std.specs.List.{Contains}
use Rattle.std.proofs.lemmas.Bool.{false≢true, eq-eqb, ne_eqb}
use Rattle.std.proofs.lemmas.List.Elements.{Contains-get_or}
use Rattle.pesp_base.specs.declared.activity.Activity.{Activity}
use Rattle.pesp_base.specs.Numbered.{change_in}
use Rattle.pesp_instance.proofs.Numbers.{activity_number as id_of}
use Rattle.pesp_instance.specs.declared.edit.Edit.{Edit}
use Rattle.pesp_instance.specs.declared.edit.Edit.TheVariants.{AddEvent, DropEvent, Fix, SetWindow, Unfix, AddActivity, DropActivity, SetSpan, SetWeight, SetEnds}
use Rattle.pesp_instance.specs.Edited.{edited, effect}
use Rattle.pesp_instance.specs.Network.{Network, activity_of, has_event}
use Rattle.pesp_domains.specs.declared.side.Side.TheVariants.{Tail, Head}
use Rattle.pesp_domains.proofs.Families.{not_in_none, there}
use Rattle.pesp_counts_arcs.specs.Ends.{end_at, ends_of}
use Rattle.pesp_counts_arcs.specs.Links.{IsChangedAt, IsEndOfPlace, Links, StandFor, end_number}
use Rattle.pesp_counts_arcs.specs.Places.{place_of, ArePlaces}
use Rattle.pesp_counts_supports.specs.Restoring.{is_spared}
use Rattle.pesp_counts_supports.specs.Supports.{Supports}
use Rattle.pesp_counts.specs.declared.keeper.change.Change.{Change}
use Rattle.pesp_counts.specs.declared.keeper.change.PlacedEvent.{PlacedEvent}
use Rattle.pesp_counts.specs.Changes.{AreSpared, AreStarts, HaveFollowed, IsChange, IsReady, IsRelinked, WereSettled, limited_by, places, recounted_by}
use Rattle.pesp_counts.specs.Keeping.{AreFor, adds}
use Rattle.pesp_counts.specs.Reached.{is_edited, starts}
use Rattle.pesp_counts.proofs.Bridge.{some_of}
use Rattle.pesp_counts.proofs.Carried.{dropped_not, exact_at, for_carried, live_at, place_there, roomier_none, same_period, spared_apart, tail_listed}
use Rattle.pesp_counts_arcs.proofs.StandAround.{head_listed, apart_places}
use Rattle.pesp_counts_arcs.proofs.StandLaws.{stands_fix, stands_unfix, stands_weight, stands_window}
use Rattle.pesp_counts.proofs.Supported.{activity_id, end_of}
use Rattle.std.proofs.Math.Bool.{or-true}
use Rattle.pesp_domains.specs.declared.side.Side.{Side}
use Rattle.pesp_domains.proofs.Edits.{effect_is}
use Rattle.pesp_base.proofs.Tests.{same_value}
use Rattle.pesp_counts_arcs.proofs.StandMembers.{in_change_other, in_take_out, of_change, of_take_out}

-- ---- ends that are left out

eqb_apart : (m n : ℕ) → (m == n) ≡ false → m ≢ n
eqb_apart m n none same = false≢true (sym none ∙ eq-eqb m n same)

-- none where the activities stay
pub spared_none : (I J : Network) (edit : Edit) (links : Links) → edited I edit ≡ Ok J → (effect I edit).activities ≡ I.activities → ((a : Activity) → is_edited edit a ≡ false) → AreSpared I J edit links None
spared_none I J edit links made stay unedited =
    let same = ap (λ (K : Network). K.activities) (effect_is I J edit made) ∙ stay in
    record {
      stays = λ a is _. subst (λ xs. Contains xs a) (sym same) is;
      apart = λ side a q is _ at. refl;
      was = λ side a q is at _. (subst (λ xs. Contains xs a) same is, unedited a);
    }

-- none where the edited one is no more
pub spared_dropped : (I J : Network) (links : Links) (n : ℕ) → edited I (DropActivity n) ≡ Ok J → AreSpared I J (DropActivity n) links None
spared_dropped I J links n made =
    let is_J = ap (λ (K : Network). K.activities) (effect_is I J (DropActivity n) made) in
    record {
      stays = λ a is unedited. subst (λ xs. Contains xs a) (sym is_J) (in_take_out id_of n I.activities a is (eqb_apart a.id n unedited));
      apart = λ side a q is _ at. refl;
      was = λ side a q is at _. let w = of_take_out id_of n I.activities a (subst (λ xs. Contains xs a) is_J is) in (w.0, ne_eqb a.id n w.1);
    }

pub other_ends : (side : Side) (q r : ℕ) → r ≢ q → is_spared (Some q) (end_number side r) ≡ false
other_ends Tail q r apart = let a : 2 * r ≢ 2 * q = λ e. apart (omega (arith, e)) in let b : 2 * r ≢ 2 * q + 1 = λ e. absurd (omega (arith, e)) in rw (ne_eqb (2 * r) (2 * q) a, ne_eqb (2 * r) (2 * q + 1) b) refl
other_ends Head q r apart = let a : 2 * r + 1 ≢ 2 * q = λ e. absurd (omega (arith, e)) in let b : 2 * r + 1 ≢ 2 * q + 1 = λ e. apart (omega (arith, e)) in rw (ne_eqb (2 * r + 1) (2 * q) a, ne_eqb (2 * r + 1) (2 * q + 1) b) refl

pub its_ends : (side : Side) (q : ℕ) → is_spared (Some q) (end_number side q) ≡ true
its_ends Tail q = rw (eq-eqb (2 * q) (2 * q) refl) refl
its_ends Head q = rw (eq-eqb (2 * q + 1) (2 * q + 1) refl) (or-true (2 * q + 1 == 2 * q))

-- those of the activity that is changed
pub spared_changed : (I J : Network) (edit : Edit) (links : Links) (n q : ℕ) (change : Activity → Activity) → ((a : Activity) → (change a).id ≡ a.id) → ((a : Activity) → is_edited edit a ≡ (a.id == n)) → J.activities ≡ change_in id_of n change I.activities → ArePlaces links.activities → place_of links.activities n ≡ Some q → AreSpared I J edit links (Some q)
spared_changed I J edit links n q change keeps which is_J paired at =
    record {
      stays = λ a is unedited. subst (λ xs. Contains xs a) (sym is_J) (in_change_other id_of n change I.activities a is (eqb_apart a.id n (sym (which a) ∙ unedited)));
      apart = λ side a r is unedited at'. other_ends side q r (apart_places links.activities a.id n q r paired (eqb_apart a.id n (sym (which a) ∙ unedited)) at at');
      was = λ side a r is at' unspared.
          let w = of_change id_of n change I.activities a (subst (λ xs. Contains xs a) is_J is) in
          elim w.2 [
            | inr stays ↦ (subst (Contains I.activities) stays.1 w.1, which a ∙ ne_eqb a.id n (λ same. stays.0 (ap id_of stays.1 ∙ same)))
            | inl goes ↦
                let id : a.id ≡ n = ap id_of (sym goes.1) ∙ keeps w.0 ∙ goes.0 in
                let same : r ≡ q = same_value (place_of links.activities n) r q (ap (place_of links.activities) (sym id) ∙ at') at in
                absurd (false≢true (sym unspared ∙ ap (λ k. is_spared (Some q) (end_number side k)) same ∙ its_ends side q))
          ];
    }

-- the head of an activity with a place is an end
pub head_low : (I : Network) (links : Links) (n q : ℕ) → StandFor I links → place_of links.activities n ≡ Some q → 2 * q + 1 < length links.ends
head_low I links n q stand at = stand.shared.within _ (2 * q + 1) (head_listed I links n q at stand)

-- the places of the events of an activity are those at which its ends look
pub its_places : (I : Network) (links : Links) (n q : ℕ) → StandFor I links → place_of links.activities n ≡ Some q → (a : Activity) × (activity_of I n ≡ Some a) × (place_of links.events a.from ≡ Some (end_at links.ends (2 * q + 1)).looks_at) × (place_of links.events a.to ≡ Some (end_at links.ends (2 * q)).looks_at)
its_places I links n q stand at =
    let a = some_of (activity_of I n) (sym (stand.of_activities n) ∙ ap is_some at) in
    let id = activity_id I n a.0 a.1 in
    let tail = end_of I links n q Tail a.0 stand a.1 id at in
    let head = end_of I links n q Head a.0 stand a.1 id at in
    (a.0, a.1, head.1.looks, tail.1.looks)

-- ---- what became of the links

-- they are as they were
still : (I J : Network) (edit : Edit) (links : Links) → recounted_by links edit ≡ None → StandFor J links → ((e : ℕ) → Contains (starts I edit) e → AreSpared I J edit links None) → HaveFollowed I J edit links links
still I J edit links none stand spared =
    record {
      relinked =
          record {
            stand = stand;
            events = λ e _. refl;
            listed = λ p k is _. is;
            ends = λ p k is _. refl;
            tail = λ q is. absurd (false≢true (ap is_some (sym none ∙ is)));
          };
      known = λ p k is. (p, is);
      spared = rw none spared;
    }

pub followed_still : (I J : Network) (links : Links) (edit : Edit) → edited I edit ≡ Ok J → adds edit ≡ false → ((e : ℕ) → edit ≡ DropEvent e → ⊥) → ((n : ℕ) → edit ≡ DropActivity n → ⊥) → ((n : ℕ) (span : _) → edit ≡ SetSpan n span → ⊥) → ((n from to : ℕ) → edit ≡ SetEnds n from to → ⊥) → StandFor I links → HaveFollowed I J edit links links
followed_still I J links (AddEvent e) made adding a b c d stand = absurd (false≢true (sym adding))
followed_still I J links (AddActivity x) made adding a b c d stand = absurd (false≢true (sym adding))
followed_still I J links (DropEvent e) made adding a b c d stand = absurd (a e refl)
followed_still I J links (Fix e t) made adding a b c d stand = still I J (Fix e t) links refl (stands_fix I J links e t made stand) (λ f i. spared_none I J (Fix e t) links made refl (λ a. refl))
followed_still I J links (SetWindow e first length) made adding a b c d stand = still I J (SetWindow e first length) links refl (stands_window I J links e first length made stand) (λ f i. spared_none I J (SetWindow e first length) links made refl (λ a. refl))
followed_still I J links (Unfix e) made adding a b c d stand = still I J (Unfix e) links refl (stands_unfix I J links e made stand) (λ f i. spared_none I J (Unfix e) links made refl (λ a. refl))
followed_still I J links (DropActivity n) made adding a b c d stand = absurd (b n refl)
followed_still I J links (SetSpan n span) made adding a b c d stand = absurd (c n span refl)
followed_still I J links (SetWeight n weight) made adding a b c d stand = still I J (SetWeight n weight) links refl (stands_weight I J links n weight made stand) (λ f i. absurd (not_in_none f i))
followed_still I J links (SetEnds n from to) made adding a b c d stand = absurd (d n from to refl)

-- an event lost its place
pub followed_less : (I J : Network) (n : ℕ) (links links' : Links) → StandFor J links' → ((e : ℕ) → e ≢ n → place_of links'.events e ≡ place_of links.events e) → links'.ends ≡ links.ends → links'.lists ≡ links.lists → HaveFollowed I J (DropEvent n) links links'
followed_less I J n links links' stand others ends lists =
    record {
      relinked =
          record {
            stand = stand;
            events = λ e stays. others e (λ same. stays (ap DropEvent (sym same)));
            listed = λ p k is _. subst (λ xs. Contains (ends_of xs p) k) lists is;
            ends = λ p k is _. ap (λ xs. end_at xs k) ends;
            tail = λ q is. absurd (cc);
          };
      known = λ p k is. (p, subst (λ xs. Contains (ends_of xs p) k) lists is);
      spared = λ e i. absurd (not_in_none e i);
    }

-- an activity lost its place
pub followed_freed : (I J : Network) (n : ℕ) (links links' : Links) (q : ℕ) → edited I (DropActivity n) ≡ Ok J → StandFor J links' → IsChangedAt links links' q → ((p k : ℕ) → Contains (ends_of links'.lists p) k → IsEndOfPlace q k → ⊥) → HaveFollowed I J (DropActivity n) links links'
followed_freed I J n links links' q made stand changed gone =
    record {
      relinked =
          record {
            stand = stand;
            events = λ e _. changed.events e;
            listed = λ p k is _. changed.listed p k is (gone p k is);
            ends = λ p k is _. changed.ends k (gone p k is);
            tail = λ r is. absurd (cc);
          };
      known = λ p k is. (p, changed.listed p k is (gone p k is));
      spared = λ e i. spared_dropped I J links' n made;
    }

-- the ends of an activity changed, or came
pub relinked_changed : (J : Network) (edit : Edit) (links links' : Links) (q : ℕ) → StandFor J links' → IsChangedAt links links' q → (p : ℕ) × Contains (ends_of links'.lists p) (2 * q) → IsRelinked J edit links links' (Some q)
relinked_changed J edit links links' q stand changed tail =
    record {
      stand = stand;
      events = λ e _. changed.events e;
      listed = λ p k is unspared. changed.listed p k is (other k unspared);
      ends = λ p k is unspared. changed.ends k (other k unspared);
      tail = λ r is. let same : q ≡ r = cc in subst (λ x. (p : ℕ) × Contains (ends_of links'.lists p) (2 * x)) same tail;
    }
  where
    other : (k : ℕ) → is_spared (Some q) k ≡ false → IsEndOfPlace q k → ⊥
    other k unspared is = let a = spared_apart q k unspared in elim is [ inl same ↦ a.0 same | inr same ↦ a.1 same ]

-- the ends of the activity of a number changed
pub followed_set : (I J : Network) (edit : Edit) (links links' : Links) (n : ℕ) (change : Activity → Activity) → ((a : Activity) → (change a).id ≡ a.id) → ((a : Activity) → is_edited edit a ≡ (a.id == n)) → J.activities ≡ change_in id_of n change I.activities → recounted_by links edit ≡ place_of links.activities n → is_none (activity_of I n) ≡ false → StandFor I links → StandFor J links' → IfSome (place_of links.activities n) (λ q. IsChangedAt links links' q) → links'.activities ≡ links.activities → ((p k : ℕ) → Contains (ends_of links'.lists p) k → (q : ℕ) × Contains (ends_of links.lists q) k) → HaveFollowed I J edit links links'
followed_set I J edit links links' n change keeps which is_J recounts there stand stand' changed activities known =
    let q = place_there I links n stand there in
    let at = ap (λ places. place_of places n) activities ∙ q.1 in
    record {
      relinked = rw (recounts ∙ q.1)
          (relinked_changed J edit links links' q.0 stand' (rw q.1 at changed) (tail_listed J links' n q.0 stand' at));
      known = known;
      spared = λ e i. rw (recounts ∙ q.1) (spared_changed I J edit links' n q.0 change keeps which is_J stand'.activities at);
    }

-- ---- what that is to the change

module _ (I J : Network) (edit : Edit) (links links' : Links) (spared : Option ℕ) (made : edited I edit ≡ Ok J) (relinked : IsRelinked J edit links links' spared) where
  pub stays : (e : ℕ) → IsTrue (has_event J e) → edit ≡ DropEvent e → ⊥
  stays e is drops = dropped_not I J e (subst (λ (d : Edit). edited I d ≡ Ok J) drops made) e is refl

  -- who has a place had it
  pub had_place : (e p : ℕ) → place_of links'.events e ≡ Some p → place_of links.events e ≡ Some p
  had_place e p at = sym (relinked.events e (stays e (sym (relinked.stand.of_events e) ∙ ap is_some at))) ∙ at

  starts_after : (ps : List ℕ) → AreStarts I edit links ps → AreStarts I edit links' ps
  starts_after ps are =
      record {
        each = λ e p i at. are.each e p i (had_place e p at);
        only = λ p i.
            let w = are.only p i in
            (w.0, w.1, relinked.events w.0 (λ drops. not_in_none w.0 (subst (λ (d : Edit). Contains (starts I d) w.0) drops w.1)) ∙ w.2);
      }

  pub ready : (s : Supports) (change : Change) → WereSettled I J edit links s → AreFor J links' s → AreStarts I edit links (places change.loosened) → option_map (λ (w : PlacedEvent). w.event) change.limited ≡ limited_by edit → ((w : PlacedEvent) → change.limited ≡ Some w → place_of links.events w.event ≡ Some w.place) → change.recounted ≡ spared → IsReady J links' s change × AreStarts I edit links' (places change.loosened)
  ready s change w fits start window limited same =
      let begins = starts_after (places change.loosened) start in (
        record {
          fits = fits;
          rest = rw same
              (record {
                exact = λ p k here unspared. exact_at links links' s s (roomier_none s) k (relinked.ends p k here unspared) (w.settled.rest.exact p k (relinked.listed p k here unspared));
                live = λ p k here unspared. live_at links links' s s (roomier_none s) p k (w.settled.rest.live p k (relinked.listed p k here unspared));
                level = w.settled.rest.level;
                below = w.settled.rest.below;
                trail = w.trail;
              });
          starts = λ k d l. let x = begins.only (get_or (places change.loosened) k d) (Contains-get_or (places change.loosened) k d l) in fits.housed x.0 (get_or (places change.loosened) k d) x.2;
          limited = λ v has.
              relinked.events v.event
              (λ drops.
              let a : Some v.event ≡ limited_by edit = ap (option_map (λ (w : PlacedEvent). w.event)) (sym has) ∙ window in
              false≢true (sym (ap is_some (a ∙ ap limited_by drops))))
              ∙ limited v has;
          listed = λ q has. relinked.tail q (sym same ∙ has);
        },
        begins,
      )

-- the links followed, and what the change asks is to be done
pub followed_ready : (I J : Network) (edit : Edit) (links links' : Links) (s : Supports) (change : Change) → WereSettled I J edit links s → IsChange I edit links change → HaveFollowed I J edit links links' → IsReady J links' s change × AreStarts I edit links' (places change.loosened)
followed_ready I J edit links links' s change w is h =
    let had = had_place I J edit links links' (recounted_by links edit) w.made h.relinked in
    let fits = for_carried I J links links' s s w.settled.fits (same_period I J edit w.settled.network w.made) h.relinked.stand (roomier_none s) w.settled.fits.even (λ e p at. inl (had e p at)) (λ p k i. let q = h.known p k i in w.settled.fits.fit.counts q.0 k q.1) in
    ready I J edit links links' (recounted_by links edit) w.made h.relinked s change w fits is.starts is.window is.limited is.recounted
