-- Events and activities that are given places, and those that are taken back.
use Rattle.std.proofs.Common.{◌≡◌, ◌≢◌, ℕ, ◌+◌, ◌*◌, ◌<◌, ◌≤◌, ◌==◌, ◌&&◌, ◌||◌, nat_lt, Bool, true, false, List, [], Some, None, is_some, Result, Ok, Err, OnOk, IfErr, length, refl, sym, ap, subst, ◌∙◌, inl, inr, arith, nat_le, cond, if◌then◌else◌, ◌∷◌, ◌++◌}
use Rattle.std.proofs.Math.Bool.{and-false, or-false, or-true}
use Rattle.std.specs.List.{Contains}
use Rattle.std.specs.Option.{option_and_then, option_map_or}
use Rattle.std.specs.Result.{is_ok, result_unwrap_or}
use Rattle.std.proofs.lemmas.Bool.{cases_eq, cases_lt, eq-eqb, le-ltb, lt-ltb, ne_eqb, false≢true}
use Rattle.pesp_base.specs.declared.activity.Activity.{Activity}
use Rattle.pesp_base.specs.declared.refusal.Refusal.{Refusal}
use Rattle.pesp_instance.specs.declared.edit.Edit.TheVariants.{AddEvent, DropEvent, AddActivity, DropActivity}
use Rattle.pesp_instance.specs.declared.event.Event.{Event}
use Rattle.pesp_instance.specs.Edited.{IsRefusal, edited, effect}
use Rattle.pesp_instance.specs.Network.{IsNetwork, Network, activity_of, admits, agrees_with, event_of, window_of, has_event, new_event, HasEnds}
use Rattle.pesp_instance.proofs.Rising.{Rises-from_increasing, with_number-put_in, take_out-put_in, Rises}
use Rattle.pesp_domains.specs.declared.pair.Pair.{Pair}
use Rattle.pesp_domains.proofs.Edits.{effect_is, undone, has_put}
use Rattle.pesp_domains.proofs.Families.{not_in_none, here}
use Rattle.pesp_domains.proofs.Laws.{InDomains-admitted}
use Rattle.pesp_counts_arcs.specs.Ends.{end_at, ends_of}
use Rattle.pesp_counts_supports.specs.Counts.{has_at}
use Rattle.pesp_counts.specs.Keeping.{AreFor, AreSettled, IsHousedAt, SeeSame, rows_of}
use Rattle.pesp_counts_supports.specs.Resting.{AreAtRest}
use Rattle.pesp_counts_arcs.specs.Links.{IsChangedAt, IsEndOfPlace, Links, LookSame, StandFor}
use Rattle.pesp_counts_arcs.specs.Places.{place_of}
use Rattle.pesp_counts_supports.specs.Supports.{HaveSameShape, IsRoomier, Supports}
use Rattle.pesp_base.proofs.Tests.{none_from, same_value}
use Rattle.pesp_counts.proofs.Asks.{first_fails}
use Rattle.pesp_counts.proofs.Bridge.{counts_settle, numbered_at, test_of}
use Rattle.pesp_counts.proofs.Carried.{counts_there, for_carried, rest_same, same_period}
use Rattle.pesp_counts.proofs.Union.{still_admitted, tight_settles}
use Rattle.pesp_counts.proofs.Keeping.{domains_same, for_same}
use Rattle.pesp_counts.proofs.Remade.{out_none}
use Rattle.pesp_counts_supports.proofs.Raised.{block_below}
use Rattle.pesp_counts_supports.proofs.Supporters.{supporters_same}
use Rattle.pesp_counts_supports.proofs.Taken.{keeps_none}
use Rattle.std.proofs.lemmas.List.{length-append}
use Rattle.std.proofs.lemmas.List.Elements.{All-contains, Contains-append_right}
use Rattle.pesp_base.specs.Limits.{max_activities}
use Rattle.pesp_base.specs.Numbered.{with_number}
use Rattle.pesp_instance.proofs.PutLast.{none_before, put_last}
use Rattle.pesp_counts_arcs.proofs.StandLaws.{stands_kept}

-- ---- nothing is seen of what was tried

pub look_seen : (links links' : Links) → LookSame links links' → SeeSame links links'
look_seen links links' same =
    record {
      events = same.events;
      ends = λ p k is. same.ends k;
      lists = λ p k is. subst (λ xs. Contains xs k) (same.lists p) is;
    }

pub for_seen : (I : Network) (links links' : Links) (s s' : Supports) → AreFor I links s → StandFor I links' → SeeSame links links' → IsRoomier s s' → length s'.counted ≡ length s'.rows → AreFor I links' s'
for_seen I links links' s s' h stand seen more even =
    for_carried I I links links' s s' h refl stand more even (λ e p at. inl (sym (seen.events e) ∙ at)) (λ p k is. counts_there I links s s' p k h more (seen.lists p k is))

-- more rows and counts are there for the same places
pub for_roomier : (I : Network) (links : Links) (s s' : Supports) → AreFor I links s → IsRoomier s s' → length s'.counted ≡ length s'.rows → AreFor I links s'
for_roomier I links s s' h more even =
    let seen : SeeSame links links = record { events = λ e. refl; ends = λ p k is. refl; lists = λ p k is. is } in
    for_seen I links links s s' h h.stand seen more even

pub settled_seen : (I : Network) (pushes : List Pair) (links links' : Links) (s s' : Supports) → AreSettled I pushes links s → AreFor I links' s' → SeeSame links links' → IsRoomier s s' → AreSettled I pushes links' s'
settled_seen I pushes links links' s s' h fits seen more =
    record {
      network = h.network;
      fits = fits;
      rest = rest_same links links' s s' more h.rest seen.lists seen.ends;
      domains = domains_same I pushes (rows_of links s) (rows_of links' s')
          (λ e r.
          ap (λ o. option_map_or (λ p. has_at s'.rows p r) o false) (seen.events e)
          ∙ ap (λ (test : ℕ → Bool). option_map_or test (place_of links.events e) false) (λ i p. more.rows p r i))
          h.domains;
    }

-- ---- an event more

pub for_housed : (I J : Network) (links links' : Links) (s s' : Supports) (event p : ℕ) → AreFor I links s → StandFor J links' → J.period ≡ I.period → IsHousedAt links links' event p → IsRoomier s s' → length s'.counted ≡ length s'.rows → p < length s'.rows → AreFor J links' s'
for_housed I J links links' s s' event p h stand period at more even low =
    for_carried I J links links' s s' h period stand more even
    (λ e q is.
    elim (cases_eq e event) [
      | inl same ↦ inr (subst (λ n. n < length s'.rows) (same_value (place_of links'.events event) p q at.place (ap (place_of links'.events) (sym same) ∙ is)) low)
      | inr apart ↦ inl (sym (at.others e apart) ∙ is)
    ])
    (λ q k is. counts_there I links s s' q k h more (subst (λ xs. Contains xs k) (at.lists q) is))

or_none : (b c : Bool) → c ≡ false → (b || c) ≡ b
or_none b c none = rw none (or-false b)

module _ (I J : Network) (links links' : Links) (s m n : Supports) (event p : ℕ) (h : AreSettled I [] links s) (network : IsNetwork J) (made : edited I (AddEvent event) ≡ Ok J) (fits : AreFor J links' m) (at : IsHousedAt links links' event p) (more : IsRoomier s m)
    (rows : (q r : ℕ) → has_at n.rows q r ≡ (has_at m.rows q r || (q == p && nat_lt r m.period))) (counted : (q r : ℕ) → has_at n.counted q r ≡ (has_at m.counted q r || (q == p && nat_lt r m.period))) (counts : n.counts ≡ m.counts) (trail : n.trail ≡ []) (shape : HaveSameShape m n) where
  listed : (q k : ℕ) → Contains (ends_of links'.lists q) k → Contains (ends_of links.lists q) k
  listed q k is = subst (λ xs. Contains xs k) (at.lists q) is

  middle : AreAtRest links' m
  middle = rest_same links links' s m more h.rest listed (λ q k is. ap (λ ends. end_at ends k) at.ends)

  same_elsewhere : (b : Bool) (q r : ℕ) → q ≢ p → (b || (q == p && nat_lt r m.period)) ≡ b
  same_elsewhere b q r apart = or_none b (q == p && nat_lt r m.period) (rw (ne_eqb q p apart) refl)

  -- no end looks at the new place
  looks_away : (q k : ℕ) → Contains (ends_of links'.lists q) k → (end_at links'.ends k).looks_at ≢ p
  looks_away q k is same =
      let l = h.fits.stand.only q k (listed q k is) in
      at.fresh _ (l.is_end.looks ∙ ap Some (ap (λ j. (end_at links.ends j).looks_at) (sym l.number) ∙ ap (λ ends. (end_at ends k).looks_at) (sym at.ends) ∙ same))

  stands_away : (q k : ℕ) → Contains (ends_of links'.lists q) k → q ≢ p
  stands_away q k is same = let l = h.fits.stand.only q k (listed q k is) in at.fresh _ (l.is_end.at ∙ ap Some same)

  opened_rest : AreAtRest links' n
  opened_rest =
      record {
        exact = λ q k is.
            rw (shape.period, counts)
            (λ r rl.
            middle.exact q k is r rl
            ∙ sym (supporters_same m.period (has_at m.counted (end_at links'.ends k).looks_at) (has_at n.counted (end_at links'.ends k).looks_at) _ _
            (λ x l. counted _ x ∙ same_elsewhere (has_at m.counted (end_at links'.ends k).looks_at x) (end_at links'.ends k).looks_at x (looks_away q k is)) (λ x l. refl)));
        level = λ q r. counted q r ∙ ap (λ b. b || (q == p && nat_lt r m.period)) (middle.level q r) ∙ sym (rows q r);
        live = λ q k is.
            rw (shape.period, counts)
            (λ r rl here. middle.live q k is r rl (sym (same_elsewhere (has_at m.rows q r) q r (stands_away q k is)) ∙ sym (rows q r) ∙ here));
        below = λ q r i.
            elim (cases_lt r n.period) [
              | inl low ↦ low
              | inr high ↦
                  let over : nat_lt r m.period ≡ false = le-ltb r m.period (omega (arith, high, shape.period)) in
                  let none : (q == p && nat_lt r m.period) ≡ false = rw over (and-false (q == p)) in
                  let l = middle.below q r (sym (or_none (has_at m.rows q r) _ none) ∙ sym (rows q r) ∙ i) in
                  absurd (omega (arith, l, high, shape.period))
            ];
        out = out_none n trail;
      }

  other_event : (e : ℕ) → e ≢ event → event_of J e ≡ event_of I e
  other_event e apart = ap (λ (K : Network). event_of K e) (effect_is I J (AddEvent event) made) ∙ with_number-put_in (λ x. x.id) e (new_event event) I.events ∙ rw (ne_eqb event e (λ same. apart (sym same))) refl

  this_event : event_of J event ≡ Some (new_event event)
  this_event = ap (λ (K : Network). event_of K event) (effect_is I J (AddEvent event) made) ∙ with_number-put_in (λ x. x.id) event (new_event event) I.events ∙ rw (eq-eqb event event refl) refl

  same_row : (e q r : ℕ) → e ≢ event → place_of links.events e ≡ Some q → has_at n.rows q r ≡ has_at s.rows q r
  same_row e q r apart is =
      let away : q ≢ p = λ same. at.fresh e (is ∙ ap Some same) in
      rows q r ∙ same_elsewhere (has_at m.rows q r) q r away ∙ more.rows q r

  after : AreFor J links' n
  after = for_same J links' m n shape fits

  pub opened_settled : AreSettled J [] links' n
  opened_settled =
      let period = same_period I J (AddEvent event) h.network made in
      record {
        network = network;
        fits = after;
        rest = opened_rest;
        domains = tight_settles I J (AddEvent event) (rows_of links s) (rows_of links' n) (rows_of links' n) h.network made refl h.domains
            (λ e r i.
            let q = test_of (λ q. has_at n.rows q r) (place_of links'.events e) i in
            elim (cases_eq e event) [
              | inl same ↦
                  record {
                    of_event = ap (has_event J) same ∙ ap is_some this_event;
                    below = let l = opened_rest.below q.0 r q.2 in omega (arith, l, after.period);
                    window = ap (λ f. admits J f r) same ∙ ap (λ o. agrees_with J.period (option_and_then (λ (x : Event). x.window) o) r) this_event;
                    pushed = λ t j. absurd (not_in_none _ j);
                  }
              | inr apart ↦
                  let there : place_of links.events e ≡ Some q.0 = sym (at.others e apart) ∙ q.1 in
                  let b = numbered_at links.events (has_at s.rows) e q.0 r there ∙ sym (same_row e q.0 r apart there) ∙ q.2 in
                  let a = InDomains-admitted I [] e r ((h.domains.exact e r).0 b) in
                  still_admitted I J (rows_of links s) e r h.domains period b (ap is_some (other_event e apart) ∙ a.of_event)
                  (ap (λ k. agrees_with k (window_of J e) r) period ∙ ap (λ o. agrees_with I.period (option_and_then (λ (x : Event). x.window) o) r) (other_event e apart) ∙ a.window)
            ])
            (λ e r a old.
            elim (cases_eq e event) [
              | inl same ↦
                  let low : nat_lt r m.period ≡ true = lt-ltb r m.period (let l = a.below in omega (arith, l, fits.period)) in
                  numbered_at links'.events (has_at n.rows) e p r (ap (place_of links'.events) same ∙ at.place) ∙ rows p r ∙ rw (eq-eqb p p refl, low) (or-true (has_at m.rows p r))
              | inr apart ↦
                  let b = old (ap is_some (sym (other_event e apart)) ∙ a.of_event) in
                  let q = test_of (λ q. has_at s.rows q r) (place_of links.events e) b in
                  numbered_at links'.events (has_at n.rows) e q.0 r (at.others e apart ∙ q.1) ∙ same_row e q.0 r apart q.1 ∙ q.2
            ])
            (counts_settle J links' after.stand (has_at n.rows) n after.period opened_rest (keeps_none n.period links'.ends links'.lists (has_at n.rows)));
      }

-- ---- an event is taken away again

pub dropped_event_again : (I J : Network) (e : ℕ) → IsNetwork I → edited I (AddEvent e) ≡ Ok J → edited J (DropEvent e) ≡ Ok I
dropped_event_again I J e network made = by (edited J (DropEvent e)) refl
  where
    by : (r : Result Network Refusal) → edited J (DropEvent e) ≡ r → edited J (DropEvent e) ≡ Ok I
    by (Ok K) is = is ∙ ap Ok (undone I J K e (Ok tt) network made is tt)
    by (Err refusal) is =
        let w : record I { period = I.period + 1 } ≡ I = undone I J (record I { period = I.period + 1 }) e (Err refusal) network made tt (inl is) in
        let n : I.period + 1 ≡ I.period = ap (λ (K : Network). K.period) w in
        absurd (omega (arith, n))

pub new_event_of : (I J : Network) (e : ℕ) → edited I (AddEvent e) ≡ Ok J → has_event I e ≡ false
new_event_of I J e made = first_fails _ _ _ _ J made

-- what is seen once it is away
pub dropped_seen : (I : Network) (links links' links'' : Links) (event p : ℕ) → has_event I event ≡ false → StandFor I links'' → place_of links.events event ≡ None → IsHousedAt links links' event p → ((e : ℕ) → e ≢ event → place_of links''.events e ≡ place_of links'.events e) → links''.ends ≡ links'.ends → links''.lists ≡ links'.lists → SeeSame links links''
dropped_seen I links links' links'' event p none stand absent at others ends lists =
    record {
      events = λ e.
          elim (cases_eq e event) [
            | inl same ↦
                let gone : place_of links''.events event ≡ None = none_from (place_of links''.events event) (stand.of_events event ∙ none) in
                ap (place_of links''.events) same ∙ gone ∙ sym absent ∙ ap (place_of links.events) (sym same)
            | inr apart ↦ others e apart ∙ at.others e apart
          ];
      ends = λ q k is. ap (λ xs. end_at xs k) (ends ∙ at.ends);
      lists = λ q k is. subst (λ xs. Contains xs k) (at.lists q) (subst (λ ls. Contains (ends_of ls q) k) lists is);
    }

-- ---- an activity more

pub for_linked_more : (I J : Network) (links links' : Links) (s s' : Supports) (q : ℕ) → AreFor I links s → StandFor J links' → J.period ≡ I.period → IsChangedAt links links' q → IsRoomier s s' → length s'.counted ≡ length s'.rows → length links'.ends * s.period ≤ length s'.counts → AreFor J links' s'
for_linked_more I J links links' s s' q h stand period changed more even room =
    for_carried I J links links' s s' h period stand more even (λ e p at. inl (sym (changed.events e) ∙ at))
    (λ p k is. let b = block_below s.period k (length links'.ends) (stand.shared.within p k is) in omega (arith, b, room))

-- what is seen once its ends are away again
pub unlinked_seen : (links links' links'' : Links) (q : ℕ) → IsChangedAt links links' q → IsChangedAt links' links'' q → ((p k : ℕ) → Contains (ends_of links''.lists p) k → IsEndOfPlace q k → ⊥) → SeeSame links links''
unlinked_seen links links' links'' q made dropped gone =
    record {
      events = λ e. dropped.events e ∙ made.events e;
      ends = λ p k is. dropped.ends k (gone p k is) ∙ made.ends k (gone p k is);
      lists = λ p k is. made.listed p k (dropped.listed p k is (gone p k is)) (gone p k is);
    }

-- ---- an activity is taken away again

pub dropped_activity_again : (I J : Network) (a : Activity) → IsNetwork I → edited I (AddActivity a) ≡ Ok J → edited J (DropActivity a.id) ≡ Ok I
dropped_activity_again I J a network made =
    let none : activity_of I a.id ≡ None = none_from (activity_of I a.id) (first_fails _ _ _ _ J made) in
    let there_is : activity_of (effect I (AddActivity a)) a.id ≡ Some a = with_number-put_in (λ (b : Activity). b.id) a.id a I.activities ∙ rw (eq-eqb a.id a.id refl) refl in
    let back : edited (effect I (AddActivity a)) (DropActivity a.id) ≡ Ok I =
    rw there_is (ap (λ xs. Ok (record I { activities = xs })) (take_out-put_in (λ (b : Activity). b.id) a I.activities (Rises-from_increasing (λ (b : Activity). b.id) I.activities network.activities_rise) none))
    in
    ap (λ (K : Network). edited K (DropActivity a.id)) (effect_is I J (AddActivity a) made) ∙ back

pub undone_activity : (I J K : Network) (a : Activity) (answer : Result (Unit {0}) Refusal) → IsNetwork I → edited I (AddActivity a) ≡ Ok J → OnOk answer (edited J (DropActivity a.id) ≡ Ok K) → IfErr answer (IsRefusal J (DropActivity a.id)) → K ≡ I
undone_activity I J K a answer network made ok err = by answer (dropped_activity_again I J a network made) ok err
  where
    by : (answer : Result (Unit {0}) Refusal) → edited J (DropActivity a.id) ≡ Ok I → OnOk answer (edited J (DropActivity a.id) ≡ Ok K) → IfErr answer (IsRefusal J (DropActivity a.id)) → K ≡ I
    by (Ok done) back ok err = ap (λ r. result_unwrap_or r K) (sym ok ∙ back)
    by (Err refusal) back ok (inl refused) = absurd (false≢true (ap is_ok (sym refused ∙ back)))
    by (Err refusal) back ok (inr memory) = absurd (false≢true memory.1)

pub activity_period : (I J : Network) (a : Activity) → edited I (AddActivity a) ≡ Ok J → J.period ≡ I.period
activity_period I J a made = ap (λ (K : Network). K.period) (effect_is I J (AddActivity a) made)

-- an event that had a place is not the added one
pub opened_places : (I J : Network) (links : Links) (event e p : ℕ) → edited I (AddEvent event) ≡ Ok J → StandFor I links → place_of links.events e ≡ Some p → e ≢ event
opened_places I J links event e p made stand is same =
    let there : has_event I event ≡ true = sym (stand.of_events event) ∙ ap is_some (ap (place_of links.events) (sym same) ∙ is) in
    false≢true (sym (new_event_of I J event made) ∙ there)

-- ---- events, one after another

has_push : (xs : List Event) (x : Event) (e : ℕ) → is_some (with_number (λ y. y.id) e (xs ++ x ∷ [])) ≡ (if e == x.id then true else is_some (with_number (λ y. y.id) e xs))
has_push [] x e =
    elim (cases_eq e x.id) [
      | inl same ↦ rw (eq-eqb x.id e (sym same), eq-eqb e x.id same) refl
      | inr apart ↦ rw (ne_eqb x.id e (λ same. apart (sym same)), ne_eqb e x.id apart) refl
    ]
has_push (y ∷ xs) x e =
    elim (y.id == e) as (λ b. is_some (cond b (Some y) (with_number (λ z. z.id) e (xs ++ x ∷ []))) ≡ (if e == x.id then true else is_some (cond b (Some y) (with_number (λ z. z.id) e xs)))) [
      | true ↦ either (e == x.id)
      | false ↦ has_push xs x e
    ]
  where
    either : (b : Bool) → true ≡ (if b then true else true)
    either true = refl
    either false = refl

pub event_absent : (I : Network) (links : Links) (xs : List Event) (x : Event) (rest : List Event) → IsNetwork I → xs ++ x ∷ rest ≡ I.events → StandFor (record { period = I.period; events = xs; activities = [] }) links → place_of links.events x.id ≡ None
event_absent I links xs x rest network is stand =
    let rises : Rises (λ (y : Event). y.id) (xs ++ x ∷ rest) = rw is (Rises-from_increasing (λ (y : Event). y.id) I.events network.events_rise) in
    none_from (place_of links.events x.id) (stand.of_events x.id ∙ ap is_some (none_before (λ (y : Event). y.id) xs x rest rises))

pub for_event : (T : ℕ) (links : Links) (s : Supports) (xs : List Event) (x : Event) → AreFor (effect (record { period = T; events = xs; activities = [] }) (AddEvent x.id)) links s → AreFor (record { period = T; events = xs ++ x ∷ []; activities = [] }) links s
for_event T links s xs x h =
    record {
      period = h.period;
      stand = stands_kept (effect (record { period = T; events = xs; activities = [] }) (AddEvent x.id)) (record { period = T; events = xs ++ x ∷ []; activities = [] }) links refl refl
          (λ e. has_push xs x e ∙ sym (has_put xs (new_event x.id) e)) h.stand;
      fit = h.fit;
      housed = h.housed;
      even = h.even;
    }

-- ---- activities, one after another

module _ (I : Network) (xs : List Activity) (x : Activity) (rest : List Activity) (network : IsNetwork I) (is : xs ++ x ∷ rest ≡ I.activities) where
  abbrev so_far : Network
  so_far = record { period = I.period; events = I.events; activities = xs }

  rises_here : Rises (λ (a : Activity). a.id) (xs ++ x ∷ rest)
  rises_here = rw is (Rises-from_increasing (λ (a : Activity). a.id) I.activities network.activities_rise)

  activity_new : activity_of so_far x.id ≡ None
  activity_new = none_before (λ (a : Activity). a.id) xs x rest rises_here

  pub activity_made : edited so_far (AddActivity x) ≡ Ok (record { period = I.period; events = I.events; activities = xs ++ x ∷ [] })
  activity_made =
      let ends : HasEnds I.events x = All-contains (HasEnds I.events) I.activities x network.ends (subst (λ ys. Contains ys x) is (Contains-append_right xs (x ∷ rest) x (here x rest))) in
      let long = ap length is in
      let few : nat_le (max_activities I.period) (length xs) ≡ false = (let n = network.few_activities in let m = length-append xs (x ∷ rest) in grind (arith, n, m, long)) in
      rw (activity_new, ends.from, ends.to, few) (ap (λ ys. Ok (record { period = I.period; events = I.events; activities = ys })) (put_last (λ (a : Activity). a.id) xs x rest rises_here))
