-- Members and domains: the pairs of a full list of times that extends the path are in the domains under it; and where every event has a time and a domain that is not empty, the path is full.
use Rattle.std.proofs.Common.{◌≡◌, ℕ, ◌<◌, ◌↔◌, List, [], ◌∷◌, length, get_or, is_some, option_and_then, Some, None, refl, sym, ◌∙◌, ap, subst, inl, inr, arith, IsTrue}
use Rattle.std.specs.List.{All, Contains, zip}
use Rattle.std.specs.Map.{values_of}
use Rattle.std.proofs.lemmas.List.Elements.{All-get_or, All-contains, All-contains_itself}
use Rattle.pesp_base.specs.declared.activity.Activity.{Activity}
use Rattle.pesp_base.specs.Tensions.{IsMet}
use Rattle.pesp_base.proofs.Laws.{met_is}
use Rattle.pesp_instance.specs.declared.event.Event.{Event}
use Rattle.pesp_instance.specs.Network.{Network, IsNetwork, HasEnds, admits, agrees_with, event_ids, event_of, window_of, has_event}
use Rattle.pesp_instance.proofs.Rising.{All-found, IfSome-with_number, number-with_number}
use Rattle.pesp_domains.specs.declared.pair.Pair.{Pair}
use Rattle.pesp_domains.specs.declared.side.Side.{Side}
use Rattle.pesp_domains.specs.declared.side.Side.TheVariants.{Tail, Head}
use Rattle.pesp_domains.specs.Domains.{In, InDomains, Joins, Stands, own, other}
use Rattle.pesp_domains.proofs.Laws.{InDomains-stands, InDomains-admitted}
use Rattle.pesp_tension.specs.Timetables.{Times}
use Rattle.pesp_tension.specs.Answers.{agrees, meets, time_at}
use Rattle.pesp_search.specs.Optima.{IsMember, Precedes}
use Rattle.pesp_search.specs.Paths.{HasEmpty, at, pairs_of, timetable_of}
use Rattle.pesp_search.specs.Nodes.{Before, Extends, HasEach, IsEmptyFrom, IsFull, IsLeastFrom, IsNext, IsSpent, Nothing}
use Rattle.pesp_search.proofs.Timed.{at_index, event_of_pair, events_ascend, extends_in, keys_of-zip, pair_of_event, pairs_only, index_has_event, values_of-zip, zip-of_entries}
use Rattle.pesp_instance.proofs.Tables.{length-values-keys as length-values_of}

-- both ends of an activity of the instance are events
pub ends_of : (I : Network) → IsNetwork I → (a : Activity) → Contains I.activities a → HasEnds I.events a
ends_of I ok a is = All-contains (HasEnds I.events) I.activities a ok.ends is

-- ---- full lists of times and the domains

-- the pairs of a full list of times that extends the path are in the domains under it
pub member_in_domains : (I : Network) (path times : List ℕ) → IsNetwork I → IsFull I times → Extends times path → (e : ℕ) → IsTrue (has_event I e) → InDomains I (pairs_of (event_ids I) path) e (at I times e)
member_in_domains I path times ok full extends e is =
    record {
      family = pairs_of (event_ids I) times;
      supported = record { each = λ f s i. stands f s i (event_of_pair I times f s ok i) };
      member = time_in e is;
    }
  where
    time_in : (f : ℕ) → IsTrue (has_event I f) → In (pairs_of (event_ids I) times) f (at I times f)
    time_in f is = pair_of_event I times f full.events is

    below : (f s : ℕ) → In (pairs_of (event_ids I) times) f s → s < I.period
    below f s i =
        let w = pairs_only (event_ids I) times f s i in
        subst (λ t. t < I.period) w.4 (All-get_or (λ t. t < I.period) times w.0 0 w.2 full.below)

    partner : (side : Side) (a : Activity) → Contains I.activities a → (s : ℕ) × In (pairs_of (event_ids I) times) (other side a) s × Joins side I.period a (at I times (own side a)) s
    partner Tail a is = (at I times a.to, time_in a.to (ends_of I ok a is).to, full.met a is)
    partner Head a is = (at I times a.from, time_in a.from (ends_of I ok a is).from, full.met a is)

    stands : (f s : ℕ) → In (pairs_of (event_ids I) times) f s → IsTrue (has_event I f) × (at I times f ≡ s) → Stands I (pairs_of (event_ids I) path) (In (pairs_of (event_ids I) times)) f s
    stands f s i (event, same) =
        record {
          admitted =
              record {
                of_event = event;
                below = below f s i;
                window = subst (λ t. IsTrue (admits I f t)) same (full.window f event);
                pushed = λ t j. sym (event_of_pair I times f t ok (extends_in (event_ids I) times path f t extends j)).1 ∙ same;
              };
          partner = λ side a is here.
              let w = partner side a is in
              (w.0, w.1, subst (λ r. Joins side I.period a r w.0) (ap (at I times) here ∙ same) w.2);
        }

-- a path of all events, under which no domain is empty, is full
pub path_is_full : (I : Network) (path : List ℕ) → IsNetwork I → length path ≡ length (event_ids I) → All (λ t. t < I.period) path → HasEach I (pairs_of (event_ids I) path) → IsFull I path
path_is_full I path ok long below live =
    record {
      events = long;
      below = below;
      met = λ a is.
          let w = live a.from (ends_of I ok a is).from in
          let partner = (InDomains-stands I pushes a.from w.0 w.1).partner Tail a is refl in
          subst (λ s. IsMet I.period a.span (at I path a.from) s) (sym (only a.to partner.0 partner.1))
          (subst (λ r. IsMet I.period a.span r partner.0) (sym (only a.from w.0 w.1)) partner.2);
      window = λ e is.
          let w = live e is in
          subst (λ t. IsTrue (admits I e t)) (sym (only e w.0 w.1)) (InDomains-admitted I pushes e w.0 w.1).window;
    }
  where
    pushes : List Pair
    pushes = pairs_of (event_ids I) path

    -- what is left for an event is its time
    only : (e r : ℕ) → InDomains I pushes e r → at I path e ≡ r
    only e r d = let w = InDomains-admitted I pushes e r d in w.pushed (at I path e) (pair_of_event I path e long w.of_event)

-- ---- full lists of times and timetables

-- the test of a timetable says whether the activity is met
meets_is : (I : Network) (times : List ℕ) (a : Activity) → IsNetwork I → IsTrue (meets (timetable_of I times) a) ↔ IsMet I.period a.span (at I times a.from) (at I times a.to)
meets_is I times a ok = met_is I.period a.span (at I times a.from) (at I times a.to) (omega (arith, ok.period_low))

-- a timetable that agrees with each event has a time in the window of each number
agreed : (I : Network) (m : Times) (e : ℕ) → All (λ x. IsTrue (agrees m x)) I.events → IsTrue (agrees_with m.period (window_of I e) (time_at m e))
agreed I m e all =
    elim (event_of I e) as (λ o. event_of I e ≡ o → IsTrue (agrees_with m.period (option_and_then (λ x. x.window) o) (time_at m e))) [
      | None ↦ λ _. refl
      | Some x ↦ λ found.
          subst (λ f. IsTrue (agrees_with m.period x.window (time_at m f))) (number-with_number (λ y. y.id) e I.events x found)
          (IfSome-with_number (λ y. y.id) (λ y. IsTrue (agrees m y)) e I.events x all found)
    ] refl

-- a member is the timetable of its times
pub member_timed : (I : Network) (m : Times) → IsMember I m → m ≡ timetable_of I (values_of m.entries)
member_timed I m member =
    ap (λ p. let n : Times = record { period = p; entries = m.entries } in n) member.period
    ∙ ap (λ es. let n : Times = record { period = I.period; entries = es } in n) (sym (zip-of_entries m.entries) ∙ ap (λ ks. zip ks (values_of m.entries)) member.events)

-- the times of a member are full, and it is their timetable
pub full_of_member : (I : Network) (m : Times) → IsNetwork I → IsMember I m → (times : List ℕ) × IsFull I times × (m ≡ timetable_of I times)
full_of_member I m ok member = (values_of m.entries, full, same)
  where
    same : m ≡ timetable_of I (values_of m.entries)
    same = member_timed I m member

    full : IsFull I (values_of m.entries)
    full =
        record {
          events = length-values_of m.entries ∙ ap length member.events;
          below = member.below;
          met = λ a is.
              (meets_is I (values_of m.entries) a ok).0
              (subst (λ n. IsTrue (meets n a)) same (All-contains (λ b. IsTrue (meets m b)) I.activities a member.met is));
          window = λ e _. subst (λ n. IsTrue (agrees_with n.period (window_of I e) (time_at n e))) same (agreed I m e member.window);
        }

-- the timetable of a full list of times is a member
pub member_of_full : (I : Network) (times : List ℕ) → IsNetwork I → IsFull I times → IsMember I (timetable_of I times)
member_of_full I times ok full =
    record {
      period = refl;
      events = keys_of-zip (event_ids I) times full.events;
      below = subst (All (λ t. t < I.period)) (sym (values_of-zip (event_ids I) times full.events)) full.below;
      met = λ k d l.
          let a : Activity = get_or I.activities k d in
          (meets_is I times a ok).1 (full.met a (All-contains_itself I.activities k d l));
      window = λ k d l.
          let x : Event = get_or I.events k d in
          let found : event_of I x.id ≡ Some x = All-found (λ y. y.id) I.events (events_ascend I ok) k d l in
          subst (λ o. IsTrue (agrees_with I.period (option_and_then (λ y. y.window) o) (at I times x.id))) found (full.window x.id (ap is_some found));
    }

-- values beside the same keys are in the same order as the entries
before_of_zipped : (ids xs ys : List ℕ) → Precedes (zip ids xs) (zip ids ys) → Before xs ys 0
before_of_zipped [] xs ys h = absurd h
before_of_zipped (e ∷ ids) [] ys h = absurd h
before_of_zipped (e ∷ ids) (x ∷ xs) [] h = absurd h
before_of_zipped (e ∷ ids) (x ∷ xs) (y ∷ ys) (inl less) = inl less
before_of_zipped (e ∷ ids) (x ∷ xs) (y ∷ ys) (inr (same, later)) = inr (same, before_of_zipped ids xs ys later)

-- times whose timetable precedes that of others come before them
pub before_of_precedes : (I : Network) (xs ys : List ℕ) → length xs ≡ length (event_ids I) → length ys ≡ length (event_ids I) → Precedes (timetable_of I xs).entries (timetable_of I ys).entries → Before xs ys 0
before_of_precedes I xs ys _ _ h = before_of_zipped (event_ids I) xs ys h

-- ---- what to do at a node

-- where some event has no residue left, no full list of times extends the path
pub spent_dead : (I : Network) (pushes : List Pair) (path : List ℕ) (from : ℕ) → IsNetwork I → pushes ≡ pairs_of (event_ids I) path → HasEmpty I pushes → IsSpent Nothing I path from
spent_dead I pushes path from ok is (e, event, dead) =
    record {
      passes = λ times full x _. dead (at I times e) (subst (λ ps. InDomains I ps e (at I times e)) (sym is) (member_in_domains I path times ok full x e event));
    }

-- the time that a full list of times gives the next event is in its domain
pub next_in_domains : (I : Network) (pushes : List Pair) (path times : List ℕ) → IsNetwork I → pushes ≡ pairs_of (event_ids I) path → length path < length (event_ids I) → IsFull I times → Extends times path → InDomains I pushes (get_or (event_ids I) (length path) 0) (get_or times (length path) 0)
next_in_domains I pushes path times ok is room full x =
    let next : ℕ = get_or (event_ids I) (length path) 0 in
    let within : length path < length times = omega (arith, room, full.events) in
    subst (InDomains I pushes next) (at_index I times (length path) ok room within)
    (subst (λ ps. InDomains I ps next (at I times next)) (sym is) (member_in_domains I path times ok full x next (index_has_event I (length path) room)))

-- where the next event has no residue left from here on, no full list of times goes on from here
pub spent_none : (I : Network) (pushes : List Pair) (path : List ℕ) (from : ℕ) → IsNetwork I → pushes ≡ pairs_of (event_ids I) path → length path < length (event_ids I) → IsEmptyFrom I pushes (get_or (event_ids I) (length path) 0) from → IsSpent Nothing I path from
spent_none I pushes path from ok is room none =
    record { passes = λ times full x above. none _ (above (omega (arith, room, full.events))) (next_in_domains I pushes path times ok is room full x) }

-- the least residue of the next event from here on is the one to try
pub next_some : (I : Network) (pushes : List Pair) (path : List ℕ) (from r : ℕ) → IsNetwork I → pushes ≡ pairs_of (event_ids I) path → length path < length (event_ids I) → HasEach I pushes → IsLeastFrom I pushes (get_or (event_ids I) (length path) 0) from r → IsNext Nothing I path from r
next_some I pushes path from r ok is room live (above, inside, between) =
    let next : ℕ = get_or (event_ids I) (length path) 0 in
    record {
      room = room;
      above = above;
      below = (InDomains-admitted I pushes next r inside).below;
      inside = subst (λ ps. InDomains I ps next r) is inside;
      alive = λ (e, event, dead). let w = live e event in dead w.0 (subst (λ ps. InDomains I ps e w.0) is w.1);
      skips = λ times full x low high. between _ low high (next_in_domains I pushes path times ok is room full x);
    }

-- a path of all events is full where each of them has a residue left
pub done_live : (I : Network) (pushes : List Pair) (path : List ℕ) → IsNetwork I → pushes ≡ pairs_of (event_ids I) path → length path ≡ length (event_ids I) → All (λ t. t < I.period) path → HasEach I pushes → IsFull I path
done_live I pushes path ok is long below live =
    path_is_full I path ok long below (subst (HasEach I) is live)
