-- The pairs that an edit puts back, by number.
use Rattle.std.proofs.Common.{◌≡◌, ◌≢◌, ℕ, ◌+◌, ◌*◌, ◌<◌, ◌≤◌, ◌==◌, ◌&&◌, ◌||◌, eqb, not, true, List, [], Some, Ok, get_or, is_some, length, map, unwrap_or, All, AllPairs, refl, sym, ap, subst, ◌∙◌, inl, inr, arith, IsTrue, eqb→eq, T}
use Rattle.std.specs.List.{Contains, list_any}
use Rattle.std.proofs.lemmas.Bool.{cases_Bool, cases_eq, eq-eqb, false≢true, ne_eqb, or_left, or_right}
use Rattle.std.proofs.lemmas.List.{get_or-map, length-map}
use Rattle.std.proofs.lemmas.List.Elements.{Contains-get_or}
use Rattle.std.proofs.lemmas.Map.Keys.{IsDistinct-from_apart}
use Rattle.std.proofs.lemmas.Map.Steps.{length-le_from_distinct_below}
use Rattle.pesp_instance.specs.declared.edit.Edit.{Edit}
use Rattle.pesp_instance.specs.declared.event.Event.{Event}
use Rattle.pesp_instance.specs.Edited.{edited}
use Rattle.pesp_instance.specs.Network.{IsEvent, IsNetwork, Network, event_of, has_event}
use Rattle.pesp_instance.proofs.Rising.{IfSome-with_number, number-with_number}
use Rattle.pesp_domains.specs.declared.pair.Pair.{Pair}
use Rattle.pesp_domains.specs.Domains.{In}
use Rattle.pesp_domains.specs.Sweeps.{AreDomains, Of, Pairs}
use Rattle.pesp_domains.proofs.Edits.{effect_is}
use Rattle.pesp_domains.proofs.Families.{and_left, and_right, none_passes, passing}
use Rattle.pesp_domains.proofs.Sweeps.{left, swept, swept_at_last}
use Rattle.pesp_counts_supports.specs.declared.trail.Placed.{Placed}
use Rattle.pesp_counts_supports.specs.Resting.{HaveRoom}
use Rattle.pesp_counts_arcs.specs.Links.{Links, StandFor}
use Rattle.pesp_counts.specs.Changes.{AreReached, IsFollowed}
use Rattle.pesp_counts_arcs.specs.Places.{ArePlaces, number_at, place_of}
use Rattle.pesp_counts.specs.Reached.{Reached, starts}
use Rattle.pesp_counts.specs.Restores.{IsEventPlace, Restores, StaysWithin, numbered_pair}
use Rattle.pesp_counts_supports.specs.Supports.{Supports, is_in}
use Rattle.pesp_base.proofs.Tests.{same_value, or_second}
use Rattle.pesp_counts.proofs.Asks.{asks_again}
use Rattle.pesp_counts.proofs.Bridge.{place_is, some_of}
use Rattle.pesp_counts.proofs.ReachLaws.{outside_of}
use Rattle.pesp_counts_supports.proofs.Raised.{block_below, blocks_apart}
use Rattle.pesp_counts_arcs.proofs.StandMembers.{in_map, of_map}
use Rattle.pesp_counts_supports.proofs.Taken.{found_in, stands_in}
use Rattle.pesp_counts.proofs.Union.{reach_covers, reached_nowhere}

-- where no chain begins the empty list has all that is reached
pub reached_none : (I : Network) (edit : Edit) (links : Links) → starts I edit ≡ [] → AreReached I edit links []
reached_none I edit links none =
    record {
      all = λ e p r at reached. absurd (reached_nowhere I edit e r none reached);
      only = λ p r i. absurd (false≢true i);
      once = λ i j d lt l. absurd (omega (arith, l));
    }

-- ---- how many there are

-- different pairs of so many places are not more than the residues there
pub few_placed : (n period : ℕ) (pairs : List Placed) → AllPairs (λ x y. x ≢ y) pairs → ((x : Placed) → Contains pairs x → (x.place < n) × (x.residue < period)) → length pairs ≤ n * period
few_placed n period pairs once within =
    let slot : Placed → ℕ = λ x. x.place * period + x.residue in
    let slots : List ℕ = map slot pairs in
    let long : length slots ≡ length pairs = length-map pairs slot in
    let d : Placed = record { place = 0; residue = 0 } in
    let distinct = IsDistinct-from_apart eqb slots (λ i j e l m.
    let n' : j < length pairs = omega (arith, m, long) in
    let k : i < length pairs = omega (arith, n', l) in
    ne_eqb _ _ (λ same. once i j d l n' (same_slot (get_or pairs i d) (get_or pairs j d) (within _ (Contains-get_or pairs i d k)).1 (within _ (Contains-get_or pairs j d n')).1 (sym (get_or-map slot pairs i d e k) ∙ same ∙ get_or-map slot pairs j d e n')))) in
    let few = length-le_from_distinct_below slots (n * period) distinct
    (λ q h.
    let w = passing (eqb q) slots h in
    let x = of_map slot pairs w.0 w.1 in
    let low = within x.0 x.1 in
    let block = block_below period x.0.place n low.0 in
    let q_is : q ≡ w.0 = eqb→eq q w.0 (subst T (sym w.2) tt) in
    omega (arith, block, low.1, x.2, q_is))
    in
    omega (arith, few, long)
  where
    same_slot : (x y : Placed) → x.residue < period → y.residue < period → x.place * period + x.residue ≡ y.place * period + y.residue → x ≡ y
    same_slot x y xl yl same =
        elim (cases_eq x.place y.place) [
          | inr apart ↦ absurd (blocks_apart period x.place y.place x.residue y.residue apart xl yl same)
          | inl at ↦
              let there : x.residue ≡ y.residue = (let e = ap (λ p. p * period) at in omega (arith, e, same)) in
              ap (λ (q : ℕ). record { place = q; residue = x.residue }) at ∙ ap (λ (q : ℕ). record { place = y.place; residue = q }) there
        ]

-- ---- pairs at the places of events, by number

-- each pair of the list is at the place of an event
abbrev pub AreOfEvents : Links → List Placed → Type 0
AreOfEvents links xs = (x : Placed) → Contains xs x → (e : ℕ) × (place_of links.events e ≡ Some x.place)

module _ (links : Links) (events : ArePlaces links.events) (xs : List Placed) (housed : AreOfEvents links xs) where
  numbers_it : (x : Placed) (i : Contains xs x) → (numbered_pair links x).event ≡ (housed x i).0
  numbers_it x i = ap (λ o. unwrap_or o 0) ((events.paired (housed x i).0 x.place).0 (housed x i).1)

  alike : (x y : Placed) → Contains xs x → Contains xs y → numbered_pair links x ≡ numbered_pair links y → x ≡ y
  alike x y i j same =
      let numbers : (housed x i).0 ≡ (housed y j).0 = sym (numbers_it x i) ∙ ap (λ (p : Pair). p.event) same ∙ numbers_it y j in
      let places : x.place ≡ y.place = same_value (place_of links.events (housed y j).0) x.place y.place (ap (place_of links.events) (sym numbers) ∙ (housed x i).1) (housed y j).1 in
      ap (λ (q : ℕ). record { place = q; residue = x.residue }) places ∙ ap (λ (q : ℕ). record { place = y.place; residue = q }) (ap (λ (p : Pair). p.residue) same)

  -- different pairs have different numbers or residues
  pub once_numbered : AllPairs (λ x y. x ≢ y) xs → AllPairs (λ p q. p ≢ q) (map (numbered_pair links) xs)
  once_numbered once i j d lt l =
      let long = length-map xs (numbered_pair links) in
      let jl : j < length xs = omega (arith, l, long) in
      let il : i < length xs = omega (arith, jl, lt) in
      let o : Placed = record { place = 0; residue = 0 } in
      λ same.
      once i j o lt jl
      (alike (get_or xs i o) (get_or xs j o) (Contains-get_or xs i o il) (Contains-get_or xs j o jl)
      (sym (get_or-map (numbered_pair links) xs i o d il) ∙ same ∙ get_or-map (numbered_pair links) xs j o d jl))

  -- a pair by number is one of the list, at its event's place
  pub of_numbered : (e r : ℕ) → In (map (numbered_pair links) xs) e r → (p : ℕ) × (place_of links.events e ≡ Some p) × IsTrue (is_in xs p r)
  of_numbered e r i =
      let w = of_map (numbered_pair links) xs (record { event = e; residue = r }) i in
      let x = w.0 in
      let number : (housed x w.1).0 ≡ e = sym (numbers_it x w.1) ∙ ap (λ (p : Pair). p.event) w.2 in
      (x.place, ap (place_of links.events) (sym number) ∙ (housed x w.1).1, subst (λ s. IsTrue (is_in xs x.place s)) (ap (λ (p : Pair). p.residue) w.2) (found_in xs x w.1))

  -- and the other way round
  pub in_numbered : (e p r : ℕ) → place_of links.events e ≡ Some p → IsTrue (is_in xs p r) → In (map (numbered_pair links) xs) e r
  in_numbered e p r at i =
      subst (λ f. In (map (numbered_pair links) xs) f r) (ap (λ o. unwrap_or o 0) ((events.paired e p).0 at))
      (in_map (numbered_pair links) xs (record { place = p; residue = r }) (stands_in xs p r i))

-- ---- the pairs that came

module _ (I J : Network) (edit : Edit) (before links : Links) (s0 s : Supports) (back : List Placed) (followed : IsFollowed I J edit before links s0 s back) (made : edited I edit ≡ Ok J) where
  abbrev reached : AreReached I edit links back
  reached = followed.reached

  abbrev stand : StandFor J links
  stand = followed.settled.fits.stand

  its_event : (x : Placed) → Contains back x → (e : ℕ) × (place_of links.events e ≡ Some x.place) × Reached I edit e x.residue
  its_event x i = reached.only x.place x.residue (found_in back x i)

  housed : AreOfEvents links back
  housed x i = let w = its_event x i in (w.0, w.1)

  -- each is of an event
  pub told_places : All (λ x. IsEventPlace links x.place) back
  told_places k d l =
      let x = get_or back k d in
      let w = its_event x (Contains-get_or back k d l) in
      let event : has_event J w.0 ≡ true = sym (stand.of_events w.0) ∙ ap is_some w.1 in
      let found = some_of (event_of J w.0) event in
      let number = number-with_number (λ (e : Event). e.id) w.0 J.events found.0 found.1 in
      let within = (IfSome-with_number (λ (e : Event). e.id) (IsEvent J.period) w.0 J.events found.0 followed.settled.network.events_within found.1).number in
      (w.0, (stand.events.paired w.0 x.place).0 w.1, omega (arith, number, within))

  -- and there is room for them
  pub told_room : (for_back for_restored : ℕ) → HaveRoom s for_back for_restored → length back ≤ for_restored
  told_room for_back for_restored room =
      let fits = followed.settled.fits in
      let few = few_placed (length s.rows) s.period back reached.once
      (λ x i.
      let w = its_event x i in
      let below = (outside_of I edit w.0 x.residue w.2).admitted.below in
      let period = ap (λ (K : Network). K.period) (effect_is I J edit made) in
      (fits.housed w.0 x.place w.1, omega (arith, below, period, fits.period)))
      in
      omega (arith, few, room.restored)

  -- by number they are just those that the edit reaches
  pub told_restored : Restores I edit (map (numbered_pair links) back)
  told_restored =
      record {
        exact = λ e r. (
          λ i.
              let w = of_numbered links stand.events back housed e r i in
              let v = reached.only w.0 r w.2 in
              let event : v.0 ≡ e = same_value (number_at links.events w.0) v.0 e ((stand.events.paired v.0 w.0).0 v.1) ((stand.events.paired e w.0).0 w.1) in
              subst (λ f. Reached I edit f r) event v.2,
          λ h.
              let a = (outside_of I edit e r h).admitted in
              let p = place_is J links stand e (subst (λ (K : Network). IsTrue (has_event K e)) (sym (effect_is I J edit made)) a.of_event) in
              in_numbered links stand.events back housed e p.0 r p.1 (reached.all e p.0 r p.1 h),
        );
        once = once_numbered links stand.events back housed reached.once;
      }

-- ---- the domains after the edit

abbrev in_test : List Pair → Pairs
in_test pairs e r = list_any (λ p. p.event == e && p.residue == r) pairs

test_from : (pairs : List Pair) (e r : ℕ) → In pairs e r → Of (in_test pairs) e r
test_from pairs e r i =
    elim (cases_Bool (in_test pairs e r)) [
      | inl found ↦ found
      | inr none ↦ absurd (none_passes (λ p. p.event == e && p.residue == r) pairs none (record { event = e; residue = r }) i (rw (eq-eqb e e refl, eq-eqb r r refl) refl))
    ]

test_to : (pairs : List Pair) (e r : ℕ) → Of (in_test pairs) e r → In pairs e r
test_to pairs e r h =
    let w = passing (λ p. p.event == e && p.residue == r) pairs h in
    let x = w.0 in
    let a : x.event ≡ e = eqb→eq x.event e (subst T (sym (and_left (x.event == e) (x.residue == r) w.2)) tt) in
    let b : x.residue ≡ r = eqb→eq x.residue r (subst T (sym (and_right (x.event == e) (x.residue == r) w.2)) tt) in
    subst (λ k. Contains pairs (record { event = e; residue = k })) b (subst (λ k. Contains pairs (record { event = k; residue = x.residue })) a w.1)

-- they lie within those before and the restored pairs, but for an added event
pub within_told : (I J : Network) (edit : Edit) (restored : List Pair) → IsNetwork I → edited I edit ≡ Ok J → Restores I edit restored → StaysWithin I edit restored
within_told I J edit restored network made told e r i =
    let n = swept_at_last I [] in
    let before : Pairs = λ e r. list_any (λ p. p.event == e && p.residue == r) (left I [] n.0) in
    let domains : AreDomains I [] before = record { exact = λ e r. swept I [] n.0 n.1 e r } in
    let reached : Pairs = λ e r. before e r || in_test restored e r in
    elim (cases_Bool (has_event I e)) [
      | inr none ↦ inr (inr (ap not none))
      | inl event ↦
          let there = reach_covers I edit before reached network (asks_again I J edit network made) domains
          (record {
            more = λ f s h. or_left (before f s) (in_test restored f s) h;
            all = λ f s h. or_right (before f s) (in_test restored f s) (test_from restored f s ((told.exact f s).1 h));
            only = λ f s h none. (told.exact f s).0 (test_to restored f s (or_second (before f s) (in_test restored f s) h none));
          })
          e r event i
          in
          elim (cases_Bool (before e r)) [
            | inl was ↦ inl ((domains.exact e r).0 was)
            | inr new ↦ inr (inl (test_to restored e r (or_second (before e r) (in_test restored e r) there new)))
          ]
    ]
