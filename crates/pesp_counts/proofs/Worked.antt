-- The work of an edit, by number.
use Rattle.std.proofs.Common.{◌≡◌, ℕ, ◌+◌, ◌*◌, ◌≤◌, List, [], ◌∷◌, Some, is_some, Ok, length, map, unwrap_or, sym, ap, subst, ◌∙◌, inl, inr, ◌⊎◌, arith, IsTrue, ◌≢◌, ◌==◌, eqb, ◌++◌, AllPairs, filter}
use Rattle.std.specs.Prelude.{max}
use Rattle.std.proofs.Math.Nat.{le-max_right, mul-add, mul_assoc, mul-le-mul_left, mul-le-mul_right}
use Rattle.std.proofs.lemmas.Bool.{cases_Bool, eq-eqb, ne_eqb}
use Rattle.std.proofs.lemmas.List.{length-map, length-append}
use Rattle.std.proofs.lemmas.List.Sums.{sum_by-cons, length-filter}
use Rattle.pesp_instance.specs.declared.edit.Edit.{Edit}
use Rattle.pesp_instance.specs.Edited.{edited}
use Rattle.pesp_instance.specs.Network.{Network, has_event}
use Rattle.pesp_domains.specs.declared.pair.Pair.{Pair}
use Rattle.pesp_domains.specs.Domains.{In, InDomains, own}
use Rattle.pesp_domains.specs.Sweeps.{Of}
use Rattle.pesp_domains.proofs.Edits.{effect_is}
use Rattle.pesp_domains.proofs.Families.{here, there, in_filter, none_passes, passing}
use Rattle.pesp_counts_supports.specs.declared.trail.Placed.{Placed}
use Rattle.pesp_counts.specs.declared.work.Work.{Work}
use Rattle.pesp_counts_arcs.specs.Ends.{ends_of}
use Rattle.pesp_counts_supports.specs.Counts.{has_at}
use Rattle.pesp_counts.specs.Keeping.{AreSettled}
use Rattle.pesp_counts_arcs.specs.Links.{Links, StandFor, end_number}
use Rattle.pesp_counts.specs.Changes.{AreReached}
use Rattle.pesp_counts_arcs.specs.Places.{place_of, number_at}
use Rattle.pesp_counts.specs.Restores.{AreThePairs, numbered_pair}
use Rattle.pesp_counts_supports.specs.Supports.{Supports, is_in}
use Rattle.pesp_counts.specs.Works.{IsRemoved, IsWork, IsWorked, KeepPlaces, degree, probe_bound, weight_of}
use Rattle.pesp_counts_supports.specs.Spent.{ends_at}
use Rattle.pesp_base.proofs.Tests.{same_value}
use Rattle.pesp_counts.proofs.Bridge.{numbered_at, test_of}
use Rattle.pesp_counts.proofs.Told.{AreOfEvents, in_numbered, of_numbered, once_numbered}
use Rattle.pesp_counts_supports.proofs.Taken.{found_in}
use Rattle.std.specs.List.{Contains, list_any}
use Rattle.std.specs.Cmp.{nat_eq_equiv}
use Rattle.std.specs.Option.{unwrap_or}
use Rattle.std.proofs.lemmas.List.Elements.{Contains-append_left, Contains-append_right}
use Rattle.std.proofs.lemmas.Map.Keys.{IsDistinct-from_apart}
use Rattle.std.proofs.lemmas.Map.Made.{length-le_from_is_member}
use Rattle.pesp_base.specs.declared.activity.Activity.{Activity}
use Rattle.pesp_domains.specs.declared.side.Side.{Side}
use Rattle.pesp_domains.specs.declared.side.Side.TheVariants.{Tail, Head}
use Rattle.pesp_counts_arcs.proofs.StandMembers.{in_map}

-- ---- there are no more ends at an event's place than its degree

-- different numbers that all stand in another list are no more than it is long
pub no_more_within : (xs ys : List ℕ) → AllPairs (λ j k. j ≢ k) xs → ((k : ℕ) → Contains xs k → Contains ys k) → length xs ≤ length ys
no_more_within xs ys once within =
    let distinct = IsDistinct-from_apart eqb xs (λ i j d l m. ne_eqb _ _ (once i j d l m)) in
    length-le_from_is_member nat_eq_equiv xs ys distinct
    (λ q found.
    let w = passing (eqb q) xs found in
    elim (cases_Bool (list_any (eqb q) ys)) [
      | inl there ↦ there
      | inr none ↦ absurd (none_passes (eqb q) ys none w.0 (within w.0 w.1) w.2)
    ])

module _ (J : Network) (links : Links) (e : ℕ) where
  -- the number of an activity's end
  abbrev number_of : Side → Activity → ℕ
  number_of side a = end_number side (unwrap_or (place_of links.activities a.id) 0)

  abbrev tails : List ℕ
  tails = map (number_of Tail) (filter (λ a. a.from == e) J.activities)

  abbrev heads : List ℕ
  heads = map (number_of Head) (filter (λ a. a.to == e) J.activities)

  -- the number of an end that is at the event stands among these
  among : (side : Side) (a : Activity) → Contains J.activities a → own side a ≡ e → Contains (tails ++ heads) (number_of side a)
  among Tail a is at =
      Contains-append_left tails heads _
      (in_map (number_of Tail) (filter (λ b. b.from == e) J.activities) a (in_filter (λ (b : Activity). b.from == e) J.activities a is (eq-eqb a.from e at)))
  among Head a is at =
      Contains-append_right tails heads _
      (in_map (number_of Head) (filter (λ b. b.to == e) J.activities) a (in_filter (λ (b : Activity). b.to == e) J.activities a is (eq-eqb a.to e at)))

  -- and there are as many of these as the degree
  many : length (tails ++ heads) ≡ degree J e
  many =
      let all = length-append tails heads in
      let tail_count = length-map (filter (λ (a : Activity). a.from == e) J.activities) (number_of Tail) in
      let head_count = length-map (filter (λ (a : Activity). a.to == e) J.activities) (number_of Head) in
      let from_count = length-filter (λ (a : Activity). a.from == e) J.activities in
      let to_count = length-filter (λ (a : Activity). a.to == e) J.activities in
      omega (arith, all, tail_count, head_count, from_count, to_count)

-- the ends at an event's place are no more than its degree
pub ends_le_degree : (J : Network) (links : Links) → StandFor J links → (e p : ℕ) → place_of links.events e ≡ Some p → length (ends_of links.lists p) ≤ degree J e
ends_le_degree J links stand e p at =
    let few = no_more_within (ends_of links.lists p) (tails J links e ++ heads J links e) (stand.shared.once p)
    (λ k is.
    let w = stand.only p k is in
    let event : own w.side w.activity ≡ e =
    same_value (number_at links.events p) (own w.side w.activity) e ((stand.events.paired (own w.side w.activity) p).0 w.is_end.at) ((stand.events.paired e p).0 at)
    in
    let number : number_of J links e w.side w.activity ≡ k = ap (λ o. end_number w.side (unwrap_or o 0)) w.is_end.numbered ∙ sym w.number in
    subst (Contains (tails J links e ++ heads J links e)) number (among J links e w.side w.activity w.there event))
    in
    omega (arith, few, many J links e)

-- ---- the bound

-- the ends at the places of pairs, and the pairs themselves, are within the weight
ends_within : (I J : Network) (links : Links) → StandFor J links → (xs : List Placed) → AreOfEvents links xs → ends_at links xs + length xs ≤ weight_of I J (map (numbered_pair links) xs)
ends_within I J links stand [] housed = omega (arith)
ends_within I J links stand (x ∷ xs) housed =
    let rest = ends_within I J links stand xs (λ y i. housed y (there y x xs i)) in
    let w = housed x (here x xs) in
    let number : (numbered_pair links x).event ≡ w.0 = ap (λ o. unwrap_or o 0) ((stand.events.paired w.0 x.place).0 w.1) in
    let few : length (ends_of links.lists x.place) ≤ degree J (numbered_pair links x).event = subst (λ e. length (ends_of links.lists x.place) ≤ degree J e) (sym number) (ends_le_degree J links stand w.0 x.place w.1) in
    let larger = le-max_right (degree I (numbered_pair links x).event) (degree J (numbered_pair links x).event) in
    rw (sum_by-cons (λ (y : Placed). length (ends_of links.lists y.place)) x xs, sum_by-cons (λ (p : Pair). max (degree I p.event) (degree J p.event) + 1) (numbered_pair links x) (map (numbered_pair links) xs))
    (omega (arith, rest, few, larger))

-- what is counted by ends is within what is counted by weights
within_bound : (T B E D V W P : ℕ) → 2 ≤ T → E + B ≤ V → D ≤ W → P ≤ 8 * T + 2 * T * E + T * B + T * D → P ≤ 4 * T * T + 2 * T * (V + W)
within_bound T B E D V W P low first second few =
    let a = mul-le-mul_left T first in
    let a' = mul-add T E B in
    let b = mul-le-mul_left T second in
    let e = mul-le-mul_right T low in
    let f = mul_assoc 2 T E in
    let g = mul_assoc 4 T T in
    let h = mul_assoc 2 T (V + W) in
    let i = mul-add T V W in
    omega (arith, few, a, a', b, e, f, g, h, i)

-- ---- the law

module _ (I J : Network) (edit : Edit) (links0 links1 : Links) (s0 s1 : Supports) (back : List Placed) (made : edited I edit ≡ Ok J) (before : AreSettled I [] links0 s0) (after : AreSettled J [] links1 s1) (worked : IsWorked links1 s0 s1 back) (reached : AreReached I edit links1 back) (kept : KeepPlaces J links0 links1 s1.trail) where
  abbrev stand : StandFor J links1
  stand = after.fits.stand

  stayed : (p r : ℕ) → IsTrue (is_in s1.trail p r) → (e : ℕ) × (place_of links0.events e ≡ Some p) × IsTrue (has_event J e)
  stayed p r i = let w = kept.placed p r i in (w.0, w.1, sym (stand.of_events w.0) ∙ ap is_some w.2)

  abbrev restored : List Pair
  restored = map (numbered_pair links1) back

  abbrev removed : List Pair
  removed = map (numbered_pair links1) s1.trail

  back_housed : AreOfEvents links1 back
  back_housed x i = let w = reached.only x.place x.residue (found_in back x i) in (w.0, w.1)

  trail_housed : AreOfEvents links1 s1.trail
  trail_housed x i = let w = stayed x.place x.residue (found_in s1.trail x i) in (w.0, kept.places w.0 x.place w.1 w.2)

  -- a pair of the trail went
  went : (e r : ℕ) → In removed e r → IsRemoved I edit restored e r
  went e r i =
      let w = of_numbered links1 stand.events s1.trail trail_housed e r i in
      let v = stayed w.0 r w.2 in
      let place1 = kept.places v.0 w.0 v.1 v.2 in
      let same : v.0 ≡ e = same_value _ v.0 e ((stand.events.paired v.0 w.0).0 place1) ((stand.events.paired e w.0).0 w.1) in
      let is_event : IsTrue (has_event J e) = subst (λ f. IsTrue (has_event J f)) same v.2 in
      let place0 : place_of links0.events e ≡ Some w.0 = ap (place_of links0.events) (sym same) ∙ v.1 in
      let was : InDomains I [] e r ⊎ In restored e r =
      elim (worked.only w.0 r w.2) [
        | inl old ↦ inl ((before.domains.exact e r).0 (numbered_at links0.events (has_at s0.rows) e w.0 r place0 ∙ old))
        | inr new ↦ inr (in_numbered links1 stand.events back back_housed e w.0 r w.1 new)
      ]
      in
      let gone : InDomains J [] e r → ⊥ = λ d.
      absurd (cc (sym (numbered_at links1.events (has_at s1.rows) e w.0 r w.1) ∙ (after.domains.exact e r).1 d, after.rest.out.out w.0 r w.2))
      in
      record {
        before = was;
        stays = subst (λ (K : Network). IsTrue (has_event K e)) (effect_is I J edit made) is_event;
        out = subst (λ (K : Network). InDomains K [] e r → ⊥) (effect_is I J edit made) gone;
      }

  -- and what went is in the trail
  in_trail : (e p r : ℕ) → place_of links1.events e ≡ Some p → Of (has_at s0.rows) p r ⊎ IsTrue (is_in back p r) → (InDomains J [] e r → ⊥) → In removed e r
  in_trail e p r at was out =
      elim (cases_Bool (has_at s1.rows p r)) [
        | inl stays ↦ absurd (out ((after.domains.exact e r).0 (numbered_at links1.events (has_at s1.rows) e p r at ∙ stays)))
        | inr gone ↦ in_numbered links1 stand.events s1.trail trail_housed e p r at (worked.gone p r was gone)
      ]

  in_removed : (e r : ℕ) → IsRemoved I edit restored e r → In removed e r
  in_removed e r h =
      let is_event : IsTrue (has_event J e) = subst (λ (K : Network). IsTrue (has_event K e)) (sym (effect_is I J edit made)) h.stays in
      let out : InDomains J [] e r → ⊥ = subst (λ (K : Network). InDomains K [] e r → ⊥) (sym (effect_is I J edit made)) h.out in
      elim h.before [
        | inl old ↦
            let w = test_of (λ p. has_at s0.rows p r) (place_of links0.events e) ((before.domains.exact e r).1 old) in
            in_trail e w.0 r (kept.places e w.0 w.1 is_event) (inl w.2) out
        | inr new ↦
            let w = of_numbered links1 stand.events back back_housed e r new in
            in_trail e w.0 r w.1 (inr w.2) out
      ]

  -- by number the trail has just the pairs that went
  pub removed_told : AreThePairs (IsRemoved I edit restored) removed
  removed_told =
      record {
        exact = λ e r. (went e r, in_removed e r);
        once = once_numbered links1 stand.events s1.trail trail_housed after.rest.out.once;
      }

  pub probes_within : s0.probes ≡ 0 → s1.probes ≤ probe_bound I J restored removed
  probes_within none =
      let first = ends_within I J links1 stand back back_housed in
      let later = ends_within I J links1 stand s1.trail trail_housed in
      let second : ends_at links1 s1.trail ≤ weight_of I J removed = omega (arith, later) in
      let few : s1.probes ≤ 8 * s0.period + 2 * s0.period * ends_at links1 back + s0.period * length back + s0.period * ends_at links1 s1.trail = omega (arith, worked.probes, none) in
      within_bound I.period (length back) (ends_at links1 back) (ends_at links1 s1.trail) (weight_of I J restored) (weight_of I J removed) s1.probes before.network.period_low first second
      (subst (λ t. s1.probes ≤ 8 * t + 2 * t * ends_at links1 back + t * length back + t * ends_at links1 s1.trail) before.fits.period few)

  -- what was counted by place, by number
  pub work_is : (work : Work) → s0.probes ≡ 0 → work.restored ≡ length back → work.removed ≡ length s1.trail → work.probes ≡ s1.probes → IsWork I edit restored work
  work_is work none restores removes probes =
      record {
        removed = removed;
        are = removed_told;
        restores = restores ∙ sym (length-map back (numbered_pair links1));
        removes = removes ∙ sym (length-map s1.trail (numbered_pair links1));
        probes =
            subst (λ (K : Network). work.probes ≤ probe_bound I K restored removed) (effect_is I J edit made)
            (subst (λ n. n ≤ probe_bound I J restored removed) (sym probes) (probes_within none));
      }
