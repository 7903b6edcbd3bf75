-- The maps that a network of an instance's domains has a cost for are the members of the instance, at theirs.
use Rattle.std.proofs.Common.{◌≡◌, ℕ, ◌<◌, List, [], ◌∷◌, length, get_or, IsTrue, refl, sym, ◌∙◌, ap, subst, arith, sum_by}
use Rattle.std.specs.List.{All}
use Rattle.std.specs.Map.{values_of}
use Rattle.std.proofs.lemmas.List.Elements.{All-cons, All-contains, All-get_or, All-head, All-nil, All-tail}
use Rattle.std.proofs.lemmas.List.Sums.{sum_by-cons}
use Rattle.pesp_base.specs.declared.activity.Activity.{Activity}
use Rattle.pesp_base.proofs.Laws.{met_is}
use Rattle.pesp_instance.specs.Network.{IsNetwork, Network, admits, event_ids}
use Rattle.pesp_domains.specs.Domains.{InDomains}
use Rattle.pesp_domains.proofs.Laws.{InDomains-admitted}
use Rattle.pesp_tension.specs.Answers.{cost_of, meets}
use Rattle.pesp_tension.specs.Answers as tension
use Rattle.pesp_tension.specs.Timetables.{Times}
use Rattle.pesp_search_network.specs.Arcs.{Arcs, IsCosted, IsMet, has}
use Rattle.pesp_search_network.specs.Arcs as arcs
use Rattle.pesp_search_graph.specs.declared.arc.Arc.{Arc}
use Rattle.pesp_search.specs.Arcs.{AreArcsOf, IsArcOf, IsNetworkOf}
use Rattle.pesp_search.specs.Optima.{IsMember}
use Rattle.pesp_search.specs.Paths.{at, timetable_of}
use Rattle.pesp_search.specs.Nodes.{IsFull}
use Rattle.pesp_search.proofs.Events.{index_of}
use Rattle.pesp_search.proofs.Members.{full_of_member, member_in_domains, member_of_full}
use Rattle.pesp_search.proofs.Moves.{no_pairs}
use Rattle.pesp_search.proofs.Timed.{at_index, index_has_event, values_of-zip}

-- ---- arcs and their activities

-- the time of an end is the residue at its index
time_at_end : (I : Network) (map : List ℕ) (e k : ℕ) → IsNetwork I → length map ≡ length (event_ids I) → k < length (event_ids I) → get_or (event_ids I) k 0 ≡ e → at I map e ≡ get_or map k 0
time_at_end I map e k ok long within is = subst (λ f. at I map f ≡ get_or map k 0) is (at_index I map k ok within (omega (arith, within, long)))

-- an arc costs what its activity does, and is met where that is
cost_same : (I : Network) (map : List ℕ) (a : Activity) (x : Arc) → IsNetwork I → length map ≡ length (event_ids I) → IsArcOf (event_ids I) a x → arcs.cost_in I.period map x ≡ tension.cost_in (timetable_of I map) a
cost_same I map a x ok long is =
    rw (is.span, is.weight, time_at_end I map a.from x.from ok long is.from is.tail, time_at_end I map a.to x.to ok long is.to is.head) refl

meets_same : (I : Network) (map : List ℕ) (a : Activity) (x : Arc) → IsNetwork I → length map ≡ length (event_ids I) → IsArcOf (event_ids I) a x → arcs.meets I.period map x ≡ meets (timetable_of I map) a
meets_same I map a x ok long is =
    rw (is.span, time_at_end I map a.from x.from ok long is.from is.tail, time_at_end I map a.to x.to ok long is.to is.head) refl

costs_same : (I : Network) (map : List ℕ) (activities : List Activity) (xs : List Arc) → IsNetwork I → length map ≡ length (event_ids I) → AreArcsOf (event_ids I) activities xs
    → sum_by (arcs.cost_in I.period map) xs ≡ sum_by (tension.cost_in (timetable_of I map)) activities
costs_same I map [] [] ok long are = refl
costs_same I map [] (x ∷ xs) ok long are = absurd are
costs_same I map (a ∷ activities) [] ok long are = absurd are
costs_same I map (a ∷ activities) (x ∷ xs) ok long are =
    omega (
      arith,
      sum_by-cons (arcs.cost_in I.period map) x xs,
      sum_by-cons (tension.cost_in (timetable_of I map)) a activities,
      cost_same I map a x ok long are.0,
      costs_same I map activities xs ok long are.1,
    )

all_met : (I : Network) (map : List ℕ) (activities : List Activity) (xs : List Arc) → IsNetwork I → length map ≡ length (event_ids I) → AreArcsOf (event_ids I) activities xs
    → All (λ x. IsTrue (arcs.meets I.period map x)) xs → All (λ a. IsTrue (meets (timetable_of I map) a)) activities
all_met I map [] xs ok long are met = All-nil (λ a. IsTrue (meets (timetable_of I map) a))
all_met I map (a ∷ activities) [] ok long are met = absurd are
all_met I map (a ∷ activities) (x ∷ xs) ok long are met =
    All-cons (λ b. IsTrue (meets (timetable_of I map) b)) a activities (sym (meets_same I map a x ok long are.0) ∙ All-head (λ y. IsTrue (arcs.meets I.period map y)) x xs met)
    (all_met I map activities xs ok long are.1 (All-tail (λ y. IsTrue (arcs.meets I.period map y)) x xs met))

all_met_back : (I : Network) (map : List ℕ) (activities : List Activity) (xs : List Arc) → IsNetwork I → length map ≡ length (event_ids I) → AreArcsOf (event_ids I) activities xs
    → All (λ a. IsTrue (meets (timetable_of I map) a)) activities → All (λ x. IsTrue (arcs.meets I.period map x)) xs
all_met_back I map activities [] ok long are met = All-nil (λ x. IsTrue (arcs.meets I.period map x))
all_met_back I map [] (x ∷ xs) ok long are met = absurd are
all_met_back I map (a ∷ activities) (x ∷ xs) ok long are met =
    All-cons (λ y. IsTrue (arcs.meets I.period map y)) x xs (meets_same I map a x ok long are.0 ∙ All-head (λ b. IsTrue (meets (timetable_of I map) b)) a activities met)
    (all_met_back I map activities xs ok long are.1 (All-tail (λ b. IsTrue (meets (timetable_of I map) b)) a activities met))

-- ---- maps and members

-- the residues of a map that meets everything are full times
pub full_of_met : (I : Network) (N : Arcs) (map : List ℕ) → IsNetwork I → IsNetworkOf I N → IsMet N map → IsFull I map
full_of_met I N map ok of is =
    record {
      events = long;
      below = below;
      met = λ a among.
          (met_is I.period a.span (at I map a.from) (at I map a.to) (let low = ok.period_low in omega (arith, low))).0
          (All-contains (λ b. IsTrue (meets (timetable_of I map) b)) I.activities a met among);
      window = λ e event. window e (index_of I e event);
    }
  where
    long : length map ≡ length (event_ids I)
    long = is.long ∙ of.events

    below : All (λ t. t < I.period) map
    below = subst (λ T. All (λ t. t < T) map) of.period is.below

    met : All (λ a. IsTrue (meets (timetable_of I map) a)) I.activities
    met = all_met I map I.activities N.arcs ok long of.arcs (subst (λ T. All (λ x. IsTrue (arcs.meets T map x)) N.arcs) of.period is.met)

    window : (e : ℕ) → (k : ℕ) × (k < length (event_ids I)) × (get_or (event_ids I) k 0 ≡ e) → IsTrue (admits I e (at I map e))
    window e (k, within, same) =
        let low : get_or map k 0 < I.period = All-get_or (λ t. t < I.period) map k 0 (omega (arith, within, long)) below in
        let inside = (of.rows k (get_or map k 0) within low).0 (is.rows k (let n = of.events in omega (arith, within, n))) in
        rw (time_at_end I map e k ok long within same)
        (subst (λ f. IsTrue (admits I f (get_or map k 0))) same (InDomains-admitted I [] (get_or (event_ids I) k 0) (get_or map k 0) inside).window)

-- a map with a cost is a member at that cost
pub member_of_map : (I : Network) (N : Arcs) (map : List ℕ) (cost : ℕ) → IsNetwork I → IsNetworkOf I N → IsCosted N map cost
    → (length map ≡ length (event_ids I)) × IsMember I (timetable_of I map) × (cost_of I (timetable_of I map) ≡ cost)
member_of_map I N map cost ok of is =
    let full = full_of_met I N map ok of is.met in
    let costs = subst (λ T. sum_by (arcs.cost_in T map) N.arcs ≡ cost) of.period is.costs in (
      full.events,
      member_of_full I map ok full,
      sym (costs_same I map I.activities N.arcs ok full.events of.arcs) ∙ costs,
    )

-- the times of a member are a map with its cost
pub map_of_member : (I : Network) (N : Arcs) (map : List ℕ) → IsNetwork I → IsNetworkOf I N → length map ≡ length (event_ids I) → IsMember I (timetable_of I map)
    → IsCosted N map (cost_of I (timetable_of I map))
map_of_member I N map ok of long member =
    record {
      met =
          record {
            long = long ∙ sym of.events;
            below = rw of.period full.below;
            rows = λ v within. inside v (let n = of.events in omega (arith, within, n));
            met = rw of.period (all_met_back I map I.activities N.arcs ok long of.arcs member.met);
          };
      costs = rw of.period (costs_same I map I.activities N.arcs ok long of.arcs);
    }
  where
    full : IsFull I map
    full =
        let w = full_of_member I (timetable_of I map) ok member in
        let same : map ≡ w.0 = sym (values_of-zip (event_ids I) map long) ∙ ap (λ (m : Times). values_of m.entries) w.2 ∙ values_of-zip (event_ids I) w.0 w.1.events in
        rw same w.1

    inside : (v : ℕ) → v < length (event_ids I) → IsTrue (has N v (get_or map v 0))
    inside v within =
        let e : ℕ = get_or (event_ids I) v 0 in
        let low : get_or map v 0 < I.period = All-get_or (λ t. t < I.period) map v 0 (omega (arith, within, long)) full.below in
        let domain = member_in_domains I [] map ok full tt e (index_has_event I v within) in
        (of.rows v (get_or map v 0) within low).1
        (subst (InDomains I [] e) (at_index I map v ok within (omega (arith, within, long))) (subst (λ ps. InDomains I ps e (at I map e)) (no_pairs (event_ids I)) domain))
