-- What the search by cycles comes to is told of timetables.
use Rattle.std.proofs.Common.{◌≡◌, ℕ, ◌-◌, ◌^◌, ◌<◌, Bool, true, false, List, [], ◌∷◌, length, Option, Some, None, IfSome, option_map, Result, Ok, Err, IfOk, sym, ◌∙◌, ap, subst, inl, inr, arith}
use Rattle.std.specs.Map.{values_of}
use Rattle.std.proofs.lemmas.Bool.{false≢true}
use Rattle.pesp_instance.specs.Network.{IsNetwork, Network, event_ids}
use Rattle.pesp_instance.proofs.Tables.{length-values-keys as length-values_of}
use Rattle.pesp_domains.specs.declared.pair.Pair.{Pair}
use Rattle.pesp_tension.specs.Answers.{cost_of}
use Rattle.pesp_tension.specs.Timetables.{Times}
use Rattle.pesp_search_least.specs.declared.outcome.Candidate.{Candidate}
use Rattle.pesp_search_least.specs.Order.{IsFirst}
use Rattle.pesp_search_least.specs.Order as maps
use Rattle.pesp_search_least.specs.Sums.{IsLowerBound}
use Rattle.pesp_search_network.specs.Arcs.{Arcs, IsCosted}
use Rattle.pesp_search.specs.Arcs.{IsNetworkOf}
use Rattle.pesp_base.specs.declared.memory.Memory.{Memory}
use Rattle.pesp_search.specs.declared.answer.Best.{Best}
use Rattle.pesp_search.specs.declared.seek.Sought.{Sought}
use Rattle.pesp_search.specs.Optima.{IsBound, IsMember, IsOptimum, Precedes}
use Rattle.pesp_search.specs.Paths.{HasEmpty, IsDeadEnd, timetable_of}
use Rattle.pesp_search.specs.Sought.{IsCap, IsMapOf, IsSought, IsSoughtMap, best_of_map}
use Rattle.pesp_search.specs.Known.{IsFloor}
use Rattle.pesp_search.specs.Tried.{IsEnd, IsFound, IsOutcome}
use Rattle.pesp_search.specs.Nodes.{Before}
use Rattle.pesp_search.proofs.Ends.{dead_size, no_member}
use Rattle.pesp_search.proofs.Maps.{full_of_met, map_of_member, member_of_map}
use Rattle.pesp_search.proofs.Costs.{full_is_cost, known_is_cost, known_small}
use Rattle.pesp_search.proofs.Members.{before_of_precedes, member_timed}
use Rattle.pesp_search.proofs.Moves.{no_pairs}

-- ---- the order of maps and of timetables

-- what comes before, from the least residue on, precedes
precedes_of_before : (xs ys : List ℕ) → Before xs ys 0 → maps.Precedes xs ys
precedes_of_before [] ys is = absurd is
precedes_of_before (x ∷ xs) [] is = absurd (omega (arith, is))
precedes_of_before (x ∷ xs) (y ∷ ys) (inl less) = inl less
precedes_of_before (x ∷ xs) (y ∷ ys) (inr (same, later)) = inr (same, precedes_of_before xs ys later)

-- each member is the timetable of its times
times_of : (I : Network) (n : Times) → IsMember I n → (length (values_of n.entries) ≡ length (event_ids I)) × (n ≡ timetable_of I (values_of n.entries))
times_of I n is = (length-values_of n.entries ∙ ap length is.events, member_timed I n is)

-- its times are a map with its cost
costed : (I : Network) (N : Arcs) (n : Times) → IsNetwork I → IsNetworkOf I N → IsMember I n → IsCosted N (values_of n.entries) (cost_of I n)
costed I N n ok of member =
    let t = times_of I n member in
    rw (ap (cost_of I) t.1) (map_of_member I N (values_of n.entries) ok of t.0 (subst (IsMember I) t.1 member))

-- its cost is below the greatest number
small : (I : Network) (n : Times) → IsNetwork I → IsMember I n → cost_of I n < 2 ^ 64 - 1
small I n ok member =
    let t = times_of I n member in
    let times : List ℕ = values_of n.entries in
    omega (arith, ap (cost_of I) t.1, known_small I times ok, known_is_cost I times ok t.0, full_is_cost I times)

-- ---- ends

-- the first map of least sum is the optimum
optimum_of_first : (I : Network) (N : Arcs) (c : Candidate) → IsNetwork I → IsNetworkOf I N → IsFirst (IsCosted N) c → IsOptimum I (timetable_of I c.map.items) c.cost
optimum_of_first I N c ok of is =
    record {
      member = has.1;
      costs = has.2;
      least = λ n member. is.least.least (values_of n.entries) (cost_of I n) (costed I N n ok of member);
      first = λ n member before.
          let t = times_of I n member in
          let earlier : Precedes (timetable_of I (values_of n.entries)).entries (timetable_of I c.map.items).entries = subst (λ (m : Times). Precedes m.entries (timetable_of I c.map.items).entries) t.1 before in
          is.first (values_of n.entries) (cost_of I n) (costed I N n ok of member)
          (precedes_of_before (values_of n.entries) c.map.items (before_of_precedes I (values_of n.entries) c.map.items t.0 has.0 earlier));
    }
  where
    has : (length c.map.items ≡ length (event_ids I)) × IsMember I (timetable_of I c.map.items) × (cost_of I (timetable_of I c.map.items) ≡ c.cost)
    has = member_of_map I N c.map.items c.cost ok of is.least.has

-- where no sum is below the cap of a bound there is no member
none_of_bound : (I : Network) (N : Arcs) (bound : Option ℕ) (cap : ℕ) → IsNetwork I → IsNetworkOf I N → IsCap bound cap → IsBound I bound → IsLowerBound (IsCosted N) cap → (m : Times) → IsMember I m → ⊥
none_of_bound I N None cap ok of is bound none m member =
    omega (arith, none (values_of m.entries) (cost_of I m) (costed I N m ok of member), is.below (cost_of I m) (small I m ok member) tt)
none_of_bound I N (Some b) cap ok of is (n, other, within) none m member =
    omega (arith, none (values_of n.entries) (cost_of I n) (costed I N n ok of other), is.below (cost_of I n) (small I n ok other) within)

-- what is sought among maps is told of their timetables
pub sought_of_map : (I : Network) (N : Arcs) (bound : Option ℕ) (cap : ℕ) (is_end : Bool) (found : Option Candidate) → IsNetwork I → IsNetworkOf I N → IsCap bound cap → IsBound I bound
    → IsSoughtMap (IsCosted N) cap is_end found → IsSought I bound is_end (option_map (best_of_map I) found)
sought_of_map I N bound cap true None ok of is known sought = none_of_bound I N bound cap ok of is known sought
sought_of_map I N bound cap true (Some c) ok of is known sought = optimum_of_first I N c ok of sought
sought_of_map I N bound cap false None ok of is known sought = tt
sought_of_map I N bound cap false (Some c) ok of is known sought =
    let has = member_of_map I N c.map.items c.cost ok of sought.0 in
    record { member = has.1; costs = has.2; within = is.within c.cost sought.1 }

-- what is told of a map with its times is told of what was sought
pub sought_told : (I : Network) (bound : Option ℕ) (r : Result Sought Memory) (is_end : Bool) (found : Option Best) → IfOk r (λ (s : Sought). s.best ≡ found) → IfOk r (λ (s : Sought). s.is_end ≡ is_end) → IsSought I bound is_end found
    → IfOk r (λ (s : Sought). IsSought I bound s.is_end s.best)
sought_told I bound (Ok s) is_end found best end is = rw (best, end) is
sought_told I bound (Err e) is_end found best end is = tt

-- what no map undercuts no member does
pub floor_of_map : (I : Network) (N : Arcs) (floor : ℕ) → IsNetwork I → IsNetworkOf I N → IsLowerBound (IsCosted N) floor → IsFloor I floor
floor_of_map I N floor ok of is m member = is (values_of m.entries) (cost_of I m) (costed I N m ok of member)

-- and so it is told with the times
pub sought_floor : (I : Network) (r : Result Sought Memory) (floor : ℕ) → IfOk r (λ (s : Sought). s.floor ≡ floor) → IsFloor I floor → IfOk r (λ (s : Sought). IsFloor I s.floor)
sought_floor I (Ok s) floor same is = rw same is
sought_floor I (Err e) floor same is = tt

-- a map with a cost is one of the instance
map_with_cost : (I : Network) (N : Arcs) (c : Candidate) → IsNetwork I → IsNetworkOf I N → IsCosted N c.map.items c.cost → IsMapOf I c
map_with_cost I N c ok of is =
    let full = full_of_met I N c.map.items ok of is.met in
    record { long = full.events; below = full.below }

-- and each is a map of the instance
pub map_of_sought : (I : Network) (N : Arcs) (cap : ℕ) (is_end : Bool) (found : Option Candidate) → IsNetwork I → IsNetworkOf I N → IsSoughtMap (IsCosted N) cap is_end found → IfSome found (IsMapOf I)
map_of_sought I N cap true None ok of sought = tt
map_of_sought I N cap false None ok of sought = tt
map_of_sought I N cap true (Some c) ok of sought = map_with_cost I N c ok of sought.least.has
map_of_sought I N cap false (Some c) ok of sought = map_with_cost I N c ok of sought.0

-- before the end what is sought is found within the bound
pub found_of_sought : (I : Network) (bound : Option ℕ) (is_end : Bool) (found : Option Best) → is_end ≡ false → IsSought I bound is_end found → IfSome found (IsFound I bound)
found_of_sought I bound true found before sought = absurd (false≢true (sym before))
found_of_sought I bound false found before sought = sought

-- ---- a search that ends without a node

-- what came to its end without a node answers within every limit but 0
pub ended_outcome : (I : Network) (bound limit : Option ℕ) (best : Option Best) → IsEnd I best → (limit ≡ Some 0 → ⊥) → IsOutcome I bound limit false best 0
ended_outcome I bound None best is some = (is, tt)
ended_outcome I bound (Some l) best is some = (is, (omega arith, λ zero. absurd (some (ap Some zero))))

-- and where a domain is empty within 0 too
pub dead_outcome : (I : Network) (bound limit : Option ℕ) → IsNetwork I → IsDeadEnd I [] → IsOutcome I bound limit false None 0
dead_outcome I bound None ok dead = (λ m. no_member I m ok dead, tt)
dead_outcome I bound (Some l) ok dead = (λ m. no_member I m ok dead, (omega arith, λ _. dead_size I dead))

-- with nothing pushed a domain that is empty is so in the whole tree
pub dead_of_empty : (I : Network) (pushes : List Pair) → pushes ≡ [] → HasEmpty I pushes → IsDeadEnd I []
dead_of_empty I pushes none is = subst (HasEmpty I) (none ∙ sym (no_pairs (event_ids I))) is
