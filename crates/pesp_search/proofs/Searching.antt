-- What holds of a search between its steps, carried through each step.
use Rattle.std.proofs.Common.{◌≡◌, ◌≢◌, ℕ, ◌+◌, ◌<◌, ◌≤◌, false, List, [], ◌∷◌, ◌++◌, length, get_or, Option, Some, None, IfSome, refl, sym, ap, subst, ◌∙◌, inl, inr, arith}
use Rattle.std.specs.Prelude.{vec_capacity}
use Rattle.std.proofs.lemmas.List.{length_push}
use Rattle.pesp_domains.specs.declared.pair.Pair.{Pair}
use Rattle.pesp_instance.specs.Network.{IsNetwork, Network, event_ids}
use Rattle.pesp_search.specs.declared.branch.Branch.{Branch}
use Rattle.pesp_search.specs.declared.incumbent.Incumbent.{Incumbent}
use Rattle.pesp_search.specs.declared.steps.Step.TheVariants.{Leaf, Descend}
use Rattle.pesp_search.specs.declared.tree_search.TreeSearch.{TreeSearch}
use Rattle.pesp_search.specs.Branch.{IsBranch, IsFront}
use Rattle.pesp_search.specs.Found.{AreCut, AtLeast, IsCut, IsFirstOfUse, limit_by, limit_of}
use Rattle.pesp_search.specs.Nodes.{IsAt, IsNext, IsSpent, IsStuck, Nothing, full_cost}
use Rattle.pesp_search.specs.Parts.{AreLeast, IsLeast}
use Rattle.pesp_search.specs.Searching.{GoesOn, IsOver, IsSameNode, IsSearching, IsStepAt, IsStepDown, IsStepUp, MayEnd}
use Rattle.pesp_search.proofs.BestSoFar.{at_found, best_found, cut_spent, found_spent, spent_any}
use Rattle.pesp_search.proofs.Costs.{known_is_cost}
use Rattle.pesp_search.proofs.Cuts.{next_of_cut, over_of_cut, over_of_known, spent_of_cut}
use Rattle.pesp_search.proofs.Ends.{left_first}
use Rattle.pesp_search.proofs.Moves.{at_back, at_descend, at_end, at_start}
use Rattle.pesp_search.proofs.Rest.{rest_back, rest_down, rest_of}
use Rattle.pesp_search.proofs.Sizes.{counted_back, counted_descend, counted_start}
use Rattle.pesp_search.proofs.Turns.{spent_turned}

-- ---- nodes within a limit

none_within : (limit : Option ℕ) → IfSome limit (λ l. 0 ≤ l)
none_within None = tt
none_within (Some l) = omega arith

more_within : (limit : Option ℕ) (nodes more : ℕ) → IfSome limit (λ l. nodes ≤ l) → IfSome limit (λ l. l ≢ nodes) → more ≤ nodes + 1 → IfSome limit (λ l. more ≤ l)
more_within None nodes more within apart le = tt
more_within (Some l) nodes more within apart le = omega (arith, within, apart, le)

-- ---- the start

-- a search with nothing pushed, found or counted
pub searching_start : (I : Network) (pushes : List Pair) (state : TreeSearch) → IsNetwork I → state.events.now ≡ event_ids I → AreLeast I state.least.items
    → IsBranch I state.branch.times.items state.branch.cost state.branch.timetable (vec_capacity state.branch.times) → state.branch.times.items ≡ [] → pushes ≡ [] → length state.incumbent.times.items ≡ length (event_ids I)
    → state.incumbent.cost ≡ None → state.from ≡ 0 → state.nodes ≡ 0 → IsSearching I pushes state
searching_start I pushes state network events least branch start none long missing first zero =
    record {
      network = network;
      events = events;
      least = least;
      branch = branch;
      at = rw (start, first) (at_start (AtLeast I (limit_of state.incumbent)) I pushes none);
      incumbent = record { long = long; best = rw missing tt };
      counted = rw (start, first, zero) (counted_start I);
      within = rw zero (none_within state.limit);
      root = λ _. (start, first, λ _. missing);
    }

-- ---- at a node

-- other times after the path leave the branch one
pub branch_again : (I : Network) (old new : Branch) → new.times ≡ old.times → new.cost ≡ old.cost → IsFront I old.times.items new.timetable → IsBranch I old.times.items old.cost old.timetable (vec_capacity old.times) → IsBranch I new.times.items new.cost new.timetable (vec_capacity new.times)
branch_again I old new times cost front branch =
    subst (λ v. IsBranch I v.items new.cost new.timetable (vec_capacity v)) (sym times)
    (record { front = front; costs = cost ∙ branch.costs; room = branch.room })

-- the same holds of the same node, with other times after the branch
pub goes_on : (I : Network) (pushes : List Pair) (old new : TreeSearch) → IsSearching I pushes old → IsSameNode old new → IsBranch I new.branch.times.items new.branch.cost new.branch.timetable (vec_capacity new.branch.times)
    → GoesOn I pushes old new
goes_on I pushes old new s same branch =
    record {
      searching = record {
        network = s.network;
        events = rw same.events s.events;
        least = rw same.least s.least;
        branch = branch;
        at = rw (same.incumbent, same.times, same.next) s.at;
        incumbent = rw same.incumbent s.incumbent;
        counted = rw (same.times, same.next, same.nodes) s.counted;
        within = rw (same.limit, same.nodes) s.within;
        root = rw (same.nodes, same.times, same.next, same.incumbent) s.root;
      };
      bound = ap (λ (i : Incumbent). i.bound) same.incumbent;
      limit = same.limit;
    }

-- each is at its own node
pub same_node : (state : TreeSearch) → IsSameNode state state
same_node state = record { events = refl; least = refl; times = refl; cost = refl; incumbent = refl; next = refl; nodes = refl; limit = refl }

-- with other times after its branch it is still there
pub same_with : (old node : TreeSearch) (branch : Branch) → IsSameNode old node → branch.times ≡ node.branch.times → branch.cost ≡ node.branch.cost → IsSameNode old (record node { branch = branch })
same_with old node branch same times cost =
    record {
      events = same.events;
      least = same.least;
      times = times ∙ same.times;
      cost = cost ∙ same.cost;
      incumbent = same.incumbent;
      next = same.next;
      nodes = same.nodes;
      limit = same.limit;
    }

-- where nothing changes the search goes on
pub unchanged : (I : Network) (pushes : List Pair) (state : TreeSearch) → IsSearching I pushes state → GoesOn I pushes state state
unchanged I pushes state s = record { searching = s; bound = refl; limit = refl }

-- ---- why a node is left

-- what is known of the branch has come to the limit
pub over_known : (I : Network) (pushes : List Pair) (state : TreeSearch) → IsSearching I pushes state → IsCut (limit_of state.incumbent) state.branch.cost → IsOver I state
over_known I pushes state s cut = (
  cut_spent I (limit_of state.incumbent) state.branch.cost state.branch.times.items state.from cut s.branch.costs,
  left_first I pushes state s (inl (over_of_known I (limit_of state.incumbent) state.branch.cost state.branch.times.items state.from cut s.branch.costs)),
)

-- the domains leave nothing to try
pub over_stuck : (I : Network) (pushes : List Pair) (state : TreeSearch) → IsSearching I pushes state → IsSpent Nothing I state.branch.times.items state.from × IsStuck I state.branch.times.items state.from → IsOver I state
over_stuck I pushes state s (spent, stuck) = (spent_any I (limit_of state.incumbent) state.branch.times.items state.from spent, left_first I pushes state s (inr (inl stuck)))

-- at the first event of a part without a window residue 0 was tried
pub over_turned : (I : Network) (pushes : List Pair) (state : TreeSearch) → IsSearching I pushes state → length state.branch.times.items < length (event_ids I) → IsLeast I (length state.branch.times.items) → 0 < state.from → IsOver I state
over_turned I pushes state s room least later = (
  spent_turned I (limit_of state.incumbent) pushes state.branch.times.items state.from s.network room least later s.at,
  left_first I pushes state s (inr (inr later)),
)

-- ---- residues of use

module _ (I : Network) (pushes : List Pair) (state new : TreeSearch) (s : IsSearching I pushes state) (same : IsSameNode state new) where
  -- the first residue that is of use is gone down to
  pub next_on : (first r : ℕ) → IsNext Nothing I state.branch.times.items state.from first → IsFirstOfUse I (limit_of state.incumbent) state.branch.times.items first r → IsStepAt I new (Descend r)
  next_on first r next is = rw (same.incumbent, same.times, same.next) (next_of_cut I (limit_of state.incumbent) state.branch.times.items state.from first s.network next r is)

  -- or the node is left
  pub over_on : (first : ℕ) → IsNext Nothing I state.branch.times.items state.from first → AreCut I (limit_of state.incumbent) state.branch.times.items first I.period → IsOver I new
  over_on first next cut =
      let limit = limit_of state.incumbent in
      let path = state.branch.times.items in
      rw (same.incumbent, same.times, same.next, same.nodes) (
        spent_of_cut I limit path state.from first s.network next cut,
        left_first I pushes state s (inl (over_of_cut I limit path state.from first s.network next cut)),
      )

-- ---- a leaf

module _ (I : Network) (pushes : List Pair) (state : TreeSearch) (found : Incumbent) (s : IsSearching I pushes state) (leaf : IsStepAt I state Leaf) (bound : found.bound ≡ state.incumbent.bound) (cost : found.cost ≡ Some state.branch.cost) (times : found.times.items ≡ state.branch.times.items) where
  costs : full_cost I state.branch.times.items ≡ state.branch.cost
  costs = sym (s.branch.costs ∙ known_is_cost I state.branch.times.items s.network leaf.0.events)

  -- its times are the best so far
  pub searching_leaf : IsSearching I pushes (record state { incumbent = found })
  searching_leaf =
      let best =
      best_found I state.incumbent.cost state.incumbent.bound state.incumbent.times.items state.branch.cost pushes state.branch.times.items state.from s.incumbent.best costs leaf.1 leaf.0 s.at
      in
      let full = leaf.0.events in
      record {
        network = s.network;
        events = s.events;
        least = s.least;
        branch = s.branch;
        at =
            subst (λ o. IsAt (AtLeast I (limit_by o found.bound)) I pushes state.branch.times.items state.from) (sym cost)
            (at_found I (limit_of state.incumbent) state.branch.cost pushes state.branch.times.items state.from leaf.1 s.at);
        incumbent = record { long = ap length times ∙ full; best = rw (cost, bound, times) best };
        counted = s.counted;
        within = s.within;
        root = λ zero. let root = s.root zero in (root.0, root.1, λ some. absurd (omega (arith, some, full, ap length root.0)));
      }

  -- and nothing more is below it
  pub over_leaf : IsOver I (record state { incumbent = found })
  over_leaf = (
    found_spent I (limit_of found) state.branch.cost state.branch.times.items state.from (ap (λ o. limit_by o found.bound) cost) s.branch.costs,
    λ is_bound zero.
        let root = s.root zero in
        let none : length (event_ids I) ≡ 0 = sym (sym (ap length root.0) ∙ leaf.0.events) in
        rw none refl,
  )

-- ---- down, and back up

-- a node more
pub searching_down : (I : Network) (pushes : List Pair) (state : TreeSearch) (branch : Branch) (r nodes : ℕ) → IsSearching I pushes state → IsStepAt I state (Descend r) → IfSome state.limit (λ l. l ≢ state.nodes)
    → IsBranch I branch.times.items branch.cost branch.timetable (vec_capacity branch.times) → branch.times.items ≡ state.branch.times.items ++ r ∷ [] → nodes ≤ state.nodes + 1 → 0 < nodes
    → IsSearching I (pushes ++ record { event = get_or (event_ids I) (length state.branch.times.items) 0; residue = r } ∷ []) (record state { branch = branch; from = 0; nodes = nodes })
searching_down I pushes state branch r nodes s step below is_branch times more some =
    let P = AtLeast I (limit_of state.incumbent) in
    let path = state.branch.times.items in
    record {
      network = s.network;
      events = s.events;
      least = s.least;
      branch = is_branch;
      at = rw times (at_descend P I pushes path state.from r s.at step);
      incumbent = s.incumbent;
      counted = rw times (counted_descend P I path state.from r state.nodes nodes step more s.counted);
      within = more_within state.limit state.nodes nodes s.within below more;
      root = λ zero. absurd (omega (arith, zero, some));
    }

-- one time less
pub searching_up : (I : Network) (pushes pushes' : List Pair) (last : Pair) (state : TreeSearch) (branch : Branch) (x : ℕ) → IsSearching I pushes state → IsOver I state → IsBranch I branch.times.items branch.cost branch.timetable (vec_capacity branch.times)
    → state.branch.times.items ≡ branch.times.items ++ x ∷ [] → pushes ≡ pushes' ++ last ∷ [] → IsSearching I pushes' (record state { branch = branch; from = x + 1 })
searching_up I pushes pushes' last state branch x s over is_branch times is =
    let P = AtLeast I (limit_of state.incumbent) in
    let path = branch.times.items in
    let at : IsAt P I pushes (path ++ x ∷ []) state.from = rw times at s.at in
    let spent : IsSpent P I (path ++ x ∷ []) state.from = rw times at over.0 in
    record {
      network = s.network;
      events = s.events;
      least = s.least;
      branch = is_branch;
      at = at_back P I pushes pushes' last path x state.from is at spent;
      incumbent = s.incumbent;
      counted = counted_back I path x state.from state.nodes (rw times at s.counted);
      within = s.within;
      root = λ zero. absurd (omega (arith, ap length (sym times ∙ (s.root zero).0), length_push path x));
    }

-- and none where there is no time
pub searching_none : (I : Network) (pushes : List Pair) (state : TreeSearch) (branch : Branch) → IsSearching I pushes state → IsBranch I branch.times.items branch.cost branch.timetable (vec_capacity branch.times) → state.branch.times.items ≡ [] → branch.times.items ≡ []
    → IsSearching I pushes (record state { branch = branch })
searching_none I pushes state branch s is_branch old new =
    let same : branch.times.items ≡ state.branch.times.items = new ∙ sym old in
    record {
      network = s.network;
      events = s.events;
      least = s.least;
      branch = is_branch;
      at = rw same s.at;
      incumbent = s.incumbent;
      counted = rw same s.counted;
      within = s.within;
      root = λ zero. let root = s.root zero in (new, root.1, root.2);
    }

-- then the search is at its end
pub ended : (I : Network) (pushes : List Pair) (state : TreeSearch) (branch : Branch) → IsSearching I pushes state → IsOver I state → state.branch.times.items ≡ [] → MayEnd I (record state { branch = branch }) false
ended I pushes state branch s over none =
    let P = AtLeast I (limit_of state.incumbent) in (at_end P I pushes state.from (rw none at s.at) (rw none at over.0), over.1)

-- ---- how much is left

-- less after a step down
pub less_down : (I : Network) (pushes : List Pair) (old node new : TreeSearch) (r : ℕ) → IsSearching I pushes node → IsSameNode old node → IsStepAt I node (Descend r) → IsStepDown node new r → rest_of I new < rest_of I old
less_down I pushes old node new r s same step below =
    let next = step in
    let depth = next.room in
    rw (below.times, below.next, ← same.times, ← same.next) (rest_down I.period (length (event_ids I) + 1) node.branch.times.items r node.from (omega (arith, depth)) next.above next.below)

-- and after one back up
pub less_up : (I : Network) (pushes : List Pair) (old node new : TreeSearch) → IsSearching I pushes node → IsSameNode old node → IsStepUp node new → rest_of I new < rest_of I old
less_up I pushes old node new s same above =
    let depth = s.at.depth in
    let whole : length node.branch.times.items ≡ length (new.branch.times.items ++ above.last ∷ []) = ap length above.times in
    rw (above.next, ← same.times, ← same.next, above.times)
    (rest_back I.period (length (event_ids I) + 1) new.branch.times.items above.last node.from (omega (arith, depth, whole, length_push new.branch.times.items above.last)) s.at.small)
