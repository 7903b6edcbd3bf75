-- How a search ends: at a stop, or when nothing is left.
use Rattle.std.proofs.Common.{◌≡◌, ℕ, zero, suc, ◌<◌, ◌≤◌, Bool, true, false, List, [], length, get_or, Option, Some, None, IfSome, IsSomeAnd, Result, Ok, Err, IfOk, refl, sym, ap, subst, ◌∙◌, inl, inr, ◌⊎◌, arith}
use Rattle.std.specs.Map.{values_of}
use Rattle.std.proofs.lemmas.Bool.{cases_eq}
use Rattle.std.proofs.lemmas.Option.{none-some}
use Rattle.pesp_base.specs.declared.memory.Memory.{Memory}
use Rattle.pesp_instance.specs.Network.{IsNetwork, Network, event_ids}
use Rattle.pesp_domains.specs.declared.pair.Pair.{Pair}
use Rattle.pesp_tension.specs.Answers.{cost_of}
use Rattle.pesp_tension.specs.Timetables.{Times}
use Rattle.pesp_search.specs.declared.answer.Best.{Best}
use Rattle.pesp_search.specs.declared.answer.Answer.{Answer}
use Rattle.pesp_search.specs.declared.answer.Answer.TheVariants.{Infeasible, Optimal}
use Rattle.pesp_search.specs.declared.answer.Known.{Known}
use Rattle.pesp_search.specs.declared.answer.Tried.{Tried}
use Rattle.pesp_search.specs.declared.answer.Tried.TheVariants.{Done, Stopped}
use Rattle.pesp_search.specs.declared.incumbent.Incumbent.{Incumbent}
use Rattle.pesp_search.specs.declared.tree_search.TreeSearch.{TreeSearch}
use Rattle.pesp_search.specs.Found.{AtLeast, IsBest, IsIncumbent, IsTold, limit_by, limit_of}
use Rattle.pesp_search.specs.Nodes.{IsAt, IsCounted, IsFull, IsSpent, IsStuck, full_cost}
use Rattle.pesp_search.specs.Optima.{IsAnswer, IsBound, IsMember, IsOptimum, Precedes}
use Rattle.pesp_search.specs.Paths.{IsDeadEnd, timetable_of}
use Rattle.pesp_search.specs.Searching.{IsSearching, MayEnd}
use Rattle.pesp_search.specs.Tree.{AreNodes, IsPlaceOf, IsTreeSize}
use Rattle.pesp_search.specs.Known.{IsKnown}
use Rattle.pesp_search.specs.Tried.{IsBestSoFar, IsEnd, IsFound, IsOutcome, IsWithin, MayTry}
use Rattle.pesp_search.proofs.Members.{before_of_precedes, full_of_member, member_in_domains, member_of_full}
use Rattle.pesp_search.proofs.Placed.{before_decided, place_after}
use Rattle.pesp_search.proofs.Sizes.{counted_below, size_unique}
use Rattle.pesp_search.proofs.Timed.{index_has_event, values_of-zip}

-- ---- bounds

-- times within the bound are below its limit
not_above : (I : Network) (bound : Option ℕ) (times : List ℕ) → IsWithin bound (full_cost I times) → AtLeast I (limit_by None bound) times → ⊥
not_above I None times within above = above
not_above I (Some bound) times within above = omega (arith, above, within)

-- so where there is a bound, some full times are
bound_reached : (I : Network) (bound : Option ℕ) → IsNetwork I → IsBound I bound → ((times : List ℕ) → IsFull I times → AtLeast I (limit_by None bound) times) → (others : List ℕ) → IsFull I others → ⊥
bound_reached I None network is all others full = all others full
bound_reached I (Some bound) network (m, member, low) all others full =
    let w = full_of_member I m network member in
    not_above I (Some bound) w.0 (subst (λ n. cost_of I n ≤ bound) w.2 low) (all w.0 w.1)

-- what holds of the timetable of all full times holds of each member
of_members : (I : Network) → IsNetwork I → (P : Times → Type 0) → ((times : List ℕ) → IsFull I times → P (timetable_of I times)) → (m : Times) → IsMember I m → P m
of_members I network P each m member =
    let w = full_of_member I m network member in
    subst P (sym w.2) (each w.0 w.1)

-- ---- a stop

stop_found : (I : Network) (incumbent : Incumbent) (told : Option Best) → IsNetwork I → IsIncumbent I incumbent → IsTold I incumbent told → IfSome told (IsFound I incumbent.bound)
stop_found I incumbent None network so_far is = tt
stop_found I incumbent (Some found) network so_far is =
    let best : IsBest I incumbent.bound incumbent.times.items found.cost = subst (λ o. IfSome o (IsBest I incumbent.bound incumbent.times.items)) is.0 so_far.best in
    record {
      member = rw is.1 (member_of_full I incumbent.times.items network best.full);
      costs = rw is.1 best.costs;
      within = best.within;
    }

stop_best : (I : Network) (incumbent : Incumbent) (told : Option Best) (pushes : List Pair) (path : List ℕ) (from nodes : ℕ) → IsNetwork I
    → length path < length (event_ids I) → IsAt (AtLeast I (limit_of incumbent)) I pushes path from → IsTold I incumbent told → IsCounted I path from nodes → IsBestSoFar I incumbent.bound nodes told
stop_best I incumbent told pushes path from nodes network room at is counted m place member met reached within =
    let w = full_of_member I m network member in
    let all : List ℕ = w.0 in
    let costs : cost_of I m ≡ full_cost I all = ap (cost_of I) w.2 in
    let values : values_of m.entries ≡ all = ap (λ (n : Times). values_of n.entries) w.2 ∙ values_of-zip (event_ids I) all w.1.events in
    let here : IsPlaceOf I all place = rw (← values) met in
    elim (before_decided all path from) [
      | inl before ↦ rw costs (passed told is all (at.passed all w.1 before) (rw costs at within))
      | inr later ↦
          absurd (omega (arith, place_after I path all from counted.size counted.left place network w.1 room later counted.tree counted.rest here, counted.within, reached))
    ]
  where
    passed : (told : Option Best) → IsTold I incumbent told → (all : List ℕ) → AtLeast I (limit_of incumbent) all → IsWithin incumbent.bound (full_cost I all) → IsSomeAnd told (λ b. b.cost ≤ full_cost I all)
    passed None is all above within = absurd (not_above I incumbent.bound all within (subst (λ o. AtLeast I (limit_by o incumbent.bound) all) is above))
    passed (Some b) is all above within = subst (λ o. AtLeast I (limit_by o incumbent.bound) all) is.0 above

-- ---- the end

-- where all full times cost at least as much, the best is the optimum
best_optimum : (I : Network) (bound : Option ℕ) (times : List ℕ) (cost : ℕ) → IsNetwork I → IsBest I bound times cost → ((others : List ℕ) → IsFull I others → AtLeast I (Some cost) others) → IsOptimum I (timetable_of I times) cost
best_optimum I bound times cost network best all =
    record {
      member = member_of_full I times network best.full;
      costs = best.costs;
      least = of_members I network (λ n. cost ≤ cost_of I n) all;
      first =
          of_members I network (λ n. Precedes n.entries (timetable_of I times).entries → cost < cost_of I n)
          (λ others other precedes. best.first others other (before_of_precedes I others times other.events best.full.events precedes));
    }

-- where all full times cost at least the limit, what is told is the end
end_told : (I : Network) (incumbent : Incumbent) (told : Option Best) → IsNetwork I → IsBound I incumbent.bound → IsIncumbent I incumbent → ((times : List ℕ) → IsFull I times → AtLeast I (limit_of incumbent) times) → IsTold I incumbent told → IsEnd I told
end_told I incumbent None network is_bound so_far all is =
    of_members I network (λ m. ⊥) (bound_reached I incumbent.bound network is_bound (λ times full. subst (λ o. AtLeast I (limit_by o incumbent.bound) times) is (all times full)))
end_told I incumbent (Some found) network is_bound so_far all is =
    let best : IsBest I incumbent.bound incumbent.times.items found.cost = subst (λ o. IfSome o (IsBest I incumbent.bound incumbent.times.items)) is.0 so_far.best in
    rw is.1 (best_optimum I incumbent.bound incumbent.times.items found.cost network best (λ times full. subst (λ o. AtLeast I (limit_by o incumbent.bound) times) is.0 (all times full)))

-- ---- what a search tells

nothing_told : (I : Network) (incumbent : Incumbent) (told : Option Best) → IsTold I incumbent told → incumbent.cost ≡ None → told ≡ None
nothing_told I incumbent None is missing = refl
nothing_told I incumbent (Some b) is missing = absurd (none-some _ (sym missing ∙ is.0))

-- one that may end tells the outcome
pub outcome_of : (I : Network) (pushes : List Pair) (state : TreeSearch) (stopped : Bool) (told : Option Best) → IsSearching I pushes state → MayEnd I state stopped → IsTold I state.incumbent told → IsBound I state.incumbent.bound
    → IsOutcome I state.incumbent.bound state.limit stopped told state.nodes
outcome_of I pushes state true told s (reached, (r, next)) is is_bound =
    rw reached (
      record {
        below = counted_below (AtLeast I (limit_of state.incumbent)) I state.branch.times.items state.from r state.nodes next s.counted;
        member = stop_found I state.incumbent told s.network s.incumbent is;
        best = stop_best I state.incumbent told pushes state.branch.times.items state.from state.nodes s.network next.room s.at is s.counted;
      },
      refl,
      λ zero. nothing_told I state.incumbent told is ((s.root zero).2 (let room = next.room in omega (arith, room))),
    )
outcome_of I pushes state false told s (all, size) is is_bound = (end_told I state.incumbent told s.network is_bound s.incumbent all is, by state.limit s.within)
  where
    by : (limit : Option ℕ) → IfSome limit (λ l. state.nodes ≤ l) → IfSome limit (λ l. (state.nodes ≤ l) × (l ≡ 0 → IsTreeSize I 0))
    by None within = tt
    by (Some l) within = (within, λ zero. size is_bound (omega (arith, within, zero)))

-- ---- before the first node

-- why a node of the tree is left: what is left there costs at least the limit, nothing is left to try, or residues were tried before
abbrev pub Why : Network → Option ℕ → List ℕ → ℕ → Type 0
Why I limit path from = IsSomeAnd limit (λ l. IsSpent (AtLeast I (Some l)) I path from) ⊎ (IsStuck I path from ⊎ (0 < from))

-- the root is not left for what is of no use while nothing is found
root_uncut : (I : Network) (bound : Option ℕ) → IsNetwork I → IsBound I bound → IsSomeAnd (limit_by None bound) (λ l. IsSpent (AtLeast I (Some l)) I [] 0) → ⊥
root_uncut I None network is_bound cut = cut
root_uncut I (Some bound) network (m, member, low) spent =
    let w = full_of_member I m network member in
    not_above I (Some bound) w.0 (subst (λ n. cost_of I n ≤ bound) w.2 low) (spent.passes w.0 w.1 tt (λ _. omega arith))

-- where it is left while nothing is found, the tree has no node
root_left : (I : Network) (bound : Option ℕ) → IsNetwork I → IsBound I bound → Why I (limit_by None bound) [] 0 → IsTreeSize I 0
root_left I bound network is_bound (inl cut) = absurd (root_uncut I bound network is_bound cut)
root_left I bound network is_bound (inr (inr later)) = absurd (omega (arith, later))
root_left I bound network is_bound (inr (inl stuck)) = by (length (event_ids I)) refl stuck
  where
    by : (n : ℕ) → length (event_ids I) ≡ n → IsStuck I [] 0 → IsTreeSize I 0
    by zero none stuck = rw none refl
    by (suc n) some (inl dead) = rw some (inl (dead, refl))
    by (suc n) some (inr none) = rw some (inl ((get_or (event_ids I) 0 0, index_has_event I 0 (omega (arith, some)), λ r. none r (omega arith)), refl))

-- where a search leaves a node before it has counted one, the tree has none
pub left_first : (I : Network) (pushes : List Pair) (state : TreeSearch) → IsSearching I pushes state → Why I (limit_of state.incumbent) state.branch.times.items state.from → IsBound I state.incumbent.bound → state.nodes ≡ 0 → IsTreeSize I 0
left_first I pushes state s why is_bound uncounted =
    let root = s.root uncounted in
    let here : Why I (limit_of state.incumbent) [] 0 =
    subst (λ f. Why I (limit_of state.incumbent) [] f) root.1 (subst (λ p. Why I (limit_of state.incumbent) p state.from) root.0 why)
    in
    elim (cases_eq (length (event_ids I)) 0) [
      | inl none ↦ rw none refl
      | inr some ↦
          root_left I state.incumbent.bound s.network is_bound (subst (λ o. Why I (limit_by o state.incumbent.bound) [] 0) (root.2 (omega (arith, some))) here)
    ]

-- ---- an event without a residue

-- the tree of an instance with an empty domain has no node
pub dead_size : (I : Network) → IsDeadEnd I [] → IsTreeSize I 0
dead_size I dead = by (length (event_ids I)) refl
  where
    by : (n : ℕ) → length (event_ids I) ≡ n → IsTreeSize I 0
    by zero none = rw none refl
    by (suc n) some = rw some (inl (dead, refl))

pub no_member : (I : Network) (m : Times) → IsNetwork I → IsDeadEnd I [] → IsMember I m → ⊥
no_member I m network dead member =
    let w = full_of_member I m network member in
    dead.2 _ (member_in_domains I [] w.0 network w.1 tt dead.0 dead.1)

-- it is infeasible, without a node
pub dead_answer : (I : Network) (answer : Answer) (nodes : ℕ) → IsNetwork I → IsDeadEnd I [] → IsAnswer I answer → AreNodes I nodes → (answer ≡ Infeasible) × (nodes ≡ 0)
dead_answer I Infeasible nodes network dead is few =
    let none = size_unique I (length (event_ids I)) [] few.0 0 few.1 (dead_size I dead) in
    (refl, (let le = few.2 in omega (arith, none, le)))
dead_answer I (Optimal cost times) nodes network dead is few = absurd (no_member I times network dead is.member)

-- and no search stops in it
pub dead_tried : (I : Network) (bound : Option ℕ) (limit : ℕ) (tried : Tried) (nodes : ℕ) → IsNetwork I → IsDeadEnd I [] → MayTry I bound limit tried nodes → AreNodes I nodes → (tried ≡ Done Infeasible) × (nodes ≡ 0)
dead_tried I bound limit (Done answer) nodes network dead is few = let w = dead_answer I answer nodes network dead is.0 few in (ap Done w.0, w.1)
dead_tried I bound limit (Stopped best) nodes network dead is few =
    let below = is.0.below in
    let none = size_unique I (length (event_ids I)) [] below.0 0 below.1 (dead_size I dead) in
    absurd (let less = below.2 in omega (arith, none, less))

-- so what is known of it is that
pub dead_known : (I : Network) (bound limit : Option ℕ) (stopped : Bool) (best : Option Best) (nodes : ℕ) → IsNetwork I → IsDeadEnd I [] → IsOutcome I bound limit stopped best nodes → AreNodes I nodes
    → (stopped ≡ false) × (best ≡ None) × (nodes ≡ 0)
dead_known I bound limit false None nodes network dead is few = (refl, refl, (dead_answer I Infeasible nodes network dead is.0 few).1)
dead_known I bound limit false (Some best) nodes network dead is few = absurd (no_member I best.times network dead is.0.member)
dead_known I bound None true best nodes network dead is few = absurd is
dead_known I bound (Some limit) true best nodes network dead is few =
    let below = is.0.below in
    let none = size_unique I (length (event_ids I)) [] below.0 0 below.1 (dead_size I dead) in
    absurd (let less = below.2 in omega (arith, none, less))

pub known_dead : (I : Network) (bound limit : Option ℕ) (r : Result (Known × ℕ) Memory) → IsNetwork I → IsDeadEnd I [] → IfOk r (λ k. IsKnown I bound limit k.0 k.1) → IfOk r (λ k. AreNodes I k.1)
    → IfOk r (λ k. (k.0.is_stopped ≡ false) × (k.0.best ≡ None) × (k.1 ≡ 0))
known_dead I bound limit (Ok k) network dead known few = dead_known I bound limit k.0.is_stopped k.0.best k.1 network dead known.outcome few
known_dead I bound limit (Err e) network dead known few = tt

-- ---- without a limit

pub only_end : (I : Network) (bound : Option ℕ) (stopped : Bool) (best : Option Best) (nodes : ℕ) → IsOutcome I bound None stopped best nodes → IsEnd I best
only_end I bound false best nodes is = is.0
only_end I bound true best nodes is = absurd is
