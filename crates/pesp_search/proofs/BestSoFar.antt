-- Limits, and the best so far.
use Rattle.std.proofs.Common.{◌≡◌, ℕ, ◌<◌, ◌≤◌, List, Option, Some, None, IfSome, sym, subst, arith}
use Rattle.pesp_domains.specs.declared.pair.Pair.{Pair}
use Rattle.pesp_instance.specs.Network.{Network}
use Rattle.pesp_search.specs.Found.{AtLeast, IsBest, IsCut, limit_by}
use Rattle.pesp_search.specs.Nodes.{IsAt, IsFull, IsSpent, Nothing, full_cost, known_cost}
use Rattle.pesp_search.specs.Tried.{IsWithin}
use Rattle.pesp_search.proofs.Costs.{known_le_cost}
use Rattle.pesp_search.proofs.Order.{before_zero}

-- ---- what holds of more lists of times

-- where Q holds of each list of times that P holds of, a node spent for P is spent for Q
spent_more : (P Q : List ℕ → Type 0) (I : Network) (path : List ℕ) (from : ℕ) → ((times : List ℕ) → P times → Q times) → IsSpent P I path from → IsSpent Q I path from
spent_more P Q I path from more h = record { passes = λ times full extends later. more times (h.passes times full extends later) }

-- and a node for P is one for Q
at_more : (P Q : List ℕ → Type 0) (I : Network) (pushes : List Pair) (path : List ℕ) (from : ℕ) → ((times : List ℕ) → P times → Q times) → IsAt P I pushes path from → IsAt Q I pushes path from
at_more P Q I pushes path from more h =
    record { pairs = h.pairs; depth = h.depth; below = h.below; small = h.small; passed = λ times full before. more times (h.passed times full before) }

-- ---- limits

-- a node with nothing left is spent for any limit
pub spent_any : (I : Network) (limit : Option ℕ) (path : List ℕ) (from : ℕ) → IsSpent Nothing I path from → IsSpent (AtLeast I limit) I path from
spent_any I limit path from h = spent_more Nothing (AtLeast I limit) I path from (λ times x. absurd x) h

-- what is known of the path is at least the limit, and so the node is spent
pub spent_cut : (I : Network) (limit : ℕ) (path : List ℕ) (from : ℕ) → limit ≤ known_cost I path → IsSpent (AtLeast I (Some limit)) I path from
spent_cut I limit path from high = record { passes = λ times full extends later. omega (arith, high, known_le_cost I times path extends) }

-- the known cost has come to the limit
pub cut_spent : (I : Network) (limit : Option ℕ) (known : ℕ) (path : List ℕ) (from : ℕ) → IsCut limit known → known ≡ known_cost I path → IsSpent (AtLeast I limit) I path from
cut_spent I None known path from h is = absurd h
cut_spent I (Some limit) known path from h is = spent_cut I limit path from (subst (λ k. limit ≤ k) is h)

-- the limit is the known cost
pub found_spent : (I : Network) (limit : Option ℕ) (known : ℕ) (path : List ℕ) (from : ℕ) → limit ≡ Some known → known ≡ known_cost I path → IsSpent (AtLeast I limit) I path from
found_spent I limit known path from at is =
    subst (λ o. IsSpent (AtLeast I o) I path from) (sym at) (spent_cut I known path from (omega (arith, is)))

-- what is at least the limit is at least a cost below it
at_least_less : (I : Network) (limit : Option ℕ) (sum : ℕ) → IfSome limit (λ l. sum < l) → (times : List ℕ) → AtLeast I limit times → AtLeast I (Some sum) times
at_least_less I None sum less times h = absurd h
at_least_less I (Some limit) sum less times h = omega (arith, less, h)

-- and above such a cost
strictly : (I : Network) (limit : Option ℕ) (sum : ℕ) → IfSome limit (λ l. sum < l) → (times : List ℕ) → AtLeast I limit times → sum < full_cost I times
strictly I None sum less times h = absurd h
strictly I (Some limit) sum less times h = omega (arith, less, h)

-- the limit comes down to a cost below it
pub at_found : (I : Network) (limit : Option ℕ) (sum : ℕ) (pushes : List Pair) (path : List ℕ) (from : ℕ) → IfSome limit (λ l. sum < l) → IsAt (AtLeast I limit) I pushes path from → IsAt (AtLeast I (Some sum)) I pushes path from
at_found I limit sum pushes path from less h = at_more (AtLeast I limit) (AtLeast I (Some sum)) I pushes path from (at_least_less I limit sum less) h

-- ---- the best so far

-- what costs less than something within the bound is within it
within_less : (bound : Option ℕ) (cost sum : ℕ) → IsWithin bound cost → sum < cost → IsWithin bound sum
within_less None cost sum within less = tt
within_less (Some b) cost sum within less = omega (arith, within, less)

-- what is below the limit is within the bound
below_within : (I : Network) (cost bound : Option ℕ) (times : List ℕ) (sum : ℕ) → IfSome cost (IsBest I bound times) → IfSome (limit_by cost bound) (λ l. sum < l) → IsWithin bound sum
below_within I (Some cost) bound times sum best less = within_less bound cost sum best.within less
below_within I None None times sum best less = tt
below_within I None (Some bound) times sum best less = omega (arith, less)

-- full times below the limit are the best so far
pub best_found : (I : Network) (cost bound : Option ℕ) (times : List ℕ) (sum : ℕ) (pushes : List Pair) (path : List ℕ) (from : ℕ) → IfSome cost (IsBest I bound times) → full_cost I path ≡ sum
    → IfSome (limit_by cost bound) (λ l. sum < l) → IsFull I path → IsAt (AtLeast I (limit_by cost bound)) I pushes path from → IsBest I bound path sum
best_found I cost bound times sum pushes path from best costs less full h =
    record {
      full = full;
      costs = costs;
      within = below_within I cost bound times sum best less;
      first = λ others is before. strictly I (limit_by cost bound) sum less others (h.passed others is (before_zero others path from before));
    }
