-- What takes pairs out of a set of pairs, until the domains are left.
use Rattle.std.specs.Prelude.{◌≡◌, ℕ, ◌<◌, ◌↔◌, ◌==◌, ◌&&◌, ◌||◌, not, Bool, true, false, IsTrue, List, map, count_by}
use Rattle.std.specs.List.{flat_map, range_with_len}
use Rattle.pesp_base.specs.declared.activity.Activity.{Activity}
use Rattle.pesp_instance.specs.Network.{Network, event_ids}
use Rattle.pesp_domains.specs.declared.pair.Pair.{Pair}
use Rattle.pesp_domains.specs.declared.side.Side.{Side}
use Rattle.pesp_domains.specs.Domains.{HasPartner, InDomains, IsAdmitted, Joins, other, own}

-- a set of pairs, as a test
abbrev pub Pairs : Type 0
Pairs = ℕ → ℕ → Bool

-- the pairs of the set
abbrev pub Of : Pairs → ℕ → ℕ → Type 0
Of S e r = IsTrue (S e r)

-- the set with of one event's residues those alone that pass a test
abbrev pub narrowed_to : Pairs → ℕ → (ℕ → Bool) → Pairs
narrowed_to S event test e r = S e r && (not (e == event) || test r)

-- and with one alone
abbrev pub limited : Pairs → ℕ → ℕ → Pairs
limited S event residue = narrowed_to S event (λ r. r == residue)

-- each pair of the set is admitted
pub record AreAdmitted (I : Network) (pushes : List Pair) (S : Pairs) : Type 0 where
  pub each : (e r : ℕ) → Of S e r → IsAdmitted I pushes e r

-- no pair of the domains is missing
pub record Covers (I : Network) (pushes : List Pair) (S : Pairs) : Type 0 where
  pub each : (e r : ℕ) → InDomains I pushes e r → Of S e r

-- the set has the pairs of the domains, and no others
pub record AreDomains (I : Network) (pushes : List Pair) (S : Pairs) : Type 0 where
  pub exact : (e r : ℕ) → Of S e r ↔ InDomains I pushes e r

-- every admitted pair is in the set, and no other
pub record AreOpen (I : Network) (pushes : List Pair) (S : Pairs) : Type 0 where
  pub exact : (e r : ℕ) → Of S e r ↔ IsAdmitted I pushes e r

-- every residue at every event
abbrev pub all_pairs : Network → List Pair
all_pairs I = flat_map (λ e. map (λ r. record { event = e; residue = r }) (range_with_len 0 I.period)) (event_ids I)

-- how many of them the set has
abbrev pub held : Network → Pairs → ℕ
held I S = count_by (λ p. S p.event p.residue) (all_pairs I)

-- the pair at this end of the activity is in the set, and has no partner there
pub record IsAlone (period : ℕ) (S : Pairs) (side : Side) (a : Activity) (r : ℕ) : Type 0 where
  pub here : Of S (own side a) r
  pub alone : (s : ℕ) → s < period → Of S (other side a) s → Joins side period a r s → ⊥

-- each pair of the set at this end of the activity has a partner there
pub record IsSettledAt (period : ℕ) (S : Pairs) (side : Side) (a : Activity) : Type 0 where
  pub each : (r : ℕ) → r < period → Of S (own side a) r → HasPartner period (Of S) side a r

-- pairs go, and none of the domains
pub record Shrinks (I : Network) (before after : Pairs) : Type 0 where
  pub fewer : (e r : ℕ) → Of after e r → Of before e r
  pub covers : (pushes : List Pair) → Covers I pushes before → Covers I pushes after

-- pairs go, none of the domains, and whether any does is told
pub record IsPass (I : Network) (before after : Pairs) (changed : Bool) : Type 0 where
  pub shrinks : Shrinks I before after
  pub less : changed ≡ true → held I after < held I before
  pub same : changed ≡ false → (e r : ℕ) → after e r ≡ before e r

-- what is left are the domains, under all pushed pairs with which the set agreed and whose domains it had
pub record Settles (I : Network) (before after : Pairs) : Type 0 where
  pub settles : (pushes : List Pair) → AreAdmitted I pushes before → Covers I pushes before → AreDomains I pushes after
