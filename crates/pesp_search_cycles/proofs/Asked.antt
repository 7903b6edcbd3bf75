-- A question to a leaf: the maps of its node, and what the leaves tell together.
use Rattle.std.proofs.Common.{◌≡◌, ℕ, zero, suc, ◌+◌, ◌<◌, ◌≤◌, ◌↔◌, ◌++◌, ◌∷◌, [], inl, inr, pos, List, Option, Some, None, take, length, get_or, sym, ap, subst, ◌∙◌, arith}
use Rattle.std.proofs.Math.ListN.{set}
use Rattle.std.proofs.lemmas.List.{get_or_read, take_all, take_more}
use Rattle.pesp_search_least.specs.declared.outcome.Candidate.{Candidate}
use Rattle.pesp_search_least.specs.declared.outcome.Outcome.TheVariants.{Found, Spent}
use Rattle.pesp_search_least.specs.Order.{BelowResidue}
use Rattle.pesp_search_least.specs.Sums.{InSome, IsLowerBound, IsOutcome, IsWithin, Sums}
use Rattle.pesp_search_least.proofs.Outcomes.{outcome_same}
use Rattle.pesp_search_least.proofs.Stack.{in_some_pop}
use Rattle.pesp_search_network.specs.Arcs.{Arcs, IsCosted}
use Rattle.pesp_search_cycles.specs.declared.boxes.Boxes.{Boxes}
use Rattle.pesp_search_cycles.specs.declared.range.Range.{Range}
use Rattle.pesp_search_cycles.specs.Maps.{AreBoxes, IsAmong, IsHere, IsLeft, IsSummed, Net}
use Rattle.pesp_search_cycles.specs.Ranges.{IsIn, no_range}
use Rattle.pesp_search_cycles.specs.Splits.{IsNarrowed}
use Rattle.pesp_search_cycles.specs.Walks.{Path}
use Rattle.pesp_search_cycles.proofs.Narrowed.{IsInFront, front_of, inside_narrowed, inside_of, narrowed_inside}
use Rattle.pesp_search_cycles.proofs.Regions.{below_all, below_within}

module _ (N Q : Net) (others : List Path) (same : Q.network ≡ N.network) (more : Q.walks ≡ N.walks ++ others) (R : List Range) (old B new : Boxes) (fit : AreBoxes N B) (n : IsNarrowed old B new) where
  front_here : (xs : List ℕ) → IsInFront Q.network Q.walks B xs → IsInFront N.network (N.walks ++ others) B xs
  front_here xs f = subst (λ (ws : List Path). IsInFront N.network ws B xs) more (subst (λ (A : Arcs). IsInFront A Q.walks B xs) same f)

  front_there : (xs : List ℕ) → IsInFront N.network (N.walks ++ others) B xs → IsInFront Q.network Q.walks B xs
  front_there xs f = subst (λ (A : Arcs). IsInFront A Q.walks B xs) (sym same) (subst (λ (ws : List Path). IsInFront N.network ws B xs) (sym more) f)

  -- the node of the question has maps of the leaf alone, with these residues,
  pub node_here : IsWithin (IsSummed Q old) (IsAmong Q.network R) → IsWithin (IsSummed Q new) (IsHere N R B)
  node_here within xs cost s =
      let i = narrowed_inside Q old B new xs n s.inside in
      let costed : IsCosted N.network xs cost = subst (λ (A : Arcs). IsCosted A xs cost) same s.costed in
      (record { costed = costed; inside = inside_of N others B fit xs costed.met.long (front_here xs i.1) }, (within xs cost (record { costed = s.costed; inside = i.0 })).inside)

  -- and all of them
  pub here_node : IsWithin (IsAmong Q.network R) (IsSummed Q old) → IsWithin (IsHere N R B) (IsSummed Q new)
  here_node all xs cost s =
      let costed : IsCosted Q.network xs cost = subst (λ (A : Arcs). IsCosted A xs cost) (sym same) s.0.costed in
      let before = all xs cost (record { costed = costed; inside = s.1 }) in
      record { costed = costed; inside = inside_narrowed Q old B new xs n before.inside (front_there xs (front_of N others B fit xs s.0.inside)) }

-- the same, where the node is that of the question's cycles, and the residues are those of the question
module _ (N P Q M : Net) (others : List Path) (same : P.network ≡ N.network) (more : P.walks ≡ N.walks ++ others) (q : Q ≡ P) (m : M ≡ Q) (R S : List Range) (r : S ≡ R) (old B new : Boxes) (fit : AreBoxes N B) (n : IsNarrowed old B new) where
  pub asked_here : IsWithin (IsSummed Q old) (IsAmong P.network S) → IsWithin (IsSummed M new) (IsHere N R B)
  asked_here within =
      let here : IsWithin (IsSummed P old) (IsAmong P.network R) =
      subst (λ (T : List Range). IsWithin (IsSummed P old) (IsAmong P.network T)) r (subst (λ (X : Net). IsWithin (IsSummed X old) (IsAmong P.network S)) q within) in
      subst (λ (X : Net). IsWithin (IsSummed X new) (IsHere N R B)) (sym (m ∙ q)) (node_here N P others same more R old B new fit n here)

  pub here_asked : IsWithin (IsAmong P.network S) (IsSummed Q old) → IsWithin (IsHere N R B) (IsSummed M new)
  here_asked all =
      let here : IsWithin (IsAmong P.network R) (IsSummed P old) =
      subst (λ (T : List Range). IsWithin (IsAmong P.network T) (IsSummed P old)) r (subst (λ (X : Net). IsWithin (IsAmong P.network S) (IsSummed X old)) q all) in
      subst (λ (X : Net). IsWithin (IsHere N R B) (IsSummed X new)) (sym (m ∙ q)) (here_node N P others same more R old B new fit n here)

-- ---- leaf by leaf

in_some_at : {X : Type 0} (sums : X → Sums) (xs : List X) (k : ℕ) (d : X) (map : List ℕ) (sum : ℕ) → k < length xs → sums (get_or xs k d) map sum → InSome sums xs map sum
in_some_at {X} sums [] k d map sum h s = absurd (omega (arith, h))
in_some_at {X} sums (x ∷ xs) zero d map sum h s = inl s
in_some_at {X} sums (x ∷ xs) (suc k) d map sum h s = inr (in_some_at sums xs k d map sum (omega (arith, h)) s)

-- the maps of a leaf are among those of all
pub here_left : (N : Net) (R : List Range) (leaves : List Boxes) (k : ℕ) (B : Boxes) → k < length leaves → B ≡ get_or leaves k B → IsWithin (IsHere N R B) (IsLeft N R leaves)
here_left N R leaves k B h e map sum s =
    (in_some_at (IsSummed N) leaves k B map sum h (subst (λ (C : Boxes). IsSummed N C map sum) e s.0), s.1)

-- a leaf more has none
pub none_more : (N : Net) (R : List Range) (leaves more : List Boxes) (B : Boxes) (cap : ℕ) → more ≡ leaves ++ B ∷ [] → IsLowerBound (IsLeft N R leaves) cap → IsLowerBound (IsHere N R B) cap → IsLowerBound (IsLeft N R more) cap
none_more N R leaves more B cap e before here map sum s =
    let some : InSome (IsSummed N) (leaves ++ B ∷ []) map sum = subst (λ (ls : List Boxes). InSome (IsSummed N) ls map sum) e s.0 in
    elim (in_some_pop (IsSummed N) leaves B map sum some) [ inl old ↦ before map sum (old, s.1) | inr new ↦ here map sum (new, s.1) ]

-- what is found in some of the maps at the least cost of all is one of least cost
pub found_left : (few many : Sums) (cost : ℕ) (found : Candidate) → IsWithin few many → IsLowerBound many cost → IsOutcome few (cost + 1) (Found found) → IsOutcome many (cost + 1) (Found found)
found_left few many cost found within floor h = (
  record {
    has = within found.map.items found.cost h.0.has;
    least = λ map sum s. omega (arith, floor map sum s, h.1);
  },
  h.1,
)

-- where a search of some of the maps stops, each costs the least cost of all
pub spent_left : (few many : Sums) (cost bound : ℕ) (best : Option Candidate) → IsWithin few many → IsLowerBound many cost → IsOutcome few (cost + 1) (Spent best bound) → IsOutcome many (cost + 1) (Spent best cost)
spent_left few many cost bound None within floor h = (tt, λ map sum s below. floor map sum s)
spent_left few many cost bound (Some best) within floor h = ((within best.map.items best.cost h.0.0, h.0.1), λ map sum s below. floor map sum s)

-- ---- all leaves, for a lesser residue at an event

module _ (N : Net) (R S : List Range) (leaves : List Boxes) (event residue : ℕ) (r q : Range) (cost : ℕ) (here : event < length R) (at : r ≡ get_or R event r) (e : S ≡ set R event q) (below : (x : ℕ) → IsIn q (pos x) ↔ (IsIn r (pos x) × (x < residue))) (floor : IsLowerBound (IsLeft N R leaves) cost) where
  is : (x : ℕ) → IsIn q (pos x) ↔ (IsIn (get_or R event no_range) (pos x) × (x < residue))
  is x = subst (λ (p : Range). IsIn q (pos x) ↔ (IsIn p (pos x) × (x < residue))) (get_or_read R event r here at no_range) (below x)

  lesser : IsWithin (IsLeft N S leaves) (BelowResidue (IsLeft N R leaves) event residue)
  lesser = below_within (InSome (IsSummed N) leaves) R S event residue q here e is

  all_lesser : IsWithin (BelowResidue (IsLeft N R leaves) event residue) (IsLeft N S leaves)
  all_lesser = below_all (InSome (IsSummed N) leaves) R S event residue q here e is

  floor_of_all : IsLowerBound (IsLeft N S leaves) cost
  floor_of_all map sum s = floor map sum (lesser map sum s).0

  module _ (k : ℕ) (B : Boxes) (h : k < length leaves) (b : B ≡ get_or leaves k B) where
    pub floor_of_leaf : IsLowerBound (IsHere N S B) cost
    floor_of_leaf map sum s = floor_of_all map sum (here_left N S leaves k B h b map sum s)

    pub found_in_leaf : (found : Candidate) → IsOutcome (IsHere N S B) (cost + 1) (Found found) → IsOutcome (BelowResidue (IsLeft N R leaves) event residue) (cost + 1) (Found found)
    found_in_leaf found o =
        outcome_same (IsLeft N S leaves) (BelowResidue (IsLeft N R leaves) event residue) (cost + 1) (Found found) lesser all_lesser
        (found_left (IsHere N S B) (IsLeft N S leaves) cost found (here_left N S leaves k B h b) floor_of_all o)

    pub spent_in_leaf : (best : Option Candidate) (bound : ℕ) → IsOutcome (IsHere N S B) (cost + 1) (Spent best bound) → IsOutcome (BelowResidue (IsLeft N R leaves) event residue) (cost + 1) (Spent best cost)
    spent_in_leaf best bound o =
        outcome_same (IsLeft N S leaves) (BelowResidue (IsLeft N R leaves) event residue) (cost + 1) (Spent best cost) lesser all_lesser
        (spent_left (IsHere N S B) (IsLeft N S leaves) cost bound best (here_left N S leaves k B h b) floor_of_all o)

    pub none_in_leaf : IsLowerBound (IsLeft N S (take k leaves)) (cost + 1) → IsLowerBound (IsHere N S B) (cost + 1) → IsLowerBound (IsLeft N S (take (k + 1) leaves)) (cost + 1)
    none_in_leaf before none =
        none_more N S (take k leaves) (take (k + 1) leaves) B (cost + 1)
        (take_more leaves k B h ∙ ap (λ (C : Boxes). take k leaves ++ C ∷ []) (sym b)) before none

  pub none_in_all : (k : ℕ) → length leaves ≤ k → IsLowerBound (IsLeft N S (take k leaves)) (cost + 1) → IsLowerBound (BelowResidue (IsLeft N R leaves) event residue) (cost + 1)
  none_in_all k h none map sum s = none map sum (subst (λ (ls : List Boxes). IsLeft N S ls map sum) (sym (take_all k leaves h)) (all_lesser map sum s))
