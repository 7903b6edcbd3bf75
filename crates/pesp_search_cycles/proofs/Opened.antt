-- Nodes that are opened at boxes: together they have each map that is in one of these.
use Rattle.std.proofs.Common.{◌≡◌, ℕ, ◌+◌, ◌++◌, ◌∷◌, [], inl, inr, List, All, sym, subst, arith}
use Rattle.std.proofs.lemmas.List.Elements.{All-push}
use Rattle.pesp_search_least.specs.Sums.{InSome, IsCut, IsWithin}
use Rattle.pesp_search_least.proofs.Stack.{in_some_pop, in_some_push}
use Rattle.pesp_search_cycles.specs.declared.boxes.Boxes.{Boxes}
use Rattle.pesp_search_cycles.specs.declared.node.Node.{Node}
use Rattle.pesp_search_cycles.specs.declared.range.Range.{Range}
use Rattle.pesp_search_cycles.specs.Leaves.{sums_of}
use Rattle.pesp_search_cycles.specs.Maps.{IsAmong, IsInside, IsSummed, Net}
use Rattle.pesp_search_cycles.specs.Splits.{IsNarrowed}
use Rattle.pesp_search_cycles.specs.Starts.{AreStarts, IsInBoxes}
use Rattle.pesp_search_cycles.proofs.Narrowed.{IsInFront, inside_narrowed, narrowed_inside}

-- ---- one node

module _ (N : Net) (root : Node) (nodes : List Node) (alone : nodes ≡ root ∷ []) (same : root.cycles.now ≡ N) where
  pub alone_there : IsWithin (IsSummed N root.boxes) (InSome sums_of nodes)
  alone_there map sum s = subst (λ (ns : List Node). InSome sums_of ns map sum) (sym alone) (inl (subst (λ (M : Net). IsSummed M root.boxes map sum) (sym same) s))

  pub alone_back : IsWithin (InSome sums_of nodes) (IsSummed N root.boxes)
  alone_back map sum s =
      elim (subst (λ (ns : List Node). InSome sums_of ns map sum) alone s) [
        | inl here ↦ subst (λ (M : Net). IsSummed M root.boxes map sum) same here
        | inr none ↦ absurd none
      ]

-- ---- boxes in boxes

pub front_of_same : (N : Net) (B : Boxes) (xs : List ℕ) → IsInside N B xs → IsInFront N.network N.walks B xs
front_of_same N B xs i = record {
  numbers = λ k h. i.numbers.each k (omega (arith, h, i.numbers.long));
  rounds = λ k h. i.rounds.each k (omega (arith, h, i.rounds.long));
}

pub inside_both : (N : Net) (old others new : Boxes) (xs : List ℕ) → IsNarrowed old others new → IsInside N old xs → IsInside N others xs → IsInside N new xs
inside_both N old others new xs n i j = inside_narrowed N old others new xs n i (front_of_same N others xs j)

-- ---- node by node

-- the nodes have the maps of these boxes, and no others than all
pub record AreOpened (N : Net) (R : List Range) (starts : List Boxes) (nodes : List Node) : Type 0 where
  pub same : All (λ n. n.cycles.now ≡ N) nodes
  pub all : (xs : List ℕ) (sum : ℕ) → IsAmong N.network R xs sum → InSome (IsInBoxes N) starts xs sum → InSome sums_of nodes xs sum
  pub within : IsWithin (InSome sums_of nodes) (IsAmong N.network R)

module _ (N : Net) (R : List Range) where
  module _ (starts : List Boxes) (start : Boxes) (nodes : List Node) (root node : Node) (are : AreOpened N R starts nodes)
      (same : node.cycles.now ≡ N) (narrowed : IsNarrowed root.boxes start node.boxes)
      (there : IsWithin (IsAmong N.network R) (IsSummed N root.boxes)) (back : IsWithin (IsSummed N root.boxes) (IsAmong N.network R)) where
    here : (xs : List ℕ) (sum : ℕ) → IsAmong N.network R xs sum → IsInside N start xs → sums_of node xs sum
    here xs sum among inside =
        subst (λ (M : Net). IsSummed M node.boxes xs sum) (sym same)
        (record { costed = among.costed; inside = inside_both N root.boxes start node.boxes xs narrowed (there xs sum among).inside inside })

    among_of : (xs : List ℕ) (sum : ℕ) → sums_of node xs sum → IsAmong N.network R xs sum
    among_of xs sum s =
        let t : IsSummed N node.boxes xs sum = subst (λ (M : Net). IsSummed M node.boxes xs sum) same s in
        back xs sum (record { costed = t.costed; inside = (narrowed_inside N root.boxes start node.boxes xs narrowed t.inside).0 })

    pub opened_more : AreOpened N R (starts ++ start ∷ []) (nodes ++ node ∷ [])
    opened_more = record {
      same = All-push (λ (n : Node). n.cycles.now ≡ N) nodes node are.same same;
      all = λ xs sum among has.
          in_some_push sums_of nodes node xs sum
          (elim (in_some_pop (IsInBoxes N) starts start xs sum has) [ inl before ↦ inl (are.all xs sum among before) | inr inside ↦ inr (here xs sum among inside) ]);
      within = λ xs sum has. elim (in_some_pop sums_of nodes node xs sum has) [ inl before ↦ are.within xs sum before | inr last ↦ among_of xs sum last ];
    }

  -- a search of these nodes has all maps that cost little enough
  pub cut_of_opened : (starts leaves : List Boxes) (nodes : List Node) (cost : ℕ) → AreStarts N.network N R cost starts
      → ((xs : List ℕ) (sum : ℕ) → IsAmong N.network R xs sum → InSome (IsInBoxes N) starts xs sum → InSome sums_of nodes xs sum) → IsWithin (InSome sums_of nodes) (IsAmong N.network R)
      → IsCut (cost + 1) (InSome sums_of nodes) (InSome (IsSummed N) leaves) → IsCut (cost + 1) (IsAmong N.network R) (InSome (IsSummed N) leaves)
  cut_of_opened starts leaves nodes cost are all within cut = record {
    keeps = λ xs sum less among. cut.keeps xs sum less (all xs sum among (are xs sum among (omega (arith, less))));
    within = λ xs sum has. within xs sum (cut.within xs sum has);
  }

-- ---- boxes narrowed to others

-- each map of the boxes that is in one of these is in one of those
abbrev pub AreBoth : Net → (List ℕ → Type 0) → List Boxes → List Boxes → Type 0
AreBoth N is_inside others both = (xs : List ℕ) (sum : ℕ) → is_inside xs → InSome (IsInBoxes N) others xs sum → InSome (IsInBoxes N) both xs sum

module _ (N : Net) (others : List Boxes) (other : Boxes) (all : List Boxes) (boxes new : Boxes) (narrowed : IsNarrowed boxes other new) (both : AreBoth N (IsInside N boxes) others all) where
  pub both_more : AreBoth N (IsInside N boxes) (others ++ other ∷ []) (all ++ new ∷ [])
  both_more xs sum inside has =
      in_some_push (IsInBoxes N) all new xs sum
      (elim (in_some_pop (IsInBoxes N) others other xs sum has) [
        | inl before ↦ inl (both xs sum inside before)
        | inr last ↦ inr (inside_both N boxes other new xs narrowed inside last)
      ])

-- those of the boxes before, or of one more
pub and_more : (N M : Net) (before : List Boxes) (boxes : Boxes) (others both new : List Boxes) → M ≡ N → IsWithin (InSome (IsInBoxes M) both) (InSome (IsInBoxes M) new) → AreBoth M (IsInside M boxes) others new
    → (xs : List ℕ) (sum : ℕ) → (InSome (IsInBoxes N) before xs sum → InSome (IsInBoxes N) others xs sum → InSome (IsInBoxes N) both xs sum)
    → InSome (IsInBoxes N) (before ++ boxes ∷ []) xs sum → InSome (IsInBoxes N) others xs sum → InSome (IsInBoxes N) new xs sum
and_more N M before boxes others both new same kept last xs sum so_far has more =
    let there : (bs : List Boxes) → InSome (IsInBoxes N) bs xs sum → InSome (IsInBoxes M) bs xs sum = λ bs s. subst (λ (O : Net). InSome (IsInBoxes O) bs xs sum) (sym same) s in
    let back : (bs : List Boxes) → InSome (IsInBoxes M) bs xs sum → InSome (IsInBoxes N) bs xs sum = λ bs s. subst (λ (O : Net). InSome (IsInBoxes O) bs xs sum) same s in
    back new
    (elim (in_some_pop (IsInBoxes N) before boxes xs sum has) [
      | inl old ↦ kept xs sum (there both (so_far old more))
      | inr inside ↦ last xs sum (subst (λ (O : Net). IsInside O boxes xs) (sym same) inside) (there others more)
    ])
