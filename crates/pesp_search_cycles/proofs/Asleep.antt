-- Nodes that go from one stack to another one by one, with their maps.
use Rattle.std.proofs.Common.{◌≡◌, ℕ, ◌⊎◌, All, List, [], ◌∷◌, ◌++◌, Some, inl, inr, refl, sym, subst, arith}
use Rattle.std.proofs.lemmas.List.Elements.{All-nil, All-pop, All-push}
use Rattle.pesp_search_least.specs.Sums.{InSome, IsWithin, Sums}
use Rattle.pesp_search_least.proofs.Stack.{in_some_pop, in_some_push}
use Rattle.pesp_search_cycles.specs.declared.boxes.Boxes.{Boxes}
use Rattle.pesp_search_cycles.specs.declared.node.Node.{Node}
use Rattle.pesp_search_cycles.specs.declared.waiting.Waiting.{Waiting}
use Rattle.pesp_search_cycles.specs.Leaves.{sums_of}
use Rattle.pesp_search_cycles.specs.Maps.{AreBoxes, IsSummed, Net}
use Rattle.pesp_search_cycles.specs.Waiting.{IsWaiting, sums_in}

-- each sum of all is of one that is left or of one that was moved, and these have no others
pub record AreMoved {X Y : Type 0} (of : X → Sums) (in' : Y → Sums) (P : X → Type 0) (Q : Y → Type 0) (all : Sums) (xs : List X) (ys : List Y) : Type 0 where
  pub left : All P xs
  pub moved : All Q ys
  pub there : (map : List ℕ) (sum : ℕ) → all map sum → InSome of xs map sum ⊎ InSome in' ys map sum
  pub left_within : IsWithin (InSome of xs) all
  pub moved_within : IsWithin (InSome in' ys) all

module _ {X Y : Type 0} (of : X → Sums) (in' : Y → Sums) (P : X → Type 0) (Q : Y → Type 0) where
  pub moved_first : (xs : List X) → All P xs → AreMoved of in' P Q (InSome of xs) xs []
  moved_first xs all = record {
    left = all;
    moved = All-nil Q;
    there = λ map sum has. inl has;
    left_within = λ map sum has. has;
    moved_within = λ map sum none. absurd none;
  }

  module _ (all : Sums) (xs : List X) (x : X) (ys : List Y) (is : AreMoved of in' P Q all (xs ++ x ∷ []) ys) where
    pub moved_is : P x
    moved_is = (All-pop P (xs ++ x ∷ []) xs (Some x) refl is.left).1

    pub moved_more : (y : Y) → Q y → IsWithin (of x) (in' y) → IsWithin (in' y) (of x) → AreMoved of in' P Q all xs (ys ++ y ∷ [])
    moved_more y q there back = record {
      left = (All-pop P (xs ++ x ∷ []) xs (Some x) refl is.left).0;
      moved = All-push Q ys y is.moved q;
      there = λ map sum has.
          elim (is.there map sum has) [
            | inl before ↦ elim (in_some_pop of xs x map sum before) [ inl rest ↦ inl rest | inr last ↦ inr (in_some_push in' ys y map sum (inr (there map sum last))) ]
            | inr gone ↦ inr (in_some_push in' ys y map sum (inl gone))
          ];
      left_within = λ map sum has. is.left_within map sum (in_some_push of xs x map sum (inl has));
      moved_within = λ map sum has.
          elim (in_some_pop in' ys y map sum has) [
            | inl gone ↦ is.moved_within map sum gone
            | inr last ↦ is.left_within map sum (in_some_push of xs x map sum (inr (back map sum last)))
          ];
    }

  pub moved_last : (all : Sums) (ys : List Y) → AreMoved of in' P Q all [] ys → IsWithin all (InSome in' ys)
  moved_last all ys is map sum has = elim (is.there map sum has) [ inl none ↦ absurd none | inr gone ↦ gone ]

-- the maps of a node, with its cycles and apart from them
module _ (N : Net) (n : Node) (w : Waiting) (cycles : n.cycles.now ≡ N) (boxes : w.boxes ≡ n.boxes) where
  pub node_there : IsWithin (sums_of n) (sums_in N w)
  node_there map sum s =
      subst (λ (B : Boxes). IsSummed N B map sum) (sym boxes) (subst (λ (M : Net). IsSummed M n.boxes map sum) cycles s)

  pub node_back : IsWithin (sums_in N w) (sums_of n)
  node_back map sum s =
      subst (λ (M : Net). IsSummed M n.boxes map sum) (sym cycles) (subst (λ (B : Boxes). IsSummed N B map sum) boxes s)

-- one of which nothing is known
pub new_waits : (N : Net) (B : Boxes) (w : Waiting) → AreBoxes N B → w.boxes ≡ B → w.bound ≡ Some 0 → IsWaiting N w
new_waits N B w fit boxes bound = record {
  fit = subst (λ (C : Boxes). AreBoxes N C) (sym boxes) fit;
  none = rw bound (λ none. absurd (cc));
  lower = rw bound (λ b is map sum s. let zero : 0 ≡ b = cc in omega (arith, zero));
}
