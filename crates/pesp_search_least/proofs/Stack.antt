-- A stack of nodes: what sums it has, and the most nodes that may yet be expanded.
use Rattle.std.proofs.Common.{◌≡◌, ℕ, zero, suc, ◌+◌, ◌<◌, ◌≤◌, ◌⊎◌, List, [], ◌∷◌, ◌++◌, inl, inr, arith, All, Some, refl}
use Rattle.std.proofs.lemmas.List.Elements.{All-pop, All-push}
use Rattle.pesp_search_least.specs.Sums.{InSome, Sums}

-- ---- sums

-- what is in some node, or in one more, is in some node of both
pub in_some_push : {R : Type 0} (sums : R → Sums) (rs : List R) (r : R) (map : List ℕ) (sum : ℕ) → InSome sums rs map sum ⊎ sums r map sum → InSome sums (rs ++ r ∷ []) map sum
in_some_push {R} sums [] r map sum h = elim h [ inl x ↦ absurd x | inr y ↦ inl y ]
in_some_push {R} sums (q ∷ rs) r map sum h =
    elim h [ inl x ↦ elim x [ inl here ↦ inl here | inr there ↦ inr (in_some_push sums rs r map sum (inl there)) ] | inr y ↦ inr (in_some_push sums rs r map sum (inr y)) ]

-- and the other way round
pub in_some_pop : {R : Type 0} (sums : R → Sums) (rs : List R) (r : R) (map : List ℕ) (sum : ℕ) → InSome sums (rs ++ r ∷ []) map sum → InSome sums rs map sum ⊎ sums r map sum
in_some_pop {R} sums [] r map sum h = elim h [ inl x ↦ inr x | inr y ↦ absurd y ]
in_some_pop {R} sums (q ∷ rs) r map sum h =
    elim h [ inl here ↦ inl (inl here) | inr there ↦ elim (in_some_pop sums rs r map sum there) [ inl x ↦ inl (inr x) | inr y ↦ inr y ] ]

-- ---- sizes

-- the most nodes that a tree of so many levels has
pub tree : ℕ → ℕ
tree zero = 1
tree (suc n) = 1 + (tree n + tree n)

-- each tree has a node
pub tree-some : (n : ℕ) → 0 < tree n
unfolding tree
tree-some zero = omega arith
tree-some (suc n) = omega arith

-- a tree of more levels has no fewer
pub tree-mono : (a b : ℕ) → a ≤ b → tree a ≤ tree b
unfolding tree
tree-mono zero b h = tree-some b
tree-mono (suc a) zero h = absurd (omega (arith, h))
tree-mono (suc a) (suc b) h = let more : tree a ≤ tree b = tree-mono a b (omega (arith, h)) in omega (arith, more)

-- two of fewer levels have fewer together
pub tree-halves : (a b n : ℕ) → a < n → b < n → tree a + tree b < tree n
unfolding tree
tree-halves a b zero first second = absurd (omega (arith, first))
tree-halves a b (suc n) first second =
    let left : tree a ≤ tree n = tree-mono a n (omega (arith, first)) in
    let right : tree b ≤ tree n = tree-mono b n (omega (arith, second)) in
    omega (arith, left, right)

-- the most nodes that may yet be expanded from these
pub to_expand : {R : Type 0} → (R → ℕ) → List R → ℕ
to_expand {R} size [] = 0
to_expand {R} size (r ∷ rs) = tree (size r) + to_expand size rs

-- one more on top
pub to_expand-push : {R : Type 0} (size : R → ℕ) (rs : List R) (r : R) → to_expand size (rs ++ r ∷ []) ≡ to_expand size rs + tree (size r)
unfolding to_expand
to_expand-push {R} size [] r = omega arith
to_expand-push {R} size (q ∷ rs) r = omega (arith, to_expand-push size rs r)

-- ---- what holds of each node

pub all_popped : {X : Type 0} (P : X → Type 0) (xs : List X) (x : X) → All P (xs ++ x ∷ []) → All P xs × P x
all_popped {X} P xs x all = All-pop P (xs ++ x ∷ []) xs (Some x) refl all

pub all_pushed : {X : Type 0} (P : X → Type 0) (xs : List X) (first second : X) → All P xs → P first → P second → All P ((xs ++ second ∷ []) ++ first ∷ [])
all_pushed {X} P xs first second all one other = All-push P (xs ++ second ∷ []) first (All-push P xs second all other) one
