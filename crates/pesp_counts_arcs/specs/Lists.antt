-- Lists of small numbers that share one store: each number is in at most one of them.
use Rattle.std.specs.Prelude.{◌≡◌, ◌≢◌, ℕ, zero, suc, ◌^◌, ◌<◌, ◌==◌, if◌then◌else◌, List, [], ◌∷◌, length, map, slice_index_or, AllPairs}
use Rattle.std.specs.List.{Contains}
use Rattle.pesp_counts_arcs.specs.declared.lists.Head.{Head}
use Rattle.pesp_counts_arcs.specs.declared.lists.Neighbours.{Neighbours}

-- the items from one on, so many of them, each followed by the one that stands at it
abbrev pub steps : List ℕ → ℕ → ℕ → List ℕ
steps next item zero = []
steps next item (suc n) = item ∷ steps next (slice_index_or next item 0) n

abbrev pub lists_of : List ℕ → List Head → List (List ℕ)
lists_of next heads = map (λ h. steps next h.first h.count) heads

-- the items of a list
abbrev pub items_at : List (List ℕ) → ℕ → List ℕ
items_at lists p = slice_index_or lists p []

-- each item has a place in the store, and no two places of the lists have the same item
pub record AreShared (items : ℕ) (lists : List (List ℕ)) : Type 0 where
  pub within : (p k : ℕ) → Contains (items_at lists p) k → k < items
  pub once : (p : ℕ) → AllPairs (λ j k. j ≢ k) (items_at lists p)
  pub apart : (p q k : ℕ) → Contains (items_at lists p) k → Contains (items_at lists q) k → p ≡ q

-- items and lists are fewer than 2 ^ 32 each, and each item is in one list at most
pub record AreStored (items : ℕ) (lists : List (List ℕ)) : Type 0 where
  pub few : items < 2 ^ 32
  pub few_lists : length lists < 2 ^ 32
  pub shared : AreShared items lists

-- what stands after each item, and what before it
abbrev pub afters : List Neighbours → List ℕ
afters items = map (λ n. n.after) items

abbrev pub befores : List Neighbours → List ℕ
befores items = map (λ n. n.before) items

-- the first item of the list of a head, and the last; in an empty list the item that comes is both
abbrev pub first_of : Head → ℕ → ℕ
first_of head item = if head.count == 0 then item else head.first

abbrev pub last_of : List ℕ → Head → ℕ → ℕ
last_of befores head item = if head.count == 0 then item else slice_index_or befores head.first 0

-- an item of a list leads to one of the same list, and from there it is led back to
pub record LeadRound (there back : List ℕ) (lists : List (List ℕ)) : Type 0 where
  pub stays : (p k : ℕ) → Contains (items_at lists p) k → Contains (items_at lists p) (slice_index_or there k 0)
  pub returns : (p k : ℕ) → Contains (items_at lists p) k → slice_index_or back (slice_index_or there k 0) 0 ≡ k

-- the items are stored, and those after one and before it stand in the same list
pub record AreRings (items : List Neighbours) (lists : List (List ℕ)) : Type 0 where
  pub stored : AreStored (length items) lists
  pub forward : LeadRound (afters items) (befores items) lists
  pub backward : LeadRound (befores items) (afters items) lists
