-- The item is in front of its list, and in no other.
use Rattle.std.proofs.Common.{◌≡◌, ℕ, ◌+◌, ◌^◌, ◌<◌, ◌∷◌, List, [], length, slice_set, ap, subst, sym, ◌∙◌, refl, arith}
use Rattle.std.specs.List.{Contains}
use Rattle.std.proofs.lemmas.List.{get_or-set_same}
use Rattle.pesp_counts_arcs.specs.declared.lists.Head.{Head}
use Rattle.pesp_counts_arcs.specs.declared.lists.Neighbours.{Neighbours}
use Rattle.pesp_counts_arcs.specs.Lists.{AreRings, afters, befores, first_of, items_at, last_of, lists_of}
use Rattle.pesp_counts_arcs.specs.Shared.{Shared}
use Rattle.pesp_counts_arcs.proofs.ListLaws.{items_written, length-steps, shared_more, short}
use Rattle.pesp_counts_arcs.proofs.RingStores.{Opened, first_low, last_low, lists_more, opened, rings_more, walked}
use Rattle.pesp_counts_arcs.proofs.lists.Lists.add.Goals as goal
use Rattle.pesp_counts_arcs.proofs.lists.Lists.add.Goals.{After-index-head, After-join-2}

store : (c : After-index-head) → Opened c.self.inside.items.items c.self.inside.heads.items c.args.list c.index-head.result.now
store c = opened _ _ _ _ c.self.invariant (subst (λ (s : Shared). c.args.list < length s.lists) (sym c.self.view_is) c.requires.list) c.index-head.ensures

low : (c : After-index-head) → c.args.item < length c.self.inside.items.items
low c = subst (λ (s : Shared). c.args.item < s.items) (sym c.self.view_is) c.requires.item

out : (c : After-index-head) (q : ℕ) → Contains (items_at (lists_of (afters c.self.inside.items.items) c.self.inside.heads.items) q) c.args.item → ⊥
out c q i = c.requires.free q (subst (λ (s : Shared). Contains (items_at s.lists q) c.args.item) c.self.view_is i)

-- a list has no more items than there are, also with the new one
few : (items : List Neighbours) (heads : List Head) (list item : ℕ) (head : Head) → Opened items heads list head → item < length items → ((q : ℕ) → Contains (items_at (lists_of (afters items) heads) q) item → ⊥) → head.count + 1 < 2 ^ 32
few items heads list item head o low out =
    let lists : List (List ℕ) = lists_of (afters items) heads in
    let more : List (List ℕ) = slice_set lists list (item ∷ items_at lists list) in
    let shared = shared_more lists list item o.there (length items) low out o.rings.stored.shared in
    let most = short (length items) (items_at more list) (shared.within list) (shared.once list) in
    let at : items_at more list ≡ item ∷ items_at lists list = get_or-set_same lists list (item ∷ items_at lists list) [] o.there in
    let long = ap length at in
    let walk = ap length (walked items heads list head o) in
    let all = o.rings.stored.few in
    omega (arith, most, long, walk, length-steps (afters items) head.first head.count, all)

-- the neighbours as they were written
ahead : (c : After-join-2) → let items = c.self.inside.items.items in let head = c.index-head.result.now in let item = c.args.item in
    afters c.join-2.new.items ≡ slice_set (slice_set (afters items) (last_of (befores items) head item) item) item (first_of head item)
ahead c = rw (c.join-2.ensures.afters, c.join.ensures.afters, c.ring_ends-last.ensures.last, c.ring_ends-last.ensures.first, c.deref_mut-items.ensures.value) refl

back : (c : After-join-2) → let items = c.self.inside.items.items in let head = c.index-head.result.now in let item = c.args.item in
    befores c.join-2.new.items ≡ slice_set (slice_set (befores items) item (last_of (befores items) head item)) (first_of head item) item
back c = rw (c.join-2.ensures.befores, c.join.ensures.befores, c.ring_ends-last.ensures.last, c.ring_ends-last.ensures.first, c.deref_mut-items.ensures.value) refl

many : (c : After-join-2) → length c.join-2.new.items ≡ length c.self.inside.items.items
many c = c.join-2.auto.items ∙ c.join.auto.items ∙ ap length c.deref_mut-items.ensures.value

pub ring_ends-last-requires : goal.ring_ends-last-requires
ring_ends-last-requires c =
    let at = (goal.at.ring_ends-last-requires c).After-index-head in
    subst (λ (xs : List Neighbours). first_of c.index-head.result.now c.args.item < length xs) (sym c.deref_mut-items.ensures.value) (first_low _ _ _ _ (store at) c.args.item (low at) (out at))

pub join-requires-clause-before : goal.join-requires-clause-before
join-requires-clause-before c =
    let at = (goal.at.join-requires-clause-before c).After-index-head in
    rw (c.ring_ends-last.ensures.last, c.deref_mut-items.ensures.value) (last_low _ _ _ _ (store at) c.args.item (low at) (out at))

pub join-requires-2-clause-after : goal.join-requires-2-clause-after
join-requires-2-clause-after c =
    let at = (goal.at.join-requires-2-clause-after c).After-index-head in
    rw (c.join.auto.items, c.ring_ends-last.ensures.first, c.deref_mut-items.ensures.value) (first_low _ _ _ _ (store at) c.args.item (low at) (out at))

pub overflow_add-head : goal.overflow_add-head
overflow_add-head c =
    let at = (goal.at.overflow_add-head c).After-index-head in
    let most = few _ _ _ _ _ (store at) (low at) (out at) in
    omega (arith, most)

pub invariant_of-self : goal.invariant_of-self
invariant_of-self c =
    let at = (goal.at.invariant_of-self c).After-index-head in
    let put = (goal.at.invariant_of-self c).After-join-2 in
    subst (λ xs. AreRings xs (lists_of (afters xs) (slice_set c.self.inside.heads.items c.args.list (record { first = c.args.item; count = c.index-head.result.now.count + 1 }))))
    (sym (items_written c.join-2.new.items c.self.inside.items.items c.self.inside.items.len c.self.inside.items.ok.0 (many put)))
    (rings_more _ _ _ _ (store at) c.args.item (low at) (out at) c.join-2.new.items (ahead put) (back put) (many put))

pub returns-clause-lists : goal.returns-clause-lists
returns-clause-lists c =
    let at = (goal.at.returns-clause-lists c).After-index-head in
    let put = (goal.at.returns-clause-lists c).After-join-2 in
    ap (λ (xs : List Neighbours). lists_of (afters xs) (slice_set c.self.inside.heads.items c.args.list (record { first = c.args.item; count = c.index-head.result.now.count + 1 })))
    (items_written c.join-2.new.items c.self.inside.items.items c.self.inside.items.len c.self.inside.items.ok.0 (many put))
    ∙ lists_more _ _ _ _ (store at) c.args.item (low at) (out at) c.join-2.new.items (ahead put) (back put)
    ∙ ap (λ (s : Shared). slice_set s.lists c.args.list (c.args.item ∷ items_at s.lists c.args.list)) c.self.view_is

pub returns-clause-stored : goal.returns-clause-stored
returns-clause-stored c = let rings = invariant_of-self c in rings.stored
