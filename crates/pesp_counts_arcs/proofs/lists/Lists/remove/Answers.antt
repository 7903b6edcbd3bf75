-- The items on both sides of it lead to each other.
use Rattle.std.proofs.Common.{◌≡◌, ◌≢◌, length, slice_index_or, slice_set, ap, subst, sym, ◌∙◌, inl, inr, ◌⊎◌, refl, arith}
use Rattle.std.specs.List.{Contains}
use Rattle.pesp_counts_arcs.specs.Lists.{afters, befores, items_at, lists_of}
use Rattle.pesp_counts_arcs.specs.Shared.{Shared}
use Rattle.pesp_counts_arcs.proofs.ListLaws.{items_written}
use Rattle.pesp_counts_arcs.proofs.RingStores.{Opened, field_read, lists_less, opened, rings_less}
use Rattle.pesp_counts_arcs.proofs.StandLists.{all_but, list_there}
use Rattle.pesp_counts_arcs.proofs.lists.Lists.remove.Goals as goal
use Rattle.pesp_counts_arcs.proofs.lists.Lists.remove.Goals.{After-index-around, After-join, else-head-item, then-head-item}

there_is : (c : After-index-around) → Contains (items_at (lists_of (afters c.self.inside.items.items) c.self.inside.heads.items) c.args.list) c.args.item
there_is c = subst (λ (s : Shared). Contains (items_at s.lists c.args.list) c.args.item) (sym c.self.view_is) c.requires

store : (c : After-index-around) → Opened c.self.inside.items.items c.self.inside.heads.items c.args.list c.index-head.result.now
store c = opened _ _ _ _ c.self.invariant (list_there _ c.args.list c.args.item (there_is c)) c.index-head.ensures

-- what stands around the item
after_is : (c : After-index-around) → c.index-around.result.now.after ≡ slice_index_or (afters c.self.inside.items.items) c.args.item 0
after_is c = field_read (λ n. n.after) _ c.args.item _ (c.self.invariant.stored.shared.within c.args.list c.args.item (there_is c)) c.index-around.ensures

before_is : (c : After-index-around) → c.index-around.result.now.before ≡ slice_index_or (befores c.self.inside.items.items) c.args.item 0
before_is c = field_read (λ n. n.before) _ c.args.item _ (c.self.invariant.stored.shared.within c.args.list c.args.item (there_is c)) c.index-around.ensures

-- the neighbours as they were written
ahead : (c : After-join) → let items = c.self.inside.items.items in let item = c.args.item in
    c.index-around.result.now.before ≡ slice_index_or (befores items) item 0 → c.index-around.result.now.after ≡ slice_index_or (afters items) item 0
    → afters c.join.new.items ≡ slice_set (afters items) (slice_index_or (befores items) item 0) (slice_index_or (afters items) item 0)
ahead c before after = rw (c.join.ensures.afters, before, after, c.deref_mut.ensures.value) refl

back : (c : After-join) → let items = c.self.inside.items.items in let item = c.args.item in
    c.index-around.result.now.before ≡ slice_index_or (befores items) item 0 → c.index-around.result.now.after ≡ slice_index_or (afters items) item 0
    → befores c.join.new.items ≡ slice_set (befores items) (slice_index_or (afters items) item 0) (slice_index_or (befores items) item 0)
back c before after = rw (c.join.ensures.befores, before, after, c.deref_mut.ensures.value) refl

many : (c : After-join) → length c.join.new.items ≡ length c.self.inside.items.items
many c = c.join.auto.items ∙ ap length c.deref_mut.ensures.value

front : (c : After-join) → let head = c.index-head.result.now in c.index-around.result.now.after ≡ slice_index_or (afters c.self.inside.items.items) c.args.item 0
    → ((head.first ≡ c.args.item) × (c.if-head-item.first ≡ slice_index_or (afters c.self.inside.items.items) c.args.item 0)) ⊎ ((head.first ≢ c.args.item) × (c.if-head-item.first ≡ head.first))
front c after =
    elim c.if-head-item.branch [
      | then-head-item w ↦ inl (w.if-head-item.true, w.first-is ∙ after)
      | else-head-item w ↦ inr (w.if-head-item.false, w.first-is)
    ]

pub index-around-requires : goal.index-around-requires
index-around-requires c =
    let there = subst (λ (s : Shared). Contains (items_at s.lists c.args.list) c.args.item) (sym c.self.view_is) c.requires in
    let low = c.self.invariant.stored.shared.within c.args.list c.args.item there in
    omega (arith, low, c.self.inside.items.ok.0)

pub join-requires-clause-before : goal.join-requires-clause-before
join-requires-clause-before c =
    let at = (goal.at.join-requires-clause-before c).After-index-around in
    rw (before_is at, c.deref_mut.ensures.value) (c.self.invariant.stored.shared.within c.args.list _ (c.self.invariant.backward.stays c.args.list c.args.item (there_is at)))

pub join-requires-clause-after : goal.join-requires-clause-after
join-requires-clause-after c =
    let at = (goal.at.join-requires-clause-after c).After-index-around in
    rw (after_is at, c.deref_mut.ensures.value) (c.self.invariant.stored.shared.within c.args.list _ (c.self.invariant.forward.stays c.args.list c.args.item (there_is at)))

pub invariant_of-self : goal.invariant_of-self
invariant_of-self c =
    let at = (goal.at.invariant_of-self c).After-index-around in
    let put = (goal.at.invariant_of-self c).After-join in
    rw (items_written c.join.new.items c.self.inside.items.items c.self.inside.items.len c.self.inside.items.ok.0 (many put))
    (rings_less _ _ _ _ (store at) c.join.new.items c.args.item c.if-head-item.first (there_is at) (ahead put (before_is at) (after_is at)) (back put (before_is at) (after_is at)) (front (goal.at.invariant_of-self c).After-join (after_is at)) (many put))

pub returns-clause-lists : goal.returns-clause-lists
returns-clause-lists c =
    let at = (goal.at.returns-clause-lists c).After-index-around in
    let put = (goal.at.returns-clause-lists c).After-join in
    rw (items_written c.join.new.items c.self.inside.items.items c.self.inside.items.len c.self.inside.items.ok.0 (many put))
    (lists_less _ _ _ _ (store at) c.join.new.items c.args.item c.if-head-item.first (there_is at) (ahead put (before_is at) (after_is at)) (back put (before_is at) (after_is at)) (front (goal.at.returns-clause-lists c).After-join (after_is at))
    ∙ ap (λ (s : Shared). slice_set s.lists c.args.list (all_but c.args.item (items_at s.lists c.args.list))) c.self.view_is)

pub returns-clause-stored : goal.returns-clause-stored
returns-clause-stored c = let rings = invariant_of-self c in rings.stored
