-- The first item goes, and the one that stands after it is the next.
use Rattle.std.proofs.Common.{◌≡◌, ℕ, ◌-◌, ◌<◌, ◌∷◌, List, length, slice_index_or, subst, sym, ap, ◌∙◌, arith}
use Rattle.std.specs.List.{Contains}
use Rattle.pesp_domains.proofs.Families.{here, there}
use Rattle.pesp_counts_arcs.specs.declared.lists.Neighbours.{Neighbours}
use Rattle.pesp_counts_arcs.specs.Lists.{afters, steps}
use Rattle.pesp_counts_arcs.proofs.ListLaws.{steps_more}
use Rattle.pesp_counts_arcs.proofs.RingStores.{field_read}
use Rattle.pesp_counts_arcs.proofs.lists.WalkIterator.next.Goals as goal

-- what is left begins with the item, which has a place
begun : (items : List Neighbours) (item left : ℕ) → ((k : ℕ) → Contains (steps (afters items) item left) k → k < length items) → (left ≡ 0 → ⊥) → item < length items
begun items item left within some =
    let next = afters items in
    within item (subst (λ xs. Contains xs item) (sym (steps_more next item left some)) (here item (steps next (slice_index_or next item 0) (left - 1))))

pub index-requires : goal.index-requires
index-requires c =
    let below = begun c.self.inside.items.now.items c.self.inside.item c.self.inside.left c.self.invariant c.if-self-eq0.false in
    omega (arith, below)

pub invariant_of-self : goal.invariant_of-self
invariant_of-self c k i =
    let items = c.self.inside.items.now.items in
    let next = afters items in
    let below = begun items c.self.inside.item c.self.inside.left c.self.invariant c.if-self-eq0.false in
    let same = field_read (λ n. n.after) items c.self.inside.item c.index.result.now below c.index.ensures in
    c.self.invariant k
    (subst (λ xs. Contains xs k) (sym (steps_more next c.self.inside.item c.self.inside.left c.if-self-eq0.false))
    (there k c.self.inside.item (steps next (slice_index_or next c.self.inside.item 0) (c.self.inside.left - 1))
    (subst (λ j. Contains (steps next j (c.self.inside.left - 1)) k) same i)))

pub returns-clause-steps : goal.returns-clause-steps
returns-clause-steps c =
    let items = c.self.inside.items.now.items in
    let next = afters items in
    let below = begun items c.self.inside.item c.self.inside.left c.self.invariant c.if-self-eq0.false in
    let same = field_read (λ n. n.after) items c.self.inside.item c.index.result.now below c.index.ensures in
    sym c.self.view_is ∙ steps_more next c.self.inside.item c.self.inside.left c.if-self-eq0.false
    ∙ ap (λ j. c.self.inside.item ∷ steps next j (c.self.inside.left - 1)) (sym same)

pub returns-clause-goes : goal.returns-clause-goes
returns-clause-goes c =
    let fewer = ap length (returns-clause-steps c) in
    record {
      on = λ finite. (tt, finite, omega (arith, fewer));
      keeps = tt;
      rests = λ finite. tt;
    }
