-- Heads that come have no item.
use Rattle.std.proofs.Common.{ap, ◌∙◌, arith}
use Rattle.std.proofs.lemmas.List.{length-map}
use Rattle.pesp_counts_arcs.specs.declared.lists.Head.{Head}
use Rattle.pesp_counts_arcs.specs.Lists.{afters, items_at, lists_of, steps}
use Rattle.pesp_counts_arcs.specs.Shared.{Shared}
use Rattle.pesp_counts_arcs.proofs.ListLaws.{items_of_more}
use Rattle.pesp_counts_arcs.proofs.RingEdits.{rings_same}
use Rattle.pesp_counts_arcs.proofs.lists.Lists.grow_lists.Goals as goal

pub invariant_of-self : goal.invariant_of-self
invariant_of-self c =
    let next = afters c.self.inside.items.items in
    let heads = c.self.inside.heads.items in
    rings_same c.self.inside.items.items (lists_of next heads) (lists_of next c.resize.new.self.items)
    (let few = length-map c.resize.new.self.items (λ (h : Head). steps next h.first h.count) in omega (arith, few, c.in_ok-resize.ensures.len, c.resize.new.self.ok.0))
    (λ p. ap (λ hs. items_at (lists_of next hs) p) c.in_ok-resize.ensures.items ∙ items_of_more next heads c.args.lists _ p c.self.inside.heads.ok.0 (omega arith))
    c.self.invariant

pub returns-in_ok-resize-clause-lists : goal.returns-in_ok-resize-clause-lists
returns-in_ok-resize-clause-lists c p =
    let next = afters c.self.inside.items.items in
    let heads = c.self.inside.heads.items in
    ap (λ hs. items_at (lists_of next hs) p) c.in_ok-resize.ensures.items
    ∙ items_of_more next heads c.args.lists _ p c.self.inside.heads.ok.0 (omega arith)
    ∙ ap (λ (s : Shared). items_at s.lists p) c.self.view_is

pub returns-in_ok-resize-clause-stored : goal.returns-in_ok-resize-clause-stored
returns-in_ok-resize-clause-stored c = let rings = invariant_of-self c in rings.stored
