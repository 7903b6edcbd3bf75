-- What is read beyond the items is 0, as the items are that come.
use Rattle.std.proofs.Common.{◌≡◌, rules, ap, ◌∙◌, arith}
use Rattle.pesp_counts_arcs.specs.Shared.{Shared}
use Rattle.pesp_counts_arcs.proofs.RingEdits.{lists_grown, rings_grown}
use Rattle.pesp_counts_arcs.proofs.RingStores.{no_neighbours}
use Rattle.pesp_counts_arcs.proofs.lists.Lists.grow_items.Goals as goal

pub invariant_of-self : goal.invariant_of-self
invariant_of-self c =
    let none : c.default.result ≡ no_neighbours = search rules in
    rings_grown c.self.inside.items.items c.resize.new.self.items c.self.inside.heads.items c.args.items _ c.self.inside.items.ok.0 (omega arith) (rw none at c.in_ok-resize.ensures.items)
    (let l = c.in_ok-resize.ensures.len in omega (arith, l, c.self.inside.items.ok.0, c.resize.new.self.ok.0)) (omega arith) c.self.invariant

pub returns-in_ok-resize-clause-lists : goal.returns-in_ok-resize-clause-lists
returns-in_ok-resize-clause-lists c =
    let none : c.default.result ≡ no_neighbours = search rules in
    lists_grown c.self.inside.items.items c.resize.new.self.items c.self.inside.heads.items c.args.items _ c.self.inside.items.ok.0 (omega arith) (rw none at c.in_ok-resize.ensures.items)
    ∙ ap (λ (s : Shared). s.lists) c.self.view_is

pub returns-in_ok-resize-clause-stored : goal.returns-in_ok-resize-clause-stored
returns-in_ok-resize-clause-stored c = let rings = invariant_of-self c in rings.stored
