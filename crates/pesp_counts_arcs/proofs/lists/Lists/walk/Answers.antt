-- The items of the head are those of its list.
use Rattle.std.proofs.Common.{◌≡◌, rules, slice_index_or, subst, sym, ap, ◌∙◌}
use Rattle.std.specs.List.{Contains}
use Rattle.pesp_counts_arcs.specs.declared.lists.Head.{Head}
use Rattle.pesp_counts_arcs.specs.Lists.{afters, steps}
use Rattle.pesp_counts_arcs.proofs.ListLaws.{items_any, no_head}
use Rattle.pesp_counts_arcs.proofs.lists.Lists.walk.Goals as goal

pub invariant_of-result : goal.invariant_of-result
invariant_of-result c k i =
    let next = afters c.self.inside.items.items in
    let heads = c.self.inside.heads.items in
    let is : c.unwrap_or_default-head.result ≡ slice_index_or heads c.args.list no_head = search rules in
    let walk = ap (λ (h : Head). steps next h.first h.count) is ∙ sym (items_any next heads c.args.list) in
    c.self.invariant.stored.shared.within c.args.list k (subst (λ xs. Contains xs k) walk i)
