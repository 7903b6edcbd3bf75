-- Each write leaves the other field as it was.
use Rattle.std.proofs.Common.{List, slice_index_or, slice_set, refl, ap, ◌∙◌}
use Rattle.std.proofs.Math.Seq.{map-set_same}
use Rattle.std.proofs.lemmas.List.{map-set}
use Rattle.pesp_counts_arcs.specs.declared.lists.Neighbours.{Neighbours}
use Rattle.pesp_counts_arcs.proofs.RingStores.{no_neighbours}
use Rattle.pesp_counts_arcs.proofs.lists.join.Goals as goal

pub returns-clause-afters : goal.returns-clause-afters
returns-clause-afters c =
    let items = c.args.items.now in
    let b = c.args.before in
    let a = c.args.after in
    let half : List Neighbours = slice_set items b (record { before = (slice_index_or items b no_neighbours).before; after = a }) in
    map-set_same (λ (n : Neighbours). n.after) half a (record { before = b; after = (slice_index_or half a no_neighbours).after }) no_neighbours refl
    ∙ map-set (λ (n : Neighbours). n.after) items b (record { before = (slice_index_or items b no_neighbours).before; after = a })

pub returns-clause-befores : goal.returns-clause-befores
returns-clause-befores c =
    let items = c.args.items.now in
    let b = c.args.before in
    let a = c.args.after in
    let half : List Neighbours = slice_set items b (record { before = (slice_index_or items b no_neighbours).before; after = a }) in
    map-set (λ (n : Neighbours). n.before) half a (record { before = b; after = (slice_index_or half a no_neighbours).after })
    ∙ ap (λ xs. slice_set xs a b)
    (map-set_same (λ (n : Neighbours). n.before) items b (record { before = (slice_index_or items b no_neighbours).before; after = a }) no_neighbours refl)
