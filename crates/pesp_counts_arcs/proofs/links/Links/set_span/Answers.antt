-- The ends of the activity pass what the new span joins.
use Rattle.std.proofs.Common.{◌≡◌, ◌+◌, ◌*◌, List, refl, slice_set, sym, ap, ◌∙◌, arith}
use Rattle.std.proofs.lemmas.Grind.{common_steps}
use Rattle.pesp_domains.specs.declared.side.Side.TheVariants.{Tail, Head}
use Rattle.pesp_instance.specs.declared.edit.Edit.TheVariants as edits
use Rattle.pesp_counts_arcs.specs.declared.end.End.{End}
use Rattle.pesp_counts_arcs.specs.Ends.{end_at}
use Rattle.pesp_counts_arcs.specs.Links.{IsEndFor, KeepOthers, LookAt}
use Rattle.pesp_counts_arcs.proofs.StandAround.{span_set, two_made}
use Rattle.pesp_counts_arcs.proofs.StandLaws.{stands_for}
use Rattle.pesp_counts_arcs.proofs.links.Links.set_span.Goals as goal
use Rattle.pesp_counts_arcs.proofs.links.Links.set_span.Goals.{After-index_mut-in-Some}

-- the ends as they were written
abbrev remade : After-index_mut-in-Some → List End
remade c = slice_set (slice_set c.self.inside.ends.items c.tail_at-tail.result c.tail.result) (c.tail_at-tail.result + 1) c.head.result

wrote : (c : After-index_mut-in-Some) → let ends = c.self.inside.ends.items in let q = c.in-Some.place in
    KeepOthers ends (remade c) q × IsEndFor c.args.period c.args.span Tail (end_at (remade c) (2 * q)) × IsEndFor c.args.period c.args.span Head (end_at (remade c) (2 * q + 1))
    × LookAt (remade c) q (end_at ends (2 * q + 1)).looks_at (end_at ends (2 * q)).looks_at
wrote c =
    let low = c.self.invariant.activity_room c.args.id c.in-Some.place (rw (sym c.self.view_is) at (sym c.activity.ensures ∙ c.in-Some.is)) in
    let head : c.index.result.now ≡ end_at c.self.inside.ends.items (2 * c.in-Some.place) = grind (arith, common_steps, low, c.tail_at-tail.ensures, c.index.ensures) in
    let tail : c.index-in-Some.result.now ≡ end_at c.self.inside.ends.items (2 * c.in-Some.place + 1) = grind (arith, common_steps, low, c.tail_at-tail.ensures, c.index-in-Some.ensures) in
    two_made c.args.period c.args.span c.self.inside.ends.items c.in-Some.place c.tail_at-tail.result _ _ c.tail.result c.head.result c.tail_at-tail.ensures low
    (record { first = c.tail.ensures.first; some = c.tail.ensures.some; width = c.tail.ensures.width; joins = c.tail.ensures.joins })
    (record { first = c.head.ensures.first; some = c.head.ensures.some; width = c.head.ensures.width; joins = c.head.ensures.joins })
    (c.tail.ensures.looks ∙ ap (λ (e : End). e.looks_at) head, c.tail.ensures.mate) (c.head.ensures.looks ∙ ap (λ (e : End). e.looks_at) tail, c.head.ensures.mate)

pub returns-in-Some-clause-stand : goal.returns-in-Some-clause-stand
returns-in-Some-clause-stand c I J period ok stand =
    let put = (goal.at.returns-in-Some-clause-stand c).After-index_mut-in-Some in
    let at = rw (sym c.self.view_is) at (sym c.activity.ensures ∙ c.in-Some.is) in
    let (keep, tail, head, look) = wrote put in
    stands_for I J (edits.SetSpan c.args.id c.args.span) _ ok
    (span_set I _ (remade put) c.args.id c.in-Some.place c.args.span at keep (rw (sym period) at tail) (rw (sym period) at head) look (rw (sym c.self.view_is) at stand))

pub returns-in-Some-clause-changed : goal.returns-in-Some-clause-changed
returns-in-Some-clause-changed c =
    let (keep, tail, head, look) = wrote (goal.at.returns-in-Some-clause-changed c).After-index_mut-in-Some in
    rw (sym c.activity.ensures ∙ c.in-Some.is, sym c.self.view_is)
    (record {
      events = λ e. refl;
      listed = λ p k i out. i;
      ends = keep.others;
    })
