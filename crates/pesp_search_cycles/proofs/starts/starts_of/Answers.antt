-- The boxes are those of all maps, or have what was found in the parts.
use Rattle.std.proofs.Common.{sym, subst}
use Rattle.pesp_search_cycles.specs.declared.boxes.Boxes.{Boxes}
use Rattle.pesp_search_cycles.specs.Maps.{IsInside}
use Rattle.pesp_search_cycles.proofs.Parted.{starts_of_parts}
use Rattle.pesp_search_cycles.proofs.starts.starts_of.Goals as goal

pub returns-then-count-lt2-clause-starts : goal.returns-then-count-lt2-clause-starts
returns-then-count-lt2-clause-starts c xs sum s less =
    c.in_ok-all.ensures.inside xs sum (subst (λ (B : Boxes). IsInside c.args.site.now.cycles.now B xs) (sym c.into_parts-root.ensures.boxes) (c.in_ok-whole.ensures.all xs sum s).inside)

pub found_in_all-requires-clause-root : goal.found_in_all-requires-clause-root
found_in_all-requires-clause-root c xs sum s =
    subst (λ (B : Boxes). IsInside c.args.site.now.cycles.now B xs) (sym c.into_parts-root.ensures.boxes) (c.in_ok-whole.ensures.all xs sum s).inside

pub returns-in-Some-clause-starts : goal.returns-in-Some-clause-starts
returns-in-Some-clause-starts c =
    let N = c.args.site.now.cycles.now in
    let found = rw c.in-Some.is at c.in_ok-found.ensures.found in
    starts_of_parts N.network c.args.parts.now.arcs.items N c.args.site.now.residues.now found.0 c.in-Some.found.cost c.args.cost c.in-Some.found.boxes.items c.if-cost-branch.true found.1

pub returns-clause-starts : goal.returns-clause-starts
returns-clause-starts c xs sum s less =
    c.in_ok-all.ensures.inside xs sum (subst (λ (B : Boxes). IsInside c.args.site.now.cycles.now B xs) (sym c.into_parts-root.ensures.boxes) (c.in_ok-whole.ensures.all xs sum s).inside)
