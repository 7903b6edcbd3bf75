-- One end, and then the other.
use Rattle.std.proofs.Common.{neg_ℤ, subst, ap}
use Rattle.pesp_search_cycles.specs.Ranges.{IsIn}
use Rattle.pesp_search_cycles.specs.Walks.{Path, residue}
use Rattle.pesp_search_cycles.proofs.Flipped.{plus_neg}
use Rattle.pesp_search_cycles.proofs.root.ends_range.Goals as goal

pub returns-clause-inside : goal.returns-clause-inside
returns-clause-inside c zs inside =
    let arcs = c.args.arcs.now in
    let walk = c.args.walk.now in
    let from : IsIn c.in_ok-from.from (residue arcs zs walk.from) =
    subst (λ v. IsIn c.in_ok-from.from (residue arcs zs v)) (ap (λ (p : Path). p.from) c.walk.view_is) (c.in_ok-from.ensures zs inside) in
    let to : IsIn c.in_ok-to.to (residue arcs zs walk.to) =
    subst (λ v. IsIn c.in_ok-to.to (residue arcs zs v)) (ap (λ (p : Path). p.to) c.walk.view_is) (c.in_ok-to.ensures zs inside) in
    let back : IsIn c.in_ok-back.back (neg_ℤ (residue arcs zs walk.to)) = c.in_ok-back.ensures.inside (residue arcs zs walk.to) to in
    subst (λ z. IsIn c.in_ok-range.range z) (plus_neg (residue arcs zs walk.from) (residue arcs zs walk.to))
    (c.in_ok-range.ensures.inside (residue arcs zs walk.from) (neg_ℤ (residue arcs zs walk.to)) from back)
