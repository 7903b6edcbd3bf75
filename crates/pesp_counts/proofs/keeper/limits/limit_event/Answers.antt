-- Limiting takes pairs out that wait, and settling counts them out.
use Rattle.std.proofs.Common.{◌≡◌, sym, subst, ◌∙◌, ◌==◌}
use Rattle.pesp_counts_supports.specs.Resting.{IsNarrowed}
use Rattle.pesp_counts_arcs.specs.Places.{place_of}
use Rattle.pesp_counts_supports.proofs.Marks.{narrowed, rest_pending}
use Rattle.pesp_counts_supports.proofs.Taken.{kept_shape, fit_then}
use Rattle.pesp_base.proofs.Tests.{same_value}
use Rattle.pesp_counts.proofs.keeper.limits.limit_event.Goals as goal

pub limit-requires : goal.limit-requires
limit-requires c = c.requires.fits.1.housed c.args.event c.in-Some.place (sym c.event.ensures ∙ c.in-Some.is)

pub settle-requires : goal.settle-requires
settle-requires c =
    let links = c.args.links.now in
    let s = c.args.supports.now in
    let l = c.limit.new.self in
    let (I, fits) = c.requires.fits in
    record {
      fit = fit_then links s l (kept_shape s l c.limit.ensures.keeps) fits.fit;
      pending = rw c.mark-mark.ensures (rest_pending links s l c.requires.rest c.limit.ensures.taken c.limit.ensures.keeps);
    }

pub returns-in-Some-clause-narrowed : goal.returns-in-Some-clause-narrowed
returns-in-Some-clause-narrowed c p at =
    let same : c.in-Some.place ≡ p = same_value (place_of c.args.links.now.events c.args.event) c.in-Some.place p (sym c.event.ensures ∙ c.in-Some.is) at in
    subst (λ q. IsNarrowed c.args.links.now q (λ r. r == c.args.residue) c.args.supports.now c.settle.new.self) same
    (narrowed c.args.links.now c.args.supports.now c.limit.new.self c.settle.new.self c.in-Some.place (λ r. r == c.args.residue) c.requires.rest c.limit.ensures.rows c.limit.ensures.taken c.limit.ensures.keeps c.settle.ensures.pending c.settle.ensures.keeps c.settle.ensures.taken c.settle.ensures.shape)

pub returns-in-Some-clause-probes : goal.returns-in-Some-clause-probes
returns-in-Some-clause-probes c = rw (c.mark-mark.ensures, c.limit.ensures.keeps.period, c.limit.ensures.probes) at c.settle.ensures.probes
