-- The residues that are looked at are those that meet the activity.
use Rattle.std.proofs.Common.{sym, subst, ◌∙◌}
use Rattle.pesp_domains.specs.Domains.{Joins, holds}
use Rattle.pesp_domains.proofs.Families.{none_passes, passing}
use Rattle.pesp_domains.proofs.sweep.has_partner.Goals as goal

pub returns-in-Tail-clause-yes : goal.returns-in-Tail-clause-yes
returns-in-Tail-clause-yes c h =
    let w = passing (holds c.args.row.now) c.partners.result (sym c.holds_any.ensures ∙ h) in
    (w.0, w.2, subst (λ side. Joins side c.args.period c.args.activity.now c.args.residue w.0) (sym c.in-Tail.is) ((c.partners.ensures.met w.0).0 w.1).1)

pub returns-in-Tail-clause-no : goal.returns-in-Tail-clause-no
returns-in-Tail-clause-no c h s below is joins =
    none_passes (holds c.args.row.now) c.partners.result (sym c.holds_any.ensures ∙ h) s
    ((c.partners.ensures.met s).1 (below, subst (λ side. Joins side c.args.period c.args.activity.now c.args.residue s) c.in-Tail.is joins)) is

pub returns-in-Head-clause-yes : goal.returns-in-Head-clause-yes
returns-in-Head-clause-yes c h =
    let w = passing (holds c.args.row.now) c.sources.result (sym c.holds_any-in-Head.ensures ∙ h) in
    (w.0, w.2, subst (λ side. Joins side c.args.period c.args.activity.now c.args.residue w.0) (sym c.in-Head.is) ((c.sources.ensures.met w.0).0 w.1).1)

pub returns-in-Head-clause-no : goal.returns-in-Head-clause-no
returns-in-Head-clause-no c h s below is joins =
    none_passes (holds c.args.row.now) c.sources.result (sym c.holds_any-in-Head.ensures ∙ h) s
    ((c.sources.ensures.met s).1 (below, subst (λ side. Joins side c.args.period c.args.activity.now c.args.residue s) c.in-Head.is joins)) is
