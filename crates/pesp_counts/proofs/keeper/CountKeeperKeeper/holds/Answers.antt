-- The rows are the domains.
use Rattle.std.proofs.Common.{◌≡◌, subst, sym, ◌∙◌}
use Rattle.std.proofs.lemmas.Bool.{false≢true}
use Rattle.pesp_domains.specs.Domains.{InDomains}
use Rattle.pesp_counts.specs.Restores.{Seen}
use Rattle.pesp_counts_supports.specs.Counts.{has_at}
use Rattle.pesp_counts.specs.Keeping.{pairs_of, rows_of}
use Rattle.pesp_counts.proofs.Bridge.{numbered_at}
use Rattle.pesp_counts.proofs.Keeping.{none_at}
use Rattle.pesp_counts.proofs.keeper.CountKeeperKeeper.holds.Goals as goal

pub returns-in-Some : goal.returns-in-Some
returns-in-Some c =
    let i = c.self.inside in
    let same : rows_of i.counted.links i.counted.supports c.args.event c.args.residue ≡ c.holds.result = numbered_at i.counted.links.events (has_at i.counted.supports.rows) c.args.event c.in-Some.place c.args.residue (sym c.event.ensures ∙ c.in-Some.is) ∙ sym c.holds.ensures in
    let exact = c.self.invariant.settled.domains.exact c.args.event c.args.residue in (
      λ h. subst (λ (k : Seen). InDomains k.network k.pushes c.args.event c.args.residue) c.self.view_is (exact.0 (same ∙ h)),
      λ h. sym same ∙ exact.1 (subst (λ (k : Seen). InDomains k.network k.pushes c.args.event c.args.residue) (sym c.self.view_is) h),
    )

pub returns-in-None : goal.returns-in-None
returns-in-None c =
    let i = c.self.inside in (
      λ h. absurd (false≢true h),
      λ h. absurd (none_at i.instance (pairs_of i.pushed.items) i.counted.links i.counted.supports c.args.event c.args.residue c.self.invariant.settled (sym c.event.ensures ∙ c.in-None.is) (subst (λ (k : Seen). InDomains k.network k.pushes c.args.event c.args.residue) (sym c.self.view_is) h)),
    )
