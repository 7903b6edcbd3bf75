-- The row at an event's place is its domain.
use Rattle.std.proofs.Common.{subst, sym, ◌∙◌}
use Rattle.pesp_domains.specs.Domains.{IsDomain}
use Rattle.pesp_counts.specs.Restores.{Seen}
use Rattle.pesp_counts.specs.Keeping.{pairs_of}
use Rattle.pesp_counts.proofs.Keeping.{row_domain}
use Rattle.pesp_counts.proofs.keeper.CountKeeperKeeper.row.Goals as goal

pub returns-in-Some-clause-domain : goal.returns-in-Some-clause-domain
returns-in-Some-clause-domain c =
    let i = c.self.inside in
    subst (λ (k : Seen). IsDomain k.network k.pushes c.args.event c.row.result.now) c.self.view_is
    (row_domain i.instance (pairs_of i.pushed.items) i.counted.links i.counted.supports c.args.event c.in-Some.place c.row.result.now c.self.invariant.settled (sym c.event.ensures ∙ c.in-Some.is) c.row.ensures.row c.row.ensures.long)
