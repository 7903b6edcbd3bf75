-- The rows are the domains.
use Rattle.std.proofs.Common.{subst, IfSome}
use Rattle.pesp_domains.specs.Domains.{IsDomain}
use Rattle.pesp_domains.specs.Kept.{Kept}
use Rattle.pesp_domains.proofs.Opened.{row_is_domain}
use Rattle.pesp_domains.proofs.plain.PlainKeeperKeeper.row.Goals as goal

pub returns-clause-domain : goal.returns-clause-domain
returns-clause-domain c =
    subst (λ (k : Kept). IfSome c.get.result (λ row. IsDomain k.network k.pushes c.args.event row.now)) c.self.view_is
    (row_is_domain c.self.inside.instance c.self.inside.pushed.items c.self.inside.rows c.args.event c.get.result c.get.ensures c.self.invariant.of_events c.self.invariant.domains)
