-- From all residues that agree sweeps end at the domains.
use Rattle.pesp_domains.proofs.Pushes.{open_settles}
use Rattle.pesp_domains.proofs.sweep.remake.Goals as goal

pub returns-clause-domains : goal.returns-clause-domains
returns-clause-domains c = open_settles c.args.instance.now c.args.pushed.now _ _ c.open_rows.ensures.admitted c.settle.ensures.settles
