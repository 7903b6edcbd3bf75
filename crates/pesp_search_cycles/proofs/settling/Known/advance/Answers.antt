-- Leaves that are told are leaves of all maps.
use Rattle.pesp_search_cycles.proofs.settling.Known.advance.Goals as goal

pub returns-in-Open-clause-known : goal.returns-in-Open-clause-known
returns-in-Open-clause-known c = c.of.ensures.known c.args.cycles.now c.args.best.now.cost c.in_ok-leaves-in-Open.ensures.leaves

pub returns-clause-known : goal.returns-clause-known
returns-clause-known c = c.of-2.ensures.known c.args.cycles.now c.args.best.now.cost c.in_ok-leaves.ensures.leaves
