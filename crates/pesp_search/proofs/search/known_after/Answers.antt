-- What the search knows is told as it came.
use Rattle.pesp_search.proofs.Ends.{known_dead}
use Rattle.pesp_search.proofs.search.known_after.Goals as goal

pub returns-clause-dead : goal.returns-clause-dead
returns-clause-dead g c dead = known_dead (g.K.Keeper.network c.args.keeper.now) c.args.bound c.args.limit c.search.result c.search.ensures.is_network dead c.search.ensures.known c.search.ensures.nodes
