-- The map of the piece is turned, and joined with that of the rest.
use Rattle.pesp_search_network.proofs.Shares.{costed-joined}
use Rattle.pesp_search_network.proofs.network.Network.join.Goals as goal

pub returns-clause-costed : goal.returns-clause-costed
returns-clause-costed c =
    let peeled = c.args.peeled.now in
    let piece = c.args.piece.now in
    let told = rw (c.period-2.ensures, c.turn-turn.ensures.value, c.period.ensures, c.deref.ensures.value, c.deref-2.ensures.value, c.deref-3.ensures.value) at c.join.ensures in
    costed-joined c.args.self.now peeled.piece peeled.rest peeled.cut.inner.items peeled.cut.joint c.requires.peeled piece.map.items c.args.rest.map.items c.join.result.items piece.cost
    c.args.rest.cost c.requires.piece c.requires.rest told
