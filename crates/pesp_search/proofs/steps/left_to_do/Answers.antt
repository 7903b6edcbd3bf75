-- What is left to do is what the domains leave.
use Rattle.std.proofs.Common.{◌<◌, length, refl, ap, ◌∙◌, arith, inl, inr}
use Rattle.pesp_instance.specs.Network.{event_ids}
use Rattle.pesp_search.proofs.Events.{event_read}
use Rattle.pesp_search.proofs.Members.{done_live, next_some, spent_dead, spent_none}
use Rattle.pesp_search.proofs.Timed.{index_has_event}
use Rattle.pesp_search.proofs.steps.left_to_do.Goals as goal

pub returns-then-has_empty_row : goal.returns-then-has_empty_row
returns-then-has_empty_row g c =
    let dead = c.has_empty_row.ensures.dead c.if-has_empty_row.true in
    (spent_dead (g.K.Keeper.network c.args.keeper.now) _ c.args.path.now c.args.from c.requires.network c.requires.pushes dead, inl (rw c.requires.pushes at dead))

pub returns-then-path-events : goal.returns-then-path-events
returns-then-path-events g c =
    done_live (g.K.Keeper.network c.args.keeper.now) _ c.args.path.now c.requires.network c.requires.pushes (c.if-path-events.true ∙ ap length c.requires.events) c.requires.below (c.has_empty_row.ensures.live c.if-has_empty_row.false)

pub next_residue-requires : goal.next_residue-requires
next_residue-requires g c =
    let I = g.K.Keeper.network c.args.keeper.now in
    let room : length c.args.path.now < length (event_ids I) = omega (arith, ap length c.requires.events, c.requires.depth, c.if-path-events.false) in
    rw (event_read I c.args.events.now (length c.args.path.now) (length c.args.path.now) c.index-events-path.result c.requires.events refl room c.index-events-path.is) (index_has_event I (length c.args.path.now) room)

pub returns-in-Some : goal.returns-in-Some
returns-in-Some g c =
    let I = g.K.Keeper.network c.args.keeper.now in
    let room : length c.args.path.now < length (event_ids I) = omega (arith, ap length c.requires.events, c.requires.depth, c.if-path-events.false) in
    let item = event_read I c.args.events.now (length c.args.path.now) (length c.args.path.now) c.index-events-path.result c.requires.events refl room c.index-events-path.is in
    next_some I _ c.args.path.now c.args.from c.in-Some.residue c.requires.network c.requires.pushes room (c.has_empty_row.ensures.live c.if-has_empty_row.false) (rw item at c.in-Some.ensures)

pub returns-in-None : goal.returns-in-None
returns-in-None g c =
    let I = g.K.Keeper.network c.args.keeper.now in
    let room : length c.args.path.now < length (event_ids I) = omega (arith, ap length c.requires.events, c.requires.depth, c.if-path-events.false) in
    let item = event_read I c.args.events.now (length c.args.path.now) (length c.args.path.now) c.index-events-path.result c.requires.events refl room c.index-events-path.is in
    let none = rw item at c.in-None.ensures in
    (spent_none I _ c.args.path.now c.args.from c.requires.network c.requires.pushes room none, inr (rw c.requires.pushes at none))
