-- One pair more is pushed, and one node more is counted.
use Rattle.std.proofs.Common.{length, refl, arith}
use Rattle.pesp_search.specs.Found.{AtLeast, limit_of}
use Rattle.pesp_search.proofs.Events.{event_there}
use Rattle.pesp_search.proofs.Moves.{at_free}
use Rattle.pesp_search.proofs.Searching.{searching_down}
use Rattle.pesp_search.proofs.Timed.{index_has_event}
use Rattle.pesp_search.proofs.tree_search.TreeSearch.descend.Goals as goal

pub push_fix-requires-clause-event : goal.push_fix-requires-clause-event
push_fix-requires-clause-event g c =
    let I = g.K.Keeper.network c.args.keeper.now in
    let path = c.args.self.now.branch.times.items in
    let room = c.requires.step.room in
    rw (event_there I c.args.self.now.events.now c.len.result (length path) c.index-self-len.result c.requires.searching.events (omega (arith, c.len.ensures)) room) (index_has_event I (length path) room)

pub push_fix-requires-clause-free : goal.push_fix-requires-clause-free
push_fix-requires-clause-free g c r is =
    let I = g.K.Keeper.network c.args.keeper.now in
    let s = c.requires.searching in
    let state = c.args.self.now in
    let path = state.branch.times.items in
    let room = c.requires.step.room in
    let item = event_there I state.events.now c.len.result (length path) c.index-self-len.result s.events (omega (arith, c.len.ensures)) room in
    at_free (AtLeast I (limit_of state.incumbent)) I (g.K.Keeper.pushes c.args.keeper.now) path state.from s.network s.at room r (rw item at is)

pub push-requires-clause-next : goal.push-requires-clause-next
push-requires-clause-next g c =
    let I = g.K.Keeper.network c.args.keeper.now in
    let path = c.args.self.now.branch.times.items in
    rw (c.instance.ensures, c.push_fix.ensures.network)
    (event_there I c.args.self.now.events.now c.len.result (length path) c.index-self-len.result c.requires.searching.events (omega (arith, c.len.ensures)) c.requires.step.room)

pub returns-clause-searching : goal.returns-clause-searching
returns-clause-searching g c =
    let I = g.K.Keeper.network c.args.keeper.now in
    let s = c.requires.searching in
    let state = c.args.self.now in
    let path = state.branch.times.items in
    let nodes = c.saturating_add-self.result in
    let item = event_there I state.events.now c.len.result (length path) c.index-self-len.result s.events (omega (arith, c.len.ensures)) c.requires.step.room in
    rw (c.push_fix.ensures.pushes, item)
    (record {
      searching =
          searching_down I (g.K.Keeper.pushes c.args.keeper.now) state c.push.new.self c.args.residue nodes s c.requires.step c.requires.limit
          (rw (c.instance.ensures, c.push_fix.ensures.network) at c.push.ensures.branch) c.push.ensures.times (omega (arith, c.saturating_add-self.ensures)) (omega (arith, c.saturating_add-self.ensures));
      bound = refl;
      limit = refl;
    })
