-- Residue 0 was enough, or the first residue of use is the next one.
use Rattle.std.proofs.Common.{◌≡◌, length, arith}
use Rattle.pesp_search.proofs.Searching.{goes_on, next_on, over_on, over_turned}
use Rattle.pesp_search.proofs.tree_search.TreeSearch.step_from.Goals as goal

pub returns-then-is_zero_enough-clause-step : goal.returns-then-is_zero_enough-clause-step
returns-then-is_zero_enough-clause-step g c =
    let I = g.K.Keeper.network c.args.keeper.now in
    let s = c.requires.searching in
    let path = c.args.self.now.branch.times.items in
    let told = rw c.deref.ensures.value at (c.is_zero_enough.ensures c.if-is_zero_enough.true) in
    let depth : c.len.result ≡ length path = omega (arith, c.len.ensures) in
    over_turned I (g.K.Keeper.pushes c.args.keeper.now) c.args.self.now s c.requires.first.room (s.least (length path) (rw depth at told.0)) told.1

pub next_of_use-requires-clause-searching : goal.next_of_use-requires-clause-searching
next_of_use-requires-clause-searching g c = c.requires.searching

-- ---- down

pub returns-in-Some-clause-searching : goal.returns-in-Some-clause-searching
returns-in-Some-clause-searching g c =
    goes_on (g.K.Keeper.network c.args.keeper.now) (g.K.Keeper.pushes c.args.keeper.now) c.args.self.now c.next_of_use.new.self c.requires.searching c.next_of_use.ensures.same c.next_of_use.ensures.branch

pub returns-in-Some-clause-step : goal.returns-in-Some-clause-step
returns-in-Some-clause-step g c =
    next_on (g.K.Keeper.network c.args.keeper.now) (g.K.Keeper.pushes c.args.keeper.now) c.args.self.now c.next_of_use.new.self c.requires.searching c.next_of_use.ensures.same c.args.first c.in-Some.residue c.requires.first
    c.in-Some.ensures.next

-- ---- or back up

pub returns-in-None-clause-searching : goal.returns-in-None-clause-searching
returns-in-None-clause-searching g c =
    goes_on (g.K.Keeper.network c.args.keeper.now) (g.K.Keeper.pushes c.args.keeper.now) c.args.self.now c.next_of_use.new.self c.requires.searching c.next_of_use.ensures.same c.next_of_use.ensures.branch

pub returns-in-None-clause-step : goal.returns-in-None-clause-step
returns-in-None-clause-step g c =
    over_on (g.K.Keeper.network c.args.keeper.now) (g.K.Keeper.pushes c.args.keeper.now) c.args.self.now c.next_of_use.new.self c.requires.searching c.next_of_use.ensures.same c.args.first c.requires.first c.in-None.ensures.next
