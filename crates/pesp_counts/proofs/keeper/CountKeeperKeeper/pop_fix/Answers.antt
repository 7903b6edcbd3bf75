-- What the push took out is put back.
use Rattle.std.proofs.Common.{rules}
use Rattle.std.specs.Vec.{vec_capacity}
use Rattle.pesp_counts.proofs.Keeping.{keeping_pop, last_marked, out_late}
use Rattle.pesp_counts.proofs.keeper.CountKeeperKeeper.pop_fix.Goals as goal

pub put_back-requires-clause-mark : goal.put_back-requires-clause-mark
put_back-requires-clause-mark c = let i = c.self.inside in (last_marked i.instance i.counted.links i.counted.supports _ i.pushed.items c.pop.new.self.items c.in-Some.last c.self.invariant.marked c.in-Some.ensures.items).0

pub put_back-requires-clause-out : goal.put_back-requires-clause-out
put_back-requires-clause-out c = out_late c.self.inside.counted.supports c.in-Some.last.mark c.self.invariant.settled.rest.out

pub invariant_of-self : goal.invariant_of-self
invariant_of-self c =
    let i = c.self.inside in
    rw c.pop.ensures.capacity
    (keeping_pop i.instance i.pushed.items c.pop.new.self.items c.in-Some.last i.counted.links i.counted.supports c.put_back.new.self (vec_capacity i.pushed) (vec_capacity i.counted.back) (vec_capacity i.counted.restored) c.self.invariant c.in-Some.ensures.items
    c.put_back.ensures.rows c.put_back.ensures.exact c.put_back.ensures.level c.put_back.ensures.trail c.put_back.ensures.shape)

-- by search, and named so that a wrong body is refused here at once
pub returns-in-Some-clause-restored : goal.returns-in-Some-clause-restored
returns-in-Some-clause-restored c = search rules
