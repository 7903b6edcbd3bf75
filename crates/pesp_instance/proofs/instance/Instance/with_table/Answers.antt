-- The activities stand by rising number, and are listed at their ends.
use Rattle.std.proofs.Common.{refl}
use Rattle.pesp_instance.specs.Stored.{network_in}
use Rattle.pesp_instance.proofs.Linked.{IsLinkedTo, with_linked}
use Rattle.pesp_instance.proofs.instance.Instance.with_table.Goals as goal

pub invariant_of-result : goal.invariant_of-result
invariant_of-result c =
    let all = c.in_ok-link_all.ensures in
    let is = c.if-not-branch.false in
    let linked : IsLinkedTo c.self.inside.vertices.values c.link_all.new.self.values c.args.activities.values = record { listed = all.listed is; ends = all.ends is; within = all.within is; kept = all.kept is } in
    record {
      network = with_linked (network_in c.self.inside) c.self.inside.vertices.values c.link_all.new.self.values c.args.activities.values c.self.invariant.network refl c.requires.rising (rw (← c.self.view_is) at c.requires.few) linked;
      listed = linked.listed;
    }

pub returns-clause-network : goal.returns-clause-network
returns-clause-network c =
    let all = c.in_ok-link_all.ensures in
    let is = c.if-not-branch.false in
    let linked : IsLinkedTo c.self.inside.vertices.values c.link_all.new.self.values c.args.activities.values = record { listed = all.listed is; ends = all.ends is; within = all.within is; kept = all.kept is } in
    with_linked (network_in c.self.inside) c.self.inside.vertices.values c.link_all.new.self.values c.args.activities.values c.self.invariant.network refl c.requires.rising (rw (← c.self.view_is) at c.requires.few) linked

pub returns-then-not-branch-clause-none : goal.returns-then-not-branch-clause-none
returns-then-not-branch-clause-none c ends = c.in_ok-link_all.ensures.missing c.if-not-branch.true (rw (← c.self.view_is) at ends)
