-- An activity is given a place, or taken away again.
use Rattle.std.proofs.Common.{◌*◌, ◌≤◌, ◌∙◌, sym, subst, length}
use Rattle.pesp_counts_arcs.specs.Places.{place_of}
use Rattle.pesp_base.proofs.Tests.{always_err, none_from}
use Rattle.pesp_counts.proofs.Asks.{first_fails}
use Rattle.pesp_counts.proofs.Carried.{roomier_none}
use Rattle.pesp_counts.proofs.Housed.{activity_period, dropped_activity_again, for_linked_more, for_seen, look_seen, unlinked_seen}
use Rattle.pesp_counts_arcs.proofs.StandLaws.{stands_same}
use Rattle.pesp_counts.proofs.keeper.counted.house_activity.Goals as goal

pub returns-in_err-add_activity-clause-back : goal.returns-in_err-add_activity-clause-back
returns-in_err-add_activity-clause-back c =
    let links = c.args.links.now in
    let after = c.add_activity.new.self in
    let s = c.args.supports.now in
    let same = c.in_err-add_activity.ensures.err in
    always_err c.from_residual.result (λ I J network made h. (
      for_seen I links after s s h (stands_same I links after same h.stand) (look_seen links after same) (roomier_none s) h.even,
      look_seen links after same,
    ))

pub add_activity-requires-clause-absent : goal.add_activity-requires-clause-absent
add_activity-requires-clause-absent c =
    let (I, J, made, h) = c.requires.stands in
    none_from (place_of c.args.links.now.activities c.args.activity.now.id) (h.stand.of_activities c.args.activity.now.id ∙ first_fails _ _ _ _ J made)

pub drop_activity-requires : goal.drop_activity-requires
drop_activity-requires c =
    let (I, J, made, h) = c.requires.stands in
    (J, c.in_ok-add_activity.ensures.ok I J (sym h.period ∙ c.requires.period) made h.stand)

pub returns-in-Err-clause-back : goal.returns-in-Err-clause-back
returns-in-Err-clause-back c I J network made h =
    let links = c.args.links.now in
    let middle = c.add_activity.new.self in
    let after = c.drop_activity.new.self in
    let a = c.args.activity.now in
    let q = c.in_ok-add_activity.field-0 in
    let changed = rw c.in_ok-add_activity.ensures.place at c.drop_activity.ensures.changed in
    let gone = rw c.in_ok-add_activity.ensures.place at c.drop_activity.ensures.gone in
    let stand = c.drop_activity.ensures.stand J I (dropped_activity_again I J a network made) (c.in_ok-add_activity.ensures.ok I J (sym h.period ∙ c.requires.period) made h.stand) in
    let seen = unlinked_seen links middle after q c.in_ok-add_activity.ensures.changed changed gone in
    (for_seen I links after c.args.supports.now c.make_counts.new.self h stand seen c.make_counts.ensures.grown c.make_counts.ensures.even, seen)

pub returns-clause-ok : goal.returns-clause-ok
returns-clause-ok c I J made h =
    let links = c.args.links.now in
    let middle = c.add_activity.new.self in
    let room : length middle.ends * c.args.supports.now.period ≤ length c.make_counts.new.self.counts = subst (λ n. n * c.args.supports.now.period ≤ length c.make_counts.new.self.counts) c.end_count.ensures c.in_default.ensures.ok in
    for_linked_more I J links middle c.args.supports.now c.make_counts.new.self c.in_ok-add_activity.field-0 h (c.in_ok-add_activity.ensures.ok I J (sym h.period ∙ c.requires.period) made h.stand) (activity_period I J c.args.activity.now made)
    c.in_ok-add_activity.ensures.changed c.make_counts.ensures.grown c.make_counts.ensures.even room
