-- What is listed at both ends, or at the first alone and then no longer.
use Rattle.std.proofs.Common.{◌≡◌, Some, true, false, not, ◌==◌, ◌&&◌, ap, ◌∙◌}
use Rattle.pesp_instance.specs.Ends.{ListsMore, ListsLess, lists}
use Rattle.pesp_instance.specs.Table.{slot_of}
use Rattle.pesp_instance.proofs.Vertices.{linked_both, listed_before, not_from, unlisted_again}
use Rattle.pesp_instance.proofs.ends.Table+Vertex.link.Goals as goal

pub returns-in-Ok-clause-ok : goal.returns-in-Ok-clause-ok
returns-in-Ok-clause-ok c =
    let there : slot_of c.list.new.self c.args.activity.now.to ≡ Some c.args.to = rw c.in_ok-is_new.ensures.kept.slots c.requires.to in
    let first : ListsMore (λ e n. c.args.activity.now.from == e && c.args.activity.now.id == n) c.args.self.now.values c.list.new.self.values = rw (← c.get-number.ensures.value) (c.in_ok-is_new.ensures.ok c.args.activity.now.from c.requires.from) in
    let second : ListsMore (λ e n. c.args.activity.now.to == e && c.args.activity.now.id == n) c.list.new.self.values c.list-2.new.self.values = rw (← c.get-number.ensures.value) (c.in-Ok.ensures.ok c.args.activity.now.to there) in
    linked_both c.args.self.now.values c.list.new.self.values c.list-2.new.self.values c.args.activity.now first second

pub returns-then-is_new-clause-err : goal.returns-then-is_new-clause-err
returns-then-is_new-clause-err c =
    let n' = c.get-number.result in
    let there : slot_of c.list-2.new.self c.args.activity.now.from ≡ Some c.args.from = rw (c.in-Err.ensures.kept.slots, c.in_ok-is_new.ensures.kept.slots) c.requires.from in
    let absent : lists c.args.self.now.values c.args.activity.now.from n' ≡ false = not_from _ _ (c.in_ok-is_new.ensures.added c.args.activity.now.from c.requires.from) ∙ ap not c.if-is_new.true in
    let less : ListsLess (λ e n. c.args.activity.now.from == e && n' == n) c.list.new.self.values c.unlist.new.self.values = λ e n. c.unlist.ensures.listed c.args.activity.now.from there e n ∙ ap (λ b. not (c.args.activity.now.from == e && n' == n) && b) (c.in-Err.ensures.err e n) in
    unlisted_again c.args.self.now.values c.list.new.self.values c.args.activity.now.from n' (c.in_ok-is_new.ensures.ok c.args.activity.now.from c.requires.from) c.unlist.new.self.values absent less

pub returns-else-is_new-clause-err : goal.returns-else-is_new-clause-err
returns-else-is_new-clause-err c e n =
    let n' = c.get-number.result in
    let there : lists c.args.self.now.values c.args.activity.now.from n' ≡ true = not_from _ _ (c.in_ok-is_new.ensures.added c.args.activity.now.from c.requires.from) ∙ ap not c.if-is_new.false in
    c.in-Err.ensures.err e n ∙ listed_before c.args.self.now.values c.list.new.self.values c.args.activity.now.from n' (c.in_ok-is_new.ensures.ok c.args.activity.now.from c.requires.from) there e n
