-- One residue after another is asked for what is known with it.
use Rattle.std.proofs.Common.{◌≡◌, ◌<◌, ◌++◌, ◌∷◌, [], get_or, sym, ap, ◌∙◌, arith, false, length}
use Rattle.std.proofs.lemmas.Bool.{MatchBool-at_false, MatchBool-at_true, false≢true}
use Rattle.pesp_instance.specs.Network.{event_ids, has_event}
use Rattle.pesp_search.specs.Branch.{IsFront}
use Rattle.pesp_search.specs.Found.{limit_of}
use Rattle.pesp_search.specs.Nodes.{known_cost}
use Rattle.pesp_search.proofs.Cuts.{cut_more, cut_over, no_cut, row_of_next}
use Rattle.pesp_search.proofs.Events.{event_there}
use Rattle.pesp_search.proofs.Fronts.{front_pop}
use Rattle.pesp_search.proofs.Searching.{branch_again, same_node, same_with}
use Rattle.pesp_search.proofs.Timed.{index_has_event}
use Rattle.pesp_search.proofs.tree_search.TreeSearch.next_of_use.Goals as goal
use Rattle.pesp_search.proofs.tree_search.TreeSearch.next_of_use.Goals.{then-holds+else-not-cuts, else-holds}

pub returns-in_err-row-clause-next : goal.returns-in_err-row-clause-next
returns-in_err-row-clause-next g c =
    let I = g.K.Keeper.network c.args.keeper.now in
    let s = c.requires.searching in
    let path = c.args.self.now.branch.times.items in
    let room : length path < length (event_ids I) = omega (arith, c.requires.room, ap length s.events) in
    let item = event_there I c.args.self.now.events.now c.len.result (length path) c.index-self-len.result s.events (omega (arith, c.len.ensures)) room in
    let none : false ≡ has_event I (get_or (event_ids I) (length path) 0) = rw item at c.in_err-row.ensures.event in
    absurd (false≢true (none ∙ index_has_event I (length path) room))

pub loop-residue-init : goal.loop-residue-init
loop-residue-init g c =
    let s = c.requires.searching in
    let state = c.args.self.now in
    record {
      same = same_node state;
      front = s.branch.front;
      cut = no_cut (g.K.Keeper.network c.args.keeper.now) (limit_of state.incumbent) state.branch.times.items c.args.first;
    }

pub cost_with-cost-requires-clause-branch : goal.cost_with-cost-requires-clause-branch
cost_with-cost-requires-clause-branch g c =
    let inv = c.loop-residue.invariant in
    rw c.instance-then-holds.ensures (branch_again (g.K.Keeper.network c.args.keeper.now) c.args.self.now.branch c.loop-residue.self.branch inv.same.times inv.same.cost inv.front c.requires.searching.branch)

pub cost_with-cost-requires-clause-next : goal.cost_with-cost-requires-clause-next
cost_with-cost-requires-clause-next g c =
    let I = g.K.Keeper.network c.args.keeper.now in
    let s = c.requires.searching in
    let path = c.args.self.now.branch.times.items in
    let room : length path < length (event_ids I) = omega (arith, c.requires.room, ap length s.events) in
    rw (c.instance-then-holds.ensures, c.loop-residue.invariant.same.times)
    (event_there I c.args.self.now.events.now c.len.result (length path) c.index-self-len.result s.events (omega (arith, c.len.ensures)) room)

pub cost_with-cost-requires-clause-depth : goal.cost_with-cost-requires-clause-depth
cost_with-cost-requires-clause-depth g c =
    rw (c.instance-then-holds.ensures, c.loop-residue.invariant.same.times) (omega (arith, c.requires.room, ap length c.requires.searching.events))

pub returns-then-not-cuts-clause-branch : goal.returns-then-not-cuts-clause-branch
returns-then-not-cuts-clause-branch g c =
    let I = g.K.Keeper.network c.args.keeper.now in
    let inv = c.loop-residue.invariant in
    let path = c.args.self.now.branch.times.items in
    let front : IsFront I (path ++ c.loop-residue.residue ∷ []) c.cost_with-cost.new.self.timetable = rw (c.instance-then-holds.ensures, inv.same.times) at c.cost_with-cost.ensures.front in
    branch_again I c.args.self.now.branch c.cost_with-cost.new.self (c.cost_with-cost.ensures.times ∙ inv.same.times) (c.cost_with-cost.ensures.cost ∙ inv.same.cost)
    (front_pop I path c.loop-residue.residue c.cost_with-cost.new.self.timetable front) c.requires.searching.branch

pub returns-then-not-cuts-clause-next : goal.returns-then-not-cuts-clause-next
returns-then-not-cuts-clause-next g c =
    let I = g.K.Keeper.network c.args.keeper.now in
    let s = c.requires.searching in
    let inv = c.loop-residue.invariant in
    let state = c.args.self.now in
    let path = state.branch.times.items in
    let r = c.loop-residue.residue in
    let room : length path < length (event_ids I) = omega (arith, c.requires.room, ap length s.events) in
    let item = event_there I state.events.now c.len.result (length path) c.index-self-len.result s.events (omega (arith, c.len.ensures)) room in
    let long : c.get-residue-end.result ≡ I.period = c.get-residue-end.ensures.value ∙ c.period.ensures.value ∙ ap (λ n. n.period) c.instance.ensures in
    let below = c.loop-residue-test.true in
    let value : c.cost_with-cost.result ≡ known_cost I (path ++ r ∷ []) = rw (c.instance-then-holds.ensures, inv.same.times) at c.cost_with-cost.ensures.value in
    record {
      above = c.loop-residue.auto.residue;
      below = omega (arith, long, below);
      inside = (row_of_next I (g.K.Keeper.pushes c.args.keeper.now) path _ c.in_ok-row.row.now s.at.pairs item c.in_ok-row.ensures.domain r).0 (sym c.holds.ensures ∙ c.if-holds.true);
      of_use = rw value at (rw inv.same.incumbent at (MatchBool-at_false _ _ c.if-not-cuts.true c.cuts.ensures));
      before = inv.cut;
    }

pub loop-residue-preserved : goal.loop-residue-preserved
loop-residue-preserved g c =
    let I = g.K.Keeper.network c.args.keeper.now in
    let s = c.requires.searching in
    let inv = c.loop-residue.invariant in
    let state = c.args.self.now in
    let limit = limit_of state.incumbent in
    let path = state.branch.times.items in
    let r = c.loop-residue.residue in
    let room : length path < length (event_ids I) = omega (arith, c.requires.room, ap length s.events) in
    let item = event_there I state.events.now c.len.result (length path) c.index-self-len.result s.events (omega (arith, c.len.ensures)) room in
    elim c.if-holds.branch [
      | then-holds+else-not-cuts w ↦
          let front : IsFront I (path ++ r ∷ []) w.cost_with-cost.new.self.timetable = rw (w.instance-then-holds.ensures, inv.same.times) at w.cost_with-cost.ensures.front in
          let value : w.cost_with-cost.result ≡ known_cost I (path ++ r ∷ []) = rw (w.instance-then-holds.ensures, inv.same.times) at w.cost_with-cost.ensures.value in
          record {
            same = rw w.self-is (same_with state c.loop-residue.self w.cost_with-cost.new.self inv.same w.cost_with-cost.ensures.times w.cost_with-cost.ensures.cost);
            front = rw w.self-is (front_pop I path r w.cost_with-cost.new.self.timetable front);
            cut = cut_more I limit path c.args.first r inv.cut w.cost_with-cost.result value (rw inv.same.incumbent at (MatchBool-at_true _ _ w.if-not-cuts.false w.cuts.ensures));
          }
      | else-holds w ↦
          record {
            same = rw w.self-is inv.same;
            front = rw w.self-is inv.front;
            cut =
                cut_over I limit path c.args.first r inv.cut
                (λ inside. false≢true (sym (sym c.holds.ensures ∙ w.if-holds.false)
                ∙ (row_of_next I (g.K.Keeper.pushes c.args.keeper.now) path _ c.in_ok-row.row.now s.at.pairs item c.in_ok-row.ensures.domain r).1 inside));
          }
    ]

pub returns-clause-next : goal.returns-clause-next
returns-clause-next g c s low high inside =
    let I = g.K.Keeper.network c.args.keeper.now in
    let long : c.get-residue-end.result ≡ I.period = c.get-residue-end.ensures.value ∙ c.period.ensures.value ∙ ap (λ n. n.period) c.instance.ensures in
    let over = c.loop-residue-test.false in
    c.loop-residue.invariant.cut s low (omega (arith, long, over, high)) inside
