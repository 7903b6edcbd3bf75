-- The next pair of the list is followed, alone or with its block, until none is left.
use Rattle.std.proofs.Common.{◌≡◌, ◌<◌, ◌≤◌, ◌+◌, ◌-◌, ◌*◌, ℕ, false, true, IsTrue, length, sym, ap, subst, ◌∙◌, arith, rules, refl}
use Rattle.std.proofs.lemmas.Bool.{false≢true}
use Rattle.pesp_counts_arcs.specs.Ends.{ends_of}
use Rattle.pesp_counts_supports.specs.declared.moving.Way.TheVariants.{In}
use Rattle.pesp_counts_supports.specs.Blocks.{joined_block, of_blocks}
use Rattle.pesp_counts_supports.specs.Counts.{has_at}
use Rattle.pesp_counts_supports.specs.Moves.{comes_of}
use Rattle.pesp_counts_supports.specs.Restored.{HasRoom, IsBrought}
use Rattle.pesp_counts_supports.specs.Supports.{Supports}
use Rattle.pesp_counts_supports.proofs.Moved.{HasGone, has_gone, moves_on}
use Rattle.pesp_counts_supports.proofs.Coming.{block_below, coming_end, coming_more, coming_start, counted_on, next_below, next_there, passed_on}
use Rattle.pesp_counts_supports.proofs.Spent.{ends_more, ends_passed, both_shares}
use Rattle.pesp_counts_supports.proofs.Meeting.{came_itself, came_with, level_joins}
use Rattle.pesp_counts_supports.proofs.Rows.{within_rows}
use Rattle.pesp_counts_supports.proofs.Taken.{fit_then, resummed, shape_then}
use Rattle.pesp_counts_supports.proofs.supports.Supports.restore.Goals as goal
use Rattle.pesp_counts_supports.proofs.supports.Supports.restore.Goals.{After-moving_with-coming, After-index-pair, After-level}

pub loop-next-init : goal.loop-next-init
loop-next-init c =
    let start = c.args.self.now in
    let none : length c.args.back.now.items ≡ 0 = ap length c.requires.empty in
    let room : HasRoom start c.args.back.now = omega (arith, c.requires.room, none) in
    record {
      coming = coming_start c.args.instance.now c.args.links.now c.args.starts.now c.args.spared start c.bring_starts.new.self c.args.back.now c.bring_starts.new.back c.requires.empty c.bring_starts.ensures.brought
          c.requires.exact c.requires.level room;
      counted = λ p r h. absurd (false≢true h);
      room = c.bring_starts.ensures.brought.room;
      probes = omega (arith, c.bring_starts.ensures.probes);
    }

-- ---- a pair that is not counted yet

-- it is below the period, and its row holds it
facts : (c : After-index-pair) → let now = c.loop-next.self in let x = c.index-pair.result.now in
    (c.loop-next.next < length c.loop-next.back.items) × (x.residue < now.period) × IsTrue (has_at now.rows x.place x.residue)
facts c =
    let within : c.loop-next.next < length c.loop-next.back.items = omega (arith, c.loop-next-test.true, c.len.ensures) in
    let coming = c.loop-next.invariant.coming in
    let I = c.args.instance.now in
    let links = c.args.links.now in (
      within,
      next_below I links c.args.starts.now c.args.spared c.args.self.now c.loop-next.self c.loop-next.back c.loop-next.next c.index-pair.result.now within c.index-pair.ensures c.requires.period coming,
      next_there I links c.args.starts.now c.args.spared c.args.self.now c.loop-next.self c.loop-next.back c.loop-next.next c.index-pair.result.now within c.index-pair.ensures c.requires.period coming,
    )

pub moving_with-coming-requires : goal.moving_with-coming-requires
moving_with-coming-requires c =
    let (within, below, there) = facts (goal.at.moving_with-coming-requires c).After-index-pair in
    record { place = within_rows c.loop-next.self.rows c.index-pair.result.now.place c.index-pair.result.now.residue there; residue = below }

-- the pair is among what comes with it, and all of it is in the rows, not counted and below the period
comes : (c : After-moving_with-coming) → let now = c.loop-next.self in let x = c.index-pair.result.now in let D = comes_of now x.place c.moving_with-coming.result in
    (c.loop-next.next < length c.loop-next.back.items) × IsTrue (has_at now.rows x.place x.residue)
    → IsTrue (D x.residue) × ((d : ℕ) → IsTrue (D d) → IsTrue (has_at now.rows x.place d)) × ((d : ℕ) → IsTrue (D d) → has_at now.counted x.place d ≡ false) × ((d : ℕ) → IsTrue (D d) → d < now.period)
comes c (within, there) =
    let now = c.loop-next.self in
    let x = c.index-pair.result.now in
    let l = c.moving_with-coming.result in
    let D = comes_of now x.place l in
    let alone = c.moving_with-coming.ensures.alone in
    let lone : has_at now.counted x.place x.residue ≡ false = sym c.has_counted.ensures ∙ c.if-not-has_counted.true in
    let mine = came_itself now x.place x.residue l there lone alone in
    let held : (d : ℕ) → IsTrue (D d) → IsTrue (has_at now.rows x.place d) = λ d h. (came_with now x.place x.residue l there lone alone d h).0 in
    let absent : (d : ℕ) → IsTrue (D d) → has_at now.counted x.place d ≡ false = λ d h. (came_with now x.place x.residue l there lone alone d h).1 in (
      mine,
      held,
      absent,
      block_below c.args.instance.now c.args.links.now c.args.starts.now c.args.spared c.args.self.now now c.loop-next.back c.loop-next.next x within c.index-pair.ensures c.requires.period c.loop-next.invariant.coming D mine held absent,
    )

pub move_around-requires-clause-fit : goal.move_around-requires-clause-fit
move_around-requires-clause-fit c =
    let now = c.loop-next.self in
    let one = c.moving_with-coming.new.self in
    fit_then c.args.links.now c.args.self.now one (shape_then c.args.self.now now one c.loop-next.invariant.coming.shape (resummed now one c.moving_with-coming.ensures.same)) c.requires.fit

pub move_around-requires-clause-moves : goal.move_around-requires-clause-moves
move_around-requires-clause-moves c =
    let now = c.loop-next.self in
    let S = has_at now.counted in
    let place = c.index-pair.result.now.place in
    let l = c.moving_with-coming.result in
    let D = comes_of now place l in
    let (within, below, there) = facts (goal.at.move_around-requires-clause-moves c).After-index-pair in
    let (mine, held, absent, low) = comes (goal.at.move_around-requires-clause-moves c).After-moving_with-coming (within, there) in
    let made = c.moving_with-coming.ensures in
    (S, joined_block S place D, D, moves_on c.args.links.now c.args.spared now c.moving_with-coming.new.self place l In S (joined_block S place D) D made.same c.loop-next.invariant.coming.exact made.moving (record { apart = absent; joined = λ p r. refl }))

pub level-requires-clause-place : goal.level-requires-clause-place
level-requires-clause-place c =
    let (within, below, there) = facts (goal.at.level-requires-clause-place c).After-index-pair in
    let made = ap (λ (s : Supports). length s.rows) c.moving_with-coming.ensures.same in
    let went = ap (λ (s : Supports). length s.rows) c.move_around.ensures.only.same in
    omega (arith, within_rows c.loop-next.self.rows c.index-pair.result.now.place c.index-pair.result.now.residue there, made, went)

-- what comes is counted
counted : (c : After-level) → let now = c.loop-next.self in let x = c.index-pair.result.now in let l = c.moving_with-coming.result in let D = comes_of now x.place l in
    ((d : ℕ) → IsTrue (D d) → has_at now.counted x.place d ≡ false) → HasGone c.args.links.now c.args.spared now c.level.new.self x.place l D (joined_block (has_at now.counted) x.place D)
counted c absent =
    let now = c.loop-next.self in
    let S = has_at now.counted in
    let place = c.index-pair.result.now.place in
    let l = c.moving_with-coming.result in
    let D = comes_of now place l in
    let made = c.moving_with-coming.ensures in
    let moved = c.move_around.ensures in
    let does = c.level.ensures in
    has_gone c.args.links.now c.args.spared now c.moving_with-coming.new.self c.move_around.new.self c.level.new.self place l In S (joined_block S place D) D made.same moved.only.same does.same
    c.loop-next.invariant.coming.exact made.moving (record { apart = absent; joined = λ p r. refl }) moved.exact moved.only.long moved.probes does.counted does.long

pub bring_around-requires-clause-fit : goal.bring_around-requires-clause-fit
bring_around-requires-clause-fit c =
    let at = goal.at.bring_around-requires-clause-fit c in
    let (within, below, there) = facts at.After-index-pair in
    let (mine, held, absent, low) = comes at.After-moving_with-coming (within, there) in
    let shape = (counted at.After-level absent).shape in
    fit_then c.args.links.now c.args.self.now c.level.new.self (shape_then c.args.self.now c.loop-next.self c.level.new.self c.loop-next.invariant.coming.shape shape) c.requires.fit

pub bring_around-requires-clause-some : goal.bring_around-requires-clause-some
bring_around-requires-clause-some c =
    let at = goal.at.bring_around-requires-clause-some c in
    let (within, below, there) = facts at.After-index-pair in
    let (mine, held, absent, low) = comes at.After-moving_with-coming (within, there) in
    let v = counted at.After-level absent in
    let x = c.index-pair.result.now in
    (comes_of c.loop-next.self x.place c.moving_with-coming.result, v.moved, (x.residue, rw v.shape.period below, mine))

pub loop-next-preserved-then-not-has_counted : goal.loop-next-preserved-then-not-has_counted
loop-next-preserved-then-not-has_counted c =
    let at = goal.at.loop-next-preserved-then-not-has_counted c in
    let (within, below, there) = facts at.After-index-pair in
    let (mine, held, absent, low) = comes at.After-moving_with-coming (within, there) in
    let v = counted at.After-level absent in
    let I = c.args.instance.now in
    let links = c.args.links.now in
    let starts = c.args.starts.now in
    let spared = c.args.spared in
    let start = c.args.self.now in
    let now = c.loop-next.self in
    let back = c.loop-next.back in
    let next = c.loop-next.next in
    let x = c.index-pair.result.now in
    let inv = c.loop-next.invariant in
    let l = c.moving_with-coming.result in
    let leveled = c.level.new.self in
    let after = c.bring_around.new.self in
    let back' = c.bring_around.new.back in
    let T = start.period in
    let ends = ends_of links.lists x.place in
    let D = comes_of now x.place l in
    let same = inv.coming.shape.period in
    let period_is : leveled.period ≡ T = v.shape.period ∙ same in
    let came : IsBrought (of_blocks T I links spared D ends) leveled after back back' = subst (λ n. IsBrought (of_blocks n I links spared D ends) leveled after back back') period_is (c.bring_around.ensures.brought D v.moved) in
    let joins : (p r : ℕ) → has_at leveled.counted p r ≡ joined_block (has_at now.counted) x.place D p r = λ p r. v.counted p r ∙ level_joins now x.place l held low inv.coming.within p r in
    let for_counts = subst (λ n. leveled.probes ≤ now.probes + n * length ends) same v.probes in
    let for_pairs = subst (λ n. after.probes + length back.items ≤ leveled.probes + length back'.items + (n - 1) * length ends) period_is c.bring_around.ensures.probes in
    let shares = both_shares T (length ends) (omega (arith, below, same)) in
    let paid = ap (λ n. (2 * T - 1) * n) (ends_more links back.items came.more back'.items next x came.listed within c.index-pair.ensures) in
    record {
      coming = coming_more I links starts spared start now back next x within c.index-pair.ensures c.requires.period inv.coming D mine held absent l leveled after back' c.requires.fit.linked c.requires.mates v joins came;
      counted = counted_on I links starts spared start now back next x within c.index-pair.ensures c.requires.period inv.coming D mine held absent l leveled after back' c.requires.fit.linked c.requires.mates v joins came inv.counted;
      room = came.room ∙ inv.room;
      probes = omega (arith, for_counts, for_pairs, shares, paid, inv.probes);
    }

-- ---- a pair that is counted already

pub loop-next-preserved : goal.loop-next-preserved
loop-next-preserved c =
    let within = (facts (goal.at.loop-next-preserved c).After-index-pair).0 in
    let inv = c.loop-next.invariant in
    let seen : has_at c.loop-next.self.counted c.index-pair.result.now.place c.index-pair.result.now.residue ≡ true = sym c.has_counted.ensures ∙ c.if-not-has_counted.false in
    let paid = ends_passed c.args.self.now.period c.args.links.now c.loop-next.back.items c.loop-next.next c.index-pair.result.now within c.index-pair.ensures in
    record {
      coming = inv.coming;
      counted = passed_on c.args.instance.now c.args.links.now c.args.starts.now c.args.spared c.args.self.now c.loop-next.self c.loop-next.back c.loop-next.next c.index-pair.result.now within c.index-pair.ensures c.requires.period inv.coming inv.counted seen;
      room = inv.room;
      probes = omega (arith, paid, inv.probes);
    }

pub returns-clause-restored : goal.returns-clause-restored
returns-clause-restored c =
    let over : length c.loop-next.back.items ≤ c.loop-next.next = omega (arith, c.loop-next-test.false, c.len.ensures) in
    coming_end c.args.instance.now c.args.links.now c.args.starts.now c.args.spared c.args.self.now c.loop-next.self c.loop-next.back c.loop-next.next over c.loop-next.invariant.coming c.loop-next.invariant.counted

-- by search, and named so that a wrong body is refused here at once
pub overflow_add-next : goal.overflow_add-next
overflow_add-next c = search rules
