-- What waits with the pair is counted in, and nothing else changes.
use Rattle.std.proofs.Common.{◌≡◌, ◌-◌, ◌<◌, ℕ, Bool, All, false, length, get_or, drop, sym, ap, subst, ◌∙◌, arith, None}
use Rattle.pesp_counts_supports.specs.declared.trail.Placed.{Placed}
use Rattle.pesp_domains.specs.Sweeps.{Pairs}
use Rattle.pesp_counts_supports.specs.Blocks.{joined_block}
use Rattle.pesp_counts_supports.specs.Counts.{has_at}
use Rattle.pesp_counts_supports.specs.Moves.{leaves_of}
use Rattle.pesp_counts_supports.specs.declared.moving.Way.TheVariants.{In}
use Rattle.pesp_counts_supports.specs.Returning.{arrived, AreReturning}
use Rattle.pesp_counts_supports.specs.Supports.{Supports}
use Rattle.pesp_counts_supports.proofs.Moved.{has_gone, moves_on}
use Rattle.pesp_counts_supports.proofs.Returned.{comes_now, counted_now, known_last, last_pair}
use Rattle.pesp_counts_supports.proofs.Taken.{fit_then, resummed}
use Rattle.pesp_counts_supports.proofs.supports.Supports.count_last.Goals as goal
use Rattle.pesp_counts_supports.proofs.supports.Supports.count_last.Goals.{After-index-pair, After-level}

-- the pair stands last in the trail, is of a row and below the period, and out of the rows
facts : (c : After-index-pair) → let s = c.args.self.now in let x = c.index-pair.result.now in
    (get_or s.trail (length s.trail - 1) x ≡ x) × (x.place < length s.rows) × (x.residue < s.period) × (has_at s.rows x.place x.residue ≡ false)
facts c =
    known_last c.args.mark c.args.self.now c.index-pair.result.now c.self.inside.trail.items c.len.result
    (ap (λ (s : Supports). s.trail) c.self.view_is) (omega (arith, c.len.ensures)) c.index-pair.ensures c.requires.more c.requires.returning.out

pub move_around-requires-clause-fit : goal.move_around-requires-clause-fit
move_around-requires-clause-fit c =
    let mid = c.moving_with-coming.new.self in
    fit_then c.args.links.now c.args.self.now mid (resummed c.args.self.now mid c.moving_with-coming.ensures.same) c.requires.fit

pub move_around-requires-clause-moves : goal.move_around-requires-clause-moves
move_around-requires-clause-moves c =
    let start = c.args.self.now in
    let pair = c.index-pair.result.now in
    let l = c.moving_with-coming.result in
    let made = c.moving_with-coming.ensures in
    let known = facts (goal.at.move_around-requires-clause-moves c).After-index-pair in
    let S : Pairs = arrived start (drop c.args.mark start.trail) in
    let D : ℕ → Bool = leaves_of start pair.place l in
    let goes = comes_now c.args.links.now start c.args.mark pair l c.requires.returning (sym c.has_counted.ensures ∙ c.if-has_counted.true) known.3 made.alone in
    (S, joined_block S pair.place D, D, moves_on c.args.links.now None start c.moving_with-coming.new.self pair.place l In S (joined_block S pair.place D) D made.same (λ q k is free. c.requires.returning.exact q k is) made.moving goes)

-- it is counted in, and the others of the trail are still to come
counted : (c : After-level) → (has_at c.args.self.now.rows c.index-pair.result.now.place c.index-pair.result.now.residue ≡ false) → AreReturning c.args.links.now c.level.new.self c.args.mark × (has_at c.level.new.self.counted c.index-pair.result.now.place c.index-pair.result.now.residue ≡ false)
counted c out =
    let links = c.args.links.now in
    let start = c.args.self.now in
    let pair = c.index-pair.result.now in
    let l = c.moving_with-coming.result in
    let made = c.moving_with-coming.ensures in
    let moved = c.move_around.ensures in
    let does = c.level.ensures in
    let there = sym c.has_counted.ensures ∙ c.if-has_counted.true in
    let S : Pairs = arrived start (drop c.args.mark start.trail) in
    let D : ℕ → Bool = leaves_of start pair.place l in
    let gone = has_gone links None start c.moving_with-coming.new.self c.move_around.new.self c.level.new.self pair.place l In S (joined_block S pair.place D) D made.same moved.only.same does.same
    (λ q k is free. c.requires.returning.exact q k is) made.moving (comes_now links start c.args.mark pair l c.requires.returning there out made.alone) moved.exact moved.only.long moved.probes does.counted does.long
    in
    counted_now links start c.args.mark pair l c.requires.returning there out made.alone c.level.new.self gone (subst (λ (s : Supports). All (λ row. length row ≡ s.period) s.counted) c.self.view_is c.self.invariant.counted)

pub returns-then-has_counted-clause-returning : goal.returns-then-has_counted-clause-returning
returns-then-has_counted-clause-returning c =
    let at = goal.at.returns-then-has_counted-clause-returning c in
    (counted at.After-level (facts at.After-index-pair).3).0

pub returns-then-has_counted-clause-last : goal.returns-then-has_counted-clause-last
returns-then-has_counted-clause-last c rest x is =
    let at = goal.at.returns-then-has_counted-clause-last c in
    let known = facts at.After-index-pair in
    let pair = c.index-pair.result.now in
    subst (λ (y : Placed). has_at c.level.new.self.counted y.place y.residue ≡ false) (last_pair c.args.self.now.trail rest pair x pair is known.0) (counted at.After-level known.3).1
