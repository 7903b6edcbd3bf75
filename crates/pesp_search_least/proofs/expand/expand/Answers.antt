-- What is kept is a map of the node, and costs less than what was best.
use Rattle.std.proofs.Common.{◌≡◌, refl, inl}
use Rattle.pesp_search_least.specs.Expansions.{IsBetter}
use Rattle.pesp_search_least.proofs.Expanded.{better_cut, better_kept, better_on, better_within}
use Rattle.pesp_search_least.proofs.expand.expand.Goals as goal
use Rattle.pesp_search_least.proofs.expand.expand.Goals.{in-Some-2+else-limit-bound-2, in_default-2}

pub returns-then-limit-bound-2-clause-better : goal.returns-then-limit-bound-2-clause-better
returns-then-limit-bound-2-clause-better g c =
    let before = c.args.incumbent.now in
    better_cut _ _ before.cap c.in-Some-2.candidate before.best c.keep.new.self.best c.tighten.ensures.cut.within c.keep.ensures.kept (rw c.in-Some-2.is at c.in_ok-candidate.ensures)

pub returns-in_err-candidate-2-clause-better : goal.returns-in_err-candidate-2-clause-better
returns-in_err-candidate-2-clause-better g c =
    let before = c.args.incumbent.now in
    elim c.match-branch-2.branch [
      | in-Some-2+else-limit-bound-2 w ↦ rw w.incumbent-is
          (better_cut _ _ before.cap w.in-Some-2.candidate before.best w.keep.new.self.best c.tighten.ensures.cut.within w.keep.ensures.kept (rw w.in-Some-2.is at c.in_ok-candidate.ensures))
      | in_default-2 w ↦ rw w.incumbent-is (inl refl)
    ]

pub returns-in-Solved-clause-better : goal.returns-in-Solved-clause-better
returns-in-Solved-clause-better g c =
    let sums = g.R.Relaxation.sums in
    let before = c.args.incumbent.now in
    let tight = c.tighten.new.self in
    let then = c.match-branch-2.incumbent in
    let after = c.keep-in-Solved.new.self in
    let first : (then.cap ≡ before.cap) × IsBetter (sums tight) before.cap before.best then.best =
    elim c.match-branch-2.branch [
      | in-Some-2+else-limit-bound-2 w ↦ rw w.incumbent-is (w.keep.ensures.cap, better_kept (sums tight) before.cap w.in-Some-2.candidate before.best w.keep.new.self.best w.keep.ensures.kept (rw w.in-Some-2.is at c.in_ok-candidate.ensures))
      | in_default-2 w ↦ rw w.incumbent-is (refl, inl refl)
    ]
    in
    let least = rw c.in-Solved.is at c.in_ok-candidate-2.ensures.split in
    let second : IsBetter (sums tight) before.cap then.best after.best = better_kept (sums tight) before.cap c.in-Solved.candidate then.best after.best (rw first.0 at c.keep-in-Solved.ensures.kept) least.has in
    better_within (sums tight) (sums c.args.node.now) before.cap before.best after.best c.tighten.ensures.cut.within
    (better_on (sums tight) before.cap before.best then.best after.best first.1 second)

pub returns-in-Halves-clause-better : goal.returns-in-Halves-clause-better
returns-in-Halves-clause-better g c =
    let before = c.args.incumbent.now in
    elim c.match-branch-2.branch [
      | in-Some-2+else-limit-bound-2 w ↦ rw w.incumbent-is
          (better_cut _ _ before.cap w.in-Some-2.candidate before.best w.keep.new.self.best c.tighten.ensures.cut.within w.keep.ensures.kept (rw w.in-Some-2.is at c.in_ok-candidate.ensures))
      | in_default-2 w ↦ rw w.incumbent-is (inl refl)
    ]
