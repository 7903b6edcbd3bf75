use Rattle.std.proofs.Common.{◌≡◌, fold}
use Rattle.pesplib_reader.specs.Reading.{AreFixable, with_fixed}
use Rattle.pesplib_reader.proofs.FixedLemmas.{with_fix}
use Rattle.pesplib_reader.proofs.fixed.fix_all.Given as goal

-- the times that are left may be fixed, and fixing them gives what fixing all gives
abbrev pub invariant-loop-fixed : goal.invariant-loop-fixed
invariant-loop-fixed l =
    (goal.iterator-loop-fixed).can_next l.fixed-iterator
    × (goal.iterator-loop-fixed).is_finite l.fixed-iterator
    × (fold with_fix l.instance l.fixed-iterator ≡ with_fixed l.initial.instance l.times)
    × AreFixable l.instance l.fixed-iterator
