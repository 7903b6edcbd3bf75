-- The counts of the range shift by the difference of two sums.
use Rattle.std.proofs.Common.{◌≡◌, ◌<◌, ◌*◌, sym, ap, ◌∙◌, arith, ◌≤◌}
use Rattle.pesp_counts_supports.specs.Supports.{Supports}
use Rattle.pesp_counts_supports.proofs.Moved.{can_in, can_out, moved_in, moved_out}
use Rattle.pesp_counts_supports.proofs.supports.Supports.move_range.Goals as goal
use Rattle.pesp_counts_supports.proofs.supports.Supports.move_range.Goals.{After-base-base}

-- the counts of the end begin at its base, the sums and counts are those within, and a count can be as great as the period
facts : (c : After-base-base) → let s = c.args.self.now in
    (c.base-base.result ≡ c.args.number * s.period) × (3 * s.period < 65536) × (s.period ≤ c.self.inside.counts.most) × (s.sums ≡ c.self.inside.sums.items) × (s.counts ≡ c.self.inside.counts.values)
facts c =
    let period = ap (λ (s : Supports). s.period) c.self.view_is in (
      c.base-base.ensures.base ∙ ap (λ n. c.args.number * n) (c.get.ensures.value ∙ period),
      omega (arith, c.get.ensures.limits.1, period),
      omega (arith, c.self.invariant.fits, period),
      ap (λ (s : Supports). s.sums) (sym c.self.view_is),
      ap (λ (s : Supports). s.counts) (sym c.self.view_is),
    )

pub shift-requires-clause-can : goal.shift-requires-clause-can
shift-requires-clause-can c =
    let a = c.args in
    let q = c.requires in
    let (base_is, small, fits, sums, counts) = facts (goal.at.shift-requires-clause-can c).After-base-base in
    let (D, are, able) = (rw (sums, counts) at q.can) in
    rw (c.deref.ensures.value, c.deref-2.ensures.value)
    (can_out a.self.now.period D c.self.inside.sums.items a.end are a.low a.high q.order q.high q.first q.width a.number c.base-base.result base_is
    a.way c.self.inside.counts.most c.self.inside.counts.values small fits able c.in-Out.is)

pub shift-requires-in-In-clause-can : goal.shift-requires-in-In-clause-can
shift-requires-in-In-clause-can c =
    let a = c.args in
    let q = c.requires in
    let (base_is, small, fits, sums, counts) = facts (goal.at.shift-requires-in-In-clause-can c).After-base-base in
    let (D, are, able) = (rw (sums, counts) at q.can) in
    rw (c.deref.ensures.value, c.deref-2.ensures.value)
    (can_in a.self.now.period D c.self.inside.sums.items a.end are a.low a.high q.order q.high q.first q.width a.number c.base-base.result base_is
    a.way c.self.inside.counts.most c.self.inside.counts.values small fits able c.in-In.is)

pub returns-in-Out-clause-moved : goal.returns-in-Out-clause-moved
returns-in-Out-clause-moved c D are k r rl =
    let a = c.args in
    let q = c.requires in
    let (base_is, small, fits, sums, counts) = facts (goal.at.returns-in-Out-clause-moved c).After-base-base in
    let shifted = (rw (c.deref.ensures.value, c.deref-2.ensures.value) at c.shift.ensures.shifted) in
    rw (c.in-Out.is, counts)
    (moved_out a.self.now.period D c.self.inside.sums.items a.end (rw sums at are) a.low a.high q.order q.high q.first q.width a.number c.base-base.result base_is
    c.self.inside.counts.values c.shift.new.self.values shifted k r rl)

pub returns-in-In-clause-moved : goal.returns-in-In-clause-moved
returns-in-In-clause-moved c D are k r rl =
    let a = c.args in
    let q = c.requires in
    let (base_is, small, fits, sums, counts) = facts (goal.at.returns-in-In-clause-moved c).After-base-base in
    let shifted = (rw (c.deref.ensures.value, c.deref-2.ensures.value) at c.shift-in-In.ensures.shifted) in
    rw (c.in-In.is, counts)
    (moved_in a.self.now.period D c.self.inside.sums.items a.end (rw sums at are) a.low a.high q.order q.high q.first q.width a.number c.base-base.result base_is
    c.self.inside.counts.values c.shift-in-In.new.self.values shifted k r rl)
