-- The counts of the end come anew from 0, each by those of its window.
use Rattle.std.proofs.Common.{◌≡◌, ◌+◌, ◌*◌, ◌<◌, ◌≤◌, ◌++◌, drop, take, length, [], subst, sym, ap, ◌∙◌, arith}
use Rattle.std.proofs.lemmas.List.{get_or_read}
use Rattle.std.proofs.lemmas.List.Elements.{All-get_or}
use Rattle.pesp_domains.specs.Domains.{holds}
use Rattle.pesp_counts_arcs.specs.Ends.{passes}
use Rattle.pesp_counts_supports.specs.Blocks.{AreSums}
use Rattle.pesp_counts_supports.specs.Counts.{count_at, has_at, supporters}
use Rattle.pesp_counts_supports.specs.Supports.{Supports}
use Rattle.pesp_counts_supports.proofs.OneSum.{can_come, count_elsewhere, counted_anew, from_to_below, sums_written}
use Rattle.pesp_counts_supports.proofs.supports.Supports.recount.Goals as goal
use Rattle.pesp_counts_supports.proofs.supports.Supports.recount.Goals.{After-index-row, After-sum_beyond}

pub sum_beyond-requires-clause-long : goal.sum_beyond-requires-clause-long
sum_beyond-requires-clause-long c =
    let here = subst (λ (s : Supports). c.args.end.looks_at < length s.counted) (sym c.self.view_is) c.requires.looks in
    let long = c.self.invariant.sums (omega (arith, here, c.self.invariant.even)) in
    omega (arith, long, c.get-period.ensures.value)

-- the row that was read has a test for each residue
long_row : (c : After-index-row) → length c.index-row.result.now ≡ c.get-period.result
long_row c =
    let here = subst (λ (s : Supports). c.args.end.looks_at < length s.counted) (sym c.self.view_is) c.requires.looks in
    let long = All-get_or (λ row. length row ≡ c.self.inside.period) c.self.inside.counted.items c.args.end.looks_at [] here c.self.invariant.counted in
    ap length (get_or_read c.self.inside.counted.items c.args.end.looks_at c.index-row.result.now here c.index-row.ensures []) ∙ long ∙ sym c.get-period.ensures.value

pub sum_beyond-requires-clause-row : goal.sum_beyond-requires-clause-row
sum_beyond-requires-clause-row c = long_row (goal.at.sum_beyond-requires-clause-row c).After-index-row

pub sum_beyond-requires-clause-other : goal.sum_beyond-requires-clause-other
sum_beyond-requires-clause-other c = long_row (goal.at.sum_beyond-requires-clause-other c).After-index-row

-- the sums are those of the row that was read
sums_are : (c : After-sum_beyond) → AreSums c.self.inside.period (holds c.index-row.result.now) (take c.self.inside.sums.len (c.sum_beyond.new.sums ++ drop (length c.sum_beyond.new.sums) c.self.inside.sums.items))
sums_are c =
    let long = c.sum_beyond.ensures.long ∙ ap length c.deref_mut.ensures.value in
    let write = sums_written c.sum_beyond.new.sums c.self.inside.sums.items c.self.inside.sums.len c.self.inside.sums.ok.0 long in
    let row = c.index-row.result.now in
    subst (AreSums c.self.inside.period (holds row)) (sym write)
    (subst (λ n. AreSums n (holds row) c.sum_beyond.new.sums) c.get-period.ensures.value c.sum_beyond.ensures.sums)

pub move_range-requires-clause-can : goal.move_range-requires-clause-can
move_range-requires-clause-can c =
    let T = c.self.inside.period in
    let D = holds c.index-row.result.now in
    let end = c.args.end in
    let is = c.get-period.ensures.value in
    let base_is = c.base-base.ensures.base ∙ ap (λ n. c.args.number * n) is in
    let width : end.width ≤ T = subst (λ (s : Supports). end.width ≤ s.period) (sym c.self.view_is) c.requires.width in (
      D,
      sums_are (goal.at.move_range-requires-clause-can c).After-sum_beyond,
      λ r in_range.
          let rl : r < T = omega (arith, from_to_below 0 c.get-period.result r in_range, is) in
          can_come T D end r (count_at T c.fill_range.new.self.values c.args.number r) (omega (arith, rl)) width
          (c.fill_range.ensures.here (c.args.number * T + r) (omega (arith, base_is)) (omega (arith, base_is, rl, is))),
    )

pub returns-clause-exact : goal.returns-clause-exact
returns-clause-exact c r rl =
    let T = c.self.inside.period in
    let end = c.args.end in
    let number = c.args.number in
    let D = holds c.index-row.result.now in
    let is = c.get-period.ensures.value in
    let base_is = c.base-base.ensures.base ∙ ap (λ n. number * n) is in
    let within = subst (λ (s : Supports). end.looks_at < length s.counted) (sym c.self.view_is) c.requires.looks in
    let below : r < T = subst (λ (s : Supports). r < s.period) (sym c.self.view_is) rl in
    let row = get_or_read c.self.inside.counted.items end.looks_at c.index-row.result.now within c.index-row.ensures [] in
    let moved = c.move_range.ensures.moved D (sums_are (goal.at.returns-clause-exact c).After-sum_beyond) number r below in
    let anew = counted_anew T c.get-period.result number c.base-base.result c.self.inside.counts.values c.fill_range.new.self.values c.move_range.new.self.counts is base_is r (supporters T D (passes T end r)) below c.fill_range.ensures.here moved in
    subst (λ (s : Supports). count_at s.period c.move_range.new.self.counts number r ≡ supporters s.period (has_at s.counted end.looks_at) (passes s.period end r)) c.self.view_is
    (anew ∙ ap (λ xs. supporters T (holds xs) (passes T end r)) row)

pub returns-clause-elsewhere : goal.returns-clause-elsewhere
returns-clause-elsewhere c k r apart rl =
    let T = c.self.inside.period in
    let number = c.args.number in
    let D = holds c.index-row.result.now in
    let is = c.get-period.ensures.value in
    let base_is = c.base-base.ensures.base ∙ ap (λ n. number * n) is in
    let below : r < T = subst (λ (s : Supports). r < s.period) (sym c.self.view_is) rl in
    let moved = c.move_range.ensures.moved D (sums_are (goal.at.returns-clause-elsewhere c).After-sum_beyond) k r below in
    subst (λ (s : Supports). count_at s.period c.move_range.new.self.counts k r ≡ count_at s.period s.counts k r) c.self.view_is
    (count_elsewhere T c.get-period.result number c.base-base.result c.self.inside.counts.values c.fill_range.new.self.values c.move_range.new.self.counts is base_is k r (supporters T D (passes T c.args.end r)) below apart c.fill_range.ensures.elsewhere moved)
