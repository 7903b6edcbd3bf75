-- Each period has the one residue.
use Rattle.std.proofs.Common.{rules, ◌≡◌, ◌==◌, ◌<◌, ◌≤◌, ◌+◌, ◌-◌, ◌++◌, drop, List, ℕ, slice_index_or, ◌∙◌, arith}
use borrow.Rule.Slice.PartMut.{put_mid}
use Rattle.std.proofs.lemmas.List.{places}
use Rattle.pesp_counts_supports.specs.Blocks.{sum_below}
use Rattle.pesp_counts_supports.proofs.OneSum.{lone_all, lone_once}
use Rattle.pesp_counts_supports.proofs.SumLaws.{are_sums, sum_up}
use Rattle.pesp_counts_supports.proofs.sums.sum_one.Goals as goal
use Rattle.pesp_counts_supports.proofs.sums.sum_one.Goals.{After-fill-2}

-- the sums once both parts are filled
abbrev filled : (c : After-fill-2) → List ℕ
filled c = put_mid (c.args.residue + 1) (c.args.period - (c.args.residue + 1)) (c.fill.new.self ++ drop (c.args.residue + 1) c.args.sums.now) c.fill-2.new.self

none : (c : After-fill-2) → (i : ℕ) → i < c.args.residue + 1 → slice_index_or (filled c) i 0 ≡ 0
none c i low = search (rules, places)

ones : (c : After-fill-2) → (i : ℕ) → c.args.residue + 1 ≤ i → i < c.args.period → slice_index_or (filled c) i 0 ≡ 1
ones c i high low = search (rules, places)

-- the sums of the first period
once : (c : After-fill-2) → (i : ℕ) → i < c.args.period → slice_index_or (filled c) i 0 ≡ sum_below c.args.period (λ r. r == c.args.residue) i
once c = lone_once c.args.period c.args.residue (filled c) (none c) (ones c)

pub sum_on-requires-clause-low : goal.sum_on-requires-clause-low
sum_on-requires-clause-low c i low =
    let T = c.args.period in
    let q = c.args.residue in
    let up = sum_up T (λ r. r == q) i T (omega (arith, low)) in
    omega (arith, up, once (goal.at.sum_on-requires-clause-low c).After-fill-2 i low, lone_all T q c.requires.residue)

pub returns-clause-sums : goal.returns-clause-sums
returns-clause-sums c =
    let T = c.args.period in
    let q = c.args.residue in
    are_sums T 1 (omega (arith, c.requires.residue)) c.sum_on.new.sums (λ r. r == q)
    (search rules)
    (lone_all T q c.requires.residue)
    (λ i low. c.sum_on.ensures.once i low ∙ once (goal.at.returns-clause-sums c).After-fill-2 i low)
    c.sum_on.ensures.on
