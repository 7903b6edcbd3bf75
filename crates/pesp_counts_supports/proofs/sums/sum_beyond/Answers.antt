-- One residue more, and each period has as many as the first.
use Rattle.std.proofs.Common.{◌≡◌, ℕ, Bool, true, false, ◌&&◌, ◌||◌, not, List, ◌<◌, length, ap, ◌∙◌, arith}
use Rattle.std.proofs.lemmas.List.{length-set}
use Rattle.std.specs.Int.{from_bool}
use Rattle.pesp_domains.proofs.Around.{mod_below}
use Rattle.pesp_domains.specs.Domains.{holds}
use Rattle.pesp_counts_supports.specs.Blocks.{is_beyond, sum_below}
use Rattle.pesp_counts_supports.proofs.Supporters.{one, one_le}
use Rattle.pesp_counts_supports.proofs.Partners.{byte_is}
use Rattle.pesp_counts_supports.proofs.SumLaws.{are_sums, set_more, sum_le, sum_more, sum_up}
use Rattle.pesp_counts_supports.proofs.sums.sum_beyond.Goals as goal

-- a residue counts where it is of those that are summed
bit : (row other : List Bool) (all : Bool) (r : ℕ) → from_bool (holds row r && (all || not (holds other r))) ≡ one (is_beyond row other all r)
bit row other true r = grind arith
bit row other false r = byte_is (holds row r && not (holds other r))

pub overflow_add-many : goal.overflow_add-many
overflow_add-many c =
    let T = c.args.period in
    let X : ℕ → Bool = is_beyond c.args.row.now c.args.other.now c.args.all in
    let i = c.loop-at.invariant in
    let q = c.loop-at.at in
    let few = sum_le T X q in
    let came : c.from-many.result ≡ one (X q) = rw (← c.tests-held.ensures, ← c.tests-others.ensures) (c.from-many.ensures ∙ bit c.tests-held.result.now c.tests-others.result.now c.args.all q) in
    omega (arith, i.many, few, came, one_le (X q), c.loop-at-test.true, ap length c.tests-held.ensures, c.requires.row, c.requires.period)

pub loop-at-preserved : goal.loop-at-preserved
loop-at-preserved c =
    let T = c.args.period in
    let X : ℕ → Bool = is_beyond c.args.row.now c.args.other.now c.args.all in
    let i = c.loop-at.invariant in
    let q = c.loop-at.at in
    let sums = c.loop-at.sums in
    let low : q < T = omega (arith, c.loop-at-test.true, ap length c.tests-held.ensures, c.requires.row) in
    let came : c.from-many.result ≡ one (X q) = rw (← c.tests-held.ensures, ← c.tests-others.ensures) (c.from-many.ensures ∙ bit c.tests-held.result.now c.tests-others.result.now c.args.all q) in
    record {
      long = length-set sums q c.loop-at.many ∙ i.long;
      sums = set_more sums (sum_below T X) q c.loop-at.many (omega (arith, i.long, c.requires.long, low)) i.sums i.many;
      many = omega (arith, i.many, came, sum_more T X q, ap (λ n. one (X n)) (mod_below T q low));
    }

pub sum_on-requires-clause-low : goal.sum_on-requires-clause-low
sum_on-requires-clause-low c k low =
    let T = c.args.period in
    let X : ℕ → Bool = is_beyond c.args.row.now c.args.other.now c.args.all in
    let i = c.loop-at.invariant in
    let end : c.loop-at.at ≡ T = omega (arith, c.loop-at-test.false, c.loop-at.auto.at-end, ap length c.tests-held.ensures, c.requires.row) in
    omega (arith, sum_up T X k T (omega (arith, low)), i.sums k (omega (arith, low, end)), i.many ∙ ap (sum_below T X) end)

pub sum_on-requires-clause-few : goal.sum_on-requires-clause-few
sum_on-requires-clause-few c =
    let few = sum_le c.args.period (is_beyond c.args.row.now c.args.other.now c.args.all) c.loop-at.at in
    omega (arith, few, c.loop-at.invariant.many, c.loop-at.auto.at-end, ap length c.tests-held.ensures, c.requires.row)

pub returns-clause-sums : goal.returns-clause-sums
returns-clause-sums c =
    let T = c.args.period in
    let X : ℕ → Bool = is_beyond c.args.row.now c.args.other.now c.args.all in
    let i = c.loop-at.invariant in
    let end : c.loop-at.at ≡ T = omega (arith, c.loop-at-test.false, c.loop-at.auto.at-end, ap length c.tests-held.ensures, c.requires.row) in
    are_sums T c.loop-at.many c.requires.some c.sum_on.new.sums X
    (omega (arith, c.requires.long, i.long, c.sum_on.ensures.long))
    (i.many ∙ ap (sum_below T X) end)
    (λ k low. c.sum_on.ensures.once k low ∙ i.sums k (omega (arith, low, end)))
    c.sum_on.ensures.on
