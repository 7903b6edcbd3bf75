-- The next residue of the range without a partner goes, and those before it stay.
use Rattle.std.proofs.Common.{◌≡◌, ◌==◌, ◌&&◌, ◌<◌, ◌≤◌, ℕ, Bool, true, false, Some, subst, arith}
use Rattle.pesp_counts_supports.specs.Counts.{count_at, has_at}
use Rattle.pesp_counts_supports.specs.Lone.{IsFirst}
use Rattle.pesp_counts_supports.proofs.Rows.{clears_none, clears_skipped, clears_taken}
use Rattle.pesp_counts_supports.proofs.Taken.{takes_none, takes_then}
use Rattle.pesp_counts_supports.proofs.supports.Supports.sift_range.Goals as goal

pub lone-init : goal.lone-init
lone-init c =
    let start = c.args.self.now in
    let f : ℕ → Bool = λ r. count_at start.period start.counts c.args.end r == 0 in
    record {
      low = omega arith;
      high = c.requires.order;
      rows = clears_none c.args.place f c.args.residues.start start.rows;
      takes = takes_none start;
    }

pub take_out-requires : goal.take_out-requires
take_out-requires c =
    let now = c.lone.self in
    let first : IsFirst (λ r. has_at now.rows c.args.place r && (count_at now.period now.counts c.args.end r == 0)) c.lone.from c.args.residues.end (Some c.in-Some.residue) =
    subst (IsFirst (λ r. has_at now.rows c.args.place r && (count_at now.period now.counts c.args.end r == 0)) c.lone.from c.args.residues.end) c.in-Some.is c.first_lone.ensures in
    grind (arith, first.2)

pub lone-preserved : goal.lone-preserved
lone-preserved c =
    let start = c.args.self.now in
    let now = c.lone.self in
    let after = c.take_out.new.self in
    let inv = c.lone.invariant in
    let q = c.in-Some.residue in
    let f : ℕ → Bool = λ r. count_at start.period start.counts c.args.end r == 0 in
    let told : IsFirst (λ r. has_at now.rows c.args.place r && f r) c.lone.from c.args.residues.end c.first_lone.result = rw (inv.takes.keeps.period, inv.takes.keeps.counts) at c.first_lone.ensures in
    let first : IsFirst (λ r. has_at now.rows c.args.place r && f r) c.lone.from c.args.residues.end (Some q) = subst (IsFirst (λ r. has_at now.rows c.args.place r && f r) c.lone.from c.args.residues.end) c.in-Some.is told in
    let goes : f q ≡ true = grind (arith, first.2) in
    let skipped = clears_skipped c.args.place f c.args.residues.start start.rows c.lone.from q now.rows first.0 first.3 inv.rows in
    record {
      low = omega (arith, inv.low, first.0);
      high = omega (arith, first.1);
      rows = clears_taken c.args.place f c.args.residues.start start.rows q now.rows after.rows (omega (arith, inv.low, first.0)) goes c.take_out.ensures.rows skipped;
      takes = takes_then start now after inv.takes c.take_out.ensures.takes;
    }

pub returns-clause-rows : goal.returns-clause-rows
returns-clause-rows c =
    let start = c.args.self.now in
    let now = c.lone.self in
    let inv = c.lone.invariant in
    let f : ℕ → Bool = λ r. count_at start.period start.counts c.args.end r == 0 in
    let none : (r : ℕ) → c.lone.from ≤ r → r < c.args.residues.end → (has_at now.rows c.args.place r && f r) ≡ false = rw (inv.takes.keeps.period, inv.takes.keeps.counts) at c.in_default.ensures in
    clears_skipped c.args.place f c.args.residues.start start.rows c.lone.from c.args.residues.end now.rows inv.high none inv.rows
