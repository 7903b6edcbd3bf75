-- A residue of the range goes, if it is there.
use Rattle.std.proofs.Common.{◌≡◌, ◌&&◌, ℕ, true, false, refl, sym, ap, ◌∙◌, arith}
use Rattle.pesp_domains.specs.Domains.{holds}
use Rattle.pesp_domains.specs.Removals.{without}
use Rattle.pesp_counts_supports.specs.Counts.{has_at}
use Rattle.pesp_counts_supports.proofs.Rows.{clears_none, clears_passed, clears_taken}
use Rattle.pesp_counts_supports.proofs.Taken.{takes_none, takes_then}
use Rattle.pesp_counts_supports.proofs.supports.Supports.limit_range.Goals as goal

pub loop-residue-init : goal.loop-residue-init
loop-residue-init c =
    let start = c.args.self.now in
    rw c.into_iter-residue-iterator.ensures.into_iter_gives
    (record {
      can_next = tt;
      finite = tt;
      low = omega arith;
      end = refl;
      high = c.requires.order;
      rows = clears_none c.args.place (λ r. true) c.args.residues.start start.rows;
      takes = takes_none start;
    })

pub loop-residue-preserved-then-holds : goal.loop-residue-preserved-then-holds
loop-residue-preserved-then-holds c =
    let start = c.args.self.now in
    let now = c.loop-residue.self in
    let after = c.take_out.new.self in
    let inv = c.loop-residue.invariant in
    let steps = c.in-Some.ensures.steps in
    let q = c.loop-residue.residue-iterator.start in
    let takes : (p r : ℕ) → has_at after.rows p r ≡ without (has_at now.rows) c.args.place q p r = λ p r. c.take_out.ensures.rows p r ∙ ap (λ n. without (has_at now.rows) c.args.place n p r) steps.1.1 in
    rw steps.1.2
    (record {
      can_next = tt;
      finite = tt;
      low = omega (arith, inv.low);
      end = steps.0 ∙ inv.end;
      high = omega (arith, steps.1.0, inv.end);
      rows = clears_taken c.args.place (λ r. true) c.args.residues.start start.rows q now.rows after.rows inv.low refl takes inv.rows;
      takes = takes_then start now after inv.takes c.take_out.ensures.takes;
    })

pub loop-residue-preserved : goal.loop-residue-preserved
loop-residue-preserved c =
    let start = c.args.self.now in
    let now = c.loop-residue.self in
    let inv = c.loop-residue.invariant in
    let steps = c.in-Some.ensures.steps in
    let q = c.loop-residue.residue-iterator.start in
    let out : has_at now.rows c.args.place q ≡ false = ap (has_at now.rows c.args.place) (sym steps.1.1) ∙ ap (λ row. holds row c.in-Some.residue) (sym c.row.ensures.row) ∙ sym c.holds.ensures ∙ c.if-holds.false in
    let stays : (has_at now.rows c.args.place q && true) ≡ false = rw out refl in
    rw steps.1.2
    (record {
      can_next = tt;
      finite = tt;
      low = omega (arith, inv.low);
      end = steps.0 ∙ inv.end;
      high = omega (arith, steps.1.0, inv.end);
      rows = clears_passed c.args.place (λ r. true) c.args.residues.start start.rows q now.rows stays inv.rows;
      takes = inv.takes;
    })
