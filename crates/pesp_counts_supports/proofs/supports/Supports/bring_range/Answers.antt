-- One residue more is brought.
use Rattle.std.proofs.Common.{◌≡◌, ◌+◌, ◌≤◌, ◌||◌, cond, length, subst, ◌∙◌, refl, arith}
use Rattle.pesp_counts_supports.specs.Blocks.{is_met_by, of_met}
use Rattle.pesp_counts_supports.specs.Restored.{IsBrought, of_pair, of_range}
use Rattle.pesp_counts_supports.proofs.Along.{unmet_more}
use Rattle.pesp_counts_supports.proofs.Brought.{brought_as, brought_none, brought_then, range_none, range_step}
use Rattle.pesp_counts_supports.proofs.Meeting.{met_none, met_then}
use Rattle.pesp_counts_supports.proofs.supports.Supports.bring_range.Goals as goal

pub loop-residue-init : goal.loop-residue-init
loop-residue-init c =
    let is = c.into_iter-residue-iterator.ensures.into_iter_gives in
    let start = c.args.self.now in
    let met = c.args.met in
    let place = c.args.place in
    let low = c.args.residues.start in
    rw is
    (record {
      can_next = tt;
      finite = tt;
      low = omega arith;
      high = c.requires.order;
      end = refl;
      brought = brought_none (of_met start.sums met (of_range place low low)) start c.args.back.now (λ p r h. absurd (met_none start.sums met (of_range place low low) (range_none place low) p r h));
      probes = omega arith;
    })

pub loop-residue-preserved : goal.loop-residue-preserved
loop-residue-preserved c =
    let start = c.args.self.now in
    let now = c.loop-residue.self in
    let after = c.bring.new.self in
    let sums = start.sums in
    let met = c.args.met in
    let place = c.args.place in
    let low = c.args.residues.start in
    let q = c.loop-residue.residue-iterator.start in
    let first = of_range place low q in
    let inv = c.loop-residue.invariant in
    let steps = c.in-Some.ensures.steps in
    let end : c.next.new.self.end ≡ c.args.residues.end = steps.0 ∙ inv.end in
    let before : q + 1 ≤ c.args.residues.end = omega (arith, steps.1.0, inv.end) in
    let came = subst (λ xs. IsBrought (of_met xs met (of_pair place q)) now after c.loop-residue.back c.bring.new.back) inv.brought.sums
    (subst (λ n. IsBrought (of_met now.sums met (of_pair place n)) now after c.loop-residue.back c.bring.new.back) steps.1.1 c.bring.ensures.brought)
    in
    let looked = subst (λ xs. after.probes + length c.loop-residue.back.items ≤ now.probes + length c.bring.new.back.items + cond (is_met_by xs met q) 0 1) inv.brought.sums
    (subst (λ n. after.probes + length c.loop-residue.back.items ≤ now.probes + length c.bring.new.back.items + cond (is_met_by now.sums met n) 0 1) steps.1.1 c.bring.ensures.probes)
    in
    let more = unmet_more sums met low q inv.low in
    record {
      can_next = tt;
      finite = tt;
      low = omega (arith, inv.low, steps.1.2);
      high = omega (arith, before, steps.1.2);
      end = end;
      brought = rw steps.1.2
          (brought_as (λ p r. of_met sums met first p r || of_met sums met (of_pair place q) p r) (of_met sums met (of_range place low (q + 1))) start after c.args.back.now c.bring.new.back
          (met_then sums met first (of_pair place q) (of_range place low (q + 1)) (λ p r. range_step place low q p r inv.low))
          (brought_then (of_met sums met first) (of_met sums met (of_pair place q)) start now after c.args.back.now c.loop-residue.back c.bring.new.back inv.brought came));
      probes = rw steps.1.2 (omega (arith, inv.probes, looked, more));
    }
