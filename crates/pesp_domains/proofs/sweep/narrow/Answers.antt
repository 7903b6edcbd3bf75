-- A pair without a partner goes; else one residue more has its partner.
use Rattle.std.proofs.Common.{◌<◌, sym, subst, inl, inr, ◌∙◌, arith}
use Rattle.std.proofs.lemmas.Bool.{false≢true, cases_eq}
use Rattle.pesp_domains.specs.Domains.{HasPartner, own}
use Rattle.pesp_domains.specs.Rows.{TakesOut, has}
use Rattle.pesp_domains.specs.Sweeps.{IsAlone, Of}
use Rattle.pesp_domains.proofs.Opened.{shape_then}
use Rattle.pesp_domains.proofs.Passes.{own_is_event, pass_one, pass_yes}
use Rattle.pesp_domains.proofs.sweep.narrow.Goals as goal
use Rattle.pesp_domains.proofs.sweep.narrow.Goals.{then-is_alone, else-is_alone}

pub loop-residue-preserved : goal.loop-residue-preserved
loop-residue-preserved c =
    let I = c.args.instance.now in
    let a = c.args.activity.now in
    let side = c.args.side in
    let below : c.loop-residue.residue < I.period = omega arith in
    elim c.if-is_alone.branch [
      | then-is_alone w ↦
          let event = own_is_event I side a c.period-period.ensures.network c.requires in
          let alone = subst (λ n. IsAlone n (has c.loop-residue.rows) side a c.loop-residue.residue) c.period-period.ensures.value (c.is_alone.ensures.alone w.if-is_alone.true) in
          let goes = subst (λ e. TakesOut e c.loop-residue.residue c.loop-residue.rows w.take_out.new.self) c.own-event.ensures w.take_out.ensures.has in
          let one = pass_one I (has c.loop-residue.rows) (has w.take_out.new.self) side a c.loop-residue.residue c.requires event below alone goes in
          record {
            shape = rw w.rows-is (shape_then _ _ _ c.loop-residue.invariant.shape w.take_out.ensures.shape);
            pass = rw (w.rows-is, w.changed-is) (pass_yes I _ _ _ _ c.loop-residue.invariant.pass one);
            settled = λ x. absurd (false≢true (sym x ∙ w.changed-is));
          }
      | else-is_alone w ↦
          record {
            shape = rw w.rows-is c.loop-residue.invariant.shape;
            pass = rw (w.rows-is, w.changed-is) c.loop-residue.invariant.pass;
            settled = rw (w.rows-is, w.changed-is) (λ x r before h.
                elim (cases_eq r c.loop-residue.residue) [
                  | inl at ↦
                      let stays = subst (λ n. HasPartner n (Of (has c.loop-residue.rows)) side a c.loop-residue.residue) c.period-period.ensures.value (c.is_alone.ensures.stays w.if-is_alone.false (subst (Of (has c.loop-residue.rows) (own side a)) at h)) in
                      rw at stays
                  | inr apart ↦ c.loop-residue.invariant.settled x r (omega (arith, before, apart)) h
                ]);
          }
    ]
