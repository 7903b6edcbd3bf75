-- The first of the times that are left is fixed, and the others may be fixed after it.
use Rattle.std.proofs.Common.{◌≡◌, ◌∷◌, ◌∙◌, sym, ap, fold, Ok}
use Rattle.std.proofs.lemmas.Result.{IfOk-at_ok}
use Rattle.pesp_instance.specs.declared.edit.Edit.TheVariants.{Fix}
use Rattle.pesp_instance.specs.Edited.{edited}
use Rattle.pesp_instance.specs.Network.{Network}
use Rattle.pesplib_reader.specs.Reading.{AreFixable}
use Rattle.pesplib_reader.proofs.FixedLemmas.{fix_gives, still_fixable, with_fix}
use Rattle.pesplib_reader.proofs.fixed.fix_all.Goals as goal

pub loop-fixed-preserved : goal.loop-fixed-preserved
loop-fixed-preserved c =
    let left : c.loop-fixed.fixed-iterator ≡ (c.in-Some.fixed.event, c.in-Some.fixed.time) ∷ c.next.new.self = c.in-Some.ensures.steps in
    let all : AreFixable c.loop-fixed.instance ((c.in-Some.fixed.event, c.in-Some.fixed.time) ∷ c.next.new.self) = rw left at c.loop-fixed.invariant.3 in
    let accepted : edited c.loop-fixed.instance (Fix c.in-Some.fixed.event c.in-Some.fixed.time) ≡ Ok c.apply.new.self =
    IfOk-at_ok (λ _. edited c.loop-fixed.instance (Fix c.in-Some.fixed.event c.in-Some.fixed.time) ≡ Ok c.apply.new.self) c.unwrap.ensures c.apply.ensures.ok in
    let fixed : c.apply.new.self ≡ with_fix c.loop-fixed.instance (c.in-Some.fixed.event, c.in-Some.fixed.time) =
    fix_gives c.loop-fixed.instance c.in-Some.fixed.event c.in-Some.fixed.time all.0 all.1 c.apply.new.self accepted in (
      tt,
      tt,
      ap (λ (K : Network). fold with_fix K c.next.new.self) fixed ∙ ap (fold with_fix c.loop-fixed.instance) (sym left) ∙ c.loop-fixed.invariant.2,
      rw fixed (still_fixable c.loop-fixed.instance c.in-Some.fixed.event c.in-Some.fixed.time all.0 all.1 c.next.new.self all.2),
    )
