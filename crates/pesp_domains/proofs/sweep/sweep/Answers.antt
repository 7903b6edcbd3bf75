-- An activity more is settled, or a pair was taken out.
use Rattle.std.proofs.Common.{refl, sym, inl, inr, ◌∙◌, subst}
use Rattle.std.specs.List.{Contains}
use Rattle.std.proofs.lemmas.Bool.{false≢true}
use Rattle.std.proofs.lemmas.List.Elements.{All-tail, All-contains_itself}
use Rattle.pesp_domains.specs.Rows.{has}
use Rattle.pesp_domains.specs.Sweeps.{IsPass}
use Rattle.pesp_domains.proofs.Families.{not_in_none}
use Rattle.pesp_domains.proofs.Opened.{shape_then}
use Rattle.pesp_domains.proofs.Passes.{pass_no, pass_none, pass_yes, settled_more}
use Rattle.pesp_domains.proofs.sweep.sweep.Goals as goal

pub loop-activity-init : goal.loop-activity-init
loop-activity-init c =
    let all = c.into_iter-activity-iterator.ensures.into_iter_gives ∙ c.activities-activity-items.ensures.value in
    record {
      can_next = tt;
      is_finite = tt;
      among = rw all (All-contains_itself c.args.instance.now.activities);
      shape = λ e. refl;
      pass = pass_none c.args.instance.now (has c.args.rows.now);
      settled = λ x side a is. inl (rw all is);
    }

pub loop-activity-preserved-then-narrow_both : goal.loop-activity-preserved-then-narrow_both
loop-activity-preserved-then-narrow_both c =
    let I = c.args.instance.now in
    let one = subst (IsPass I (has c.loop-activity.rows) (has c.narrow_both.new.rows)) c.if-narrow_both.true c.narrow_both.ensures.pass in
    record {
      can_next = tt;
      is_finite = tt;
      among = All-tail (Contains I.activities) c.in-Some.activity.now c.next.new.self (rw c.in-Some.ensures.steps at c.loop-activity.invariant.among);
      shape = shape_then _ _ _ c.loop-activity.invariant.shape c.narrow_both.ensures.shape;
      pass = pass_yes I _ _ _ _ c.loop-activity.invariant.pass one;
      settled = λ x. absurd (false≢true (sym x));
    }

pub loop-activity-preserved : goal.loop-activity-preserved
loop-activity-preserved c =
    let I = c.args.instance.now in
    let one = subst (IsPass I (has c.loop-activity.rows) (has c.narrow_both.new.rows)) c.if-narrow_both.false c.narrow_both.ensures.pass in
    record {
      can_next = tt;
      is_finite = tt;
      among = All-tail (Contains I.activities) c.in-Some.activity.now c.next.new.self (rw c.in-Some.ensures.steps at c.loop-activity.invariant.among);
      shape = shape_then _ _ _ c.loop-activity.invariant.shape c.narrow_both.ensures.shape;
      pass = pass_no I _ _ _ _ c.loop-activity.invariant.pass one;
      settled = λ x side a is.
          settled_more I _ _ side c.in-Some.activity.now a c.next.new.self (one.same refl)
          ((rw c.in-Some.ensures.steps at c.loop-activity.invariant.settled) x side a is)
          (c.narrow_both.ensures.settled c.if-narrow_both.false side);
    }

pub returns-clause-settled : goal.returns-clause-settled
returns-clause-settled c x side a is =
    elim (c.loop-activity.invariant.settled x side a is) [
      | inl to_come ↦ absurd (not_in_none a (rw c.in-None.ensures.steps.0 at to_come))
      | inr settled ↦ settled
    ]
