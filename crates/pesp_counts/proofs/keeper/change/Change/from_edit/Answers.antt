-- The change of each edit.
use Rattle.std.proofs.Common.{None, true, ap, refl, sym, ◌∙◌}
use Rattle.pesp_instance.specs.declared.edit.Edit.TheVariants.{DropActivity, Fix, SetEnds, SetSpan, SetWindow, Unfix}
use Rattle.pesp_instance.specs.Edited.{effect}
use Rattle.pesp_domains.specs.Loosening.{admits_anew, is_looser}
use Rattle.pesp_counts.specs.declared.keeper.change.Change.{Change}
use Rattle.pesp_counts.proofs.Asks.{first_fails}
use Rattle.pesp_counts.proofs.Changed.{activity_change, first_holds, no_change, window_change}
use Rattle.pesp_counts.proofs.keeper.change.Change.from_edit.Goals as goal

pub returns-in-Fix : goal.returns-in-Fix
returns-in-Fix c J made =
    let I = c.args.instance.now in
    let edit = Fix c.in-Fix.event c.in-Fix.time in
    rw c.in-Fix.is (window_change I edit c.args.links.now c.in-Fix.event (admits_anew I (effect I edit) c.in-Fix.event) c.of_window.result c.requires (first_holds _ _ _ _ J (rw c.in-Fix.is at made)) refl refl refl (rw c.window_admits_anew.ensures at c.of_window.ensures))

pub returns-in-SetWindow : goal.returns-in-SetWindow
returns-in-SetWindow c J made =
    let I = c.args.instance.now in
    let w = c.in-SetWindow in
    let edit = SetWindow w.event w.first w.length in
    rw w.is (window_change I edit c.args.links.now w.event (admits_anew I (effect I edit) w.event) c.of_window-in-SetWindow.result c.requires (first_holds _ _ _ _ J (rw w.is at made)) refl refl refl (rw c.window_admits_anew-anew.ensures at c.of_window-in-SetWindow.ensures))

pub returns-in-Unfix : goal.returns-in-Unfix
returns-in-Unfix c J made =
    let I = c.args.instance.now in
    let edit = Unfix c.in-Unfix.event in
    rw c.in-Unfix.is (window_change I edit c.args.links.now c.in-Unfix.event (admits_anew I (effect I edit) c.in-Unfix.event) c.of_window-in-Unfix.result c.requires (first_holds _ _ _ _ J (rw c.in-Unfix.is at made)) refl refl refl (rw c.is_limited.ensures at c.of_window-in-Unfix.ensures))

pub returns-in-SetSpan : goal.returns-in-SetSpan
returns-in-SetSpan c J made =
    let I = c.args.instance.now in
    let w = c.in-SetSpan in
    let tells = rw c.is_looser.ensures at c.of_activity.ensures in
    rw w.is (activity_change I (SetSpan w.id w.span) c.args.links.now w.id (is_looser I w.id w.span) c.of_activity.result c.of_activity.result.recounted c.requires (first_fails _ _ _ _ J (rw w.is at made)) refl refl tells (λ q at. ap (λ (d : Change). d.recounted) (tells q at) ∙ sym at))

pub returns-in-SetEnds : goal.returns-in-SetEnds
returns-in-SetEnds c J made =
    let w = c.in-SetEnds in
    let tells = c.of_activity-in-SetEnds.ensures in
    rw w.is (activity_change c.args.instance.now (SetEnds w.id w.field-1 w.field-2) c.args.links.now w.id true c.of_activity-in-SetEnds.result c.of_activity-in-SetEnds.result.recounted c.requires (first_fails _ _ _ _ J (rw w.is at made)) refl refl tells (λ q at. ap (λ (d : Change). d.recounted) (tells q at) ∙ sym at))

pub returns-in-DropActivity : goal.returns-in-DropActivity
returns-in-DropActivity c J made =
    let w = c.in-DropActivity in
    rw w.is (activity_change c.args.instance.now (DropActivity w.id) c.args.links.now w.id true c.of_activity-change.result None c.requires (first_fails _ _ _ _ J (rw w.is at made)) refl refl c.of_activity-change.ensures (λ q at. refl))

pub returns-in_default : goal.returns-in_default
returns-in_default c J made =
    let d = c.in_default in
    rw c.none.ensures (no_change c.args.instance.now c.args.edit.now c.args.links.now d.not-Fix d.not-SetWindow d.not-Unfix d.not-SetSpan d.not-SetEnds d.not-DropActivity)

pub of_activity-requires : goal.of_activity-requires
of_activity-requires c = (c.args.instance.now, c.requires)

pub of_activity-requires-in-SetEnds : goal.of_activity-requires-in-SetEnds
of_activity-requires-in-SetEnds c = (c.args.instance.now, c.requires)

pub of_activity-change-requires : goal.of_activity-change-requires
of_activity-change-requires c = (c.args.instance.now, c.requires)
