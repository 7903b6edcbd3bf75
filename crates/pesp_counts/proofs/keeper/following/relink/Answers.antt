-- What each edit makes of the links.
use Rattle.std.proofs.Common.{ap, refl, subst}
use Rattle.std.specs.List.{Contains}
use Rattle.pesp_base.specs.declared.activity.Activity.{Activity}
use Rattle.pesp_instance.specs.declared.edit.Edit.TheVariants.{SetEnds, SetSpan}
use Rattle.pesp_instance.specs.Network.{Network}
use Rattle.pesp_domains.proofs.Edits.{effect_is}
use Rattle.pesp_counts_arcs.specs.Ends.{ends_of}
use Rattle.pesp_counts.proofs.Asks.{first_fails}
use Rattle.pesp_counts.proofs.Carried.{place_there}
use Rattle.pesp_counts.proofs.Relinked.{followed_freed, followed_less, followed_set, followed_still}
use Rattle.pesp_counts.proofs.keeper.following.relink.Goals as goal

pub drop_activity-requires : goal.drop_activity-requires
drop_activity-requires c = let w = c.requires.before in (w.0, w.4)

pub returns-in-DropEvent : goal.returns-in-DropEvent
returns-in-DropEvent c I J period made stand =
    let d = c.drop_event.ensures in
    rw c.in-DropEvent.is (followed_less I J c.in-DropEvent.event c.args.links.now c.drop_event.new.self (d.stand I J (rw c.in-DropEvent.is at made) stand) d.others d.ends d.lists)

pub returns-in-DropActivity : goal.returns-in-DropActivity
returns-in-DropActivity c I J period made stand =
    let links = c.args.links.now in
    let after = c.drop_activity.new.self in
    let id = c.in-DropActivity.id in
    let d = c.drop_activity.ensures in
    let made' = rw c.in-DropActivity.is at made in
    let q = place_there I links id stand (first_fails _ _ _ _ J made') in
    rw c.in-DropActivity.is (followed_freed I J id links after q.0 made' (d.stand I J made' stand) (rw q.1 at d.changed) (rw q.1 at d.gone))

pub returns-in-SetSpan : goal.returns-in-SetSpan
returns-in-SetSpan c I J period made stand =
    let id = c.in-SetSpan.id in
    let span = c.in-SetSpan.span in
    let d = c.set_span.ensures in
    let made' = rw c.in-SetSpan.is at made in
    rw c.in-SetSpan.is
    (followed_set I J (SetSpan id span) c.args.links.now c.set_span.new.self id (λ (a : Activity). record a { span = span }) (λ a. refl) (λ a. refl) (ap (λ (K : Network). K.activities) (effect_is I J (SetSpan id span) made')) refl (first_fails _ _ _ _ J made') stand
    (d.stand I J period made' stand) d.changed d.activities (λ p k is. (p, subst (λ lists. Contains (ends_of lists p) k) d.lists is)))

pub returns-in-SetEnds : goal.returns-in-SetEnds
returns-in-SetEnds c I J period made stand =
    let id = c.in-SetEnds.id in
    let from = c.in-SetEnds.from in
    let to = c.in-SetEnds.to in
    let d = c.set_ends.ensures in
    let made' = rw c.in-SetEnds.is at made in
    rw c.in-SetEnds.is
    (followed_set I J (SetEnds id from to) c.args.links.now c.set_ends.new.self id (λ (a : Activity). record a { from = from; to = to }) (λ a. refl) (λ a. refl) (ap (λ (K : Network). K.activities) (effect_is I J (SetEnds id from to) made')) refl (first_fails _ _ _ _ J made') stand
    (d.stand I J made' stand) d.changed d.activities d.listed)

pub returns-in_default : goal.returns-in_default
returns-in_default c I J period made stand =
    let d = c.in_default in
    followed_still I J c.args.links.now c.args.edit.now made c.requires.adds d.not-DropEvent d.not-DropActivity d.not-SetSpan d.not-SetEnds stand
