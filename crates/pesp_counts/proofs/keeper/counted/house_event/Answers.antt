-- An event is given a place, or taken away again.
use Rattle.std.proofs.Common.{◌<◌, sym, subst, arith, length, refl}
use Rattle.pesp_instance.specs.declared.edit.Edit.TheVariants.{AddEvent}
use Rattle.pesp_instance.specs.Edited.{effect}
use Rattle.pesp_instance.specs.Network.{Network}
use Rattle.pesp_domains.proofs.Edits.{effect_is}
use Rattle.pesp_counts.specs.Keeping.{IsHousedAt}
use Rattle.pesp_counts_arcs.specs.Links.{StandFor}
use Rattle.pesp_base.proofs.Tests.{always_err}
use Rattle.pesp_counts.proofs.Carried.{roomier_none}
use Rattle.pesp_counts.proofs.Housed.{dropped_event_again, dropped_seen, for_housed, for_seen, look_seen, new_event_of}
use Rattle.pesp_counts_arcs.proofs.StandLaws.{stands_same}
use Rattle.pesp_counts.proofs.keeper.counted.house_event.Goals as goal

pub returns-in_err-place-clause-back : goal.returns-in_err-place-clause-back
returns-in_err-place-clause-back c =
    let links = c.args.counted.now.links in
    let after = c.add_event.new.self in
    let s = c.args.counted.now.supports in
    let same = c.in_err-place.ensures.err in
    always_err c.from_residual.result (λ I J network made h. (
      for_seen I links after s s h (stands_same I links after same h.stand) (look_seen links after same) (roomier_none s) h.even,
      look_seen links after same,
    ))

pub returns-in-Err-clause-back : goal.returns-in-Err-clause-back
returns-in-Err-clause-back c I J network made h =
    let links = c.args.counted.now.links in
    let middle = c.add_event.new.self in
    let after = c.drop_event.new.self in
    let s = c.args.counted.now.supports in
    let e = c.args.event in
    let a = c.in_ok-place.ensures in
    let at : IsHousedAt links middle e c.in_ok-place.place = record { place = a.place; fresh = a.fresh; others = a.others; ends = a.ends; lists = a.lists } in
    let there : StandFor J middle = subst (λ (K : Network). StandFor K middle) (sym (effect_is I J (AddEvent e) made)) (a.ok I h.stand) in
    let stand = c.drop_event.ensures.stand J I (dropped_event_again I J e network made) there in
    let seen = dropped_seen I links middle after e c.in_ok-place.place (new_event_of I J e made) stand c.requires.absent at c.drop_event.ensures.others c.drop_event.ensures.ends c.drop_event.ensures.lists in
    (for_seen I links after s c.make_rows.new.self h stand seen c.make_rows.ensures.grown c.make_rows.ensures.even, seen)

pub returns-clause-ok : goal.returns-clause-ok
returns-clause-ok c I h =
    let links = c.args.counted.now.links in
    let middle = c.add_event.new.self in
    let s = c.args.counted.now.supports in
    let e = c.args.event in
    let a = c.in_ok-place.ensures in
    let at : IsHousedAt links middle e c.in_ok-place.place = record { place = a.place; fresh = a.fresh; others = a.others; ends = a.ends; lists = a.lists } in
    let low : c.in_ok-place.place < length middle.lists = a.room in
    let ok = c.in_default.ensures.ok in
    for_housed I (effect I (AddEvent e)) links middle s c.make_rows.new.self e c.in_ok-place.place h (a.ok I h.stand) refl at c.make_rows.ensures.grown c.make_rows.ensures.even
    (omega (arith, low, ok.0, c.places.ensures))
