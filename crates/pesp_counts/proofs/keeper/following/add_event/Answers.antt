-- The row of a new event has all residues.
use Rattle.std.proofs.Common.{◌≡◌, refl, sym, subst, [], ap, ◌∙◌, ◌||◌, ◌==◌, ◌&&◌, nat_lt, arith, IsTrue}
use Rattle.pesp_instance.specs.declared.edit.Edit.TheVariants.{AddEvent}
use Rattle.pesp_instance.specs.Network.{Network}
use Rattle.pesp_domains.proofs.Edits.{effect_is}
use Rattle.pesp_counts.specs.Keeping.{AreFor}
use Rattle.pesp_counts.proofs.Housed.{opened_settled, settled_seen}
use Rattle.std.proofs.lemmas.Bool.{false≢true}
use Rattle.pesp_counts_supports.specs.Supports.{is_in}
use Rattle.pesp_base.proofs.Tests.{always_err}
use Rattle.pesp_counts.proofs.Gone.{worked_none}
use Rattle.pesp_counts.proofs.Told.{reached_none}
use Rattle.pesp_counts.proofs.Housed.{opened_places}
use Rattle.pesp_counts.proofs.keeper.following.add_event.Goals as goal

pub returns-in_err-place-clause-err : goal.returns-in_err-place-clause-err
returns-in_err-place-clause-err c =
    always_err c.from_residual-in_err-place.result (λ I w.
    let b = c.in_err-place.ensures.back I c.args.instance.now w.settled.network w.made w.settled.fits in
    settled_seen I [] c.args.counted.now.links c.house_event.new.counted.links c.args.counted.now.supports c.house_event.new.counted.supports w.settled b.0 b.1 c.house_event.ensures.grown)

pub open-requires : goal.open-requires
open-requires c =
    let (I, w) = c.requires.before in
    let fits = c.in_ok-place.ensures.ok I w.settled.fits in
    let low = fits.housed c.args.event c.in_ok-place.place c.in_ok-place.ensures.place.place in
    record { rows = low; counted = rw fits.even low; trail = c.house_event.ensures.grown.trail ∙ w.trail }

pub returns-clause-ok : goal.returns-clause-ok
returns-clause-ok c =
    (λ I w.
    let J = c.args.instance.now in
    let e = c.args.event in
    let links = c.args.counted.now.links in
    let after = c.house_event.new.counted.links in
    let s = c.args.counted.now.supports in
    let m = c.house_event.new.counted.supports in
    let at = c.in_ok-place.ensures.place in
    let grown = c.house_event.ensures.grown in
    let fits = subst (λ (K : Network). AreFor K after m) (sym (effect_is I J (AddEvent e) w.made)) (c.in_ok-place.ensures.ok I w.settled.fits) in
    let o = c.open.ensures in
    let none : c.house_event.new.counted.back.items ≡ [] = c.house_event.ensures.listed ∙ c.requires.empty in
    rw none
    (record {
      settled = opened_settled I J links after s m c.open.new.self e c.in_ok-place.place w.settled c.event_count.ensures.network w.made fits at grown o.rows o.counted o.counts o.trail o.shape;
      reached = reached_none I (AddEvent e) after refl;
      worked = worked_none after s c.open.new.self o.trail (λ p r was. o.rows p r ∙ ap (λ b. b || (p == c.in_ok-place.place && nat_lt r m.period)) (grown.rows p r ∙ was)) (omega (arith, o.probes, grown.probes));
      places =
          record {
            places = λ f p is stays. at.others f (opened_places I J links e f p w.made w.settled.fits.stand is) ∙ is;
            placed = λ p r i. absurd (false≢true (subst (λ xs. IsTrue (is_in xs p r)) o.trail i));
          };
    }))
