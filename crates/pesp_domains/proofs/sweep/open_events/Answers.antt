-- One event more has its row open.
use Rattle.std.proofs.Common.{◌≡◌, ◌∷◌, subst}
use Rattle.pesp_instance.specs.Network.{window_of}
use Rattle.pesp_domains.specs.Rows.{OpensRow}
use Rattle.pesp_domains.proofs.Opened.{opened_more, rows_stay, shape_then}
use Rattle.pesp_domains.proofs.sweep.open_events.Goals as goal

pub loop-event-preserved : goal.loop-event-preserved
loop-event-preserved c =
    let I = c.args.instance.now in
    let x = c.in-Some.event.now in
    let before = c.loop-event.rows in
    let after = c.open.new.self in
    let left : c.loop-event.event-iterator ≡ x ∷ c.next.new.self = c.in-Some.ensures.steps in
    let opens : OpensRow x.id (window_of I x.id) before after = subst (λ w. OpensRow x.id w before after) c.window.ensures.value c.open.ensures.has in
    record {
      can_next = tt;
      is_finite = tt;
      shape = shape_then c.args.rows.now before after c.loop-event.invariant.shape c.open.ensures.shape;
      done = opened_more I before after x c.next.new.self (rows_stay I c.args.rows.now before c.loop-event.invariant.shape c.requires) opens (rw left at c.loop-event.invariant.done);
    }
