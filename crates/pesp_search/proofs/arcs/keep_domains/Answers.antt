-- One row more is a domain.
use Rattle.std.proofs.Common.{◌≡◌, ◌<◌, get_or, length, ap, subst, ◌∙◌, arith}
use Rattle.std.proofs.lemmas.List.{get_or_read}
use Rattle.pesp_instance.specs.Network.{event_ids}
use Rattle.pesp_search_network.specs.Arcs.{Arcs}
use Rattle.pesp_search.proofs.Networks.{row_kept}
use Rattle.pesp_search.proofs.Timed.{index_has_event}
use Rattle.pesp_search.proofs.arcs.keep_domains.Goals as goal

pub unwrap-row-requires : goal.unwrap-row-requires
unwrap-row-requires g c =
    let I = g.K.Keeper.network c.args.keeper.now in
    let index = c.loop-index.index in
    let event = c.index-events-index in
    let item : event.result ≡ get_or (event_ids I) index 0 = get_or_read c.args.events.now index event.result (omega arith) event.is 0 ∙ ap (λ ids. get_or ids index 0) c.requires.events in
    c.row.ensures.event ∙ rw item (index_has_event I index (subst (λ ids. index < length ids) c.requires.events (omega arith)))

pub loop-index-preserved : goal.loop-index-preserved
loop-index-preserved g c =
    let I = g.K.Keeper.network c.args.keeper.now in
    let index = c.loop-index.index in
    let event = c.index-events-index in
    let inv = c.loop-index.invariant in
    let new = c.keep_row.new.network in
    let item : event.result ≡ get_or (event_ids I) index 0 = get_or_read c.args.events.now index event.result (omega arith) event.is 0 ∙ ap (λ ids. get_or ids index 0) c.requires.events in
    let period : c.loop-index.network.period ≡ I.period = ap (λ (N : Arcs). N.period) inv.same ∙ c.requires.period in
    let domain = rw (c.unwrap-row.ensures, item) at c.row.ensures.domain in
    record {
      same = c.keep_row.ensures.same ∙ ap (λ (N : Arcs). let M : Arcs = record N { rows = new.rows } in M) inv.same;
      rows = row_kept I (g.K.Keeper.pushes c.args.keeper.now) c.loop-index.network.rows new.rows c.unwrap-row.result.now c.args.network.now.events index inv.rows domain (rw period at c.keep_row.ensures.kept) (rw period at c.keep_row.ensures.others);
    }
