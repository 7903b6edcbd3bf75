-- The event goes with a leader, or leads.
use Rattle.std.proofs.Common.{◌≡◌, ◌++◌, ◌∷◌, [], get_or, length, vec_len, rules}
use Rattle.pesp_search_network.proofs.Ties.{led_next, led_on, told_led}
use Rattle.pesp_search_network.proofs.network.Network.follow.Goals as goal

pub returns-then-tie-event-clause-led : goal.returns-then-tie-event-clause-led
returns-then-tie-event-clause-led c =
    let N = c.args.self.now in
    let led = c.index-led.result.now in
    let read : led ≡ get_or c.args.clusters.now.shifts.items c.args.tie.index led = c.index-led.ensures in
    let count = rw c.len-event.ensures at c.if-tie-event.true in
    let offset = rw c.period.ensures at c.later-offset.ensures in
    told_led N _ _ _ _ c.put.result c.put.new.self.leaders.items c.put.new.self.shifts.items c.put.ensures.leaders c.put.ensures.shifts
    (rw (offset, read) (led_on N _ c.args.clusters.now.leaders.items c.args.clusters.now.shifts.items c.requires.led c.args.tie led count c.requires.tied))

pub returns-clause-led : goal.returns-clause-led
returns-clause-led c =
    let N = c.args.self.now in
    let event = c.len-event.result in
    let leaders = c.args.clusters.now.leaders.items in
    let pushed : c.push.new.self.items ≡ leaders ++ event ∷ [] = search rules in
    let count : c.len-event.result ≡ vec_len c.args.clusters.now.shifts = c.len-event.ensures in
    let index : c.len-index.result ≡ length leaders = search rules in
    told_led N _ _ _ _ c.put-2.result c.put-2.new.self.leaders.items c.put-2.new.self.shifts.items c.put-2.ensures.leaders c.put-2.ensures.shifts
    (rw (pushed, count, index) (led_next N _ leaders c.args.clusters.now.shifts.items c.requires.led c.requires.event))
