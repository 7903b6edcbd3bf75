-- An end goes with what the other one goes with.
use Rattle.std.proofs.Common.{List, arith}
use Rattle.pesp_search_network.specs.declared.presolve.shift.Shift.{Shift}
use Rattle.pesp_search_network.proofs.ArcCosts.{arc-met}
use Rattle.pesp_search_network.proofs.Ties.{tied_head, tied_tail}
use Rattle.pesp_search_network.proofs.network.Network.tie.Goals as goal

pub returns-then-from-to : goal.returns-then-from-to
returns-then-from-to c =
    let N = c.args.self.now in
    let ties : List Shift = c.args.ties.now in
    let arc = c.arc-arc.result in
    let d : Shift = record { index = 0; offset = 0 } in
    let offset = rw (c.get.ensures.value, c.period-period.ensures) at c.later-offset.ensures in
    rw offset
    (tied_head N ties arc c.width.result c.slack-back.result c.requires.ties (omega (arith, c.get.ensures.limits.0, c.period-period.ensures)) c.arc-arc.ensures.between
    (λ x is. arc-met N x c.args.index arc is c.requires.index c.arc-arc.ensures.value) (rw c.period-period.ensures at c.width.ensures.value) (omega (arith, c.if-width-gt0.false))
    (rw c.period-period.ensures at c.slack-back.ensures.value) d c.if-from-to.true)

pub returns-then-to-from : goal.returns-then-to-from
returns-then-to-from c =
    let N = c.args.self.now in
    let ties : List Shift = c.args.ties.now in
    let arc = c.arc-arc.result in
    let d : Shift = record { index = 0; offset = 0 } in
    let offset = rw c.period-period.ensures at c.later-offset-then-to-from.ensures in
    rw offset
    (tied_tail N ties arc c.width.result c.slack-back.result c.requires.ties (omega (arith, c.get.ensures.limits.0, c.period-period.ensures)) c.arc-arc.ensures.between
    (λ x is. arc-met N x c.args.index arc is c.requires.index c.arc-arc.ensures.value) (rw c.period-period.ensures at c.width.ensures.value) (omega (arith, c.if-width-gt0.false))
    (rw c.period-period.ensures at c.slack-back.ensures.value) d c.if-to-from.true)
