-- A time of an event is put in after those before it.
use Rattle.std.proofs.Common.{◌≡◌, true, sym, subst, rules}
use Rattle.pesp_instance.specs.Network.{has_event}
use Rattle.pesp_shell.proofs.OpeningLemmas.{IsCopied, ok_of, set_more}
use Rattle.pesp_shell.proofs.opening.set_times.Goals as goal

pub loop-timed-preserved-else-is_err : goal.loop-timed-preserved-else-is_err
loop-timed-preserved-else-is_err g c =
    let of_event : has_event c.loop-timed.bench.instance c.in-Some.timed.event ≡ true = search rules in
    set_more c.args.bench.now.instance c.args.timetable.now (c.in-Some.timed.event, c.in-Some.timed.time) c.next.new.self c.loop-timed.bench c.set_time.new.self
    (subst (λ es. IsCopied c.args.bench.now.instance c.args.timetable.now es c.loop-timed.bench) c.in-Some.ensures.steps c.loop-timed.invariant)
    of_event (ok_of c.set_time.result _ c.set_time.ensures.ok (sym c.if-is_err.ensures.value))

-- by search, and named so that a wrong body is refused here at once
pub loop-timed-preserved : goal.loop-timed-preserved
loop-timed-preserved g c = search rules
