-- The event's time is the one at its place, if it stands at one.
use Rattle.std.proofs.Common.{◌≡◌, ◌<◌, get_or, sym, ◌∙◌}
use Rattle.std.proofs.lemmas.List.{get_or_default}
use Rattle.pesp_tension.proofs.Places.{lookup_at, lookup_gap, time_at_place}
use Rattle.pesp_tension.proofs.timetable.Timetable.get.Goals as goal

pub returns-in-Ok : goal.returns-in-Ok
returns-in-Ok c =
    let es = c.self.inside.times.items in
    let at = rw c.deref.ensures.value at c.in-Ok.ensures.found in
    let read : c.index.result.now ≡ get_or es c.in-Ok.place (0, 0) = c.index.ensures ∙ get_or_default es c.in-Ok.place c.index.result.now (0, 0) at.within in
    record {
      time = rw (read, ← c.self.view_is) (sym (lookup_at es c.args.event c.in-Ok.place c.self.invariant.rising at));
      below = rw (read, ← c.self.view_is) (time_at_place (λ t. t < c.self.inside.period) es c.in-Ok.place c.self.invariant.within.times at.within);
    }

pub returns-in-Err : goal.returns-in-Err
returns-in-Err c =
    let gap = rw c.deref.ensures.value at c.in-Err.ensures.absent in
    record { time = rw (← c.self.view_is) (sym (lookup_gap c.self.inside.times.items c.args.event c.in-Err.field-0 gap)); below = tt }
