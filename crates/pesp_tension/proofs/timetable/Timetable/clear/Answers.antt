-- The event's time is taken away, if it stands at a place.
use Rattle.std.proofs.Common.{is_some, sym, ap}
use Rattle.pesp_tension.proofs.Kept.{kept_remove, remove_is, same_without}
use Rattle.pesp_tension.proofs.Places.{lookup_at, lookup_gap}
use Rattle.pesp_tension.proofs.timetable.Timetable.clear.Goals as goal

pub invariant_of-self : goal.invariant_of-self
invariant_of-self c =
    let at = rw c.deref.ensures.value at c.in-Ok.ensures.found in
    rw c.remove.ensures.items (kept_remove c.self.inside.period c.self.inside.times.items c.self.invariant c.args.event c.in-Ok.place at)

pub returns-in-Ok : goal.returns-in-Ok
returns-in-Ok c =
    let es = c.self.inside.times.items in
    let at = rw c.deref.ensures.value at c.in-Ok.ensures.found in
    record {
      had = rw (← c.self.view_is) (sym (ap is_some (lookup_at es c.args.event c.in-Ok.place c.self.invariant.rising at)));
      without = rw (c.remove.ensures.items, ← c.self.view_is) (remove_is c.self.inside.period es c.self.invariant c.args.event c.in-Ok.place at);
    }

pub returns-in-Err : goal.returns-in-Err
returns-in-Err c =
    let es = c.self.inside.times.items in
    let gap = rw c.deref.ensures.value at c.in-Err.ensures.absent in
    record {
      had = rw (← c.self.view_is) (sym (ap is_some (lookup_gap es c.args.event c.in-Err.field-0 gap)));
      without = rw (← c.self.view_is) (same_without c.self.inside.period es c.self.invariant c.args.event c.in-Err.field-0 gap);
    }
