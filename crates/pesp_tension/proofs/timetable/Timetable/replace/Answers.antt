-- The time is written over where the event stands.
use Rattle.pesp_tension.proofs.Kept.{kept_set, set_is}
use Rattle.pesp_tension.proofs.timetable.Timetable.replace.Goals as goal

pub invariant_of-self : goal.invariant_of-self
invariant_of-self c =
    let at = rw (← c.self.view_is) at c.requires.at in
    let below = rw (← c.self.view_is) at c.requires.below in
    rw c.get.ensures.value (kept_set c.self.inside.period c.self.inside.times.items c.self.invariant c.args.event c.args.time c.args.place at c.get.ensures.limit below)

pub returns : goal.returns
returns c =
    let at = rw (← c.self.view_is) at c.requires.at in
    rw (c.get.ensures.value, ← c.self.view_is) (set_is c.self.inside.period c.self.inside.times.items c.self.invariant c.args.event c.args.time c.args.place at)
