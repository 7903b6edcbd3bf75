-- The time is put where the event would stand, or memory is wanting and nothing changes.
use Rattle.pesp_tension.proofs.Kept.{insert_is, kept_insert}
use Rattle.pesp_tension.proofs.timetable.Timetable.insert.Goals as goal
use Rattle.pesp_tension.proofs.timetable.Timetable.insert.Goals.{in-Ok, in-Err}

pub invariant_of-self : goal.invariant_of-self
invariant_of-self c =
    let gap = rw (← c.self.view_is) at c.requires.gap in
    let below = rw (← c.self.view_is) at c.requires.below in
    let room = rw (← c.self.view_is) at c.requires.room in
    elim c.match-insert.branch [
      | in-Ok w ↦ rw (w.in-Ok.ensures.items, c.get.ensures.value) (kept_insert c.self.inside.period c.self.inside.times.items c.self.invariant c.args.event c.args.time c.args.place gap c.get.ensures.limit below room)
      | in-Err w ↦ rw w.in-Err.ensures.items c.self.invariant
    ]

pub returns-clause-ok : goal.returns-clause-ok
returns-clause-ok c =
    let gap = rw (← c.self.view_is) at c.requires.gap in
    elim c.match-insert.branch [
      | in-Ok w ↦ rw (w.result-is, w.in-Ok.ensures.items, c.get.ensures.value, ← c.self.view_is) (insert_is c.self.inside.period c.self.inside.times.items c.self.invariant c.args.event c.args.time c.args.place gap)
      | in-Err w ↦ rw w.result-is tt
    ]
