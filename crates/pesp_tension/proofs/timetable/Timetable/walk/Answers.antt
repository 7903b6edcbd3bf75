-- The list rises.
use Rattle.std.specs.List.Sorted.{IsStrictlyIncreasing}
use Rattle.std.specs.Map.{keys_of}
use Rattle.pesp_tension.proofs.Places.{events_rise}
use Rattle.pesp_tension.proofs.timetable.Timetable.walk.Goals as goal
use Rattle.std.proofs.Common.{rules}

pub returns-clause-rising : goal.returns-clause-rising
returns-clause-rising c =
    let rising : IsStrictlyIncreasing (keys_of c.self.inside.times.items) = events_rise _ c.self.invariant.rising in
    rw (← c.self.view_is) rising

pub invariant_of-result : goal.invariant_of-result
invariant_of-result c = search rules

pub returns-clause-entries : goal.returns-clause-entries
returns-clause-entries c = search rules
