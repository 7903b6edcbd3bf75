-- Found by search, and named so that a wrong body is refused here at once.
use Rattle.std.proofs.Common.{rules}
use Rattle.pesp_tension.proofs.timetable.Timetable.set.Goals as goal

pub replace-requires-clause-below : goal.replace-requires-clause-below
replace-requires-clause-below c = search rules

pub insert-requires-clause-below : goal.insert-requires-clause-below
insert-requires-clause-below c = search rules

pub returns-in-Ok-clause-ok : goal.returns-in-Ok-clause-ok
returns-in-Ok-clause-ok c = search rules

pub returns-in-Err-clause-refused : goal.returns-in-Err-clause-refused
returns-in-Err-clause-refused c = search rules

pub returns-in-Err-2-clause-ok : goal.returns-in-Err-2-clause-ok
returns-in-Err-2-clause-ok c = search rules

pub returns-in-Err-2-clause-refused : goal.returns-in-Err-2-clause-refused
returns-in-Err-2-clause-refused c = search rules

pub insert-requires-clause-gap : goal.insert-requires-clause-gap
insert-requires-clause-gap c = search rules

pub insert-requires-clause-room : goal.insert-requires-clause-room
insert-requires-clause-room c = search rules
