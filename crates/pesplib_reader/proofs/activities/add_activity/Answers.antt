-- What was refused for an end is as it was, and so what is said of the activity with its ends is said of it.
use Rattle.pesplib_reader.proofs.activities.add_activity.Goals as goal

pub returns-in-Err-NoEvent-clause-fault : goal.returns-in-Err-NoEvent-clause-fault
returns-in-Err-NoEvent-clause-fault c = rw c.in-Err-NoEvent.ensures.unchanged at c.add_with_ends.ensures.fault
