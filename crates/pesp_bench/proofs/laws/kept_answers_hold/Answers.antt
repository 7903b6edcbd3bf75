-- No timetable becomes a member, and none gets cheaper.
use Rattle.pesp_bench.proofs.KeptAnswers.{kept_answer}
use Rattle.pesp_bench.proofs.laws.kept_answers_hold.Goals as goal

pub returns : goal.returns
returns c = kept_answer
