-- What is sought in the reduced network is lifted.
use Rattle.pesp_search.proofs.Lifted.{candidate_of_sought}
use Rattle.pesp_search.proofs.seek.seek_map.Goals as goal

pub lifted_map-requires-clause-candidate : goal.lifted_map-requires-clause-candidate
lifted_map-requires-clause-candidate c =
    let sought = c.in_ok-sought.sought in
    candidate_of_sought c.in-Some.reduction.network c.cap-part.result sought.is_end sought.best c.in_ok-sought.ensures.best

pub returns-clause-best : goal.returns-clause-best
returns-clause-best c = c.lifted_map.ensures.best c.args.cap c.cap-part.result c.cap-part.ensures c.in_ok-sought.ensures.best
