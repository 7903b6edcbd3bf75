-- What is left of the steps leads from here to the end where all of them do from their beginning.
use Rattle.std.proofs.Common.{◌≡◌, drop}
use Rattle.pesp_search_cycles.specs.Walks.{leads}
use Rattle.pesp_search_cycles.proofs.walk.leads_to.Given as goal

abbrev pub invariant-loop-step : goal.invariant-loop-step
invariant-loop-step l = leads l.arcs l.from l.steps l.to ≡ leads l.arcs l.at (drop l.step-index l.steps) l.to
