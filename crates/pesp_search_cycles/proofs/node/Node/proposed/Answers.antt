-- The halves are those of the proposal.
use Rattle.pesp_search_cycles.proofs.node.Node.proposed.Goals as goal

pub returns-then-proposal-clause-place : goal.returns-then-proposal-clause-place
returns-then-proposal-clause-place c = c.swapped.ensures.place c.args.self.now.boxes c.in_ok-choice.ensures.place
