-- The node is that of these cycles.
use Rattle.std.proofs.Common.{subst}
use Rattle.pesp_search_least.specs.Sums.{IsWithin}
use Rattle.pesp_search_cycles.specs.Maps.{IsAmong, IsSummed, Net}
use Rattle.pesp_search_cycles.proofs.open.whole.Goals as goal

pub returns-in-Some-clause-cycles : goal.returns-in-Some-clause-cycles
returns-in-Some-clause-cycles c = rw c.in-Some.is at c.in_ok-node.ensures.cycles

pub returns-in-Some-clause-all : goal.returns-in-Some-clause-all
returns-in-Some-clause-all c =
    let node = c.in-Some.node in
    subst (λ (N : Net). IsWithin (IsAmong c.args.cycles.now.network c.args.residues.now) (IsSummed N node.boxes))
    (rw c.in-Some.is at c.in_ok-node.ensures.cycles) (rw c.in-Some.is at c.in_ok-node.ensures.all)

pub returns-in-Some-clause-within : goal.returns-in-Some-clause-within
returns-in-Some-clause-within c =
    let node = c.in-Some.node in
    subst (λ (N : Net). IsWithin (IsSummed N node.boxes) (IsAmong c.args.cycles.now.network c.args.residues.now))
    (rw c.in-Some.is at c.in_ok-node.ensures.cycles) (rw c.in-Some.is at c.in_ok-node.ensures.within)
