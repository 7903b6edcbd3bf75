-- The leaves are those of the nodes, or of the node of all maps.
use Rattle.std.proofs.Common.{◌≡◌, ◌+◌, ◌++◌, ◌∷◌, [], List, ap, ◌∙◌}
use Rattle.pesp_search_least.specs.Sums.{InSome}
use Rattle.pesp_search_cycles.specs.declared.boxes.Boxes.{Boxes}
use Rattle.pesp_search_cycles.specs.Leaves.{sums_of}
use Rattle.pesp_search_cycles.specs.Maps.{IsAmong, IsSummed}
use Rattle.pesp_search_cycles.proofs.Covered.{cut_alone}
use Rattle.pesp_search_cycles.proofs.Leaved.{cut_on}
use Rattle.pesp_search_cycles.proofs.open.leaves_of.Goals as goal

pub returns-then-is_few-clause-cut : goal.returns-then-is_few-clause-cut
returns-then-is_few-clause-cut c =
    let N = c.args.stack.cycles.now in
    cut_on (c.args.cost + 1) (IsAmong N.network c.args.residues.now) (InSome sums_of c.args.stack.nodes.items) (InSome (IsSummed N) c.in_ok-leaves.leaves.boxes.items) c.requires.cut c.in_ok-leaves.ensures.cut

pub returns-clause-cut : goal.returns-clause-cut
returns-clause-cut c =
    let root = c.in_ok-root.root in
    let N = c.args.stack.cycles.now in
    let alone : c.push.new.self.boxes.items ≡ root.boxes ∷ [] =
    c.in_ok-push.ensures.boxes ∙ ap (λ (ls : List Boxes). ls ++ root.boxes ∷ []) c.new-leaves.ensures.boxes in
    cut_alone N (c.args.cost + 1) (IsAmong N.network c.args.residues.now) c.push.new.self.boxes.items root.boxes alone c.in_ok-root.ensures.all c.in_ok-root.ensures.within
