-- The leaves are those of the node of all maps.
use Rattle.std.proofs.Common.{◌≡◌, ◌+◌, ◌∷◌, [], rules}
use Rattle.pesp_search_least.specs.Sums.{InSome}
use Rattle.pesp_search_cycles.specs.Leaves.{sums_of}
use Rattle.pesp_search_cycles.specs.Maps.{IsAmong, IsSummed}
use Rattle.pesp_search_cycles.proofs.Covered.{cut_along}
use Rattle.pesp_search_cycles.proofs.Opened.{alone_back, alone_there}
use Rattle.pesp_search_cycles.proofs.open.leaves_of_part.Goals as goal

pub returns-clause-cut : goal.returns-clause-cut
returns-clause-cut c =
    let root = c.in_ok-root.root in
    let N = c.args.cycles.now in
    let R = c.args.residues.now in
    let nodes = c.push.new.self.items in
    let alone : nodes ≡ root ∷ [] = search rules in
    cut_along (c.args.cost + 1) (IsAmong N.network R) (InSome sums_of nodes) (InSome (IsSummed N) c.in_ok-leaves.leaves.boxes.items)
    (λ map sum s. alone_there N root nodes alone c.in_ok-root.ensures.cycles map sum (c.in_ok-root.ensures.all map sum s))
    (λ map sum s. c.in_ok-root.ensures.within map sum (alone_back N root nodes alone c.in_ok-root.ensures.cycles map sum s))
    c.in_ok-leaves.ensures.cut

pub returns-clause-least : goal.returns-clause-least
returns-clause-least c =
    let root = c.in_ok-root.root in
    let N = c.args.cycles.now in
    let alone : c.push.new.self.items ≡ root ∷ [] = search rules in
    λ map sum s. c.in_ok-leaves.ensures.least map sum (alone_there N root c.push.new.self.items alone c.in_ok-root.ensures.cycles map sum (c.in_ok-root.ensures.all map sum s))
