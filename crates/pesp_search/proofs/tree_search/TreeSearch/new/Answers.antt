-- A search before its first node stands at the root.
use Rattle.std.proofs.Common.{refl, ap, sym, ◌∙◌, length}
use Rattle.pesp_instance.specs.Network.{event_ids}
use Rattle.pesp_search.proofs.Searching.{searching_start}
use Rattle.pesp_search.proofs.tree_search.TreeSearch.new.Goals as goal

pub least_of_parts-requires-clause-network : goal.least_of_parts-requires-clause-network
least_of_parts-requires-clause-network g c = rw c.instance-instance.ensures c.requires.network

pub least_of_parts-requires-clause-events : goal.least_of_parts-requires-clause-events
least_of_parts-requires-clause-events g c = c.requires.events ∙ ap event_ids (sym c.instance-instance.ensures)

pub returns-clause-searching : goal.returns-clause-searching
returns-clause-searching g c =
    searching_start (g.K.Keeper.network c.args.keeper.now) _ _ c.requires.network c.requires.events (rw c.instance-instance.ensures at c.in_ok-least.ensures) (rw c.instance-instance.ensures at c.in_ok-branch.ensures.branch)
    c.in_ok-branch.ensures.times refl (c.in_ok-incumbent.ensures.times ∙ ap length c.requires.events) c.in_ok-incumbent.ensures.none refl refl
