-- One piece less.
use Rattle.pesp_search_network.proofs.network.Network.+least_apart.Given as goal

abbrev pub decreases-least_apart : goal.decreases-least_apart
decreases-least_apart g l = l.pieces
