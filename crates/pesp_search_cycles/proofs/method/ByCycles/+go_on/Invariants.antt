-- One turn less.
use Rattle.pesp_search_cycles.proofs.method.ByCycles.+go_on.Given as goal

abbrev pub decreases-go_on : goal.decreases-go_on
decreases-go_on l = l.left
