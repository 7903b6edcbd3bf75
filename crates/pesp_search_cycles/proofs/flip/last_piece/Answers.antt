-- The residue counts against the walk.
use Rattle.std.proofs.Common.{rules}
use Rattle.pesp_search_cycles.specs.Walks.{residue}
use Rattle.pesp_search_cycles.proofs.flip.last_piece.Goals as goal

pub returns : goal.returns
returns c zs inside = (
  search rules,
  c.in_ok-range.ensures.inside (residue c.args.arcs.now zs c.args.event) (c.in_ok-residues.ensures zs inside),
)
