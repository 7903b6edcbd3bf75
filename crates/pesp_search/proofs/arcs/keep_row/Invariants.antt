-- The residues before this one are forbidden where they are not in the row.
use Rattle.std.proofs.Common.{◌≡◌, ◌*◌}
use Rattle.pesp_search_network.specs.Arcs.{Arcs}
use Rattle.pesp_search.proofs.Networks.{IsKept}
use Rattle.pesp_search.proofs.arcs.keep_row.Given as goal

abbrev pub invariant-loop-residue : goal.invariant-loop-residue
invariant-loop-residue l = record {
  same : ◌≡◌ {A = Arcs} l.network (record l.fn.network { rows = l.network.rows });
  rows : IsKept l.fn.network.rows l.network.rows l.row (l.index * l.fn.network.period) l.fn.network.period l.residue;
}
