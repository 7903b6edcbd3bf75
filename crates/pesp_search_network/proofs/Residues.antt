-- The residues of a map.
use Rattle.std.proofs.Common.{◌≡◌, ℕ, ◌<◌, List, slice_index, sym, arith}
use Rattle.std.proofs.lemmas.List.Elements.{All-get_or}
use Rattle.pesp_search_network.specs.Arcs.{Arcs, IsMet, KeepsRows}
use Rattle.pesp_search_network.specs.Only.{IsOnly}

-- the residues of a map that meets everything are in rows
pub keeps_rows : (N : Arcs) (map : List ℕ) → IsMet N map → KeepsRows N map
keeps_rows N map is = record {
  long = is.long;
  below = λ v h. All-get_or (λ r. r < N.period) map v 0 (omega (arith, h, is.long)) is.below;
  rows = is.rows;
}

-- the one residue of an event
pub only_is : (N : Arcs) (event r : ℕ) → event < N.events → IsOnly N event r → (map : List ℕ) → IsMet N map → r ≡ slice_index map event
only_is N event r h only map is =
    let p = keeps_rows N map is in
    sym (only.only (slice_index map event) (p.below event h) (p.rows event h))
