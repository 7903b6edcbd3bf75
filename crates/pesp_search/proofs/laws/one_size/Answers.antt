-- Whether a path is dead is decided, so there is a size; and a size below each residue is at most one.
use Rattle.std.proofs.Common.{[], length}
use Rattle.pesp_instance.specs.Network.{event_ids}
use Rattle.pesp_search.proofs.Decided.{size_exists}
use Rattle.pesp_search.proofs.Sizes.{size_unique}
use Rattle.pesp_search.proofs.laws.one_size.Goals as goal

pub returns : goal.returns
returns c I network =
    let size = size_exists I (length (event_ids I)) [] in
    (size.0, size.1, λ other also. size_unique I (length (event_ids I)) [] other size.0 also size.1)
