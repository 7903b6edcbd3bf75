-- The nodes of the residues before each time, and one for the time itself, are among those below it.
use Rattle.std.proofs.Common.{[], length, ap, ◌∙◌}
use Rattle.std.specs.Map.{values_of}
use Rattle.pesp_instance.specs.Network.{event_ids}
use Rattle.pesp_tension.specs.Timetables.{Times}
use Rattle.pesp_search.proofs.Decided.{size_exists}
use Rattle.pesp_search.proofs.Members.{full_of_member}
use Rattle.pesp_search.proofs.Placed.{place_in_tree}
use Rattle.pesp_search.proofs.Timed.{values_of-zip}
use Rattle.pesp_search.proofs.laws.place_within_size.Goals as goal

pub returns : goal.returns
returns c I m place network member met =
    let w = full_of_member I m network member in
    let size = size_exists I (length (event_ids I)) [] in
    let values = ap (λ (n : Times). values_of n.entries) w.2 ∙ values_of-zip (event_ids I) w.0 w.1.events in
    (size.0, size.1, place_in_tree I w.0 size.0 place network w.1 size.1 (rw (← values) met))
