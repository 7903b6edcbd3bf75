-- A timetable that meets everything has a time for each event, and the nodes of earlier residues have one sum.
use Rattle.std.proofs.Common.{[], length, ap, ◌∙◌}
use Rattle.std.specs.Map.{values_of}
use Rattle.pesp_instance.specs.Network.{event_ids}
use Rattle.pesp_search.proofs.Placed.{place_exists, place_unique}
use Rattle.pesp_search.proofs.laws.one_place.Goals as goal
use Rattle.pesp_instance.proofs.Tables.{length-values-keys as length-values_of}

pub returns : goal.returns
returns c I m network member =
    let times = values_of m.entries in
    let place = place_exists I times (length-values_of m.entries ∙ ap length member.events) in
    (place.0, place.1, λ other also. place_unique I (length (event_ids I)) [] times other place.0 also place.1)
