-- A span that there is has its bounds.
use mir.Syntax.{w32}
use mir.Val.{of_z, to_z}
use Rattle.std.proofs.Common.{arith}
use Rattle.std.proofs.lemmas.Int.{ints}
use Rattle.pesp_search_network.proofs.Moved.{span_is}
use Rattle.pesp_search_network.proofs.presolve.moved.span_between.Goals as goal

pub returns-in-Ok : goal.returns-in-Ok
returns-in-Ok c =
    let told = span_is (to_z w32 (of_z w32 c.args.lower)) (to_z w32 (of_z w32 c.args.upper)) c.in-Ok.span c.in-Ok.ensures in
    (omega (arith, ints, told.0), omega (arith, ints, told.1))
