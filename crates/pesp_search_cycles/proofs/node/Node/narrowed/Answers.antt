-- The maps that are left are among those before.
use Rattle.pesp_search_least.specs.Sums.{IsWithin}
use Rattle.pesp_search_cycles.specs.Maps.{IsSummed}
use Rattle.pesp_search_cycles.proofs.Narrowed.{narrowed_fit, narrowed_inside}
use Rattle.pesp_search_cycles.proofs.node.Node.narrowed.Goals as goal

pub invariant_of-self : goal.invariant_of-self
invariant_of-self c =
    let s = c.args.self in
    let N = s.cycles.now in
    let fewer : IsWithin (IsSummed N c.narrow.new.self) (IsSummed N s.boxes) =
    λ xs cost k. record { costed = k.costed; inside = (narrowed_inside N s.boxes c.args.others.now c.narrow.new.self xs c.narrow.ensures k.inside).0 } in
    record {
      sound = s.sound;
      fit = narrowed_fit N s.boxes c.args.others.now c.narrow.new.self c.narrow.ensures s.fit;
      room = s.room;
      walks = s.walks;
      none = λ e map sum k. s.none e map sum (fewer map sum k);
      lower = λ x e map sum k. s.lower x e map sum (fewer map sum k);
    }
