-- All that hangs on no weight holds of both.
use Rattle.std.proofs.Common.{ap, sym, rules}
use Rattle.pesp_search_network.specs.Arcs.{Arcs}
use Rattle.pesp_search_cycles.specs.Maps.{Net}
use Rattle.pesp_search_cycles.proofs.Alike.{IsAlike, cycles_along}
use Rattle.pesp_search_cycles.proofs.cycles.Cycles.over.Goals as goal

pub invariant_of-result : goal.invariant_of-result
invariant_of-result c =
    let A = c.args.self.now.network in
    let B = c.args.network.now in
    let alike : IsAlike A B = record {
      period = sym (ap (λ (N : Arcs). N.period) c.requires.same);
      events = sym (ap (λ (N : Arcs). N.events) c.requires.same);
      rows = sym (ap (λ (N : Arcs). N.rows) c.requires.same);
      arcs = sym c.requires.alike;
    } in
    let before : Net = c.args.self.now in
    cycles_along before (record { network = B; walks = c.in_ok-walks.walks.items; cuts = c.self.inside.cuts.now }) alike c.sound.ensures (search rules) (search rules) (search rules)
