-- All is as it was but the weights.
use Rattle.std.proofs.Common.{◌≡◌, ℕ, ◌==◌, Bool, length, ap, ◌∙◌, arith, rules}
use Rattle.std.proofs.lemmas.List.Elements.{All-same}
use Rattle.pesp_search_network.specs.Arcs.{IsBetween}
use Rattle.pesp_search_network.specs.Weights.{weighed}
use Rattle.pesp_search_network.proofs.Weights.{between_weighed, length-weighed}
use Rattle.pesp_search_network.proofs.network.Network.of_part.Goals as goal

pub invariant_of-result : goal.invariant_of-result
invariant_of-result c =
    let inside = c.self.inside in
    let f : ℕ → Bool = λ p. p == c.args.part in
    let told : c.in_ok-arcs.arcs.items ≡ weighed f c.args.parts.now inside.arcs.items = (search (rules, c.in_ok-arcs.ensures, c.deref.ensures)) in
    let are = c.self.invariant in
    record {
      some = are.some;
      short = are.short;
      few = are.few;
      ends = All-same (IsBetween inside.events) c.in_ok-arcs.arcs.items (weighed f c.args.parts.now inside.arcs.items) told (between_weighed inside.events f c.args.parts.now inside.arcs.items are.ends);
      count = omega (arith, ap length told, length-weighed f c.args.parts.now inside.arcs.items, are.count);
      rows = (search rules) ∙ are.rows;
    }
