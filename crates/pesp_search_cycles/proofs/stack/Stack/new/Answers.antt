-- The one node has all maps.
use Rattle.std.proofs.Common.{◌≡◌, ◌∷◌, [], sym, subst, rules}
use Rattle.pesp_search_least.specs.Sums.{IsWithin}
use Rattle.pesp_search_cycles.specs.declared.boxes.Boxes.{Boxes}
use Rattle.pesp_search_cycles.specs.Maps.{IsAmong, IsSummed, Net}
use Rattle.pesp_search_cycles.specs.Waiting.{IsWaiting}
use Rattle.pesp_search_cycles.proofs.Stood.{begun_underway, begun_waiting}
use Rattle.pesp_search_cycles.proofs.stack.Stack.new.Goals as goal

pub returns-clause-stack : goal.returns-clause-stack
returns-clause-stack c =
    let N = c.args.cycles.now in
    let R = c.args.residues.now in
    let one = c.asleep.result in
    let p = c.args.progress in
    let alone : c.push.new.self.items ≡ one ∷ [] = search rules in
    let there : IsWithin (IsAmong N.network R) (IsSummed N one.boxes) =
    subst (λ (B : Boxes). IsWithin (IsAmong N.network R) (IsSummed N B)) (sym c.asleep.ensures.boxes) c.in_ok-root.ensures.all in
    let waits : IsWaiting N one = subst (λ (M : Net). IsWaiting M one) c.in_ok-root.ensures.cycles c.asleep.ensures.waiting in
    record {
      nodes = begun_waiting N R c.requires.all one c.push.new.self.items alone p.limits.cap p.best waits;
      underway = begun_underway N R c.requires.all one c.push.new.self.items alone p.limits.cap p.best there c.requires.progress.found;
      floor = c.requires.progress.floor;
    }
