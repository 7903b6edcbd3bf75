-- One range was cut.
use Rattle.std.proofs.Common.{◌≡◌, ◌+◌, length, rules}
use Rattle.pesp_search_cycles.proofs.Split.{cut_less, fits, halves_at, put_less}
use Rattle.pesp_search_cycles.proofs.node.Node.halve.Goals as goal

pub returns-clause-halves : goal.returns-clause-halves
returns-clause-halves c =
    let s = c.args.self.now in
    halves_at s.cycles.now s.sound s.boxes c.args.choice.halves c.put.new.self c.in_ok-above.above c.args.choice.place s.fit c.requires.place c.requires.cut c.put.ensures c.in_ok-above.ensures

pub returns-clause-first : goal.returns-clause-first
returns-clause-first c =
    let s = c.args.self.now in
    put_less s.boxes c.args.choice.place c.args.choice.halves.below c.put.new.self c.requires.place (cut_less s.cycles.now s.boxes c.args.choice.place c.args.choice.halves c.requires.cut).0 c.put.ensures

pub returns-clause-second : goal.returns-clause-second
returns-clause-second c =
    let s = c.args.self.now in
    put_less s.boxes c.args.choice.place c.args.choice.halves.above c.in_ok-above.above c.requires.place (cut_less s.cycles.now s.boxes c.args.choice.place c.args.choice.halves c.requires.cut).1 c.in_ok-above.ensures

pub invariant_of-self : goal.invariant_of-self
invariant_of-self c =
    let s = c.args.self.now in
    let h = halves_at s.cycles.now s.sound s.boxes c.args.choice.halves c.put.new.self c.in_ok-above.above c.args.choice.place s.fit c.requires.place c.requires.cut c.put.ensures c.in_ok-above.ensures in record {
      sound = s.sound;
      fit = fits s.cycles.now s.sound s.boxes c.args.choice.halves c.put.new.self c.in_ok-above.above c.args.choice.place c.args.choice.halves.below c.put.new.self s.fit c.put.ensures;
      room = s.room;
      walks = s.walks;
      none = λ e map sum k. s.none e map sum (h.first_within map sum k);
      lower = λ x e map sum k. s.lower x e map sum (h.first_within map sum k);
    }

pub invariant_of-result : goal.invariant_of-result
invariant_of-result c =
    let s = c.args.self.now in
    let h = halves_at s.cycles.now s.sound s.boxes c.args.choice.halves c.put.new.self c.in_ok-above.above c.args.choice.place s.fit c.requires.place c.requires.cut c.put.ensures c.in_ok-above.ensures in record {
      sound = s.sound;
      fit = fits s.cycles.now s.sound s.boxes c.args.choice.halves c.put.new.self c.in_ok-above.above c.args.choice.place c.args.choice.halves.above c.in_ok-above.above s.fit c.in_ok-above.ensures;
      room = (let n : length c.in-Ok.rates.items ≡ length s.cycles.now.network.arcs + s.cycles.now.network.events = search rules in n);
      walks = (let n : length c.in-Ok-clone.multipliers.items ≡ length s.cycles.now.walks + length s.cycles.now.cuts = search rules in n);
      none = λ e map sum k. s.none e map sum (h.second_within map sum k);
      lower = λ x e map sum k. s.lower x e map sum (h.second_within map sum k);
    }
