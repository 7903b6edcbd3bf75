-- Rows that are opened hold no more than there is room for.
use Rattle.std.proofs.Common.{◌<◌, ◌*◌, length, slice_set, subst, sym, ap, ◌∙◌, arith}
use Rattle.std.proofs.lemmas.Grind.{common_steps}
use Rattle.std.proofs.lemmas.List.{length-set}
use Rattle.pesp_counts_supports.specs.Supports.{Supports}
use Rattle.pesp_counts_supports.proofs.Grown.{held_le, long_set}
use Rattle.pesp_counts_supports.proofs.supports.Supports.open.Goals as goal

pub invariant_of-self : goal.invariant_of-self
invariant_of-self c =
    let v = c.self.invariant in
    let period = c.self.inside.period in
    let rows = c.self.inside.rows.items in
    let counted = c.self.inside.counted.items in
    let here = subst (λ (s : Supports). c.args.place < length s.rows) (sym c.self.view_is) c.requires.rows in
    let there = subst (λ (s : Supports). c.args.place < length s.counted) (sym c.self.view_is) c.requires.counted in
    let none = ap (λ (s : Supports). length s.trail) c.self.view_is ∙ ap length c.requires.trail in
    let long = long_set period c.args.place rows c.fill.new.self c.index_mut.result.now here v.rows c.index_mut.ensures.value c.fill.ensures.long in
    let few = held_le period (slice_set rows c.args.place c.fill.new.self) long in
    let many = length-set rows c.args.place c.fill.new.self in
    let area = ap (λ n. n * period) many in
    record {
      period = v.period;
      rows = long;
      counted = long_set period c.args.place counted c.fill-2.new.self c.index_mut-2.result.now there v.counted c.index_mut-2.ensures.value c.fill-2.ensures.long;
      even = length-set counted c.args.place c.fill-2.new.self ∙ v.even ∙ sym many;
      few = rw many v.few;
      room = omega (arith, few, area, v.all_room, none);
      all_room = omega (arith, area, v.all_room);
      sums = rw many v.sums;
      fits = v.fits;
    }

-- by search, and named so that a wrong body is refused here at once
pub returns-clause-counted : goal.returns-clause-counted
returns-clause-counted c = grind (arith, common_steps)
