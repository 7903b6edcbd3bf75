-- The row loses a residue where the trail gains a pair.
use Rattle.std.proofs.Common.{◌≡◌, ◌==◌, ◌&&◌, not, Bool, List, [], length, refl, sym, ap, subst, ◌∙◌, arith}
use Rattle.std.proofs.lemmas.List.{get_or_default, length-set, length_push}
use Rattle.std.proofs.lemmas.List.Elements.{All-get_or, All-set}
use Rattle.pesp_domains.specs.Domains.{holds}
use Rattle.pesp_domains.specs.Sweeps.{Of}
use Rattle.pesp_counts_supports.specs.Counts.{has_at}
use Rattle.pesp_counts_supports.specs.Supports.{Supports}
use Rattle.pesp_counts_supports.proofs.Rows.{held_set, rows_without, within_rows}
use Rattle.pesp_counts_supports.proofs.Taken.{taken_one}
use Rattle.pesp_counts_supports.proofs.supports.Supports.take_out.Goals as goal

pub push_reserved-requires : goal.push_reserved-requires
push_reserved-requires c =
    let rows = c.self.inside.rows.items in
    let here = subst (λ (s : Supports). Of (has_at s.rows) c.args.place c.args.residue) (sym c.self.view_is) c.requires in
    let same = c.index_mut.ensures.value ∙ get_or_default rows c.args.place c.index_mut.result.now [] (within_rows rows c.args.place c.args.residue here) in
    let fewer = held_set rows c.args.place c.args.residue c.take_out.new.self here (c.take_out.ensures.long ∙ ap length same) (λ r. c.take_out.ensures.holds r ∙ ap (λ row. holds row r && not (r == c.args.residue)) same) in
    omega (arith, fewer, c.self.invariant.room)

pub invariant_of-self : goal.invariant_of-self
invariant_of-self c =
    let rows = c.self.inside.rows.items in
    let here = subst (λ (s : Supports). Of (has_at s.rows) c.args.place c.args.residue) (sym c.self.view_is) c.requires in
    let within = within_rows rows c.args.place c.args.residue here in
    let same = c.index_mut.ensures.value ∙ get_or_default rows c.args.place c.index_mut.result.now [] within in
    let fewer = held_set rows c.args.place c.args.residue c.take_out.new.self here (c.take_out.ensures.long ∙ ap length same) (λ r. c.take_out.ensures.holds r ∙ ap (λ row. holds row r && not (r == c.args.residue)) same) in
    let P : List Bool → Type 0 = λ row. length row ≡ c.self.inside.period in
    let long = c.take_out.ensures.long ∙ ap length same ∙ All-get_or P rows c.args.place [] within c.self.invariant.rows in
    let more = ap length c.push_reserved.ensures.items ∙ length_push c.self.inside.trail.items (record { place = c.args.place; residue = c.args.residue }) in
    record {
      period = c.self.invariant.period;
      rows = All-set P rows c.args.place c.take_out.new.self long c.self.invariant.rows;
      counted = c.self.invariant.counted;
      even = rw (length-set rows c.args.place c.take_out.new.self) c.self.invariant.even;
      few = rw (length-set rows c.args.place c.take_out.new.self) c.self.invariant.few;
      room = omega (arith, fewer, more, c.push_reserved.ensures.capacity, c.self.invariant.room);
      all_room = rw (length-set rows c.args.place c.take_out.new.self, c.push_reserved.ensures.capacity) c.self.invariant.all_room;
      sums = rw (length-set rows c.args.place c.take_out.new.self) c.self.invariant.sums;
      fits = c.self.invariant.fits;
    }

pub returns-clause-takes : goal.returns-clause-takes
returns-clause-takes c =
    let rows = c.self.inside.rows.items in
    let here = subst (λ (s : Supports). Of (has_at s.rows) c.args.place c.args.residue) (sym c.self.view_is) c.requires in
    let same = c.index_mut.ensures.value ∙ get_or_default rows c.args.place c.index_mut.result.now [] (within_rows rows c.args.place c.args.residue here) in
    let without = rows_without rows c.args.place c.args.residue c.take_out.new.self here (c.take_out.ensures.long ∙ ap length same) (λ r. c.take_out.ensures.holds r ∙ ap (λ row. holds row r && not (r == c.args.residue)) same) in
    rw (← c.self.view_is)
    (record {
      taken = taken_one _ _ c.args.place c.args.residue here c.push_reserved.ensures.items without;
      keeps = record { period = refl; counts = refl; counted = refl; many = length-set rows c.args.place c.take_out.new.self; room = c.push_reserved.ensures.capacity; sums = refl };
      probes = refl;
    })
