-- The row has one residue more, and so the list has room for it.
use Rattle.std.proofs.Common.{◌≡◌, ◌==◌, ◌||◌, ◌+◌, ◌*◌, ◌<◌, ℕ, false, true, All, length, slice_set, sym, ap, subst, ◌∙◌, refl, arith}
use Rattle.std.proofs.lemmas.List.{length-set}
use Rattle.std.proofs.lemmas.List.Elements.{All-get_or}
use Rattle.pesp_domains.specs.Domains.{holds}
use Rattle.pesp_counts_supports.specs.Blocks.{is_met_by, of_met}
use Rattle.pesp_counts_supports.specs.Counts.{has_at}
use Rattle.pesp_counts_supports.specs.Restored.{of_pair}
use Rattle.pesp_counts_supports.specs.Supports.{Supports, held, joined}
use Rattle.pesp_counts_supports.proofs.Brought.{brought_as, brought_one}
use Rattle.pesp_counts_supports.proofs.Grown.{held_le, long_set}
use Rattle.pesp_counts_supports.proofs.Meeting.{met_one}
use Rattle.pesp_counts_supports.proofs.Raised.{has_put, held_put}
use Rattle.pesp_counts_supports.proofs.supports.Supports.bring.Goals as goal
use Rattle.pesp_counts_supports.proofs.supports.Supports.bring.Goals.{After-put_in}

-- the row with the residue: the rows are as long, hold one pair more, and hold it
facts : (c : After-put_in) → let rows = c.self.inside.rows.items in let after = slice_set rows c.args.place c.put_in.new.self in
    All (λ row. length row ≡ c.self.inside.period) after × (has_at rows c.args.place c.args.residue ≡ false) × (held after ≡ held rows + 1) × ((p r : ℕ) → has_at after p r ≡ joined (has_at rows) c.args.place c.args.residue p r)
facts c =
    let v = c.self.invariant in
    let n = c.self.inside.period in
    let place = c.args.place in
    let rows = c.self.inside.rows.items in
    let row = c.put_in.new.self in
    let item = c.index_mut.result.now in
    let here = subst (λ (s : Supports). place < length s.rows) (sym c.self.view_is) c.requires.place in
    let long = ap length c.index_mut.ensures.value ∙ All-get_or (λ xs. length xs ≡ n) rows place item here v.rows in
    let below : c.args.residue < length item = omega (arith, long, ap (λ (s : Supports). s.period) c.self.view_is, c.requires.residue) in
    let absent = ap (λ (s : Supports). has_at s.rows place c.args.residue) c.self.view_is ∙ sym c.holds.ensures ∙ c.if-holds.false in
    let put : (r : ℕ) → holds row r ≡ (holds item r || r == c.args.residue) = c.put_in.ensures.holds in (
      long_set n place rows row item here v.rows c.index_mut.ensures.value c.put_in.ensures.long,
      absent,
      held_put rows place c.args.residue row item here c.index_mut.ensures.value put c.put_in.ensures.long below absent,
      has_put rows place c.args.residue row item here c.index_mut.ensures.value put,
    )

pub push_reserved-requires : goal.push_reserved-requires
push_reserved-requires c =
    let n = c.self.inside.period in
    let rows = c.self.inside.rows.items in
    let (long, absent, more, put) = facts (goal.at.push_reserved-requires c).After-put_in in
    let few = held_le n (slice_set rows c.args.place c.put_in.new.self) long in
    let area = ap (λ m. m * n) (length-set rows c.args.place c.put_in.new.self) in
    omega (arith, more, few, area, ap (λ (s : Supports). length s.rows * s.period) c.self.view_is, ap (λ (s : Supports). held s.rows) c.self.view_is, c.requires.room)

pub invariant_of-self : goal.invariant_of-self
invariant_of-self c =
    let v = c.self.invariant in
    let n = c.self.inside.period in
    let rows = c.self.inside.rows.items in
    let many = length-set rows c.args.place c.put_in.new.self in
    let (long, absent, more, put) = facts (goal.at.invariant_of-self c).After-put_in in
    let few = held_le n (slice_set rows c.args.place c.put_in.new.self) long in
    let area = ap (λ m. m * n) many in
    let none = ap length (ap (λ (s : Supports). s.trail) c.self.view_is ∙ c.requires.trail) in
    record {
      period = v.period;
      rows = long;
      counted = v.counted;
      even = v.even ∙ sym many;
      few = rw many v.few;
      room = omega (arith, few, area, none, v.all_room);
      all_room = omega (arith, area, v.all_room);
      sums = rw many v.sums;
      fits = v.fits;
    }

pub returns-then-is_met-clause-brought : goal.returns-then-is_met-clause-brought
returns-then-is_met-clause-brought c =
    let rows = c.self.inside.rows.items in
    let place = c.args.place in
    let q = c.args.residue in
    let (long, absent, more, put) = facts (goal.at.returns-then-is_met-clause-brought c).After-put_in in
    let sums = c.self.inside.sums.items in
    let meets : is_met_by sums c.args.met q ≡ true =
    ap (λ xs. is_met_by xs c.args.met q) (sym c.deref.ensures.value) ∙ sym c.is_met.ensures ∙ c.if-is_met.true
    in
    rw (← c.self.view_is)
    (brought_as (of_pair place q) (of_met sums c.args.met (of_pair place q)) _ _ c.args.back.now c.push_reserved.new.self (met_one sums c.args.met place q meets)
    (brought_one _ _ c.args.back.now c.push_reserved.new.self place q absent c.push_reserved.ensures.items c.push_reserved.ensures.capacity put
    (record { period = refl; counts = refl; counted = refl; many = length-set rows place c.put_in.new.self; room = refl; sums = refl }) refl more))
