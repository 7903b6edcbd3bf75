-- Empty rows hold nothing more, and there is room for all that rows for so many places may hold.
use Rattle.std.proofs.Common.{◌*◌, length, vec_capacity, ap, arith}
use Rattle.pesp_counts_supports.specs.Supports.{Supports}
use Rattle.pesp_counts_supports.proofs.Grown.{room_for}
use Rattle.pesp_counts_supports.proofs.supports.Supports.make_rows.Goals as goal

pub invariant_of-self-2 : goal.invariant_of-self-2
invariant_of-self-2 c =
    let v = c.self.invariant in
    let a = c.add_rows.ensures in
    let room = c.in_ok-reserve.ensures.ok in
    let product = ap (λ n. c.args.places * n) c.get-period.ensures.value in
    record {
      period = v.period;
      rows = a.rows.long;
      counted = a.counted.long;
      even = a.even;
      few = omega (arith, a.few, v.few, c.if-places-gt-MOST_PLACES.false);
      room = omega (arith, v.room, a.rows.held, c.reserve.ensures.len, c.reserve.ensures.capacity);
      all_room = room_for (length c.add_rows.new.rows.items) (length c.self.inside.rows.items) c.args.places c.self.inside.period (vec_capacity c.reserve.new.self) a.few (omega (arith, v.all_room, c.reserve.ensures.capacity)) (omega (arith, room, product));
      sums = λ some. omega (arith, c.in_ok-resize.ensures.len, c.resize.new.self.ok.0);
      fits = v.fits;
    }

pub returns-clause-room : goal.returns-clause-room
returns-clause-room c before =
    let n = c.self.inside.period in
    let rows = length c.self.inside.rows.items in
    let area = ap (λ (s : Supports). length s.rows * s.period) c.self.view_is in
    let product = ap (λ m. c.args.places * m) c.get-period.ensures.value in
    let few = c.add_rows.ensures.few in
    record {
      back = room_for _ rows c.args.places n (vec_capacity c.reserve-2.new.self) few (omega (arith, area, before.back, c.reserve-2.ensures.capacity)) (omega (arith, product, c.in_ok-reserve-2.ensures.ok));
      restored = room_for _ rows c.args.places n (vec_capacity c.reserve-3.new.self) few (omega (arith, area, before.restored, c.reserve-3.ensures.capacity)) (omega (arith, product, c.in_ok-reserve-3.ensures.ok));
    }
