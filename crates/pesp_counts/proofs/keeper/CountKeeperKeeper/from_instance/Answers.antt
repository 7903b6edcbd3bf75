-- Every event and activity has its place, with nothing pushed.
use Rattle.std.proofs.Common.{◌≡◌, ℕ, ◌*◌, ◌∙◌, arith, ap, length, vec_capacity}
use Rattle.pesp_instance.proofs.Effects.{on_ok}
use Rattle.pesp_counts_supports.specs.Resting.{HaveRoom}
use Rattle.pesp_counts_supports.specs.Supports.{Supports}
use Rattle.pesp_counts.proofs.Applied.{keeping_none}
use Rattle.pesp_counts.proofs.Keeping.{room_same}
use Rattle.pesp_counts.proofs.keeper.CountKeeperKeeper.from_instance.Goals as goal

pub remake-requires : goal.remake-requires
remake-requires c = on_ok c.house.result c.if-is_err.ensures.value c.house.ensures.ok

pub invariant_of-result : goal.invariant_of-result
invariant_of-result c =
    let none : length c.new-2.result.rows * c.new-2.result.period ≡ 0 = ap (λ (s : Supports). length s.rows * s.period) c.new-2.ensures ∙ nothing c.period.result in
    let start : HaveRoom c.new-2.result (vec_capacity c.new-3.result) (vec_capacity c.new-4.result) = record { back = omega (arith, none); restored = omega (arith, none) } in
    let room = room_same c.house.new.counted.supports c.remake.new.supports (vec_capacity c.house.new.counted.back) (vec_capacity c.house.new.counted.restored) c.remake.ensures.shape (c.house.ensures.room start) in
    let many = on_ok c.house.result c.if-is_err.ensures.value c.house.ensures.many in
    keeping_none c.args.instance c.house.new.pushed.items c.house.new.counted.links c.remake.new.supports (vec_capacity c.house.new.pushed) (vec_capacity c.house.new.counted.back) (vec_capacity c.house.new.counted.restored) c.house.ensures.pushed c.remake.ensures.settled many room
  where
    nothing : (n : ℕ) → 0 * n ≡ 0
    nothing n = omega arith
