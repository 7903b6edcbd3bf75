-- An instance without activities has none in its list, and with them it is the one that has all put in.
use Rattle.std.proofs.Common.{◌≡◌, ◌≤◌, length, arith}
use Rattle.std.proofs.lemmas.List.{nil_from_length}
use Rattle.pesp_base.specs.Limits.{max_activities}
use Rattle.pesp_instance.proofs.Given.{few_given, filled_by}
use Rattle.pesp_instance.proofs.instance.Instance.with_activities.Goals as goal

pub with_table-requires-clause-none : goal.with_table-requires-clause-none
with_table-requires-clause-none c =
    let none : length c.self.inside.activities.values ≡ 0 = omega (arith, c.len.ensures, c.if-len-ne0.false) in
    rw (← c.self.view_is) (nil_from_length c.self.inside.activities.values none)

pub returns-then-len-max_activities-clause-filled : goal.returns-then-len-max_activities-clause-filled
returns-then-len-max_activities-clause-filled c K filled =
    let few = few_given c.args.self K c.args.activities.items filled in
    let inside : length c.args.activities.items ≤ max_activities c.self.inside.period = rw (← c.self.view_is) at few in
    absurd (omega (arith, inside, c.max_activities.ensures.value, c.if-len-max_activities.true, c.len-2.ensures, c.args.activities.ok.0))

pub returns-in-Some-clause-filled : goal.returns-in-Some-clause-filled
returns-in-Some-clause-filled c =
    let none : length c.self.inside.activities.values ≡ 0 = omega (arith, c.len.ensures, c.if-len-ne0.false) in
    let put = rw c.in-Some.is at c.in_ok-activities.ensures.put in
    filled_by c.args.self c.args.activities.items c.in-Some.activities.values c.with_table.result (rw (← c.self.view_is) (nil_from_length c.self.inside.activities.values none)) put
    c.with_table.ensures.none c.with_table.ensures.value c.with_table.ensures.network
