-- A new value in a slot of its own is put in at its number; a number that has a value keeps its slot.
use Rattle.std.proofs.Common.{◌≡◌, true, None, is_some, refl, sym, ap, ◌∙◌}
use Rattle.std.proofs.lemmas.Bool.{false≢true, true≢false}
use Rattle.std.specs.BTreeMap.{insert_entry, is_at}
use Rattle.std.specs.Map.{lookup}
use Rattle.std.specs.Ordering.{nat_cmp}
use Rattle.pesp_base.specs.Numbered.{with_number}
use Rattle.pesp_instance.specs.Table.{values_in}
use Rattle.pesp_instance.proofs.Effects.{is_none-from}
use Rattle.pesp_instance.proofs.Tables.{inserted_in, missing, same_presence, written_back}
use Rattle.pesp_instance.proofs.table.Table.insert.Goals as goal

pub invariant_of-self-in_default : goal.invariant_of-self-in_default
invariant_of-self-in_default g c =
    let none : with_number g.V.Numbered.number (g.V.Numbered.number c.args.value) (values_in c.self.inside.slots.slots c.self.inside.numbers.entries) ≡ None = rw c.number-number.ensures.value at (missing g.V.Numbered.number _ _ c.self.invariant c.number-number.result (sym c.in_ok-slot.ensures.old ∙ c.in_default.is)) in
    (inserted_in g.V.Numbered.number c.self.inside.slots _ _ _ _ _ _ _ _ c.number-number.ensures.value c.in_ok-reserve.ensures.rest_kept c.vacant_key.ensures.value c.vacant_key.ensures.vacant c.insert_reserved-slot.ensures.key c.insert_reserved-slot.ensures.updates c.in_ok-slot.ensures.entries c.in_ok-slot.ensures.ordered c.self.invariant none).1

pub returns-in_default-clause-added : goal.returns-in_default-clause-added
returns-in_default-clause-added g c =
    let none : with_number g.V.Numbered.number (g.V.Numbered.number c.args.value) (values_in c.self.inside.slots.slots c.self.inside.numbers.entries) ≡ None = rw c.number-number.ensures.value at (missing g.V.Numbered.number _ _ c.self.invariant c.number-number.result (sym c.in_ok-slot.ensures.old ∙ c.in_default.is)) in
    rw (← c.self.view_is, none) refl

pub returns-in_default-clause-put : goal.returns-in_default-clause-put
returns-in_default-clause-put g c is =
    let none : with_number g.V.Numbered.number (g.V.Numbered.number c.args.value) (values_in c.self.inside.slots.slots c.self.inside.numbers.entries) ≡ None = rw c.number-number.ensures.value at (missing g.V.Numbered.number _ _ c.self.invariant c.number-number.result (sym c.in_ok-slot.ensures.old ∙ c.in_default.is)) in
    rw (← c.self.view_is)
    (inserted_in g.V.Numbered.number c.self.inside.slots _ _ _ _ _ _ _ _ c.number-number.ensures.value c.in_ok-reserve.ensures.rest_kept c.vacant_key.ensures.value c.vacant_key.ensures.vacant c.insert_reserved-slot.ensures.key c.insert_reserved-slot.ensures.updates c.in_ok-slot.ensures.entries c.in_ok-slot.ensures.ordered c.self.invariant none).0

pub invariant_of-self-2 : goal.invariant_of-self-2
invariant_of-self-2 g c =
    let back : c.insert-2.new.self.entries ≡ c.self.inside.numbers.entries = c.in_ok-insert.ensures.entries ∙ ap (λ es. insert_entry nat_cmp es c.number-number.result c.in-Some.slot) c.in_ok-slot.ensures.entries ∙ written_back c.number-number.result c.in-Some.slot c.vacant_key.result c.self.inside.numbers.entries c.self.invariant.rises (sym c.in_ok-slot.ensures.old ∙ c.in-Some.is) in
    rw (back, c.in_ok-reserve.ensures.rest_kept) c.self.invariant

pub returns-clause-added : goal.returns-clause-added
returns-clause-added g c =
    let there : is_some (lookup (is_at (nat_cmp c.number-number.result)) c.self.inside.numbers.entries) ≡ true = ap is_some (sym c.in_ok-slot.ensures.old ∙ c.in-Some.is) in
    let some = rw c.number-number.ensures.value at (sym (same_presence g.V.Numbered.number _ _ c.self.invariant c.number-number.result) ∙ there) in
    rw (← c.self.view_is) (sym (is_none-from _ true some))

pub returns-clause-known : goal.returns-clause-known
returns-clause-known g c is =
    let back : c.insert-2.new.self.entries ≡ c.self.inside.numbers.entries = c.in_ok-insert.ensures.entries ∙ ap (λ es. insert_entry nat_cmp es c.number-number.result c.in-Some.slot) c.in_ok-slot.ensures.entries ∙ written_back c.number-number.result c.in-Some.slot c.vacant_key.result c.self.inside.numbers.entries c.self.invariant.rises (sym c.in_ok-slot.ensures.old ∙ c.in-Some.is) in
    rw (← c.self.view_is, back, c.in_ok-reserve.ensures.rest_kept) refl

-- The rest is found by search too, and named so that it is found at once.
pub insert_reserved-slot-requires : goal.insert_reserved-slot-requires
insert_reserved-slot-requires g c = c.in_ok-reserve.ensures.room

pub returns-in_default-clause-known : goal.returns-in_default-clause-known
returns-in_default-clause-known g c is = absurd (true≢false is)

pub returns-clause-put : goal.returns-clause-put
returns-clause-put g c is = absurd (false≢true is)
