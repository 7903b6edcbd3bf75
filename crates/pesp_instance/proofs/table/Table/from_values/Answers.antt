-- The map has as many entries as there are pairs where no number stands twice, and then the table is whole.
use Rattle.std.proofs.Common.{◌≡◌, ℕ, List, ◌++◌, ◌∷◌, [], length, map, refl, sym, ap, subst, ◌∙◌, arith}
use Rattle.std.proofs.IntoIterSteps.{All-taken}
use Rattle.std.proofs.lemmas.List.{length-map, nil_from_length, append_assoc, append-nil, map-append}
use Rattle.std.specs.BTreeMap.{IsFromIterResult}
use Rattle.std.specs.Map.{keys_of}
use Rattle.std.specs.Ordering.{nat_cmp}
use Rattle.pesp_instance.specs.Filled.{ArePut}
use Rattle.pesp_instance.specs.Table.{IsTable, values_in}
use Rattle.pesp_instance.proofs.Made.{length-ArePut, made_more, none_made, none_put, whole}
use Rattle.pesp_instance.proofs.Tables.{increasing}
use Rattle.pesp_instance.proofs.table.Table.from_values.Given as given
use Rattle.pesp_instance.proofs.table.Table.from_values.Goals as goal

pub loop-value-init : goal.loop-value-init
loop-value-init g c = rw c.in_ok-pairs.ensures.items (none_made g.V.Numbered.number c.in_ok-slots.slots c.in_ok-slots.ensures.empty, refl, c.into_iter-value-iterator.ensures.into_iter_gives.0)

pub loop-value-preserved : goal.loop-value-preserved
loop-value-preserved g c =
    let number = g.V.Numbered.number in
    let keys : keys_of c.push.new.self.items ≡ keys_of c.loop-value.pairs.items ++ number c.in-Some.value ∷ [] =
    rw (c.in_ok-push.ensures.items, c.number.ensures.value) (map-append (λ p. p.0) c.loop-value.pairs.items ((number c.in-Some.value, c.vacant_key.result) ∷ [])) in
    let values : map number (c.loop-value.yielded ++ c.in-Some.value ∷ []) ≡ map number c.loop-value.yielded ++ number c.in-Some.value ∷ [] = map-append number c.loop-value.yielded (c.in-Some.value ∷ []) in (
      made_more number c.loop-value.yielded c.loop-value.slots c.reserve.new.self c.insert_reserved.new.self c.loop-value.pairs.items c.push.new.self.items c.number.result c.vacant_key.result c.insert_reserved.result c.in-Some.value c.number.ensures.value c.in_ok-reserve.ensures.rest_kept c.vacant_key.ensures.value c.vacant_key.ensures.vacant c.insert_reserved.ensures.key c.insert_reserved.ensures.updates c.in_ok-push.ensures.items c.loop-value.invariant.0,
      keys ∙ ap (λ ns. ns ++ number c.in-Some.value ∷ []) c.loop-value.invariant.1 ∙ sym values,
      append_assoc c.loop-value.yielded (c.in-Some.value ∷ []) c.next.new.self.rest.items ∙ ap (λ xs. c.loop-value.yielded ++ xs) (sym c.in-Some.ensures.steps.0) ∙ c.loop-value.invariant.2,
    )

-- all values were gone through
through : {V : Type 0} (yielded rest values : List V) → length rest ≡ 0 → yielded ++ rest ≡ values → yielded ≡ values
through yielded rest values none all = sym (append-nil yielded) ∙ ap (λ xs. yielded ++ xs) (sym (nil_from_length rest none)) ∙ all

-- a pair stands for each value
even : {V : Type 0} (number : V → ℕ) (pairs : List (ℕ × ℕ)) (values : List V) → keys_of pairs ≡ map number values → length pairs ≡ length values
even number pairs values keys = sym (length-map pairs (λ p. p.0)) ∙ ap (λ l. length l) keys ∙ length-map values number

-- each number is there once
made : (g : given.Over) (c : goal.In_ok-make g) → IsTable g.V.Numbered.number c.loop-value.slots.slots c.in_ok-numbers.numbers.entries × ArePut g.V.Numbered.number [] c.args.values.items (values_in c.loop-value.slots.slots c.in_ok-numbers.numbers.entries)
made g c =
    let number = g.V.Numbered.number in
    let none = sym c.loop-value.value-iterator.rest.ok.0 ∙ c.in-None.ensures.steps.0 in
    let all = through c.loop-value.yielded c.loop-value.value-iterator.rest.items c.args.values.items none c.loop-value.invariant.2 in
    let h = c.in_ok-numbers.ensures.ran in
    let from = subst (λ l. IsFromIterResult nat_cmp l c.in_ok-numbers.numbers) (All-taken h.0 h.1 ((h.3.2 tt).0, (h.3.0, h.3.1, (h.3.2 tt).1)) ∙ h.2.0) h.4 in
    let count : length c.in_ok-numbers.numbers.entries ≡ length c.loop-value.pairs.items = omega (arith, c.len.ensures.len, c.if-len-count.false, c.len-count.ensures, c.args.values.ok.0, even number c.loop-value.pairs.items c.loop-value.yielded c.loop-value.invariant.1, ap (λ l. length l) all) in
    subst (λ l. IsTable number c.loop-value.slots.slots c.in_ok-numbers.numbers.entries × ArePut number [] l (values_in c.loop-value.slots.slots c.in_ok-numbers.numbers.entries)) all
    (whole number c.loop-value.yielded c.loop-value.slots c.loop-value.pairs.items c.in_ok-numbers.numbers c.loop-value.invariant.0 from count)

pub returns-then-len-count-clause-none : goal.returns-then-len-count-clause-none
returns-then-len-count-clause-none g c last put =
    let number = g.V.Numbered.number in
    let none = sym c.loop-value.value-iterator.rest.ok.0 ∙ c.in-None.ensures.steps.0 in
    let all = through c.loop-value.yielded c.loop-value.value-iterator.rest.items c.args.values.items none c.loop-value.invariant.2 in
    let h = c.in_ok-numbers.ensures.ran in
    let from = subst (λ l. IsFromIterResult nat_cmp l c.in_ok-numbers.numbers) (All-taken h.0 h.1 ((h.3.2 tt).0, (h.3.0, h.3.1, (h.3.2 tt).1)) ∙ h.2.0) h.4 in
    none_put number c.loop-value.yielded c.loop-value.pairs.items c.in_ok-numbers.numbers c.loop-value.invariant.1 from
    (λ same. absurd (omega (arith, c.len.ensures.len, c.if-len-count.true, c.len-count.ensures, c.args.values.ok.0, even number c.loop-value.pairs.items c.loop-value.yielded c.loop-value.invariant.1, ap (λ l. length l) all, same)))
    last (subst (λ l. ArePut number [] l last) (sym all) put)

pub invariant_of-result : goal.invariant_of-result
invariant_of-result g c = (made g c).0

pub returns-clause-put : goal.returns-clause-put
returns-clause-put g c = (made g c).1

pub returns-clause-rising : goal.returns-clause-rising
returns-clause-rising g c = increasing g.V.Numbered.number c.loop-value.slots.slots c.in_ok-numbers.numbers.entries (made g c).0

pub returns-clause-all : goal.returns-clause-all
returns-clause-all g c = omega (arith, length-ArePut g.V.Numbered.number [] c.args.values.items (values_in c.loop-value.slots.slots c.in_ok-numbers.numbers.entries) (made g c).1)
