-- What was read into the room stands after what was held.
use Rattle.std.proofs.Common.{◌≡◌, ℕ, ◌+◌, ◌-◌, ◌≤◌, List, ◌++◌, length, take, slice_range, sym, ap, ◌∙◌, rules, length-take-le, arith}
use Rattle.std.proofs.lemmas.Grind.{common_steps}
use Rattle.std.proofs.Math.Seq.{take-append-add}
use Rattle.std.proofs.lemmas.List.{take-append-le, with_items_is}
use Rattle.std.proofs.lemmas.Slice.{between_from_start}
use Rattle.std.specs.Vec.{with_items}
use borrow.Rule.Slice.PartMut.{post_of}
use Rattle.pesp_shell_io.proofs.line_reader.LineReader.fill.Goals as goal

filled : (front room rest held : List ℕ) (n count : ℕ) → length front ≡ n → front ≡ held → count ≤ length room
    → slice_range (front ++ (room ++ rest)) 0 (n + count) ≡ held ++ take count room
filled front room rest held n count long same fits =
    between_from_start (front ++ (room ++ rest)) (n + count)
    ∙ ap (λ k. take (k + count) (front ++ (room ++ rest))) (sym long)
    ∙ take-append-add front (room ++ rest) count
    ∙ ap (λ l. front ++ l) (take-append-le count room rest fits)
    ∙ ap (λ l. l ++ take count room) same

pub returns-clause-taken : goal.returns-clause-taken
returns-clause-taken g c =
    let old = c.self.inside in
    let n = c.pack-self-inside.result in
    let moved = c.pack-self-inside.new.buffer in
    let packed = c.deref_mut-2.result.now in
    let count = c.in_ok-count.count in
    let rest = post_of n (length packed - n) packed in
    let is_moved : packed ≡ moved = c.deref_mut-2.ensures.value ∙ with_items_is old.buffer moved (search rules) in
    let same : take n packed ≡ c.args.self.now =
    ap (take n) is_moved ∙ c.pack-self-inside.ensures.front ∙ ap (λ l. slice_range l old.start old.end) c.deref_mut.ensures.value ∙ c.self.view_is in
    let within : n ≤ length packed = search rules in
    let long : length (take n packed ++ (c.take.new.room ++ rest)) ≡ (with_items old.buffer moved).len = search rules in (
      take count c.take.new.room,
      c.in_ok-count.ensures.bytes.0,
      ap (λ l. slice_range l 0 (n + count)) (with_items_is (with_items old.buffer moved) _ long)
          ∙ filled (take n packed) c.take.new.room rest c.args.self.now n count (length-take-le n packed within) same c.in_ok-count.ensures.count.0,
    )

-- by search, and named so that a wrong body is refused here at once
pub returns-clause-none : goal.returns-clause-none
returns-clause-none g c = grind (arith, common_steps)

pub returns-clause-mark : goal.returns-clause-mark
returns-clause-mark g c = search rules

-- by search too, and named so that they are found at once
pub returns-clause-some : goal.returns-clause-some
returns-clause-some g c = grind (arith, common_steps)

pub returns-in_err-count-clause-taken : goal.returns-in_err-count-clause-taken
returns-in_err-count-clause-taken g c = grind (arith, common_steps)
