-- An empty row at the end of either list.
use Rattle.std.proofs.Common.{◌≡◌, ◌++◌, ◌∷◌, [], ap, ◌∙◌, arith}
use Rattle.std.proofs.lemmas.List.{length_push}
use Rattle.pesp_counts_supports.proofs.Grown.{padded_empty}
use Rattle.pesp_counts_supports.proofs.growing.add_rows.Goals as goal

pub loop-alloc-preserved : goal.loop-alloc-preserved
loop-alloc-preserved c =
    let i = c.loop-alloc.invariant in
    let row = c.in_ok-row.row in
    let other = c.in_ok-other.other in
    let rows : c.push_reserved.new.self.items ≡ c.loop-alloc.rows.items ++ row ∷ [] = c.push_reserved.ensures.items ∙ ap (λ xs. xs ++ row ∷ []) c.reserve.ensures.items in
    let counted : c.push_reserved-in-loop-alloc.new.self.items ≡ c.loop-alloc.counted.items ++ other ∷ [] = c.push_reserved-in-loop-alloc.ensures.items ∙ ap (λ xs. xs ++ other ∷ []) c.reserve-in-loop-alloc.ensures.items in
    let many = length_push c.loop-alloc.rows.items row in
    let others = length_push c.loop-alloc.counted.items other in
    rw (rows, counted)
    (record {
      rows = padded_empty c.args.period c.args.rows.now.items c.loop-alloc.rows.items row i.rows c.in_ok-row.ensures;
      counted = padded_empty c.args.period c.args.counted.now.items c.loop-alloc.counted.items other i.counted c.in_ok-other.ensures;
      even = omega (arith, many, others, i.even);
      few = omega (arith, many, i.few, c.loop-alloc-test.true, c.len.ensures);
    })
