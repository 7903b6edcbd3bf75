-- What the walk is at least is added, and then its ends and its steps are taken.
use Rattle.std.proofs.Common.{◌≡◌, ◌+ℤ◌, ◌-ℤ◌, ◌*ℤ◌, ◌≤ℤ◌, List, FitsSigned, to_z, of_z, w64, ap, sym, ◌∙◌, arith, rules}
use Rattle.std.proofs.lemmas.Int.{ints}
use Rattle.pesp_search_graph.specs.declared.step.Step.{Step}
use Rattle.pesp_search_cycles.specs.Ranges.{least_product}
use Rattle.pesp_search_cycles.specs.Terms.{products, value}
use Rattle.pesp_search_cycles.specs.Walks.{Path, residue, times}
use Rattle.pesp_search_cycles.proofs.Numbers.{back}
use Rattle.pesp_search_cycles.proofs.Taken.{closed, opened}
use Rattle.pesp_search_cycles.proofs.terms.take_walk.Goals as goal

pub returns-clause-taken : goal.returns-clause-taken
returns-clause-taken c zs long inside =
    let m = c.args.multiple.multiplier in
    let arcs = c.args.arcs.now in
    let walk = c.args.walk.now in
    let product_fits : FitsSigned w64 c.in_ok-product.product = search rules in
    let more_fits : FitsSigned w64 c.in_ok-more.more = search rules in
    let less_fits : FitsSigned w64 c.in_ok-less.less = search rules in
    let m_fits : FitsSigned w64 m = search rules in
    let steps : c.deref.result.now ≡ walk.steps = c.deref.ensures.value ∙ ap (λ (p : Path). p.steps) c.walk.view_is in
    let m_is = back m m_fits in
    let ends : products c.take_ends.new.rates zs ≡ products c.args.rates.now zs -ℤ m *ℤ (residue arcs zs walk.from -ℤ residue arcs zs walk.to) =
    c.in_ok-take_ends.ensures.taken zs long ∙ ap (λ k. products c.args.rates.now zs -ℤ k *ℤ (residue arcs zs walk.from -ℤ residue arcs zs walk.to)) m_is in
    let first : value c.in_ok-more.more c.take_ends.new.rates zs ≤ℤ (value c.args.sum c.args.rates.now zs +ℤ m *ℤ times arcs zs walk.steps) =
    opened arcs zs c.args.rates.now c.take_ends.new.rates walk c.args.multiple.range m c.args.sum c.in_ok-more.more c.in_ok-product.product (omega (arith, ints, c.in_ok-more.ensures, product_fits, c.ranges.sum)) (c.in_ok-product.ensures ∙ ap (λ r. least_product r c.args.multiple.range) m_is) inside ends in
    let then : value c.in_ok-less.less c.take_steps.new.rates zs ≡ value c.in_ok-more.more c.take_ends.new.rates zs -ℤ m *ℤ times arcs zs walk.steps =
    c.in_ok-less.ensures.taken zs (long ∙ sym c.take_ends.ensures.long)
    ∙ ap (λ k. value k c.take_ends.new.rates zs -ℤ to_z w64 (of_z w64 m) *ℤ times arcs zs c.deref.result.now) (back _ more_fits)
    ∙ ap (λ k. value c.in_ok-more.more c.take_ends.new.rates zs -ℤ k *ℤ times arcs zs c.deref.result.now) m_is
    ∙ ap (λ (ss : List Step). value c.in_ok-more.more c.take_ends.new.rates zs -ℤ m *ℤ times arcs zs ss) steps in
    closed (value c.in_ok-more.more c.take_ends.new.rates zs) (value (to_z w64 (of_z w64 c.in_ok-less.less)) c.take_steps.new.rates zs) (value c.args.sum c.args.rates.now zs) (m *ℤ times arcs zs walk.steps) first
    (ap (λ k. value k c.take_steps.new.rates zs) (back _ less_fits) ∙ then)
