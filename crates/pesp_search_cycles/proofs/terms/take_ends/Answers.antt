-- One residue, and the other one against it.
use Rattle.std.proofs.Common.{◌≡◌, ◌+◌, ◌-ℤ◌, ◌*ℤ◌, length, FitsSigned, w64, pos, neg_ℤ, get_or, arith, rules, ap, ◌∙◌}
use Rattle.std.proofs.lemmas.Int.{ints}
use Rattle.pesp_search_cycles.specs.Terms.{products}
use Rattle.pesp_search_cycles.specs.Walks.{Path, residue}
use Rattle.pesp_search_cycles.proofs.Numbers.{back}
use Rattle.pesp_search_cycles.proofs.Taken.{ends_taken}
use Rattle.pesp_search_cycles.proofs.terms.take_ends.Goals as goal

pub returns-clause-taken : goal.returns-clause-taken
returns-clause-taken c zs long =
    let arcs = c.args.arcs.now in
    let walk = c.args.walk.now in
    let from : c.in_ok-from.from ≡ length arcs + walk.from = omega (arith, c.in_ok-from.ensures, ap (λ (p : Path). p.from) c.walk.view_is) in
    let to : c.in_ok-to.to ≡ length arcs + walk.to = omega (arith, c.in_ok-to.ensures, ap (λ (p : Path). p.to) c.walk.view_is) in
    let fits : FitsSigned w64 c.in_ok-back.back = search rules in
    let turned : c.in_ok-back.back ≡ neg_ℤ c.args.multiplier = omega (arith, ints, c.in_ok-back.ensures, c.ranges.multiplier, fits) in
    let m_is = back _ c.ranges.multiplier in
    let back_is = back _ fits in
    let first : products c.take_number.new.rates zs ≡ products c.args.rates.now zs -ℤ c.args.multiplier *ℤ residue arcs zs walk.from =
    c.in_ok-take_number.ensures.taken zs long ∙ ap (λ m. products c.args.rates.now zs -ℤ m *ℤ pos (get_or zs c.in_ok-from.from 0)) m_is ∙ ap (λ k. products c.args.rates.now zs -ℤ c.args.multiplier *ℤ pos (get_or zs k 0)) from in
    let second : products c.take_number-2.new.rates zs ≡ products c.take_number.new.rates zs -ℤ c.in_ok-back.back *ℤ residue arcs zs walk.to =
    c.in_ok-take_number-2.ensures.taken zs (omega (arith, long, c.take_number.ensures.long)) ∙ ap (λ m. products c.take_number.new.rates zs -ℤ m *ℤ pos (get_or zs c.in_ok-to.to 0)) back_is ∙ ap (λ k. products c.take_number.new.rates zs -ℤ c.in_ok-back.back *ℤ pos (get_or zs k 0)) to in
    ends_taken (products c.args.rates.now zs) (products c.take_number.new.rates zs) (products c.take_number-2.new.rates zs) c.args.multiplier c.in_ok-back.back (residue arcs zs walk.from) (residue arcs zs walk.to) turned first second
