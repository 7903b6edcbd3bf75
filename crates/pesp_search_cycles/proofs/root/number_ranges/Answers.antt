-- The ranges of the slacks, and then those of the residues.
use Rattle.std.proofs.Common.{◌≡◌, ◌++◌, List, length, ap, sym, ◌∙◌, arith}
use Rattle.std.proofs.lemmas.Grind.{common_steps}
use Rattle.std.proofs.lemmas.List.{length-append}
use Rattle.pesp_search_cycles.specs.declared.range.Range.{Range}
use Rattle.pesp_search_cycles.proofs.Numbered.{all_in, residues_in}
use Rattle.pesp_search_cycles.proofs.root.number_ranges.Goals as goal

pub returns-clause-long : goal.returns-clause-long
returns-clause-long c =
    let pushed : c.extend_from_slice.new.self.items ≡ c.in_ok-ranges.ranges.items ++ c.args.residues.now = grind (arith, common_steps, c.extend_from_slice.ensures, c.if-is_err.ensures.value) in
    ap (λ (l : List Range). length l) pushed ∙ omega (arith, length-append c.in_ok-ranges.ranges.items c.args.residues.now, c.in_ok-ranges.ensures.long, c.requires)

pub returns-clause-inside : goal.returns-clause-inside
returns-clause-inside c xs met inside =
    let pushed : c.extend_from_slice.new.self.items ≡ c.in_ok-ranges.ranges.items ++ c.args.residues.now = grind (arith, common_steps, c.extend_from_slice.ensures, c.if-is_err.ensures.value) in
    all_in c.args.network.now c.in_ok-ranges.ranges.items c.args.residues.now c.extend_from_slice.new.self.items pushed c.in_ok-ranges.ensures.long xs inside (c.in_ok-ranges.ensures.inside xs met inside)

pub returns-clause-within : goal.returns-clause-within
returns-clause-within c xs long inside =
    let pushed : c.extend_from_slice.new.self.items ≡ c.in_ok-ranges.ranges.items ++ c.args.residues.now = grind (arith, common_steps, c.extend_from_slice.ensures, c.if-is_err.ensures.value) in
    residues_in c.args.network.now c.in_ok-ranges.ranges.items c.args.residues.now c.extend_from_slice.new.self.items pushed c.in_ok-ranges.ensures.long xs (c.requires ∙ sym long) inside
