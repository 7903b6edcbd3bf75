-- One term more.
use Rattle.std.proofs.Common.{◌≡◌, ◌++◌, ◌∷◌, [], ℤ, pos, ◌+ℤ◌, ◌*ℤ◌, get_or, FitsSigned, to_z, of_z, w64, ap, ◌∙◌, arith, rules}
use Rattle.std.proofs.lemmas.Grind.{common_steps}
use Rattle.pesp_search_cycles.specs.Terms.{left}
use Rattle.pesp_search_cycles.proofs.Flipped.{left_more}
use Rattle.pesp_search_cycles.proofs.Numbers.{back}
use Rattle.pesp_search_cycles.proofs.flip.Making.with.Goals as goal

pub returns : goal.returns
returns c =
    let base_fits : FitsSigned w64 c.args.base = search rules in
    let least_fits : FitsSigned w64 c.args.least = search rules in
    let rate_fits : FitsSigned w64 c.args.rate = search rules in
    let rate : ℤ = to_z w64 (of_z w64 c.args.rate) in
    let pushed : c.push.new.self.items ≡ c.args.self.terms.items ++ (record { number = c.args.number; rate = rate }) ∷ [] = grind (arith, common_steps, c.push.ensures.items, c.if-is_err.ensures.value) in (
      back _ base_fits,
      (
        back _ least_fits,
        λ zs. left_more c.args.self.terms.items c.push.new.self.items (record { number = c.args.number; rate = rate }) zs pushed ∙ ap (λ k. left c.args.self.terms.items zs +ℤ k *ℤ pos (get_or zs c.args.number 0)) (back _ rate_fits),
      ),
    )
