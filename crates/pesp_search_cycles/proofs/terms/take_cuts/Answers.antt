-- One cut more is no more.
use Rattle.std.proofs.Common.{◌≡◌, ◌<◌, length, get_or, FitsSigned, w64, sym, subst, ◌∙◌, arith, rules}
use Rattle.std.proofs.lemmas.Int.{ints}
use Rattle.std.proofs.lemmas.List.{get_or_read}
use Rattle.pesp_search_cycles.specs.declared.flip.FlipCut.{FlipCut}
use Rattle.pesp_search_cycles.specs.Terms.{IsKept}
use Rattle.pesp_search_cycles.proofs.Numbers.{back}
use Rattle.pesp_search_cycles.proofs.terms.take_cuts.Goals as goal

pub loop-index-preserved : goal.loop-index-preserved
loop-index-preserved c = record {
  long = c.take_cut.ensures.long ∙ c.loop-index.invariant.long;
  taken = λ zs long all.
      let k = c.loop-index.index in
      let cut = c.index-cuts-index.result in
      let here : k < length c.args.cuts.now = omega arith in
      let same : cut ≡ get_or c.args.cuts.now k cut = get_or_read c.args.cuts.now k cut here c.index-cuts-index.is cut in
      let fits : FitsSigned w64 c.in_ok-less.less = search rules in
      let kept : IsKept cut zs = subst (λ (f : FlipCut). IsKept f zs) (sym same) (all k cut here) in
      let less = c.in_ok-less.ensures.taken zs (long ∙ sym c.loop-index.invariant.long) kept in
      omega (arith, ints, less, c.loop-index.invariant.taken zs long all, back _ fits);
}
