-- One walk more is no more.
use Rattle.std.proofs.Common.{◌≡◌, ◌<◌, length, get_or, FitsSigned, w64, sym, subst, ◌∙◌, arith, rules}
use Rattle.std.proofs.lemmas.Int.{ints}
use Rattle.std.proofs.lemmas.List.{get_or_read}
use Rattle.pesp_search_cycles.specs.Ranges.{IsIn, no_range}
use Rattle.pesp_search_cycles.specs.Walks.{Path, no_path, round}
use Rattle.pesp_search_cycles.proofs.Numbers.{back}
use Rattle.pesp_search_cycles.proofs.Taken.{RoundsAreIn-at}
use Rattle.pesp_search_cycles.proofs.terms.take_walks.Goals as goal

pub loop-index-preserved : goal.loop-index-preserved
loop-index-preserved c = record {
  long = c.take_walk.ensures.long ∙ c.loop-index.invariant.long;
  taken = λ zs long inside.
      let k = c.loop-index.index in
      let here : k < length c.args.walks.now = omega arith in
      let same : c.index-walks-index.result ≡ get_or c.args.walks.now k no_path = get_or_read c.args.walks.now k c.index-walks-index.result here c.index-walks-index.is no_path in
      let fits : FitsSigned w64 c.in_ok-less.less = search rules in
      let inside_here : IsIn (get_or c.args.ranges.now k no_range) (round c.args.arcs.now zs c.index-walks-index.result) =
      subst (λ (p : Path). IsIn (get_or c.args.ranges.now k no_range) (round c.args.arcs.now zs p)) (sym same) (RoundsAreIn-at c.args.ranges.now c.args.arcs.now zs c.args.walks.now k inside here) in
      let less = c.in_ok-less.ensures.taken zs (long ∙ sym c.loop-index.invariant.long) inside_here in
      omega (arith, ints, less, c.loop-index.invariant.taken zs long inside, back _ fits);
}
