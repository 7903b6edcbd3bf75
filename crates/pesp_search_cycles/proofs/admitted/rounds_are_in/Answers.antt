-- One walk more.
use Rattle.std.proofs.Common.{◌≡◌, get_or, to_z, of_z, w64, FitsSigned, inl, inr, sym, ap, subst, ◌∙◌, rules, arith}
use Rattle.std.proofs.lemmas.Bool.{cases_eq}
use Rattle.std.proofs.lemmas.List.{get_or_read}
use Rattle.pesp_search_cycles.specs.Ranges.{IsIn, no_range}
use Rattle.pesp_search_cycles.specs.Walks.{Path, no_path, round}
use Rattle.pesp_search_cycles.proofs.Numbers.{back}
use Rattle.pesp_search_cycles.proofs.admitted.rounds_are_in.Goals as goal

pub loop-index-preserved : goal.loop-index-preserved
loop-index-preserved c k h =
    let i = c.loop-index.index in
    let arcs = c.args.arcs.now in
    let zs = c.args.numbers.now in
    let fits : FitsSigned w64 c.in_ok-time.time = search rules in
    let same : c.index-walks-index.result ≡ get_or c.args.walks.now i no_path = get_or_read c.args.walks.now i c.index-walks-index.result (omega arith) c.index-walks-index.is no_path in
    let time : to_z w64 (of_z w64 c.in_ok-time.time) ≡ round arcs zs (get_or c.args.walks.now i no_path) =
    back _ fits ∙ c.in_ok-time.ensures ∙ ap (λ (p : Path). round arcs zs p) same in
    elim (cases_eq k i) [
      | inl e ↦
          subst (λ j. IsIn (get_or c.args.ranges.now j no_range) (round arcs zs (get_or c.args.walks.now j no_path))) (sym e)
          (subst (λ z. IsIn (get_or c.args.ranges.now i no_range) z) time c.if-not-has.ensures)
      | inr e ↦ c.loop-index.invariant k (omega (arith, h, e))
    ]
