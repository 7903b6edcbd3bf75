-- A walk takes a whole number of periods.
use Rattle.std.proofs.Common.{◌≡◌, ◌<◌, ◌≤◌, List, length, get_or, sym, ap, subst, ◌∙◌, arith}
use Rattle.std.proofs.lemmas.List.{get_or_read}
use Rattle.pesp_search_graph.specs.declared.arc.Arc.{Arc}
use Rattle.pesp_search_network.specs.Arcs.{Arcs}
use Rattle.pesp_search_cycles.specs.Maps.{numbers_of}
use Rattle.pesp_search_cycles.specs.Ranges.{IsIn, IsMultiple, width}
use Rattle.pesp_search_cycles.specs.Walks.{Path, no_path, round, widths}
use Rattle.pesp_search_cycles.proofs.Rounds.{round_whole}
use Rattle.pesp_search_cycles.proofs.root.round_range.Goals as goal

pub returns-clause-inside : goal.returns-clause-inside
returns-clause-inside c xs inside =
    let A = c.args.cycles.now.network in
    let k = c.args.index in
    let p = get_or c.args.cycles.now.walks k no_path in
    let zs = numbers_of A xs in
    let within : k < length c.walks.result.now = subst (λ (ps : List Path). k < length ps) (sym c.walks.ensures.value) c.requires in
    let same : c.index-walks-index.result ≡ p =
    get_or_read c.walks.result.now k c.index-walks-index.result within c.index-walks-index.is no_path
    ∙ ap (λ (ps : List Path). get_or ps k no_path) c.walks.ensures.value in
    let arcs_are : c.arcs.result.now ≡ A.arcs = c.arcs.ensures.value ∙ ap (λ (n : Arcs). n.arcs) c.network.ensures in
    let time : IsIn c.in_ok-times.times (round A.arcs zs p) =
    subst (λ (q : Path). IsIn c.in_ok-times.times (round A.arcs zs q)) same
    (subst (λ (arcs : List Arc). IsIn c.in_ok-times.times (round arcs zs c.index-walks-index.result)) arcs_are (c.in_ok-times.ensures.inside zs inside)) in
    let period : c.get.result ≡ A.period = c.get.ensures.value ∙ c.period.ensures in
    c.in_ok-range.ensures.inside (round A.arcs zs p)
    (subst (λ T. IsMultiple T (round A.arcs zs p)) (sym period) (round_whole A (omega (arith, c.get.ensures.limits, c.period.ensures)) xs p (c.walks.ensures.joined k no_path c.requires))) time

pub returns-clause-closed : goal.returns-clause-closed
returns-clause-closed c p is closed =
    let k = c.args.index in
    let numbers = c.args.numbers.now in
    let within : k < length c.walks.result.now = subst (λ (ps : List Path). k < length ps) (sym c.walks.ensures.value) c.requires in
    let same : c.index-walks-index.result ≡ get_or c.args.cycles.now.walks k no_path =
    get_or_read c.walks.result.now k c.index-walks-index.result within c.index-walks-index.is no_path
    ∙ ap (λ (ps : List Path). get_or ps k no_path) c.walks.ensures.value in
    let times : width c.in_ok-times.times ≤ widths numbers p.steps =
    subst (λ (q : Path). q.from ≡ q.to → width c.in_ok-times.times ≤ widths numbers q.steps) (same ∙ sym is) c.in_ok-times.ensures.closed closed in
    omega (arith, c.in_ok-range.ensures.narrow, times)
