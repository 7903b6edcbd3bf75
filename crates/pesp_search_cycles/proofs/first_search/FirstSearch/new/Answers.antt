-- The search stands by these cycles.
use Rattle.std.proofs.Common.{◌∙◌, refl}
use Rattle.pesp_search_cycles.specs.Maps.{Net}
use Rattle.pesp_search_cycles.specs.Stacks.{net_of}
use Rattle.pesp_search_cycles.proofs.Stood.{cycles_of}
use Rattle.pesp_search_cycles.proofs.first_search.FirstSearch.new.Goals as goal

pub invariant_of-result : goal.invariant_of-result
invariant_of-result c =
    let walks = c.into_walks-walks.result.items in
    let cuts = c.in_ok-cuts.cuts.items in
    let N : Net = net_of c.args.network walks cuts in
    (cycles_of c.in_ok-new.field-0 c.args.network walks cuts c.in_ok-new.ensures.network c.into_walks-walks.ensures.walks (c.in_ok-new.ensures.cuts ∙ c.deref-5.ensures.value) c.into_walks-walks.ensures.sound, c.requires N refl)
