-- One cut more.
use Rattle.std.proofs.Common.{◌≡◌, ◌++◌, ◌∷◌, [], arith}
use Rattle.std.proofs.lemmas.Grind.{common_steps}
use Rattle.pesp_search_cycles.specs.Maps.{Holds}
use Rattle.pesp_search_cycles.proofs.Flipped.{kept_more}
use Rattle.pesp_search_cycles.proofs.cuts.cuts_of.Goals as goal

pub loop-index-preserved : goal.loop-index-preserved
loop-index-preserved c =
    let pushed : c.push.new.self.items ≡ c.loop-index.cuts.items ++ c.in-Some.cut ∷ [] = grind (arith, common_steps, c.push.ensures.items, c.if-is_err.ensures.value) in
    kept_more (Holds c.args.cycles.now.network) c.loop-index.cuts.items c.push.new.self.items c.in-Some.cut pushed c.loop-index.invariant c.in-Some.ensures
