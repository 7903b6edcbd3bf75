-- Each place has its own halves.
use Rattle.pesp_search_cycles.specs.declared.boxes.Place.{Place}
use Rattle.pesp_search_cycles.specs.declared.boxes.Place.TheVariants.{Number, Round}
use Rattle.pesp_search_cycles.specs.Splits.{IsCut}
use Rattle.pesp_search_cycles.proofs.cut.Choice.swapped.Goals as goal

pub returns-clause-cut : goal.returns-clause-cut
returns-clause-cut c N B cut = go c.args.self.place cut
  where
    go : (place : Place) → IsCut N B place c.args.self.halves → IsCut N B place c.swapped.result
    go (Number k) h = c.swapped.ensures 1 _ h
    go (Round k) h = c.swapped.ensures N.network.period _ h
