-- What was found is the first space.
use Rattle.std.proofs.Common.{◌∙◌, sym, rules, tests}
use Rattle.std.proofs.lemmas.Iterator.{YieldsList-from_slice}
use Rattle.std.proofs.lemmas.Iterator.Search.{position_from_yields_List}
use Rattle.pesp_shell_commands.specs.Words.{is_space}
use Rattle.pesp_shell_commands.proofs.FirstWordLemmas.{no_place_found, place_found}
use Rattle.pesp_shell_commands.proofs.words.length_of_word.Goals as goal

pub returns-in-Some : goal.returns-in-Some
returns-in-Some c =
    place_found is_space c.args.text.now _ (sym c.in-Some.is ∙ position_from_yields_List is_space _ _ _ c.position.ensures.ran (YieldsList-from_slice c.args.text.now cc) (λ x b q k. search (rules, tests)))

pub returns-in-None : goal.returns-in-None
returns-in-None c =
    no_place_found is_space c.args.text.now (sym c.in-None.is ∙ position_from_yields_List is_space _ _ _ c.position.ensures.ran (YieldsList-from_slice c.args.text.now cc) (λ x b q k. search (rules, tests)))
