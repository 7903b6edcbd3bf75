-- What was found is the first point.
use Rattle.std.proofs.Common.{rules, tests, ◌∙◌, sym}
use Rattle.std.proofs.lemmas.List.{take_rest}
use Rattle.std.proofs.lemmas.Iterator.{YieldsList-from_slice}
use Rattle.std.proofs.lemmas.Iterator.Search.{position_from_yields_List}
use Rattle.pesplib_reader.specs.Rows.{is_point}
use Rattle.pesplib_reader.proofs.PointLemmas.{cut_at}
use Rattle.pesplib_reader.proofs.rows.at_point.Goals as goal

pub returns-in-Some-clause-whole : goal.returns-in-Some-clause-whole
returns-in-Some-clause-whole c =
    sym (cut_at c.args.text.now _ (sym c.in-Some.is ∙ position_from_yields_List is_point _ _ _ c.position.ensures.ran (YieldsList-from_slice c.args.text.now cc) (λ x b q k. search (rules, tests)))).0

pub returns-in-Some-clause-decimals : goal.returns-in-Some-clause-decimals
returns-in-Some-clause-decimals c =
    rw take_rest (sym (cut_at c.args.text.now _ (sym c.in-Some.is ∙ position_from_yields_List is_point _ _ _ c.position.ensures.ran (YieldsList-from_slice c.args.text.now cc) (λ x b q k. search (rules, tests)))).1)

pub returns-in-None-clause-whole : goal.returns-in-None-clause-whole
returns-in-None-clause-whole c =
    sym (cut_at c.args.text.now _ (sym c.in-None.is ∙ position_from_yields_List is_point _ _ _ c.position.ensures.ran (YieldsList-from_slice c.args.text.now cc) (λ x b q k. search (rules, tests)))).0

pub returns-in-None-clause-decimals : goal.returns-in-None-clause-decimals
returns-in-None-clause-decimals c =
    sym (cut_at c.args.text.now _ (sym c.in-None.is ∙ position_from_yields_List is_point _ _ _ c.position.ensures.ran (YieldsList-from_slice c.args.text.now cc) (λ x b q k. search (rules, tests)))).1
