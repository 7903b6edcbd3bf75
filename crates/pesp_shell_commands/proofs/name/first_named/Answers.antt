-- The row that is looked at is found, or passed.
use Rattle.std.proofs.Common.{sym, ◌∙◌}
use Rattle.pesp_shell_commands.proofs.NameLemmas.{after, found, passed}
use Rattle.pesp_shell_commands.proofs.name.first_named.Goals as goal

pub returns-in-Some-clause-form : goal.returns-in-Some-clause-form
returns-in-Some-clause-form c =
    sym (found c.args.words.now c.args.names.now c.loop-own.own-index _ c.requires c.loop-own-test.true c.in-Some.ensures.begins) ∙ c.loop-own.invariant

pub returns-in-Some-clause-numbers : goal.returns-in-Some-clause-numbers
returns-in-Some-clause-numbers c =
    after c.args.words.now c.args.names.now c.loop-own.own-index _ c.requires c.loop-own-test.true c.in-Some.numbers c.in-Some.ensures.within c.in-Some.ensures.words c.in-Some.ensures.place

pub loop-own-preserved : goal.loop-own-preserved
loop-own-preserved c =
    sym (passed c.args.words.now c.args.names.now c.loop-own.own-index _ c.requires c.loop-own-test.true c.in_default.ensures.begins) ∙ c.loop-own.invariant
