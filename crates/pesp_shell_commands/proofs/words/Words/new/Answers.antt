-- The words that were taken are the first ones.
use Rattle.std.proofs.Common.{◌<◌, length, arith, length-set, rules}
use Rattle.pesp_shell_commands.specs.Words.{words_of}
use Rattle.pesp_shell_commands.proofs.TakenLemmas.{no_room, none_left, one_more}
use Rattle.pesp_shell_commands.proofs.words.Words.new.Goals as goal
use Rattle.pesp_shell_commands.proofs.words.Words.new.Goals.{else-loop-count-test, then-loop-count-test+in-None-1}

pub loop-count-preserved : goal.loop-count-preserved
loop-count-preserved c =
    let room : c.loop-count.count < length c.loop-count.words = omega (arith, c.loop-count.invariant.1) in (
      omega arith,
      omega (arith, length-set c.loop-count.words c.loop-count.count c.in-Some.word),
      one_more c.loop-count.words c.loop-count.count (words_of c.args.line.now) c.in-Some.word (words_of c.loop-count.rest.now) (words_of c.in-Some.after.now) room c.loop-count.invariant.2 c.in-Some.ensures,
    )

pub returns : goal.returns
returns c =
    elim c.loop-count-test.branch [
      | else-loop-count-test w ↦ no_room c.loop-count.words c.loop-count.count (words_of c.args.line.now) (words_of c.loop-count.rest.now) (omega (arith, w.loop-count-test.false, c.loop-count.invariant.0)) c.loop-count.invariant.1 c.loop-count.invariant.2
      | then-loop-count-test+in-None-1 w ↦ none_left c.loop-count.words c.loop-count.count (words_of c.args.line.now) (words_of c.loop-count.rest.now) c.loop-count.invariant.0 c.loop-count.invariant.1 c.loop-count.invariant.2 (search rules)
    ]
