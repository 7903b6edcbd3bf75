-- The optimum that is adopted is the answer, and the instance is as it was.
use Rattle.std.proofs.Common.{◌≡◌, ℕ, List, Some, sym, ap, subst}
use Rattle.pesp_search.specs.declared.answer.Answer.{Answer}
use Rattle.pesp_search.specs.declared.answer.Answer.TheVariants.{Optimal}
use Rattle.pesp_search.specs.Optima.{IsAnswer}
use Rattle.pesp_bench.specs.State.{State}
use Rattle.pesp_bench.specs.Asked.{IsAdopted}
use Rattle.pesp_shell_replies.specs.Legal.{Changes, adopted_work, work_of}
use Rattle.pesp_shell_replies.specs.Replies.{ok_text}
use Rattle.pesp_shell_replies.proofs.changes.adopt.Goals as goal

adopts : (before after : State) (text : List ℕ) → after.instance ≡ before.instance → IsAdopted after → text ≡ ok_text
    → (answer : Answer) × IsAnswer before.instance answer × Changes (work_of before) (adopted_work (work_of before) answer) text (work_of after)
adopts before after text same (cost, known, best) told = (
  Optimal cost after.times,
  subst (λ I. IsAnswer I (Optimal cost after.times)) same best,
  record { tells = ap Some (sym told); leaves = ap (λ I. record { instance = I; times = after.times }) same },
)

pub returns-in-Ok-clause-legal : goal.returns-in-Ok-clause-legal
returns-in-Ok-clause-legal g c = adopts c.args.bench.now c.adopt.new.self c.in_ok-done.done.items c.in-Ok.ensures.searched.instance c.in-Ok.ensures.ok c.in_ok-done.ensures
