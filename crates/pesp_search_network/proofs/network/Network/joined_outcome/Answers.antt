-- Least costs of the piece and of the rest are together the least cost.
use Rattle.std.proofs.Common.{Option, IfSome, sym, subst, arith}
use Rattle.pesp_search_least.specs.Sums.{IsBelow}
use Rattle.pesp_search_least.specs.declared.outcome.Candidate.{Candidate}
use Rattle.pesp_search_network.specs.Arcs.{IsCosted}
use Rattle.pesp_search_network.proofs.Shares.{costed_sums}
use Rattle.pesp_search_network.proofs.Together.{least_joined, none_of_other, stop_of_other}
use Rattle.pesp_search_network.proofs.network.Network.joined_outcome.Goals as goal
use Rattle.pesp_search_network.proofs.network.Network.joined_outcome.Goals.{in-Some, in-None}

pub returns-in-Found-clause-outcome : goal.returns-in-Found-clause-outcome
returns-in-Found-clause-outcome c =
    let N = c.args.self.now in
    let peeled = c.args.peeled.now in
    let sums = costed_sums N peeled.piece peeled.rest peeled.cut.inner.items peeled.cut.joint c.requires.peeled in
    let told = rw c.in-Found.is at c.requires.rest in (
      least_joined (IsCosted N) (IsCosted peeled.piece) (IsCosted peeled.rest) sums c.args.piece.now c.in-Found.rest c.join.result c.requires.least told.0 c.join.ensures.costed c.join.ensures.cost,
      omega (arith, told.1, c.join.ensures.cost, c.requires.below),
    )

pub returns-in-NoneBelow-clause-outcome : goal.returns-in-NoneBelow-clause-outcome
returns-in-NoneBelow-clause-outcome c =
    let N = c.args.self.now in
    let peeled = c.args.peeled.now in
    let sums = costed_sums N peeled.piece peeled.rest peeled.cut.inner.items peeled.cut.joint c.requires.peeled in
    let told = rw c.in-NoneBelow.is at c.requires.rest in
    none_of_other (IsCosted N) (IsCosted peeled.piece) (IsCosted peeled.rest) sums c.args.cap c.args.piece.now c.requires.below c.requires.least told

pub returns-after-best-clause-outcome : goal.returns-after-best-clause-outcome
returns-after-best-clause-outcome c =
    let N = c.args.self.now in
    let peeled = c.args.peeled.now in
    let sums = costed_sums N peeled.piece peeled.rest peeled.cut.inner.items peeled.cut.joint c.requires.peeled in
    let told = rw c.in-Spent.is at c.requires.rest in
    let IsBest : Option Candidate → Type 0 = λ best. IfSome best (IsBelow (IsCosted N) c.args.cap) in (
      elim c.match-best.branch [
        | in-Some w ↦
            (let below = rw w.in-Some.is at told.0 in
            subst IsBest (sym w.best-is) (w.join-in-Some.ensures.costed, omega (arith, below.1, w.join-in-Some.ensures.cost, c.requires.below)))
        | in-None w ↦ subst IsBest (sym w.best-is) tt
      ],
      stop_of_other (IsCosted N) (IsCosted peeled.piece) (IsCosted peeled.rest) sums c.args.cap c.in-Spent.lower_bound c.saturating_add.result c.args.piece.now c.requires.least told.1
          (omega (arith, c.saturating_add.ensures)),
    )
