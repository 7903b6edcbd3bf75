-- A piece is searched, and then the rest, below what is left of the cap.
use Rattle.std.proofs.Common.{arith}
use Rattle.pesp_search_network.specs.Arcs.{IsCosted}
use Rattle.pesp_search_network.proofs.Shares.{costed_sums}
use Rattle.pesp_search_network.proofs.Together.{floor_left, none_of_one, stop_of_one}
use Rattle.pesp_search_network.proofs.network.Network.+least_apart.Goals as goal

pub least_apart-requires : goal.least_apart-requires
least_apart-requires g t c κs lives =
    let N = c.args.self.now in
    let peeled = c.in-Some.peeled in
    let sums = costed_sums N peeled.piece peeled.rest peeled.cut.inner.items peeled.cut.joint (rw c.in-Some.is at c.in_ok-peeled.ensures) in
    let told = rw c.in-Found.is at c.in_ok-piece.ensures.outcome in
    let left = floor_left (IsCosted N) (IsCosted peeled.piece) (IsCosted peeled.rest) sums c.args.limits.floor c.in-Found.piece c.requires.floor told.0.has in
    (omega (arith, c.decreases), (lives, λ map sum is. omega (arith, c.saturating_sub.ensures, left map sum is)))

pub returns-in-Found-clause-spent : goal.returns-in-Found-clause-spent
returns-in-Found-clause-spent g t c = c.joined_outcome.ensures.spent c.least_apart.new.budget.left c.in_ok-rest-in-Found.ensures.spent

pub returns-in-NoneBelow-clause-outcome : goal.returns-in-NoneBelow-clause-outcome
returns-in-NoneBelow-clause-outcome g t c =
    let N = c.args.self.now in
    let peeled = c.in-Some.peeled in
    let sums = costed_sums N peeled.piece peeled.rest peeled.cut.inner.items peeled.cut.joint (rw c.in-Some.is at c.in_ok-peeled.ensures) in
    none_of_one (IsCosted N) (IsCosted peeled.piece) (IsCosted peeled.rest) sums c.args.limits.cap (rw c.in-NoneBelow.is at c.in_ok-piece.ensures.outcome)

pub returns-clause-outcome : goal.returns-clause-outcome
returns-clause-outcome g t c =
    let N = c.args.self.now in
    let peeled = c.in-Some.peeled in
    let sums = costed_sums N peeled.piece peeled.rest peeled.cut.inner.items peeled.cut.joint (rw c.in-Some.is at c.in_ok-peeled.ensures) in
    let told = rw c.in-Spent.is at c.in_ok-piece.ensures.outcome in (
      tt,
      stop_of_one (IsCosted N) (IsCosted peeled.piece) (IsCosted peeled.rest) sums c.args.limits.cap c.args.limits.floor c.in-Spent.lower_bound c.max.result c.requires.floor told.1 c.max.ensures,
    )
