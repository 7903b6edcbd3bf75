-- One event more goes with itself.
use Rattle.std.proofs.Common.{◌≡◌, ◌++◌, ◌∷◌, [], subst, arith, rules}
use Rattle.pesp_search_network.specs.Tied.{AreUntied}
use Rattle.pesp_search_network.specs.declared.presolve.shift.Shift.{Shift}
use Rattle.pesp_search_network.proofs.Untied.{tied_of_untied, untied_more}
use Rattle.pesp_search_network.proofs.network.Network.own_shifts.Goals as goal

pub loop-index-preserved : goal.loop-index-preserved
loop-index-preserved c =
    let ties = c.loop-index.ties.items in
    let k = c.loop-index.index in
    let tie : Shift = record { index = k; offset = 0 } in
    let pushed : c.push.new.self.items ≡ ties ++ tie ∷ [] = search rules in
    rw pushed (untied_more k ties c.loop-index.invariant)

pub returns-clause-untied : goal.returns-clause-untied
returns-clause-untied c =
    let all : c.loop-index.index ≡ c.args.self.now.events = omega (arith, c.loop-index.auto.index-end, c.loop-index-test.false, c.events-index-end.ensures.value) in
    subst (λ n. AreUntied n c.loop-index.ties.items) all c.loop-index.invariant

pub returns-clause-tied : goal.returns-clause-tied
returns-clause-tied c =
    let all : c.loop-index.index ≡ c.args.self.now.events = omega (arith, c.loop-index.auto.index-end, c.loop-index-test.false, c.events-index-end.ensures.value) in
    tied_of_untied c.args.self.now c.loop-index.ties.items (subst (λ n. AreUntied n c.loop-index.ties.items) all c.loop-index.invariant)
