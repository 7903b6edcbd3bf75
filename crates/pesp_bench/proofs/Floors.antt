-- What a search ends or stops with, and the bound that is told of it.
use Rattle.std.proofs.Common.{◌≡◌, ℕ, ◌≤◌, Bool, true, false, List, [], Option, Some, None, refl, subst, sym}
use Rattle.std.proofs.lemmas.Bool.{false≢true}
use Rattle.pesp_instance.specs.Network.{Network}
use Rattle.pesp_tension.specs.Timetables.{Times}
use Rattle.pesp_domains.specs.declared.pair.Pair.{Pair}
use Rattle.pesp_search.specs.declared.answer.Answer.{Answer}
use Rattle.pesp_search.specs.declared.answer.Answer.TheVariants.{Optimal, Infeasible}
use Rattle.pesp_search.specs.declared.answer.Best.{Best}
use Rattle.pesp_search.specs.Known.{IsFloor}
use Rattle.pesp_search.specs.Optima.{IsAnswer}
use Rattle.pesp_search.specs.Tried.{IsEnd, IsOutcome, MayStop}
use Rattle.pesp_bench.specs.declared.attempt.Attempt.TheVariants.{Done, Stopped}
use Rattle.pesp_bench.specs.declared.attempt.Sought.{Sought}
use Rattle.pesp_bench.specs.Asked.{IsSought, least_of}
use Rattle.pesp_bench.specs.State.{IsState, State}

-- ---- what a search within a limit comes to

-- a stop is one at the limit
pub stopped : (I : Network) (bound : Option ℕ) (limit nodes : ℕ) (is_stopped : Bool) (best : Option Best) → IsOutcome I bound (Some limit) is_stopped best nodes
    → is_stopped ≡ true → MayStop I bound limit best × (nodes ≡ limit)
stopped I bound limit nodes true best outcome is = (outcome.0, outcome.1)
stopped I bound limit nodes false best outcome is = absurd (false≢true is)

-- an end comes within it
pub ended : (I : Network) (bound : Option ℕ) (limit nodes : ℕ) (is_stopped : Bool) (best : Option Best) → IsOutcome I bound (Some limit) is_stopped best nodes
    → is_stopped ≡ false → IsEnd I best × (nodes ≤ limit)
ended I bound limit nodes false best outcome is = (outcome.0, outcome.1.0)
ended I bound limit nodes true best outcome is = absurd (false≢true (sym is))

-- ---- what is told of it

-- no member costs less than a known optimum; where there is no member, any bound is one
answer_floor : (I : Network) (answer : Answer) → IsAnswer I answer → IsFloor I (least_of answer)
answer_floor I (Optimal cost times) optimum = optimum.least
answer_floor I Infeasible none = λ m member. absurd (none m member)

-- of an end
pub sought_end : (I N : Network) (after : State) (limit : ℕ) (answer : Answer) (sought : Sought) → N ≡ I → after.instance ≡ N → after.known ≡ Some answer
    → after.nodes ≤ limit → IsAnswer N answer → sought ≡ record { attempt = Done; lower_bound = least_of answer } → IsSought I after limit sought
sought_end I N after limit answer sought same here known within holds is = rw is (record {
  attempt = (rw (known, here) holds, within);
  floor = subst (λ K. IsFloor K (least_of answer)) same (answer_floor N answer holds);
  exact = rw known refl;
})

-- and of a stop
pub sought_stop : (I N : Network) (after : State) (limit bound : ℕ) (best : Option Best) → N ≡ I → after.instance ≡ N → after.known ≡ None → after.nodes ≡ limit
    → MayStop N None limit best → IsFloor N bound → IsSought I after limit (record { attempt = Stopped best; lower_bound = bound })
sought_stop I N after limit bound best same here known at stops floor = record {
  attempt = (known, at, subst (λ K. MayStop K None limit best) (sym here) stops);
  floor = subst (λ K. IsFloor K bound) same floor;
  exact = rw known tt;
}

-- ---- the workbench after that

-- what the search found is known
pub known_state : (I J : Network) (before after : List Pair) (m : Times) (known : Option Answer) (answer : Answer)
    → IsState I before m known → J ≡ I → after ≡ [] → IsAnswer I answer → IsState J after m (Some answer)
known_state I J before after m known answer s same none holds =
    rw (same, none) (record { nothing = refl; period = s.period; rising = s.rising; events = s.events; optimum = holds })
