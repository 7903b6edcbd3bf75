-- What a search tells in numbers.
use Rattle.std.specs.Prelude.{◌≡◌, ◌≤◌, ℕ, Bool, if◌then◌else◌, List, [], map, Option, Some, None, option_map}
use Rattle.pesp_instance.specs.Network.{Network, event_ids}
use Rattle.pesp_tension.specs.Timetables.{Times}
use Rattle.pesp_bench.specs.Asked.{IsSearched}
use Rattle.pesp_search.specs.declared.answer.Answer.{Answer}
use Rattle.pesp_search.specs.declared.answer.Answer.TheVariants.{Optimal, Infeasible}
use Rattle.pesp_search.specs.declared.answer.Best.{Best}
use Rattle.pesp_search.specs.Known.{IsFloor}
use Rattle.pesp_search.specs.Optima.{IsAnswer}
use Rattle.pesp_search.specs.Tried.{MayStop}
use Rattle.pesp_embedded.specs.Numbers.{time_or_none}
use Rattle.pesp_embedded.specs.Sessions.{AreShown}
use Rattle.pesp_embedded.specs.declared.found.Found.{Found}
use Rattle.pesp_embedded.specs.declared.kept.Kept.{Kept}
use Rattle.pesp_embedded.specs.declared.told.Told.{Told}

-- the optimum of a session's instance, where it is known
abbrev pub known_in : Option Kept → Option Answer
known_in (Some k) = k.bench.known
known_in None = None

-- a call has searched by so many nodes at most, as a workbench does, or not at all: then nothing was pushed, or the session is closed
abbrev pub HasSearched : Option Kept → ℕ → Option Kept → Type 0
HasSearched (Some before) nodes (Some after) = IsSearched before.bench after.bench × (after.bench.nodes ≤ nodes)
HasSearched None nodes None = Unit {0}
HasSearched before nodes after = ⊥

-- how good an optimum is, or that there is none
abbrev pub found_answer : Answer → Found
found_answer (Optimal cost times) = record { cost = cost; lower_bound = cost; state = 2; goes_on = 0 }
found_answer Infeasible = record { cost = 0; lower_bound = 0; state = 3; goes_on = 0 }

-- how good that is what a search stopped with, which goes on or not
abbrev pub found_stop : Option Best → ℕ → Bool → Found
found_stop (Some best) bound on = record { cost = best.cost; lower_bound = bound; state = 1; goes_on = if on then 1 else 0 }
found_stop None bound on = record { cost = 0; lower_bound = bound; state = 0; goes_on = if on then 1 else 0 }

-- the timetable of an answer
abbrev pub timetable_in : Answer → Option Times
timetable_in (Optimal cost times) = Some times
timetable_in Infeasible = None

-- the time of each event in a timetable, by ascending events; no time where there is no timetable
abbrev pub times_told : Network → Option Times → List ℕ
times_told I (Some m) = map (time_or_none m) (event_ids I)
times_told I None = []

-- the optimum is told with its times, or that there is none
pub record IsAnswerTold (I : Network) (answer : Answer) (room room' : List ℕ) (found : Found) (told : Told) : Type 0 where
  pub holds : IsAnswer I answer
  pub good : found ≡ found_answer answer
  pub times : AreShown (times_told I (timetable_in answer)) room room' told

-- what a search may stop with after so many nodes is told with its times, that no member costs less than the lower bound, and whether it goes on
pub record IsStopTold (I : Network) (nodes : ℕ) (room room' : List ℕ) (found : Found) (told : Told) : Type 0 where
  pub best : Option Best
  pub on : Bool
  pub stops : MayStop I None nodes best
  pub floor : IsFloor I found.lower_bound
  pub good : found ≡ found_stop best found.lower_bound on
  pub times : AreShown (times_told I (option_map (λ b. b.times) best)) room room' told

-- what a search within so many nodes tells, by what is known after it
abbrev pub IsSearchTold : Network → ℕ → Option Answer → List ℕ → List ℕ → Found → Told → Type 0
IsSearchTold I nodes (Some answer) room room' found told = IsAnswerTold I answer room room' found told
IsSearchTold I nodes None room room' found told = IsStopTold I nodes room room' found told
