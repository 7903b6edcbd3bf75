-- What the best timetable costs under one more restriction, in numbers.
use Rattle.std.specs.Prelude.{◌≡◌, ℕ, Bool, true, if◌then◌else◌, IsOk, Option, Some, None, Err, pos}
use Rattle.pesp_base.specs.Bounds.{Bounds}
use Rattle.pesp_base.specs.declared.refusal.Refusal.{Refusal}
use Rattle.pesp_instance.specs.Edited.{edited}
use Rattle.pesp_instance.specs.Network.{Network}
use Rattle.pesp_search.specs.declared.answer.Answer.{Answer}
use Rattle.pesp_search.specs.declared.answer.Answer.TheVariants.{Optimal, Infeasible}
use Rattle.pesp_search.specs.declared.answer.Best.{Best}
use Rattle.pesp_search.specs.declared.answer.Known.{Known}
use Rattle.pesp_bench.specs.Trials.{IsPriced, edit_of, is_within}
use Rattle.pesp_bench.specs.declared.trial.Trial.{Trial}
use Rattle.pesp_embedded.specs.Faults.{told_fault}
use Rattle.pesp_embedded.specs.Searches.{found_answer, found_stop}
use Rattle.pesp_embedded.specs.declared.fault.Fault.{Fault}
use Rattle.pesp_embedded.specs.declared.fault.Fault.TheVariants as fault
use Rattle.pesp_embedded.specs.declared.found.Found.{Found}
use Rattle.pesp_embedded.specs.declared.told.Told.{Told}

-- the span that only this tension meets
abbrev pub tension_span : ℕ → Bounds
tension_span tension = record { lower = pos tension; upper = pos tension }

-- what a search found that came to its end
abbrev pub answer_in : Option Best → Answer
answer_in (Some best) = Optimal best.cost best.times
answer_in None = Infeasible

-- how good that is what a search came to, which goes on or not where it stopped
abbrev pub found_known : Known → Bool → Found
found_known known on = if known.is_stopped then found_stop known.best known.lower_bound on else found_answer (answer_in known.best)

-- it is what a search under the restriction came to
pub record IsPriceTold (I : Network) (trial : Trial) (nodes : ℕ) (found : Found) : Type 0 where
  pub known : Known
  pub count : ℕ
  pub on : Bool
  pub priced : IsPriced I trial nodes known count
  pub good : found ≡ found_known known on

-- why there is no price: the refusal of the edit, or out of memory where it has none and there is something to search for
abbrev pub IsPriceFault : Network → Trial → Fault → Type 0
IsPriceFault I trial (fault.Refused refusal) = edited I (edit_of trial) ≡ Err refusal
IsPriceFault I trial fault.Memory = IsOk (edited I (edit_of trial)) × (is_within I trial ≡ true)
IsPriceFault I trial other = ⊥

-- that is told
abbrev pub IsPriceRefused : Network → Trial → Told → Type 0
IsPriceRefused I trial told = (f : Fault) × IsPriceFault I trial f × (told ≡ told_fault f)
