-- Which reply and which next state a line may have.
use Rattle.std.specs.Prelude.{◌≡◌, ◌↔◌, ℕ, ◌⊎◌, nat_le, is_none, MatchBool, List, [], ◌∷◌, Option, Some, None, Result, Ok, Err}
use Rattle.std.specs.List.{AllZip, Contains, zip}
use Rattle.std.specs.List.Sorted.{IsStrictlyIncreasing}
use Rattle.std.specs.Result.{result_unwrap_or}
use Rattle.pesp_base.specs.declared.refusal.Refusal.{Refusal}
use Rattle.pesp_base.specs.declared.refusal.Refusal.TheVariants as no
use Rattle.pesp_base.specs.Refusals.{unless_refused, when}
use Rattle.pesp_instance.specs.declared.edit.Edit.{Edit}
use Rattle.pesp_instance.specs.Edited.{effect, no_event, refusals}
use Rattle.pesp_instance.specs.Network.{Network, event_ids, has_event}
use Rattle.pesp_tension.specs.Timetables.{Times, time_of, with_time, without_time}
use Rattle.pesp_tension.specs.Answers.{cost_of, tensions_of, violations_of, where_timed}
use Rattle.pesp_domains.specs.Domains.{InDomains}
use Rattle.pesp_search.specs.declared.answer.Answer.{Answer}
use Rattle.pesp_search.specs.declared.answer.Answer.TheVariants.{Optimal, Infeasible}
use Rattle.pesp_search.specs.declared.answer.Best.{Best}
use Rattle.pesp_search.specs.Optima.{IsAnswer}
use Rattle.pesp_search.specs.Tried.{MayStop}
use Rattle.pesp_bench.specs.State as bench
use Rattle.pesp_bench.specs.State.{times_after}
use Rattle.pesplib_writer.specs.Script.{script}
use Rattle.pesp_shell_commands.specs.declared.command.Command.{Command}
use Rattle.pesp_shell_commands.specs.declared.command.Command.TheVariants as command
use Rattle.pesp_shell_commands.specs.declared.parsing.ParseFault.{ParseFault}
use Rattle.pesp_shell_commands.specs.Parsed.{parsed}
use Rattle.pesp_shell_replies.specs.Replies.{cost_text, domain_text, domains_text, fault_text, ok_text, optimum_text, refusal_text, stopped_text, tensions_text, told, violations_text}

-- an instance, and a working timetable of its events
pub record Work : Type 0 where
  pub instance : Network
  pub times : Times

-- what a workbench holds, without what it knows
abbrev pub work_of : bench.State → Work
work_of s = record { instance = s.instance; times = s.times }

-- ---- changes

-- the work after an edit, where a dropped event has no time, or the first refusal
abbrev pub edited_work : Work → Edit → Result Work Refusal
edited_work w edit =
    unless_refused (refusals w.instance edit) (record { instance = effect w.instance edit; times = times_after edit w.times })

-- the work with the event at a time, or the first refusal
abbrev pub timed_work : Work → ℕ → ℕ → Result Work Refusal
timed_work w e t =
    unless_refused (no_event w.instance e ∷ when (nat_le w.instance.period t) (no.TimeOutOfRange t) ∷ []) (record w { times = with_time w.times e t })

-- the work without a time of the event, or the first refusal
abbrev pub untimed_work : Work → ℕ → Result Work Refusal
untimed_work w e =
    unless_refused (no_event w.instance e ∷ when (is_none (time_of w.times e)) (no.MissingTime e) ∷ []) (record w { times = without_time w.times e })

-- the work with the optimum as working timetable, or the refusal where there is none
abbrev pub adopted_work : Work → Answer → Result Work Refusal
adopted_work w Infeasible = Err no.Infeasible
adopted_work w (Optimal cost times) = Ok (record w { times = times })

-- ---- replies

-- the reply is told, and nothing changes
pub record Tells (w : Work) (reply : Option (List ℕ)) (text : List ℕ) (next : Work) : Type 0 where
  pub tells : reply ≡ Some text
  pub stays : next ≡ w

-- the work changes with the reply `ok`, or a refusal is told and nothing changes
pub record Changes (w : Work) (outcome : Result Work Refusal) (text : List ℕ) (next : Work) : Type 0 where
  pub tells : told (λ done. ok_text) outcome ≡ Some text
  pub leaves : next ≡ result_unwrap_or outcome w

-- these are the residues of the event's domain, ascending
pub record AreResidues (I : Network) (e : ℕ) (residues : List ℕ) : Type 0 where
  pub rising : IsStrictlyIncreasing residues
  pub exact : (r : ℕ) → Contains residues r ↔ InDomains I [] e r

-- an answer on the working timetable, or the refusal that names the least event without a time
abbrev pub asked : {X : Type 0} → (X → List ℕ) → Work → X → Option (List ℕ)
asked text w x = told text (where_timed w.instance w.times x)

-- a command may have this text as its reply, and leave this work
abbrev pub LegalCommand : Work → Command → List ℕ → Work → Type 0
LegalCommand w (command.Edit edit) text next = Changes w (edited_work w edit) text next
LegalCommand w (command.Time e t) text next = Changes w (timed_work w e t) text next
LegalCommand w (command.Untime e) text next = Changes w (untimed_work w e) text next
LegalCommand w command.Adopt text next = (answer : Answer) × IsAnswer w.instance answer × Changes w (adopted_work w answer) text next
LegalCommand w (command.Domain e) text next =
    MatchBool (has_event w.instance e)
    ((residues : List ℕ) × AreResidues w.instance e residues × Tells w (Some (domain_text e residues)) text next)
    (Tells w (refusal_text (no.NoEvent e)) text next)
LegalCommand w command.Domains text next =
    (rows : List (List ℕ)) × AllZip (AreResidues w.instance) (event_ids w.instance) rows × Tells w (Some (domains_text (zip (event_ids w.instance) rows))) text next
LegalCommand w command.Tensions text next = Tells w (asked tensions_text w (tensions_of w.instance w.times)) text next
LegalCommand w command.Violations text next = Tells w (asked violations_text w (violations_of w.instance w.times)) text next
LegalCommand w command.Cost text next = Tells w (asked cost_text w (cost_of w.instance w.times)) text next
LegalCommand w command.Optimum text next = (answer : Answer) × IsAnswer w.instance answer × Tells w (Some (optimum_text answer)) text next
LegalCommand w (command.TryOptimum limit) text next =
    ((answer : Answer) × IsAnswer w.instance answer × Tells w (Some (optimum_text answer)) text next)
    ⊎ ((found : Option Best) × MayStop w.instance None limit found × Tells w (Some (stopped_text found)) text next)
LegalCommand w command.Dump text next = Tells w (Some (script w.instance)) text next

-- the same of what a line says: a command, nothing, or a fault
abbrev pub LegalSaid : Work → Result (Option Command) ParseFault → List ℕ → Work → Type 0
LegalSaid w (Ok None) text next = Tells w (Some []) text next
LegalSaid w (Ok (Some said)) text next = LegalCommand w said text next
LegalSaid w (Err fault) text next = Tells w (Some (fault_text fault)) text next

-- a line may have this text as its reply, and leave this work
abbrev pub Legal : Work → List ℕ → List ℕ → Work → Type 0
Legal w line text next = LegalSaid w (parsed line) text next
