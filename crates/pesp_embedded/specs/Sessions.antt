-- What a session is, and what calls do to one.
use Rattle.std.specs.Prelude.{◌≡◌, ℕ, ℤ, ◌≤◌, false, length, List, [], ◌∷◌, ◌++◌, map, Option, Some, option_map, IfOk, IfErr, MatchBool, Result, Ok, Err}
use Rattle.std.specs.List.{list_any}
use Rattle.std.specs.Result.{result_ok}
use Rattle.pesp_base.specs.declared.refusal.Refusal.{Refusal}
use Rattle.pesp_base.specs.declared.refusal.Refusal.TheVariants as no
use Rattle.pesp_instance.specs.Network.{event_ids, has_event}
use Rattle.pesp_tension.specs.Answers.{cost_of, where_timed}
use Rattle.pesp_bench.specs.Asked.{cost_change}
use Rattle.pesp_shell_io.specs.Lines.{is_line_feed, longest_line}
use Rattle.pesp_shell_replies.specs.Legal.{Work, work_of}
use Rattle.pesp_shell_replies.specs.Transcripts.{Leads}
use Rattle.pesp_shell.specs.declared.run_fault.RunFault.{RunFault}
use Rattle.pesp_shell.specs.Opening.{Files, IsOpenFault, IsOpening}
use Rattle.pesp_embedded.specs.Answered.{fronted}
use Rattle.pesp_embedded.specs.Bits.{AreBits}
use Rattle.pesp_embedded.specs.Faults.{told_fault}
use Rattle.pesp_embedded.specs.Numbers.{field_of, place_of, reason_of, status_of, time_or_none, told_done}
use Rattle.pesp_embedded.specs.declared.fault.Fault.TheVariants as fault
use Rattle.pesp_embedded.specs.declared.kept.Kept.{Kept}
use Rattle.pesp_embedded.specs.declared.told.Told.{Told}

-- the instance and the working timetable of a session; a closed one has none
abbrev pub work_in : Option Kept → Option Work
work_in kept = option_map (λ k. work_of k.bench) kept

-- the session of files is at this work: the replies so far are a transcript of the lines so far, from the work that the files open
pub record IsSession (f : Files) (lines : List (List ℕ)) (replies : List ℕ) (now : Work) : Type 0 where
  pub first : Work
  pub opening : IsOpening f first
  pub leads : Leads first lines replies now

-- whether it was done, or why not
abbrev pub done_or : Result Work RunFault → Result (Unit {0}) RunFault
done_or (Ok w) = Ok tt
done_or (Err fault) = Err fault

-- the files open a session, of no line yet, or say why not
pub record IsOpened (f : Files) (after : Option Work) (told : Told) : Type 0 where
  pub ended : Result Work RunFault
  pub opens : IfOk ended (IsSession f [] [])
  pub fails : IfErr ended (IsOpenFault f)
  pub work : after ≡ result_ok ended
  pub length : told.length ≡ 0
  pub status : told.status ≡ status_of (done_or ended)
  pub place : told.place ≡ place_of (done_or ended)
  pub reason : told.reason ≡ reason_of (done_or ended)
  pub field : told.field ≡ field_of (done_or ended)

-- a line is answered: whatever the lines and replies so far, they go on with this line and its reply, which is put in front of the room; its length alone is reported
pub record IsAsked (before : Option Work) (line room room' : List ℕ) (told : Told) (after : Option Work) : Type 0 where
  pub from : Work
  pub to : Work
  pub reply : List ℕ
  pub one : list_any is_line_feed line ≡ false
  pub short : length line ≤ longest_line
  pub open_before : before ≡ Some from
  pub open_after : after ≡ Some to
  pub goes_on : (f : Files) (lines : List (List ℕ)) (replies : List ℕ) → IsSession f lines replies from → IsSession f (lines ++ line ∷ []) (replies ++ reply) to
  pub shown : room' ≡ fronted reply room
  pub tells : told ≡ told_done (length reply)

-- the cost of the working timetable, or the refusal that names the least event without a time
abbrev pub cost_in : Work → Result ℕ Refusal
cost_in w = where_timed w.instance w.times (cost_of w.instance w.times)

-- what the cost changes by where the event gets the time, or the first refusal: that of `time`, and then that of `cost`
abbrev pub change_in : Work → ℕ → ℕ → Result ℤ Refusal
change_in w e t = cost_change w.instance w.times e t

-- the events of a session, ascending
abbrev pub events_in : Work → List ℕ
events_in w = event_ids w.instance

-- the time of each event in the working timetable, by ascending events
abbrev pub times_in : Work → List ℕ
times_in w = map (time_or_none w.times) (events_in w)

-- a question is answered by a number, or refused, and then what was there stays
abbrev pub IsNumber : Result ℤ Refusal → ℤ → ℤ → Told → Type 0
IsNumber (Ok answer) old new told = (new ≡ answer) × (told ≡ told_done 0)
IsNumber (Err refusal) old new told = (new ≡ old) × (told ≡ told_fault (fault.Refused refusal))

-- these are put in front of the room, as many as fit, and how many they are is told
pub record AreShown (numbers room room' : List ℕ) (told : Told) : Type 0 where
  pub shown : room' ≡ fronted numbers room
  pub tells : told ≡ told_done (length numbers)

-- the domain of an event is shown as bits, or a number is refused that is no event, and then what was there stays
abbrev pub IsDomainShown : Work → ℕ → List ℕ → List ℕ → Told → Type 0
IsDomainShown w e room room' told =
    MatchBool (has_event w.instance e)
    ((bytes : List ℕ) × AreBits w.instance e bytes × AreShown bytes room room' told)
    ((room' ≡ room) × (told ≡ told_fault (fault.Refused (no.NoEvent e))))
