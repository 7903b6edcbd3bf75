-- The texts of replies.
use Rattle.std.specs.Prelude.{ℕ, List, [], ◌∷◌, ◌++◌, map, length, codes, decimal, Option, Some, None, option_map, Result, Ok, Err}
use Rattle.std.specs.Fmt.{signed_decimal}
use Rattle.pesp_base.specs.declared.refusal.Refusal.{Refusal}
use Rattle.pesp_base.specs.declared.refusal.Refusal.TheVariants as no
use Rattle.pesp_base.specs.Texts.{words_line, as_lines}
use Rattle.pesp_tension.specs.declared.lists.ActivityTension.{ActivityTension}
use Rattle.pesp_tension.specs.declared.lists.Violation.{Violation}
use Rattle.pesp_tension.specs.declared.lists.Violation.TheVariants as of_
use Rattle.pesp_tension.specs.Timetables.{Times}
use Rattle.pesp_search.specs.declared.answer.Answer.{Answer}
use Rattle.pesp_search.specs.declared.answer.Answer.TheVariants.{Optimal, Infeasible}
use Rattle.pesp_search.specs.declared.answer.Best.{Best}
use Rattle.pesp_shell_commands.specs.declared.parsing.ParseFault.{ParseFault}
use Rattle.pesp_shell_commands.specs.declared.parsing.ParseFault.TheVariants as fault

-- a line of a word and the number of the lines after it, and those lines
abbrev pub counted : List ℕ → List (List ℕ) → List ℕ
counted word lines = as_lines (words_line (word ∷ decimal (length lines) ∷ []) ∷ lines)

-- activity, tension, slack
abbrev pub tension_line : ActivityTension → List ℕ
tension_line x = words_line (decimal x.id ∷ signed_decimal x.tension ∷ decimal x.slack ∷ [])

abbrev pub tensions_text : List ActivityTension → List ℕ
tensions_text rows = counted (codes "tensions") (map tension_line rows)

abbrev pub violation_line : Violation → List ℕ
violation_line (of_.Activity a) = words_line (codes "activity" ∷ decimal a ∷ [])
violation_line (of_.Event e) = words_line (codes "event" ∷ decimal e ∷ [])

abbrev pub violations_text : List Violation → List ℕ
violations_text rows = counted (codes "violations") (map violation_line rows)

abbrev pub cost_text : ℕ → List ℕ
cost_text cost = codes "cost " ++ decimal cost ++ codes "\n"

abbrev pub in_use_text : ℕ → ℕ → List ℕ
in_use_text e a = codes "refused 3 event " ++ decimal e ++ codes " is used by activity " ++ decimal a ++ codes "\n"

-- the reply of a refusal; out of memory has none
abbrev pub refusal_text : Refusal → Option (List ℕ)
refusal_text (no.EventExists e) = Some (codes "refused 1 event " ++ decimal e ++ codes " exists\n")
refusal_text (no.NoEvent e) = Some (codes "refused 2 no event " ++ decimal e ++ codes "\n")
refusal_text (no.EventInUse e a) = Some (in_use_text e a)
refusal_text (no.TimeOutOfRange t) = Some (codes "refused 4 time " ++ decimal t ++ codes " is out of range\n")
refusal_text (no.ActivityExists a) = Some (codes "refused 5 activity " ++ decimal a ++ codes " exists\n")
refusal_text (no.NoActivity a) = Some (codes "refused 6 no activity " ++ decimal a ++ codes "\n")
refusal_text no.TooManyEvents = Some (codes "refused 7 too many events\n")
refusal_text no.TooManyActivities = Some (codes "refused 8 too many activities\n")
refusal_text (no.NotFixed e) = Some (codes "refused 9 event " ++ decimal e ++ codes " is not fixed\n")
refusal_text no.Memory = None
refusal_text (no.MissingTime e) = Some (codes "refused 11 event " ++ decimal e ++ codes " has no time\n")
refusal_text no.Infeasible = Some (codes "refused 12 infeasible\n")
refusal_text (no.LengthOutOfRange n) = Some (codes "refused 13 length " ++ decimal n ++ codes " is out of range\n")

-- the reply of an answer, or its refusal's
abbrev pub told : {X : Type 0} → (X → List ℕ) → Result X Refusal → Option (List ℕ)
told text (Ok x) = Some (text x)
told text (Err refusal) = refusal_text refusal

-- a reply after a text, where there is one
abbrev pub appended : List ℕ → Option (List ℕ) → Option (List ℕ)
appended text reply = option_map (λ more. text ++ more) reply

abbrev pub ok_text : List ℕ
ok_text = codes "ok\n"

-- an event, and the residues of its domain
abbrev pub domain_line : ℕ → List ℕ → List ℕ
domain_line e residues = words_line ((decimal e ++ codes ":") ∷ map decimal residues)

abbrev pub domain_text : ℕ → List ℕ → List ℕ
domain_text e residues = domain_line e residues ++ codes "\n"

-- events beside the residues of their domains
abbrev pub domains_text : List (ℕ × List ℕ) → List ℕ
domains_text rows = counted (codes "domains") (map (λ x. domain_line x.0 x.1) rows)

abbrev pub time_line : ℕ × ℕ → List ℕ
time_line x = words_line (decimal x.0 ∷ decimal x.1 ∷ [])

-- a word, a cost, and the number of the lines after it
abbrev pub costed_line : List ℕ → ℕ → ℕ → List ℕ
costed_line word cost count = words_line (word ∷ decimal cost ∷ decimal count ∷ [])

-- such a line for the cost of a timetable, and a line for each of its times
abbrev pub costed : List ℕ → ℕ → Times → List ℕ
costed word cost m = as_lines (costed_line word cost (length m.entries) ∷ map time_line m.entries)

abbrev pub optimum_text : Answer → List ℕ
optimum_text (Optimal cost times) = costed (codes "optimum") cost times
optimum_text Infeasible = codes "infeasible\n"

-- what a search found that stopped
abbrev pub stopped_text : Option Best → List ℕ
stopped_text None = codes "stopped none\n"
stopped_text (Some best) = costed (codes "stopped") best.cost best.times

abbrev pub fault_text : ParseFault → List ℕ
fault_text fault.UnknownCommand = codes "fault unknown command\n"
fault_text fault.WordCount = codes "fault wrong number of words\n"
fault_text (fault.BadNumber k) = codes "fault word " ++ decimal k ++ codes " is not a number\n"
fault_text (fault.OutOfRange k) = codes "fault word " ++ decimal k ++ codes " is out of range\n"
fault_text fault.Crossed = codes "fault lower bound above upper bound\n"
