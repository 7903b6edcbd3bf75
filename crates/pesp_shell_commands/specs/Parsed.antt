-- What a line says.
use Rattle.std.specs.Prelude.{ℕ, ◌+◌, Bool, false, not, ◌==◌, int_lt, if◌then◌else◌, List, [], ◌∷◌, ◌++◌, map, length, drop, find, codes, bytes_eq, slice_index, slice_index_or, ℤ, pos, unsigned_abs, Option, Some, None, unwrap_or, Result, Ok, Err}
use Rattle.std.specs.List.{starts_with}
use Rattle.pesp_base.specs.declared.activity.Activity.{Activity}
use Rattle.pesp_base.specs.Bounds.{Bounds}
use Rattle.pesp_base.specs.Limits.{greatest_number, greatest_weight, least_bound, greatest_bound}
use Rattle.pesp_base.specs.declared.number.NumberFault.{NumberFault}
use Rattle.pesp_base.specs.declared.number.NumberFault.TheVariants as number
use Rattle.pesp_base.specs.Numbers.{number_in}
use Rattle.pesp_base.specs.Refusals.{when, unless_refused}
use Rattle.pesp_base.specs.Texts.{number_value}
use Rattle.pesp_instance.specs.declared.edit.Edit.TheVariants.{AddEvent, DropEvent, Fix, SetWindow, Unfix, AddActivity, DropActivity, SetSpan, SetWeight, SetEnds}
use Rattle.pesp_shell_commands.specs.declared.command.Command.{Command}
use Rattle.pesp_shell_commands.specs.declared.command.Command.TheVariants as command
use Rattle.pesp_shell_commands.specs.declared.name.Name.{Name}
use Rattle.pesp_shell_commands.specs.declared.name.Name.TheVariants as name
use Rattle.pesp_shell_commands.specs.declared.parsing.ParseFault.{ParseFault}
use Rattle.pesp_shell_commands.specs.declared.parsing.ParseFault.TheVariants as fault
use Rattle.pesp_shell_commands.specs.Words.{words_of}

-- the least and the greatest number that a word may be
pub record Range : Type 0 where
  pub low : ℤ
  pub high : ℤ

-- the number of an event or an activity
abbrev pub id : Range
id = record { low = pos 0; high = pos greatest_number }

abbrev pub bound : Range
bound = record { low = least_bound; high = greatest_bound }

abbrev pub weight : Range
weight = record { low = pos 0; high = pos greatest_weight }

abbrev pub time : Range
time = record { low = pos 0; high = pos 65535 }

-- the nodes that a search may visit
abbrev pub limit : Range
limit = record { low = pos 0; high = pos 1000000000000 }

-- a command's name, the ranges of the numbers after it, whether these are two crossed bounds, and the command that they make
pub record Form : Type 0 where
  pub name : List (List ℕ)
  pub ranges : List Range
  pub is_crossed : List ℤ → Bool
  pub made : List ℤ → Command

-- the k-th number of a command, from 0
abbrev pub whole : List ℤ → ℕ → ℤ
whole ns k = slice_index_or ns k (pos 0)

-- the same without a sign
abbrev pub natural : List ℤ → ℕ → ℕ
natural ns k = unsigned_abs (whole ns k)

-- the span from the k-th number to the next one
abbrev pub span_at : List ℤ → ℕ → Bounds
span_at ns k = record { lower = whole ns k; upper = whole ns (k + 1) }

-- the k-th number is above the next one
abbrev pub crosses_at : ℕ → List ℤ → Bool
crosses_at k ns = int_lt (whole ns (k + 1)) (whole ns k)

-- the ranges of the numbers of an activity
abbrev pub activity_ranges : List Range
activity_ranges = id ∷ id ∷ id ∷ bound ∷ bound ∷ weight ∷ []

-- the activity that six numbers stand for
abbrev pub activity_of : List ℤ → Activity
activity_of ns =
    record { id = natural ns 0; from = natural ns 1; to = natural ns 2; span = span_at ns 3; weight = natural ns 5 }

-- no bounds are crossed where there are none
abbrev pub never : List ℤ → Bool
never ns = false

-- a form without a span
abbrev pub plain : List ℕ → List Range → (List ℤ → Command) → Form
plain name ranges made = record { name = words_of name; ranges = ranges; is_crossed = never; made = made }

-- a form with a span at the k-th number
abbrev pub with_span : List ℕ → List Range → ℕ → (List ℤ → Command) → Form
with_span name ranges k made = record { name = words_of name; ranges = ranges; is_crossed = crosses_at k; made = made }

-- the form of each command
abbrev pub form_for : Name → Form
form_for name.AddEvent = plain (codes "add event") (id ∷ []) (λ ns. command.Edit (AddEvent (natural ns 0)))
form_for name.DropEvent = plain (codes "drop event") (id ∷ []) (λ ns. command.Edit (DropEvent (natural ns 0)))
form_for name.Fix = plain (codes "fix") (id ∷ time ∷ []) (λ ns. command.Edit (Fix (natural ns 0) (natural ns 1)))
form_for name.Window = plain (codes "window") (id ∷ time ∷ time ∷ []) (λ ns. command.Edit (SetWindow (natural ns 0) (natural ns 1) (natural ns 2)))
form_for name.Unfix = plain (codes "unfix") (id ∷ []) (λ ns. command.Edit (Unfix (natural ns 0)))
form_for name.AddActivity = with_span (codes "add activity") activity_ranges 3 (λ ns. command.Edit (AddActivity (activity_of ns)))
form_for name.DropActivity = plain (codes "drop activity") (id ∷ []) (λ ns. command.Edit (DropActivity (natural ns 0)))
form_for name.Span = with_span (codes "span") (id ∷ bound ∷ bound ∷ []) 1 (λ ns. command.Edit (SetSpan (natural ns 0) (span_at ns 1)))
form_for name.Weight = plain (codes "weight") (id ∷ weight ∷ []) (λ ns. command.Edit (SetWeight (natural ns 0) (natural ns 1)))
form_for name.Ends = plain (codes "ends") (id ∷ id ∷ id ∷ []) (λ ns. command.Edit (SetEnds (natural ns 0) (natural ns 1) (natural ns 2)))
form_for name.Time = plain (codes "time") (id ∷ time ∷ []) (λ ns. command.Time (natural ns 0) (natural ns 1))
form_for name.Untime = plain (codes "untime") (id ∷ []) (λ ns. command.Untime (natural ns 0))
form_for name.Adopt = plain (codes "adopt") [] (λ ns. command.Adopt)
form_for name.Domain = plain (codes "domain") (id ∷ []) (λ ns. command.Domain (natural ns 0))
form_for name.Domains = plain (codes "domains") [] (λ ns. command.Domains)
form_for name.Tensions = plain (codes "tensions") [] (λ ns. command.Tensions)
form_for name.Violations = plain (codes "violations") [] (λ ns. command.Violations)
form_for name.Cost = plain (codes "cost") [] (λ ns. command.Cost)
form_for name.Optimum = plain (codes "optimum") [] (λ ns. command.Optimum)
form_for name.Try = plain (codes "try") (limit ∷ []) (λ ns. command.TryOptimum (natural ns 0))
form_for name.Dump = plain (codes "dump") [] (λ ns. command.Dump)

-- the commands, none left out
abbrev pub names : List Name
names =
    name.AddEvent ∷ name.DropEvent ∷ name.Fix ∷ name.Window ∷ name.Unfix ∷ name.AddActivity
    ∷ name.DropActivity ∷ name.Span ∷ name.Weight ∷ name.Ends ∷ name.Time
    ∷ name.Untime ∷ name.Adopt ∷ name.Domain ∷ name.Domains ∷ name.Tensions
    ∷ name.Violations ∷ name.Cost ∷ name.Optimum ∷ name.Try ∷ name.Dump ∷ []

-- the fault of the k-th word, which is no number or one outside its range
abbrev pub fault_at : ℕ → Result ℤ NumberFault → Option ParseFault
fault_at k (Ok n) = None
fault_at k (Err number.NotANumber) = Some (fault.BadNumber k)
fault_at k (Err number.OutOfRange) = Some (fault.OutOfRange k)

-- the faults of words that are to be numbers of these ranges, the first of which is the k-th word
abbrev pub number_faults : ℕ → List Range → List (List ℕ) → List (Option ParseFault)
number_faults k [] words = []
number_faults k (range ∷ ranges) [] = []
number_faults k (range ∷ ranges) (w ∷ words) = fault_at k (number_in range.low range.high w) ∷ number_faults (k + 1) ranges words

-- the number that a word writes, and 0 where it writes none
abbrev pub number_of : List ℕ → ℤ
number_of w = unwrap_or (number_value w) (pos 0)

-- the words after a form's name
abbrev pub arguments : Form → List (List ℕ) → List (List ℕ)
arguments form words = drop (length form.name) words

-- the faults that words of a form may have, in order
abbrev pub form_faults : Form → List (List ℕ) → List (Option ParseFault)
form_faults form words =
    when (not (length words == length form.name + length form.ranges)) fault.WordCount
    ∷ number_faults (length form.name + 1) form.ranges (arguments form words)
    ++ when (form.is_crossed (map number_of (arguments form words))) fault.Crossed ∷ []

-- what words of a form say
abbrev pub parsed_by : Option Form → List (List ℕ) → Result (Option Command) ParseFault
parsed_by None words = Err fault.UnknownCommand
parsed_by (Some form) words = unless_refused (form_faults form words) (Some (form.made (map number_of (arguments form words))))

-- the form whose name the words begin with
abbrev pub form_of : List (List ℕ) → Option Form
form_of words = find (λ form. starts_with bytes_eq words form.name) (map form_for names)

-- what words say: nothing where there is none or the first begins with a hash
abbrev pub parsed_words : List (List ℕ) → Result (Option Command) ParseFault
parsed_words [] = Ok None
parsed_words (w ∷ words) = if slice_index w 0 == 35 then Ok None else parsed_by (form_of (w ∷ words)) (w ∷ words)

-- what a line says: a command, nothing, or a fault
abbrev pub parsed : List ℕ → Result (Option Command) ParseFault
parsed line = parsed_words (words_of line)
