-- The forms of commands by their names, and the first fault of the numbers after a name.
use Rattle.std.specs.Prelude.{ℕ, ◌+◌, ◌≡◌, ◌≤◌, Bool, not, ◌==◌, int_lt, List, [], ◌∷◌, ◌++◌, length, map, ℤ, unsigned_abs, Option, Some, None, option_map, bytes_eq, Result, Ok, Err}
use Rattle.std.specs.Borrow.{Bor}
use Rattle.std.specs.List.{starts_with}
use Rattle.pesp_base.specs.declared.activity.Activity.{Activity}
use Rattle.pesp_base.specs.Numbers.{number_in}
use Rattle.pesp_base.specs.Refusals.{when}
use Rattle.pesp_shell_commands.specs.declared.command.Command.{Command}
use Rattle.pesp_shell_commands.specs.declared.name.Name.{Name}
use Rattle.pesp_shell_commands.specs.declared.numbers.ActivityWords.{ActivityWords}
use Rattle.pesp_shell_commands.specs.declared.parsing.ParseFault.{ParseFault}
use Rattle.pesp_shell_commands.specs.declared.parsing.ParseFault.TheVariants as fault
use Rattle.pesp_shell_commands.specs.Parsed.{Range, Form, arguments, fault_at, form_for, bound, id, number_faults, number_of, weight}
use Rattle.pesp_shell_commands.specs.Words.{texts}

-- the words after a command's name, the first of which stands at a place of the line
pub record Arguments : Type 0 where
  pub words : List (List ℕ)
  pub place : ℕ

abbrev pub values : Arguments → List ℤ
values a = map number_of a.words

-- the fault of the word at a place, which is no number or one outside its range
abbrev pub word_fault : ℕ → Range → List ℕ → Option ParseFault
word_fault place range word = fault_at place (number_in range.low range.high word)

-- the first fault of several
abbrev pub first_of : List (Option ParseFault) → Option ParseFault
first_of [] = None
first_of (None ∷ faults) = first_of faults
first_of (Some fault ∷ faults) = Some fault

-- the faults of the numbers of an activity, the first of which stands at a place
abbrev pub activity_faults : ℕ → ActivityWords → List (Option ParseFault)
activity_faults place words =
    word_fault place id words.id.now
    ∷ word_fault (place + 1) id words.from.now
    ∷ word_fault (place + 2) id words.to.now
    ∷ word_fault (place + 3) bound words.lower.now
    ∷ word_fault (place + 4) bound words.upper.now
    ∷ word_fault (place + 5) weight words.weight.now
    ∷ when (int_lt (number_of words.upper.now) (number_of words.lower.now)) fault.Crossed ∷ []

-- the activity that they stand for
abbrev pub activity_from : ActivityWords → Activity
activity_from words = record {
  id = unsigned_abs (number_of words.id.now);
  from = unsigned_abs (number_of words.from.now);
  to = unsigned_abs (number_of words.to.now);
  span = record { lower = number_of words.lower.now; upper = number_of words.upper.now };
  weight = unsigned_abs (number_of words.weight.now);
}

-- the faults that words may have which are to be numbers of these ranges, in order
abbrev pub faults_in : Arguments → List Range → (List ℤ → Bool) → List (Option ParseFault)
faults_in a ranges is_crossed =
    when (not (length a.words == length ranges)) fault.WordCount ∷ number_faults a.place ranges a.words ++ when (is_crossed (values a)) fault.Crossed ∷ []

-- the first of them
unfoldable pub first_fault : Arguments → List Range → (List ℤ → Bool) → Option ParseFault
first_fault a ranges is_crossed = first_of (faults_in a ranges is_crossed)

-- a command, unless there is a fault
abbrev pub unless_faulty : Option ParseFault → Command → Result Command ParseFault
unless_faulty None command = Ok command
unless_faulty (Some fault) command = Err fault

-- what the words after a name say
abbrev pub said : Name → Arguments → Result Command ParseFault
said name a = unless_faulty (first_fault a (form_for name).ranges (form_for name).is_crossed) ((form_for name).made (values a))

-- whether words begin with a form's name
abbrev pub begins_with : List (List ℕ) → Form → Bool
begins_with words form = starts_with bytes_eq words form.name

-- the form of a name that was found
abbrev pub form_found : Option (Name × Arguments) → Option Form
form_found found = option_map (λ p. form_for p.0) found

-- the words of a command are those of its form, of which there are two at most
pub record IsNamed (row : Bor (List (Bor (List ℕ))) × Name) : Type 0 where
  pub words : texts row.0.now ≡ (form_for row.1).name
  pub few : length row.0.now ≤ 2

-- the words after a form's name
pub record AreAfter (line : List (List ℕ)) (form : Form) (a : Arguments) : Type 0 where
  pub within : length form.name ≤ length line
  pub words : a.words ≡ arguments form line
  pub place : a.place ≡ length form.name + 1

-- a command, as what a line says
abbrev pub as_said : Result Command ParseFault → Result (Option Command) ParseFault
as_said (Ok command) = Ok (Some command)
as_said (Err fault) = Err fault
