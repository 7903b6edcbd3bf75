-- What a line without a fault gives `--period` and `--check`.
use Rattle.std.proofs.Common.{◌≡◌, ◌∙◌, ◌&&◌, not, ◌==◌, ◌∷◌, [], ℕ, Bool, true, false, List, Some, is_some, refl, sym, ap, subst, length, arith, inl, inr, codes, ◌⊎◌, eqb-true, true≢false}
use Rattle.std.specs.Prelude.{if◌then◌else◌, pos, option_and_then, slice_get}
use Rattle.std.specs.List.{fold}
use Rattle.std.specs.Str.{bytes_eq}
use Rattle.clap.specs.Kinds.{Kinds, or_else, range_kinds, value_kinds}
use Rattle.clap.specs.Values.{IsSignedIn}
use Rattle.clap.specs.ValueTests.{accepts}
use Rattle.clap.specs.Lexer.{without_minus}
use Rattle.clap.specs.Simple.{argument_words, built, entered, filled, help_rule, matches_of, names_of, version_rule, with_index}
use Rattle.clap.specs.Takes.{is_given}
use Rattle.clap.specs.Faults.{action_fault, entered_fault, fault_of, repeat_fault, values_fault}
use Rattle.clap.specs.Walk.{Row, Rule, Text, first_of, has_row, nothing_held, one_of, settled, values_or_missing, walk, with_default, with_values, without}
use Rattle.clap.specs.declared.error.kind.ErrorKind.TheVariants as kind
use Rattle.clap.specs.declared.builder.action.ArgAction.TheVariants.{Set, SetTrue}
use Rattle.clap.specs.declared.builder.value_parser.Reading.{Reading}
use Rattle.clap.specs.declared.builder.value_parser.Reading.TheVariants.{AsWritten, WithoutMinus}
use Rattle.clap.specs.declared.builder.value_parser.ValueParser.TheVariants.{Signed}
use Rattle.clap.specs.declared.parser.matches.ValueSource.TheVariants.{CommandLine, DefaultValue}
use Rattle.clap.proofs.ValueTestLemmas.{accepts-Accepts}
use Rattle.pesp_base.specs.Limits.{greatest_period, least_period}
use Rattle.pesp_shell.specs.Settings.{activities_rule, check_rule, file_rule, period_rule, pespbench}
use Rattle.pesp_shell.proofs.RowLemmas.{Each, each_more, each_weaker, found_row, given_at, kept_row, new_row, read_at, set_joins, some_row, values_join}
use Rattle.pesp_shell.proofs.FaultlessWords.{AllKeep, Keeps, level_keeps, no_fault}

-- ---- one use

-- a use that sets a value is the first, and its values pass
set_use : (id : Text) (rows : List Row) (faults : Kinds) → or_else (repeat_fault false id rows) faults ≡ [] → (has_row id rows ≡ false) × (faults ≡ [])
set_use id rows faults e = go (has_row id rows) e
  where
    go : (b : Bool) → or_else (if b && not false then kind.ArgumentConflict ∷ [] else []) faults ≡ [] → (b ≡ false) × (faults ≡ [])
    go true e = cc
    go false e = (refl, e)

one_wanted : (n : ℕ) → range_kinds 1 1 n ≡ [] → n ≡ 1
one_wanted n e = go (n == 0) (1 == n) (eqb-true 1 n) e
  where
    go : (b c : Bool) → (c ≡ true → 1 ≡ n) → (if b then kind.InvalidValue ∷ [] else (if c then [] else kind.WrongNumberOfValues ∷ [])) ≡ [] → n ≡ 1
    go true c is e = cc
    go false true is e = sym (is refl)
    go false false is e = cc

none_wanted : (n : ℕ) → range_kinds 0 0 n ≡ [] → n ≡ 0
none_wanted n e = go (0 == n) (eqb-true 0 n) e
  where
    go : (c : Bool) → (c ≡ true → 0 ≡ n) → (if c then [] else kind.WrongNumberOfValues ∷ []) ≡ [] → n ≡ 0
    go true is e = sym (is refl)
    go false is e = cc

single : (values : List Text) → length values ≡ 1 → (v : Text) × (values ≡ v ∷ [])
single [] e = absurd (omega arith)
single (v ∷ []) e = (v, refl)
single (v ∷ (w ∷ rest)) e = absurd (omega arith)

no_values : (values : List Text) → length values ≡ 0 → values ≡ []
no_values [] e = refl
no_values (v ∷ rest) e = absurd (omega arith)

test_passes : (b : Bool) (k : Kinds) → or_else (if b then [] else kind.ValueValidation ∷ []) k ≡ [] → b ≡ true
test_passes true k e = refl
test_passes false k e = cc

-- ---- what the words give

abbrev is_limited : Text → Bool
is_limited text = accepts false (Signed (pos least_period) (pos greatest_period)) text

-- the words gave one period, within the limits
record IsGivenPeriod (r : Row) : Type 0 where
  pub text : Text
  pub values : r.values ≡ text ∷ []
  pub accepted : is_limited text ≡ true
  pub reading : r.reading ≡ WithoutMinus
  pub source : r.source ≡ Some CommandLine

-- the words set the flag
record IsGivenCheck (r : Row) : Type 0 where
  pub values : r.values ≡ codes "true" ∷ []
  pub reading : r.reading ≡ AsWritten
  pub source : r.source ≡ Some CommandLine

record IsGivenRow (r : Row) : Type 0 where
  pub period : bytes_eq r.id (codes "period") ≡ true → IsGivenPeriod r
  pub check : bytes_eq r.id (codes "check") ≡ true → IsGivenCheck r

abbrev AreGiven : List Row → Type 0
AreGiven = Each IsGivenRow

-- an argument of another name changes neither
other_keeps : (id : Text) (values : List Text) (rows : List Row) (faults : Kinds) → bytes_eq id (codes "period") ≡ false → bytes_eq id (codes "check") ≡ false
    → or_else (repeat_fault false id rows) faults ≡ [] → AreGiven rows → AreGiven (with_values id AsWritten CommandLine values (without id rows))
other_keeps id values rows faults p k e g =
    let given : IsGivenRow (new_row id AsWritten CommandLine values) = record {
      period = λ h. absurd (true≢false (sym h ∙ p));
      check = λ h. absurd (true≢false (sym h ∙ k));
    } in
    subst AreGiven (sym (set_joins id AsWritten values rows (set_use id rows faults e).0)) (each_more IsGivenRow rows (new_row id AsWritten CommandLine values) g given)

-- the arguments as building fills them in
abbrev period : Rule
period = with_index 1 (filled period_rule)

abbrev file : Text → Rule
file name = with_index 1 (filled (file_rule name))

abbrev check : Rule
check = with_index 1 (filled check_rule)

abbrev activities : Rule
activities = with_index 1 (filled activities_rule)

abbrev help : Rule
help = with_index 1 (filled help_rule)

abbrev version : Rule
version = with_index 1 (filled version_rule)

one_period : (text : Text) (rows : List Row) → or_else (repeat_fault false (codes "period") rows) (or_else (value_kinds false (Signed (pos least_period) (pos greatest_period)) text) []) ≡ []
    → AreGiven rows → AreGiven (with_values (codes "period") WithoutMinus CommandLine (text ∷ []) (without (codes "period") rows))
one_period text rows e g =
    let s = set_use (codes "period") rows (or_else (value_kinds false (Signed (pos least_period) (pos greatest_period)) text) []) e in
    let row = new_row (codes "period") WithoutMinus CommandLine (text ∷ []) in
    let given : IsGivenRow row = record {
      period = λ h. record { text = text; values = refl; accepted = test_passes (is_limited text) [] s.1; reading = refl; source = refl };
      check = λ h. absurd (true≢false (sym h));
    } in
    subst AreGiven (sym (set_joins (codes "period") WithoutMinus (text ∷ []) rows s.0)) (each_more IsGivenRow rows row g given)

period_keeps : Keeps AreGiven false period
period_keeps [] rows e g = cc
period_keeps (v ∷ []) rows e g = one_period v rows e g
period_keeps (v ∷ (w ∷ rest)) rows e g =
    let f = no_fault (range_kinds 1 1 (length (v ∷ (w ∷ rest)))) (action_fault Set false period (v ∷ (w ∷ rest)) rows) e in
    let one = one_wanted (length (v ∷ (w ∷ rest))) f.0 in
    absurd (omega arith)

flag_set : (rows : List Row) → or_else (repeat_fault false (codes "check") rows) [] ≡ [] → AreGiven rows
    → AreGiven (with_values (codes "check") AsWritten CommandLine (codes "true" ∷ []) (without (codes "check") rows))
flag_set rows e g =
    let s = set_use (codes "check") rows [] e in
    let row = new_row (codes "check") AsWritten CommandLine (codes "true" ∷ []) in
    let given : IsGivenRow row = record {
      period = λ h. absurd (true≢false (sym h));
      check = λ h. record { values = refl; reading = refl; source = refl };
    } in
    subst AreGiven (sym (set_joins (codes "check") AsWritten (codes "true" ∷ []) rows s.0)) (each_more IsGivenRow rows row g given)

check_keeps : Keeps AreGiven false check
check_keeps [] rows e g = flag_set rows e g
check_keeps (v ∷ rest) rows e g =
    let f = no_fault (range_kinds 0 0 (length (v ∷ rest))) (action_fault SetTrue false check (v ∷ rest) rows) e in
    let none = none_wanted (length (v ∷ rest)) f.0 in
    absurd (omega arith)

file_keeps : (name : Text) → bytes_eq name (codes "period") ≡ false → bytes_eq name (codes "check") ≡ false → Keeps AreGiven false (file name)
file_keeps name p k values rows e g =
    let f = no_fault (range_kinds 1 1 (length values)) (action_fault Set false (file name) (values_or_missing (file name) values) rows) e in
    other_keeps name (values_or_missing (file name) values) rows (values_fault (file name) (values_or_missing (file name) values)) p k f.1 g

activities_keeps : Keeps AreGiven false activities
activities_keeps values rows e g =
    let f = no_fault (range_kinds 1 1 (length values)) (action_fault Set false activities (values_or_missing activities values) rows) e in
    other_keeps (codes "ACTIVITIES") (values_or_missing activities values) rows (values_fault activities (values_or_missing activities values)) refl refl f.1 g

abbrev arguments : List Rule
arguments = period ∷ (file (codes "fixed") ∷ (file (codes "times") ∷ (check ∷ (activities ∷ (help ∷ (version ∷ []))))))

all_keep : AllKeep AreGiven false arguments
all_keep = (
  period_keeps,
  (file_keeps (codes "fixed") refl refl, (file_keeps (codes "times") refl refl, (check_keeps, (activities_keeps, ((λ values rows e g. g), ((λ values rows e g. g), tt)))))),
)

-- ---- with defaults

record IsPeriodRow (r : Row) : Type 0 where
  pub text : Text
  pub values : r.values ≡ text ∷ []
  pub accepted : is_limited text ≡ true
  pub reading : r.reading ≡ WithoutMinus
  pub source : (r.source ≡ Some CommandLine) ⊎ ((r.source ≡ Some DefaultValue) × (text ≡ codes "60"))

record IsCheckRow (r : Row) : Type 0 where
  pub reading : r.reading ≡ AsWritten
  pub source : ((r.source ≡ Some CommandLine) × (r.values ≡ codes "true" ∷ [])) ⊎ ((r.source ≡ Some DefaultValue) × (r.values ≡ codes "false" ∷ []))

record IsDoneRow (r : Row) : Type 0 where
  pub period : bytes_eq r.id (codes "period") ≡ true → IsPeriodRow r
  pub check : bytes_eq r.id (codes "check") ≡ true → IsCheckRow r

given_is_done : (r : Row) → IsGivenRow r → IsDoneRow r
given_is_done r given = record {
  period = λ h.
      let p = given.period h in
      record { text = p.text; values = p.values; accepted = p.accepted; reading = p.reading; source = inl p.source };
  check = λ h.
      let k = given.check h in
      record { reading = k.reading; source = inl (k.source, k.values) };
}

period_default : IsDoneRow (new_row (codes "period") WithoutMinus DefaultValue (codes "60" ∷ []))
period_default = record {
  period = λ h. record { text = codes "60"; values = refl; accepted = refl; reading = refl; source = inr (refl, refl) };
  check = λ h. absurd (true≢false (sym h));
}

check_default : IsDoneRow (new_row (codes "check") AsWritten DefaultValue (codes "false" ∷ []))
check_default = record {
  period = λ h. absurd (true≢false (sym h));
  check = λ h. record { reading = refl; source = inr (refl, refl) };
}

-- the rows with a default where the id has no row yet
abbrev defaulted : Text → Reading → Text → List Row → Bool → List Row
defaulted id how v rows b = if b then rows else with_values id how DefaultValue (v ∷ []) rows

default_done : (id : Text) (how : Reading) (v : Text) (rows : List Row) (b : Bool) → has_row id rows ≡ b → IsDoneRow (new_row id how DefaultValue (v ∷ []))
    → Each IsDoneRow rows → Each IsDoneRow (defaulted id how v rows b)
default_done id how v rows true is row all = all
default_done id how v rows false is row all =
    subst (Each IsDoneRow) (sym (values_join id how DefaultValue (v ∷ []) rows is)) (each_more IsDoneRow rows (new_row id how DefaultValue (v ∷ [])) all row)

default_there : (id : Text) (how : Reading) (v : Text) (rows : List Row) (b : Bool) → has_row id rows ≡ b → bytes_eq id id ≡ true
    → has_row id (defaulted id how v rows b) ≡ true
default_there id how v rows true is same = is
default_there id how v rows false is same =
    ap (has_row id) (values_join id how DefaultValue (v ∷ []) rows is) ∙ some_row id rows (new_row id how DefaultValue (v ∷ [])) same

default_keeps : (other id : Text) (how : Reading) (v : Text) (rows : List Row) (b : Bool) → has_row id rows ≡ b → has_row other rows ≡ true
    → has_row other (defaulted id how v rows b) ≡ true
default_keeps other id how v rows true is h = h
default_keeps other id how v rows false is h =
    ap (has_row other) (values_join id how DefaultValue (v ∷ []) rows is) ∙ kept_row other rows (new_row id how DefaultValue (v ∷ [])) h

no_default : (P : List Row → Type 0) (b : Bool) (rows : List Row) → P rows → P (if b then rows else rows)
no_default P true rows p = p
no_default P false rows p = p

record HasPeriodRow (rows : List Row) : Type 0 where
  pub done : Each IsDoneRow rows
  pub period : has_row (codes "period") rows ≡ true

record AreReady (rows : List Row) : Type 0 where
  pub done : Each IsDoneRow rows
  pub period : has_row (codes "period") rows ≡ true
  pub check : has_row (codes "check") rows ≡ true

with_period : (rows : List Row) → AreGiven rows → HasPeriodRow (with_default rows period)
with_period rows given = record {
  done = default_done (codes "period") WithoutMinus (codes "60") rows (has_row (codes "period") rows) refl period_default (each_weaker IsGivenRow IsDoneRow given_is_done rows given);
  period = default_there (codes "period") WithoutMinus (codes "60") rows (has_row (codes "period") rows) refl refl;
}

with_check : (rows : List Row) → HasPeriodRow rows → AreReady (with_default rows check)
with_check rows has = record {
  done = default_done (codes "check") AsWritten (codes "false") rows (has_row (codes "check") rows) refl check_default has.done;
  period = default_keeps (codes "period") (codes "check") AsWritten (codes "false") rows (has_row (codes "check") rows) refl has.period;
  check = default_there (codes "check") AsWritten (codes "false") rows (has_row (codes "check") rows) refl refl;
}

with_file : (name : Text) (rows : List Row) → HasPeriodRow rows → HasPeriodRow (with_default rows (file name))
with_file name rows has = no_default HasPeriodRow (has_row name rows) rows has

with_activities : (rows : List Row) → AreReady rows → AreReady (with_default rows activities)
with_activities rows has = no_default AreReady (has_row (codes "ACTIVITIES") rows) rows has

with_help : (rows : List Row) → AreReady rows → AreReady (with_default rows help)
with_help rows has = no_default AreReady (has_row (codes "help") rows) rows has

with_version : (rows : List Row) → AreReady rows → AreReady (with_default rows version)
with_version rows has = no_default AreReady (has_row (codes "version") rows) rows has

with_defaults : (rows : List Row) → AreGiven rows → AreReady (fold with_default rows arguments)
with_defaults rows given =
    with_version _ (with_help _ (with_activities _ (with_check _ (with_file (codes "times") _ (with_file (codes "fixed") _ (with_period rows given))))))

-- a line without a fault has the rows of the period and of the flag
line_is_ready : (words : List Text) → fault_of pespbench words ≡ [] → AreReady (matches_of pespbench words)
unfolding pespbench
line_is_ready words e =
    let shape = (built pespbench).top in
    let names = names_of (built pespbench) in
    let rest = argument_words pespbench words in
    let stop = (walk arguments names nothing_held rest).stopped in
    with_defaults (settled arguments (walk arguments names nothing_held rest).held).rows
    (level_keeps AreGiven shape names all_keep rest (is_some (entered (built pespbench) stop)) (entered_fault (built pespbench) stop) e tt)

-- ---- what the getters read

-- the rows have a period within the limits
pub record HasPeriod (rows : List Row) : Type 0 where
  pub text : Text
  pub first : first_of (codes "period") rows ≡ Some text
  pub read : one_of (codes "period") rows ≡ Some (without_minus text)
  pub accepted : IsSignedIn (pos least_period) (pos greatest_period) text
  pub default : is_given (codes "period") rows ≡ false → text ≡ codes "60"

-- the flag reads true where the words give it, and else false
abbrev pub ReadsFlag : List Row → Type 0
ReadsFlag rows = ((is_given (codes "check") rows ≡ true) × (one_of (codes "check") rows ≡ Some (codes "true")))
    ⊎ ((is_given (codes "check") rows ≡ false) × (one_of (codes "check") rows ≡ Some (codes "false")))

period_in : (rows : List Row) → AreReady rows → HasPeriod rows
period_in rows ready =
    let found = found_row IsDoneRow (codes "period") rows ready.period ready.done in
    let row = found.3.period found.2 in
    record {
      text = row.text;
      first = ap (option_and_then (λ (x : Row). slice_get x.values 0)) found.1 ∙ ap (λ (vs : List Text). slice_get vs 0) row.values;
      read = read_at (codes "period") rows found.0 WithoutMinus row.text found.1 row.reading row.values;
      accepted = accepts-Accepts false (Signed (pos least_period) (pos greatest_period)) row.text row.accepted;
      default = λ none. elim row.source [
        | inl given ↦ absurd (true≢false (sym (given_at (codes "period") rows found.0 (Some CommandLine) found.1 given) ∙ none))
        | inr fallback ↦ fallback.1
      ];
    }

flag_in : (rows : List Row) → AreReady rows → ReadsFlag rows
flag_in rows ready =
    let found = found_row IsDoneRow (codes "check") rows ready.check ready.done in
    let row = found.3.check found.2 in
    elim row.source [
      | inl given ↦ inl (given_at (codes "check") rows found.0 (Some CommandLine) found.1 given.0, read_at (codes "check") rows found.0 AsWritten (codes "true") found.1 row.reading given.1)
      | inr none ↦ inr (given_at (codes "check") rows found.0 (Some DefaultValue) found.1 none.0, read_at (codes "check") rows found.0 AsWritten (codes "false") found.1 row.reading none.1)
    ]

pub line_has_period : (words : List Text) → fault_of pespbench words ≡ [] → HasPeriod (matches_of pespbench words)
line_has_period words e = period_in (matches_of pespbench words) (line_is_ready words e)

pub line_reads_flag : (words : List Text) → fault_of pespbench words ≡ [] → ReadsFlag (matches_of pespbench words)
line_reads_flag words e = flag_in (matches_of pespbench words) (line_is_ready words e)
