-- The command line `pespbench [--period T] [--fixed FILE] [--times FILE] [--check] [ACTIVITIES]`,
-- which also answers `--version`, and what it asks for.
use Rattle.std.specs.Prelude.{◌≡◌, false, true, List, [], ◌∷◌, Some, option_map, codes, pos}
use Rattle.std.specs.Str.Parse.{signed_digits_value}
use Rattle.clap.specs.Takes.{is_given}
use Rattle.clap.specs.Simple.{on_top}
use Rattle.clap.specs.Words.{App, Row, Rule, Text, first_of, matches_of, new_app, new_rule, with_rule}
use Rattle.clap.specs.declared.builder.ArgAction.TheVariants.{SetTrue}
use Rattle.clap.specs.declared.builder.ValueParser.TheVariants.{Signed}
use Rattle.pesp_base.specs.Limits.{least_period, greatest_period}
use Rattle.pesp_shell.specs.declared.arguments.Settings.{Settings}

-- `--period T`: a number within the limits, and 60 where the words give none
abbrev pub period_rule : Rule
period_rule = record (new_rule (codes "period")) {
  long = Some (codes "period");
  value_names = 1;
  defaults = codes "60" ∷ [];
  parser = Some (Signed (pos least_period) (pos greatest_period));
}

-- `--name FILE`
abbrev pub file_rule : Text → Rule
file_rule name = record (new_rule name) { long = Some name; value_names = 1 }

-- `--check`, which takes no value
abbrev pub check_rule : Rule
check_rule = record (new_rule (codes "check")) {
  long = Some (codes "check");
  action = Some SetTrue;
}

-- one word that is no option: the file of activities
abbrev pub activities_rule : Rule
activities_rule = new_rule (codes "ACTIVITIES")

-- the command before it has arguments, which answers `--version`
abbrev pub versioned : App
versioned = on_top (λ s. record s { has_version = true }) (new_app (codes "pespbench"))

-- the command, with its arguments in the order in which help shows them
unfoldable pub pespbench : App
pespbench = with_rule (with_rule (with_rule (with_rule (with_rule versioned period_rule)
    (file_rule (codes "fixed"))) (file_rule (codes "times"))) check_rule) activities_rule

-- what the words give each argument of the command
abbrev pub matched : List Text → List Row
matched words = matches_of pespbench words

-- the settings are those of a line that the command takes: the number that the value of `--period`
-- writes, the files as they were given, and whether `--check` was
pub record AreSettings (words : List Text) (settings : Settings) : Type 0 where
  pub period : option_map (signed_digits_value 10) (first_of (codes "period") (matched words)) ≡ Some (pos settings.period)
  pub default : is_given (codes "period") (matched words) ≡ false → settings.period ≡ 60
  pub fixed : option_map (λ s. s.now) settings.fixed ≡ first_of (codes "fixed") (matched words)
  pub times : option_map (λ s. s.now) settings.times ≡ first_of (codes "times") (matched words)
  pub activities : option_map (λ s. s.now) settings.activities ≡ first_of (codes "ACTIVITIES") (matched words)
  pub check : settings.check ≡ is_given (codes "check") (matched words)
