use Rattle.std.proofs.Common.{ap, codes, subst, sym, ◌≡◌, ◌∙◌}
use Rattle.clap.proofs.FaultLemmas.{failed_up}
use Rattle.clap.proofs.TakesLemmas.{passed_up}
use Rattle.clap.proofs.WalkLemmas.{first_value-rows}
use Rattle.clap.specs.Walk.{first_of, texts}
use Rattle.clap.specs.Words.{App, app_of, fault_of, found_of, matches_of, takes}
use Rattle.pesp_shell.specs.Settings.{pespbench}
use Rattle.pesp_shell.proofs.FaultlessSettings.{line_reads_flag}
use Rattle.pesp_shell.proofs.ReadSettings.{IsPeriodOf, flag_read, number_is_period, number_is_read, refused_by, some_value, some_where, taken_has_no_fault, taken_rows}
use Rattle.pesp_shell.proofs.options.settings.Goals as goal

pub unwrap-number-requires : goal.unwrap-number-requires
unwrap-number-requires c =
    number_is_read (app_of c.in_ok-command.command) (texts c.args.words.now) c.in_ok-matches.matches c.in_ok-command.ensures
    c.in_ok-matches.ensures.kinds c.in_ok-matches.ensures.matches c.get_one.result c.get_one.ensures.value

pub unwrap-period-requires : goal.unwrap-period-requires
unwrap-period-requires c =
    let period = number_is_period (app_of c.in_ok-command.command) (texts c.args.words.now) c.in_ok-matches.matches c.in_ok-command.ensures
    c.in_ok-matches.ensures.kinds c.in_ok-matches.ensures.matches c.get_one.result c.get_one.ensures.value
    c.unwrap-number.result c.unwrap-number.ensures in
    some_where c.new.result _ _ c.new.ensures (period.least, period.greatest)

pub returns-clause-kinds : goal.returns-clause-kinds
returns-clause-kinds c = taken_has_no_fault (app_of c.in_ok-command.command) (texts c.args.words.now) c.in_ok-command.ensures c.in_ok-matches.ensures.kinds

-- each getter reads the rows of the line
pub returns-clause-settings : goal.returns-clause-settings
returns-clause-settings c =
    let words = texts c.args.words.now in
    let app = app_of c.in_ok-command.command in
    let m = c.in_ok-matches.matches in
    let fault = taken_has_no_fault app words c.in_ok-command.ensures c.in_ok-matches.ensures.kinds in
    let rows = taken_rows app words m c.in_ok-command.ensures c.in_ok-matches.ensures.matches in
    let number = number_is_period app words m c.in_ok-command.ensures c.in_ok-matches.ensures.kinds c.in_ok-matches.ensures.matches
    c.get_one.result c.get_one.ensures.value c.unwrap-number.result c.unwrap-number.ensures in
    let same : c.unwrap-period.result ≡ c.unwrap-number.result = some_value c.new.result _ _ c.unwrap-period.result c.new.ensures c.unwrap-period.ensures in
    let period : IsPeriodOf (matches_of pespbench words) c.unwrap-period.result = subst (IsPeriodOf (matches_of pespbench words)) (sym same) number in
    record {
      period = period.written;
      default = period.default;
      fixed = c.get_str.ensures ∙ first_value-rows (found_of m) (codes "fixed") ∙ ap (first_of (codes "fixed")) rows;
      times = c.get_str-2.ensures ∙ first_value-rows (found_of m) (codes "times") ∙ ap (first_of (codes "times")) rows;
      activities = c.get_str-3.ensures ∙ first_value-rows (found_of m) (codes "ACTIVITIES") ∙ ap (first_of (codes "ACTIVITIES")) rows;
      check = flag_read m (matches_of pespbench words) c.get_flag.result rows (line_reads_flag words fault) c.get_flag.ensures.value c.get_flag.ensures.other;
    }

-- an error of the parse is passed up
pub returns-in_err-matches-clause-taken : goal.returns-in_err-matches-clause-taken
returns-in_err-matches-clause-taken c =
    let words = texts c.args.words.now in
    let app = app_of c.in_ok-command.command in
    passed_up c.from_residual-in_err-matches.result c.in_err-matches.field-0.0 _ c.from_residual-in_err-matches.ensures.1
    (λ taken. c.in_err-matches.ensures.passes (ap (λ (a : App). takes a words) c.in_ok-command.ensures ∙ taken))

pub returns-in_err-matches-clause-kinds : goal.returns-in_err-matches-clause-kinds
returns-in_err-matches-clause-kinds c =
    let words = texts c.args.words.now in
    let app = app_of c.in_ok-command.command in
    failed_up c.from_residual-in_err-matches.result c.in_err-matches.field-0.0 _ (fault_of pespbench words) c.from_residual-in_err-matches.ensures.1
    (refused_by app words c.in_err-matches.field-0.0 c.in_ok-command.ensures c.in_err-matches.ensures.kinds)
