use Rattle.std.proofs.Common.{rules, ap, ap₂, codes, true, ◌≡◌, ◌∙◌}
use Rattle.clap.specs.Simple.{App, app_of_fields, on_top}
use Rattle.clap.specs.Words.{app_of, rule_of, with_rule}
use Rattle.pesp_shell.specs.Settings.{activities_rule, check_rule, file_rule, period_rule, pespbench, versioned}
use Rattle.pesp_shell.proofs.options.command.Goals as goal

-- the arguments join one after the other
pub returns : goal.returns
unfolding pespbench
returns c =
    let activities_is : rule_of c.help-activities.result ≡ activities_rule = search rules in
    let numbered : app_of c.version.result ≡ versioned = ap app_of_fields c.version.ensures ∙ ap (on_top (λ s. record s { has_version = true })) c.new-2.ensures.app in
    let described : app_of c.about.result ≡ versioned = ap app_of_fields c.about.ensures ∙ numbered in
    let none : app_of c.after_help.result ≡ versioned = ap app_of_fields c.after_help.ensures ∙ described in
    let one : App = with_rule versioned period_rule in
    let first : app_of c.in_ok-arg.field-0 ≡ one = c.in_ok-arg.ensures.shape c.period_option-period.ensures.local ∙ ap₂ with_rule none c.period_option-period.ensures.rule in
    let two : App = with_rule one (file_rule (codes "fixed")) in
    let second : app_of c.in_ok-arg-2.field-0 ≡ two = c.in_ok-arg-2.ensures.shape c.file_option-fixed.ensures.local ∙ ap₂ with_rule first c.file_option-fixed.ensures.rule in
    let three : App = with_rule two (file_rule (codes "times")) in
    let third : app_of c.in_ok-arg-3.field-0 ≡ three = c.in_ok-arg-3.ensures.shape c.file_option-times.ensures.local ∙ ap₂ with_rule second c.file_option-times.ensures.rule in
    let four : App = with_rule three check_rule in
    let fourth : app_of c.in_ok-arg-4.field-0 ≡ four = c.in_ok-arg-4.ensures.shape c.check_option-check.ensures.local ∙ ap₂ with_rule third c.check_option-check.ensures.rule in
    c.in_ok-command.ensures.shape (search rules) ∙ ap₂ with_rule fourth activities_is
