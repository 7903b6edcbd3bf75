-- Six words are the words of an activity.
use Rattle.std.proofs.Common.{ap, sym, ◌∙◌}
use Rattle.pesp_shell_commands.specs.Forms.{first_fault, values}
use Rattle.pesp_shell_commands.specs.Parsed.{activity_of, activity_ranges, crosses_at}
use Rattle.pesp_shell_commands.proofs.NumberLemmas.{six_numbers, six_words}
use Rattle.pesp_shell_commands.proofs.numbers.Numbers.activity.Goals as goal

pub returns-in-Ok-clause-no_fault : goal.returns-in-Ok-clause-no_fault
returns-in-Ok-clause-no_fault c =
    ap (λ a. first_fault a activity_ranges (crosses_at 3)) (sym c.self.view_is)
    ∙ six_words c.self.inside.words.now c.self.inside.place _ c.in-len6.len_at_least c.in-len6.len_below ∙ c.in-Ok.ensures.no_fault

pub returns-in-Ok-clause-value : goal.returns-in-Ok-clause-value
returns-in-Ok-clause-value c =
    c.in-Ok.ensures.value ∙ six_numbers c.self.inside.words.now c.self.inside.place _ c.in-len6.len_at_least c.in-len6.len_below
    ∙ ap (λ a. activity_of (values a)) c.self.view_is

pub returns-in-Err-clause-fault : goal.returns-in-Err-clause-fault
returns-in-Err-clause-fault c =
    ap (λ a. first_fault a activity_ranges (crosses_at 3)) (sym c.self.view_is)
    ∙ six_words c.self.inside.words.now c.self.inside.place _ c.in-len6.len_at_least c.in-len6.len_below ∙ c.in-Err.ensures.fault
