-- Small cases of the definitions, by computation.
use Rattle.std.proofs.Common.{◌≡◌, refl, pos, negsuc, List, [], ◌∷◌, ◌++◌, map, Some, None, Ok, Err, codes}
use Rattle.std.specs.Fmt.{digits}
use Rattle.pesp_instance.specs.declared.edit.Edit.{Edit}
use Rattle.pesp_instance.specs.declared.edit.Edit.TheVariants as edit
use Rattle.pesplib_writer.specs.Script.{edit_line}
use Rattle.pesp_shell_commands.specs.declared.command.Command.TheVariants as command
use Rattle.pesp_shell_commands.specs.declared.parsing.ParseFault.TheVariants as fault
use Rattle.pesp_shell_commands.specs.Words.{words_of}
use Rattle.pesp_shell_commands.specs.Parsed.{parsed}
use Rattle.pesp_shell_commands.specs.Replayed.{said}

words_among_spaces : words_of (codes "  fix   1 2 ") ≡ codes "fix" ∷ codes "1" ∷ codes "2" ∷ []
words_among_spaces = refl

words_before_a_return : words_of (9 ∷ codes "cost" ++ 13 ∷ []) ≡ codes "cost" ∷ []
words_before_a_return = refl

no_words : words_of (32 ∷ 9 ∷ 13 ∷ []) ≡ []
no_words = refl

unknown : parsed (codes "add") ≡ Err fault.UnknownCommand
unknown = refl

capital : parsed (codes "Fix 1 2") ≡ Err fault.UnknownCommand
capital = refl

few_words : parsed (codes "fix 1") ≡ Err fault.WordCount
few_words = refl

no_number : parsed (codes "fix x 1") ≡ Err (fault.BadNumber 2)
no_number = refl

great_event : parsed (codes "add event 1000000000") ≡ Err (fault.OutOfRange 3)
great_event = refl

late_time : parsed (codes "fix 1 70000") ≡ Err (fault.OutOfRange 3)
late_time = refl

crossed : parsed (codes "span 1 5 3") ≡ Err fault.Crossed
crossed = refl

empty : parsed [] ≡ Ok None
empty = refl

comment : parsed (codes "# text") ≡ Ok None
comment = refl

activity : parsed (codes "add activity 1 1 2 -3 5 2")
    ≡ Ok (Some (command.Edit (edit.AddActivity (record { id = 1; from = 1; to = 2; span = record { lower = negsuc 2; upper = pos 5 }; weight = 2 }))))
activity = refl

-- the line of each edit says that edit
abbrev edits : List Edit
edits =
    edit.AddEvent 7
    ∷ edit.DropEvent 7
    ∷ edit.Fix 7 9
    ∷ edit.Unfix 7
    ∷ edit.AddActivity (record { id = 1; from = 7; to = 8; span = record { lower = negsuc 2; upper = pos 15 }; weight = 20 })
    ∷ edit.DropActivity 1
    ∷ edit.SetSpan 1 (record { lower = negsuc 4; upper = pos 0 })
    ∷ edit.SetWeight 1 100
    ∷ edit.SetEnds 1 8 7 ∷ []

lines_of_edits : map (λ e. parsed (edit_line e)) edits ≡ map said edits
unfolding digits
lines_of_edits = refl

search_limit : parsed (codes "try 1000000000000") ≡ Ok (Some (command.TryOptimum 1000000000000))
search_limit = refl
