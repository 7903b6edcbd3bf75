-- What `clap`'s meaning gives on a few command lines, by computation.
use Rattle.std.proofs.Common.{◌≡◌, refl, true, false, [], ◌∷◌, Some, None, codes}
use Rattle.std.specs.Prelude.{option_map, pos}
use Rattle.std.specs.Str.Parse.{signed_digits_value}
use Rattle.clap.specs.Takes.{is_given, takes}
use Rattle.clap.specs.Words.{fault_of, first_of}
use Rattle.clap.specs.declared.error.kind.ErrorKind.TheVariants.{DisplayVersion}
use Rattle.clap.proofs.OnLiterals.{clap_on_literals}
use Rattle.pesp_shell.specs.Settings.{matched, pespbench}

-- the name alone: the default period, no file and no check
bare_period : first_of (codes "period") (matched (codes "pespbench" ∷ [])) ≡ Some (codes "60")
unfolding pespbench clap_on_literals
bare_period = refl

bare_default : is_given (codes "period") (matched (codes "pespbench" ∷ [])) ≡ false
unfolding pespbench clap_on_literals
bare_default = refl

bare_activities : first_of (codes "ACTIVITIES") (matched (codes "pespbench" ∷ [])) ≡ None
unfolding pespbench clap_on_literals
bare_activities = refl

bare_check : is_given (codes "check") (matched (codes "pespbench" ∷ [])) ≡ false
unfolding pespbench clap_on_literals
bare_check = refl

-- a period, a check and a file
asked_period : option_map (signed_digits_value 10) (first_of (codes "period") (matched (codes "pespbench" ∷ codes "--period" ∷ codes "10" ∷ codes "--check" ∷ codes "a.act" ∷ []))) ≡ Some (pos 10)
unfolding pespbench clap_on_literals
asked_period = refl

asked_check : is_given (codes "check") (matched (codes "pespbench" ∷ codes "--period" ∷ codes "10" ∷ codes "--check" ∷ codes "a.act" ∷ [])) ≡ true
unfolding pespbench clap_on_literals
asked_check = refl

asked_activities : first_of (codes "ACTIVITIES") (matched (codes "pespbench" ∷ codes "--period" ∷ codes "10" ∷ codes "--check" ∷ codes "a.act" ∷ [])) ≡ Some (codes "a.act")
unfolding pespbench clap_on_literals
asked_activities = refl

-- the two files of times are told apart
fixed_file : first_of (codes "fixed") (matched (codes "pespbench" ∷ codes "--times" ∷ codes "t" ∷ codes "--fixed" ∷ codes "f" ∷ [])) ≡ Some (codes "f")
unfolding pespbench clap_on_literals
fixed_file = refl

-- a request for the version, in both forms, is none for anything else
asked_version : fault_of pespbench (codes "pespbench" ∷ codes "--version" ∷ []) ≡ DisplayVersion ∷ []
unfolding pespbench clap_on_literals
asked_version = refl

asked_shortly : fault_of pespbench (codes "pespbench" ∷ codes "-V" ∷ []) ≡ DisplayVersion ∷ []
unfolding pespbench clap_on_literals
asked_shortly = refl

-- a period within the limits is taken, and 1 and a word are not
taken : takes pespbench (codes "pespbench" ∷ codes "--period" ∷ codes "2" ∷ []) ≡ true
unfolding pespbench clap_on_literals
taken = refl

period_of_one : takes pespbench (codes "pespbench" ∷ codes "--period" ∷ codes "1" ∷ []) ≡ false
unfolding pespbench clap_on_literals
period_of_one = refl

period_of_no_number : takes pespbench (codes "pespbench" ∷ codes "--period" ∷ codes "x" ∷ []) ≡ false
unfolding pespbench clap_on_literals
period_of_no_number = refl

two_files : takes pespbench (codes "pespbench" ∷ codes "a" ∷ codes "b" ∷ []) ≡ false
unfolding pespbench clap_on_literals
two_files = refl
