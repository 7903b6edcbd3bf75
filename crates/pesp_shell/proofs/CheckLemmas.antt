-- Three replies of a check, one after another: those of an assessment, or one refusal three times.
use Rattle.std.proofs.Common.{◌≡◌, ℕ, ◌++◌, ◌∷◌, [], List, Option, Some, None, Result, Ok, Err, OnOk, option_map, refl, sym, ap, ◌∙◌, append_assoc}
use Rattle.pesp_base.specs.declared.refusal.Refusal.{Refusal}
use Rattle.pesp_base.specs.declared.refusal.Refusal.TheVariants as no
use Rattle.pesp_base.specs.Refusals.{unless_refused}
use Rattle.pesp_instance.specs.Network.{Network}
use Rattle.pesp_tension.specs.Answers.{IsRefusalOf, cost_of, first_missing, tensions_of, violations_of, where_timed}
use Rattle.pesp_tension.specs.Timetables.{Times}
use Rattle.pesp_shell_replies.specs.Replies.{appended, cost_text, refusal_text, tensions_text, told, violations_text}
use Rattle.pesp_shell.specs.Checked.{check_text, joined}

-- a reply that is put three times
thrice : (reply : Option (List ℕ)) (before one two three : List ℕ) → appended before reply ≡ Some one → appended one reply ≡ Some two → appended two reply ≡ Some three
    → appended before (joined reply (joined reply reply)) ≡ Some three
thrice None before one two three a b c = absurd (cc)
thrice (Some r) before one two three a b c =
    let x : before ++ r ≡ one = cc in
    let y : one ++ r ≡ two = cc in
    let z : two ++ r ≡ three = cc in
    ap Some (sym (append_assoc before r (r ++ r)) ∙ sym (append_assoc (before ++ r) r r) ∙ ap (λ t. (t ++ r) ++ r) x ∙ ap (λ t. t ++ r) y ∙ z)

pub put_thrice : {A E : Type 0} (answer : Result A E) (reply : Option (List ℕ)) (before one two three : List ℕ) → appended before reply ≡ Some one → appended one reply ≡ Some two
    → OnOk answer (appended two reply ≡ Some three) → OnOk answer (appended before (joined reply (joined reply reply)) ≡ Some three)
put_thrice (Ok done) reply before one two three a b c = thrice reply before one two three a b c
put_thrice (Err wanted) reply before one two three a b c = tt

-- where each event has a time
pub check_timed : (I : Network) (m : Times) (text : List ℕ) → first_missing I m ≡ None
    → text ≡ tensions_text (tensions_of I m) ++ (violations_text (violations_of I m) ++ cost_text (cost_of I m)) → check_text I m ≡ Some text
check_timed I m text timed is = by (first_missing I m) timed ∙ ap Some (sym is)
  where
    by : (o : Option ℕ) → o ≡ None
        → joined (told tensions_text (unless_refused (option_map no.MissingTime o ∷ []) (tensions_of I m)))
        (joined (told violations_text (unless_refused (option_map no.MissingTime o ∷ []) (violations_of I m))) (told cost_text (unless_refused (option_map no.MissingTime o ∷ []) (cost_of I m))))
        ≡ Some (tensions_text (tensions_of I m) ++ (violations_text (violations_of I m) ++ cost_text (cost_of I m)))
    by None e = refl
    by (Some k) e = absurd (cc)

-- where one has none
pub check_refused : (I : Network) (m : Times) (refusal : Refusal) (text : List ℕ) → IsRefusalOf (where_timed I m (tensions_of I m)) refusal
    → appended [] (joined (refusal_text refusal) (joined (refusal_text refusal) (refusal_text refusal))) ≡ Some text → check_text I m ≡ Some text
check_refused I m refusal text is told_thrice = by (first_missing I m) is
  where
    by : (o : Option ℕ) → IsRefusalOf (unless_refused (option_map no.MissingTime o ∷ []) (tensions_of I m)) refusal
        → joined (told tensions_text (unless_refused (option_map no.MissingTime o ∷ []) (tensions_of I m)))
        (joined (told violations_text (unless_refused (option_map no.MissingTime o ∷ []) (violations_of I m))) (told cost_text (unless_refused (option_map no.MissingTime o ∷ []) (cost_of I m))))
        ≡ Some text
    by None memory = let none : appended [] (joined (refusal_text no.Memory) (joined (refusal_text no.Memory) (refusal_text no.Memory))) ≡ Some text = rw memory at told_thrice in absurd (cc)
    by (Some k) first = rw first at told_thrice

-- three texts that are put one after the other
pub three_after : (before one two x y z : List ℕ) → one ≡ before ++ x → two ≡ one ++ y → two ++ z ≡ before ++ (x ++ (y ++ z))
three_after before one two x y z a b = ap (λ t. t ++ z) (b ∙ ap (λ t. t ++ y) a) ∙ append_assoc (before ++ x) y z ∙ append_assoc before x (y ++ z)
