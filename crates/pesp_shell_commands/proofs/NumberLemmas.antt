-- Words after a name and their first fault, and six of them as the words of an activity.
use Rattle.std.proofs.Common.{◌≡◌, ℕ, ◌+◌, ◌≤◌, ◌<◌, Bool, false, true, List, [], ◌∷◌, length, get_or, ℤ, ◌≤ℤ◌, int_lt, unsigned_abs, to_z, of_z, SFits, w32, Option, Some, None, Result, Ok, Err, IfOk, IfErr, IsErrAnd, Bor, refl, sym, ap, ◌∙◌, arith, rules}
use Rattle.std.proofs.lemmas.Int.{to_z-of_z}
use Rattle.pesp_base.specs.Bounds.{Bounds}
use Rattle.pesp_base.specs.Limits.{least_bound, greatest_bound}
use Rattle.pesp_base.specs.Refusals.{when}
use Rattle.pesp_shell_commands.specs.declared.numbers.ActivityWords.{ActivityWords}
use Rattle.pesp_shell_commands.specs.declared.parsing.ParseFault.{ParseFault}
use Rattle.pesp_shell_commands.specs.declared.parsing.ParseFault.TheVariants as fault
use Rattle.pesp_shell_commands.specs.Forms.{Arguments, activity_faults, activity_from, first_fault, first_of, values, word_fault}
use Rattle.pesp_shell_commands.specs.Parsed.{Range, activity_of, activity_ranges, bound, crosses_at, id, natural, never, number_of, weight}
use Rattle.pesp_shell_commands.specs.Words.{texts}

abbrev pub words_at : List (Bor (List ℕ)) → Bor (List ℕ) → ActivityWords
words_at ws d = record { id = get_or ws 0 d; from = get_or ws 1 d; to = get_or ws 2 d; lower = get_or ws 3 d; upper = get_or ws 4 d; weight = get_or ws 5 d }

pub six_words : (ws : List (Bor (List ℕ))) (place : ℕ) (d : Bor (List ℕ)) → 6 ≤ length ws → length ws < 7
    → first_fault (record { words = texts ws; place = place }) activity_ranges (crosses_at 3) ≡ first_of (activity_faults place (words_at ws d))
unfolding first_fault
six_words (u ∷ v ∷ w ∷ x ∷ y ∷ z ∷ []) place d least below =
    let third : place + 1 + 1 ≡ place + 2 = omega arith in
    let fourth : place + 2 + 1 ≡ place + 3 = omega arith in
    let fifth : place + 3 + 1 ≡ place + 4 = omega arith in
    let sixth : place + 4 + 1 ≡ place + 5 = omega arith in
    rw (third, fourth, fifth, sixth) refl
six_words [] place d least below = absurd (omega arith)
six_words (u ∷ []) place d least below = absurd (omega arith)
six_words (u ∷ v ∷ []) place d least below = absurd (omega arith)
six_words (u ∷ v ∷ w ∷ []) place d least below = absurd (omega arith)
six_words (u ∷ v ∷ w ∷ x ∷ []) place d least below = absurd (omega arith)
six_words (u ∷ v ∷ w ∷ x ∷ y ∷ []) place d least below = absurd (omega arith)
six_words (u ∷ v ∷ w ∷ x ∷ y ∷ z ∷ t ∷ ws) place d least below = absurd (omega arith)

-- the numbers of an activity, and the first fault of its words
pub six_numbers : (ws : List (Bor (List ℕ))) (place : ℕ) (d : Bor (List ℕ)) → 6 ≤ length ws → length ws < 7
    → activity_from (words_at ws d) ≡ activity_of (values (record { words = texts ws; place = place }))
six_numbers (u ∷ v ∷ w ∷ x ∷ y ∷ z ∷ []) place d least below = refl
six_numbers [] place d least below = absurd (omega arith)
six_numbers (u ∷ []) place d least below = absurd (omega arith)
six_numbers (u ∷ v ∷ []) place d least below = absurd (omega arith)
six_numbers (u ∷ v ∷ w ∷ []) place d least below = absurd (omega arith)
six_numbers (u ∷ v ∷ w ∷ x ∷ []) place d least below = absurd (omega arith)
six_numbers (u ∷ v ∷ w ∷ x ∷ y ∷ []) place d least below = absurd (omega arith)
six_numbers (u ∷ v ∷ w ∷ x ∷ y ∷ z ∷ t ∷ ws) place d least below = absurd (omega arith)

after : (b : Bool) → first_of (when b fault.Crossed ∷ []) ≡ when b fault.Crossed
after false = refl
after true = refl

pub first_of_six : (place : ℕ) (words : ActivityWords) {fault : ParseFault} → word_fault place id words.id.now ≡ Some fault
    → first_of (activity_faults place words) ≡ Some fault
first_of_six place words one = rw one refl

pub second_of_six : (place : ℕ) (words : ActivityWords) {fault : ParseFault} → word_fault place id words.id.now ≡ None → word_fault (place + 1) id words.from.now ≡ Some fault
    → first_of (activity_faults place words) ≡ Some fault
second_of_six place words one two = rw (one, two) refl

pub third_of_six : (place : ℕ) (words : ActivityWords) {fault : ParseFault} → word_fault place id words.id.now ≡ None → word_fault (place + 1) id words.from.now ≡ None → word_fault (place + 2) id words.to.now ≡ Some fault
    → first_of (activity_faults place words) ≡ Some fault
third_of_six place words one two three = rw (one, two, three) refl

pub fourth_of_six : (place : ℕ) (words : ActivityWords) {fault : ParseFault} → word_fault place id words.id.now ≡ None → word_fault (place + 1) id words.from.now ≡ None → word_fault (place + 2) id words.to.now ≡ None → word_fault (place + 3) bound words.lower.now ≡ Some fault
    → first_of (activity_faults place words) ≡ Some fault
fourth_of_six place words one two three four = rw (one, two, three, four) refl

pub fifth_of_six : (place : ℕ) (words : ActivityWords) {fault : ParseFault} → word_fault place id words.id.now ≡ None → word_fault (place + 1) id words.from.now ≡ None → word_fault (place + 2) id words.to.now ≡ None → word_fault (place + 3) bound words.lower.now ≡ None → word_fault (place + 4) bound words.upper.now ≡ Some fault
    → first_of (activity_faults place words) ≡ Some fault
fifth_of_six place words one two three four five = rw (one, two, three, four, five) refl

pub sixth_of_six : (place : ℕ) (words : ActivityWords) {fault : ParseFault} → word_fault place id words.id.now ≡ None → word_fault (place + 1) id words.from.now ≡ None → word_fault (place + 2) id words.to.now ≡ None → word_fault (place + 3) bound words.lower.now ≡ None → word_fault (place + 4) bound words.upper.now ≡ None → word_fault (place + 5) weight words.weight.now ≡ Some fault
    → first_of (activity_faults place words) ≡ Some fault
sixth_of_six place words one two three four five six = rw (one, two, three, four, five, six) refl

pub after_six : (place : ℕ) (words : ActivityWords) → word_fault place id words.id.now ≡ None → word_fault (place + 1) id words.from.now ≡ None → word_fault (place + 2) id words.to.now ≡ None → word_fault (place + 3) bound words.lower.now ≡ None → word_fault (place + 4) bound words.upper.now ≡ None → word_fault (place + 5) weight words.weight.now ≡ None
    → first_of (activity_faults place words) ≡ when (int_lt (number_of words.upper.now) (number_of words.lower.now)) fault.Crossed
after_six place words one two three four five six = rw (one, two, three, four, five, six) (after (int_lt (number_of words.upper.now) (number_of words.lower.now)))

-- one word after a name, two words, and three
pub record AreOne (a : Arguments) (place : ℕ) (u : List ℕ) : Type 0 where
  pub are : a ≡ record { words = u ∷ []; place = place }

pub record AreTwo (a : Arguments) (place : ℕ) (u v : List ℕ) : Type 0 where
  pub are : a ≡ record { words = u ∷ v ∷ []; place = place }

pub record AreThree (a : Arguments) (place : ℕ) (u v w : List ℕ) : Type 0 where
  pub are : a ≡ record { words = u ∷ v ∷ w ∷ []; place = place }

pub one_word : (a : Arguments) (ws : List (Bor (List ℕ))) (place : ℕ) (d : Bor (List ℕ)) → record { words = texts ws; place = place } ≡ a → 1 ≤ length ws → length ws < 2
    → AreOne a place (get_or ws 0 d).now
one_word a (u ∷ []) place d same least below = record { are = sym same }
one_word a [] place d same least below = absurd (omega arith)
one_word a (u ∷ v ∷ ws) place d same least below = absurd (omega arith)

pub two_words : (a : Arguments) (ws : List (Bor (List ℕ))) (place : ℕ) (d : Bor (List ℕ)) → record { words = texts ws; place = place } ≡ a → 2 ≤ length ws → length ws < 3
    → AreTwo a place (get_or ws 0 d).now (get_or ws 1 d).now
two_words a (u ∷ v ∷ []) place d same least below = record { are = sym same }
two_words a [] place d same least below = absurd (omega arith)
two_words a (u ∷ []) place d same least below = absurd (omega arith)
two_words a (u ∷ v ∷ w ∷ ws) place d same least below = absurd (omega arith)

pub three_words : (a : Arguments) (ws : List (Bor (List ℕ))) (place : ℕ) (d : Bor (List ℕ)) → record { words = texts ws; place = place } ≡ a → 3 ≤ length ws → length ws < 4
    → AreThree a place (get_or ws 0 d).now (get_or ws 1 d).now (get_or ws 2 d).now
three_words a (u ∷ v ∷ w ∷ []) place d same least below = record { are = sym same }
three_words a [] place d same least below = absurd (omega arith)
three_words a (u ∷ []) place d same least below = absurd (omega arith)
three_words a (u ∷ v ∷ []) place d same least below = absurd (omega arith)
three_words a (u ∷ v ∷ w ∷ x ∷ ws) place d same least below = absurd (omega arith)

-- the fault of one word
single : (o : Option ParseFault) → first_of (o ∷ None ∷ []) ≡ o
single None = refl
single (Some fault) = refl

faults_of_one : (p : Range) (place : ℕ) (u : List ℕ) → first_fault (record { words = u ∷ []; place = place }) (p ∷ []) never ≡ first_of (word_fault place p u ∷ None ∷ [])
unfolding first_fault
faults_of_one p place u = refl

fault_of_one : (p : Range) {a : Arguments} {place : ℕ} {u : List ℕ} → AreOne a place u → first_fault a (p ∷ []) never ≡ word_fault place p u
fault_of_one p {place = place} {u = u} are = rw are.are (faults_of_one p place u ∙ single (word_fault place p u))

-- which a result tells, and the number
pub no_fault_of_one : (p : Range) {T : Type 0} (r : Result T ParseFault) {a : Arguments} {place : ℕ} {u : List ℕ} → AreOne a place u → IfOk r (λ _. word_fault place p u ≡ None)
    → IfOk r (λ _. first_fault a (p ∷ []) never ≡ None)
no_fault_of_one p (Ok x) are none = fault_of_one p are ∙ none
no_fault_of_one p (Err y) are none = tt

pub said_of_one : (p : Range) {T : Type 0} (r : Result T ParseFault) {a : Arguments} {place : ℕ} {u : List ℕ} → AreOne a place u → IfErr r (λ y. word_fault place p u ≡ Some y)
    → IfErr r (λ y. first_fault a (p ∷ []) never ≡ Some y)
said_of_one p (Ok x) are some = tt
said_of_one p (Err y) are some = fault_of_one p are ∙ some

pub number_of_one : (r : Result ℕ ParseFault) {a : Arguments} {place : ℕ} {u : List ℕ} → AreOne a place u → IfOk r (λ n. n ≡ unsigned_abs (number_of u)) → IfOk r (λ n. n ≡ natural (values a) 0)
number_of_one (Ok n) are is = is ∙ ap (λ a. natural (values a) 0) (sym are.are)
number_of_one (Err y) are is = tt

-- the first fault of two words
faults_of_two : (p q : Range) (crossed : List ℤ → Bool) (place : ℕ) (u v : List ℕ)
    → first_fault (record { words = u ∷ v ∷ []; place = place }) (p ∷ q ∷ []) crossed
    ≡ first_of (word_fault place p u ∷ word_fault (place + 1) q v ∷ when (crossed (number_of u ∷ number_of v ∷ [])) fault.Crossed ∷ [])
unfolding first_fault
faults_of_two p q crossed place u v = refl

pub none_of_two : (p q : Range) {a : Arguments} {place : ℕ} {u v : List ℕ} → AreTwo a place u v → word_fault place p u ≡ None → word_fault (place + 1) q v ≡ None
    → first_fault a (p ∷ q ∷ []) never ≡ None
none_of_two p q {place = place} {u = u} {v = v} are one two = rw (are.are, faults_of_two p q never place u v, one, two) refl

pub first_of_two : (p q : Range) {a : Arguments} {place : ℕ} {u v : List ℕ} {fault : ParseFault} → AreTwo a place u v → word_fault place p u ≡ Some fault
    → first_fault a (p ∷ q ∷ []) never ≡ Some fault
first_of_two p q {place = place} {u = u} {v = v} are one = rw (are.are, faults_of_two p q never place u v, one) refl

pub second_of_two : (p q : Range) {a : Arguments} {place : ℕ} {u v : List ℕ} {fault : ParseFault} → AreTwo a place u v → word_fault place p u ≡ None
    → word_fault (place + 1) q v ≡ Some fault → first_fault a (p ∷ q ∷ []) never ≡ Some fault
second_of_two p q {place = place} {u = u} {v = v} are one two = rw (are.are, faults_of_two p q never place u v, one, two) refl

-- and of three
faults_of_three : (p q r : Range) (crossed : List ℤ → Bool) (place : ℕ) (u v w : List ℕ)
    → first_fault (record { words = u ∷ v ∷ w ∷ []; place = place }) (p ∷ q ∷ r ∷ []) crossed
    ≡ first_of (word_fault place p u ∷ word_fault (place + 1) q v ∷ word_fault (place + 2) r w ∷ when (crossed (number_of u ∷ number_of v ∷ number_of w ∷ [])) fault.Crossed ∷ [])
unfolding first_fault
faults_of_three p q r crossed place u v w =
    let third : place + 1 + 1 ≡ place + 2 = omega arith in
    rw third refl

pub first_of_three : (p q r : Range) (crossed : List ℤ → Bool) {a : Arguments} {place : ℕ} {u v w : List ℕ} {fault : ParseFault} → AreThree a place u v w
    → word_fault place p u ≡ Some fault → first_fault a (p ∷ q ∷ r ∷ []) crossed ≡ Some fault
first_of_three p q r crossed {place = place} {u = u} {v = v} {w = w} are one = rw (are.are, faults_of_three p q r crossed place u v w, one) refl

pub second_of_three : (p q r : Range) (crossed : List ℤ → Bool) {a : Arguments} {place : ℕ} {u v w : List ℕ} {fault : ParseFault} → AreThree a place u v w
    → word_fault place p u ≡ None → word_fault (place + 1) q v ≡ Some fault → first_fault a (p ∷ q ∷ r ∷ []) crossed ≡ Some fault
second_of_three p q r crossed {place = place} {u = u} {v = v} {w = w} are one two = rw (are.are, faults_of_three p q r crossed place u v w, one, two) refl

pub third_of_three : (p q r : Range) (crossed : List ℤ → Bool) {a : Arguments} {place : ℕ} {u v w : List ℕ} {fault : ParseFault} → AreThree a place u v w
    → word_fault place p u ≡ None → word_fault (place + 1) q v ≡ None → word_fault (place + 2) r w ≡ Some fault → first_fault a (p ∷ q ∷ r ∷ []) crossed ≡ Some fault
third_of_three p q r crossed {place = place} {u = u} {v = v} {w = w} are one two three = rw (are.are, faults_of_three p q r crossed place u v w, one, two, three) refl

pub after_three : (p q r : Range) (crossed : List ℤ → Bool) {a : Arguments} {place : ℕ} {u v w : List ℕ} → AreThree a place u v w
    → word_fault place p u ≡ None → word_fault (place + 1) q v ≡ None → word_fault (place + 2) r w ≡ None
    → first_fault a (p ∷ q ∷ r ∷ []) crossed ≡ when (crossed (number_of u ∷ number_of v ∷ number_of w ∷ [])) fault.Crossed
after_three p q r crossed {place = place} {u = u} {v = v} {w = w} are one two three =
    rw (are.are, faults_of_three p q r crossed place u v w, one, two, three) (after (crossed (number_of u ∷ number_of v ∷ number_of w ∷ [])))

-- a bound that is read back
read_back : (z : ℤ) → (least_bound ≤ℤ z) × (z ≤ℤ greatest_bound) → to_z w32 (of_z w32 z) ≡ z
read_back z within =
    let fits : SFits w32 z = search rules in
    to_z-of_z w32 z fits

pub crossing : (lower upper : ℤ) {x y : ℤ} {b : Bool} → (least_bound ≤ℤ lower) × (lower ≤ℤ greatest_bound) → (least_bound ≤ℤ upper) × (upper ≤ℤ greatest_bound)
    → lower ≡ x → upper ≡ y → int_lt (to_z w32 (of_z w32 upper)) (to_z w32 (of_z w32 lower)) ≡ b → int_lt y x ≡ b
crossing lower upper lower_within upper_within is_lower is_upper is =
    rw (← is_lower, ← is_upper) (rw (read_back lower lower_within, read_back upper upper_within) at is)

pub span_read : (lower upper : ℤ) (span : Bounds) {x y : ℤ} → (least_bound ≤ℤ lower) × (lower ≤ℤ greatest_bound) → (least_bound ≤ℤ upper) × (upper ≤ℤ greatest_bound)
    → lower ≡ x → upper ≡ y → span ≡ record { lower = to_z w32 (of_z w32 lower); upper = to_z w32 (of_z w32 upper) } → span ≡ record { lower = x; upper = y }
span_read lower upper span lower_within upper_within is_lower is_upper is =
    rw (← is_lower, ← is_upper) (rw (read_back lower lower_within, read_back upper upper_within) at is)

-- a fault that is passed up
pub passed_up : {T : Type 0} (r : Result T ParseFault) (fault : ParseFault) (o : Option ParseFault) → IsErrAnd r (λ y. y ≡ fault) → o ≡ Some fault → IfErr r (λ y. o ≡ Some y)
passed_up (Ok x) fault o is h = tt
passed_up (Err y) fault o is h = h ∙ ap Some (sym is)
