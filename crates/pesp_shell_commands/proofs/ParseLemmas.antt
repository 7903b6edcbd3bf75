-- What a line says, from its first words and from the numbers after its name.
use Rattle.std.proofs.Common.{◌≡◌, ◌≢◌, ℕ, ◌+◌, ◌-◌, ◌≤◌, inl, inr, Bool, true, false, ◌==◌, not, ◌&&◌, bytes_eq, cond, if◌then◌else◌, List, [], ◌∷◌, ◌++◌, length, take, map, Option, Some, None, Ok, Err, refl, ap, sym, ◌∙◌, arith, nat_eq, nat_lt, slice_index, get_or, Bor}
use Rattle.std.specs.List.{find, list_all, starts_with}
use Rattle.std.proofs.lemmas.Bool.{cases_eq, cases_lt, eq-eqb, ltb-true, ne_eqb}
use Rattle.std.proofs.lemmas.List.{get_or-map, length-drop, length-map, length-take-le, take_all}
use Rattle.pesp_base.specs.Refusals.{unless_refused, when}
use Rattle.pesp_shell_commands.specs.declared.command.Command.{Command}
use Rattle.pesp_shell_commands.specs.declared.name.Name.{Name}
use Rattle.pesp_shell_commands.specs.declared.parsing.ParseFault.{ParseFault}
use Rattle.pesp_shell_commands.specs.declared.parsing.ParseFault.TheVariants as fault
use Rattle.pesp_shell_commands.specs.Forms.{AreAfter, Arguments, as_said, faults_in, first_fault, first_of, said, unless_faulty, values}
use Rattle.pesp_shell_commands.specs.Parsed.{Form, arguments, form_faults, form_for, form_of, names, number_faults, number_of, parsed, parsed_by, parsed_words}
use Rattle.pesp_shell_commands.specs.Words.{words_of, texts}

-- ---- a name and the numbers after it

-- the first of several faults, or the command
refused_by_first : (faults : List (Option ParseFault)) (c : Command) → unless_refused faults (Some c) ≡ as_said (unless_faulty (first_of faults) c)
refused_by_first [] c = refl
refused_by_first (None ∷ faults) c = refused_by_first faults c
refused_by_first (Some f ∷ faults) c = refl

-- as many words as a name and its numbers have, counted after the name
count_after : (m n k : ℕ) → n ≤ m → (m == n + k) ≡ (m - n == k)
count_after m n k h =
    elim (cases_eq m (n + k)) [
      | inl e ↦ eq-eqb m (n + k) e ∙ sym (eq-eqb (m - n) k (omega (arith, e)))
      | inr d ↦ ne_eqb m (n + k) d ∙ sym (ne_eqb (m - n) k (λ e. d (omega (arith, e))))
    ]

-- the words after the name of a form, and the place of the first of them
abbrev after : List (List ℕ) → Form → Arguments
after words form = record { words = arguments form words; place = length form.name + 1 }

-- the faults of a form are those of the words after its name
faults_after : (words : List (List ℕ)) (form : Form) → length form.name ≤ length words → form_faults form words ≡ faults_in (after words form) form.ranges form.is_crossed
faults_after words form h =
    let count : (length words == length form.name + length form.ranges) ≡ (length (arguments form words) == length form.ranges) =
    count_after (length words) (length form.name) (length form.ranges) h ∙ ap (λ n. n == length form.ranges) (sym (length-drop (length form.name) words)) in
    ap (λ b. when (not b) fault.WordCount ∷ number_faults (length form.name + 1) form.ranges (arguments form words) ++ when (form.is_crossed (values (after words form))) fault.Crossed ∷ []) count

-- what a form makes of words, by those after its name
by_after : (words : List (List ℕ)) (form : Form) → length form.name ≤ length words
    → parsed_by (Some form) words ≡ as_said (unless_faulty (first_fault (after words form) form.ranges form.is_crossed) (form.made (values (after words form))))
unfolding first_fault
by_after words form h =
    ap (λ faults. unless_refused faults (Some (form.made (values (after words form))))) (faults_after words form h)
    ∙ refused_by_first (faults_in (after words form) form.ranges form.is_crossed) (form.made (values (after words form)))

-- what words say whose name was found
pub said_after : (words : List (List ℕ)) (name : Name) (a : Arguments) → AreAfter words (form_for name) a → Some (form_for name) ≡ form_of words
    → as_said (said name a) ≡ parsed_by (form_of words) words
said_after words name a at found =
    let form = form_for name in
    let same : a ≡ after words form =
    ap (λ ws. record { words = ws; place = a.place }) at.words ∙ ap (λ p. record { words = arguments form words; place = p }) at.place in
    ap (λ b. as_said (said name b)) same ∙ sym (by_after words form at.within) ∙ ap (λ f. parsed_by f words) found

-- ---- the first nine words say as much as all of them

-- what is found passes a test that all pass
found_passes : {X : Type 0} (p q : X → Bool) (xs : List X) (x : X) → list_all q xs ≡ true → find p xs ≡ Some x → q x ≡ true
found_passes p q [] x all e = absurd (cc)
found_passes p q (y ∷ xs) x all e = go (q y) (p y) refl all e (λ rest. found_passes p q xs x rest)
  where
    go : (s t : Bool) → q y ≡ s → (s && list_all q xs) ≡ true → cond t (Some y) (find p xs) ≡ Some x → (list_all q xs ≡ true → find p xs ≡ Some x → q x ≡ true) → q x ≡ true
    go true true is all e rest = let same : y ≡ x = cc in ap q (sym same) ∙ is
    go true false is all e rest = rest all e
    go false t is all e rest = absurd (cc)

-- a form takes eight words at most
is_short : Form → Bool
is_short form = nat_lt (length form.name + length form.ranges) 9

are_short : list_all is_short (map form_for names) ≡ true
unfolding is_short
are_short = refl

-- another number of words is a fault
wrong_count : (words : List (List ℕ)) (form : Form) → length words ≢ length form.name + length form.ranges → parsed_by (Some form) words ≡ Err fault.WordCount
wrong_count words form d =
    ap (λ b. unless_refused (when (not b) fault.WordCount ∷ number_faults (length form.name + 1) form.ranges (arguments form words) ++ when (form.is_crossed (map number_of (arguments form words))) fault.Crossed ∷ [])
    (Some (form.made (map number_of (arguments form words)))))
    (ne_eqb (length words) (length form.name + length form.ranges) d)

-- words of which there are too many for each form
too_many : (words more : List (List ℕ)) (found : Option Form) → 9 ≤ length words → 9 ≤ length more → ((form : Form) → found ≡ Some form → is_short form ≡ true)
    → parsed_by found words ≡ parsed_by found more
unfolding is_short
too_many words more None h k short = refl
too_many words more (Some form) h k short =
    let few = ltb-true (length form.name + length form.ranges) 9 (short form refl) in
    wrong_count words form (λ e. absurd (omega (arith, few))) ∙ sym (wrong_count more form (λ e. absurd (omega (arith, few))))

-- the name stands in the first two words
form_of-take : (w : List ℕ) (ws : List (List ℕ)) → form_of (w ∷ take 8 ws) ≡ form_of (w ∷ ws)
form_of-take w [] = refl
form_of-take w (v ∷ ws) = refl

first_words : (w : List ℕ) (ws : List (List ℕ)) → parsed_by (form_of (w ∷ take 8 ws)) (w ∷ take 8 ws) ≡ parsed_by (form_of (w ∷ ws)) (w ∷ ws)
first_words w ws =
    elim (cases_lt (length ws) 9) [
      | inl h ↦ ap (λ vs. parsed_by (form_of (w ∷ vs)) (w ∷ vs)) (take_all 8 ws (omega arith))
      | inr h ↦
          let eight : length (take 8 ws) ≡ 8 = length-take-le 8 ws (omega arith) in
          ap (λ f. parsed_by f (w ∷ take 8 ws)) (form_of-take w ws)
          ∙ too_many (w ∷ take 8 ws) (w ∷ ws) (form_of (w ∷ ws)) (omega arith) (omega arith)
          (λ form e. found_passes (λ f. starts_with bytes_eq (w ∷ ws) f.name) is_short (map form_for names) form are_short e)
    ]

-- a word that begins with a hash
hash_first : (w : List ℕ) → starts_with nat_eq w (35 ∷ []) ≡ (slice_index w 0 == 35)
hash_first [] = refl
hash_first (b ∷ w) =
    elim (cases_eq b 35) [
      | inl e ↦ ap (λ t. t && true) (eq-eqb 35 b (sym e)) ∙ sym (eq-eqb b 35 e)
      | inr d ↦ ap (λ t. t && true) (ne_eqb 35 b (λ e. d (sym e))) ∙ sym (ne_eqb b 35 d)
    ]

-- what the first words of a line say where the first of them does not begin with a hash
pub spoken : (words firsts : List (List ℕ)) (w : List ℕ) → firsts ≡ take 9 words → 1 ≤ length firsts → get_or firsts 0 [] ≡ w → starts_with nat_eq w (35 ∷ []) ≡ false
    → parsed_by (form_of firsts) firsts ≡ parsed_words words
spoken [] firsts w is some first e = absurd (omega (arith, ap length is))
spoken (v ∷ words) firsts w is some first e =
    let same : v ≡ w = sym (ap (λ ws. get_or ws 0 []) is) ∙ first in
    let none : (slice_index v 0 == 35) ≡ false = sym (hash_first v) ∙ ap (λ u. starts_with nat_eq u (35 ∷ [])) same ∙ e in
    ap (λ ws. parsed_by (form_of ws) ws) is ∙ first_words v words
    ∙ ap (λ t. if t then Ok None else parsed_by (form_of (v ∷ words)) (v ∷ words)) (sym none)

-- the same of words in memory
pub spoken_texts : (line : List ℕ) (slice : List (Bor (List ℕ))) (d : Bor (List ℕ)) → texts slice ≡ take 9 (words_of line) → 1 ≤ length slice
    → starts_with nat_eq ((get_or slice 0 d).now) (35 ∷ []) ≡ false → parsed_by (form_of (texts slice)) (texts slice) ≡ parsed line
spoken_texts line slice d is some e =
    spoken (words_of line) (texts slice) ((get_or slice 0 d).now) is (omega (arith, length-map slice (λ w. w.now)))
    (get_or-map (λ w. w.now) slice 0 d [] (omega arith)) e
