-- What a line has once: a list of residues, an optimum, a reply.
use Rattle.std.proofs.Common.{◌≡◌, ℕ, ◌<◌, ◌⊎◌, Bool, true, false, List, [], ◌∷◌, Option, Some, None, Result, Ok, Err, refl, sym, ap, ◌∙◌, subst, inl, inr, arith}
use Rattle.std.specs.Prelude.{MatchBool}
use Rattle.std.specs.List.{AllZip, Contains, zip}
use Rattle.std.specs.List.Sorted.{IsStrictlyIncreasing}
use Rattle.std.specs.Map.{keys_of}
use Rattle.std.proofs.lemmas.Bool.{cases_order}
use Rattle.std.proofs.lemmas.List.{map-id}
use Rattle.std.proofs.lemmas.List.Elements.{Contains-append_cases, Contains-append_left, Contains-append_right, Contains-push, Contains-push_cases}
use Rattle.pesp_base.specs.declared.refusal.Refusal.{Refusal}
use Rattle.pesp_base.specs.declared.refusal.Refusal.TheVariants as no
use Rattle.pesp_instance.specs.Network.{Network, event_ids, has_event}
use Rattle.pesp_instance.proofs.Rising.{IsAbove, Rises, Rises-from_increasing}
use Rattle.pesp_tension.specs.Timetables.{Times}
use Rattle.pesp_search.specs.declared.answer.Answer.{Answer}
use Rattle.pesp_search.specs.declared.answer.Answer.TheVariants.{Optimal, Infeasible}
use Rattle.pesp_search.specs.Optima.{IsAnswer, IsOptimum, Precedes}
use Rattle.pesp_shell_commands.specs.declared.command.Command.{Command}
use Rattle.pesp_shell_commands.specs.declared.command.Command.TheVariants as command
use Rattle.pesp_shell_commands.specs.declared.parsing.ParseFault.{ParseFault}
use Rattle.pesp_shell_commands.specs.Parsed.{parsed}
use Rattle.pesp_shell_replies.specs.Legal.{AreResidues, Changes, LegalCommand, LegalSaid, Tells, Work, adopted_work, edited_work, timed_work, untimed_work}
use Rattle.pesp_shell_replies.specs.Replies.{domain_text, domains_text, optimum_text, refusal_text}
use Rattle.pesp_shell_replies.specs.Transcripts.{OneReply, is_try}

-- ---- ascending lists with the same members

abbrev number : ℕ → ℕ
number n = n

nothing_in : (r : ℕ) → Contains [] r → ⊥
nothing_in r (k, small, at) = omega (arith, small)

first_or_later : (x : ℕ) (xs : List ℕ) (r : ℕ) → Contains (x ∷ xs) r → (r ≡ x) ⊎ Contains xs r
first_or_later x xs r c =
    elim (Contains-append_cases (x ∷ []) xs r c) [
      | inl one ↦ elim (Contains-push_cases [] x r one) [ inl none ↦ absurd (nothing_in r none) | inr same ↦ inl (sym same) ]
      | inr later ↦ inr later
    ]

at_first : (x : ℕ) (xs : List ℕ) → Contains (x ∷ xs) x
at_first x xs = Contains-append_left (x ∷ []) xs x (Contains-push [] x)

above_in : (n : ℕ) (xs : List ℕ) (r : ℕ) → IsAbove number n xs → Contains xs r → n < r
above_in n [] r above c = absurd (nothing_in r c)
above_in n (x ∷ xs) r above c =
    elim (first_or_later x xs r c) [
      | inl same ↦ let h = above.0 in omega (arith, h, same)
      | inr later ↦ above_in n xs r above.1 later
    ]

-- each member of the rest of one list is in the rest of the other
rest_in : (x y : ℕ) (xs ys : List ℕ) → x ≡ y → IsAbove number x xs → ((r : ℕ) → Contains (x ∷ xs) r → Contains (y ∷ ys) r) → (r : ℕ) → Contains xs r → Contains ys r
rest_in x y xs ys same above all r c =
    elim (first_or_later y ys r (all r (Contains-append_right (x ∷ []) xs r c))) [
      | inl at ↦ let l = above_in x xs r above c in absurd (omega (arith, l, at, same))
      | inr later ↦ later
    ]

same_rising : (xs ys : List ℕ) → Rises number xs → Rises number ys → ((r : ℕ) → Contains xs r → Contains ys r) → ((r : ℕ) → Contains ys r → Contains xs r) → xs ≡ ys
same_rising [] [] up also to from = refl
same_rising [] (y ∷ ys) up also to from = absurd (nothing_in y (from y (at_first y ys)))
same_rising (x ∷ xs) [] up also to from = absurd (nothing_in x (to x (at_first x xs)))
same_rising (x ∷ xs) (y ∷ ys) up also to from =
    let rest = same_rising xs ys up.1 also.1 (rest_in x y xs ys heads up.0 to) (rest_in y x ys xs (sym heads) also.0 from) in
    ap (λ n. n ∷ xs) heads ∙ ap (λ ns. y ∷ ns) rest
  where
    heads : x ≡ y
    heads =
        elim (first_or_later y ys x (to x (at_first x xs))) [
          | inl same ↦ same
          | inr later ↦ elim (first_or_later x xs y (from y (at_first y ys))) [
            | inl same ↦ sym same
            | inr earlier ↦ let a = above_in y ys x also.0 later in let b = above_in x xs y up.0 earlier in absurd (omega (arith, a, b))
          ]
        ]

rises : (xs : List ℕ) → IsStrictlyIncreasing xs → Rises number xs
rises xs up = Rises-from_increasing number xs (rw (map-id xs) up)

-- an event has one list of residues
one_list : (I : Network) (e : ℕ) (xs ys : List ℕ) → AreResidues I e xs → AreResidues I e ys → xs ≡ ys
one_list I e xs ys are also =
    same_rising xs ys (rises xs are.rising) (rises ys also.rising) (λ r c. (also.exact r).1 ((are.exact r).0 c)) (λ r c. (are.exact r).1 ((also.exact r).0 c))

one_lists : (I : Network) (events : List ℕ) (rows others : List (List ℕ)) → AllZip (AreResidues I) events rows → AllZip (AreResidues I) events others → rows ≡ others
one_lists I [] [] [] are also = refl
one_lists I [] [] (y ∷ ys) are also = absurd also
one_lists I [] (x ∷ xs) others are also = absurd are
one_lists I (e ∷ events) [] others are also = absurd are
one_lists I (e ∷ events) (x ∷ xs) [] are also = absurd also
one_lists I (e ∷ events) (x ∷ xs) (y ∷ ys) are also =
    ap (λ n. n ∷ xs) (one_list I e x y are.0 also.0) ∙ ap (λ ns. y ∷ ns) (one_lists I events xs ys are.1 also.1)

-- ---- one optimum

-- of two timetables of the same events that differ, one precedes the other
compared : (xs ys : List (ℕ × ℕ)) → keys_of xs ≡ keys_of ys → (xs ≡ ys) ⊎ (Precedes xs ys ⊎ Precedes ys xs)
compared [] [] keys = inl refl
compared [] (y ∷ ys) keys = absurd (cc)
compared (x ∷ xs) [] keys = absurd (cc)
compared ((e, t) ∷ xs) ((f, u) ∷ ys) keys =
    let same : e ≡ f = cc in
    let rest : keys_of xs ≡ keys_of ys = cc in
    elim (cases_order t u) [
      | inl at ↦ elim (compared xs ys rest) [
        | inl equal ↦ inl (ap (λ k. (k, t) ∷ xs) same ∙ ap (λ v. (f, v) ∷ xs) at ∙ ap (λ zs. (f, u) ∷ zs) equal)
        | inr (inl before) ↦ inr (inl (inr (at, before)))
        | inr (inr later) ↦ inr (inr (inr (sym at, later)))
      ]
      | inr (inl low) ↦ inr (inl (inl low))
      | inr (inr high) ↦ inr (inr (inl high))
    ]

same_times : (m n : Times) → m.period ≡ n.period → m.entries ≡ n.entries → m ≡ n
same_times m n period entries =
    let first : m ≡ record { period = n.period; entries = m.entries } = ap (λ (p : ℕ). let q : Times = record { period = p; entries = m.entries } in q) period in
    let second : record { period = n.period; entries = m.entries } ≡ n = ap (λ (es : List (ℕ × ℕ)). let q : Times = record { period = n.period; entries = es } in q) entries in
    first ∙ second

one_optimum : (I : Network) (m n : Times) (c d : ℕ) → IsOptimum I m c → IsOptimum I n d → (m ≡ n) × (c ≡ d)
one_optimum I m n c d is also = (same_times m n (is.member.period ∙ sym also.member.period) entries, cost)
  where
    cost : c ≡ d
    cost = let a = is.least n also.member in let b = also.least m is.member in omega (arith, a, b, is.costs, also.costs)

    entries : m.entries ≡ n.entries
    entries =
        elim (compared m.entries n.entries (is.member.events ∙ sym also.member.events)) [
          | inl equal ↦ equal
          | inr (inl before) ↦ let l = also.first m is.member before in absurd (omega (arith, l, cost, is.costs))
          | inr (inr later) ↦ let l = is.first n also.member later in absurd (omega (arith, l, cost, also.costs))
        ]

one_answer : (I : Network) (answer other : Answer) → IsAnswer I answer → IsAnswer I other → answer ≡ other
one_answer I (Optimal c m) (Optimal d n) is also = let one = one_optimum I m n c d is also in ap (λ k. Optimal k m) one.1 ∙ ap (λ k. Optimal d k) one.0
one_answer I (Optimal c m) Infeasible is none = absurd (none m is.member)
one_answer I Infeasible (Optimal d n) none also = absurd (none n also.member)
one_answer I Infeasible Infeasible none also = refl

-- ---- one reply

same_told : (w next after : Work) (reply : Option (List ℕ)) (text other : List ℕ) → Tells w reply text next → Tells w reply other after → (text ≡ other) × (next ≡ after)
same_told w next after reply text other is also =
    let some : Some text ≡ Some other = sym is.tells ∙ also.tells in
    ((cc), is.stays ∙ sym also.stays)

same_changed : (w next after : Work) (outcome : Result Work Refusal) (text other : List ℕ) → Changes w outcome text next → Changes w outcome other after → (text ≡ other) × (next ≡ after)
same_changed w next after outcome text other is also =
    let some : Some text ≡ Some other = sym is.tells ∙ also.tells in
    ((cc), is.leaves ∙ sym also.leaves)

-- what `domain` tells of an event that there is, and of another
abbrev DomainTold : Work → ℕ → Bool → List ℕ → Work → Type 0
DomainTold w e b text next =
    MatchBool b ((residues : List ℕ) × AreResidues w.instance e residues × Tells w (Some (domain_text e residues)) text next) (Tells w (refusal_text (no.NoEvent e)) text next)

one_of_command : (w next after : Work) (said : Command) (text other : List ℕ) → is_try (Ok (Some said)) ≡ false → LegalCommand w said text next → LegalCommand w said other after → (text ≡ other) × (next ≡ after)
one_of_command w next after (command.Edit edit) text other not_try is also = same_changed w next after (edited_work w edit) text other is also
one_of_command w next after (command.Time e t) text other not_try is also = same_changed w next after (timed_work w e t) text other is also
one_of_command w next after (command.Untime e) text other not_try is also = same_changed w next after (untimed_work w e) text other is also
one_of_command w next after command.Adopt text other not_try (answer, is_answer, is) (another, is_another, also) =
    same_changed w next after (adopted_work w answer) text other is (subst (λ a. Changes w (adopted_work w a) other after) (one_answer w.instance another answer is_another is_answer) also)
one_of_command w next after (command.Domain e) text other not_try is also = by (has_event w.instance e) is also
  where
    by : (b : Bool) → DomainTold w e b text next → DomainTold w e b other after → (text ≡ other) × (next ≡ after)
    by true (residues, are, tells) (others, also_are, also_tells) =
        same_told w next after (Some (domain_text e residues)) text other tells
        (subst (λ rs. Tells w (Some (domain_text e rs)) other after) (one_list w.instance e others residues also_are are) also_tells)
    by false tells also_tells = same_told w next after _ text other tells also_tells
one_of_command w next after command.Domains text other not_try (rows, are, tells) (others, also_are, also_tells) =
    same_told w next after _ text other tells
    (subst (λ rs. Tells w (Some (domains_text (zip (event_ids w.instance) rs))) other after) (one_lists w.instance (event_ids w.instance) others rows also_are are) also_tells)
one_of_command w next after command.Tensions text other not_try is also = same_told w next after _ text other is also
one_of_command w next after command.Violations text other not_try is also = same_told w next after _ text other is also
one_of_command w next after command.Cost text other not_try is also = same_told w next after _ text other is also
one_of_command w next after command.Optimum text other not_try (answer, is_answer, is) (another, is_another, also) =
    same_told w next after (Some (optimum_text answer)) text other is
    (subst (λ a. Tells w (Some (optimum_text a)) other after) (one_answer w.instance another answer is_another is_answer) also)
one_of_command w next after (command.TryOptimum limit) text other not_try is also = absurd (cc)
one_of_command w next after command.Dump text other not_try is also = same_told w next after _ text other is also

one_said : (w next after : Work) (said : Result (Option Command) ParseFault) (text other : List ℕ) → is_try said ≡ false → LegalSaid w said text next → LegalSaid w said other after → (text ≡ other) × (next ≡ after)
one_said w next after (Ok None) text other not_try is also = same_told w next after _ text other is also
one_said w next after (Ok (Some said)) text other not_try is also = one_of_command w next after said text other not_try is also
one_said w next after (Err fault) text other not_try is also = same_told w next after _ text other is also

pub replies_are_one : OneReply
replies_are_one w line text other next after not_try is also = one_said w next after (parsed line) text other not_try is also
