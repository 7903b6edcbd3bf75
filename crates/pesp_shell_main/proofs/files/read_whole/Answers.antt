-- What was read is all that the file had, since it is no more than one may have; each fault is that of the call that failed, or of too many bytes.
use Rattle.std.proofs.Common.{◌≡◌, ℕ, zero, suc, ◌<◌, ◌≤◌, List, [], ◌∷◌, length, take, Option, Some, None, IfSome, Result, Ok, Err, IsOk, inl, inr, refl, ap, subst, ◌∙◌, arith, rules}
use Rattle.std.specs.Prelude.{OnOk}
use Rattle.pesp_shell_main.specs.Files.{longest_file}
use Rattle.pesp_shell_main.proofs.files.read_whole.Goals as goal

-- some first bytes that are fewer than so many are all
all_of : (n : ℕ) (xs : List ℕ) → length (take (suc n) xs) ≤ n → take (suc n) xs ≡ xs
all_of n [] few = refl
all_of zero (x ∷ xs) few = absurd (omega (arith, few))
all_of (suc n) (x ∷ xs) few = ap (λ l. x ∷ l) (all_of n xs (omega (arith, few)))

whole : {X E : Type 0} (r : Result X E) (known : Option (List ℕ)) (n : ℕ) (bytes : List ℕ) → IsOk r
    → OnOk r (IfSome known (λ all. bytes ≡ take (suc n) all)) → length bytes ≤ n → IfSome known (λ all. bytes ≡ all)
whole (Ok x) None n bytes ok read few = tt
whole (Ok x) (Some xs) n bytes ok read few = read ∙ all_of n xs (subst (λ l. length l ≤ n) read few)
whole (Err e) known n bytes ok read few = absurd (cc)

-- where some first bytes are more than so many, all are
more_than : (m n : ℕ) (xs : List ℕ) → n < length (take m xs) → n < length xs
more_than zero n xs more = absurd (omega (arith, more))
more_than (suc m) n [] more = more
more_than (suc m) zero (x ∷ xs) more = omega arith
more_than (suc m) (suc n) (x ∷ xs) more = let rest = more_than m n xs (omega (arith, more)) in omega (arith, rest)

longer : {X E : Type 0} (r : Result X E) (known : Option (List ℕ)) (n : ℕ) (bytes : List ℕ) → IsOk r
    → OnOk r (IfSome known (λ all. bytes ≡ take (suc n) all)) → n < length bytes → IfSome known (λ all. n < length all)
longer (Ok x) None n bytes ok read more = tt
longer (Ok x) (Some xs) n bytes ok read more = more_than (suc n) n xs (subst (λ l. n < length l) read more)
longer (Err e) known n bytes ok read more = absurd (cc)

pub returns-clause-whole : goal.returns-clause-whole
returns-clause-whole g c =
    let bytes = c.read_at_most.new.bytes.items in
    let few : length bytes ≤ longest_file = search rules in
    let ok : IsOk c.read_at_most.result = search rules in
    record {
      file = c.in_ok-file.file;
      told = c.in_ok-file.length;
      opened = search rules;
      whole = whole c.read_at_most.result _ longest_file bytes ok c.read_at_most.ensures.read few;
      few = few;
    }

pub returns-then-is_too_long-2-clause-fault : goal.returns-then-is_too_long-2-clause-fault
returns-then-is_too_long-2-clause-fault g c =
    let bytes = c.read_at_most.new.bytes.items in
    let more : longest_file < length bytes = search rules in
    let ok : IsOk c.read_at_most.result = search rules in
    inr (inl (refl, c.in_ok-file.file, c.in_ok-file.length, search rules, inr (longer c.read_at_most.result _ longest_file bytes ok c.read_at_most.ensures.read more)))

pub returns-in-Err-clause-fault : goal.returns-in-Err-clause-fault
returns-in-Err-clause-fault g c =
    inl (_, c.fault_of.ensures, inr (c.in_ok-file.file, c.in_ok-file.length, search rules, search rules, search rules))
