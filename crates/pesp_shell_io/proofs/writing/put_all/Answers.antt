-- What is gone from the rest was written.
use Rattle.std.proofs.Common.{◌≡◌, ℕ, ◌-◌, List, ◌++◌, length, take, drop, sym, ap, ◌∙◌, subst, append_assoc, take-append-drop, Option, Result, Ok, Err, OnErr}
use Rattle.std.proofs.lemmas.List.{take_rest}
use Rattle.std.proofs.Math.Seq.{take-append_seam}
use Rattle.std.specs.Io.KnownBytes.{Appends, Keeps}
use Rattle.std.proofs.KnownBytes.{Appends-kept, Appends-trans}
use Rattle.pesp_shell_io.proofs.writing.put_all.Goals as goal

moves_front : (all done rest : List ℕ) (n : ℕ) → all ≡ done ++ rest → all ≡ (done ++ take n rest) ++ take (length rest - n) (drop n rest)
moves_front all done rest n e =
    e ∙ ap (λ l. done ++ l) (sym (take-append-drop n rest)) ∙ sym (append_assoc done (take n rest) (drop n rest)) ∙ ap (λ l. (done ++ take n rest) ++ l) (sym (take_rest rest n))

-- what was gone before a call that failed
before_failure : (a b c : Option (List ℕ)) (all done rest : List ℕ) → all ≡ done ++ rest → Appends a b done → Keeps b c → (n : ℕ) × Appends a c (take n all)
before_failure a b c all done rest split appended kept =
    (length done, subst (Appends a c) (sym (ap (take (length done)) split ∙ take-append_seam done rest)) (Appends-kept a b c done appended kept))

any_err : {X E : Type 0} (r : Result X E) (P : Type 0) → P → OnErr r P
any_err (Ok x) P p = tt
any_err (Err e) P p = p

pub calls-preserved : goal.calls-preserved
calls-preserved g c =
    let (done, split, appended, kept) = c.calls.invariant in
    let rest = c.calls.rest.now in
    let n = c.in_ok-count.count in
    (done ++ take n rest, moves_front _ done rest n split, Appends-trans _ _ _ _ _ appended c.in_ok-count.ensures.bytes, c.in_ok-count.ensures.failure ∙ kept)

pub returns-in_err-count-clause-err : goal.returns-in_err-count-clause-err
returns-in_err-count-clause-err g c =
    let (done, split, appended, kept) = c.calls.invariant in
    any_err _ _ (before_failure _ _ _ _ done _ split appended c.in_err-count.ensures.bytes)
