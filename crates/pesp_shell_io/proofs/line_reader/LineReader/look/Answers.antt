-- What one more call took stands after what was taken before.
use Rattle.std.proofs.Common.{◌≡◌, List, ℕ, ◌+◌, ◌-◌, ◌<◌, ◌≤◌, Bool, true, Option, Result, Ok, Err, IsErr, length, ◌++◌, ap, subst, ◌∙◌, append_assoc, arith, rules}
use Rattle.std.specs.Io.KnownBytes.{Consumes}
use Rattle.std.proofs.KnownBytes.{Consumes-trans}
use Rattle.pesp_shell_io.specs.Devices.{MarksFailure}
use Rattle.pesp_shell_io.specs.Fronts.{IsUnended}
use Rattle.pesp_shell_io.specs.Lines.{longest_line}
use Rattle.pesp_shell_io.specs.declared.limits.TheConstants.{LONGEST_LINE}
use Rattle.pesp_base.proofs.Tests.{always_err}
use Rattle.pesp_shell_io.proofs.line_reader.LineReader.look.Goals as goal

-- these bytes left the source, and stand after what was held
abbrev Taken : Option (List ℕ) → Option (List ℕ) → List ℕ → List ℕ → Type 0
Taken left left' held held' = (bytes : List ℕ) × Consumes left left' bytes × (held' ≡ held ++ bytes)

Taken-trans : (l m n : Option (List ℕ)) (a b c : List ℕ) → Taken l m a b → Taken m n b c → Taken l n a c
Taken-trans l m n a b c (first, gone, e) (then, gone', e') =
    (first ++ then, Consumes-trans l m n first then gone gone', e' ∙ ap (λ x. x ++ then) e ∙ append_assoc a first then)

-- bytes that may go on told nothing, nor did those at the start
told_nothing : {A B : Type 0} (start now : List ℕ) → IsUnended now → (¬ IsUnended start → (now ≡ start) × A) → ¬ IsUnended start → B
told_nothing start now unended known told = absurd (told (subst IsUnended (known told).0 unended))

nearer : (m n : ℕ) → m ≤ longest_line → m < n → LONGEST_LINE + 1 - n < LONGEST_LINE + 1 - m
nearer m n short more = omega arith

marked : {T E : Type 0} (r : Result T E) (before after : Bool) → IsErr r → after ≡ true → MarksFailure r before after
marked (Ok x) before after failed mark = cc
marked (Err e) before after failed mark = mark

pub returns-in_err-fill-clause-taken : goal.returns-in_err-fill-clause-taken
returns-in_err-fill-clause-taken g c = Taken-trans _ _ _ _ _ _ c.pieces.invariant.taken c.fill.ensures.taken

pub returns-then-not-branch-clause-taken : goal.returns-then-not-branch-clause-taken
returns-then-not-branch-clause-taken g c = Taken-trans _ _ _ _ _ _ c.pieces.invariant.taken c.fill.ensures.taken

-- by search, and named so that a wrong body is refused here at once
pub returns-then-not-branch-clause-front : goal.returns-then-not-branch-clause-front
returns-then-not-branch-clause-front g c = search rules

-- the bytes that were held may go on, so there are more of them now, and nothing was told at the start
pub pieces-preserved : goal.pieces-preserved
pieces-preserved g c = record {
  taken = Taken-trans _ _ _ _ _ _ c.pieces.invariant.taken c.fill.ensures.taken;
  failure = c.in_ok-fill.ensures.failure ∙ c.pieces.invariant.failure;
  known = told_nothing c.args.self.now c.pieces.self (subst IsUnended c.held.ensures c.in_default.ensures.front) c.pieces.invariant.known;
}

pub pieces-smaller : goal.pieces-smaller
pieces-smaller g c =
    let unended : IsUnended c.pieces.self = subst IsUnended c.held.ensures c.in_default.ensures.front in
    nearer (length c.pieces.self) (length c.fill.new.self) unended.1 (c.in_ok-fill.ensures.some c.if-not-branch.false)

pub returns-in_err-fill-clause-known : goal.returns-in_err-fill-clause-known
returns-in_err-fill-clause-known g c = told_nothing c.args.self.now c.pieces.self (subst IsUnended c.held.ensures c.in_default.ensures.front) c.pieces.invariant.known

pub returns-then-not-branch-clause-known : goal.returns-then-not-branch-clause-known
returns-then-not-branch-clause-known g c = told_nothing c.args.self.now c.pieces.self (subst IsUnended c.held.ensures c.in_default.ensures.front) c.pieces.invariant.known

-- and a failure leaves them as they are, and is marked
pub returns-in_err-fill-clause-unended : goal.returns-in_err-fill-clause-unended
returns-in_err-fill-clause-unended g c =
    always_err c.from_residual.result (rw c.in_err-fill.ensures.failed (subst IsUnended c.held.ensures c.in_default.ensures.front))

pub returns-in_err-fill-clause-failure : goal.returns-in_err-fill-clause-failure
returns-in_err-fill-clause-failure g c = marked c.from_residual.result _ _ c.from_residual.ensures.0 c.in_err-fill.ensures.failure

pub returns-then-not-branch-clause-failure : goal.returns-then-not-branch-clause-failure
returns-then-not-branch-clause-failure g c = c.in_ok-fill.ensures.failure ∙ c.pieces.invariant.failure
