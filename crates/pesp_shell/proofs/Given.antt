-- The bytes of a file that may be given: its own, or none.
use Rattle.std.proofs.Common.{◌≡◌, ℕ, List, [], Option, Some, None, ap, ◌∙◌, Bor}
use Rattle.std.specs.Prelude.{option_copied, unwrap_or}
use Rattle.pesp_shell.specs.Opening.{given}

pub given_or : (file : Option (Bor (List ℕ))) (none bytes : Bor (List ℕ)) → bytes ≡ unwrap_or file none → none.now ≡ [] → bytes.now ≡ given (option_copied file)
given_or None none bytes is empty = ap (λ (b : Bor (List ℕ)). b.now) is ∙ empty
given_or (Some own) none bytes is empty = ap (λ (b : Bor (List ℕ)). b.now) is
