-- A session goes on by a line and its legal reply, and a fault is not told as done.
use Rattle.std.proofs.Common.{◌≡◌, ℕ, List, [], ◌∷◌, ◌++◌, refl, sym, ap, ◌∙◌, append-nil, arith}
use Rattle.pesp_shell_replies.specs.Legal.{Legal, Work}
use Rattle.pesp_shell.specs.Opening.{Files, IsOpening}
use Rattle.pesp_shell.proofs.SessionLemmas.{leads_on}
use Rattle.pesp_embedded.specs.Faults.{told_fault}
use Rattle.pesp_embedded.specs.Sessions.{IsSession}
use Rattle.pesp_embedded.specs.declared.fault.Fault.{Fault}
use Rattle.pesp_embedded.specs.declared.fault.Fault.TheVariants as fault
use Rattle.pesp_embedded.specs.declared.told.Told.{Told}

pub goes_on : (before after : Work) (line reply : List ℕ) → Legal before line reply after
    → (f : Files) (lines : List (List ℕ)) (replies : List ℕ) → IsSession f lines replies before → IsSession f (lines ++ line ∷ []) (replies ++ reply) after
goes_on before after line reply legal f lines replies s = record {
  first = s.first;
  opening = s.opening;
  leads = leads_on s.first before after lines (line ∷ []) replies reply s.leads (reply, after, [], legal, (refl, refl), sym (append-nil reply));
}

-- no line is asked yet
pub begun : (f : Files) (w : Work) → IsOpening f w → IsSession f [] [] w
begun f w opening = record { first = w; opening = opening; leads = (refl, refl) }

-- a fault has a status
some_status : (t : Told) (n : ℕ) → t.status ≡ n → (n ≡ 0 → ⊥) → t.status ≡ 0 → ⊥
some_status t n is some done = some (sym is ∙ done)

pub not_done : (f : Fault) (t : Told) → t ≡ told_fault f → t.status ≡ 0 → ⊥
not_done fault.Memory t is done = some_status t 6 (ap (λ (x : Told). x.status) is) (λ e. omega (arith, e)) done
not_done fault.LongLine t is done = some_status t 7 (ap (λ (x : Told). x.status) is) (λ e. omega (arith, e)) done
not_done fault.Closed t is done = some_status t 10 (ap (λ (x : Told). x.status) is) (λ e. omega (arith, e)) done
not_done fault.Open t is done = some_status t 11 (ap (λ (x : Told). x.status) is) (λ e. omega (arith, e)) done
not_done fault.NotOneLine t is done = some_status t 12 (ap (λ (x : Told). x.status) is) (λ e. omega (arith, e)) done
not_done (fault.Refused refusal) t is done = some_status t 13 (ap (λ (x : Told). x.status) is) (λ e. omega (arith, e)) done
