-- What is admitted at places.
use Rattle.std.proofs.Common.{◌≡◌, ℕ, ◌+◌, ◌<◌, ◌==◌, ◌&&◌, ◌||◌, nat_lt, Bool, false, Some, None, List, [], ◌∷◌, length, take, get_or, sym, ap, ◌∙◌, IsTrue}
use Rattle.std.proofs.lemmas.Bool.{false≢true, ltb-true}
use Rattle.std.proofs.lemmas.List.{take_more}
use Rattle.std.proofs.lemmas.List.Folds.{list_any-append}
use Rattle.std.specs.List.{list_any}
use Rattle.std.specs.Option.{option_map_or}
use Rattle.pesp_instance.specs.Network.{Network, admits}
use Rattle.pesp_domains.proofs.Families.{and_left}
use Rattle.pesp_counts_arcs.specs.Links.{Links}
use Rattle.pesp_counts_arcs.specs.Places.{number_at}
use Rattle.pesp_counts_supports.specs.Restored.{of_start, of_starts}
use Rattle.pesp_counts_supports.specs.Restoring.{admits_at}
use Rattle.pesp_base.proofs.Tests.{or_alone}

-- what is admitted is below the period
pub admits_below : (I : Network) (links : Links) (p r : ℕ) → IsTrue (admits_at I links p r) → r < I.period
admits_below I links p r =
    elim (number_at links.events p) as (λ o. IsTrue (option_map_or (λ e. nat_lt r I.period && admits I e r) o false) → r < I.period) [
      | None ↦ λ h. absurd (false≢true h)
      | Some e ↦ λ h. ltb-true r I.period (and_left (nat_lt r I.period) (admits I e r) h)
    ]

-- one place more is open
pub starts_one : (I : Network) (links : Links) (starts : List ℕ) (i : ℕ) → i < length starts → (p r : ℕ) → (of_starts I links (take i starts) p r || of_start I links (get_or starts i 0) p r) ≡ of_starts I links (take (i + 1) starts) p r
starts_one I links starts i within p r =
    let test : ℕ → Bool = λ q. p == q && admits_at I links q r in
    let at : ℕ = get_or starts i 0 in
    ap (λ b. of_starts I links (take i starts) p r || b) (or_alone (test at))
    ∙ sym (list_any-append test (take i starts) (at ∷ []))
    ∙ ap (list_any test) (sym (take_more starts i 0 within))
