-- What is left when pairs that do not stand are taken out.
use Rattle.std.proofs.Common.{ℕ, ◌∙◌, List, [], ◌∷◌, subst}
use Rattle.pesp_instance.specs.Network.{Network}
use Rattle.pesp_domains.specs.declared.pair.Pair.{Pair}
use Rattle.pesp_domains.specs.Domains.{InDomains, Stands}
use Rattle.pesp_domains.specs.Removals.{IsRemoval, NoneBreaks, without}
use Rattle.pesp_domains.specs.Sweeps.{AreDomains, Covers, Of, Pairs}
use Rattle.pesp_domains.proofs.Laws.{InDomains-stands, Stands-more, standing_within}
use Rattle.pesp_domains.proofs.Passes.{without_other}

-- a pair that does not stand by a set that covers the domains is none of them
pub out_of_domains : (I : Network) (pushes : List Pair) (S : Pairs) (event residue : ℕ) → Covers I pushes S → (Stands I pushes (Of S) event residue → ⊥) → InDomains I pushes event residue → ⊥
out_of_domains I pushes S event residue c breaks i =
    breaks (Stands-more I pushes (InDomains I pushes) (Of S) c.each event residue (InDomains-stands I pushes event residue i))

covers_without : (I : Network) (pushes : List Pair) (S : Pairs) (event residue : ℕ) → Covers I pushes S → (InDomains I pushes event residue → ⊥) → Covers I pushes (without S event residue)
covers_without I pushes S event residue c out =
    record {
      each = λ e r i.
          without_other S event residue e r (λ same also. out (subst (λ s. InDomains I pushes event s) also (subst (λ f. InDomains I pushes f r) same i))) ∙ c.each e r i;
    }

-- no pair of the domains is taken out
pub removal_covers : (I : Network) (pushes : List Pair) (S : Pairs) (removed : List Pair) (left : Pairs) → Covers I pushes S → IsRemoval I pushes S removed left → Covers I pushes left
removal_covers I pushes S [] left c h = record { each = λ e r i. h e r ∙ c.each e r i }
removal_covers I pushes S (x ∷ xs) left c h =
    removal_covers I pushes (without S x.event x.residue) xs left
    (covers_without I pushes S x.event x.residue c (out_of_domains I pushes S x.event x.residue c h.0)) h.1

-- and where no pair breaks a clause any more, the domains are left
pub removal_ends : (I : Network) (pushes : List Pair) (S : Pairs) (removed : List Pair) (left : Pairs) → Covers I pushes S → IsRemoval I pushes S removed left → NoneBreaks I pushes left → AreDomains I pushes left
removal_ends I pushes S removed left c h stands =
    let covers = removal_covers I pushes S removed left c h in
    record { exact = λ e r. (standing_within I pushes left stands e r, covers.each e r) }
