-- Pairs are taken out of a set, one after another, each of which breaks a clause of support.
use Rattle.std.specs.Prelude.{◌≡◌, ℕ, ◌==◌, ◌&&◌, not, List, [], ◌∷◌}
use Rattle.pesp_instance.specs.Network.{Network}
use Rattle.pesp_domains.specs.declared.pair.Pair.{Pair}
use Rattle.pesp_domains.specs.Domains.{Stands}
use Rattle.pesp_domains.specs.Sweeps.{Of, Pairs}

-- the set without a pair
abbrev pub without : Pairs → ℕ → ℕ → Pairs
without S event residue e r = S e r && not (e == event && r == residue)

-- the pairs are taken out one after another, each of which does not stand by the set that it is taken from
abbrev pub IsRemoval : Network → List Pair → Pairs → List Pair → Pairs → Type 0
IsRemoval I pushes S [] left = (e r : ℕ) → left e r ≡ S e r
IsRemoval I pushes S (x ∷ xs) left =
    (Stands I pushes (Of S) x.event x.residue → ⊥) × IsRemoval I pushes (without S x.event x.residue) xs left

-- each pair of the set stands by the set
abbrev pub NoneBreaks : Network → List Pair → Pairs → Type 0
NoneBreaks I pushes S = (e r : ℕ) → Of S e r → Stands I pushes (Of S) e r
