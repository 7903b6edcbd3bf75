-- Residues that are left out before they are pushed: what is known with them has come to the limit.
use Rattle.std.proofs.Common.{◌≡◌, ℕ, ◌+◌, ◌<◌, ◌≤◌, ◌↔◌, Bool, IsTrue, List, [], ◌∷◌, ◌++◌, length, get_or, slice_index, Option, Some, None, IsSomeAnd, refl, sym, subst, inl, inr, arith}
use Rattle.std.proofs.lemmas.Bool.{cases_eq, cases_lt}
use Rattle.pesp_instance.specs.Network.{IsNetwork, Network, event_ids}
use Rattle.pesp_domains.specs.declared.pair.Pair.{Pair}
use Rattle.pesp_domains.specs.Domains.{InDomains, IsDomain, holds}
use Rattle.pesp_search.specs.Found.{AreCut, AtLeast, IsCut, IsFirstOfUse}
use Rattle.pesp_search.specs.Paths.{InNext, pairs_of}
use Rattle.pesp_search.specs.Nodes.{Extends, IsFull, IsNext, IsSpent, Nothing, known_cost}
use Rattle.pesp_search.proofs.BestSoFar.{spent_cut}
use Rattle.pesp_search.proofs.Costs.{known_le_cost}
use Rattle.pesp_search.proofs.Members.{next_in_domains}

-- times that extend the path extend it with their own next time
extends_next : (times path : List ℕ) → Extends times path → length path < length times → Extends times (path ++ get_or times (length path) 0 ∷ [])
extends_next [] path x l = absurd (omega (arith, l))
extends_next (t ∷ times) [] x l = (refl, tt)
extends_next (t ∷ times) (y ∷ path) x l = (x.0, extends_next times path x.1 (omega (arith, l)))

-- full times that take such a residue cost at least the limit
cut_at_least : (I : Network) (limit : Option ℕ) (path times : List ℕ) → Extends times path → length path < length times → IsCut limit (known_cost I (path ++ get_or times (length path) 0 ∷ [])) → AtLeast I limit times
cut_at_least I None path times x l cut = cut
cut_at_least I (Some limit) path times x l cut = let known = known_le_cost I times (path ++ get_or times (length path) 0 ∷ []) (extends_next times path x l) in omega (arith, cut, known)

module _ (I : Network) (limit : Option ℕ) (path : List ℕ) (from first : ℕ) (ok : IsNetwork I) (next : IsNext Nothing I path from first) where
  passed : (to : ℕ) → AreCut I limit path first to → (times : List ℕ) → IsFull I times → Extends times path → from ≤ get_or times (length path) 0 → get_or times (length path) 0 < to → AtLeast I limit times
  passed to cut times full x low high =
      let room = next.room in
      let within : length path < length times = omega (arith, room, full.events) in
      elim (cases_lt (get_or times (length path) 0) first) [
        | inl below ↦ absurd (next.skips times full x low below)
        | inr above ↦ cut_at_least I limit path times x within (cut _ above high (next_in_domains I (pairs_of (event_ids I) path) path times ok refl room full x))
      ]

  -- the first residue that is of use is the next one
  pub next_of_cut : (r : ℕ) → IsFirstOfUse I limit path first r → IsNext (AtLeast I limit) I path from r
  next_of_cut r is =
      record { room = next.room; above = omega (arith, next.above, is.above); below = is.below; inside = is.inside; alive = next.alive; skips = passed r is.before }

  -- where none is of use the node is spent
  pub spent_of_cut : AreCut I limit path first I.period → IsSpent (AtLeast I limit) I path from
  spent_of_cut cut =
      record {
        passes = λ times full x later.
            let room = next.room in
            let within : length path < length times = omega (arith, room, full.events) in
            passed I.period cut times full x (later within) (full.below (length path) 0 within);
      }

-- and there is a limit that it is spent for
pub over_of_cut : (I : Network) (limit : Option ℕ) (path : List ℕ) (from first : ℕ) → IsNetwork I → IsNext Nothing I path from first → AreCut I limit path first I.period → IsSomeAnd limit (λ l. IsSpent (AtLeast I (Some l)) I path from)
over_of_cut I None path from first ok next cut = cut first (omega arith) next.below next.inside
over_of_cut I (Some l) path from first ok next cut = spent_of_cut I (Some l) path from first ok next cut

-- ---- one residue after another

-- the row of the next event has just what is left for it
pub row_of_next : (I : Network) (pushes : List Pair) (path : List ℕ) (e : ℕ) (row : List Bool) → pushes ≡ pairs_of (event_ids I) path → e ≡ slice_index (event_ids I) (length path) → IsDomain I pushes e row → (r : ℕ) → IsTrue (holds row r) ↔ InNext I path r
row_of_next I pushes path e row is next domain r = subst (λ f. IsTrue (holds row r) ↔ InDomains I (pairs_of (event_ids I) path) f r) next (subst (λ ps. IsTrue (holds row r) ↔ InDomains I ps e r) is (domain.exact r))

-- none is before the first
pub no_cut : (I : Network) (limit : Option ℕ) (path : List ℕ) (from : ℕ) → AreCut I limit path from from
no_cut I limit path from s low high inside = absurd (omega (arith, low, high))

module _ (I : Network) (limit : Option ℕ) (path : List ℕ) (from r : ℕ) (before : AreCut I limit path from r) where
  -- one residue more that is of no use, or not in the domain
  one_more : (InNext I path r → IsCut limit (known_cost I (path ++ r ∷ []))) → AreCut I limit path from (r + 1)
  one_more here s low high inside =
      elim (cases_eq s r) [
        | inl same ↦ subst (λ q. IsCut limit (known_cost I (path ++ q ∷ []))) (sym same) (here (subst (InNext I path) same inside))
        | inr apart ↦ before s low (omega (arith, high, apart)) inside
      ]

  -- by what is known with it
  pub cut_more : (cost : ℕ) → cost ≡ known_cost I (path ++ r ∷ []) → IsCut limit cost → AreCut I limit path from (r + 1)
  cut_more cost is cut = one_more (λ _. subst (IsCut limit) is cut)

  -- or as it is not in the domain
  pub cut_over : (InNext I path r → ⊥) → AreCut I limit path from (r + 1)
  cut_over out = one_more (λ inside. absurd (out inside))

-- what is known has come to the limit
pub over_of_known : (I : Network) (limit : Option ℕ) (known : ℕ) (path : List ℕ) (from : ℕ) → IsCut limit known → known ≡ known_cost I path → IsSomeAnd limit (λ l. IsSpent (AtLeast I (Some l)) I path from)
over_of_known I None known path from h is = h
over_of_known I (Some l) known path from h is = spent_cut I l path from (omega (arith, h, is))
