-- Whether a residue is in a domain, and whether a path is dead, is decided; so the tree has a size.
use Rattle.std.proofs.Common.{◌≡◌, ℕ, ◌+◌, zero, suc, true, false, IsTrue, List, [], ◌∷◌, ◌++◌, length, slice_index, refl, sym, subst, ◌∙◌, inl, inr, ◌⊎◌, arith}
use Rattle.std.specs.List.{Contains, range_with_len}
use Rattle.std.proofs.lemmas.Bool.{false≢true}
use Rattle.std.proofs.lemmas.List.Elements.{All-contains_itself}
use Rattle.pesp_instance.specs.Network.{Network, event_ids, has_event}
use Rattle.pesp_domains.specs.declared.pair.Pair.{Pair}
use Rattle.pesp_domains.specs.Domains.{InDomains}
use Rattle.pesp_domains.proofs.Families.{here, here_or_there, in_range, not_in_none, there}
use Rattle.pesp_domains.proofs.Laws.{InDomains-admitted}
use Rattle.pesp_domains.proofs.Sweeps.{is_in, left, swept, swept_at_last}
use Rattle.pesp_search.specs.Paths.{IsDeadEnd, pairs_of}
use Rattle.pesp_search.proofs.Events.{index_of}
use Rattle.pesp_search.specs.Tree.{IsSize, IsSumFrom}

-- whether a residue is in the domain of an event is decided
pub in_domains_decided : (I : Network) (pushes : List Pair) (e r : ℕ) → InDomains I pushes e r ⊎ (InDomains I pushes e r → ⊥)
in_domains_decided I pushes e r =
    let n : ℕ = (swept_at_last I pushes).0 in
    let told = swept I pushes n (swept_at_last I pushes).1 e r in
    elim (is_in (left I pushes n) e r) as (λ b. is_in (left I pushes n) e r ≡ b → InDomains I pushes e r ⊎ (InDomains I pushes e r → ⊥)) [
      | true ↦ λ is. inl (told.0 is)
      | false ↦ λ is. inr (λ h. false≢true (sym is ∙ told.1 h))
    ] refl

-- whether some member of a list is as wanted is decided where it is for each
any_decided : {X : Type 0} (P : X → Type 0) → ((x : X) → P x ⊎ (P x → ⊥)) → (xs : List X) → ((x : X) × Contains xs x × P x) ⊎ ((x : X) → Contains xs x → P x → ⊥)
any_decided P each [] = inr (λ x i _. not_in_none x i)
any_decided P each (x ∷ xs) =
    elim (each x) [
      | inl now ↦ inl (x, here x xs, now)
      | inr not_now ↦ elim (any_decided P each xs) [
        | inl later ↦ inl (later.0, there later.0 x xs later.1, later.2)
        | inr not_later ↦ inr (λ y i h. elim (here_or_there y x xs i) [
          | inl same ↦ not_now (subst P (sym same) h)
          | inr rest ↦ not_later y rest h
        ])
      ]
    ]

-- the event is of the instance, and its domain is empty
abbrev IsBare : Network → List Pair → ℕ → Type 0
IsBare I pushes e = IsTrue (has_event I e) × ((r : ℕ) → InDomains I pushes e r → ⊥)

-- whether an event's domain is empty is decided
bare_decided : (I : Network) (pushes : List Pair) (e : ℕ) → IsBare I pushes e ⊎ (IsBare I pushes e → ⊥)
bare_decided I pushes e =
    elim (has_event I e) as (λ b. has_event I e ≡ b → IsBare I pushes e ⊎ (IsBare I pushes e → ⊥)) [
      | true ↦ λ is. elim (any_decided (InDomains I pushes e) (in_domains_decided I pushes e) (range_with_len 0 I.period)) [
        | inl some ↦ inr (λ bare. bare.1 some.0 some.2)
        | inr none ↦ inl (is, λ r h. let below = (InDomains-admitted I pushes e r h).below in none r (in_range 0 I.period r (omega arith) (omega (arith, below))) h)
      ]
      | false ↦ λ is. inr (λ bare. false≢true (sym is ∙ bare.0))
    ] refl

-- whether a path is dead is decided
pub dead_decided : (I : Network) (path : List ℕ) → IsDeadEnd I path ⊎ (IsDeadEnd I path → ⊥)
dead_decided I path =
    let pushes : List Pair = pairs_of (event_ids I) path in
    elim (any_decided (IsBare I pushes) (bare_decided I pushes) (event_ids I)) [
      | inl some ↦ inl (some.0, some.2.0, some.2.1)
      | inr none ↦ inr (λ dead. none dead.0 (of_event dead.0 dead.1) (dead.1, dead.2))
    ]
  where
    of_event : (e : ℕ) → IsTrue (has_event I e) → Contains (event_ids I) e
    of_event e is = let w = index_of I e is in subst (Contains (event_ids I)) w.2 (All-contains_itself (event_ids I) w.0 0 w.1)

-- where there is a size below each residue, there is a sum
sum_exists : (I : Network) (free : ℕ) (path : List ℕ) → ((r : ℕ) → (n : ℕ) × IsSize I free (path ++ r ∷ []) n) → (residues from : ℕ) → (n : ℕ) × IsSumFrom (IsSize I free) I path residues from n
sum_exists I free path each zero from = (0, refl)
sum_exists I free path each (suc residues) from =
    let rest = sum_exists I free path each residues (suc from) in
    let size = each from in
    elim (in_domains_decided I (pairs_of (event_ids I) path) (slice_index (event_ids I) (length path)) from) [
      | inl inside ↦ (suc (size.0 + rest.0), inr (inside, (size.0, size.1, (rest.0, rest.1, refl))))
      | inr out ↦ (rest.0, inl (out, rest.1))
    ]

-- there is a size
pub size_exists : (I : Network) (free : ℕ) (path : List ℕ) → (n : ℕ) × IsSize I free path n
size_exists I zero path = (0, refl)
size_exists I (suc free) path =
    elim (dead_decided I path) [
      | inl dead ↦ (0, inl (dead, refl))
      | inr live ↦ let sum = sum_exists I free path (λ r. size_exists I free (path ++ r ∷ [])) I.period 0 in (sum.0, inr (live, sum.1))
    ]

-- and a sum over any residues
pub sum_there : (I : Network) (free : ℕ) (path : List ℕ) (residues from : ℕ) → (n : ℕ) × IsSumFrom (IsSize I free) I path residues from n
sum_there I free path = sum_exists I free path (λ r. size_exists I free (path ++ r ∷ []))
