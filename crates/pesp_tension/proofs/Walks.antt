-- A walk that asks the same of each member of a list: all hold it where those that are left do, since those before did.
use Rattle.std.proofs.Common.{◌≡◌, ◌↔◌, List, ◌∷◌, All, subst, sym}
use Rattle.std.proofs.lemmas.List.Elements.{All-cons, All-head, All-tail}

-- before the first member all are left
pub walk_begins : {X : Type 0} (P : X → Type 0) (all left : List X) → left ≡ all → All P all ↔ All P left
walk_begins P all left same = (subst (All P) (sym same), subst (All P) same)

-- one more of which it holds
pub walk_goes_on : {X : Type 0} (P : X → Type 0) (all left rest : List X) (x : X) → All P all ↔ All P left → left ≡ x ∷ rest → P x → All P all ↔ All P rest
walk_goes_on P all left rest x before step here = (λ h. All-tail P x rest (subst (All P) step (before.0 h)), λ h. before.1 (subst (All P) (sym step) (All-cons P x rest here h)))

-- one of which it does not
pub walk_fails : {X : Type 0} (P : X → Type 0) (all left rest : List X) (x : X) → All P all ↔ All P left → left ≡ x ∷ rest → (P x → ⊥) → All P all → ⊥
walk_fails P all left rest x before step not h = not (All-head P x rest (subst (All P) step (before.0 h)))
