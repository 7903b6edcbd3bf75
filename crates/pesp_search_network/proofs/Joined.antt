-- Maps that are made of one of a piece and one of the rest.
use Rattle.std.proofs.Common.{◌≡◌, ℕ, zero, suc, ◌+◌, ◌-◌, ◌%◌, ◌<◌, inl, inr, Bool, true, false, cond, not, ◌||◌, IsTrue, All, Option, Some, None, List, [], ◌∷◌, ◌++◌, filter, get_or, length, slice_index, refl, sym, subst, ap, ◌∙◌, arith}
use Rattle.std.proofs.Math.Nat.{mod-eq_of_lt, mod-lt, add-mod_right, add-mod-mod}
use Rattle.std.proofs.lemmas.Bool.{false≢true, cases_lt}
use Rattle.std.proofs.lemmas.List.{get_or_append_left, get_or_push, length_push}
use Rattle.std.proofs.lemmas.List.Elements.{All-cons, All-filter, All-head, All-nil, All-tail, filter_passes}
use Rattle.pesp_search_network.specs.Arcs.{Arcs, KeepsRows, has}
use Rattle.pesp_search_network.specs.Pieces.{IsEnd, IsJoined, IsPiece, MayTurn, difference, is_inner, is_of, touches, turn_of}
use Rattle.pesp_search_graph.specs.declared.arc.Arc.{Arc}
use Rattle.pesp_base.proofs.WindowLaws.{after_no_step}
use Rattle.pesp_search_network.proofs.Turned.{IsTurned}

-- ---- turns

difference_is : (T r s : ℕ) → r < T → difference T r s ≡ (s + (T - r)) % T
difference_is T r s h = ap (λ q. (s + (T - q)) % T) (mod-eq_of_lt h)

-- turned as far as another residue is ahead, it is that one
turned_there : (T r s : ℕ) → r < T → s < T → (r + difference T r s) % T ≡ s
turned_there T r s h below =
    let whole : r + (s + (T - r)) ≡ s + T = omega (arith, h) in
    ap (λ d. (r + d) % T) (difference_is T r s h) ∙ add-mod-mod r (s + (T - r)) T ∙ ap (λ n. n % T) whole ∙ add-mod_right s T ∙ mod-eq_of_lt below

-- ---- lists

-- what passes has what is known of what passes
pub passing : {X : Type 0} (p : X → Bool) (Q : X → Type 0) (xs : List X) → All (λ x. IsTrue (p x) → Q x) xs → All Q (filter p xs)
passing p Q xs all = λ k d h. All-filter p (λ x. IsTrue (p x) → Q x) xs all k d h (filter_passes p xs k d h)

-- what holds of what passes and of what does not holds of all
pub all_both : {X : Type 0} (p : X → Bool) (Q : X → Type 0) (xs : List X) → All Q (filter p xs) → All Q (filter (λ x. not (p x)) xs) → All Q xs
all_both p Q [] pass fail = All-nil Q
all_both {X} p Q (x ∷ xs) pass fail =
    let q : X → Bool = λ y. not (p y) in
    elim (p x) as (λ b. All Q (cond b (x ∷ filter p xs) (filter p xs)) → All Q (cond (not b) (x ∷ filter q xs) (filter q xs)) → All Q (x ∷ xs)) [
      | true ↦ λ here rest. All-cons Q x xs (All-head Q x (filter p xs) here) (all_both p Q xs (All-tail Q x (filter p xs) here) rest)
      | false ↦ λ rest here. All-cons Q x xs (All-head Q x (filter q xs) here) (all_both p Q xs rest (All-tail Q x (filter q xs) here))
    ] pass fail

-- a list that has at each index a number that can be had there
pub record IsBuilt (A : ℕ → ℕ → Type 0) (n : ℕ) : Type 0 where
  pub map : List ℕ
  pub long : length map ≡ n
  pub each : (v : ℕ) → v < n → A v (slice_index map v)

pub build : (A : ℕ → ℕ → Type 0) (n : ℕ) → ((v : ℕ) → v < n → (q : ℕ) × A v q) → IsBuilt A n
build A zero pick = record {
  map = [];
  long = refl;
  each = λ v h. absurd (omega (arith, h));
}
build A (suc n) pick =
    let before : IsBuilt A n = build A n (λ v h. pick v (omega (arith, h))) in
    let last : (q : ℕ) × A n q = pick n (omega arith) in
    record {
      map = before.map ++ last.0 ∷ [];
      long = length_push before.map last.0 ∙ (let more : length before.map + 1 ≡ suc n = omega (arith, before.long) in more);
      each = λ v h. elim (cases_lt v n) [
        | inl less ↦
            (let there : v < length before.map = omega (arith, less, before.long) in
            subst (A v) (sym (get_or_append_left before.map (last.0 ∷ []) 0 v there)) (before.each v less))
        | inr most ↦
            (let same : v ≡ n = omega (arith, h, most) in
            subst (λ w. A w (slice_index (before.map ++ last.0 ∷ []) w)) (sym same)
            (subst (A n) (sym (get_or_push before.map last.0 0 n before.long)) last.1))
      ];
    }

-- there is a map that is joined
pub joined_list : (T : ℕ) (inner : List Bool) (turn : ℕ) (inside outside : List ℕ) → (map : List ℕ) × IsJoined T inner turn inside outside map
joined_list T inner turn inside outside =
    let made = build A (length outside) pick in
    (made.map, record { long = made.long; turned = λ v h. (made.each v h).0; stays = λ v h. (made.each v h).1 })
  where
    A : ℕ → ℕ → Type 0
    A v q = (IsTrue (is_inner inner v) → q ≡ (slice_index inside v + turn) % T) × (is_inner inner v ≡ false → q ≡ slice_index outside v)

    pick : (v : ℕ) → v < length outside → (q : ℕ) × A v q
    pick v h = chosen (is_inner inner v) ((slice_index inside v + turn) % T) (slice_index outside v)
      where
        chosen : (b : Bool) (m n : ℕ) → (q : ℕ) × ((IsTrue b → q ≡ m) × (b ≡ false → q ≡ n))
        chosen true m n = (m, (λ e. refl, λ e. absurd (false≢true (sym e))))
        chosen false m n = (n, (λ e. absurd (false≢true e), λ e. refl))

-- ---- a joined map

-- both ends of an arc of the rest are outside
pub outer_ends : (inner : List Bool) (a : Arc) → IsTrue (not (touches inner a)) → (is_inner inner a.from ≡ false) × (is_inner inner a.to ≡ false)
outer_ends inner a none = neither (is_inner inner a.from) (is_inner inner a.to) none
  where
    neither : (b c : Bool) → IsTrue (not (b || c)) → (b ≡ false) × (c ≡ false)
    neither true c e = absurd (false≢true e)
    neither false true e = absurd (false≢true e)
    neither false false e = (refl, refl)

-- the residue of an event of the piece, turned, is in its row
row_turned : (N : Arcs) (inner : List Bool) (joint : Option ℕ) (inside outside : List ℕ) → MayTurn N inner joint → KeepsRows N inside → (v : ℕ) → v < N.events → IsTrue (is_inner inner v)
    → IsTrue (has N v ((slice_index inside v + turn_of N.period joint inside outside) % N.period))
row_turned N inner None inside outside turns keeps_rows v h is =
    subst (λ r. IsTrue (has N v r)) (sym (after_no_step N.period (slice_index inside v) (keeps_rows.below v h))) (keeps_rows.rows v h)
row_turned N inner (Some c) inside outside turns keeps_rows v h is =
    let some : 0 < N.period = omega (arith, keeps_rows.below v h) in
    turns.free v h is ((slice_index inside v + difference N.period (slice_index inside c) (slice_index outside c)) % N.period) (mod-lt (slice_index inside v + difference N.period (slice_index inside c) (slice_index outside c)) some)

-- an end of an arc of the piece is turned, also one outside
end_turned : (N : Arcs) (inner : List Bool) (joint : Option ℕ) (inside outside map : List ℕ) → MayTurn N inner joint → KeepsRows N inside → KeepsRows N outside → KeepsRows N map
    → IsJoined N.period inner (turn_of N.period joint inside outside) inside outside map → (v : ℕ) → v < N.events → IsEnd N inner joint v
    → slice_index map v ≡ (slice_index inside v + turn_of N.period joint inside outside) % N.period
end_turned N inner None inside outside map turns pi po pm joined v h (inl is) = joined.turned v (omega (arith, h, po.long)) is
end_turned N inner None inside outside map turns pi po pm joined v h (inr only) =
    only.1.only (slice_index map v) (pm.below v h) (pm.rows v h) ∙ sym (only.1.only (slice_index inside v) (pi.below v h) (pi.rows v h))
    ∙ sym (after_no_step N.period (slice_index inside v) (pi.below v h))
end_turned N inner (Some c) inside outside map turns pi po pm joined v h (inl is) = joined.turned v (omega (arith, h, po.long)) is
end_turned N inner (Some c) inside outside map turns pi po pm joined v h (inr same) =
    let turn : ℕ = difference N.period (slice_index inside c) (slice_index outside c) in
    subst (λ w. slice_index map w ≡ (slice_index inside w + turn) % N.period) (sym same)
    (joined.stays c (omega (arith, turns.there, po.long)) turns.outside
    ∙ sym (turned_there N.period (slice_index inside c) (slice_index outside c) (pi.below c turns.there) (po.below c turns.there)))

-- arcs of the rest have their ends outside, which stay
pub outside_same : (N : Arcs) (inner : List Bool) (joint : Option ℕ) (old new : List ℕ) → IsPiece N inner joint → KeepsRows N old
    → ((v : ℕ) → v < N.events → is_inner inner v ≡ false → slice_index new v ≡ slice_index old v) → All (IsTurned N.period 0 old new) (filter (is_of inner false) N.arcs)
outside_same N inner joint old new piece keeps_rows stay =
    passing (is_of inner false) (IsTurned N.period 0 old new) N.arcs
    (λ k d h none.
    (let a : Arc = get_or N.arcs k d in
    let ends = piece.ends k d h in
    let out = outer_ends inner a none in
    let from = keeps_rows.below a.from ends.between.from in
    let to = keeps_rows.below a.to ends.between.to in
    record {
      some = omega (arith, from);
      from = stay a.from ends.between.from out.0 ∙ sym (after_no_step N.period (slice_index old a.from) from);
      to = stay a.to ends.between.to out.1 ∙ sym (after_no_step N.period (slice_index old a.to) to);
    }))

module _ (N : Arcs) (inner : List Bool) (joint : Option ℕ) (inside outside map : List ℕ) (piece : IsPiece N inner joint) (pi : KeepsRows N inside) (po : KeepsRows N outside)
    (joined : IsJoined N.period inner (turn_of N.period joint inside outside) inside outside map) where
  residue_there : (v : ℕ) → v < N.events → (b : Bool) → is_inner inner v ≡ b → (slice_index map v < N.period) × IsTrue (has N v (slice_index map v))
  residue_there v h true is =
      let some : 0 < N.period = omega (arith, pi.below v h) in
      let same = joined.turned v (omega (arith, h, po.long)) is in (
        subst (λ r. r < N.period) (sym same) (mod-lt (slice_index inside v + turn_of N.period joint inside outside) some),
        subst (λ r. IsTrue (has N v r)) (sym same) (row_turned N inner joint inside outside piece.turns pi v h is),
      )
  residue_there v h false is =
      let same = joined.stays v (omega (arith, h, po.long)) is in
      (subst (λ r. r < N.period) (sym same) (po.below v h), subst (λ r. IsTrue (has N v r)) (sym same) (po.rows v h))

  -- each event has a residue of its row
  pub joined_keeps_rows : KeepsRows N map
  joined_keeps_rows = record {
    long = joined.long ∙ po.long;
    below = λ v h. (residue_there v h (is_inner inner v) refl).0;
    rows = λ v h. (residue_there v h (is_inner inner v) refl).1;
  }

  -- arcs of the piece are turned
  pub joined_inside : All (IsTurned N.period (turn_of N.period joint inside outside) inside map) (filter (is_of inner true) N.arcs)
  joined_inside =
      passing (is_of inner true) (IsTurned N.period (turn_of N.period joint inside outside) inside map) N.arcs
      (λ k d h is.
      (let a : Arc = get_or N.arcs k d in
      let ends = piece.ends k d h in
      let turned = end_turned N inner joint inside outside map piece.turns pi po joined_keeps_rows joined in
      record {
        some = omega (arith, pi.below a.from ends.between.from);
        from = turned a.from ends.between.from (ends.from is);
        to = turned a.to ends.between.to (ends.to is);
      }))

  -- arcs of the rest are as they were
  pub joined_outside : All (IsTurned N.period 0 outside map) (filter (is_of inner false) N.arcs)
  joined_outside = outside_same N inner joint outside map piece po (λ v h out. joined.stays v (omega (arith, h, po.long)) out)
