-- What arcs cost where both of their ends are turned as far.
use Rattle.std.proofs.Common.{◌≡◌, ℕ, ◌+◌, ◌/◌, ◌%◌, ◌*◌, ◌<◌, IsTrue, All, List, [], ◌∷◌, slice_index, sum_by, ℤ, pos, neg_ℤ, ◌+ℤ◌, ◌-ℤ◌, ◌*ℤ◌, refl, sym, ap, ap₂, ◌∙◌, arith, div-add-mod', mul_comm}
use Rattle.std.specs.Prelude.{int_le}
use Rattle.std.proofs.Math.IntN.{pos-*ℤ-pos}
use Rattle.std.proofs.lemmas.Int.{ints}
use Rattle.std.proofs.lemmas.List.Elements.{All-head, All-tail}
use Rattle.std.proofs.lemmas.List.Sums.{sum_by-cons}
use Rattle.pesp_base.specs.Bounds.{Bounds}
use Rattle.pesp_base.specs.Tensions.{residue, slack_of}
use Rattle.pesp_base.proofs.Laws.{against, spread}
use Rattle.pesp_base.proofs.ResidueLaws.{residue-whole_periods}
use Rattle.pesp_search_network.specs.Arcs.{cost_in, meets}
use Rattle.pesp_search_graph.specs.declared.arc.Arc.{Arc}

-- a turned residue is the residue and the turn, less whole periods
pub turned_parts : (T t r : ℕ) → pos ((r + t) % T) ≡ pos (r + t) +ℤ pos T *ℤ neg_ℤ (pos ((r + t) / T))
turned_parts T t r =
    let whole : (r + t) / T * T + (r + t) % T ≡ r + t = div-add-mod' (r + t) T in
    let same : (r + t) / T * T ≡ T * ((r + t) / T) = mul_comm ((r + t) / T) T in
    omega (arith, ints, whole, same, against T (pos ((r + t) / T)), pos-*ℤ-pos T ((r + t) / T))

-- the slack stays
pub slack-turned : (T : ℕ) (span : Bounds) (t r s : ℕ) → 0 < T → slack_of T span ((r + t) % T) ((s + t) % T) ≡ slack_of T span r s
slack-turned T span t r s some =
    let q : ℤ = neg_ℤ (pos ((s + t) / T)) in
    let p : ℤ = neg_ℤ (pos ((r + t) / T)) in
    let parts : pos ((s + t) % T) -ℤ pos ((r + t) % T) -ℤ span.lower ≡ (pos s -ℤ pos r -ℤ span.lower) +ℤ pos T *ℤ (q +ℤ neg_ℤ p) =
    omega (arith, ints, turned_parts T t s, turned_parts T t r, spread T q (neg_ℤ p), against T p) in
    ap (residue T) parts ∙ residue-whole_periods T (pos s -ℤ pos r -ℤ span.lower) (q +ℤ neg_ℤ p) some

-- both ends of the arc are turned as far
pub record IsTurned (T t : ℕ) (old new : List ℕ) (a : Arc) : Type 0 where
  pub some : 0 < T
  pub from : slice_index new a.from ≡ (slice_index old a.from + t) % T
  pub to : slice_index new a.to ≡ (slice_index old a.to + t) % T

module _ (T t : ℕ) (old new : List ℕ) where
  slack_same : (a : Arc) → IsTurned T t old new a → slack_of T a.span (slice_index new a.from) (slice_index new a.to) ≡ slack_of T a.span (slice_index old a.from) (slice_index old a.to)
  slack_same a is = ap₂ (slack_of T a.span) is.from is.to ∙ slack-turned T a.span t (slice_index old a.from) (slice_index old a.to) is.some

  cost_same : (a : Arc) → IsTurned T t old new a → cost_in T new a ≡ cost_in T old a
  cost_same a is = ap (λ n. a.weight * n) (slack_same a is)

  meets_same : (a : Arc) → IsTurned T t old new a → meets T new a ≡ meets T old a
  meets_same a is = ap (λ n. int_le (a.span.lower +ℤ pos n) a.span.upper) (slack_same a is)

  -- together they cost what they did
  pub costs-turned : (arcs : List Arc) → All (IsTurned T t old new) arcs → sum_by (cost_in T new) arcs ≡ sum_by (cost_in T old) arcs
  costs-turned [] are = refl
  costs-turned (a ∷ arcs) are =
      sum_by-cons (cost_in T new) a arcs
      ∙ ap₂ (λ m n. m + n) (cost_same a (All-head (IsTurned T t old new) a arcs are)) (costs-turned arcs (All-tail (IsTurned T t old new) a arcs are))
      ∙ sym (sum_by-cons (cost_in T old) a arcs)

  -- and those that were met are met
  pub met-turned : (arcs : List Arc) → All (IsTurned T t old new) arcs → All (λ a. IsTrue (meets T old a)) arcs → All (λ a. IsTrue (meets T new a)) arcs
  met-turned arcs are met = λ k d h. meets_same _ (are k d h) ∙ met k d h
