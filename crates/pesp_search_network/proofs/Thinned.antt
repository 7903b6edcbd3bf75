-- Rows of which some are left one residue.
use Rattle.std.proofs.Common.{◌≢◌, ℕ, ◌<◌, inl, inr, Bool, IsTrue, List, sym, subst, ap, ◌∙◌, arith}
use Rattle.std.proofs.lemmas.Bool.{cases_eq}
use Rattle.pesp_search_network.specs.Arcs.{Arcs, has}
use Rattle.pesp_search_network.specs.Narrow.{IsHeldFirst}
use Rattle.pesp_search_network.specs.Pieces.{IsThinned, is_inner}

-- one event more, which is not of the side
module _ (inner : List Bool) (side : Bool) (event : ℕ) (N M U : Arcs) (other : is_inner inner event ≢ side) (before : IsThinned inner side N M) (held : IsHeldFirst event M U) where
  fewer_at : (v r : ℕ) → r < N.period → IsTrue (has U v r) → IsTrue (has N v r)
  fewer_at v r h is =
      let within : r < M.period = omega (arith, h, before.period) in
      before.fewer v r h (elim (cases_eq v event) [
        | inl same ↦ subst (λ w. IsTrue (has M w r)) (sym same) (held.fewer r within (subst (λ w. IsTrue (has U w r)) same is))
        | inr apart ↦ sym (held.stay v r within apart) ∙ is
      ])

  some_at : (v r : ℕ) → r < N.period → IsTrue (has N v r) → (q : ℕ) × (q < N.period) × IsTrue (has U v q)
  some_at v r h is =
      let one = before.some v r h is in
      let within : one.0 < M.period = omega (arith, one.1, before.period) in
      elim (cases_eq v event) [
        | inl same ↦
            (let left = held.some one.0 within (subst (λ w. IsTrue (has M w one.0)) same one.2) in
            let below : left.0 < N.period = omega (arith, left.1, before.period) in
            (left.0, below, subst (λ w. IsTrue (has U w left.0)) (sym same) left.2))
        | inr apart ↦ (one.0, one.1, held.stay v one.0 within apart ∙ one.2)
      ]

  pub thinned_more : IsThinned inner side N U
  thinned_more = record {
    period = held.period ∙ before.period;
    events = held.events ∙ before.events;
    arcs = held.arcs ∙ before.arcs;
    kept = λ v r h is.
        (held.stay v r (omega (arith, h, before.period)) (λ e. other (ap (is_inner inner) (sym e) ∙ is)) ∙ before.kept v r h is);
    fewer = fewer_at;
    some = some_at;
  }
