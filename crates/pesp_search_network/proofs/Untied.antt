-- Events that go with themselves.
use Rattle.std.proofs.Common.{◌≡◌, ℕ, ◌+◌, ◌*◌, ◌%◌, ◌<◌, ◌++◌, ◌∷◌, [], inl, inr, List, length, get_or, slice_index, sym, subst, ap, ◌∙◌, arith}
use Rattle.std.proofs.lemmas.Bool.{cases_lt}
use Rattle.std.proofs.lemmas.List.{ext_get_or, get_or_append_left, get_or_push, length-map, length_push}
use Rattle.pesp_base.proofs.WindowLaws.{after_no_step}
use Rattle.pesp_search_least.specs.Order.{Precedes}
use Rattle.pesp_search_network.specs.Arcs.{Arcs, IsCosted, IsMet}
use Rattle.pesp_search_network.specs.Reduced.{IsReduced}
use Rattle.pesp_search_network.specs.Shifts.{lifted}
use Rattle.pesp_search_network.specs.Tied.{AreTied, AreUntied, IsTied}
use Rattle.pesp_search_network.specs.declared.presolve.shift.Shift.{Shift}
use Rattle.pesp_search_network.proofs.Moved.{lifted_at}
use Rattle.pesp_search_network.proofs.Residues.{keeps_rows}
use Rattle.pesp_search_network.proofs.Ties.{leads, tied_itself}

-- one event more
pub untied_more : (events : ℕ) (ties : List Shift) → AreUntied events ties → AreUntied (events + 1) (ties ++ leads events ∷ [])
untied_more events ties are = record {
  long = length_push ties (leads events) ∙ ap (λ n. n + 1) are.long;
  each = λ v d h. elim (cases_lt v events) [
    | inl less ↦ get_or_append_left ties (leads events ∷ []) d v (omega (arith, less, are.long)) ∙ are.each v d less
    | inr most ↦
        (let here : v ≡ events = omega (arith, most, h) in
        ap (λ k. get_or (ties ++ leads events ∷ []) k d) here ∙ get_or_push ties (leads events) d events are.long ∙ ap leads (sym here))
  ];
}

-- what goes with itself is tied
pub tied_of_untied : (N : Arcs) (ties : List Shift) → AreUntied N.events ties → AreTied N ties
tied_of_untied N ties are = record { long = are.long; each = λ v d h. subst (λ (t : Shift). IsTied N v t) (sym (are.each v d h)) (tied_itself N v h) }

module _ (N : Arcs) (shifts : List Shift) (are : AreUntied N.events shifts) where
  -- a map is itself, lifted
  itself : (y : List ℕ) → IsMet N y → lifted N.period shifts y ≡ y
  itself y met =
      let T = N.period in
      let d : Shift = record { index = 0; offset = 0 } in
      let rows = keeps_rows N y met in
      let long : length (lifted T shifts y) ≡ N.events = length-map shifts (λ s. (slice_index y s.index + s.offset) % T) ∙ are.long in
      ext_get_or 0 (lifted T shifts y) y (long ∙ sym met.long)
      (λ v h.
      (let there : v < N.events = omega (arith, h, long) in
      lifted_at T shifts y v d (omega (arith, there, are.long)) ∙ ap (λ (s : Shift). (slice_index y s.index + s.offset) % T) (are.each v d there) ∙ after_no_step T (slice_index y v) (rows.below v there)))

  -- a network is searched in its own place
  pub reduced_itself : IsReduced N N 0 1 (lifted N.period shifts)
  reduced_itself = record {
    some = omega arith;
    down = λ x cost is. record { reduced = x; part = cost; has = is; is = sym (itself x is.met); costs = omega arith };
    up = λ y part is.
        (let same : part ≡ 0 + 1 * part = omega arith in
        subst (λ n. IsCosted N (lifted N.period shifts y) n) same (subst (λ (m : List ℕ). IsCosted N m part) (sym (itself y is.met)) is));
    order = λ y z part rest has_y has_z before. subst (λ (m : List ℕ). Precedes y m) (itself z has_z.met) (subst (λ (m : List ℕ). Precedes m (lifted N.period shifts z)) (itself y has_y.met) before);
  }
