-- The rows of a reduced network.
use Rattle.std.proofs.Common.{◌≡◌, ℕ, ◌+◌, ◌*◌, ◌%◌, ◌<◌, ◌≤◌, Bool, true, false, IsTrue, inl, inr, List, length, replicate, get_or, slice_index, slice_set, refl, sym, subst, ap, ◌∙◌, arith}
use Rattle.std.proofs.Math.ListN.{set}
use Rattle.std.proofs.lemmas.Bool.{cases_lt, false≢true}
use Rattle.std.proofs.lemmas.List.{get_or-replicate, get_or-set_other, get_or_default}
use Rattle.std.proofs.lemmas.Nat.{mul-add-lt}
use Rattle.pesp_search_network.specs.Arcs.{Arcs, has}
use Rattle.pesp_search_network.specs.Tied.{AreRowsHeld, IsBelow, IsHeldTo, shifted}
use Rattle.pesp_search_graph.specs.declared.arc.Arc.{Arc}
use Rattle.pesp_search_network.specs.declared.presolve.shift.Shift.{Shift}
use Rattle.pesp_search_network.proofs.Narrowed.{one_index, unset_there}

-- ---- one event

module _ (N : Arcs) (event : ℕ) (shift : Shift) (r : ℕ) (old M : Arcs) (held : IsHeldTo N event shift r old M) where
  -- the event may stand at one residue more
  pub held_there : IsTrue (has N event ((r + shift.offset) % N.period)) → IsHeldTo N event shift (r + 1) old M
  held_there there = record {
    period = held.period;
    events = held.events;
    arcs = held.arcs;
    fewer = λ v q below h.
        (let before = held.fewer v q below h in
        (before.0, λ same less. elim (cases_lt q r) [ inl lesser ↦ before.1 same lesser | inr most ↦ subst (λ k. IsTrue (has N event ((k + shift.offset) % N.period))) (sym (at_last q most less)) there ]));
    kept = λ v q below h admits. held.kept v q below h (λ same less. admits same (omega (arith, less)));
  }
    where
      at_last : (q : ℕ) → r ≤ q → q < r + 1 → q ≡ r
      at_last q most less = omega (arith, most, less)

  -- or may not
  pub held_not : r < old.period → (IsTrue (has N event ((r + shift.offset) % N.period)) → ⊥) → IsHeldTo N event shift (r + 1) old (record M { rows = slice_set M.rows (shift.index * M.period + r) false })
  held_not within out = record {
    period = held.period;
    events = held.events;
    arcs = held.arcs;
    fewer = λ v q below h.
        (let other = elsewhere v q below h in
        let before = held.fewer v q below (sym (stays v q below other) ∙ h) in
        (before.0, λ same less. elim (cases_lt q r) [ inl lesser ↦ before.1 same lesser | inr most ↦ absurd (other same (omega (arith, most, less))) ]));
    kept = λ v q below h admits.
        stays v q below (λ same here. out (subst (λ k. IsTrue (has N event ((k + shift.offset) % N.period))) here (admits same (omega (arith, here)))))
        ∙ held.kept v q below h (λ same less. admits same (omega (arith, less)));
  }
    where
      stays : (v q : ℕ) → q < old.period → (v ≡ shift.index → q ≡ r → ⊥) → has (record M { rows = slice_set M.rows (shift.index * M.period + r) false }) v q ≡ has M v q
      stays v q below other =
          get_or-set_other M.rows (shift.index * M.period + r) (v * M.period + q) false false
          (λ e. (let one = one_index M.period v shift.index q r (omega (arith, below, held.period)) (omega (arith, within, held.period)) e in other one.0 one.1))

      elsewhere : (v q : ℕ) → q < old.period → IsTrue (has (record M { rows = slice_set M.rows (shift.index * M.period + r) false }) v q) → v ≡ shift.index → q ≡ r → ⊥
      elsewhere v q below h same here =
          let place : v * M.period + q ≡ shift.index * M.period + r = ap (λ w. w * M.period + q) same ∙ ap (λ k. shift.index * M.period + k) here in
          false≢true (sym (unset_there M.rows (shift.index * M.period + r)) ∙ ap (λ k. get_or (set M.rows (shift.index * M.period + r) false) k false) (sym place) ∙ h)

-- ---- all events

-- at first no row is held
pub rows-none : (N : Arcs) (shifts : List Shift) (M : Arcs) → M.period ≡ N.period → M.rows ≡ replicate (M.events * M.period) true → AreRowsHeld N shifts 0 M
rows-none N shifts M period full = record {
  fewer = λ y below rows event d none. absurd (omega (arith, none));
  kept = λ y below all v there.
      (let within : slice_index y v < M.period = omega (arith, below v, period) in
      ap (λ (rows : List Bool). get_or rows (v * M.period + slice_index y v) false) full
      ∙ get_or-replicate (M.events * M.period) (v * M.period + slice_index y v) true false (omega (arith, mul-add-lt v M.period (slice_index y v) M.events there within)));
}

module _ (N : Arcs) (shifts : List Shift) (event : ℕ) (e : Shift) (M new : Arcs) (before : AreRowsHeld N shifts event M) (held : IsHeldTo N event (get_or shifts event e) N.period M new)
    (period : M.period ≡ N.period) (there : event < length shifts) (inside : (get_or shifts event e).index < M.events) where
  abbrev at : ℕ
  at = (get_or shifts event e).index

  within : (y : List ℕ) → IsBelow N.period y → (v : ℕ) → slice_index y v < M.period
  within y below v = omega (arith, below v, period)

  -- one row more
  pub rows_more : AreRowsHeld N shifts (event + 1) new
  rows_more = record {
    fewer = λ y below rows v d h.
        (let rows_before = λ (w : ℕ) (k : w < M.events). (held.fewer w (slice_index y w) (within y below w) (rows w (omega (arith, k, held.events)))).0 in
        elim (cases_lt v event) [
          | inl less ↦ before.fewer y below rows_before v d less
          | inr most ↦ here y below rows v d (omega (arith, most, h))
        ]);
    kept = λ y below all v h.
        (let was = before.kept y below (λ w d k. all w d (omega (arith, k))) v (omega (arith, h, held.events)) in
        held.kept v (slice_index y v) (within y below v) was
        (λ same less. subst (λ w. IsTrue (has N event ((slice_index y w + (get_or shifts event e).offset) % N.period))) (sym same) (all event e (omega arith))));
  }
    where
      here : (y : List ℕ) → IsBelow N.period y → ((v : ℕ) → v < new.events → IsTrue (has new v (slice_index y v))) → (v : ℕ) (d : Shift) → v ≡ event → IsTrue (has N v (shifted N.period shifts y v d))
      here y below rows v d same =
          let one = held.fewer at (slice_index y at) (within y below at) (rows at (omega (arith, inside, held.events))) in
          subst (λ w. IsTrue (has N w (shifted N.period shifts y w d))) (sym same)
          (subst (λ (s : Shift). IsTrue (has N event ((slice_index y s.index + s.offset) % N.period))) (get_or_default shifts event e d there) (one.1 refl (below at)))

-- of a network but for its arcs
pub rows_with : (N : Arcs) (shifts : List Shift) (count : ℕ) (M : Arcs) (arcs : List Arc) → AreRowsHeld N shifts count M → AreRowsHeld N shifts count (record M { arcs = arcs })
rows_with N shifts count M arcs held = record { fewer = held.fewer; kept = held.kept }
