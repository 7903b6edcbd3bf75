-- Which maps are left where an event may stand at fewer residues.
use Rattle.std.proofs.Common.{◌≡◌, ◌≢◌, ℕ, ◌+◌, ◌*◌, ◌/◌, ◌<◌, ◌≤◌, ◌⊎◌, inl, inr, min, Bool, true, false, All, IsTrue, List, length, get_or, slice_index, slice_set, sum_by, sym, subst, ap, ◌∙◌, arith}
use Rattle.std.proofs.Math.ListN.{set}
use Rattle.std.proofs.lemmas.List.{get_or-set_same, get_or-set_other, get_or_past, length-set}
use Rattle.std.proofs.lemmas.Nat.{div-mul-add}
use Rattle.std.proofs.lemmas.Bool.{cases_eq, cases_lt}
use Rattle.pesp_search_least.specs.Order.{IsHeld}
use Rattle.pesp_search_network.specs.Arcs.{Arcs, IsCosted, IsMet, cost_in, has, meets}
use Rattle.pesp_search_network.specs.Narrow.{IsNarrowed}
use Rattle.pesp_search_graph.specs.declared.arc.Arc.{Arc}
use Rattle.pesp_search_network.proofs.Residues.{keeps_rows}

-- ---- one residue

pub unset_there : (rows : List Bool) (k : ℕ) → get_or (set rows k false) k false ≡ false
unset_there rows k = elim (cases_lt k (length rows)) [
  | inr past ↦ get_or_past (set rows k false) k false (omega (arith, past, length-set rows k false))
  | inl within ↦ get_or-set_same rows k false false within
]

-- a test that fails goes on to fail
unset : (rows : List Bool) (k j : ℕ) → get_or rows j false ≡ false → get_or (set rows k false) j false ≡ false
unset rows k j e = elim (cases_eq j k) [
  | inl same ↦ subst (λ i. get_or (set rows k false) i false ≡ false) (sym same) (unset_there rows k)
  | inr other ↦ get_or-set_other rows k j false false other ∙ e
]

-- two indices of one row
pub one_index : (T v w q r : ℕ) → q < T → r < T → v * T + q ≡ w * T + r → (v ≡ w) × (q ≡ r)
one_index T v w q r h below e =
    let row : v ≡ w = sym (div-mul-add v T q h) ∙ ap (λ n. n / T) e ∙ div-mul-add w T r below in
    let starts = ap (λ n. n * T) row in
    (row, omega (arith, e, starts))

-- one residue more is forbidden
pub narrowed_more : (event low r : ℕ) (N M : Arcs) → low ≤ r → r < N.period → IsNarrowed event low r N M
    → IsNarrowed event low (r + 1) N (record M { rows = slice_set M.rows (event * M.period + r) false })
narrowed_more event low r N M from below before =
    let index : ℕ = event * M.period + r in
    let within : r < M.period = omega (arith, below, before.period) in
    record {
      period = before.period;
      events = before.events;
      arcs = before.arcs;
      gone = λ q h less. elim (cases_lt q r) [
        | inl lesser ↦ unset M.rows index (event * M.period + q) (before.gone q h lesser)
        | inr most ↦
            (let same : q ≡ r = omega (arith, most, less) in
            subst (λ p. get_or (set M.rows index false) (event * M.period + p) false ≡ false) (sym same) (unset_there M.rows index))
      ];
      stay = λ v q h out.
          (let other : v * M.period + q ≢ index = λ e.
          (let one = one_index M.period v event q r (omega (arith, h, before.period)) within e in
          out one.0 (omega (arith, one.1, from)) (omega (arith, one.1))) in
          get_or-set_other M.rows index (v * M.period + q) false false other ∙ before.stay v q h (λ e l less. out e l (omega (arith, less))));
    }

-- ---- maps

in_range : (v e l r h : ℕ) → ((v ≡ e) × (l ≤ r) × (r < h)) ⊎ (v ≡ e → l ≤ r → r < h → ⊥)
in_range v e l r h = elim (cases_eq v e) [
  | inr other ↦ inr (λ same _ _. other same)
  | inl same ↦ elim (cases_lt r l) [
    | inl less ↦ inr (λ _ most _. absurd (omega (arith, less, most)))
    | inr most ↦ elim (cases_lt r h) [
      | inr past ↦ inr (λ _ _ below. absurd (omega (arith, past, below)))
      | inl below ↦ inl (same, most, below)
    ]
  ]
]

module _ (event low high : ℕ) (N M : Arcs) (narrowed : IsNarrowed event low high N M) where
  row_there : (map : List ℕ) (v : ℕ) → IsMet M map → v < N.events → IsTrue (has N v (slice_index map v))
  row_there map v is h =
      let p = keeps_rows M map is in
      let below : slice_index map v < N.period = omega (arith, p.below v (omega (arith, h, narrowed.events)), narrowed.period) in
      let held = p.rows v (omega (arith, h, narrowed.events)) in
      elim (in_range v event low (slice_index map v) high) [
        | inr out ↦ sym (narrowed.stay v (slice_index map v) below out) ∙ held
        | inl inside ↦
            (let gone = narrowed.gone (slice_index map v) inside.1 inside.2 in
            let here = subst (λ w. has M w (slice_index map v) ≡ true) inside.0 held in
            absurd (cc (gone, here)))
      ]

  -- no map is new
  pub narrowed-within : (map : List ℕ) (cost : ℕ) → IsCosted M map cost → IsCosted N map cost
  narrowed-within map cost is = record {
    met = record {
      long = is.met.long ∙ narrowed.events;
      below = subst (λ T. All (λ r. r < T) map) narrowed.period is.met.below;
      rows = λ v h. row_there map v is.met h;
      met = subst (λ T. All (λ a. IsTrue (meets T map a)) N.arcs) narrowed.period (subst (λ (list : List Arc). All (λ a. IsTrue (meets M.period map a)) list) narrowed.arcs is.met.met);
    };
    costs = ap (λ T. sum_by (cost_in T map) N.arcs) (sym narrowed.period) ∙ ap (sum_by (cost_in M.period map)) (sym narrowed.arcs) ∙ is.costs;
  }

  -- the event stands at no forbidden residue
  pub narrowed-out : (map : List ℕ) (cost : ℕ) → event < N.events → IsCosted M map cost → low ≤ slice_index map event → slice_index map event < high → ⊥
  narrowed-out map cost h is most below =
      let held = is.met.rows event (omega (arith, h, narrowed.events)) in
      let gone = narrowed.gone (slice_index map event) most below in
      absurd (cc (gone, held))

  -- maps that stand elsewhere are left
  pub narrowed-keeps : (map : List ℕ) (cost : ℕ) → IsCosted N map cost → (low ≤ slice_index map event → slice_index map event < high → ⊥) → IsCosted M map cost
  narrowed-keeps map cost is out = record {
    met = record {
      long = is.met.long ∙ sym narrowed.events;
      below = subst (λ T. All (λ r. r < T) map) (sym narrowed.period) is.met.below;
      rows = λ v h.
          (let p = keeps_rows N map is.met in
          let inside : v < N.events = omega (arith, h, narrowed.events) in
          narrowed.stay v (slice_index map v) (p.below v inside) (λ e. subst (λ w. low ≤ slice_index map w → slice_index map w < high → ⊥) (sym e) out) ∙ p.rows v inside);
      met = subst (λ T. All (λ a. IsTrue (meets T map a)) M.arcs) (sym narrowed.period) (subst (λ (list : List Arc). All (λ a. IsTrue (meets N.period map a)) list) (sym narrowed.arcs) is.met.met);
    };
    costs = ap (λ T. sum_by (cost_in T map) M.arcs) narrowed.period ∙ ap (sum_by (cost_in N.period map)) narrowed.arcs ∙ is.costs;
  }

-- ---- one residue is left

-- residues below one, and after it, are forbidden
pub held : (event residue first next : ℕ) (N M U : Arcs) → event < N.events → first ≡ min residue N.period → next ≡ min (residue + 1) N.period
    → IsNarrowed event 0 first N M → IsNarrowed event next N.period M U → IsHeld event residue (IsCosted N) (IsCosted U)
held event residue first next N M U h low high before after = record {
  keeps = λ map cost is same.
      (let below = (keeps_rows N map is.met).below event h in
      narrowed-keeps event next N.period M U after map cost
      (narrowed-keeps event 0 first N M before map cost is (λ _ less. omega (arith, low, same, below, less)))
      (λ most less. omega (arith, high, same, below, most, less)));
  within = λ map cost is. narrowed-within event 0 first N M before map cost (narrowed-within event next N.period M U after map cost is);
  held = λ map cost is.
      (let mid = narrowed-within event next N.period M U after map cost is in
      let old = narrowed-within event 0 first N M before map cost mid in
      let below = (keeps_rows N map old.met).below event h in
      let inside : event < M.events = omega (arith, h, before.events) in
      least_and_most (slice_index map event) residue first next N.period low high below
      (narrowed-out event 0 first N M before map cost h mid (omega arith))
      (narrowed-out event next N.period M U after map cost inside is));
}
  where
    least_and_most : (r residue first next T : ℕ) → first ≡ min residue T → next ≡ min (residue + 1) T → r < T → (r < first → ⊥) → (next ≤ r → r < T → ⊥) → r ≡ residue
    least_and_most r residue first next T low high below most less = grind arith
