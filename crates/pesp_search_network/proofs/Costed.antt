-- What maps cost by sums over the arcs.
use Rattle.std.proofs.Common.{◌≡◌, ℕ, ◌<◌, All, inl, inr, List, length, slice_index, sum_by, sym, subst, arith}
use Rattle.std.proofs.lemmas.Bool.{cases_lt}
use Rattle.std.proofs.lemmas.List.{get_or_past}
use Rattle.std.proofs.lemmas.List.Elements.{All-from_get_or, All-get_or}
use Rattle.pesp_search_network.specs.Arcs.{Arcs, IsCosted, KeepsRows, cost_in}
use Rattle.pesp_search_network.specs.Prices.{unmet}
use Rattle.pesp_search_network.proofs.Exchanged.{all_met, none_unmet}
use Rattle.pesp_search_network.proofs.Residues.{keeps_rows}

-- the map gives each event a residue of its row, and no arc is unmet
pub record IsCheap (N : Arcs) (of_map : List ℕ) (cost : ℕ) : Type 0 where
  pub rows : KeepsRows N of_map
  pub none : sum_by (unmet N.period of_map) N.arcs ≡ 0
  pub costs : sum_by (cost_in N.period of_map) N.arcs ≡ cost

pub costed_cheap : (N : Arcs) (x : List ℕ) (cost : ℕ) → IsCosted N x cost → IsCheap N x cost
costed_cheap N x cost is = record { rows = keeps_rows N x is.met; none = none_unmet N.period x N.arcs is.met.met; costs = is.costs }

pub cheap_costed : (N : Arcs) (x : List ℕ) (cost : ℕ) → IsCheap N x cost → IsCosted N x cost
cheap_costed N x cost is = record {
  met = record {
    long = is.rows.long;
    below = All-from_get_or (λ r. r < N.period) x 0 (λ v h. is.rows.below v (omega (arith, h, is.rows.long)));
    rows = is.rows.rows;
    met = all_met N.period x N.arcs is.none;
  };
  costs = is.costs;
}

-- the residues of a map are below the period, and so is the one that is read past its end
pub below_all : (T : ℕ) (x : List ℕ) → 0 < T → All (λ r. r < T) x → (v : ℕ) → slice_index x v < T
below_all T x some below v = elim (cases_lt v (length x)) [
  | inl less ↦ All-get_or (λ r. r < T) x v 0 less below
  | inr past ↦ subst (λ r. r < T) (sym (get_or_past x v 0 past)) some
]
