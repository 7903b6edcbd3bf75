-- What an arc costs between residues, and what the first arcs cost.
use Rattle.std.proofs.Common.{◌≡◌, ℕ, ◌+◌, ◌*◌, ◌<◌, ◌≤◌, Bool, true, false, cond, IsTrue, All, Some, None, List, length, get_or, take, slice_index, sum_by, refl, sym, subst, ap, ◌∙◌, arith}
use Rattle.std.proofs.lemmas.List.Elements.{All-from_get_or, All-get_or, All-more}
use Rattle.std.proofs.lemmas.List.{take_all}
use Rattle.std.proofs.lemmas.List.Sums.{sum_by_more}
use Rattle.pesp_base.specs.Tensions.{is_met, slack_of}
use Rattle.pesp_search_network.specs.Arcs.{Arcs, IsCosted, IsMet, KeepsRows, cost_in, cost_met, meets}
use Rattle.pesp_search_graph.specs.declared.arc.Arc.{Arc}

chosen : (b : Bool) (n m : ℕ) → cond b (Some n) None ≡ Some m → IsTrue b × (n ≡ m)
chosen true n m e = (refl, cc)
chosen false n m e = absurd (cc)

-- a cost is that of an arc that is met
pub cost_met-some : (T : ℕ) (a : Arc) (r s cost : ℕ) → cost_met T a r s ≡ Some cost → IsTrue (is_met T a.span r s) × (a.weight * slack_of T a.span r s ≡ cost)
cost_met-some T a r s cost e = chosen (is_met T a.span r s) (a.weight * slack_of T a.span r s) cost e

met_chosen : (b : Bool) (n : ℕ) → IsTrue b → cond b (Some n) None ≡ Some n
met_chosen true n e = refl
met_chosen false n e = absurd (cc)

-- an arc that is met has a cost
pub cost_met-met : (T : ℕ) (map : List ℕ) (a : Arc) → IsTrue (meets T map a) → cost_met T a (slice_index map a.from) (slice_index map a.to) ≡ Some (cost_in T map a)
cost_met-met T map a e = met_chosen (meets T map a) (cost_in T map a) e

-- an arc of a map that meets everything is met
pub arc-met : (N : Arcs) (map : List ℕ) (k : ℕ) (a : Arc) → IsMet N map → k < length N.arcs → a ≡ get_or N.arcs k a → IsTrue (meets N.period map a)
arc-met N map k a is h e = subst (λ (b : Arc). IsTrue (meets N.period map b)) (sym e) (All-get_or (λ b. IsTrue (meets N.period map b)) N.arcs k a h is.met)

-- one arc more that is met
pub met_more : (T : ℕ) (map : List ℕ) (arcs : List Arc) (k : ℕ) (a : Arc) → k < length arcs → a ≡ get_or arcs k a → All (λ b. IsTrue (meets T map b)) (take k arcs) → IsTrue (meets T map a) → All (λ b. IsTrue (meets T map b)) (take (k + 1) arcs)
met_more T map arcs k a h e before here =
    All-more (λ b. IsTrue (meets T map b)) arcs k a h before (subst (λ (b : Arc). IsTrue (meets T map b)) e here)

-- what one arc more costs
pub cost_more : (T : ℕ) (map : List ℕ) (arcs : List Arc) (k : ℕ) (a : Arc) → k < length arcs → a ≡ get_or arcs k a → sum_by (cost_in T map) (take (k + 1) arcs) ≡ sum_by (cost_in T map) (take k arcs) + cost_in T map a
cost_more T map arcs k a h e = sum_by_more (cost_in T map) arcs k a h ∙ ap (λ c. sum_by (cost_in T map) (take k arcs) + c) (ap (cost_in T map) (sym e))

-- a map that gives each event a residue of its row, and meets all arcs
pub keeps_rows-met : (N : Arcs) (map : List ℕ) (k cost : ℕ) → KeepsRows N map → length N.arcs ≤ k → All (λ a. IsTrue (meets N.period map a)) (take k N.arcs)
    → cost ≡ sum_by (cost_in N.period map) (take k N.arcs) → IsCosted N map cost
keeps_rows-met N map k cost is all met costs =
    let whole : take k N.arcs ≡ N.arcs = take_all k N.arcs all in
    record {
      met = record {
        long = is.long;
        below = All-from_get_or (λ r. r < N.period) map 0 (λ i h. is.below i (omega (arith, h, is.long)));
        rows = is.rows;
        met = subst (λ (list : List Arc). All (λ a. IsTrue (meets N.period map a)) list) whole met;
      };
      costs = ap (sum_by (cost_in N.period map)) (sym whole) ∙ sym costs;
    }
