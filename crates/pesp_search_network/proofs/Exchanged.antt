-- Arcs that are exchanged for others, and what maps cost then.
use Rattle.std.proofs.Common.{◌≡◌, ℕ, ◌+◌, ◌<◌, Bool, true, false, cond, IsTrue, All, List, [], ◌∷◌, ◌++◌, length, get_or, take, sum_by, refl, sym, ap, ◌∙◌, arith}
use Rattle.std.specs.Prelude.{IsPermutation}
use Rattle.std.proofs.lemmas.List.{take_more}
use Rattle.std.proofs.lemmas.List.Elements.{All-cons, All-head, All-nil, All-tail}
use Rattle.std.proofs.lemmas.List.Sorted.{sum_by-IsPermutation}
use Rattle.std.proofs.lemmas.List.Sums.{sum_by-append, sum_by-cons}
use Rattle.pesp_search_network.specs.Arcs.{cost_in, meets}
use Rattle.pesp_search_network.specs.Prices.{AreExchanged, unmet}
use Rattle.pesp_search_graph.specs.declared.arc.Arc.{Arc}

-- ---- all arcs

met_of_none : (b : Bool) → ◌≡◌ {A = ℕ} (cond b 0 1) 0 → IsTrue b
met_of_none true none = refl
met_of_none false none = absurd (omega (arith, none))

none_of_met : (b : Bool) → IsTrue b → ◌≡◌ {A = ℕ} (cond b 0 1) 0
none_of_met true is = refl
none_of_met false is = absurd (cc)

module _ (T : ℕ) (x : List ℕ) where
  -- where no arc is unmet all are met
  pub all_met : (arcs : List Arc) → sum_by (unmet T x) arcs ≡ 0 → All (λ a. IsTrue (meets T x a)) arcs
  all_met [] none = All-nil (λ a. IsTrue (meets T x a))
  all_met (a ∷ arcs) none =
      let both = sum_by-cons (unmet T x) a arcs in
      All-cons (λ a. IsTrue (meets T x a)) a arcs (met_of_none (meets T x a) (omega (arith, both, none))) (all_met arcs (omega (arith, both, none)))

  pub none_unmet : (arcs : List Arc) → All (λ a. IsTrue (meets T x a)) arcs → sum_by (unmet T x) arcs ≡ 0
  none_unmet [] all = refl
  none_unmet (a ∷ arcs) all =
      let here = none_of_met (meets T x a) (All-head (λ a. IsTrue (meets T x a)) a arcs all) in
      omega (arith, sum_by-cons (unmet T x) a arcs, here, none_unmet arcs (All-tail (λ a. IsTrue (meets T x a)) a arcs all))

-- ---- exchanges

module _ (T : ℕ) where
  pub exchanged_none : (x y : List ℕ) → AreExchanged T 0 [] x [] y
  exchanged_none x y = record { met = λ _. refl; back = λ _. refl; costs = λ _. refl }

  pub exchanged_itself : (arcs : List Arc) (x : List ℕ) → AreExchanged T 0 arcs x arcs x
  exchanged_itself arcs x = record { met = λ none. none; back = λ none. none; costs = λ _. omega arith }

  -- in another order
  pub exchanged_order : (arcs others : List Arc) (x : List ℕ) → IsPermutation arcs others → AreExchanged T 0 arcs x others x
  exchanged_order arcs others x same =
      let units = sum_by-IsPermutation (unmet T x) arcs others same in
      let costs = sum_by-IsPermutation (cost_in T x) arcs others same in
      record { met = λ none. units ∙ none; back = λ none. sym units ∙ none; costs = λ _. omega (arith, costs) }

  -- one after the other
  pub exchanged_twice : (f g : ℕ) (arcs : List Arc) (x : List ℕ) (others : List Arc) (y : List ℕ) (last : List Arc) (z : List ℕ)
      → AreExchanged T f arcs x others y → AreExchanged T g others y last z → AreExchanged T (f + g) arcs x last z
  exchanged_twice f g arcs x others y last z one other = record {
    met = λ none. other.met (one.met none);
    back = λ none. one.back (other.back none);
    costs = λ none. omega (arith, one.costs (other.back none), other.costs none);
  }

  -- two lists
  pub exchanged_both : (f g : ℕ) (a b : List Arc) (x : List ℕ) (c d : List Arc) (y : List ℕ) → AreExchanged T f a x c y → AreExchanged T g b x d y → AreExchanged T (f + g) (a ++ b) x (c ++ d) y
  exchanged_both f g a b x c d y one other =
      let u = sum_by-append (unmet T x) a b in
      let v = sum_by-append (unmet T y) c d in
      record {
        met = λ none. omega (arith, v, one.met (omega (arith, u, none)), other.met (omega (arith, u, none)));
        back = λ none. omega (arith, u, one.back (omega (arith, v, none)), other.back (omega (arith, v, none)));
        costs = λ none.
            omega (arith, sum_by-append (cost_in T x) a b, sum_by-append (cost_in T y) c d, one.costs (omega (arith, v, none)), other.costs (omega (arith, v, none)));
      }

  -- one arc for one
  pub exchanged_one : (a : Arc) (x : List ℕ) (b : Arc) (y : List ℕ) → meets T y b ≡ meets T x a → cost_in T y b ≡ cost_in T x a → AreExchanged T 0 (a ∷ []) x (b ∷ []) y
  exchanged_one a x b y met costs =
      let same : unmet T y b ≡ unmet T x a = ap (λ (t : Bool). cond {A = ℕ} t 0 1) met in
      record { met = λ none. omega (arith, same, none); back = λ none. omega (arith, same, none); costs = λ _. omega (arith, costs) }

  -- one arc more
  pub exchanged_more : (f g : ℕ) (arcs : List Arc) (x : List ℕ) (others new : List Arc) (y : List ℕ) (k : ℕ) (a : Arc) → k < length arcs → a ≡ get_or arcs k a → AreExchanged T f (take k arcs) x others y
      → AreExchanged T g (a ∷ []) x new y → AreExchanged T (f + g) (take (k + 1) arcs) x (others ++ new) y
  exchanged_more f g arcs x others new y k a there here before now =
      let more : take (k + 1) arcs ≡ take k arcs ++ a ∷ [] = take_more arcs k a there ∙ ap (λ (b : Arc). take k arcs ++ b ∷ []) (sym here) in
      rw more (exchanged_both f g (take k arcs) (a ∷ []) x others new y before now)
