-- Arcs that weigh something in a part alone.
use Rattle.std.proofs.Common.{inl, inr, subst, ◌≡◌, ℕ, ◌+◌, ◌≤◌, ◌==◌, nat_lt, sum_by, ◌++◌, ◌∷◌, [], Bool, true, false, List, All, length, take, get_or, ◌<◌, ◌∙◌, refl, sym, ap, ap₂, arith}
use Rattle.std.proofs.lemmas.List.Sums.{sum_by-cons}
use Rattle.std.proofs.lemmas.Bool.{cases_eq, cases_lt, eq-eqb, le-ltb, lt-ltb, ne_eqb}
use Rattle.std.proofs.lemmas.List.{get_or-map, length-map, length-take-le, take_more}
use Rattle.std.proofs.lemmas.List.Elements.{All-cons, All-head, All-tail}
use Rattle.pesp_search_graph.specs.declared.arc.Arc.{Arc}
use Rattle.pesp_search_network.specs.Arcs.{IsBetween, cost_in}
use Rattle.pesp_search_network.specs.Weights.{AreAlike, kept, weighed}

pub weighed-push : (f : ℕ → Bool) (ps : List ℕ) (arcs : List Arc) (p : ℕ) (a : Arc) → length ps ≡ length arcs → weighed f (ps ++ p ∷ []) (arcs ++ a ∷ []) ≡ weighed f ps arcs ++ kept (f p) a ∷ []
weighed-push f [] [] p a e = refl
weighed-push f [] (b ∷ arcs) p a e = absurd (omega (arith, e))
weighed-push f (q ∷ ps) [] p a e = absurd (omega (arith, e))
weighed-push f (q ∷ ps) (b ∷ arcs) p a e = ap (λ (l : List Arc). kept (f q) b ∷ l) (weighed-push f ps arcs p a (omega (arith, e)))

pub length-weighed : (f : ℕ → Bool) (ps : List ℕ) (arcs : List Arc) → length (weighed f ps arcs) ≡ length arcs
length-weighed f [] [] = refl
length-weighed f (p ∷ ps) [] = refl
length-weighed f [] (a ∷ arcs) = omega (arith, length-weighed f [] arcs)
length-weighed f (p ∷ ps) (a ∷ arcs) = omega (arith, length-weighed f ps arcs)

between_kept : (events : ℕ) (k : Bool) (a : Arc) → IsBetween events a → IsBetween events (kept k a)
between_kept events true a is = is
between_kept events false a is = record { from = is.from; to = is.to }

pub between_weighed : (events : ℕ) (f : ℕ → Bool) (ps : List ℕ) (arcs : List Arc) → All (IsBetween events) arcs → All (IsBetween events) (weighed f ps arcs)
between_weighed events f [] [] all = all
between_weighed events f (p ∷ ps) [] all = all
between_weighed events f [] (a ∷ arcs) all =
    All-cons (IsBetween events) (kept false a) (weighed f [] arcs) (between_kept events false a (All-head (IsBetween events) a arcs all)) (between_weighed events f [] arcs (All-tail (IsBetween events) a arcs all))
between_weighed events f (p ∷ ps) (a ∷ arcs) all =
    All-cons (IsBetween events) (kept (f p) a) (weighed f ps arcs) (between_kept events (f p) a (All-head (IsBetween events) a arcs all)) (between_weighed events f ps arcs (All-tail (IsBetween events) a arcs all))

-- one arc more
pub weighed_more : (f : ℕ → Bool) (ps : List ℕ) (arcs : List Arc) (i : ℕ) (a : Arc) → length ps ≡ length arcs → i < length arcs
    → weighed f (take (i + 1) ps) (take (i + 1) arcs) ≡ weighed f (take i ps) (take i arcs) ++ kept (f (get_or ps i 0)) (get_or arcs i a) ∷ []
weighed_more f ps arcs i a e h =
    ap₂ (weighed f) (take_more ps i 0 (omega (arith, e, h))) (take_more arcs i a h)
    ∙ weighed-push f (take i ps) (take i arcs) (get_or ps i 0) (get_or arcs i a) (length-take-le i ps (omega (arith, e, h)) ∙ sym (length-take-le i arcs (omega (arith, h))))

-- ---- costs

module _ (T : ℕ) (xs : List ℕ) where
  weighed_one : (f : ℕ → Bool) (a : Arc) (arcs : List Arc) → sum_by (cost_in T xs) (weighed f [] (a ∷ arcs)) ≡ sum_by (cost_in T xs) (weighed f [] arcs)
  weighed_one f a arcs = sum_by-cons (cost_in T xs) (kept false a) (weighed f [] arcs) ∙ omega arith

  weighed_next : (f : ℕ → Bool) (p : ℕ) (ps : List ℕ) (a : Arc) (arcs : List Arc) → sum_by (cost_in T xs) (weighed f (p ∷ ps) (a ∷ arcs)) ≡ cost_in T xs (kept (f p) a) + sum_by (cost_in T xs) (weighed f ps arcs)
  weighed_next f p ps a arcs = sum_by-cons (cost_in T xs) (kept (f p) a) (weighed f ps arcs)

  cost_kept : (k : Bool) (a : Arc) → cost_in T xs (kept k a) ≤ cost_in T xs a
  cost_kept true a = omega arith
  cost_kept false a = omega arith

  -- without some weights a map costs no more
  pub costs_fewer : (f : ℕ → Bool) (ps : List ℕ) (arcs : List Arc) → sum_by (cost_in T xs) (weighed f ps arcs) ≤ sum_by (cost_in T xs) arcs
  costs_fewer f [] [] = omega arith
  costs_fewer f (p ∷ ps) [] = omega arith
  costs_fewer f [] (a ∷ arcs) = rw (weighed_one f a arcs) (omega (arith, sum_by-cons (cost_in T xs) a arcs, costs_fewer f [] arcs))
  costs_fewer f (p ∷ ps) (a ∷ arcs) = rw (weighed_next f p ps a arcs) (omega (arith, sum_by-cons (cost_in T xs) a arcs, cost_kept (f p) a, costs_fewer f ps arcs))

  cost_both : (l p : ℕ) (a : Arc) → cost_in T xs (kept (nat_lt p (l + 1)) a) ≡ cost_in T xs (kept (nat_lt p l) a) + cost_in T xs (kept (p == l) a)
  cost_both l p a =
      elim (cases_lt p l) [
        | inl less ↦ rw (lt-ltb p (l + 1) (omega (arith, less)), lt-ltb p l less, ne_eqb p l (λ e. omega (arith, e, less))) (omega arith)
        | inr more ↦
            elim (cases_eq p l) [
              | inl e ↦ rw (lt-ltb p (l + 1) (omega (arith, e)), le-ltb p l more, eq-eqb p l e) (omega arith)
              | inr other ↦ rw (le-ltb p (l + 1) (omega (arith, other, more)), le-ltb p l more, ne_eqb p l other) (omega arith)
            ]
      ]

  -- what a map costs in the parts before one more
  pub costs_next : (l : ℕ) (ps : List ℕ) (arcs : List Arc)
      → sum_by (cost_in T xs) (weighed (λ p. nat_lt p (l + 1)) ps arcs) ≡ sum_by (cost_in T xs) (weighed (λ p. nat_lt p l) ps arcs) + sum_by (cost_in T xs) (weighed (λ p. p == l) ps arcs)
  costs_next l [] [] = omega arith
  costs_next l (p ∷ ps) [] = omega arith
  costs_next l [] (a ∷ arcs) = weighed_one (λ p. nat_lt p (l + 1)) a arcs ∙ costs_next l [] arcs ∙ ap₂ (λ m n. m + n) (sym (weighed_one (λ p. nat_lt p l) a arcs)) (sym (weighed_one (λ p. p == l) a arcs))
  costs_next l (p ∷ ps) (a ∷ arcs) =
      rw (weighed_next (λ q. nat_lt q (l + 1)) p ps a arcs, weighed_next (λ q. nat_lt q l) p ps a arcs, weighed_next (λ q. q == l) p ps a arcs)
      (omega (arith, cost_both l p a, costs_next l ps arcs))

-- ---- the same arcs

kept_twice : (k : Bool) (a : Arc) → kept false (kept k a) ≡ kept false a
kept_twice true a = refl
kept_twice false a = refl

pub weighed_alike : (f : ℕ → Bool) (ps : List ℕ) (arcs : List Arc) → AreAlike (weighed f ps arcs) arcs
weighed_alike f [] [] = refl
weighed_alike f (p ∷ ps) [] = refl
weighed_alike f [] (a ∷ arcs) = ap (λ (l : List Arc). kept false a ∷ l) (weighed_alike f [] arcs)
weighed_alike f (p ∷ ps) (a ∷ arcs) = ap₂ (λ (b : Arc) (l : List Arc). b ∷ l) (kept_twice (f p) a) (weighed_alike f ps arcs)

pub length-alike : (arcs others : List Arc) → AreAlike arcs others → length arcs ≡ length others
length-alike arcs others e = sym (length-map arcs (kept false)) ∙ ap length e ∙ length-map others (kept false)

-- each arc is the same as its neighbour but for what it weighs
pub same_at : (arcs others : List Arc) (k : ℕ) (d e : Arc) → AreAlike arcs others → k < length arcs → kept false (get_or arcs k d) ≡ kept false (get_or others k e)
same_at arcs others k d e same h =
    sym (get_or-map (kept false) arcs k d d h) ∙ ap (λ (l : List Arc). get_or l k d) same ∙ get_or-map (kept false) others k e d (omega (arith, h, length-alike arcs others same))

-- what does not hang on weights holds of both
pub all_alike : (P : Arc → Type 0) → ((a : Arc) → P a → P (kept false a)) → ((a : Arc) → P (kept false a) → P a) → (arcs others : List Arc) → AreAlike arcs others → All P arcs → All P others
all_alike P there back arcs others e all = λ k d h.
    let m : k < length arcs = omega (arith, h, length-alike arcs others e) in
    back (get_or others k d) (subst P (same_at arcs others k d d e m) (there (get_or arcs k d) (all k d m)))
