-- The scale times the cost, and what it is at least.
use Rattle.std.proofs.Common.{◌≡◌, ℕ, suc, ◌+◌, ◌*◌, ◌<◌, ◌≤◌, ◌++◌, ℤ, pos, ◌+ℤ◌, ◌*ℤ◌, ◌≤ℤ◌, Option, Some, None, MatchOption, All, List, [], ◌∷◌, length, map, get_or, sum_by, refl, sym, ap, subst, ◌∙◌, arith}
use Rattle.std.proofs.Math.IntN.{pos-*ℤ-pos}
use Rattle.std.proofs.lemmas.Int.{ints}
use Rattle.std.proofs.lemmas.List.{length-map}
use Rattle.std.proofs.lemmas.List.Sums.{sum_by-cons}
use Rattle.std.specs.Option.{ForNone, ForSome}
use Rattle.std.specs.Prelude.{max}
use Rattle.pesp_search_least.specs.Sums.{IsEmpty, IsLowerBound, Sums}
use Rattle.pesp_search_graph.specs.declared.arc.Arc.{Arc}
use Rattle.pesp_search_network.specs.Arcs.{cost_in}
use Rattle.pesp_search_cycles.specs.declared.boxes.Boxes.{Boxes}
use Rattle.pesp_search_cycles.specs.Maps.{AreCycles, IsSummed, Net, slack_at}
use Rattle.pesp_search_cycles.specs.Ranges.{AreIn}
use Rattle.pesp_search_cycles.specs.Terms.{IsKept, greater, products, rate_at, weighed}
use Rattle.pesp_search_cycles.specs.Walks.{RoundsAreIn}

spread : (s w y r : ℕ) → s * w * y + s * r ≡ s * (w * y + r)
spread s w y r = omega arith

none_less : (a b : ℤ) (n : ℕ) → a ≡ pos 0 → b ≡ pos 0 → a +ℤ b ≡ pos (n * 0)
none_less a b n e f = omega (arith, ints, e, f)

nothing : (n : ℕ) → pos 0 ≡ pos (n * 0)
nothing n = ap pos (omega arith)

zero_times : (y : ℕ) → pos 0 *ℤ pos y ≡ pos 0
zero_times y = pos-*ℤ-pos 0 y ∙ ap pos (omega arith)

more : (scale w y s : ℕ) (r p : ℤ) → r ≡ pos (scale * w) → p ≡ pos (scale * s) → r *ℤ pos y +ℤ p ≡ pos (scale * (w * y + s))
more scale w y s r p e f =
    ap (λ k. k *ℤ pos y +ℤ p) e
    ∙ ap (λ k. k +ℤ p) (pos-*ℤ-pos (scale * w) y)
    ∙ ap (λ k. pos (scale * w * y) +ℤ k) f
    ∙ ap pos (spread scale w y s)

-- rates of 0
zeros : (rs : List ℤ) (xs : List ℕ) (n : ℕ) → ((k : ℕ) → k < length rs → get_or rs k (pos 0) ≡ pos 0) → products rs xs ≡ pos (n * 0)
zeros [] xs n h = nothing n
zeros (r ∷ rs) [] n h = nothing n
zeros (r ∷ rs) (x ∷ xs) n h =
    none_less (r *ℤ pos x) (products rs xs) n (ap (λ k. k *ℤ pos x) (h 0 (omega arith)) ∙ zero_times x)
    (zeros rs xs 0 (λ k less. h (suc k) (omega (arith, less))) ∙ ap pos (omega arith))

-- rates of the arcs, and of the events, which have none
pub products-weighed : (scale : ℕ) (arcs : List Arc) (rs : List ℤ) (ys xs : List ℕ) → length ys ≡ length arcs → length arcs ≤ length rs → ((k : ℕ) → k < length rs → get_or rs k (pos 0) ≡ rate_at scale arcs k) → products rs (ys ++ xs) ≡ pos (scale * weighed arcs ys)
products-weighed scale [] rs [] xs e f h = zeros rs xs scale h
products-weighed scale [] rs (y ∷ ys) xs e f h = absurd (omega (arith, e))
products-weighed scale (a ∷ arcs) rs [] xs e f h = absurd (omega (arith, e))
products-weighed scale (a ∷ arcs) [] (y ∷ ys) xs e f h = absurd (omega (arith, f))
products-weighed scale (a ∷ arcs) (r ∷ rs) (y ∷ ys) xs e f h =
    more scale a.weight y (weighed arcs ys) r (products rs (ys ++ xs)) (h 0 (omega arith))
    (products-weighed scale arcs rs ys xs (omega (arith, e)) (omega (arith, f)) (λ k less. h (suc k) (omega (arith, less))))

pub weighed-slacks : (T : ℕ) (xs : List ℕ) (arcs : List Arc) → weighed arcs (map (slack_at T xs) arcs) ≡ sum_by (cost_in T xs) arcs
weighed-slacks T xs [] = refl
weighed-slacks T xs (a ∷ arcs) = ap (λ k. cost_in T xs a + k) (weighed-slacks T xs arcs) ∙ sym (sum_by-cons (cost_in T xs) a arcs)

chain : (l v p q : ℤ) → l ≤ℤ v → v ≤ℤ p → p ≡ q → l ≤ℤ q
chain l v p q g h e = omega (arith, ints, g, h, e)

-- what is settled, from a sum that is at most the scale times the cost
pub settled_below : (scale : ℕ) (arcs : List Arc) (ys xs : List ℕ) (least v : ℤ) (start : List ℤ) → length ys ≡ length arcs → length arcs ≤ length start → ((k : ℕ) → k < length start → get_or start k (pos 0) ≡ rate_at scale arcs k) → least ≤ℤ v → v ≤ℤ products start (ys ++ xs) → least ≤ℤ pos (scale * weighed arcs ys)
settled_below scale arcs ys xs least v start long e f g h =
    chain least v (products start (ys ++ xs)) (pos (scale * weighed arcs ys)) g h (products-weighed scale arcs start ys xs long e f)

-- what a lower bound of the scale times the cost tells of the cost
pub told : (N : Net) (B : Boxes) (o : Option ℕ) (sum : ℤ) (scale : ℕ) → AreCycles N → ((ys xs : List ℕ) → length ys ≡ length N.network.arcs → AreIn B.numbers.items (ys ++ xs) → RoundsAreIn B.rounds.items N.network.arcs (ys ++ xs) N.walks → All (λ cut. IsKept cut (ys ++ xs)) N.cuts → sum ≤ℤ pos (scale * weighed N.network.arcs ys)) → MatchOption o ((cost : ℕ) → sum ≤ℤ pos (scale * cost) → ⊥) (λ least. (cost : ℕ) → sum ≤ℤ pos (scale * cost) → least ≤ cost) → MatchOption o (IsEmpty (IsSummed N B)) (IsLowerBound (IsSummed N B))
told N B o sum scale sound f h = go o h
  where
    at : (xs : List ℕ) (cost : ℕ) → IsSummed N B xs cost → sum ≤ℤ pos (scale * cost)
    at xs cost s =
        let A = N.network in
        subst (λ k. sum ≤ℤ pos (scale * k)) (weighed-slacks A.period xs A.arcs ∙ s.costed.costs)
        (f (map (slack_at A.period xs) A.arcs) xs (length-map A.arcs (slack_at A.period xs)) s.inside.numbers s.inside.rounds (λ k d h. sound.kept k d h xs s.costed.met))

    go : (p : Option ℕ) → MatchOption p ((cost : ℕ) → sum ≤ℤ pos (scale * cost) → ⊥) (λ least. (cost : ℕ) → sum ≤ℤ pos (scale * cost) → least ≤ cost) → MatchOption p (IsEmpty (IsSummed N B)) (IsLowerBound (IsSummed N B))
    go None k = λ xs cost s. k cost (at xs cost s)
    go (Some least) k = λ xs cost s. k cost (at xs cost s)

-- the greater of two lower bounds is one
pub greater_none : (sums : Sums) (o p : Option ℕ) → ForNone o (IsEmpty sums) → MatchOption p (IsEmpty sums) (IsLowerBound sums) → ForNone (greater o p) (IsEmpty sums)
greater_none sums None p f h = λ e. f refl
greater_none sums (Some a) None f h = λ e. h
greater_none sums (Some a) (Some b) f h = λ e. absurd (cc)

pub greater_some : (sums : Sums) (o p : Option ℕ) → ForSome o (IsLowerBound sums) → MatchOption p (IsEmpty sums) (IsLowerBound sums) → ForSome (greater o p) (IsLowerBound sums)
greater_some sums None p f h = λ x e. absurd (cc)
greater_some sums (Some a) None f h = λ x e. absurd (cc)
greater_some sums (Some a) (Some b) f h = λ x e. subst (IsLowerBound sums) (let same : max a b ≡ x = cc in same) (λ xs cost s. omega (arith, f a refl xs cost s, h xs cost s))
