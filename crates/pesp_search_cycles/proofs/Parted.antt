-- Maps of a network, part by part: of each part it is known what maps cost at least, and in which boxes those are that cost as much.
use Rattle.std.proofs.Common.{◌≡◌, ◌==◌, nat_lt, ℕ, ◌+◌, ◌≤◌, inl, inr, Bool, List, [], ◌∷◌, All, length, sum_by, refl, sym, ap, ◌∙◌, arith}
use Rattle.pesp_search_least.specs.Sums.{InSome, IsCut, IsLowerBound}
use Rattle.pesp_search_network.specs.Arcs.{Arcs, cost_in}
use Rattle.pesp_search_network.specs.Weights.{weighed}
use Rattle.pesp_search_network.proofs.Weights.{costs_fewer, costs_next, length-alike, weighed_alike}
use Rattle.pesp_search_cycles.specs.declared.boxes.Boxes.{Boxes}
use Rattle.pesp_search_cycles.specs.declared.range.Range.{Range}
use Rattle.pesp_search_cycles.specs.Maps.{AreBoxes, IsAmong, IsInside, IsSummed, Net}
use Rattle.pesp_search_cycles.specs.Starts.{AreStarts, IsFound, IsInBoxes, part_of, parts_before, weighing}
use Rattle.pesp_search_cycles.proofs.Alike.{IsAlike, alike_back, inside_along, met_along}

-- ---- boxes, whatever maps cost

pub in_any : (N : Net) (bs : List Boxes) (xs : List ℕ) (c d : ℕ) → InSome (IsInBoxes N) bs xs c → InSome (IsInBoxes N) bs xs d
in_any N [] xs c d s = s
in_any N (B ∷ bs) xs c d s = elim s [ inl here ↦ inl here | inr there ↦ inr (in_any N bs xs c d there) ]

in_some_along : (N M : Net) (bs : List Boxes) (xs : List ℕ) (c : ℕ) → ((B : Boxes) → IsInside M B xs → IsInside N B xs) → InSome (IsSummed M) bs xs c → InSome (IsInBoxes N) bs xs c
in_some_along N M [] xs c f s = s
in_some_along N M (B ∷ bs) xs c f s = elim s [ inl here ↦ inl (f B here.inside) | inr there ↦ inr (in_some_along N M bs xs c f there) ]

-- ---- one part

module _ (N M : Net) (R : List Range) (alike : IsAlike M.network N.network) (walks : N.walks ≡ M.walks) where
  fit_along : (B : Boxes) → AreBoxes M B → AreBoxes N B
  fit_along B fit = record {
    numbers = omega (arith, fit.numbers, length-alike M.network.arcs N.network.arcs alike.arcs, alike.events);
    rounds = fit.rounds ∙ ap length (sym walks);
  }

  -- what a search of the part has found
  pub found_of : (cost least : ℕ) (leaves : List Boxes) → cost ≤ least → IsLowerBound (IsAmong M.network R) least → IsCut (cost + 1) (IsAmong M.network R) (InSome (IsSummed M) leaves) → All (AreBoxes M) leaves
      → IsFound M.network N R cost leaves
  found_of cost least leaves enough bound cut fit = record {
    bound = λ xs sum s. omega (arith, enough, bound xs sum s);
    kept = λ xs sum s less. in_some_along N M leaves xs sum (λ B i. inside_along M N alike walks B xs i) (cut.keeps xs sum (omega (arith, less)) s);
    fit = λ k d h. fit_along _ (fit k d h);
  }

-- ---- parts together

module _ (A : Arcs) (parts : List ℕ) where
  pub alike_of : (f : ℕ → Bool) → IsAlike (weighing A parts f) A
  alike_of f = record { period = refl; events = refl; rows = refl; arcs = weighed_alike f parts A.arcs }

  abbrev pub cost_of : (ℕ → Bool) → List ℕ → ℕ
  cost_of f xs = sum_by (cost_in A.period xs) (weighed f parts A.arcs)

  -- a map of the network is one of its parts
  pub among_parts : (f : ℕ → Bool) (R : List Range) (xs : List ℕ) (sum : ℕ) → IsAmong A R xs sum → IsAmong (weighing A parts f) R xs (cost_of f xs)
  among_parts f R xs sum s = record { costed = record { met = met_along A (weighing A parts f) (alike_back (weighing A parts f) A (alike_of f)) xs s.costed.met; costs = refl }; inside = s.inside }

  -- and the other way round
  pub among_whole : (f : ℕ → Bool) (R : List Range) (xs : List ℕ) (sum : ℕ) → IsAmong (weighing A parts f) R xs sum → IsAmong A R xs (sum_by (cost_in A.period xs) A.arcs)
  among_whole f R xs sum s = record { costed = record { met = met_along (weighing A parts f) A (alike_of f) xs s.costed.met; costs = refl }; inside = s.inside }

  module _ (N : Net) (R : List Range) where
    -- before the first part maps cost nothing
    pub found_none : (starts : List Boxes) → ((xs : List ℕ) (sum : ℕ) → IsAmong A R xs sum → InSome (IsInBoxes N) starts xs sum) → All (AreBoxes N) starts → IsFound (parts_before A parts 0) N R 0 starts
    found_none starts all fit = record {
      bound = λ xs sum s. omega arith;
      kept = λ xs sum s less. in_any N starts xs (sum_by (cost_in A.period xs) A.arcs) sum (all xs (sum_by (cost_in A.period xs) A.arcs) (among_whole (λ p. nat_lt p 0) R xs sum s));
      fit = fit;
    }

    module _ (l : ℕ) (cost own : ℕ) (before others both : List Boxes) (first : IsFound (parts_before A parts l) N R cost before) (last : IsFound (part_of A parts l) N R own others)
        (join : (xs : List ℕ) (sum : ℕ) → InSome (IsInBoxes N) before xs sum → InSome (IsInBoxes N) others xs sum → InSome (IsInBoxes N) both xs sum) where
      below : ℕ → ℕ → Bool
      below n p = nat_lt p n

      here : ℕ → Bool
      here p = p == l

      module _ (xs : List ℕ) (sum : ℕ) (s : IsAmong (parts_before A parts (l + 1)) R xs sum) where
        whole : IsAmong A R xs (sum_by (cost_in A.period xs) A.arcs)
        whole = among_whole (λ p. nat_lt p (l + 1)) R xs sum s

        one : IsAmong (parts_before A parts l) R xs (cost_of (λ p. nat_lt p l) xs)
        one = among_parts (λ p. nat_lt p l) R xs (sum_by (cost_in A.period xs) A.arcs) whole

        other : IsAmong (part_of A parts l) R xs (cost_of (λ p. p == l) xs)
        other = among_parts (λ p. p == l) R xs (sum_by (cost_in A.period xs) A.arcs) whole

        sums : sum ≡ cost_of (λ p. nat_lt p l) xs + cost_of (λ p. p == l) xs
        sums = sym s.costed.costs ∙ costs_next A.period xs l parts A.arcs

        enough : cost + own ≤ sum
        enough = omega (arith, sums, first.bound xs (cost_of (λ p. nat_lt p l) xs) one, last.bound xs (cost_of (λ p. p == l) xs) other)

        kept_both : sum ≤ cost + own → InSome (IsInBoxes N) both xs sum
        kept_both less =
            let a : cost ≤ cost_of (λ p. nat_lt p l) xs = first.bound xs (cost_of (λ p. nat_lt p l) xs) one in
            let b : own ≤ cost_of (λ p. p == l) xs = last.bound xs (cost_of (λ p. p == l) xs) other in
            join xs sum (in_any N before xs (cost_of (λ p. nat_lt p l) xs) sum (first.kept xs (cost_of (λ p. nat_lt p l) xs) one (omega (arith, less, sums, b))))
            (in_any N others xs (cost_of (λ p. p == l) xs) sum (last.kept xs (cost_of (λ p. p == l) xs) other (omega (arith, less, sums, a))))

      -- with one part more
      pub found_more : All (AreBoxes N) both → IsFound (parts_before A parts (l + 1)) N R (cost + own) both
      found_more fit = record { bound = enough; kept = kept_both; fit = fit }

    -- where the parts cost as much as the network, that is all
    pub starts_of_parts : (n cost most : ℕ) (starts : List Boxes) → most ≤ cost → IsFound (parts_before A parts n) N R cost starts → AreStarts A N R most starts
    starts_of_parts n cost most starts enough found xs sum s less =
        let own : IsAmong (parts_before A parts n) R xs (cost_of (λ p. nat_lt p n) xs) = among_parts (λ p. nat_lt p n) R xs sum s in
        let fewer : cost_of (λ p. nat_lt p n) xs ≤ sum_by (cost_in A.period xs) A.arcs = costs_fewer A.period xs (λ p. nat_lt p n) parts A.arcs in
        in_any N starts xs (cost_of (λ p. nat_lt p n) xs) sum (found.kept xs (cost_of (λ p. nat_lt p n) xs) own (omega (arith, fewer, s.costed.costs, less, enough)))
