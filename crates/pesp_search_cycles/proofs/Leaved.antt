-- Leaves that are copied, gone on with, and those of a network in those of its residues.
use Rattle.std.proofs.Common.{ℕ, All, List, [], ◌∷◌, inl, inr, sym, subst}
use Rattle.std.specs.List.{AllZip}
use Rattle.std.proofs.lemmas.List.Elements.{All-cons, All-head, All-tail}
use Rattle.pesp_search_least.specs.Sums.{InSome, IsCut, IsWithin, Sums}
use Rattle.pesp_search_network.specs.Arcs.{IsCosted, IsMet}
use Rattle.pesp_search_cycles.specs.declared.boxes.Boxes.{Boxes}
use Rattle.pesp_search_cycles.specs.declared.range.Range.{Range}
use Rattle.pesp_search_cycles.specs.Maps.{AreBoxes, IsAmong, IsSummed, Net}
use Rattle.pesp_search_cycles.specs.Ranges.{AreIn}
use Rattle.pesp_search_cycles.specs.Splits.{AreSame}
use Rattle.pesp_search_cycles.specs.Walks.{RoundsAreIn}
use Rattle.pesp_search_cycles.specs.Maps.{numbers_of}

-- ---- cuts of sums

pub cut_on : (cap : ℕ) (s t u : Sums) → IsCut cap s t → IsCut cap t u → IsCut cap s u
cut_on cap s t u one other = record {
  keeps = λ map sum less has. other.keeps map sum less (one.keeps map sum less has);
  within = λ map sum has. one.within map sum (other.within map sum has);
}

module _ (N : Net) (R : List Range) (all : (xs : List ℕ) → IsMet N.network xs → AreIn R xs) (cap : ℕ) (some : Sums) where
  pub cut_of_costed : IsCut cap (IsAmong N.network R) some → IsCut cap (IsCosted N.network) some
  cut_of_costed cut = record {
    keeps = λ map sum less has. cut.keeps map sum less (record { costed = has; inside = all map has.met });
    within = λ map sum has. (cut.within map sum has).costed;
  }

-- other boxes or nodes with the same sums
pub cut_alike : (cap : ℕ) (s t u : Sums) → IsWithin t u → IsWithin u t → IsCut cap s t → IsCut cap s u
cut_alike cap s t u there back cut = record {
  keeps = λ map sum less has. there map sum (cut.keeps map sum less has);
  within = λ map sum has. cut.within map sum (back map sum has);
}

-- ---- copies

module _ (N : Net) where
  same_fit : (B C : Boxes) → AreSame B C → AreBoxes N B → AreBoxes N C
  same_fit B C same fit = record {
    numbers = rw same.numbers fit.numbers;
    rounds = rw same.rounds fit.rounds;
  }

  same_summed : (B C : Boxes) → AreSame B C → IsWithin (IsSummed N B) (IsSummed N C)
  same_summed B C same map sum s = record {
    costed = s.costed;
    inside = record {
      numbers = subst (λ (rs : List Range). AreIn rs (numbers_of N.network map)) (sym same.numbers) s.inside.numbers;
      rounds = subst (λ (rs : List Range). RoundsAreIn rs N.network.arcs (numbers_of N.network map) N.walks) (sym same.rounds) s.inside.rounds;
    };
  }

  summed_same : (B C : Boxes) → AreSame B C → IsWithin (IsSummed N C) (IsSummed N B)
  summed_same B C same map sum s = record {
    costed = s.costed;
    inside = record {
      numbers = subst (λ (rs : List Range). AreIn rs (numbers_of N.network map)) same.numbers s.inside.numbers;
      rounds = subst (λ (rs : List Range). RoundsAreIn rs N.network.arcs (numbers_of N.network map) N.walks) same.rounds s.inside.rounds;
    };
  }

  pub copies_fit : (xs ys : List Boxes) → AllZip AreSame xs ys → All (AreBoxes N) xs → All (AreBoxes N) ys
  copies_fit [] [] same all = all
  copies_fit [] (y ∷ ys) same all = absurd same
  copies_fit (x ∷ xs) [] same all = absurd same
  copies_fit (x ∷ xs) (y ∷ ys) same all =
      All-cons (AreBoxes N) y ys (same_fit x y same.0 (All-head (AreBoxes N) x xs all)) (copies_fit xs ys same.1 (All-tail (AreBoxes N) x xs all))

  pub copies_there : (xs ys : List Boxes) → AllZip AreSame xs ys → IsWithin (InSome (IsSummed N) xs) (InSome (IsSummed N) ys)
  copies_there [] [] same map sum s = s
  copies_there [] (y ∷ ys) same map sum s = absurd same
  copies_there (x ∷ xs) [] same map sum s = absurd same
  copies_there (x ∷ xs) (y ∷ ys) same map sum s =
      elim s [ inl here ↦ inl (same_summed x y same.0 map sum here) | inr there ↦ inr (copies_there xs ys same.1 map sum there) ]

  pub copies_back : (xs ys : List Boxes) → AllZip AreSame xs ys → IsWithin (InSome (IsSummed N) ys) (InSome (IsSummed N) xs)
  copies_back [] [] same map sum s = s
  copies_back [] (y ∷ ys) same map sum s = absurd same
  copies_back (x ∷ xs) [] same map sum s = absurd same
  copies_back (x ∷ xs) (y ∷ ys) same map sum s =
      elim s [ inl here ↦ inl (summed_same x y same.0 map sum here) | inr there ↦ inr (copies_back xs ys same.1 map sum there) ]
