-- A map that was tested, and the map that is left.
use Rattle.std.proofs.Common.{◌≡◌, ℕ, ◌<◌, ◌≤◌, pos, ◌≤ℤ◌, All, List, Option, Some, None, IfNone, IfSome, MatchOption, drop, length, get_or, sym, subst, ◌∙◌, arith}
use Rattle.std.proofs.lemmas.Int.{ints}
use Rattle.std.proofs.lemmas.List.{ext_get_or}
use Rattle.pesp_search_least.specs.declared.outcome.Candidate.{Candidate}
use Rattle.pesp_search_least.specs.Sums.{IsCandidate, IsEmpty, IsLeast}
use Rattle.pesp_search_cycles.specs.declared.boxes.Boxes.{Boxes}
use Rattle.pesp_search_cycles.specs.declared.range.Range.{Range}
use Rattle.pesp_search_cycles.specs.Maps.{AreBoxes, AreCycles, IsSummed, Net}
use Rattle.pesp_search_cycles.specs.Ranges.{AreIn, IsIn, no_range}
use Rattle.pesp_search_cycles.specs.Splits.{AreSingle}
use Rattle.pesp_search_cycles.proofs.Numbered.{tail_in}

single : (range : Range) (x y : ℕ) → range.high ≤ℤ range.low → IsIn range (pos x) → pos y ≡ range.low → x ≡ y
single range x y s i e = omega (arith, ints, s, i.above, i.below, e)

-- where each range has one number at most, the map is the one of the least numbers
pub only : (ranges : List Range) (xs ys : List ℕ) → AreSingle ranges → length ys ≡ length ranges → ((k : ℕ) → k < length ranges → pos (get_or ys k 0) ≡ (get_or ranges k no_range).low) → AreIn ranges xs → xs ≡ ys
only ranges xs ys s long each i =
    ext_get_or 0 xs ys (sym i.long ∙ sym long)
    (λ k h. let inside : k < length ranges = omega (arith, h, i.long) in single (get_or ranges k no_range) (get_or xs k 0) (get_or ys k 0) (s k inside) (i.each k h) (each k inside))

-- one map has one cost
pub one_cost : (N : Net) (B : Boxes) (xs : List ℕ) (a b : ℕ) → IsSummed N B xs a → IsSummed N B xs b → a ≤ b
one_cost N B xs a b s t = omega (arith, s.costed.costs, t.costed.costs)

-- where all maps of the boxes are this one, it is told with its cost, or that there is none
pub last_told : (N : Net) (B : Boxes) (map : List ℕ) (o : Option Candidate) → AreCycles N → AreBoxes N B → ((xs : List ℕ) → AreIn (drop (length N.network.arcs) B.numbers.items) xs → xs ≡ map) → IfNone o ((cost : ℕ) → IsSummed N B map cost → ⊥) → IfSome o (λ c. c.map.items ≡ map) → IfSome o (IsCandidate (IsSummed N B)) → MatchOption o (IsEmpty (IsSummed N B)) (IsLeast (IsSummed N B))
last_told N B map o sound fit one none same some = go o none same some
  where
    is_map : (xs : List ℕ) (cost : ℕ) → IsSummed N B xs cost → xs ≡ map
    is_map xs cost s = one xs (tail_in N.network B.numbers.items xs fit.numbers s.costed.met.long s.inside.numbers)

    go : (p : Option Candidate) → IfNone p ((cost : ℕ) → IsSummed N B map cost → ⊥) → IfSome p (λ c. c.map.items ≡ map) → IfSome p (IsCandidate (IsSummed N B)) → MatchOption p (IsEmpty (IsSummed N B)) (IsLeast (IsSummed N B))
    go None n e h = λ xs cost s. n cost (subst (λ (ys : List ℕ). IsSummed N B ys cost) (is_map xs cost s) s)
    go (Some c) n e h = record {
      has = h;
      least = λ xs cost s.
          one_cost N B map c.cost cost (subst (λ (ys : List ℕ). IsSummed N B ys c.cost) e h) (subst (λ (ys : List ℕ). IsSummed N B ys cost) (is_map xs cost s) s);
    }

-- maps are of residues that fit
pub none_fits : (N : Net) (B : Boxes) → AreCycles N → AreBoxes N B → ((xs : List ℕ) → All (λ r. r < 65536) xs → AreIn (drop (length N.network.arcs) B.numbers.items) xs → ⊥) → IsEmpty (IsSummed N B)
none_fits N B sound fit none xs cost s =
    none xs (λ k d h. omega (arith, s.costed.met.below k d h, sound.arcs.short)) (tail_in N.network B.numbers.items xs fit.numbers s.costed.met.long s.inside.numbers)
