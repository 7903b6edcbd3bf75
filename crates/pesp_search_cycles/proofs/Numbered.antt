-- The ranges of the slacks, and after them those of the residues.
use Rattle.std.proofs.Common.{◌≡◌, ℕ, ◌+◌, ◌-◌, ◌<◌, ◌++◌, pos, List, drop, take, length, get_or, inl, inr, sym, ap, subst, ◌∙◌, arith}
use Rattle.std.proofs.lemmas.Bool.{cases_lt}
use Rattle.std.proofs.lemmas.List.{get_or-append_right, get_or_append_left, length-append, length-drop, length-map, length-take, take-append-drop}
use Rattle.pesp_search_network.specs.Arcs.{Arcs}
use Rattle.pesp_search_cycles.specs.declared.range.Range.{Range}
use Rattle.pesp_search_cycles.specs.Maps.{numbers_of, slack_at, slacks_of}
use Rattle.pesp_search_cycles.specs.Ranges.{AreIn, IsIn, no_range}
use Rattle.pesp_search_cycles.proofs.Rounds.{residue_number}

pub numbers_long : (A : Arcs) (xs : List ℕ) → length (numbers_of A xs) ≡ length A.arcs + length xs
numbers_long A xs = omega (arith, length-append (slacks_of A xs) xs, length-map A.arcs (slack_at A.period xs))

module _ (A : Arcs) (ranges residues all : List Range) (e : all ≡ ranges ++ residues) (n : length ranges ≡ length A.arcs) (xs : List ℕ) where
  front : (k : ℕ) → k < length A.arcs → get_or all k no_range ≡ get_or ranges k no_range
  front k h = ap (λ (l : List Range). get_or l k no_range) e ∙ get_or_append_left ranges residues no_range k (omega (arith, h, n))

  back : (v : ℕ) → get_or all (length A.arcs + v) no_range ≡ get_or residues v no_range
  back v =
      ap (λ (l : List Range). get_or l (length A.arcs + v) no_range) e
      ∙ get_or-append_right ranges residues (length A.arcs) (length A.arcs + v) no_range n (omega arith)
      ∙ (let m : length A.arcs + v - length A.arcs ≡ v = omega arith in ap (λ k. get_or residues k no_range) m)

  long : length all ≡ length A.arcs + length residues
  long = ap (λ (l : List Range). length l) e ∙ (let m = length-append ranges residues in omega (arith, m, n))

  pub all_in : AreIn residues xs → ((k : ℕ) → k < length A.arcs → IsIn (get_or ranges k no_range) (pos (get_or (numbers_of A xs) k 0))) → AreIn all (numbers_of A xs)
  all_in r s = record {
    long = omega (arith, long, r.long, numbers_long A xs);
    each = λ k h.
        elim (cases_lt k (length A.arcs)) [
          | inl low ↦ subst (λ q. IsIn q (pos (get_or (numbers_of A xs) k 0))) (sym (front k low)) (s k low)
          | inr high ↦
              let v = k - length A.arcs in
              let is : length A.arcs + v ≡ k = omega (arith, high) in
              let here : IsIn (get_or all (length A.arcs + v) no_range) (pos (get_or (numbers_of A xs) (length A.arcs + v) 0)) =
              subst (λ q. IsIn q (pos (get_or (numbers_of A xs) (length A.arcs + v) 0))) (sym (back v))
              (subst (λ y. IsIn (get_or residues v no_range) (pos y)) (sym (residue_number A xs v)) (r.each v (omega (arith, h, high, numbers_long A xs)))) in
              subst (λ j. IsIn (get_or all j no_range) (pos (get_or (numbers_of A xs) j 0))) is here
        ];
  }

  pub residues_in : length residues ≡ length xs → AreIn all (numbers_of A xs) → AreIn residues xs
  residues_in m a = record {
    long = m;
    each = λ v h.
        subst (λ q. IsIn q (pos (get_or xs v 0))) (back v)
        (subst (λ y. IsIn (get_or all (length A.arcs + v) no_range) (pos y)) (residue_number A xs v) (a.each (length A.arcs + v) (omega (arith, h, numbers_long A xs))));
  }

-- the ranges after those of the slacks have the residues
pub tail_in : (A : Arcs) (all : List Range) (xs : List ℕ) → length all ≡ length A.arcs + A.events → length xs ≡ A.events → AreIn all (numbers_of A xs) → AreIn (drop (length A.arcs) all) xs
tail_in A all xs long few a =
    let n = length A.arcs in
    residues_in A (take n all) (drop n all) all (sym (take-append-drop n all)) (omega (arith, length-take n all, long)) xs (omega (arith, length-drop n all, long, few)) a
