-- Each map of the boxes is in one of the halves, and no other is.
use Rattle.std.proofs.Common.{ℕ, ◌<◌, ◌⊎◌, inl, inr, ℤ, pos, List, length, get_or, length-set, sym, ap, subst, ◌∙◌, arith}
use Rattle.std.proofs.Math.ListN.{set}
use Rattle.std.proofs.lemmas.Bool.{cases_eq}
use Rattle.std.proofs.lemmas.List.{get_or-set_other, get_or-set_same}
use Rattle.std.proofs.lemmas.List.Sums.{sum_by-set}
use Rattle.std.specs.List.{sum_by}
use Rattle.pesp_search_least.specs.Sums.{AreHalves}
use Rattle.pesp_search_cycles.specs.declared.boxes.Boxes.{Boxes}
use Rattle.pesp_search_cycles.specs.declared.boxes.Place.{Place}
use Rattle.pesp_search_cycles.specs.declared.boxes.Place.TheVariants.{Number, Round}
use Rattle.pesp_search_cycles.specs.declared.range.Halves.{Halves}
use Rattle.pesp_search_cycles.specs.declared.range.Range.{Range}
use Rattle.pesp_search_cycles.specs.Maps.{AreBoxes, AreCycles, IsSummed, Net, numbers_of}
use Rattle.pesp_search_cycles.specs.Ranges.{AllIn, IsHalved, IsIn, IsMultiple, no_range, width}
use Rattle.pesp_search_cycles.specs.Splits.{HasPlace, IsCut, IsPut, size}
use Rattle.pesp_search_cycles.specs.Walks.{no_path}
use Rattle.pesp_search_cycles.proofs.Halved.{one_times}
use Rattle.pesp_search_cycles.proofs.Rounds.{round_whole}

module _ (ranges : List Range) (n : ℕ) (z : ℕ → ℤ) (k : ℕ) (inside : k < length ranges) where
  pub put_in : (r : Range) → AllIn ranges n z → IsIn r (z k) → AllIn (set ranges k r) n z
  put_in r a i = record {
    long = length-set ranges k r ∙ a.long;
    each = λ j h.
        elim (cases_eq j k) [
          | inl e ↦ subst (λ m. IsIn (get_or (set ranges k r) m no_range) (z m)) (sym e) (subst (λ q. IsIn q (z k)) (sym (get_or-set_same ranges k r no_range inside)) i)
          | inr e ↦ subst (λ q. IsIn q (z j)) (sym (get_or-set_other ranges k j r no_range e)) (a.each j h)
        ];
  }

  pub put_back : (r : Range) → AllIn (set ranges k r) n z → (IsIn r (z k) → IsIn (get_or ranges k no_range) (z k)) → AllIn ranges n z
  put_back r a f = record {
    long = sym (length-set ranges k r) ∙ a.long;
    each = λ j h.
        elim (cases_eq j k) [
          | inl e ↦
              subst (λ m. IsIn (get_or ranges m no_range) (z m)) (sym e)
              (f (subst (λ q. IsIn q (z k)) (get_or-set_same ranges k r no_range inside) (subst (λ m. IsIn (get_or (set ranges k r) m no_range) (z m)) e (a.each j h))))
          | inr e ↦ subst (λ q. IsIn q (z j)) (get_or-set_other ranges k j r no_range e) (a.each j h)
        ];
  }

  pub split_in : (step : ℕ) (halves : Halves) → AllIn ranges n z → IsMultiple step (z k) → IsHalved step (get_or ranges k no_range) halves → AllIn (set ranges k halves.below) n z ⊎ AllIn (set ranges k halves.above) n z
  split_in step halves a m h =
      elim (h.keeps (z k) m (a.each k (omega (arith, inside, a.long)))) [
        | inl i ↦ inl (put_in halves.below a i)
        | inr i ↦ inr (put_in halves.above a i)
      ]

pub less_wide : (ranges : List Range) (k : ℕ) (r : Range) → k < length ranges → width r < width (get_or ranges k no_range) → sum_by width (set ranges k r) < sum_by width ranges
less_wide ranges k r h less = omega (arith, sum_by-set width ranges k r no_range h, less)

module _ (N : Net) (sound : AreCycles N) (B : Boxes) (halves : Halves) (below above : Boxes) where
  some : 0 < N.network.period
  some = omega (arith, sound.arcs.some)

  pub halves_at : (place : Place) → AreBoxes N B → HasPlace B place → IsCut N B place halves → IsPut B place halves.below below → IsPut B place halves.above above → AreHalves (IsSummed N B) (IsSummed N below) (IsSummed N above)
  halves_at (Number k) fit here cut p q = record {
    keeps = λ xs cost s.
        elim (split_in B.numbers.items _ _ k here 1 halves s.inside.numbers (pos (get_or (numbers_of N.network xs) k 0), one_times (pos (get_or (numbers_of N.network xs) k 0))) cut) [
          | inl a ↦ inl (record { costed = s.costed; inside = record { numbers = rw p.0 a; rounds = rw p.1 s.inside.rounds } })
          | inr a ↦ inr (record { costed = s.costed; inside = record { numbers = rw q.0 a; rounds = rw q.1 s.inside.rounds } })
        ];
    first_within = λ xs cost s. record { costed = s.costed; inside = record { numbers = put_back B.numbers.items _ _ k here halves.below (rw p.0 at s.inside.numbers) (cut.below_within _); rounds = rw p.1 at s.inside.rounds } };
    second_within = λ xs cost s. record { costed = s.costed; inside = record { numbers = put_back B.numbers.items _ _ k here halves.above (rw q.0 at s.inside.numbers) (cut.above_within _); rounds = rw q.1 at s.inside.rounds } };
  }
  halves_at (Round k) fit here cut p q = record {
    keeps = λ xs cost s.
        elim (split_in B.rounds.items _ _ k here N.network.period halves s.inside.rounds (round_whole N.network some xs _ (sound.joined k no_path (omega (arith, here, fit.rounds)))) cut) [
          | inl a ↦ inl (record { costed = s.costed; inside = record { numbers = rw p.0 s.inside.numbers; rounds = rw p.1 a } })
          | inr a ↦ inr (record { costed = s.costed; inside = record { numbers = rw q.0 s.inside.numbers; rounds = rw q.1 a } })
        ];
    first_within = λ xs cost s. record { costed = s.costed; inside = record { numbers = rw p.0 at s.inside.numbers; rounds = put_back B.rounds.items _ _ k here halves.below (rw p.1 at s.inside.rounds) (cut.below_within _) } };
    second_within = λ xs cost s. record { costed = s.costed; inside = record { numbers = rw q.0 at s.inside.numbers; rounds = put_back B.rounds.items _ _ k here halves.above (rw q.1 at s.inside.rounds) (cut.above_within _) } };
  }

  pub fits : (place : Place) (range : Range) (new : Boxes) → AreBoxes N B → IsPut B place range new → AreBoxes N new
  fits (Number k) range new fit p = record { numbers = ap (λ (r : List Range). length r) p.0 ∙ length-set B.numbers.items k range ∙ fit.numbers; rounds = ap (λ (r : List Range). length r) p.1 ∙ fit.rounds }
  fits (Round k) range new fit p = record { numbers = ap (λ (r : List Range). length r) p.0 ∙ fit.numbers; rounds = ap (λ (r : List Range). length r) p.1 ∙ length-set B.rounds.items k range ∙ fit.rounds }

-- the range that is put is less wide than the one at its place
abbrev pub IsLess : Boxes → Place → Range → Type 0
IsLess B (Number k) range = width range < width (get_or B.numbers.items k no_range)
IsLess B (Round k) range = width range < width (get_or B.rounds.items k no_range)

pub put_less : (B : Boxes) (place : Place) (range : Range) (new : Boxes) → HasPlace B place → IsLess B place range → IsPut B place range new → size new < size B
put_less B (Number k) range new here less p =
    omega (arith, ap (λ (r : List Range). sum_by width r) p.0, ap (λ (r : List Range). sum_by width r) p.1, less_wide B.numbers.items k range here less)
put_less B (Round k) range new here less p =
    omega (arith, ap (λ (r : List Range). sum_by width r) p.0, ap (λ (r : List Range). sum_by width r) p.1, less_wide B.rounds.items k range here less)

pub cut_less : (N : Net) (B : Boxes) (place : Place) (halves : Halves) → IsCut N B place halves → IsLess B place halves.below × IsLess B place halves.above
cut_less N B (Number k) halves c = (c.below_less, c.above_less)
cut_less N B (Round k) halves c = (c.below_less, c.above_less)
