-- The two ends of an activity come to the lists, and go from them.
use Rattle.std.proofs.Common.{ℕ, ◌+◌, ◌*◌, ◌<◌, ◌∷◌, List, length, set, refl, subst, ◌∙◌, inl, inr, arith}
use Rattle.std.specs.List.{Contains}
use Rattle.std.proofs.lemmas.List.{length-set}
use Rattle.pesp_counts_arcs.specs.Links.{AreListedAt, AreUnlisted, IsEndOfPlace}
use Rattle.pesp_counts_arcs.specs.Lists.{AreShared, items_at}
use Rattle.pesp_counts_arcs.proofs.ListLaws.{comes_there, stays_there, was_or_new}
use Rattle.pesp_counts_arcs.proofs.StandLists.{all_but, is_gone, is_left, list_there, shared_less, was_there}

-- ---- they come

module _ (lists : List (List ℕ)) (q a : ℕ) (within : a < length lists) where
  abbrev middle : List (List ℕ)
  middle = set lists a ((2 * q) ∷ items_at lists a)

  -- the second end is in no list yet once the first one came
  pub head_free : ((p k : ℕ) → Contains (items_at lists p) k → IsEndOfPlace q k → ⊥) → (p : ℕ) → Contains (items_at middle p) (2 * q + 1) → ⊥
  head_free free p i =
      elim (was_or_new lists a (2 * q) within p (2 * q + 1) i) [
        | inl new ↦ (let same = new.1 in absurd (omega (arith, same)))
        | inr old ↦ free p (2 * q + 1) old (inr refl)
      ]

  pub listed_at : (b : ℕ) → b < length lists → AreListedAt lists (set middle b ((2 * q + 1) ∷ items_at middle b)) q a b
  listed_at b within' =
      let low : b < length middle = omega (arith, within', length-set lists a ((2 * q) ∷ items_at lists a)) in
      record {
        many = length-set middle b ((2 * q + 1) ∷ items_at middle b) ∙ length-set lists a ((2 * q) ∷ items_at lists a);
        tail = stays_there middle b (2 * q + 1) low a (2 * q) (comes_there lists a (2 * q) within);
        head = comes_there middle b (2 * q + 1) low;
        stays = λ p k i. stays_there middle b (2 * q + 1) low p k (stays_there lists a (2 * q) within p k i);
        was = λ p k i.
            elim (was_or_new middle b (2 * q + 1) low p k i) [
              | inl new ↦ inl (inr new)
              | inr old ↦ elim (was_or_new lists a (2 * q) within p k old) [ inl new ↦ inl (inl new) | inr older ↦ inr older ]
            ];
      }

-- ---- they go

module _ (lists : List (List ℕ)) (items q a b : ℕ) (shared : AreShared items lists) (tail : Contains (items_at lists a) (2 * q)) (head : Contains (items_at lists b) (2 * q + 1)) where
  abbrev left : List (List ℕ)
  left = set lists a (all_but (2 * q) (items_at lists a))

  -- the second end is still where it was once the first one went
  pub still_there : Contains (items_at left b) (2 * q + 1)
  still_there = is_left lists a (2 * q) (list_there lists a (2 * q) tail) b (2 * q + 1) head (λ same. absurd (omega (arith, same)))

  pub unlisted : AreUnlisted lists (set left b (all_but (2 * q + 1) (items_at left b))) q
  unlisted =
      let low = list_there lists a (2 * q) tail in
      let low' = list_there left b (2 * q + 1) still_there in
      record {
        many = length-set left b (all_but (2 * q + 1) (items_at left b)) ∙ length-set lists a (all_but (2 * q) (items_at lists a));
        gone = λ p k i end.
            elim end [
              | inl same ↦ is_gone lists a (2 * q) low items tail shared p (subst (Contains (items_at left p)) same (was_there left b (2 * q + 1) low' p k i))
              | inr same ↦ is_gone left b (2 * q + 1) low' items still_there (shared_less lists a (2 * q) low items tail shared) p (subst (Contains (items_at (set left b (all_but (2 * q + 1) (items_at left b))) p)) same i)
            ];
        stays = λ p k i out. is_left left b (2 * q + 1) low' p k (is_left lists a (2 * q) low p k i (λ same. out (inl same))) (λ same. out (inr same));
        was = λ p k i. was_there lists a (2 * q) low p k (was_there left b (2 * q + 1) low' p k i);
      }
