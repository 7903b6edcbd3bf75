-- What moves at a place takes counts from one set to another, at one end after another, and but for the spared ones.
use Rattle.std.proofs.Common.{◌≡◌, ◌≢◌, ℕ, zero, suc, ◌+◌, ◌<◌, ◌≤◌, ◌==◌, ◌||◌, cond, Bool, true, false, Option, List, [], ◌∷◌, refl, sym, ap, subst, ◌∙◌, arith, IsTrue, filter, if◌then◌else◌, inl, inr}
use Rattle.pesp_counts_supports.proofs.Supporters.{supporters_same}
use Rattle.std.proofs.lemmas.Bool.Decides.{nat_tests}
use Rattle.std.specs.List.{Contains, list_any}
use Rattle.std.proofs.lemmas.Bool.{eq-eqb, ne_eqb, cases_Bool, cases_eq, false≢true, eqb-true}
use Rattle.pesp_domains.specs.Sweeps.{Pairs}
use Rattle.pesp_domains.proofs.Families.{of_filter, here, passing, found_equal}
use Rattle.pesp_counts_arcs.specs.declared.end.End.{End}
use Rattle.pesp_counts_arcs.specs.Ends.{AreLinked, end_at, ends_of, passes}
use Rattle.pesp_counts_supports.specs.declared.moving.Way.{Way}
use Rattle.pesp_counts_supports.specs.declared.moving.Way.TheVariants.{In, Out}
use Rattle.pesp_counts_supports.specs.Counts.{IsExactAt, count_at, supporters}
use Rattle.pesp_counts_supports.specs.Moves.{CanMove, CanShift, Goes, IsJoined, IsShifted, MovesBy, partners}
use Rattle.pesp_counts_supports.specs.Restoring.{is_spared}
use Rattle.pesp_counts_supports.proofs.Grown.{supporters_le}
use Rattle.pesp_counts_supports.proofs.Moved.{still}
use Rattle.pesp_counts_supports.proofs.Sparing.{is_kept, keep_none, keep_one, kept, kept_at, kept_in, kept_linked, kept_of}

-- ---- the two sets

-- those of a set and of a block that it lacks
pub supporters_block : (n : ℕ) (S S' D f : ℕ → Bool) → ((s : ℕ) → s < n → S' s ≡ (S s || D s)) → ((s : ℕ) → s < n → IsTrue (D s) → S s ≡ false) → supporters n S' f ≡ supporters n S f + supporters n D f
supporters_block zero S S' D f comes apart = refl
supporters_block (suc n) S S' D f comes apart =
    let rest = supporters_block n S S' D f (λ s l. comes s (omega (arith, l))) (λ s l. apart s (omega (arith, l))) in
    grind (arith, rest, comes n (omega arith), apart n (omega arith))

-- both sets hold the same but at the place
pub goes_elsewhere : (way : Way) (from : Pairs) (p : ℕ) (D : ℕ → Bool) (to : Pairs) → Goes way from p D to → (q s : ℕ) → q ≢ p → to q s ≡ from q s
goes_elsewhere Out from p D to goes q s apart = grind (arith, nat_tests, goes.joined q s)
goes_elsewhere In from p D to goes q s apart = grind (arith, nat_tests, goes.joined q s)

-- and at the place they differ by what moves
joined_at : (T : ℕ) (less : Pairs) (p : ℕ) (D : ℕ → Bool) (more : Pairs) (at : ℕ) (f : ℕ → Bool) → IsJoined less p D more → at ≡ p → supporters T (more at) f ≡ supporters T (less at) f + supporters T D f
joined_at T less p D more at f is looks =
    supporters_block T (less at) (more at) D f (λ s sl. is.joined at s ∙ rw (eq-eqb p at (sym looks)) refl) (λ s sl h. ap (λ e. less e s) looks ∙ is.apart s h)

pub goes_at : (way : Way) (T : ℕ) (from : Pairs) (p : ℕ) (D : ℕ → Bool) (to : Pairs) (at : ℕ) (f : ℕ → Bool) → Goes way from p D to → at ≡ p → IsShifted way (supporters T D f) (supporters T (from at) f) (supporters T (to at) f)
goes_at Out T from p D to at f goes looks = sym (joined_at T to p D from at f goes looks)
goes_at In T from p D to at f goes looks = joined_at T from p D to at f goes looks

-- a count of the one set can move to the other
can_shift : (way : Way) (T many from to count : ℕ) → from ≤ T → to ≤ T → IsShifted way many from to → count ≡ from → CanShift T way many count
can_shift Out T many from to count few less is exact = (omega (arith, is, exact), omega (arith, few, exact))
can_shift In T many from to count few less is exact = omega (arith, is, exact, less)

-- where it did, it is one of the other
did_shift : (way : Way) (many from to before after : ℕ) → IsShifted way many from to → before ≡ from → IsShifted way many before after → after ≡ to
did_shift Out many from to before after is exact moved = omega (arith, is, exact, moved)
did_shift In many from to before after is exact moved = omega (arith, is, exact, moved)

-- ---- one end after another

-- whether the end is one of those still to come: its mate is among them
abbrev pub is_ahead : List End → List ℕ → ℕ → Bool
is_ahead ends rest k = list_any (λ m. (end_at ends k).mate == m) rest

-- each listed end is exact: those ahead by the one set, all others by the other
abbrev pub AreMoving : ℕ → List End → List (List ℕ) → Pairs → Pairs → List ℕ → List ℕ → Type 0
AreMoving period ends lists from to counts rest =
    (q k : ℕ) → Contains (ends_of lists q) k → IsExactAt period ends counts (if is_ahead ends rest k then from else to) k

module _ (T : ℕ) (ends : List End) (lists : List (List ℕ)) (linked : AreLinked T ends lists) (way : Way) (from : Pairs) (p : ℕ) (D : ℕ → Bool) (to : Pairs) (goes : Goes way from p D to) where
  -- before the first end
  moving_start : (counts : List ℕ) → ((q k : ℕ) → Contains (ends_of lists q) k → IsExactAt T ends counts from k) → AreMoving T ends lists from to counts (ends_of lists p)
  moving_start counts exact q k is =
      elim (is_ahead ends (ends_of lists p) k) as (λ b. is_ahead ends (ends_of lists p) k ≡ b → IsExactAt T ends counts (if b then from else to) k) [
        | true ↦ λ ahead. exact q k is
        | false ↦ λ done r rl.
            let at : ℕ = (end_at ends k).looks_at in
            let looks : at ≢ p =
            λ same.
            let mate : Contains (ends_of lists p) (end_at ends k).mate = subst (λ e. Contains (ends_of lists e) (end_at ends k).mate) same (linked.each q k is).mate_there in
            false≢true (sym done ∙ found_equal (end_at ends k).mate (end_at ends k).mate (ends_of lists p) mate refl)
            in
            exact q k is r rl ∙ supporters_same T (to at) (from at) _ _ (λ s sl. sym (goes_elsewhere way from p D to goes at s looks)) (λ s sl. refl)
      ] refl

  module _ (counts : List ℕ) (m : ℕ) (rest : List ℕ) (listed : Contains (ends_of lists p) m) (so_far : AreMoving T ends lists from to counts (m ∷ rest)) where
    abbrev k : ℕ
    k = (end_at ends m).mate

    -- the mate of the next end is still exact by the one set
    exact_before : IsExactAt T ends counts from k
    exact_before =
        let at = linked.each p m listed in
        let was : is_ahead ends (m ∷ rest) k ≡ true = found_equal (end_at ends k).mate m (m ∷ rest) (here m rest) at.mate_back in
        subst (λ b. IsExactAt T ends counts (if b then from else to) k) was (so_far (end_at ends m).looks_at k at.mate_there)

    both_sets : (r : ℕ) → IsShifted way (partners T ends m D r) (supporters T (from (end_at ends k).looks_at) (passes T (end_at ends k) r)) (supporters T (to (end_at ends k).looks_at) (passes T (end_at ends k) r))
    both_sets r = goes_at way T from p D to (end_at ends k).looks_at (passes T (end_at ends k) r) goes (linked.each p m listed).mate_looks

    -- the counts at the next end can move
    next_can : CanMove way T ends m D counts
    next_can r rl =
        let at : ℕ = (end_at ends k).looks_at in
        let f = passes T (end_at ends k) r in
        can_shift way T (partners T ends m D r) (supporters T (from at) f) (supporters T (to at) f) (count_at T counts k r) (supporters_le T (from at) f) (supporters_le T (to at) f) (both_sets r) (exact_before r rl)

    -- and where they did, one end more is exact by the other set
    module _ (changed : List ℕ) (moved : MovesBy way T ends m D counts changed) where
      exact_after : IsExactAt T ends changed to k
      exact_after r rl =
          let at : ℕ = (end_at ends k).looks_at in
          let f = passes T (end_at ends k) r in
          let here : cond (k == k) (partners T ends m D r) 0 ≡ partners T ends m D r = rw (eq-eqb k k refl) refl in
          did_shift way (partners T ends m D r) (supporters T (from at) f) (supporters T (to at) f) (count_at T counts k r) (count_at T changed k r) (both_sets r) (exact_before r rl) (subst (λ n. IsShifted way n (count_at T counts k r) (count_at T changed k r)) here (moved k r rl))

      stays : (j r : ℕ) → j ≢ k → r < T → count_at T changed j r ≡ count_at T counts j r
      stays j r apart rl =
          let none : cond (j == k) (partners T ends m D r) 0 ≡ 0 = rw (ne_eqb j k apart) refl in
          still way (count_at T counts j r) (count_at T changed j r) (subst (λ n. IsShifted way n (count_at T counts j r) (count_at T changed j r)) none (moved j r rl))

      next_moved : (Contains rest m → ⊥) → AreMoving T ends lists from to changed rest
      next_moved once q j is =
          elim (cases_eq j k) [
            | inl same ↦
                let back : (end_at ends j).mate ≡ m = ap (λ i. (end_at ends i).mate) same ∙ (linked.each p m listed).mate_back in
                let over : is_ahead ends rest j ≡ false =
                elim (cases_Bool (is_ahead ends rest j)) [
                  | inr none ↦ none
                  | inl found ↦
                      let w = passing (λ x. (end_at ends j).mate == x) rest found in
                      absurd (once (subst (Contains rest) (sym (eqb-true (end_at ends j).mate w.0 w.2) ∙ back) w.1))
                ]
                in
                subst (λ b. IsExactAt T ends changed (if b then from else to) j) (sym over) (subst (IsExactAt T ends changed to) (sym same) exact_after)
            | inr apart ↦
                let other : ((end_at ends j).mate == m) ≡ false =
                ne_eqb (end_at ends j).mate m (λ e. apart (sym (linked.each q j is).mate_back ∙ ap (λ i. (end_at ends i).mate) e))
                in
                let so : is_ahead ends (m ∷ rest) j ≡ is_ahead ends rest j = rw other refl in
                let before = subst (λ b. IsExactAt T ends counts (if b then from else to) j) so (so_far q j is) in
                λ r rl. stays j r apart rl ∙ before r rl
          ]

-- ---- the same, but for the spared ends

-- each end that is not spared is exact: those to come by the one set, all others by the other
abbrev pub AreMovingBut : ℕ → List End → List (List ℕ) → Option ℕ → Pairs → Pairs → List ℕ → List ℕ → Type 0
AreMovingBut T ends lists spared from to counts rest = AreMoving T ends (kept spared lists) from to counts (filter (is_kept spared) rest)

module _ (T : ℕ) (ends : List End) (lists : List (List ℕ)) (spared : Option ℕ) (linked : AreLinked T ends lists) (together : (p k : ℕ) → Contains (ends_of lists p) k → is_spared spared (end_at ends k).mate ≡ is_spared spared k) (way : Way) (from : Pairs) (p : ℕ) (D : ℕ → Bool) (to : Pairs) (goes : Goes way from p D to) where
  linked_kept : AreLinked T ends (kept spared lists)
  linked_kept = kept_linked T ends lists spared linked together

  pub but_start : (counts : List ℕ) → ((q k : ℕ) → Contains (ends_of lists q) k → is_spared spared k ≡ false → IsExactAt T ends counts from k) → AreMovingBut T ends lists spared from to counts (ends_of lists p)
  but_start counts exact =
      subst (λ xs. AreMoving T ends (kept spared lists) from to counts xs) (kept_at spared lists p)
      (moving_start T ends (kept spared lists) linked_kept way from p D to goes counts
      (λ q k is. let w = kept_of spared lists q k is in exact q k w.0 w.1))

  module _ (counts : List ℕ) (m : ℕ) (rest : List ℕ) (listed : Contains (ends_of lists p) m) (free : is_spared spared m ≡ false) (so_far : AreMovingBut T ends lists spared from to counts (m ∷ rest)) where
    listed_kept : Contains (ends_of (kept spared lists) p) m
    listed_kept = kept_in spared lists p m listed free

    so_far_kept : AreMoving T ends (kept spared lists) from to counts (m ∷ filter (is_kept spared) rest)
    so_far_kept = subst (λ xs. AreMoving T ends (kept spared lists) from to counts xs) (keep_one spared m rest free) so_far

    pub but_can : CanMove way T ends m D counts
    but_can = next_can T ends (kept spared lists) linked_kept way from p D to goes counts m (filter (is_kept spared) rest) listed_kept so_far_kept

    pub but_moved : (changed : List ℕ) → (Contains rest m → ⊥) → MovesBy way T ends m D counts changed → AreMovingBut T ends lists spared from to changed rest
    but_moved changed once moved =
        next_moved T ends (kept spared lists) linked_kept way from p D to goes counts m (filter (is_kept spared) rest) listed_kept so_far_kept changed moved
        (λ is. once (of_filter (is_kept spared) rest m is).0)

-- a spared end is passed over
pub but_passed : (T : ℕ) (ends : List End) (lists : List (List ℕ)) (spared : Option ℕ) (from to : Pairs) (counts : List ℕ) (m : ℕ) (rest : List ℕ) → is_spared spared m ≡ true → AreMovingBut T ends lists spared from to counts (m ∷ rest) → AreMovingBut T ends lists spared from to counts rest
but_passed T ends lists spared from to counts m rest out so_far = subst (λ xs. AreMoving T ends (kept spared lists) from to counts xs) (keep_none spared m rest out) so_far

pub but_end : (T : ℕ) (ends : List End) (lists : List (List ℕ)) (spared : Option ℕ) (from to : Pairs) (counts : List ℕ) → AreMovingBut T ends lists spared from to counts [] → (q k : ℕ) → Contains (ends_of lists q) k → is_spared spared k ≡ false → IsExactAt T ends counts to k
but_end T ends lists spared from to counts so_far q k is free = so_far q k (kept_in spared lists q k is free)
