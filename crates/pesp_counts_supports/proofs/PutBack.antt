-- Pairs that were put back, of which some have no partner.
use Rattle.std.proofs.Common.{◌≡◌, ℕ, ◌<◌, ◌==◌, ◌&&◌, ◌||◌, not, Bool, false, List, [], ◌∷◌, ◌++◌, length, sym, ap, subst, ◌∙◌, inl, inr, arith, IsTrue}
use Rattle.std.proofs.lemmas.Bool.Decides.{nat_tests}
use Rattle.std.proofs.Math.Bool.{or-false}
use Rattle.std.specs.List.{Contains}
use Rattle.std.proofs.lemmas.Bool.{and_from, and_parts, cases_Bool, ne_eqb, false≢true}
use Rattle.std.proofs.lemmas.List.Folds.{list_any-append}
use Rattle.pesp_domains.specs.Removals.{without}
use Rattle.pesp_domains.proofs.Families.{none_passes, passing}
use Rattle.pesp_counts_supports.specs.declared.trail.Placed.{Placed}
use Rattle.pesp_counts_arcs.specs.Ends.{end_at, ends_of, passes}
use Rattle.pesp_counts_supports.specs.Counts.{ArePending, KeepsClosed, count_at, has_at}
use Rattle.pesp_counts_supports.specs.Resting.{AreAtRest, AreLive, ArePendingBut}
use Rattle.pesp_counts_arcs.specs.Links.{Links}
use Rattle.pesp_counts_supports.specs.Supports.{HaveSameShape, IsTaken, Keeps, Supports, is_in, lacks_partner}
use Rattle.pesp_counts_supports.proofs.Marks.{out_more, pending_rest}
use Rattle.pesp_counts_supports.proofs.Supporters.{supporters_from}
use Rattle.pesp_counts_supports.proofs.Taken.{gone_at, kept_shape, shape_then, stands_in, still_at, taken_fewer, taken_then}

-- a pair with all its counts above 0
partnered : (links : Links) (s : Supports) (p r k : ℕ) → lacks_partner links s p r ≡ false → Contains (ends_of links.lists p) k → 0 < count_at s.period s.counts k r
partnered links s p r k none is =
    let some = none_passes (λ k. count_at s.period s.counts k r == 0) (ends_of links.lists p) none k is in
    grind (arith, nat_tests, some)

module _ (links : Links) (s m : Supports) (back : List Placed) (h : ArePendingBut links s back) (rows : (p r : ℕ) → has_at m.rows p r ≡ (has_at s.rows p r && not (is_in back p r && lacks_partner links s p r))) (taken : IsTaken s m) (keeps : Keeps s m) where
  sifted_live : AreLive links m
  sifted_live p k is =
      rw (keeps.period, keeps.counts)
      (λ r rl i.
      let both = and_parts (has_at s.rows p r) (not (is_in back p r && lacks_partner links s p r)) (sym (rows p r) ∙ i) in
      elim (cases_Bool (is_in back p r)) [
        | inr old ↦ h.live p k is r rl (and_from _ _ both.0 (ap not old))
        | inl new ↦ partnered links s p r k (grind (arith, new, both.1)) is
      ])

  pub back_pending : ArePending m.period links.ends links.lists m.counts (has_at m.counted) (has_at m.rows) m.trail 0
  back_pending =
      record {
        exact = λ p k is. rw (keeps.period, keeps.counts, keeps.counted) (h.exact p k is);
        live = sifted_live;
        within = λ p r here. ap (λ rows. has_at rows p r) keeps.counted ∙ h.within p r (taken_fewer s m taken p r here);
        waiting = λ p r here gone.
            let seen : IsTrue (has_at s.counted p r) = ap (λ rows. has_at rows p r) (sym keeps.counted) ∙ here in
            elim (cases_Bool (has_at s.rows p r)) [
              | inl was ↦ let w = gone_at s m taken p r was gone in (w.0, omega arith, w.2, w.3)
              | inr out ↦
                  let i = stands_in s.trail p r (h.waiting p r seen out) in
                  let w = still_at s m taken i.0 (record { place = p; residue = r }) i.1 i.2 in
                  (i.0, omega arith, w.0, w.1)
            ];
      }

  -- a pair of a closed set has its partners
  pub back_keeps : KeepsClosed s.period links.ends links.lists (has_at s.rows) (has_at m.rows)
  back_keeps =
      record {
        fewer = taken_fewer s m taken;
        keeps = λ S closed within p r here.
            rows p r ∙ and_from _ _ (within p r here)
            (elim (cases_Bool (lacks_partner links s p r)) [
              | inr none ↦ grind (arith, none)
              | inl alone ↦
                  let w = passing (λ k. count_at s.period s.counts k r == 0) (ends_of links.lists p) alone in
                  let k : ℕ = w.0 in
                  let q = closed.each p r k here w.1 in
                  let there : IsTrue (has_at s.counted (end_at links.ends k).looks_at q.0) = h.within _ q.0 (within _ q.0 q.2) in
                  let some = supporters_from s.period (has_at s.counted (end_at links.ends k).looks_at) (passes s.period (end_at links.ends k) r) q.0 q.1 there q.3 in
                  let more : 0 < count_at s.period s.counts k r = subst (λ n. 0 < n) (sym (h.exact p k w.1 r (h.below p r (within p r here)))) some in
                  absurd (false≢true (sym (ne_eqb (count_at s.period s.counts k r) 0 (λ none. absurd (omega (arith, none, more)))) ∙ w.2))
            ]);
      }

  pub back_rest : (n : Supports) → ArePending m.period links.ends links.lists n.counts (has_at n.counted) (has_at n.rows) n.trail (length n.trail) → IsTaken m n → HaveSameShape m n → AreAtRest links n
  back_rest n pending more shape =
      let both = taken_then s m n taken more in
      let whole = shape_then s m n (kept_shape s m keeps) shape in
      pending_rest links m n shape.period (λ p r i. let l = h.below p r (taken_fewer s n both p r i) in omega (arith, l, whole.period)) (out_more s n h.out h.below whole both) pending

-- ---- the pairs of a list, one after another

-- of the pairs of the list those are left that have all counts above 0
abbrev pub Sifts : Links → Supports → List Placed → List (List Bool) → Type 0
Sifts links s pairs rows = (p r : ℕ) → has_at rows p r ≡ (has_at s.rows p r && not (is_in pairs p r && lacks_partner links s p r))

module _ (links : Links) (s : Supports) (pairs : List Placed) (x : Placed) (now : List (List Bool)) (sifts : Sifts links s pairs now) where
  one_more : (p r : ℕ) → is_in (pairs ++ x ∷ []) p r ≡ (is_in pairs p r || (x.place == p && x.residue == r))
  one_more p r = list_any-append (λ (y : Placed). y.place == p && y.residue == r) pairs (x ∷ []) ∙ ap (λ b. is_in pairs p r || b) (or-false (x.place == p && x.residue == r))

  -- one without a partner goes
  pub sifts_taken : (after : List (List Bool)) → IsTrue (lacks_partner links s x.place x.residue) → ((p r : ℕ) → has_at after p r ≡ without (has_at now) x.place x.residue p r) → Sifts links s (pairs ++ x ∷ []) after
  sifts_taken after alone takes p r = grind (arith, nat_tests, takes p r, sifts p r, one_more p r)

  -- one with its partners stays, and so does what is not there
  pub sifts_passed : (has_at now x.place x.residue && lacks_partner links s x.place x.residue) ≡ false → Sifts links s (pairs ++ x ∷ []) now
  sifts_passed stays p r = grind (arith, nat_tests, sifts p r, one_more p r)
