-- Pairs come back, and those without a partner wait to be counted out.
use Rattle.std.proofs.Common.{◌≡◌, ◌≢◌, ℕ, ◌+◌, ◌*◌, ◌<◌, ◌==◌, ◌&&◌, nat_lt, not, Bool, true, false, List, Option, Some, None, refl, sym, ap, subst, ◌∙◌, inl, inr, arith, IsTrue}
use Rattle.std.specs.List.{Contains}
use Rattle.std.proofs.lemmas.Bool.{and_from, and_parts, cases_Bool, cases_eq, eq-eqb, ne_eqb, false≢true, ltb-true, not-true, or_cases, or_left, or_right}
use Rattle.std.proofs.lemmas.List.Folds.{list_any-append}
use Rattle.pesp_instance.specs.Network.{Network, admits}
use Rattle.pesp_domains.specs.Sweeps.{Of, Pairs}
use Rattle.pesp_counts_supports.specs.declared.trail.Placed.{Placed}
use Rattle.pesp_counts_arcs.specs.Ends.{AreLinked, IsEndAt, end_at, ends_of, passes}
use Rattle.pesp_counts_supports.specs.Counts.{IsClosed, IsExactAt, IsLiveAt, KeepsClosed, count_at, has_at}
use Rattle.pesp_counts_supports.specs.Resting.{ArePendingBut}
use Rattle.pesp_counts_arcs.specs.Links.{Links}
use Rattle.pesp_counts_arcs.specs.Places.{number_at}
use Rattle.pesp_counts_supports.specs.Restored.{AreExactBut}
use Rattle.pesp_counts_supports.specs.Restoring.{IsRestored, ReachedAt, admits_at, is_spared}
use Rattle.pesp_counts_supports.specs.Restoring.ReachedAt.{begins, follows}
use Rattle.pesp_counts_supports.specs.Supports.{AreExact, AreLevel, Fit, HaveSameShape, IsTaken, Keeps, Supports, is_in, without_those}
use Rattle.pesp_counts.specs.Changes.{AreAtRestBut, AreWaitingBut}
use Rattle.pesp_base.proofs.Tests.{or_second}
use Rattle.pesp_counts.proofs.Bridge.{test_of}
use Rattle.pesp_counts.proofs.Carried.{spared_apart}
use Rattle.pesp_counts.proofs.Remade.{out_none}
use Rattle.pesp_counts_supports.proofs.Marks.{out_more}
use Rattle.pesp_counts_supports.proofs.Supporters.{supporters_from, supporters_some}
use Rattle.pesp_counts_supports.proofs.Taken.{fit_then, kept_shape, taken_fewer}
use Rattle.pesp_counts.specs.Keeping.{AreFor}

-- what is admitted somewhere is below the period
admitted_below : (I : Network) (links : Links) (p r : ℕ) → Of (admits_at I links) p r → r < I.period
admitted_below I links p r h =
    let e = test_of (λ e. nat_lt r I.period && admits I e r) (number_at links.events p) h in
    ltb-true r I.period (and_parts _ _ e.2).0

reached_below : (period : ℕ) (I : Network) (links : Links) (starts : List ℕ) (spared : Option ℕ) (rows : Pairs) (p r : ℕ) → ReachedAt period links starts spared (admits_at I links) rows p r → r < I.period
reached_below period I links starts spared rows _ _ (begins p r start out admitted) = admitted_below I links p r admitted
reached_below period I links starts spared rows _ _ (follows p k r s before listed unspared rl sl goes out admitted) = admitted_below I links p r admitted

module _ (I : Network) (links : Links) (starts : List ℕ) (spared : Option ℕ) (s m : Supports) (back : List Placed) (restored : IsRestored I links starts spared s m back) (period : s.period ≡ I.period) (exact : AreExactBut links spared s (has_at s.counted)) (live : (p k : ℕ) → Contains (ends_of links.lists p) k → is_spared spared k ≡ false → IsLiveAt s.period s.counts (has_at s.rows) p k) (level : AreLevel s) (below : (p r : ℕ) → Of (has_at s.rows) p r → r < s.period) where
  -- counts only rose
  pub live_after : (p k : ℕ) → Contains (ends_of links.lists p) k → is_spared spared k ≡ false → IsLiveAt m.period m.counts (without_those (has_at m.rows) back) p k
  live_after p k is unspared r rl i =
      let both = and_parts (has_at m.rows p r) (not (is_in back p r)) i in
      let low : r < s.period = omega (arith, rl, restored.shape.period) in
      let was : IsTrue (has_at s.rows p r) = elim (or_cases (has_at s.rows p r) (is_in back p r) (sym (restored.rows p r) ∙ both.0)) [ inl there ↦ there | inr came ↦ absurd (false≢true (sym (not-true (is_in back p r) both.1) ∙ came)) ] in
      let looks = (end_at links.ends k).looks_at in
      let some = live p k is unspared r low was in
      let x = supporters_some s.period (has_at s.counted looks) (passes s.period (end_at links.ends k) r) (subst (λ n. 0 < n) (exact p k is unspared r low) some) in
      let there : IsTrue (has_at m.counted looks x.0) = restored.level looks x.0 ∙ restored.rows looks x.0 ∙ or_left _ _ (sym (level looks x.0) ∙ x.2) in
      let xl : x.0 < m.period = (let l = x.1 in omega (arith, l, restored.shape.period)) in
      let goes : IsTrue (passes m.period (end_at links.ends k) r x.0) = subst (λ n. IsTrue (passes n (end_at links.ends k) r x.0)) (sym restored.shape.period) x.3 in
      subst (λ n. 0 < n) (sym (restored.exact p k is unspared r rl)) (supporters_from m.period (has_at m.counted looks) (passes m.period (end_at links.ends k) r) x.0 xl there goes)

  pub below_after : (p r : ℕ) → Of (has_at m.rows) p r → r < m.period
  below_after p r here =
      elim (cases_Bool (has_at s.rows p r)) [
        | inl was ↦ let l = below p r was in omega (arith, l, restored.shape.period)
        | inr new ↦
            let reached = restored.only p r (or_second (has_at s.rows p r) (is_in back p r) (sym (restored.rows p r) ∙ here) new) in
            let l = reached_below s.period I links starts spared (has_at s.rows) p r reached in
            omega (arith, l, period, restored.shape.period)
      ]

-- what came and has no partner waits
pub waiting_restored : (I : Network) (links : Links) (starts : List ℕ) (spared : Option ℕ) (s m : Supports) (back : List Placed) → IsRestored I links starts spared s m back → s.period ≡ I.period → AreAtRestBut links s spared → AreWaitingBut links m spared back
waiting_restored I links starts spared s m back restored period rest =
    record {
      exact = restored.exact;
      live = live_after I links starts spared s m back restored period rest.exact rest.live rest.level rest.below;
      within = λ p r i. restored.level p r ∙ i;
      waiting = λ p r i gone. absurd (false≢true (sym gone ∙ sym (restored.level p r) ∙ i));
      below = below_after I links starts spared s m back restored period rest.exact rest.live rest.level rest.below;
      out = out_none m (restored.trail ∙ rest.trail);
    }

-- and so does what is taken out
pub waiting_taken : (links : Links) (spared : Option ℕ) (back : List Placed) (s m : Supports) → AreWaitingBut links s spared back → IsTaken s m → Keeps s m → AreWaitingBut links m spared back
waiting_taken links spared back s m w taken keeps =
    record {
      exact = λ p k is unspared. rw (keeps.period, keeps.counts, keeps.counted) (w.exact p k is unspared);
      live = λ p k is unspared. rw (keeps.period, keeps.counts)
          (λ r rl i. let both = and_parts (has_at m.rows p r) (not (is_in back p r)) i in w.live p k is unspared r rl (and_from _ _ (taken_fewer s m taken p r both.0) both.1));
      within = λ p r i. ap (λ rows. has_at rows p r) keeps.counted ∙ w.within p r (taken_fewer s m taken p r i);
      waiting = λ p r i gone.
          let seen : IsTrue (has_at s.counted p r) = ap (λ rows. has_at rows p r) (sym keeps.counted) ∙ i in
          ap (λ xs. is_in xs p r) taken.trail ∙ list_any-append (λ (x : Placed). x.place == p && x.residue == r) s.trail taken.more
          ∙ (elim (cases_Bool (has_at s.rows p r)) [
            | inl was ↦ or_right (is_in s.trail p r) _ (or_second (has_at m.rows p r) (is_in taken.more p r) (sym (taken.parted p r) ∙ was) gone)
            | inr out ↦ or_left _ _ (w.waiting p r seen out)
          ]);
      below = λ p r i. let l = w.below p r (taken_fewer s m taken p r i) in omega (arith, l, keeps.period);
      out = out_more s m w.out w.below (kept_shape s m keeps) taken;
    }

-- with no ends left out
pub pending_none : (links : Links) (s : Supports) (spared : Option ℕ) (back : List Placed) → ((q : ℕ) → spared ≡ Some q → ⊥) → AreWaitingBut links s spared back → ArePendingBut links s back
pending_none links s None back never w =
    record { exact = λ p k is. w.exact p k is refl; live = λ p k is. w.live p k is refl; within = w.within; waiting = w.waiting; below = w.below; out = w.out }
pending_none links s (Some q) back never w = absurd (never q refl)

-- ---- both ends of an activity are counted anew

unspared_from : (q k : ℕ) → k ≢ 2 * q → k ≢ 2 * q + 1 → is_spared (Some q) k ≡ false
unspared_from q k a b = rw (ne_eqb k (2 * q) a, ne_eqb k (2 * q + 1) b) refl

-- the residue is at the place and has no partner at the end
abbrev is_lone : ℕ → List ℕ → ℕ → ℕ → Pairs
is_lone period counts place end p r = p == place && (count_at period counts end r == 0)

-- a pair that was not taken out as lone has a count above 0
not_lone : (period : ℕ) (counts : List ℕ) (place end p r : ℕ) (b : Bool) → p ≡ place → IsTrue (b && not (is_lone period counts place end p r)) → 0 < count_at period counts end r
not_lone period counts place end p r b same h =
    elim (cases_eq (count_at period counts end r) 0) [
      | inr some ↦ omega (arith, some)
      | inl none ↦
          let w = (and_parts b (not (is_lone period counts place end p r)) h).1 in
          absurd (false≢true (rw (eq-eqb p place same, eq-eqb (count_at period counts end r) 0 none) at w))
    ]

-- a pair of a closed set has a count above 0, so none of it goes as lone
module _ (links : Links) (b : Supports) (exact : AreExact links b (has_at b.counted)) (within : (p r : ℕ) → Of (has_at b.rows) p r → Of (has_at b.counted) p r) (below : (p r : ℕ) → Of (has_at b.rows) p r → r < b.period) where
  sift_keeps : (S : Pairs) → IsClosed b.period links.ends links.lists S → ((p r : ℕ) → Of S p r → Of (has_at b.rows) p r) → (place end : ℕ) → Contains (ends_of links.lists place) end → (p r : ℕ) → Of S p r → not (is_lone b.period b.counts place end p r) ≡ true
  sift_keeps S closed inside place end listed p r here =
      elim (cases_eq p place) [
        | inr apart ↦ rw (ne_eqb p place apart) refl
        | inl same ↦
            let is : Contains (ends_of links.lists p) end = subst (λ q. Contains (ends_of links.lists q) end) (sym same) listed in
            let q = closed.each p r end here is in
            let some = supporters_from b.period (has_at b.counted (end_at links.ends end).looks_at) (passes b.period (end_at links.ends end) r) q.0 q.1 (within _ q.0 (inside _ q.0 q.2)) q.3 in
            let more : 0 < count_at b.period b.counts end r = subst (λ n. 0 < n) (sym (exact p end is r (below p r (inside p r here)))) some in
            let none : (count_at b.period b.counts end r == 0) ≡ false = ne_eqb _ 0 (λ zero. absurd (omega (arith, zero, more))) in
            rw (none, eq-eqb p place same) refl
      ]

module _ (links : Links) (s b d n : Supports) (q p : ℕ) (back : List Placed) (linked : AreLinked s.period links.ends links.lists) (listed : Contains (ends_of links.lists p) (2 * q)) (mate : (end_at links.ends (2 * q)).mate ≡ 2 * q + 1) (w : AreWaitingBut links s (Some q) back)
    (rows : b.rows ≡ s.rows) (counted : b.counted ≡ s.counted) (trail : b.trail ≡ s.trail) (shape : HaveSameShape s b)
    (tail : IsExactAt s.period links.ends b.counts (has_at s.counted) (2 * q)) (head : IsExactAt s.period links.ends b.counts (has_at s.counted) (2 * q + 1)) (elsewhere : (k r : ℕ) → k ≢ 2 * q → k ≢ 2 * q + 1 → r < s.period → count_at s.period b.counts k r ≡ count_at s.period s.counts k r)
    (first : (x r : ℕ) → has_at d.rows x r ≡ (has_at b.rows x r && not (is_lone b.period b.counts (end_at links.ends (2 * q + 1)).looks_at (2 * q) x r))) (second : (x r : ℕ) → has_at n.rows x r ≡ (has_at d.rows x r && not (is_lone b.period b.counts (end_at links.ends (2 * q)).looks_at (2 * q + 1) x r))) (taken : IsTaken b n) (keeps : Keeps b n) where
  exact_all : AreExact links b (has_at b.counted)
  exact_all x k is =
      let here : IsExactAt s.period links.ends b.counts (has_at s.counted) k =
      elim (cases_eq k (2 * q)) [
        | inl same ↦ subst (IsExactAt s.period links.ends b.counts (has_at s.counted)) (sym same) tail
        | inr apart ↦
            elim (cases_eq k (2 * q + 1)) [
              | inl same ↦ subst (IsExactAt s.period links.ends b.counts (has_at s.counted)) (sym same) head
              | inr other ↦ λ r rl. elsewhere k r apart other rl ∙ w.exact x k is (unspared_from q k apart other) r rl
            ]
      ]
      in
      rw (shape.period, counted) here

  waiting : AreWaitingBut links b (Some q) back
  waiting =
      record {
        exact = λ x k is unspared. exact_all x k is;
        live = λ x k is unspared.
            let a = spared_apart q k unspared in
            rw (shape.period, rows) (λ r rl i. subst (λ c. 0 < c) (sym (elsewhere k r a.0 a.1 rl)) (w.live x k is unspared r rl i));
        within = rw (rows, counted) w.within;
        waiting = rw (rows, counted, trail) w.waiting;
        below = rw (rows, shape.period) w.below;
        out = rw trail (record { out = λ x r i. ap (λ xs. has_at xs x r) rows ∙ w.out.out x r i; within = rw shape.rows w.out.within; below = rw shape.period w.out.below; once = w.out.once });
      }

  -- the places of both ends
  tail_at : (end_at links.ends (2 * q + 1)).looks_at ≡ p
  tail_at = ap (λ k. (end_at links.ends k).looks_at) (sym mate) ∙ (linked.each p (2 * q) listed).mate_looks

  head_listed : Contains (ends_of links.lists (end_at links.ends (2 * q)).looks_at) (2 * q + 1)
  head_listed = subst (Contains (ends_of links.lists (end_at links.ends (2 * q)).looks_at)) mate (linked.each p (2 * q) listed).mate_there

  tail_listed : Contains (ends_of links.lists (end_at links.ends (2 * q + 1)).looks_at) (2 * q)
  tail_listed = subst (λ x. Contains (ends_of links.lists x) (2 * q)) (sym tail_at) listed

  -- what was not taken out as lone at an end has a count above 0 there
  live_at_end : (j m : ℕ) (S S' : Pairs) → (end_at links.ends j).mate ≡ m → ((x r : ℕ) → S' x r ≡ (S x r && not (is_lone b.period b.counts (end_at links.ends m).looks_at j x r))) → (x k r : ℕ) → Contains (ends_of links.lists x) k → k ≡ j → Of S' x r → 0 < count_at b.period b.counts k r
  live_at_end j m S S' mates sifts x k r is same i =
      let at : x ≡ (end_at links.ends m).looks_at = sym (linked.each x k is).mate_looks ∙ ap (λ h. (end_at links.ends h).looks_at) (ap (λ h. (end_at links.ends h).mate) same ∙ mates) in
      subst (λ h. 0 < count_at b.period b.counts h r) (sym same) (not_lone b.period b.counts (end_at links.ends m).looks_at j x r (S x r) at (sym (sifts x r) ∙ i))

  recounted_pending : ArePendingBut links n back
  recounted_pending =
      let now = waiting_taken links (Some q) back b n waiting taken keeps in
      let back_mate : (end_at links.ends (2 * q + 1)).mate ≡ 2 * q = ap (λ j. (end_at links.ends j).mate) (sym mate) ∙ (linked.each p (2 * q) listed).mate_back in
      record {
        exact = λ x k is. rw (keeps.period, keeps.counts, keeps.counted) (exact_all x k is);
        live = λ x k is.
            elim (cases_eq k (2 * q)) [
              | inl same ↦ rw (keeps.period, keeps.counts)
                  (λ r rl i. live_at_end (2 * q) (2 * q + 1) (has_at b.rows) (has_at d.rows) mate first x k r is same (and_parts _ _ (sym (second x r) ∙ (and_parts _ _ i).0)).0)
              | inr apart ↦
                  elim (cases_eq k (2 * q + 1)) [
                    | inl same ↦ rw (keeps.period, keeps.counts) (λ r rl i. live_at_end (2 * q + 1) (2 * q) (has_at d.rows) (has_at n.rows) back_mate second x k r is same (and_parts _ _ i).0)
                    | inr other ↦ now.live x k is (unspared_from q k apart other)
                  ]
            ];
        within = now.within;
        waiting = now.waiting;
        below = now.below;
        out = now.out;
      }

  recounted_keeps : KeepsClosed s.period links.ends links.lists (has_at s.rows) (has_at n.rows)
  recounted_keeps =
      record {
        fewer = λ x r i. ap (λ xs. has_at xs x r) (sym rows) ∙ taken_fewer b n taken x r i;
        keeps = λ S closed inside x r i.
            let closed' : IsClosed b.period links.ends links.lists S = rw shape.period closed in
            let inside' : (y t : ℕ) → Of S y t → Of (has_at b.rows) y t = λ y t j. ap (λ xs. has_at xs y t) rows ∙ inside y t j in
            let stays = sift_keeps links b exact_all waiting.within waiting.below S closed' inside' in
            let in_d : Of (has_at d.rows) x r = first x r ∙ and_from _ _ (inside' x r i) (stays (end_at links.ends (2 * q + 1)).looks_at (2 * q) tail_listed x r i) in
            second x r ∙ and_from _ _ in_d (stays (end_at links.ends (2 * q)).looks_at (2 * q + 1) head_listed x r i);
      }

  pub recounted : ArePendingBut links n back × KeepsClosed s.period links.ends links.lists (has_at s.rows) (has_at n.rows)
  recounted = (recounted_pending, recounted_keeps)

-- both ends of an activity, in counts of the same shape
pub both_ends : (I : Network) (links : Links) (s n : Supports) (q : ℕ) → AreFor I links s → HaveSameShape s n → (listed : (p : ℕ) × Contains (ends_of links.lists p) (2 * q)) → IsEndAt s.period links.ends links.lists listed.0 (2 * q) × IsEndAt s.period links.ends links.lists (end_at links.ends (2 * q)).looks_at (end_at links.ends (2 * q)).mate × Fit links n
both_ends I links s n q fits shape listed =
    let linked = fits.fit.linked in
    let tail = linked.each listed.0 (2 * q) listed.1 in
    (tail, linked.each _ _ tail.mate_there, fit_then links s n shape fits.fit)
