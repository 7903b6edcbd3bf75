-- What waits at a place leaves what is counted, and pays for the looks that it costs.
use Rattle.std.proofs.Common.{◌≡◌, ℕ, ◌+◌, ◌*◌, ◌<◌, ◌≤◌, ◌==◌, ◌&&◌, if◌then◌else◌, Bool, false, IsTrue, None, length, get_or, drop, refl, sym, ap, subst, ◌∙◌, inl, inr, arith, All, ◌≢◌}
use Rattle.std.proofs.lemmas.Bool.Decides.{nat_tests}
use Rattle.std.specs.List.{Contains}
use Rattle.std.proofs.Math.Bool.{and-false}
use Rattle.std.proofs.lemmas.Bool.{cases_Bool, cases_eq, eq-eqb, false≢true}
use Rattle.pesp_domains.specs.Sweeps.{Of, Pairs}
use Rattle.pesp_domains.proofs.Families.{and_left}
use Rattle.pesp_counts_supports.specs.declared.moving.Moved.{Moved}
use Rattle.pesp_counts_supports.specs.declared.moving.Moved.TheVariants.{One, Block}
use Rattle.pesp_counts_supports.specs.declared.moving.Way.TheVariants.{Out}
use Rattle.pesp_counts_supports.specs.declared.trail.Placed.{Placed}
use Rattle.pesp_counts_arcs.specs.Ends.{AreLinked, end_at, ends_of, passes}
use Rattle.pesp_counts_arcs.specs.Links.{Links}
use Rattle.pesp_counts_supports.specs.Counts.{ArePending, count_at, has_at, supporters, IsExactAt}
use Rattle.pesp_counts_supports.specs.Moves.{IsMoved, is_leveled, is_touched, leaves_of, owed, Goes}
use Rattle.pesp_counts_supports.specs.Resting.{AreLive, AreLiveBut}
use Rattle.pesp_counts_supports.specs.Supports.{AreExact, IsTaken, Supports, Keeps}
use Rattle.pesp_counts_supports.specs.Spent.{ends_at}
use Rattle.pesp_counts_supports.proofs.Moved.{HasGone, untouched}
use Rattle.pesp_counts_supports.proofs.Sifted.{below_long}
use Rattle.pesp_counts_supports.proofs.Parted.{owed_one, paid, stands_from, supporters_parted, without_block}
use Rattle.pesp_counts_supports.proofs.Taken.{gone_at, still_at, taken_fewer}
use Rattle.pesp_counts_supports.proofs.Supporters.{supporters_same}

-- ---- which residues leave

module _ (s : Supports) (p q : ℕ) where
  -- the pair that they leave with is among them
  pub leaves_too : (l : Moved) → ((residue : ℕ) → l ≡ One residue → residue ≡ q) → Of (has_at s.counted) p q → has_at s.rows p q ≡ false → IsTrue (leaves_of s p l q)
  leaves_too (One residue) alone here out = eq-eqb q residue (sym (alone residue refl))
  leaves_too Block alone here out = rw (here, out) refl

  -- they are counted
  pub leaves_here : (l : Moved) → ((residue : ℕ) → l ≡ One residue → residue ≡ q) → Of (has_at s.counted) p q → (r : ℕ) → IsTrue (leaves_of s p l r) → Of (has_at s.counted) p r
  leaves_here (One residue) alone here r h = grind (arith, nat_tests, alone residue refl)
  leaves_here Block alone here r h = grind (arith, h)

  -- and the rows do not hold them
  pub leaves_gone : (l : Moved) → ((residue : ℕ) → l ≡ One residue → residue ≡ q) → has_at s.rows p q ≡ false → (r : ℕ) → IsTrue (leaves_of s p l r) → has_at s.rows p r ≡ false
  leaves_gone (One residue) alone out r h = grind (arith, nat_tests, alone residue refl)
  leaves_gone Block alone out r h = grind (arith, h)

-- ---- what is counted then

module _ (s : Supports) (p : ℕ) where
  -- at the place it is what the rows hold of what the counts see anew, and else what it was
  pub leveled : (l : Moved) (counted : Pairs)
      → ((r : ℕ) → Of (has_at s.counted) p r → r < s.period) → ((r : ℕ) → Of (has_at s.rows) p r → Of (has_at s.counted) p r) → ((r : ℕ) → IsTrue (leaves_of s p l r) → has_at s.rows p r ≡ false)
      → ((q r : ℕ) → counted q r ≡ (if q == p && is_leveled s.period l r then has_at s.rows q r else has_at s.counted q r))
      → (q r : ℕ) → counted q r ≡ without_block (has_at s.counted) p (leaves_of s p l) q r
  leveled (One residue) counted below within gone level q r = grind (arith, nat_tests, level q r, gone r)
  leveled Block counted below within gone level q r = grind (arith, nat_tests, level q r, within r, below r)

-- ---- a step

-- a pair of the trail is still counted, and is to leave alone or with others of its place that the rows do not hold, of which the sums were made
pub record AreLeaving (links : Links) (next : ℕ) (pair : Placed) (l : Moved) (s mid : Supports) : Type 0 where
  pub linked : AreLinked s.period links.ends links.lists
  pub pending : ArePending s.period links.ends links.lists s.counts (has_at s.counted) (has_at s.rows) s.trail next
  pub long : All (λ row. length row ≡ s.period) s.counted
  pub within : next < length s.trail
  pub at : (d : Placed) → get_or s.trail next d ≡ pair
  pub here : Of (has_at s.counted) pair.place pair.residue
  pub out : has_at s.rows pair.place pair.residue ≡ false
  pub alone : (residue : ℕ) → l ≡ One residue → residue ≡ pair.residue
  pub moved : IsMoved s.period l mid.sums (leaves_of s pair.place l)

-- what is counted without what leaves
abbrev pub rest_of : Placed → Moved → Supports → Pairs
rest_of pair l s = without_block (has_at s.counted) pair.place (leaves_of s pair.place l)

module _ (links : Links) (next : ℕ) (pair : Placed) (l : Moved) (s mid : Supports) (w : AreLeaving links next pair l s mid) where
  abbrev p : ℕ
  p = pair.place

  abbrev D : ℕ → Bool
  D = leaves_of s p l

  abbrev rest : Pairs
  rest = rest_of pair l s

  seen : (r : ℕ) → IsTrue (D r) → Of (has_at s.counted) p r
  seen = leaves_here s p pair.residue l w.alone w.here

  gone : (r : ℕ) → IsTrue (D r) → has_at s.rows p r ≡ false
  gone = leaves_gone s p pair.residue l w.alone w.out

  -- the counts may go over to it
  pub step_goes : Goes Out (has_at s.counted) p D rest
  step_goes =
      record {
        apart = λ r h. grind (arith, nat_tests);
        joined = λ q r. grind (arith, nat_tests, seen r);
      }

  -- a count goes down to none only where it is touched
  module _ (t : Supports) (v : HasGone links None s t p l D rest) where
    pub step_counted : (q r : ℕ) → has_at t.counted q r ≡ rest q r
    step_counted = leveled s p l (has_at t.counted) (λ r h. below_long s.counted s.period p r w.long h) (w.pending.within p) gone v.counted

    -- the counts are those of what is counted
    pub step_exact : AreExact links t (has_at t.counted)
    step_exact q k is r rl =
        let e : ℕ = (end_at links.ends k).looks_at in
        v.exact q k is refl r rl ∙ supporters_same t.period (has_at t.counted e) (rest e) (passes t.period (end_at links.ends k) r) (passes t.period (end_at links.ends k) r) (λ x xl. sym (step_counted e x)) (λ x xl. refl)

    pub step_live : AreLiveBut links t l (ends_of links.lists p)
    step_live q k r is below h =
        let T : ℕ = s.period in
        let rl : r < T = omega (arith, below, v.shape.period) in
        let f : ℕ → Bool = passes T (end_at links.ends k) r in
        let e : ℕ = (end_at links.ends k).looks_at in
        let was = w.pending.live q k is r rl (ap (λ xs. has_at xs q r) (sym v.rows) ∙ h) in
        let before = w.pending.exact q k is r rl in
        let after : count_at T t.counts k r ≡ supporters T (rest e) f = subst (λ n. r < n → count_at n t.counts k r ≡ supporters n (rest e) (passes n (end_at links.ends k) r)) v.shape.period (v.exact q k is refl r) rl in
        rw v.shape.period
        (elim (cases_eq e p) [
          | inr apart ↦
              let same = supporters_same T (has_at s.counted e) (rest e) f f (λ x xl. grind (arith, nat_tests, apart)) (λ x xl. refl) in
              inl (omega (arith, was, before, after, same))
          | inl looks ↦
              let m : ℕ = (end_at links.ends k).mate in
              let at_end = w.linked.each q k is in
              let there : Contains (ends_of links.lists p) m = subst (λ n. Contains (ends_of links.lists n) m) looks at_end.mate_there in
              elim (cases_Bool (is_touched T l (end_at links.ends m) r)) [
                | inl touched ↦ inr (m, there, at_end.mate_back, touched)
                | inr free ↦
                    let parted = supporters_parted T (has_at s.counted e) (rest e) D f (λ x. rw (eq-eqb e p looks) refl) (λ x d. subst (λ n. Of (has_at s.counted) n x) (sym looks) (seen x d)) in
                    let none = subst (λ n. supporters T D (passes T (end_at links.ends n) r) ≡ 0) at_end.mate_back (untouched T links.ends links.lists p m l mid.sums D r w.linked there w.moved rl free) in
                    inl (omega (arith, was, before, after, parted, none))
              ]
        ])

    -- the others wait still, and some more may, and what was looked at is paid for
    module _ (last : Supports) (taken : IsTaken s last) (keeps : Keeps t last) where
      left : (q r : ℕ) → has_at last.counted q r ≡ rest q r
      left q r = ap (λ xs. has_at xs q r) keeps.counted ∙ step_counted q r

      -- the pair that they leave with is counted no more
      itself : rest p pair.residue ≡ false
      itself = rw (eq-eqb p p refl, leaves_too s p pair.residue l w.alone w.here w.out) (and-false (has_at s.counted p pair.residue))

      -- what is counted and not in the rows is later in the trail
      step_waits : (q r : ℕ) → Of (has_at last.counted) q r → has_at last.rows q r ≡ false → (i : ℕ) × (next + 1 ≤ i) × (i < length last.trail) × (get_or last.trail i (record { place = q; residue = r }) ≡ record { place = q; residue = r })
      step_waits q r h out =
          let x : Placed = record { place = q; residue = r } in
          let stays : Of rest q r = sym (left q r) ∙ h in
          elim (cases_Bool (has_at s.rows q r)) [
            | inl there ↦ let i = gone_at s last taken q r there out in (i.0, omega (arith, w.within, i.1), i.2, i.3)
            | inr early ↦
                let i = w.pending.waiting q r (and_left (has_at s.counted q r) _ stays) early in
                let other : i.0 ≢ next =
                λ same.
                let is : x ≡ pair = sym i.3 ∙ ap (λ n. get_or s.trail n x) same ∙ w.at x in
                false≢true (sym itself ∙ subst (λ (y : Placed). Of rest y.place y.residue) is stays)
                in
                let still = still_at s last taken i.0 x i.2 i.3 in
                (i.0, omega (arith, i.1, other), still.0, still.1)
          ]

      pub step_pending : AreLive links last → ArePending s.period links.ends links.lists last.counts (has_at last.counted) (has_at last.rows) last.trail (next + 1)
      step_pending live =
          record {
            exact = λ q k is. subst (λ n. IsExactAt n links.ends last.counts (has_at last.counted) k) v.shape.period (rw (keeps.counts, keeps.counted) (step_exact q k is));
            live = let period = keeps.period ∙ v.shape.period in rw period at live;
            within = λ q r h.
                let was = taken_fewer s last taken q r h in
                grind (arith, nat_tests, left q r, w.pending.within q r was, gone r, was);
            waiting = step_waits;
          }

      pub step_paid : last.probes ≡ t.probes
          → last.probes + s.period * owed links (has_at last.counted) (drop (next + 1) last.trail) ≤ s.probes + s.period * (owed links (has_at s.counted) (drop next s.trail) + ends_at links (drop (length s.trail) last.trail))
      step_paid looked =
          let i = w.pending.waiting p pair.residue w.here w.out in
          let waits = stands_from s.trail next i.0 (record { place = p; residue = pair.residue }) i.1 i.2 i.3 in
          let less = owed_one links (has_at s.counted) (has_at last.counted) p pair.residue (drop next s.trail) waits w.here (left p pair.residue ∙ itself) (λ q r h. and_left (has_at s.counted q r) _ (sym (left q r) ∙ h)) in
          paid links s last s.period next (length (ends_of links.lists p)) (has_at s.counted) (has_at last.counted) taken w.within (omega (arith, looked, v.probes)) less
