-- The pairs that came are followed one after another, until none is left.
use Rattle.std.proofs.Common.{◌≡◌, ◌≢◌, ℕ, ◌+◌, ◌<◌, ◌≤◌, ◌==◌, ◌&&◌, ◌||◌, not, Bool, false, Option, List, [], ◌∷◌, ◌++◌, AllPairs, length, get_or, take, refl, sym, ap, subst, ◌∙◌, inl, inr, arith, IsTrue, nat_lt}
use Rattle.std.proofs.lemmas.Bool.Decides.{nat_tests}
use Rattle.std.proofs.lemmas.Bool.{false≢true, eqb-true as eqb_is, not-true as not_is, or_left, and_parts, or_parts, or_cases, ltb-true, eq-eqb, lt-ltb, or_right}
use Rattle.std.proofs.lemmas.List.{take-append-le, take_all, take_more}
use Rattle.std.proofs.lemmas.List.Folds.{list_any-append, list_any_at}
use Rattle.std.specs.List.{Contains, list_any}
use Rattle.pesp_instance.specs.Network.{Network}
use Rattle.pesp_domains.specs.Sweeps.{Of, Pairs}
use Rattle.pesp_domains.proofs.Families.{passing}
use Rattle.pesp_counts_arcs.specs.declared.end.End.{End}
use Rattle.pesp_counts_supports.specs.declared.trail.Placed.{Placed}
use Rattle.pesp_counts_arcs.specs.Ends.{AreLinked, end_at, ends_of, passes}
use Rattle.pesp_counts_supports.specs.Blocks.{joined_block, of_block, of_blocks}
use Rattle.pesp_counts_supports.specs.Counts.{has_at, supporters}
use Rattle.pesp_counts_arcs.specs.Links.{Links}
use Rattle.std.specs.Global.{Vec}
use Rattle.pesp_counts_supports.specs.Restored.{AreExactBut, AreSparedTogether, HasRoom, IsBrought, of_starts, of_start}
use Rattle.pesp_counts_supports.specs.Restoring.{IsRestored, ReachedAt, admits_at, is_spared}
use Rattle.pesp_counts_supports.specs.Restoring.ReachedAt.{begins, follows}
use Rattle.pesp_counts_supports.specs.Supports.{AreLevel, HaveSameShape, Supports, held, is_in}
use Rattle.pesp_base.proofs.Tests.{or_alone as or_none}
use Rattle.std.proofs.lemmas.Bool.{and_from as and_both}
use Rattle.pesp_counts_supports.proofs.Moved.{HasGone}
use Rattle.pesp_counts_supports.specs.declared.moving.Moved.{Moved}
use Rattle.pesp_counts_supports.proofs.AlongEnds.{admits_below}
use Rattle.pesp_counts_supports.proofs.Brought.{brought_keeps, room_then}
use Rattle.pesp_counts_supports.proofs.Supporters.{supporters_same, supporters_from, supporters_some}
use Rattle.pesp_counts_supports.proofs.Taken.{found_in, kept_shape, once_then, shape_then}

-- a pair that passes a test of a list
pub any_of : {X : Type 0} (test : X → Bool) (xs : List X) (x : X) → Contains xs x → IsTrue (test x) → IsTrue (list_any test xs)
any_of test xs x (k, l, e) h = list_any_at test xs k x l (ap test e ∙ h)

-- a reached pair was not in the rows, and is admitted
pub reached_out : (period : ℕ) (links : Links) (starts : List ℕ) (spared : Option ℕ) (admitted rows : Pairs) (p r : ℕ) → ReachedAt period links starts spared admitted rows p r → rows p r ≡ false
reached_out period links starts spared admitted rows _ _ (begins p r is out may) = out
reached_out period links starts spared admitted rows _ _ (follows p k r s from is free rl sl pass out may) = out

pub reached_admitted : (period : ℕ) (links : Links) (starts : List ℕ) (spared : Option ℕ) (admitted rows : Pairs) (p r : ℕ) → ReachedAt period links starts spared admitted rows p r → Of admitted p r
reached_admitted period links starts spared admitted rows _ _ (begins p r is out may) = may
reached_admitted period links starts spared admitted rows _ _ (follows p k r s from is free rl sl pass out may) = may

-- what is counted was in the rows or is in the list, each pair of the list is reached, and what begins or follows a counted one of the list is in the rows
pub record AreComing (I : Network) (links : Links) (starts : List ℕ) (spared : Option ℕ) (before now : Supports) (back : Vec Placed) : Type 0 where
  pub exact : AreExactBut links spared now (has_at now.counted)
  pub rows : (p r : ℕ) → has_at now.rows p r ≡ (has_at before.rows p r || is_in back.items p r)
  pub seen : (p r : ℕ) → Of (has_at before.rows) p r → Of (has_at now.counted) p r
  pub within : (p r : ℕ) → Of (has_at now.counted) p r → Of (has_at now.rows) p r
  pub only : (p r : ℕ) → IsTrue (is_in back.items p r) → ReachedAt before.period links starts spared (admits_at I links) (has_at before.rows) p r
  pub once : AllPairs (λ x y. x ≢ y) back.items
  pub begun : (p r : ℕ) → Contains starts p → Of (admits_at I links) p r → Of (has_at now.rows) p r
  pub followed : (p k r s : ℕ) → Of (has_at now.counted) (end_at links.ends k).looks_at s → has_at before.rows (end_at links.ends k).looks_at s ≡ false → Contains (ends_of links.lists p) k → is_spared spared k ≡ false → r < before.period → s < before.period → IsTrue (passes before.period (end_at links.ends k) r s) → Of (admits_at I links) p r → Of (has_at now.rows) p r
  pub trail : now.trail ≡ before.trail
  pub shape : HaveSameShape before now
  pub room : HasRoom now back

-- the pairs of the list before the next one are counted
abbrev pub AreCounted : Supports → Vec Placed → ℕ → Type 0
AreCounted now back next = (p r : ℕ) → IsTrue (is_in (take next back.items) p r) → Of (has_at now.counted) p r

-- with the same rows there is as much room
pub room_as : (s t : Supports) (back : Vec Placed) → t.rows ≡ s.rows → t.period ≡ s.period → HasRoom s back → HasRoom t back
room_as s t back rows period room = rw (rows, period) room

-- what comes and was not there comes to the list too
joins : (was now after list more may : Bool) → now ≡ (was || list) → after ≡ (now || may) → more ≡ (list || (may && not now)) → after ≡ (was || more)
joins was now after list more may rows then listed = grind arith

-- ---- at first

module _ (I : Network) (links : Links) (starts : List ℕ) (spared : Option ℕ) (before now : Supports) (none back : Vec Placed) (empty : none.items ≡ []) (came : IsBrought (of_starts I links starts) before now none back) where
  listed_is : back.items ≡ came.more
  listed_is = came.listed ∙ ap (λ xs. xs ++ came.more) empty

  listed_just : (p r : ℕ) → is_in back.items p r ≡ (of_starts I links starts p r && not (has_at before.rows p r))
  listed_just p r = ap (λ xs. is_in xs p r) listed_is ∙ came.just p r

  module _ (exact : AreExactBut links spared before (has_at before.counted)) (level : AreLevel before) (room : HasRoom before none) where
    -- what is counted was in the rows
    was : (p r : ℕ) → Of (has_at now.counted) p r → Of (has_at before.rows) p r
    was p r h = sym (level p r) ∙ sym (ap (λ xs. has_at xs p r) came.counted) ∙ h

    pub coming_start : AreComing I links starts spared before now back
    coming_start =
        record {
          exact = rw (came.period, came.counts, came.counted) exact;
          rows = λ p r. grind (arith, came.rows p r, listed_just p r);
          seen = λ p r h. ap (λ xs. has_at xs p r) came.counted ∙ level p r ∙ h;
          within = λ p r h. grind (arith, came.rows p r, was p r h);
          only = λ p r h.
              let both = and_parts (of_starts I links starts p r) (not (has_at before.rows p r)) (sym (listed_just p r) ∙ h) in
              let w = passing (λ q. p == q && admits_at I links q r) starts both.0 in
              let (at, may) = and_parts (p == w.0) (admits_at I links w.0 r) w.2 in
              let place : p ≡ w.0 = eqb_is p w.0 at in
              begins p r (subst (Contains starts) (sym place) w.1) (not_is (has_at before.rows p r) both.1) (ap (λ q. admits_at I links q r) place ∙ may);
          once = subst (AllPairs (λ x y. x ≢ y)) (sym listed_is) came.once;
          begun = λ p r is may.
              let there = any_of (λ q. p == q && admits_at I links q r) starts p is (grind (arith, nat_tests, may)) in
              grind (arith, came.rows p r, there);
          followed = λ p k r s h out is free rl sl pass may. absurd (false≢true (sym out ∙ was (end_at links.ends k).looks_at s h));
          trail = came.trail;
          shape = kept_shape before now (brought_keeps (of_starts I links starts) before now none back came);
          room = room_then (of_starts I links starts) before now none back came room;
        }

-- ---- the next pair

module _ (I : Network) (links : Links) (starts : List ℕ) (spared : Option ℕ) (before now : Supports) (back : Vec Placed) (next : ℕ) (x : Placed) (within : next < length back.items) (at : x ≡ get_or back.items next x) (period : before.period ≡ I.period) (so_far : AreComing I links starts spared before now back) where
  next_in : IsTrue (is_in back.items x.place x.residue)
  next_in = found_in back.items x (next, within, sym at)

  next_reached : ReachedAt before.period links starts spared (admits_at I links) (has_at before.rows) x.place x.residue
  next_reached = so_far.only x.place x.residue next_in

  pub next_below : x.residue < now.period
  next_below =
      let below = admits_below I links x.place x.residue (reached_admitted before.period links starts spared (admits_at I links) (has_at before.rows) x.place x.residue next_reached) in
      omega (arith, below, period, so_far.shape.period)

  pub next_there : Of (has_at now.rows) x.place x.residue
  next_there = grind (arith, so_far.rows x.place x.residue, next_in)

  front_is : (p r : ℕ) → is_in (take next back.items ++ x ∷ []) p r ≡ (is_in (take next back.items) p r || (x.place == p && x.residue == r))
  front_is p r =
      list_any-append (λ (y : Placed). y.place == p && y.residue == r) (take next back.items) (x ∷ [])
      ∙ ap (λ b. is_in (take next back.items) p r || b) (sym (or_none (x.place == p && x.residue == r)))

  front_more : take (next + 1) back.items ≡ take next back.items ++ x ∷ []
  front_more = take_more back.items next x within ∙ ap (λ y. take next back.items ++ y ∷ []) (sym at)

  -- where the next pair is counted already, it is passed over
  pub passed_on : AreCounted now back next → Of (has_at now.counted) x.place x.residue → AreCounted now back (next + 1)
  passed_on done seen p r h =
      let front = sym (front_is p r) ∙ sym (ap (λ xs. is_in xs p r) front_more) ∙ h in
      grind (arith, nat_tests, done p r, front, seen)

  -- residues of its place that the rows hold and that are not counted yet, the next one among them
  module _ (D : ℕ → Bool) (mine : IsTrue (D x.residue)) (there : (d : ℕ) → IsTrue (D d) → Of (has_at now.rows) x.place d) (absent : (d : ℕ) → IsTrue (D d) → has_at now.counted x.place d ≡ false) where
    block_reached : (d : ℕ) → IsTrue (D d) → ReachedAt before.period links starts spared (admits_at I links) (has_at before.rows) x.place d
    block_reached d h = so_far.only x.place d (grind (arith, absent d h, so_far.seen x.place d, so_far.rows x.place d, there d h))

    pub block_below : (d : ℕ) → IsTrue (D d) → d < now.period
    block_below d h =
        let below = admits_below I links x.place d (reached_admitted before.period links starts spared (admits_at I links) (has_at before.rows) x.place d (block_reached d h)) in
        omega (arith, below, period, so_far.shape.period)

    module _ (l : Moved) (mid after : Supports) (back' : Vec Placed) (linked : AreLinked before.period links.ends links.lists) (together : AreSparedTogether links spared)
        (v : HasGone links spared now mid x.place l D (joined_block (has_at now.counted) x.place D)) (counted : (p r : ℕ) → has_at mid.counted p r ≡ joined_block (has_at now.counted) x.place D p r)
        (came : IsBrought (of_blocks before.period I links spared D (ends_of links.lists x.place)) mid after back back') where
      abbrev T : ℕ
      T = before.period

      -- what goes with the block along an end, and along all of them
      abbrev along : ℕ → ℕ → ℕ → Bool
      along p r k = of_block T I links D (end_at links.ends (end_at links.ends k).mate) (end_at links.ends k).looks_at p r

      abbrev may : Pairs
      may = of_blocks T I links spared D (ends_of links.lists x.place)

      just_more : (p r : ℕ) → is_in came.more p r ≡ (may p r && not (has_at now.rows p r))
      just_more p r = came.just p r ∙ ap (λ xs. may p r && not (has_at xs p r)) v.rows

      is_in_more : (p r : ℕ) → is_in back'.items p r ≡ (is_in back.items p r || (may p r && not (has_at now.rows p r)))
      is_in_more p r =
          ap (λ xs. is_in xs p r) came.listed
          ∙ list_any-append (λ (y : Placed). y.place == p && y.residue == r) back.items came.more
          ∙ ap (λ b. is_in back.items p r || b) (just_more p r)

      taken_more : (p r : ℕ) → is_in (take (next + 1) back'.items) p r ≡ (is_in (take next back.items) p r || (x.place == p && x.residue == r))
      taken_more p r =
          let front : take (next + 1) back'.items ≡ take next back.items ++ x ∷ [] =
          ap (take (next + 1)) came.listed ∙ take-append-le (next + 1) back.items came.more (omega (arith, within)) ∙ front_more
          in
          ap (λ xs. is_in xs p r) front ∙ front_is p r

      rows_more : (p r : ℕ) → has_at after.rows p r ≡ (has_at now.rows p r || may p r)
      rows_more p r = came.rows p r ∙ ap (λ xs. has_at xs p r || may p r) v.rows

      counted_more : (p r : ℕ) → has_at after.counted p r ≡ (has_at now.counted p r || (x.place == p && D r))
      counted_more p r = ap (λ xs. has_at xs p r) came.counted ∙ counted p r

      -- a pair that came is joined to one of the block by an end
      reached_more : (p r : ℕ) → IsTrue (may p r) → has_at now.rows p r ≡ false → ReachedAt before.period links starts spared (admits_at I links) (has_at before.rows) p r
      reached_more p r h lacks =
          let w = passing (λ k. not (is_spared spared k) && along p r k) (ends_of links.lists x.place) h in
          let end : End = end_at links.ends w.0 in
          let mate : End = end_at links.ends end.mate in
          let at_end = linked.each x.place w.0 w.1 in
          let (free, blocked) = and_parts (not (is_spared spared w.0)) (along p r w.0) w.2 in
          let (start, meets) = and_parts (of_start I links end.looks_at p r) (nat_lt 0 (supporters T D (passes T mate r))) blocked in
          let (here, admitted) = and_parts (p == end.looks_at) (admits_at I links end.looks_at r) start in
          let place : p ≡ end.looks_at = eqb_is p end.looks_at here in
          let rl : r < T = let low = admits_below I links end.looks_at r admitted in omega (arith, low, period) in
          let (d, dl, held, pass) = supporters_some T D (passes T mate r) (ltb-true 0 (supporters T D (passes T mate r)) meets) in
          follows p end.mate r d
          (subst (λ q. ReachedAt T links starts spared (admits_at I links) (has_at before.rows) q d) (sym at_end.mate_looks) (block_reached d held))
          (subst (λ q. Contains (ends_of links.lists q) end.mate) (sym place) at_end.mate_there)
          (together x.place w.0 w.1 ∙ not_is (is_spared spared w.0) free)
          rl dl pass
          (or_parts (has_at before.rows p r) (is_in back.items p r) (sym (so_far.rows p r) ∙ lacks)).0
          (ap (λ q. admits_at I links q r) place ∙ admitted)

      -- what an end joins to one of the block is in the rows
      followed_more : (p k r d : ℕ) → IsTrue (D d) → x.place ≡ (end_at links.ends k).looks_at → Contains (ends_of links.lists p) k → is_spared spared k ≡ false → r < before.period → IsTrue (passes before.period (end_at links.ends k) r d) → Of (admits_at I links) p r → IsTrue (may p r)
      followed_more p k r d held place is free rl pass admitted =
          let at_end = linked.each p k is in
          let m : ℕ = (end_at links.ends k).mate in
          let below = block_below d held in
          let some = supporters_from T D (passes T (end_at links.ends k) r) d (omega (arith, below, so_far.shape.period)) held pass in
          let many : ℕ = supporters T D (passes T (end_at links.ends k) r) in
          let start = and_both (p == p) (admits_at I links p r) (eq-eqb p p refl) admitted in
          let blocked : IsTrue (along p r m) = rw (at_end.mate_back, at_end.mate_looks) (and_both (p == p && admits_at I links p r) (nat_lt 0 many) start (lt-ltb 0 many some)) in
          any_of (λ j. not (is_spared spared j) && along p r j) (ends_of links.lists x.place) m
          (subst (λ q. Contains (ends_of links.lists q) m) (sym place) at_end.mate_there)
          (and_both (not (is_spared spared m)) (along p r m) (ap not (together p k is ∙ free)) blocked)

      shape_after : HaveSameShape before after
      shape_after = shape_then before now after so_far.shape (shape_then now mid after v.shape (kept_shape mid after (brought_keeps may mid after back back' came)))

      -- the next one is counted too
      pub counted_on : AreCounted now back next → AreCounted after back' (next + 1)
      counted_on done p r h = grind (arith, nat_tests, counted_more p r, taken_more p r, done p r, mine, h)

      pub coming_more : AreComing I links starts spared before after back'
      coming_more =
          record {
            exact = λ p k is free r rl.
                let looks : ℕ = (end_at links.ends k).looks_at in
                let n : ℕ = mid.period in
                let S : Pairs = joined_block (has_at now.counted) x.place D in
                rw (came.period, came.counts)
                (v.exact p k is free r (subst (λ m. r < m) came.period rl)
                ∙ sym (supporters_same n (S looks) (has_at after.counted looks) (passes n (end_at links.ends k) r) (passes n (end_at links.ends k) r) (λ q ql. counted_more looks q) (λ q ql. refl)));
            rows = λ p r. joins _ _ _ _ _ _ (so_far.rows p r) (rows_more p r) (is_in_more p r);
            seen = λ p r h. grind (arith, counted_more p r, so_far.seen p r h);
            within = λ p r h.
                elim (or_cases (has_at now.counted p r) (x.place == p && D r) (sym (counted_more p r) ∙ h)) [
                  | inl early ↦ rows_more p r ∙ or_left (has_at now.rows p r) (may p r) (so_far.within p r early)
                  | inr late ↦
                      let (at, held) = and_parts (x.place == p) (D r) late in
                      rows_more p r ∙ or_left (has_at now.rows p r) (may p r) (subst (λ q. Of (has_at now.rows) q r) (eqb_is x.place p at) (there r held))
                ];
            only = λ p r h.
                elim (or_cases (is_in back.items p r) (may p r && not (has_at now.rows p r)) (sym (is_in_more p r) ∙ h)) [
                  | inl early ↦ so_far.only p r early
                  | inr late ↦
                      let (goes, lacks) = and_parts (may p r) (not (has_at now.rows p r)) late in
                      reached_more p r goes (not_is (has_at now.rows p r) lacks)
                ];
            once = subst (AllPairs (λ y z. y ≢ z)) (sym came.listed)
                (once_then back.items came.more so_far.once came.once
                (λ y i j. grind (arith, so_far.rows y.place y.residue, found_in back.items y i, just_more y.place y.residue, found_in came.more y j)));
            begun = λ p r is admitted. grind (arith, rows_more p r, so_far.begun p r is admitted);
            followed = λ p k r s h out is free rl sl pass admitted.
                let looks : ℕ = (end_at links.ends k).looks_at in
                rows_more p r
                ∙ elim (or_cases (has_at now.counted looks s) (x.place == looks && D s) (sym (counted_more looks s) ∙ h)) [
                  | inl early ↦ or_left (has_at now.rows p r) (may p r) (so_far.followed p k r s early out is free rl sl pass admitted)
                  | inr late ↦
                      let (at, held) = and_parts (x.place == looks) (D s) late in
                      or_right (has_at now.rows p r) (may p r) (followed_more p k r s held (eqb_is x.place looks at) is free rl pass admitted)
                ];
            trail = came.trail ∙ v.trail ∙ so_far.trail;
            shape = shape_after;
            room = room_then may mid after back back' came (room_as now mid back v.rows v.shape.period so_far.room);
          }

-- ---- with none left

module _ (I : Network) (links : Links) (starts : List ℕ) (spared : Option ℕ) (before now : Supports) (back : Vec Placed) (next : ℕ) (over : length back.items ≤ next) (so_far : AreComing I links starts spared before now back) (done : AreCounted now back next) where
  whole : take next back.items ≡ back.items
  whole = take_all next back.items over

  -- what is in the rows and was not before is in the list
  came_in : (p r : ℕ) → has_at before.rows p r ≡ false → Of (has_at now.rows) p r → IsTrue (is_in back.items p r)
  came_in p r out there = grind (arith, so_far.rows p r)

  all_in : (p r : ℕ) → ReachedAt before.period links starts spared (admits_at I links) (has_at before.rows) p r → IsTrue (is_in back.items p r)
  all_in _ _ (begins p r is out admitted) = came_in p r out (so_far.begun p r is admitted)
  all_in _ _ (follows p k r s from is free rl sl pass out admitted) =
      let earlier = all_in (end_at links.ends k).looks_at s from in
      let held = done (end_at links.ends k).looks_at s (subst (λ xs. IsTrue (is_in xs (end_at links.ends k).looks_at s)) (sym whole) earlier) in
      let outside = reached_out before.period links starts spared (admits_at I links) (has_at before.rows) (end_at links.ends k).looks_at s from in
      came_in p r out (so_far.followed p k r s held outside is free rl sl pass admitted)

  -- all that the rows hold is counted
  all_counted : AreLevel now
  all_counted p r =
      let list : IsTrue (is_in back.items p r) → IsTrue (has_at now.counted p r) = λ h. done p r (subst (λ xs. IsTrue (is_in xs p r)) (sym whole) h) in
      grind (arith, list, so_far.rows p r, so_far.seen p r, so_far.within p r)

  pub coming_end : IsRestored I links starts spared before now back.items
  coming_end =
      record {
        rows = so_far.rows;
        all = all_in;
        only = so_far.only;
        once = so_far.once;
        exact = so_far.exact;
        level = all_counted;
        trail = so_far.trail;
        shape = so_far.shape;
      }
