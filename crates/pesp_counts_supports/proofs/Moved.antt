-- What moves out of the counts or into them: rows that are leveled, and counts that move at one end after another.
use Rattle.std.proofs.Common.{◌≡◌, ℕ, suc, ◌+◌, ◌-◌, ◌*◌, ◌<◌, ◌≤◌, ◌==◌, ◌&&◌, ◌||◌, if◌then◌else◌, cond, Bool, true, false, IsTrue, List, [], ◌∷◌, length, get_or, set, take, drop, sym, ap, subst, ◌∙◌, inl, inr, arith, Option}
use Rattle.std.proofs.lemmas.Bool.Decides.{nat_tests}
use Rattle.std.specs.List.{Contains}
use Rattle.std.proofs.lemmas.Bool.{cases_Bool, cases_eq, false≢true, and_parts, eqb-true}
use Rattle.std.proofs.lemmas.List.{get_or-drop, get_or-set_other, get_or-set_same, get_or-take, get_or_default, length-drop, length-take-le}
use Rattle.pesp_domains.specs.Domains.{holds}
use Rattle.pesp_counts_arcs.specs.declared.end.End.{End}
use Rattle.pesp_counts_arcs.specs.declared.end.Ranges.{Ranges}
use Rattle.pesp_counts_arcs.specs.Ends.{AreLinked, end_at, ends_of, is_from_to, passes}
use Rattle.pesp_counts_supports.specs.declared.moving.Moved.{Moved}
use Rattle.pesp_counts_supports.specs.declared.moving.Moved.TheVariants.{Block, One}
use Rattle.pesp_counts_supports.specs.declared.moving.Way.{Way}
use Rattle.pesp_counts_supports.specs.declared.moving.Way.TheVariants.{In, Out}
use Rattle.pesp_counts_supports.specs.Blocks.{AreSums}
use Rattle.pesp_counts_supports.specs.Counted as can
use Rattle.pesp_counts_supports.specs.Counted.{AreShifted}
use Rattle.pesp_counts_supports.specs.Counts.{count_at, has_at, supporters}
use Rattle.pesp_counts_supports.specs.Moves.{CanMove, CanShift, IsMoved, IsShifted, MovesBy, OnlyCounts, is_touched, partners, Goes, Moves, is_leveled}
use Rattle.pesp_domains.specs.Sweeps.{Pairs}
use Rattle.pesp_counts_arcs.specs.Links.{Links}
use Rattle.pesp_counts_supports.specs.Supports.{HaveSameShape, Supports}
use Rattle.pesp_counts_supports.specs.Restored.{in_ranges, AreExactBut}
use Rattle.pesp_counts_supports.proofs.Parted.{partners_of_one}
use Rattle.pesp_counts_supports.proofs.Raised.{block_out}
use Rattle.pesp_counts_supports.proofs.SumLaws.{sum_le, window_holds}
use Rattle.pesp_counts_supports.proofs.Supporters.{one}

-- ---- what is counted is leveled with the rows

-- the residues of a range are those of the rows, and all others are as they were
abbrev pub Levels : ℕ → ℕ → ℕ → List (List Bool) → List (List Bool) → List (List Bool) → Type 0
Levels place low q rows before now =
    (p r : ℕ) → has_at now p r ≡ (if p == place && is_from_to low q r then has_at rows p r else has_at before p r)

module _ (place low : ℕ) (rows before : List (List Bool)) where
  -- one residue more
  pub levels_more : (q : ℕ) (now : List (List Bool)) (row item : List Bool) → low ≤ q → place < length now → item ≡ get_or now place item → ((r : ℕ) → holds row r ≡ (if r == q then has_at rows place r else holds item r)) → Levels place low q rows before now → Levels place low (q + 1) rows before (set now place row)
  levels_more q now row item le within read is so_far p r =
      let same = get_or-set_same now place row [] within in
      let was = get_or_default now place item [] within in
      grind (arith, nat_tests, get_or-set_other now place p row [], same, was, so_far p r, is r)

-- ---- counts of a range

-- the residues of a range lie in it
pub range_holds : (low high r : ℕ) → IsTrue (is_from_to low high r) → (low ≤ r) × (r < high)
range_holds low high r is = grind (arith, nat_tests)

-- the sums from a place on, for each residue of a range
abbrev pub sums_from : ℕ → ℕ → ℕ → List ℕ → List ℕ
sums_from from low high sums = take (from + high - (from + low)) (drop (from + low) sums)

module _ (sums : List ℕ) (from low high : ℕ) (order : low ≤ high) (within : from + high ≤ length sums) where
  pub sums_long : length (sums_from from low high sums) ≡ high - low
  sums_long =
      let rest = length-drop (from + low) sums in
      let long = length-take-le (from + high - (from + low)) (drop (from + low) sums) (omega (arith, rest, within)) in
      omega (arith, long)

  pub sums_each : (i : ℕ) → i < high - low → get_or (sums_from from low high sums) i 0 ≡ get_or sums (from + (low + i)) 0
  sums_each i l =
      let at : from + low + i ≡ from + (low + i) = omega arith in
      get_or-take (from + high - (from + low)) (drop (from + low) sums) i 0 (omega (arith, l)) ∙ get_or-drop (from + low) sums i 0 ∙ ap (λ k. get_or sums k 0) at

-- a count that stays moves by nothing
unmoved : (way : Way) (before after : ℕ) → after ≡ before → IsShifted way 0 before after
unmoved Out before after same = omega (arith, same)
unmoved In before after same = omega (arith, same)

-- the counts of a range of one end shift, and no others
module _ (T : ℕ) (before after : List ℕ) (number base low high : ℕ) (base_is : base ≡ number * T) (down up : List ℕ) (order : low ≤ high) (top : high ≤ T) (long : length down ≡ high - low) (shifted : AreShifted (base + low) down up before after) where
  shifted_here : (i : ℕ) → i < high - low → count_at T after number (low + i) + get_or down i 0 ≡ count_at T before number (low + i) + get_or up i 0
  shifted_here i l =
      let here = shifted.here i (omega (arith, long, l)) in
      let at : base + low + i ≡ number * T + (low + i) = omega (arith, base_is) in
      omega (arith, here, ap (λ k. get_or before k 0) at, ap (λ k. get_or after k 0) at)

  shifted_else : (k r : ℕ) → r < T → (k == number && is_from_to low high r) ≡ false → count_at T after k r ≡ count_at T before k r
  shifted_else k r rl out =
      shifted.elsewhere (k * T + r) (elim (cases_eq k number) [
        | inl same ↦ grind (arith, nat_tests, same, out, base_is, long, order)
        | inr apart ↦ let far = block_out T k number r apart rl in grind (arith, far, base_is, long, order, top)
      ])

-- the difference of two sums is what a window holds of what moves
module _ (T : ℕ) (D : ℕ → Bool) (sums : List ℕ) (end : End) (are : AreSums T D sums) (low high : ℕ) (order : low ≤ high) (top : high ≤ T) (first : end.first < T) (width : end.width ≤ T) (number base : ℕ) (base_is : base ≡ number * T) where
  abbrev below : List ℕ
  below = sums_from end.first low high sums

  abbrev above : List ℕ
  above = sums_from (end.first + end.width) low high sums

  abbrev held : ℕ → ℕ
  held r = supporters T D (passes T end r)

  long_below : length below ≡ high - low
  long_below = sums_long sums end.first low high order (omega (arith, are.long, top, first))

  long_above : length above ≡ high - low
  long_above = sums_long sums (end.first + end.width) low high order (omega (arith, are.long, top, first, width))

  differ : (i : ℕ) → i < high - low → (get_or above i 0 ≡ get_or below i 0 + held (low + i)) × (get_or below i 0 ≤ 2 * T)
  differ i l =
      let a = sums_each sums (end.first + end.width) low high order (omega (arith, are.long, top, first, width)) i l in
      let b = sums_each sums end.first low high order (omega (arith, are.long, top, first)) i l in
      let window = window_holds T D sums end (low + i) are (omega (arith, l, top)) first width in
      let sum = are.each (end.first + (low + i)) (omega (arith, l, top, first)) in
      let few = sum_le T D (end.first + (low + i)) in (
        omega (arith, a, b, window),
        omega (arith, b, sum, few, l, top, first),
      )

  -- the counts of the range can move by it
  module _ (way : Way) (most : ℕ) (counts : List ℕ) (small : 3 * T < 65536) (fits : T ≤ most) (able : (r : ℕ) → IsTrue (is_from_to low high r) → CanShift T way (held r) (count_at T counts number r)) where
    at : (i : ℕ) → get_or counts (base + low + i) 0 ≡ count_at T counts number (low + i)
    at i = let same : base + low + i ≡ number * T + (low + i) = omega (arith, base_is) in ap (λ k. get_or counts k 0) same

    can_at : (i : ℕ) → i < high - low → CanShift T way (held (low + i)) (count_at T counts number (low + i))
    can_at i l = able (low + i) (grind (arith, nat_tests, l))

    pub can_out : way ≡ Out → can.CanShift most (base + low) above below counts
    can_out is =
        record {
          small = λ i l. let n : i < high - low = omega (arith, l, long_above) in omega (arith, differ i n, rw is at (can_at i n), at i, small);
          some = λ i l. let n : i < high - low = omega (arith, l, long_above) in omega (arith, differ i n, rw is at (can_at i n), at i);
          low = λ i l. let n : i < high - low = omega (arith, l, long_above) in omega (arith, differ i n, rw is at (can_at i n), at i, fits);
        }

    pub can_in : way ≡ In → can.CanShift most (base + low) below above counts
    can_in is =
        record {
          small = λ i l. let n : i < high - low = omega (arith, l, long_below) in omega (arith, differ i n, rw is at (can_at i n), at i, small);
          some = λ i l. let n : i < high - low = omega (arith, l, long_below) in omega (arith, differ i n);
          low = λ i l. let n : i < high - low = omega (arith, l, long_below) in omega (arith, differ i n, rw is at (can_at i n), at i, fits);
        }

  -- the counts of the range move by it, and no others
  moves_so : (way : Way) (before after down up : List ℕ) → length down ≡ high - low → AreShifted (base + low) down up before after
      → ((i a b : ℕ) → i < high - low → a + get_or down i 0 ≡ b + get_or up i 0 → IsShifted way (held (low + i)) b a)
      → (k r : ℕ) → r < T → IsShifted way (cond (k == number && is_from_to low high r) (held r) 0) (count_at T before k r) (count_at T after k r)
  moves_so way before after down up long shifted so k r rl =
      elim (cases_Bool (k == number && is_from_to low high r)) [
        | inr out ↦ rw out (unmoved way (count_at T before k r) (count_at T after k r) (shifted_else T before after number base low high base_is down up order top long shifted k r rl out))
        | inl within ↦
            let (same, inside) = and_parts (k == number) (is_from_to low high r) within in
            let (le, lt) = range_holds low high r inside in
            let i : ℕ = r - low in
            let l : i < high - low = omega (arith, le, lt) in
            let is = so i (count_at T after number (low + i)) (count_at T before number (low + i)) l (shifted_here T before after number base low high base_is down up order top long shifted i l) in
            let at : low + i ≡ r = omega (arith, le) in
            rw (within, eqb-true k number same) (subst (λ s. IsShifted way (held s) (count_at T before number s) (count_at T after number s)) at is)
      ]

  module _ (before after : List ℕ) where
    pub moved_out : AreShifted (base + low) above below before after → (k r : ℕ) → r < T → IsShifted Out (cond (k == number && is_from_to low high r) (held r) 0) (count_at T before k r) (count_at T after k r)
    moved_out shifted = moves_so Out before after above below long_above shifted (λ i a b l e. omega (arith, e, differ i l))

    pub moved_in : AreShifted (base + low) below above before after → (k r : ℕ) → r < T → IsShifted In (cond (k == number && is_from_to low high r) (held r) 0) (count_at T before k r) (count_at T after k r)
    moved_in shifted = moves_so In before after below above long_below shifted (λ i a b l e. omega (arith, e, differ i l))

-- ---- counts along an activity

-- the sums are of what moves
pub sums_of : (T : ℕ) (moved : Moved) (sums : List ℕ) (D : ℕ → Bool) → IsMoved T moved sums D → AreSums T D sums
sums_of T (One residue) sums D is = is.2
sums_of T Block sums D is = is

-- a residue that does not go with what moves has no partner there
pub untouched : (T : ℕ) (ends : List End) (lists : List (List ℕ)) (p number : ℕ) (moved : Moved) (sums : List ℕ) (D : ℕ → Bool) (r : ℕ) → AreLinked T ends lists → Contains (ends_of lists p) number → IsMoved T moved sums D → r < T → is_touched T moved (end_at ends number) r ≡ false → partners T ends number D r ≡ 0
untouched T ends lists p number (One s) sums D r linked listed is rl out = partners_of_one T ends lists p number D s r linked listed is.0 rl is.1 ∙ ap one out
untouched T ends lists p number Block sums D r linked listed is rl out = absurd (false≢true (sym out))

-- a count that moves by nothing stays
pub still : (way : Way) (before after : ℕ) → IsShifted way 0 before after → after ≡ before
still Out before after is = omega (arith, is)
still In before after is = omega (arith, is)

-- of two ranges that lie apart a count moves in one
shifted_twice : (way : Way) (here i j t : Bool) (held before mid after : ℕ) → (i || j) ≡ t → (i ≡ true → j ≡ false) → (t ≡ false → held ≡ 0) → IsShifted way (cond (here && i) held 0) before mid → IsShifted way (cond (here && j) held 0) mid after → IsShifted way (cond here held 0) before after
shifted_twice Out here i j t held before mid after is apart none first second = grind arith
shifted_twice In here i j t held before mid after is apart none first second = grind arith

module _ (way : Way) (T : ℕ) (ends : List End) (number : ℕ) (D : ℕ → Bool) (w : Ranges) (order : w.wrapped ≤ w.start) (near far : End) (near_is : near ≡ end_at ends number) (far_is : far ≡ end_at ends near.mate) (before mid : List ℕ)
    (first : (k r : ℕ) → r < T → IsShifted way (cond (k == near.mate && is_from_to w.start w.end r) (supporters T D (passes T far r)) 0) (count_at T before k r) (count_at T mid k r)) where
  -- the counts of the second range can move still
  pub second_can : w.start ≤ T → CanMove way T ends number D before → (r : ℕ) → IsTrue (is_from_to 0 w.wrapped r) → CanShift T way (supporters T D (passes T far r)) (count_at T mid near.mate r)
  second_can top can r here =
      let (le, lt) = range_holds 0 w.wrapped r here in
      let rl : r < T = omega (arith, lt, order, top) in
      let none : (near.mate == near.mate && is_from_to w.start w.end r) ≡ false = grind (arith, nat_tests, lt, order) in
      let same = still way (count_at T before near.mate r) (count_at T mid near.mate r) (subst (λ b. IsShifted way (cond b (supporters T D (passes T far r)) 0) (count_at T before near.mate r) (count_at T mid near.mate r)) none (first near.mate r rl)) in
      rw (same, far_is, near_is) (can r rl)

  -- all counts moved
  pub along_both : (lists : List (List ℕ)) (p : ℕ) (moved : Moved) (sums after : List ℕ) → AreLinked T ends lists → Contains (ends_of lists p) number → IsMoved T moved sums D → ((s : ℕ) → s < T → in_ranges w s ≡ is_touched T moved near s)
      → ((k r : ℕ) → r < T → IsShifted way (cond (k == near.mate && is_from_to 0 w.wrapped r) (supporters T D (passes T far r)) 0) (count_at T mid k r) (count_at T after k r)) → MovesBy way T ends number D before after
  along_both lists p moved sums after linked listed is touched second k r rl =
      let none = untouched T ends lists p number moved sums D r linked listed is rl in
      rw (← near_is, ← far_is)
      (shifted_twice way (k == near.mate) (is_from_to w.start w.end r) (is_from_to 0 w.wrapped r) (is_touched T moved near r) (supporters T D (passes T far r)) (count_at T before k r) (count_at T mid k r) (count_at T after k r)
      (touched r rl) (λ inside. grind (arith, nat_tests, inside, order)) (rw (← near_is, ← far_is) at none) (first k r rl) (second k r rl))

-- one end less is to come, at which so many looks may be made
pub one_end : (T : ℕ) (these rest : List ℕ) (m : ℕ) → these ≡ m ∷ rest → T * length these ≡ T + T * length rest
one_end T these rest m is = let long = ap length is in rw long (let next : T * suc (length rest) ≡ T + T * length rest = omega arith in next)

-- counts alone change, and change again
pub only_then : (first second third : Supports) → OnlyCounts first second → OnlyCounts second third → OnlyCounts first third
only_then first second third h k =
    record {
      same = k.same ∙ ap (λ (s : Supports). record s { counts = third.counts; probes = third.probes }) h.same;
      long = k.long ∙ h.long;
      counts_on = omega (arith, h.counts_on, k.counts_on);
    }

-- ---- sums are made, the counts go by them, and what is counted is leveled

-- what may move
pub moves_on : (links : Links) (spared : Option ℕ) (s mid : Supports) (place : ℕ) (l : Moved) (way : Way) (from to : Pairs) (D : ℕ → Bool) → mid ≡ record s { sums = mid.sums } → AreExactBut links spared s from → IsMoved s.period l mid.sums D → Goes way from place D to → Moves links spared mid place l way from D to
moves_on links spared s mid place l way from to D made exact moved goes =
    record {
      exact = subst (λ (t : Supports). AreExactBut links spared t from) (sym made) exact;
      moved = subst (λ n. IsMoved n l mid.sums D) (sym (ap (λ (t : Supports). t.period) made)) moved;
      goes = goes;
    }

-- it has moved: the counts are of the other set, and what is counted at the place is what the rows hold there
pub record HasGone (links : Links) (spared : Option ℕ) (s t : Supports) (place : ℕ) (l : Moved) (D : ℕ → Bool) (to : Pairs) : Type 0 where
  pub rows : t.rows ≡ s.rows
  pub trail : t.trail ≡ s.trail
  pub shape : HaveSameShape s t
  pub moved : IsMoved t.period l t.sums D
  pub exact : AreExactBut links spared t to
  pub counted : (p r : ℕ) → has_at t.counted p r ≡ (if p == place && is_leveled s.period l r then has_at s.rows p r else has_at s.counted p r)
  pub probes : t.probes ≤ s.probes + s.period * length (ends_of links.lists place)

pub has_gone : (links : Links) (spared : Option ℕ) (s mid now t : Supports) (place : ℕ) (l : Moved) (way : Way) (from to : Pairs) (D : ℕ → Bool)
    → mid ≡ record s { sums = mid.sums } → now ≡ record mid { counts = now.counts; probes = now.probes } → t ≡ record now { counted = t.counted }
    → AreExactBut links spared s from → IsMoved s.period l mid.sums D → Goes way from place D to
    → ((from to : Pairs) (moves : ℕ → Bool) → Moves links spared mid place l way from moves to → AreExactBut links spared now to)
    → length now.counts ≡ length mid.counts → now.probes ≤ mid.probes + mid.period * length (ends_of links.lists place)
    → ((p r : ℕ) → has_at t.counted p r ≡ (if p == place && is_leveled now.period l r then has_at now.rows p r else has_at now.counted p r)) → length t.counted ≡ length now.counted
    → HasGone links spared s t place l D to
has_gone links spared s mid now t place l way from to D made went levels exact moved goes does long probes counted many =
    let now_is : now ≡ record s { counts = now.counts; sums = mid.sums; probes = now.probes } = went ∙ ap (λ (x : Supports). record x { counts = now.counts; probes = now.probes }) made in
    let is : t ≡ record s { counts = now.counts; counted = t.counted; sums = mid.sums; probes = now.probes } = levels ∙ ap (λ (x : Supports). record x { counted = t.counted }) now_is in
    let period = ap (λ (x : Supports). x.period) is in
    record {
      rows = ap (λ (x : Supports). x.rows) is;
      trail = ap (λ (x : Supports). x.trail) is;
      shape = record {
        period = period;
        counts = ap (λ (x : Supports). length x.counts) is ∙ long ∙ ap (λ (x : Supports). length x.counts) made;
        counted = many ∙ ap (λ (x : Supports). length x.counted) now_is;
        rows = ap (λ (x : Supports). length x.rows) is;
        room = ap (λ (x : Supports). x.room) is;
      };
      moved = rw (period, ap (λ (x : Supports). x.sums) is) moved;
      exact = subst (λ (x : Supports). AreExactBut links spared x to) (sym levels) (does from to D (moves_on links spared s mid place l way from to D made exact moved goes));
      counted = λ p r. counted p r ∙ ap (λ (x : Supports). if p == place && is_leveled x.period l r then has_at x.rows p r else has_at x.counted p r) now_is;
      probes = subst (λ (x : Supports). now.probes ≤ x.probes + x.period * length (ends_of links.lists place) → t.probes ≤ s.probes + s.period * length (ends_of links.lists place)) (sym made) (λ few. omega (arith, few, ap (λ (x : Supports). x.probes) is)) probes;
    }
