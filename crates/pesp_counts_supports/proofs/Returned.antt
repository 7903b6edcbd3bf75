-- Pairs of the trail come back.
use Rattle.std.proofs.Common.{◌≡◌, ◌≢◌, ℕ, ◌-◌, ◌<◌, ◌≤◌, ◌==◌, ◌&&◌, ◌||◌, Bool, false, List, [], ◌∷◌, ◌++◌, All, AllPairs, None, Some, length, get_or, take, drop, refl, sym, ap, subst, ◌∙◌, inl, inr, arith, IsTrue, append_assoc}
use Rattle.std.specs.List.{Contains}
use Rattle.std.proofs.lemmas.Bool.Decides.{nat_tests}
use Rattle.std.proofs.Math.Bool.{and-false, or-false}
use Rattle.std.proofs.Math.Seq.{drop-append_seam, drop-length, get_or-append_seam, take-append_seam}
use Rattle.std.proofs.lemmas.Bool.{and_parts, cases_Bool, eq-eqb}
use Rattle.std.proofs.lemmas.List.{append-nil, drop-append-le, get_or_append_left, get_or_default, length_push}
use Rattle.std.proofs.lemmas.List.Elements.{All-pop}
use Rattle.std.proofs.lemmas.List.Folds.{list_any-append}
use Rattle.pesp_domains.specs.Sweeps.{Of, Pairs}
use Rattle.pesp_domains.proofs.Families.{passing}
use Rattle.pesp_counts_arcs.specs.Ends.{end_at}
use Rattle.pesp_counts_arcs.specs.Links.{Links}
use Rattle.pesp_counts_supports.specs.declared.moving.Moved.{Moved}
use Rattle.pesp_counts_supports.specs.declared.moving.Moved.TheVariants.{One}
use Rattle.pesp_counts_supports.specs.declared.moving.Way.TheVariants.{In}
use Rattle.pesp_counts_supports.specs.declared.trail.Placed.{Placed}
use Rattle.pesp_counts_supports.specs.Blocks.{joined_block}
use Rattle.pesp_counts_supports.specs.Counts.{has_at}
use Rattle.pesp_counts_supports.specs.Moves.{leaves_of, Goes}
use Rattle.pesp_counts_supports.specs.Returning.{AreReturning, arrived}
use Rattle.pesp_counts_supports.specs.Supports.{AreExact, AreLevel, AreOut, HaveSameShape, Supports, is_in, joined}
use Rattle.pesp_counts_supports.proofs.Moved.{HasGone}
use Rattle.pesp_counts_supports.proofs.Parted.{stands_from, without_block}
use Rattle.pesp_counts_supports.proofs.Sifted.{below_long}
use Rattle.pesp_counts_supports.proofs.Settled.{leaves_gone, leaves_here, leaves_too, leveled}
use Rattle.pesp_counts_supports.proofs.Supporters.{supporters_same}
use Rattle.pesp_counts_supports.proofs.Taken.{found_in, shape_then}

-- ---- sets that hold the same

-- counts of one set are those of the other
pub exact_same : (links : Links) (s t : Supports) (S S' : Pairs) → t.period ≡ s.period → t.counts ≡ s.counts → ((p r : ℕ) → S' p r ≡ S p r) → AreExact links s S → AreExact links t S'
exact_same links s t S S' period counts same exact p k is =
    rw (period, counts)
    (λ r rl.
    let at : ℕ = (end_at links.ends k).looks_at in
    exact p k is r rl ∙ supporters_same s.period (S' at) (S at) _ _ (λ q ql. sym (same at q)) (λ q ql. refl))

-- pairs that are out of rows are out of the same rows
out_same : (s t : Supports) (xs ys : List Placed) → ys ≡ xs → t.rows ≡ s.rows → t.period ≡ s.period → AreOut s xs → AreOut t ys
out_same s t xs ys listed rows period out =
    rw listed
    (record {
      out = λ p r h. ap (λ zs. has_at zs p r) rows ∙ out.out p r h;
      within = rw rows out.within;
      below = rw period out.below;
      once = out.once;
    })

-- ---- what waits at a place

-- what waits at a place is counted in, and waits no more
module _ (links : Links) (start last : Supports) (mark place : ℕ) (D : ℕ → Bool) (returning : AreReturning links start mark) (waits : (r : ℕ) → IsTrue (D r) → Of (has_at start.counted) place r × (has_at start.rows place r ≡ false)) (rows : last.rows ≡ start.rows) (trail : last.trail ≡ start.trail) (counted : (p r : ℕ) → has_at last.counted p r ≡ without_block (has_at start.counted) place D p r) where
  abbrev X : List Placed
  X = drop mark start.trail

  pub arrives : (p r : ℕ) → arrived last (drop mark last.trail) p r ≡ joined_block (arrived start X) place D p r
  arrives p r =
      let now = ap (λ xs. has_at xs p r) rows in
      let listed = ap (λ xs. is_in (drop mark xs) p r) trail in
      grind (arith, nat_tests, now, listed, counted p r, waits r, returning.waiting p r)

  pub returning_on : AreExact links last (joined_block (arrived start X) place D) → HaveSameShape start last → AreReturning links last mark
  returning_on exact shape =
      record {
        exact = exact_same links last last (joined_block (arrived start X) place D) (arrived last (drop mark last.trail)) refl refl arrives exact;
        within = λ p r h.
            let was : Of (has_at start.rows) p r = ap (λ xs. has_at xs p r) (sym rows) ∙ h in
            grind (arith, nat_tests, counted p r, returning.within p r was, waits r);
        waiting = λ p r h out.
            let both = and_parts (has_at start.counted p r) _ (sym (counted p r) ∙ h) in
            ap (λ xs. is_in (drop mark xs) p r) trail ∙ returning.waiting p r both.0 (ap (λ xs. has_at xs p r) (sym rows) ∙ out);
        out = out_same start last (drop mark start.trail) (drop mark last.trail) (ap (drop mark) trail) rows shape.period returning.out;
      }

-- ---- the last pair of the trail

module _ (mark : ℕ) (now : Supports) (out : AreOut now (drop mark now.trail)) (rest : List Placed) (x : Placed) (is : now.trail ≡ rest ++ x ∷ []) (more : mark ≤ length rest) where
  left : drop mark now.trail ≡ drop mark rest ++ x ∷ []
  left = ap (drop mark) is ∙ drop-append-le mark rest (x ∷ []) more

  pub last_of : (p r : ℕ) → is_in (drop mark now.trail) p r ≡ (is_in (drop mark rest) p r || (x.place == p && x.residue == r))
  last_of p r =
      ap (λ xs. is_in xs p r) left
      ∙ list_any-append (λ y. y.place == p && y.residue == r) (drop mark rest) (x ∷ [])
      ∙ ap (λ b. is_in (drop mark rest) p r || b) (or-false (x.place == p && x.residue == r))

  other : (p r : ℕ) → IsTrue (is_in (drop mark rest) p r) → (x.place == p && x.residue == r) ≡ false
  other p r h =
      elim (cases_Bool (x.place == p && x.residue == r)) [
        | inr none ↦ none
        | inl same ↦
            let w = passing (λ y. y.place == p && y.residue == r) (drop mark rest) h in
            let equal : w.0 ≡ x = grind (arith, nat_tests, w.2) in
            let long = length_push (drop mark rest) x in
            let seam = get_or-append_seam (drop mark rest) x [] x in
            absurd
            (subst (AllPairs (λ y z. y ≢ z)) left out.once w.1.0 (length (drop mark rest)) x w.1.1 (omega (arith, long))
            (get_or_append_left (drop mark rest) (x ∷ []) x w.1.0 w.1.1 ∙ get_or_default (drop mark rest) w.1.0 x w.0 w.1.1 ∙ w.1.2 ∙ equal ∙ sym seam))
      ]

  -- it comes to the rows
  module _ (links : Links) (after : Supports) (returning : AreReturning links now mark) (counted_none : has_at now.counted x.place x.residue ≡ false) (rows : (p r : ℕ) → has_at after.rows p r ≡ joined (has_at now.rows) x.place x.residue p r) (counted : (p r : ℕ) → has_at after.counted p r ≡ joined (has_at now.counted) x.place x.residue p r) (trail : after.trail ≡ rest) (counts : after.counts ≡ now.counts) (shape : HaveSameShape now after) where
    arrives_last : (p r : ℕ) → arrived after (drop mark after.trail) p r ≡ arrived now (drop mark now.trail) p r
    arrives_last p r =
        let listed = ap (λ xs. is_in (drop mark xs) p r) trail in
        grind (arith, nat_tests, listed, rows p r, counted p r, last_of p r, counted_none)

    pub returning_last : AreReturning links after mark
    returning_last =
        record {
          exact = exact_same links now after (arrived now (drop mark now.trail)) (arrived after (drop mark after.trail)) shape.period counts arrives_last returning.exact;
          within = λ p r h. grind (arith, counted p r, rows p r, returning.within p r);
          waiting = λ p r h gone.
              let listed = ap (λ xs. is_in (drop mark xs) p r) trail in
              grind (arith, listed, rows p r, counted p r, last_of p r, returning.waiting p r);
          out = subst (λ xs. AreOut after (drop mark xs)) (sym trail)
              (record {
                out = λ p r h. grind (arith, rows p r, other p r h, out.out p r, last_of p r);
                within = rw shape.rows (All-pop (λ (y : Placed). y.place < length now.rows) (drop mark now.trail) (drop mark rest) (Some x) left out.within).0;
                below = rw shape.period (All-pop (λ (y : Placed). y.residue < now.period) (drop mark now.trail) (drop mark rest) (Some x) left out.below).0;
                once = λ i j d l m. rest_once i j d l m;
              });
        }
      where
        rest_once : (i j : ℕ) (d : Placed) → i < j → j < length (drop mark rest) → get_or (drop mark rest) i d ≢ get_or (drop mark rest) j d
        rest_once i j d l m =
            let long = length_push (drop mark rest) x in
            let all_once = subst (AllPairs (λ y z. y ≢ z)) left out.once in
            rw (sym (get_or_append_left (drop mark rest) (x ∷ []) d i (omega (arith, l, m))), sym (get_or_append_left (drop mark rest) (x ∷ []) d j m))
            (all_once i j d l (omega (arith, m, long)))

-- ---- one pair after another

-- so far the pairs of the trail's end are back, and those from the mark on are still to come
pub record AreBack (links : Links) (mark : ℕ) (before now : Supports) : Type 0 where
  pub back : List Placed
  pub trail : before.trail ≡ now.trail ++ back
  pub mark_within : mark ≤ length now.trail
  pub rows : (p r : ℕ) → has_at now.rows p r ≡ (has_at before.rows p r || is_in back p r)
  pub returning : AreReturning links now mark
  pub shape : HaveSameShape before now

-- before the first of them all wait
pub back_start : (links : Links) (mark : ℕ) (before now : Supports) → mark ≤ length before.trail → AreExact links before (has_at before.counted) → AreLevel before → AreOut before (drop mark before.trail)
    → ((p r : ℕ) → has_at now.counted p r ≡ (has_at before.counted p r || is_in (drop mark before.trail) p r)) → length now.counted ≡ length before.counted → now ≡ record before { counted = now.counted } → AreBack links mark before now
back_start links mark before now within exact level out counted long same =
    let rows : now.rows ≡ before.rows = ap (λ (s : Supports). s.rows) same in
    let trail : now.trail ≡ before.trail = ap (λ (s : Supports). s.trail) same in
    let period : now.period ≡ before.period = ap (λ (s : Supports). s.period) same in
    let was : (p r : ℕ) → has_at now.rows p r ≡ has_at before.rows p r = λ p r. ap (λ xs. has_at xs p r) rows in
    let listed : (p r : ℕ) → is_in (drop mark now.trail) p r ≡ is_in (drop mark before.trail) p r = λ p r. ap (λ xs. is_in (drop mark xs) p r) trail in
    record {
      back = [];
      trail = sym (append-nil before.trail) ∙ ap (λ xs. xs ++ []) (sym trail);
      mark_within = rw trail within;
      rows = λ p r. grind (arith, was p r);
      returning = record {
        exact = exact_same links before now (has_at before.counted) (arrived now (drop mark now.trail)) period (ap (λ (s : Supports). s.counts) same)
            (λ p r. grind (arith, was p r, listed p r, counted p r, level p r)) exact;
        within = λ p r h. grind (arith, was p r, counted p r, level p r);
        waiting = λ p r h gone. grind (arith, was p r, listed p r, counted p r, level p r);
        out = out_same before now (drop mark before.trail) (drop mark now.trail) (ap (drop mark) trail) rows period out;
      };
      shape = record { period = period; counts = ap (λ (s : Supports). length s.counts) same; counted = long; rows = ap length rows; room = ap (λ (s : Supports). s.room) same };
    }

-- one pair more
pub back_more : (links : Links) (mark : ℕ) (before now after : Supports) (x : Placed) → AreBack links mark before now → mark < length now.trail → now.trail ≡ after.trail ++ x ∷ [] → ((p r : ℕ) → has_at after.rows p r ≡ joined (has_at now.rows) x.place x.residue p r) → AreReturning links after mark → HaveSameShape now after → AreBack links mark before after
back_more links mark before now after x so_far more is rows returning shape =
    record {
      back = x ∷ so_far.back;
      trail = so_far.trail ∙ ap (λ xs. xs ++ so_far.back) is ∙ append_assoc after.trail (x ∷ []) so_far.back;
      mark_within = omega (arith, more, ap length is, length_push after.trail x);
      rows = λ p r. grind (arith, rows p r, so_far.rows p r);
      returning = returning;
      shape = shape_then before now after so_far.shape shape;
    }

-- all of them
module _ (links : Links) (mark : ℕ) (before now : Supports) (over : length now.trail ≤ mark) (h : AreBack links mark before now) where
  long : mark ≡ length now.trail
  long = omega (arith, over, h.mark_within)

  nothing : drop mark now.trail ≡ []
  nothing = ap (λ n. drop n now.trail) long ∙ drop-length now.trail

  pub back_trail : now.trail ≡ take mark before.trail
  back_trail = sym (ap (take mark) h.trail ∙ ap (λ n. take n (now.trail ++ h.back)) long ∙ take-append_seam now.trail h.back)

  pub back_rows : (p r : ℕ) → has_at now.rows p r ≡ (has_at before.rows p r || is_in (drop mark before.trail) p r)
  back_rows p r =
      let end : drop mark before.trail ≡ h.back = ap (drop mark) h.trail ∙ ap (λ n. drop n (now.trail ++ h.back)) long ∙ drop-append_seam now.trail h.back in
      h.rows p r ∙ ap (λ xs. has_at before.rows p r || is_in xs p r) (sym end)

  pub back_level : AreLevel now
  back_level p r =
      let none = ap (λ xs. is_in xs p r) nothing in
      grind (arith, none, h.returning.within p r, h.returning.waiting p r)

  pub back_exact : AreExact links now (has_at now.counted)
  back_exact =
      exact_same links now now (arrived now (drop mark now.trail)) (has_at now.counted) refl refl
      (λ p r. let none = ap (λ xs. is_in xs p r) nothing in grind (arith, none, back_level p r)) h.returning.exact

-- ---- the end of the trail

-- the last pair by its place is the last one
pub last_pair : (trail rest : List Placed) (x y d : Placed) → trail ≡ rest ++ y ∷ [] → get_or trail (length trail - 1) d ≡ x → x ≡ y
last_pair trail rest x y d is at =
    let where_is : length trail - 1 ≡ length rest = omega (arith, ap length is, length_push rest y) in
    sym at ∙ ap (λ n. get_or trail n d) where_is ∙ ap (λ xs. get_or xs (length rest) d) is ∙ get_or-append_seam rest y [] d

-- a pair of those that are out of the rows is of a row, below the period, and out of the rows
pub known_of : (s : Supports) (xs : List Placed) (x : Placed) → AreOut s xs → Contains xs x → (x.place < length s.rows) × (x.residue < s.period) × (has_at s.rows x.place x.residue ≡ false)
known_of s xs x out (k, l, e) =
    (subst (λ (y : Placed). y.place < length s.rows) e (out.within k x l), subst (λ (y : Placed). y.residue < s.period) e (out.below k x l), out.out x.place x.residue (found_in xs x (k, l, e)))

-- what is known of the last pair of the trail, as it is read
pub known_last : (mark : ℕ) (s : Supports) (x : Placed) (items : List Placed) (n : ℕ) → items ≡ s.trail → n ≡ length items → x ≡ get_or items (n - 1) x → mark < length s.trail → AreOut s (drop mark s.trail)
    → (get_or s.trail (length s.trail - 1) x ≡ x) × (x.place < length s.rows) × (x.residue < s.period) × (has_at s.rows x.place x.residue ≡ false)
known_last mark s x items n trail long read within out =
    let at : get_or s.trail (length s.trail - 1) x ≡ x = ap (λ xs. get_or xs (length xs - 1) x) (sym trail) ∙ ap (λ i. get_or items (i - 1) x) (sym long) ∙ sym read in
    let known = known_of s (drop mark s.trail) x out (stands_from s.trail mark (length s.trail - 1) x (omega (arith, within)) (omega (arith, within)) at) in
    (at, known.0, known.1, known.2)

-- ---- the pair is counted in with what waits at its place

module _ (links : Links) (start : Supports) (mark : ℕ) (pair : Placed) (l : Moved) (returning : AreReturning links start mark) (there : Of (has_at start.counted) pair.place pair.residue) (out : has_at start.rows pair.place pair.residue ≡ false) (alone : (residue : ℕ) → l ≡ One residue → residue ≡ pair.residue) where
  abbrev S : Pairs
  S = arrived start (drop mark start.trail)

  abbrev D : ℕ → Bool
  D = leaves_of start pair.place l

  waits : (r : ℕ) → IsTrue (D r) → Of (has_at start.counted) pair.place r × (has_at start.rows pair.place r ≡ false)
  waits r h = (leaves_here start pair.place pair.residue l alone there r h, leaves_gone start pair.place pair.residue l alone out r h)

  -- the set that the counts are of is to have it too
  pub comes_now : Goes In S pair.place D (joined_block S pair.place D)
  comes_now = record { apart = λ r h. grind (arith, waits r h); joined = λ q r. refl }

  pub counted_now : (last : Supports) → HasGone links None start last pair.place l D (joined_block S pair.place D) → All (λ row. length row ≡ start.period) start.counted → AreReturning links last mark × (has_at last.counted pair.place pair.residue ≡ false)
  counted_now last v long =
      let without = leveled start pair.place l (has_at last.counted) (λ r h. below_long start.counted start.period pair.place r long h) (returning.within pair.place) (λ r h. (waits r h).1) v.counted in
      let itself = leaves_too start pair.place pair.residue l alone there out in (
        returning_on links start last mark pair.place D returning waits v.rows v.trail without (λ q k is. v.exact q k is refl) v.shape,
        without pair.place pair.residue ∙ rw (eq-eqb pair.place pair.place refl, itself) (and-false (has_at start.counted pair.place pair.residue)),
      )
