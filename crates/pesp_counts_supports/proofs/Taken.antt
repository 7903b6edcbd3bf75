-- What taking pairs out does, one pair after another.
use Rattle.std.proofs.Common.{◌≡◌, ◌≢◌, ℕ, ◌+◌, ◌-◌, ◌<◌, ◌≤◌, ◌==◌, ◌&&◌, ◌||◌, true, false, List, [], ◌∷◌, ◌++◌, length, get_or, refl, sym, ap, subst, ◌∙◌, inl, inr, arith, IsTrue, AllPairs, append_assoc}
use Rattle.std.proofs.lemmas.Bool.Decides.{nat_tests}
use Rattle.std.proofs.Math.Bool.{or-false as or_none}
use Rattle.std.specs.List.{Contains}
use Rattle.std.proofs.lemmas.Bool.{cases_Bool, cases_lt, false≢true}
use Rattle.std.proofs.lemmas.List.{append-nil, get_or_append_left, get_or-append-add, get_or-append_right, length-append}
use Rattle.std.proofs.lemmas.List.Elements.{Contains-get_or}
use Rattle.std.proofs.lemmas.List.Folds.{list_any-append, list_any_at}
use Rattle.pesp_domains.specs.Removals.{without}
use Rattle.pesp_domains.specs.Sweeps.{Of, Pairs}
use Rattle.pesp_domains.proofs.Families.{passing}
use Rattle.pesp_counts_arcs.specs.declared.end.End.{End}
use Rattle.pesp_counts_supports.specs.declared.trail.Placed.{Placed}
use Rattle.pesp_counts_supports.specs.Counts.{ArePending, KeepsClosed, has_at}
use Rattle.pesp_counts_arcs.specs.Links.{Links}
use Rattle.pesp_counts_supports.specs.Supports.{Fit, HaveSameShape, IsTaken, Keeps, OnlyTakes, Supports, is_in}

-- ---- members of a trail

is_placed : (x : Placed) (p r : ℕ) → (x.place == p && x.residue == r) ≡ true → x ≡ record { place = p; residue = r }
is_placed x p r e = grind (arith, nat_tests)

-- a pair that is in the list by the test stands in it
pub stands_in : (xs : List Placed) (p r : ℕ) → IsTrue (is_in xs p r) → Contains xs (record { place = p; residue = r })
stands_in xs p r h =
    let w = passing (λ (x : Placed). x.place == p && x.residue == r) xs h in
    subst (Contains xs) (is_placed w.0 p r w.2) w.1

-- and the other way round
pub found_in : (xs : List Placed) (x : Placed) → Contains xs x → IsTrue (is_in xs x.place x.residue)
found_in xs x (k, l, e) = list_any_at (λ (y : Placed). y.place == x.place && y.residue == x.residue) xs k x l (grind (arith, nat_tests, e))

-- two lists of pairs of which none is in both
pub once_then : (xs ys : List Placed) → AllPairs (λ x y. x ≢ y) xs → AllPairs (λ x y. x ≢ y) ys → ((x : Placed) → Contains xs x → Contains ys x → ⊥) → AllPairs (λ x y. x ≢ y) (xs ++ ys)
once_then xs ys first later apart i j d lt within =
    let long = length-append xs ys in
    elim (cases_lt j (length xs)) [
      | inl both ↦
          rw (get_or_append_left xs ys d i (omega (arith, lt, both)), get_or_append_left xs ys d j both) (first i j d lt both)
      | inr over ↦
          rw (get_or-append_right xs ys (length xs) j d refl over)
          (elim (cases_lt i (length xs)) [
            | inl low ↦
                rw (get_or_append_left xs ys d i low)
                (λ same. apart (get_or xs i d) (Contains-get_or xs i d low)
                (subst (Contains ys) (sym same) (Contains-get_or ys (j - length xs) d (omega (arith, over, within, long)))))
            | inr high ↦
                rw (get_or-append_right xs ys (length xs) i d refl high)
                (later (i - length xs) (j - length xs) d (omega (arith, lt, high)) (omega (arith, over, within, long)))
          ])
    ]

-- ---- the rows and the trail

-- nothing is taken
pub taken_same : (before after : Supports) → after.trail ≡ before.trail → ((p r : ℕ) → has_at after.rows p r ≡ has_at before.rows p r) → IsTaken before after
taken_same before after trail rows =
    record {
      more = [];
      trail = trail ∙ sym (append-nil before.trail);
      parted = λ p r. sym (rows p r) ∙ sym (or_none (has_at after.rows p r));
      out = λ p r h. absurd (false≢true h);
      once = λ i j d lt within. absurd (omega (arith, within));
    }

pub taken_none : (s : Supports) → IsTaken s s
taken_none s = taken_same s s refl (λ p r. refl)

-- one pair is taken
pub taken_one : (before after : Supports) (place residue : ℕ) → Of (has_at before.rows) place residue → after.trail ≡ before.trail ++ record { place = place; residue = residue } ∷ [] → ((p r : ℕ) → has_at after.rows p r ≡ without (has_at before.rows) place residue p r) → IsTaken before after
taken_one before after place residue here trail rows =
    record {
      more = record { place = place; residue = residue } ∷ [];
      trail = trail;
      parted = λ p r. grind (arith, nat_tests, rows p r);
      out = λ p r h. grind (arith, nat_tests, rows p r);
      once = λ i j d lt within. absurd (omega (arith, lt, within));
    }

-- a pair that is in the rows after was in them before
pub taken_fewer : (before after : Supports) → IsTaken before after → (p r : ℕ) → Of (has_at after.rows) p r → Of (has_at before.rows) p r
taken_fewer before after taken p r h = taken.parted p r ∙ rw h refl

-- a pair that is taken stands in the new part of the trail
pub gone_at : (before after : Supports) → IsTaken before after → (q r : ℕ) → Of (has_at before.rows) q r → has_at after.rows q r ≡ false → (i : ℕ) × (length before.trail ≤ i) × (i < length after.trail) × (get_or after.trail i (record { place = q; residue = r }) ≡ record { place = q; residue = r })
gone_at before after taken q r there out =
    let x : Placed = record { place = q; residue = r } in
    let long = ap length taken.trail ∙ length-append before.trail taken.more in
    let now : is_in taken.more q r ≡ true = sym (rw out refl) ∙ sym (taken.parted q r) ∙ there in
    let w = stands_in taken.more q r now in
    (length before.trail + w.0, omega arith, omega (arith, long, w.1), ap (λ xs. get_or xs (length before.trail + w.0) x) taken.trail ∙ get_or-append-add before.trail taken.more w.0 x ∙ w.2)

-- and one that stood in the trail still stands there
pub still_at : (before after : Supports) → IsTaken before after → (i : ℕ) (x : Placed) → i < length before.trail → get_or before.trail i x ≡ x → (i < length after.trail) × (get_or after.trail i x ≡ x)
still_at before after taken i x within at =
    let long = ap length taken.trail ∙ length-append before.trail taken.more in
    (omega (arith, within, long), ap (λ xs. get_or xs i x) taken.trail ∙ get_or_append_left before.trail taken.more x i within ∙ at)

-- pairs are taken, and then others
pub taken_then : (first second third : Supports) → IsTaken first second → IsTaken second third → IsTaken first third
taken_then first second third h k =
    let both : (p r : ℕ) → is_in (h.more ++ k.more) p r ≡ (is_in h.more p r || is_in k.more p r) = λ p r. list_any-append (λ (x : Placed). x.place == p && x.residue == r) h.more k.more in
    record {
      more = h.more ++ k.more;
      trail = k.trail ∙ ap (λ xs. xs ++ k.more) h.trail ∙ append_assoc first.trail h.more k.more;
      parted = λ p r. grind (arith, h.parted p r, k.parted p r, both p r);
      out = λ p r i. grind (arith, h.out p r, k.out p r, k.parted p r, both p r);
      once = once_then h.more k.more h.once k.once
          (λ x i j. grind (arith, h.out x.place x.residue (found_in h.more x i), k.parted x.place x.residue, found_in k.more x j));
    }

-- ---- what else stays

pub keeps_none : (period : ℕ) (ends : List End) (lists : List (List ℕ)) (S : Pairs) → KeepsClosed period ends lists S S
keeps_none period ends lists S = record { fewer = λ p r h. h; keeps = λ R closed within p r h. within p r h }

pub keeps_then : (period : ℕ) (ends : List End) (lists : List (List ℕ)) (first second third : Pairs) → KeepsClosed period ends lists first second → KeepsClosed period ends lists second third → KeepsClosed period ends lists first third
keeps_then period ends lists first second third h k =
    record {
      fewer = λ p r i. h.fewer p r (k.fewer p r i);
      keeps = λ R closed within. k.keeps R closed (h.keeps R closed within);
    }

pub shape_none : (s : Supports) → HaveSameShape s s
shape_none s = record { period = refl; counts = refl; counted = refl; rows = refl; room = refl }

pub shape_then : (first second third : Supports) → HaveSameShape first second → HaveSameShape second third → HaveSameShape first third
shape_then first second third h k =
    record {
      period = k.period ∙ h.period;
      counts = k.counts ∙ h.counts;
      counted = k.counted ∙ h.counted;
      rows = k.rows ∙ h.rows;
      room = k.room ∙ h.room;
    }

-- sums alone
pub resummed : (now one : Supports) → one ≡ record now { sums = one.sums } → HaveSameShape now one
resummed now one same = subst (HaveSameShape now) (sym same) (record { period = refl; counts = refl; counted = refl; rows = refl; room = refl })

-- what fits still does
pub fit_then : (links : Links) (first second : Supports) → HaveSameShape first second → Fit links first → Fit links second
fit_then links first second h fit =
    record {
      linked = rw h.period fit.linked;
      rows = λ p k is. rw h.rows (fit.rows p k is);
      counted = λ p k is. rw h.counted (fit.counted p k is);
      counts = λ p k is. rw (h.counts, h.period) (fit.counts p k is);
    }

pub kept_none : (s : Supports) → Keeps s s
kept_none s = record { period = refl; counts = refl; counted = refl; many = refl; room = refl; sums = refl }

pub kept_then : (first second third : Supports) → Keeps first second → Keeps second third → Keeps first third
kept_then first second third h k =
    record {
      period = k.period ∙ h.period;
      counts = k.counts ∙ h.counts;
      counted = k.counted ∙ h.counted;
      many = k.many ∙ h.many;
      room = k.room ∙ h.room;
      sums = k.sums ∙ h.sums;
    }

pub kept_shape : (first second : Supports) → Keeps first second → HaveSameShape first second
kept_shape first second h =
    record { period = h.period; counts = ap length h.counts; counted = ap length h.counted; rows = h.many; room = h.room }

pub takes_none : (s : Supports) → OnlyTakes s s
takes_none s = record { taken = taken_none s; keeps = kept_none s; probes = refl }

pub takes_then : (first second third : Supports) → OnlyTakes first second → OnlyTakes second third → OnlyTakes first third
takes_then first second third h k =
    record { taken = taken_then first second third h.taken k.taken; keeps = kept_then first second third h.keeps k.keeps; probes = k.probes ∙ h.probes }

-- ---- with nothing waiting

-- the counts have seen the rows
pub level_after : (period : ℕ) (ends : List End) (lists : List (List ℕ)) (counts : List ℕ) (counted rows : Pairs) (trail : List Placed) (next : ℕ) → length trail ≤ next → ArePending period ends lists counts counted rows trail next → (p r : ℕ) → counted p r ≡ rows p r
level_after period ends lists counts counted rows trail next done pending p r =
    elim (cases_Bool (counted p r)) [
      | inr none ↦ grind (arith, pending.within p r)
      | inl seen ↦ grind (arith, pending.within p r, pending.waiting p r seen)
    ]
