-- The trail, and what the marks of pushes say of it.
use Rattle.std.proofs.Common.{◌≡◌, ℕ, ◌<◌, ◌==◌, ◌&&◌, Bool, List, length, get_or, All, sym, ap, subst, ◌∙◌, arith, IsTrue, ◌||◌, ◌++◌}
use Rattle.std.specs.List.{Contains}
use Rattle.std.proofs.lemmas.Bool.{false≢true}
use Rattle.std.proofs.lemmas.List.Elements.{All-append, Contains-get_or}
use Rattle.std.proofs.lemmas.List.Folds.{list_any-append}
use Rattle.pesp_domains.specs.Sweeps.{Of, Pairs, narrowed_to}
use Rattle.pesp_counts_supports.specs.declared.trail.Placed.{Placed}
use Rattle.pesp_counts_supports.specs.Counts.{ArePending, KeepsClosed, has_at}
use Rattle.pesp_counts_supports.specs.Resting.{AreAtRest, AreLive, IsNarrowed}
use Rattle.pesp_counts_arcs.specs.Links.{Links}
use Rattle.pesp_counts_supports.specs.Supports.{AreExact, AreLevel, AreOut, HaveSameShape, IsTaken, Keeps, Supports, is_in}
use Rattle.pesp_counts_supports.proofs.Taken.{found_in, kept_shape, level_after, once_then, shape_then, taken_fewer, taken_then, gone_at}
use Rattle.pesp_counts_supports.proofs.Rows.{within_rows}

all_members : (P : Placed → Type 0) (xs : List Placed) → ((x : Placed) → Contains xs x → P x) → All P xs
all_members P xs each k d l = each (get_or xs k d) (Contains-get_or xs k d l)

-- taking pairs out keeps what is true of the trail
pub out_more : (before after : Supports) → AreOut before before.trail → ((p r : ℕ) → Of (has_at before.rows) p r → r < before.period) → HaveSameShape before after → IsTaken before after → AreOut after after.trail
out_more before after h below shape taken =
    let was : (x : Placed) → Contains taken.more x → IsTrue (has_at before.rows x.place x.residue) = λ x i. grind (arith, taken.parted x.place x.residue, found_in taken.more x i) in
    let both : (p r : ℕ) → is_in (before.trail ++ taken.more) p r ≡ (is_in before.trail p r || is_in taken.more p r) = λ p r. list_any-append (λ (x : Placed). x.place == p && x.residue == r) before.trail taken.more in
    rw taken.trail
    (record {
      out = λ p r i. grind (arith, both p r, h.out p r, taken.out p r, taken.parted p r);
      within = All-append (λ x. x.place < length after.rows) before.trail taken.more
          (λ i d l. let w = h.within i d l in omega (arith, w, shape.rows))
          (all_members (λ x. x.place < length after.rows) taken.more (λ x i. let w = within_rows before.rows x.place x.residue (was x i) in omega (arith, w, shape.rows)));
      below = All-append (λ x. x.residue < after.period) before.trail taken.more
          (λ i d l. let w = h.below i d l in omega (arith, w, shape.period))
          (all_members (λ x. x.residue < after.period) taken.more (λ x i. let w = below x.place x.residue (was x i) in omega (arith, w, shape.period)));
      once = once_then before.trail taken.more h.once taken.once (λ x i j. false≢true (sym (h.out x.place x.residue (found_in before.trail x i)) ∙ was x j));
    })

-- ---- counting out

-- what was taken out of rows waits
pub pending_from : (links : Links) (s m : Supports) → AreExact links s (has_at s.counted) → AreLevel s → AreLive links m → IsTaken s m → Keeps s m → ArePending m.period links.ends links.lists m.counts (has_at m.counted) (has_at m.rows) m.trail (length s.trail)
pending_from links s m exact level live taken keeps =
    record {
      exact = λ p k is. rw (keeps.period, keeps.counts, keeps.counted) (exact p k is);
      live = live;
      within = λ p r here. ap (λ rows. has_at rows p r) keeps.counted ∙ level p r ∙ taken_fewer s m taken p r here;
      waiting = λ p r here gone. gone_at s m taken p r (sym (level p r) ∙ ap (λ rows. has_at rows p r) (sym keeps.counted) ∙ here) gone;
    }

-- and so does what was taken out of rows at rest
pub rest_pending : (links : Links) (s m : Supports) → AreAtRest links s → IsTaken s m → Keeps s m → ArePending m.period links.ends links.lists m.counts (has_at m.counted) (has_at m.rows) m.trail (length s.trail)
rest_pending links s m h taken keeps =
    pending_from links s m h.exact h.level
    (λ p k is. rw (keeps.period, keeps.counts) (λ r rl here. h.live p k is r rl (taken_fewer s m taken p r here))) taken keeps

-- with nothing waiting they are at rest
pub pending_rest : (links : Links) (m n : Supports) → n.period ≡ m.period → ((p r : ℕ) → Of (has_at n.rows) p r → r < n.period) → AreOut n n.trail → ArePending m.period links.ends links.lists n.counts (has_at n.counted) (has_at n.rows) n.trail (length n.trail) → AreAtRest links n
pending_rest links m n period below out pending =
    record {
      exact = λ p k is. rw period (pending.exact p k is);
      live = λ p k is. rw period (pending.live p k is);
      level = level_after m.period links.ends links.lists n.counts (has_at n.counted) (has_at n.rows) n.trail (length n.trail) (omega arith) pending;
      below = below;
      out = out;
    }

-- what keeps closed sets of one set keeps them of a like one
pub keeps_like : (links : Links) (period period' : ℕ) (S S' R : Pairs) → period' ≡ period → ((p r : ℕ) → S' p r ≡ S p r) → KeepsClosed period' links.ends links.lists S' R → KeepsClosed period links.ends links.lists S R
keeps_like links period period' S S' R same like keeps =
    let k : KeepsClosed period links.ends links.lists S' R = subst (λ n. KeepsClosed n links.ends links.lists S' R) same keeps in
    record {
      fewer = λ p r h. sym (like p r) ∙ k.fewer p r h;
      keeps = λ R' closed within. k.keeps R' closed (λ p r h. like p r ∙ within p r h);
    }

-- the pairs of a place that do not pass a test go, and what is left without a partner
pub narrowed : (links : Links) (s m n : Supports) (p : ℕ) (test : ℕ → Bool) → AreAtRest links s → ((q r : ℕ) → has_at m.rows q r ≡ narrowed_to (has_at s.rows) p test q r) → IsTaken s m → Keeps s m
    → ArePending m.period links.ends links.lists n.counts (has_at n.counted) (has_at n.rows) n.trail (length n.trail) → KeepsClosed m.period links.ends links.lists (has_at m.rows) (has_at n.rows) → IsTaken m n → HaveSameShape m n → IsNarrowed links p test s n
narrowed links s m n p test h rows taken keeps pending closed more shape =
    let both = taken_then s m n taken more in
    let whole = shape_then s m n (kept_shape s m keeps) shape in
    record {
      rest = pending_rest links m n shape.period (λ q r i. let l = h.below q r (taken_fewer s n both q r i) in omega (arith, l, whole.period)) (out_more s n h.out h.below whole both) pending;
      taken = both;
      shape = whole;
      keeps = keeps_like links s.period m.period (narrowed_to (has_at s.rows) p test) (has_at m.rows) (has_at n.rows) keeps.period rows closed;
    }
