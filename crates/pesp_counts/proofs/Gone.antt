-- The pairs that an edit took out, and the probes that it made.
use Rattle.std.proofs.Common.{◌-◌, ◌≡◌, ℕ, ◌+◌, ◌*◌, ◌≤◌, ◌⊎◌, ◌==◌, ◌&&◌, ◌||◌, false, List, [], ◌∷◌, ◌++◌, Option, Some, None, length, refl, sym, ap, subst, ◌∙◌, inl, inr, arith, IsTrue}
use Rattle.std.specs.List.{Contains}
use Rattle.std.proofs.lemmas.Bool.{and_from, and_parts, cases_eq, eq-eqb, false≢true, ne_eqb, eqb-true, or_cases, or_left, or_right}
use Rattle.std.proofs.Math.Nat.{add-mul}
use Rattle.pesp_instance.specs.Network.{Network}
use Rattle.pesp_domains.specs.Domains.{own}
use Rattle.pesp_domains.specs.Sweeps.{Of, Pairs}
use Rattle.pesp_domains.proofs.Families.{here}
use Rattle.pesp_counts_supports.specs.declared.trail.Placed.{Placed}
use Rattle.pesp_counts_arcs.specs.Ends.{ends_of}
use Rattle.pesp_counts_supports.specs.Counts.{IsClosed, KeepsClosed, has_at}
use Rattle.pesp_counts_arcs.specs.Links.{Links, StandFor}
use Rattle.pesp_counts_arcs.specs.Places.{place_of}
use Rattle.pesp_counts_supports.specs.Supports.{IsRoomier, IsTaken, Supports, is_in}
use Rattle.pesp_counts.specs.declared.keeper.change.PlacedEvent.{PlacedEvent}
use Rattle.pesp_counts.specs.Changes.{left}
use Rattle.pesp_counts.specs.Works.{IsWorked}
use Rattle.pesp_counts_supports.specs.Spent.{ends_at}

-- ---- only pairs at places of events go

-- the pairs of one place
abbrev pairs_at : ℕ → Pairs → Pairs
pairs_at place S p r = p == place && S p r

-- where no end is listed, each pair has all partners that are asked of it
none_asked : (links : Links) (period place : ℕ) (S : Pairs) → ends_of links.lists place ≡ [] → IsClosed period links.ends links.lists (pairs_at place S)
none_asked links period place S none =
    record {
      each = λ p r k h is.
          let same = eqb-true p place (and_parts (p == place) (S p r) h).0 in
          let listed : Contains [] k = subst (λ xs. Contains xs k) none (subst (λ q. Contains (ends_of links.lists q) k) same is) in
          absurd (let l = listed.1 in omega (arith, l));
    }

pub gone_placed : (I : Network) (links : Links) (period : ℕ) (before after : Pairs) → StandFor I links → KeepsClosed period links.ends links.lists before after → (p r : ℕ) → Of before p r → after p r ≡ false → (e : ℕ) × (place_of links.events e ≡ Some p)
gone_placed I links period before after stand keeps p r was out = by (ends_of links.lists p) refl
  where
    by : (xs : List ℕ) → ends_of links.lists p ≡ xs → (e : ℕ) × (place_of links.events e ≡ Some p)
    by [] none =
        let within : (q s : ℕ) → Of (pairs_at p before) q s → Of before q s = λ q s h. (and_parts (q == p) (before q s) h).1 in
        let stays = keeps.keeps (pairs_at p before) (none_asked links period p before none) within p r (and_from (p == p) (before p r) (eq-eqb p p refl) was) in
        absurd (false≢true (sym out ∙ stays))
    by (k ∷ ks) some =
        let l = stand.only p k (subst (λ xs. Contains xs k) (sym some) (here k ks)) in
        (own l.side l.activity, l.is_end.at)

-- nor where the residues that a window does not leave went first
pub left_placed : (J : Network) (links : Links) (period : ℕ) (limited : Option PlacedEvent) (before after : Pairs) → StandFor J links → ((w : PlacedEvent) → limited ≡ Some w → place_of links.events w.event ≡ Some w.place) → KeepsClosed period links.ends links.lists (left J limited before) after → (p r : ℕ) → Of before p r → after p r ≡ false → (e : ℕ) × (place_of links.events e ≡ Some p)
left_placed J links period None before after stand at keeps p r was out = gone_placed J links period before after stand keeps p r was out
left_placed J links period (Some w) before after stand at keeps p r was out =
    elim (cases_eq p w.place) [
      | inl same ↦ (w.event, at w refl ∙ ap (λ q. Some q) (sym same))
      | inr apart ↦ gone_placed J links period (left J (Some w) before) after stand keeps p r (rw (was, ne_eqb p w.place apart) refl) out
    ]

-- ---- the trail of an edit

-- what was taken out of the rows, after a list of pairs came to them
module _ (links : Links) (s m n : Supports) (back : List Placed) (empty : s.trail ≡ []) (trail : m.trail ≡ s.trail) (rows : (p r : ℕ) → has_at m.rows p r ≡ (has_at s.rows p r || is_in back p r)) (taken : IsTaken m n) where
  trail_is : n.trail ≡ taken.more
  trail_is = taken.trail ∙ ap (λ xs. xs ++ taken.more) (trail ∙ empty)

  pub worked_gone : (p r : ℕ) → Of (has_at s.rows) p r ⊎ IsTrue (is_in back p r) → has_at n.rows p r ≡ false → IsTrue (is_in n.trail p r)
  worked_gone p r h out =
      let was : IsTrue (has_at m.rows p r) = rows p r ∙ (elim h [ inl was ↦ or_left (has_at s.rows p r) _ was | inr came ↦ or_right _ (is_in back p r) came ]) in
      let more : IsTrue (is_in taken.more p r) = ap (λ b. b || is_in taken.more p r) (sym out) ∙ sym (taken.parted p r) ∙ was in
      subst (λ xs. IsTrue (is_in xs p r)) (sym trail_is) more

  pub worked_in : (p r : ℕ) → IsTrue (is_in n.trail p r) → Of (has_at m.rows) p r × (has_at n.rows p r ≡ false)
  worked_in p r i =
      let more = subst (λ xs. IsTrue (is_in xs p r)) trail_is i in
      (taken.parted p r ∙ or_right (has_at n.rows p r) _ more, taken.out p r more)

  pub worked_is : ((p r : ℕ) → Of (has_at m.rows) p r → has_at n.rows p r ≡ false → (e : ℕ) × (place_of links.events e ≡ Some p))
      → n.probes ≤ s.probes + 8 * s.period + 2 * s.period * ends_at links back + s.period * length back + s.period * ends_at links n.trail
      → IsWorked links s n back
  worked_is placed probes =
      record {
        gone = worked_gone;
        only = λ p r i. or_cases (has_at s.rows p r) (is_in back p r) (sym (rows p r) ∙ (worked_in p r i).0);
        placed = λ p r i. placed p r (worked_in p r i).0 (worked_in p r i).1;
        probes = probes;
      }

-- the rows have what they had, and nothing was taken out
pub worked_none : (links : Links) (s n : Supports) → n.trail ≡ [] → ((p r : ℕ) → Of (has_at s.rows) p r → Of (has_at n.rows) p r) → n.probes ≤ s.probes → IsWorked links s n []
worked_none links s n empty more probes =
    record {
      gone = λ p r h out. elim h [
        | inl was ↦ absurd (false≢true (sym out ∙ more p r was))
        | inr none ↦ absurd (false≢true none)
      ];
      only = λ p r i. absurd (false≢true (subst (λ xs. IsTrue (is_in xs p r)) empty i));
      placed = λ p r i. absurd (false≢true (subst (λ xs. IsTrue (is_in xs p r)) empty i));
      probes = omega (arith, probes);
    }

-- where rows and counts came first, of which nothing is seen
pub worked_grown : (links : Links) (s m n : Supports) (back : List Placed) → IsRoomier s m → IsWorked links m n back → IsWorked links s n back
worked_grown links s m n back more w =
    record {
      gone = λ p r h out. w.gone p r (elim h [ inl was ↦ inl (more.rows p r ∙ was) | inr came ↦ inr came ]) out;
      only = λ p r i. elim (w.only p r i) [ inl was ↦ inl (sym (more.rows p r) ∙ was) | inr came ↦ inr came ];
      placed = w.placed;
      probes = rw (← more.period, ← more.probes) w.probes;
    }

-- ---- probes

-- those of a pass that puts pairs back, and of the look at each of them afterwards
one_less : (T ends : ℕ) → 1 ≤ T → 2 * T * ends ≡ (2 * T - 1) * ends + ends
one_less T ends some =
    let long : 2 * T ≡ (2 * T - 1) + 1 = omega (arith, some) in
    let a = ap (λ n. n * ends) long in
    let b = add-mul (2 * T - 1) 1 ends in
    omega (arith, a, b)

-- and of the ends that were counted anew
pub all_probes : (T U from mid to came many went : ℕ) → 1 ≤ T → U ≡ T → mid ≤ from + (2 * T - 1) * came + T * many → to ≤ mid + 8 * T + came + U * went → to ≤ from + 8 * T + 2 * T * came + T * many + T * went
all_probes T U from mid to came many went some same first later =
    let next : to ≤ mid + 8 * T + came + T * went = subst (λ n. to ≤ mid + 8 * T + came + n * went) same later in
    let more = one_less T came some in
    omega (arith, first, next, more)

-- both ends are counted anew and looked through
pub recounted_probes : (T a b d : ℕ) (from first second third fourth : ℕ) → a ≡ T → b ≡ a → d ≡ b → first ≤ from + 3 * T → second ≤ first + 3 * a → third ≤ second + b → fourth ≤ third + d → fourth ≤ from + 8 * T
recounted_probes T a b d from first second third fourth same-a same-b same-d one two three four = omega (arith, same-a, same-b, same-d, one, two, three, four)
