-- A count is that of the partners in the domains.
use Rattle.std.proofs.Common.{◌≡◌, ℕ, zero, suc, add-one, ◌+◌, ◌*◌, ◌<◌, ◌&&◌, cond, Bool, true, false, List, [], ◌∷◌, ◌++◌, get_or, length, map, Some, None, is_some, option_map, refl, sym, ap, subst, ◌∙◌, arith, IsTrue}
use Rattle.std.specs.List.{Contains}
use Rattle.std.specs.List.Sorted.{IsStrictlyIncreasing}
use Rattle.std.proofs.lemmas.Bool.{and_from, and_parts, false≢true}
use Rattle.std.specs.List.{filter, range_with_len}
use Rattle.std.proofs.lemmas.List.{append-nil, length_push}
use Rattle.std.proofs.lemmas.List.FromFn.{filter_of_map_range_with_len_more, get_or-map-range_with_len, length-map-range_with_len}
use Rattle.std.proofs.lemmas.List.Kept.{IsStrictlyIncreasing-filter}
use Rattle.pesp_base.specs.declared.activity.Activity.{Activity}
use Rattle.pesp_instance.specs.Network.{Network, activity_of}
use Rattle.pesp_instance.proofs.Rising.{number-with_number}
use Rattle.pesp_domains.specs.declared.pair.Pair.{Pair}
use Rattle.pesp_domains.specs.declared.side.Side.{Side}
use Rattle.pesp_domains.specs.Domains.{InDomains, other, own}
use Rattle.pesp_domains.proofs.Laws.{InDomains-admitted}
use Rattle.pesp_domains.proofs.Families.{in_filter, of_filter}
use Rattle.pesp_counts_arcs.specs.Ends.{end_at, passes}
use Rattle.pesp_counts_supports.specs.Counts.{count_at, has_at, supporters}
use Rattle.pesp_counts.specs.Keeping.{AreSettled, rows_of}
use Rattle.pesp_counts_arcs.specs.Links.{IsEndOf, Links, StandFor, end_number}
use Rattle.pesp_counts_arcs.specs.Places.{place_of}
use Rattle.pesp_counts.specs.Support.{IsSupport}
use Rattle.pesp_counts_supports.specs.Supports.{Supports}
use Rattle.pesp_counts.proofs.Asks.{found_in}
use Rattle.pesp_counts.proofs.Bridge.{numbered_at, some_of}
use Rattle.pesp_counts.proofs.Carried.{twice_of}

-- the numbers below n, and those of them that are in the set and pass, ascending
abbrev below : ℕ → List ℕ
below n = map (λ s. s) (range_with_len 0 n)

abbrev those : ℕ → (ℕ → Bool) → (ℕ → Bool) → List ℕ
those n S f = filter (λ s. S s && f s) (below n)

length_those : (n : ℕ) (S f : ℕ → Bool) → length (those n S f) ≡ supporters n S f
length_those zero S f = refl
length_those (suc n) S f =
    let rest = length_those n S f in
    ap (λ k. length (those k S f)) (sym (add-one n)) ∙ ap length (filter_of_map_range_with_len_more (λ s. S s && f s) (λ s. s) 0 n n (omega arith))
    ∙ (elim (S n && f n) as (λ b. length (those n S f ++ cond b (n ∷ []) []) ≡ cond b 1 0 + supporters n S f) [
      | true ↦ let long = length_push (those n S f) n in omega (arith, long, rest)
      | false ↦ let long = ap length (append-nil (those n S f)) in omega (arith, long, rest)
    ])

below_at : (n k d : ℕ) → k < n → get_or (below n) k d ≡ k
below_at n k d l = get_or-map-range_with_len (λ s. s) 0 n k k d l (omega arith)

of_those : (n : ℕ) (S f : ℕ → Bool) (s : ℕ) → Contains (those n S f) s → (s < n) × IsTrue (S s && f s)
of_those n S f s i =
    let w = of_filter (λ s. S s && f s) (below n) s i in
    let l : w.0.0 < n = omega (arith, w.0.1, length-map-range_with_len (λ s. s) 0 n) in
    (omega (arith, l, below_at n w.0.0 s l, w.0.2), w.1)

in_those : (n : ℕ) (S f : ℕ → Bool) (s : ℕ) → s < n → IsTrue (S s && f s) → Contains (those n S f) s
in_those n S f s l h = in_filter (λ s. S s && f s) (below n) s (s, omega (arith, l, length-map-range_with_len (λ s. s) 0 n), below_at n s s l) h

rising_those : (n : ℕ) (S f : ℕ → Bool) → IsStrictlyIncreasing (those n S f)
rising_those n S f =
    IsStrictlyIncreasing-filter (λ s. S s && f s) (below n)
    (λ k l. let m : k + 1 < n = omega (arith, l, length-map-range_with_len (λ s. s) 0 n) in omega (arith, below_at n k 0 (omega (arith, m)), below_at n (k + 1) 0 m))

pub activity_id : (I : Network) (n : ℕ) (a : Activity) → activity_of I n ≡ Some a → a.id ≡ n
activity_id I n a named = number-with_number (λ (b : Activity). b.id) n I.activities a named

-- the end of an activity of the instance, by its number
pub end_of : (I : Network) (links : Links) (n q : ℕ) (side : Side) (a : Activity) → StandFor I links → activity_of I n ≡ Some a → a.id ≡ n → place_of links.activities n ≡ Some q → (p : ℕ) × IsEndOf I.period links side a p q
end_of I links n q side a stand named id at =
    let w = stand.all side a (found_in (λ (b : Activity). b.id) n I.activities a named) in
    let same : Some w.1 ≡ Some q = sym (ap (place_of links.activities) (sym id) ∙ w.2.numbered) ∙ at in
    let e : w.1 ≡ q = cc in
    (w.0, subst (λ k. IsEndOf I.period links side a w.0 k) e w.2)

-- the count there is that of the partners
pub is_support : (I : Network) (pushes : List Pair) (links : Links) (s : Supports) (n q p r : ℕ) (side : Side) (a : Activity) → AreSettled I pushes links s → activity_of I n ≡ Some a → IsEndOf I.period links side a p q → InDomains I pushes (own side a) r → IsSupport I pushes n side r (count_at s.period s.counts (end_number side q) r)
is_support I pushes links s n q p r side a h named end held =
    let k : ℕ = end_number side q in
    let e = end_at links.ends k in
    let S : ℕ → Bool = has_at s.counted e.looks_at in
    let f : ℕ → Bool = passes s.period e r in
    let below : r < I.period = (InDomains-admitted I pushes (own side a) r held).below in
    let low : r < s.period = omega (arith, below, h.fits.period) in
    let there : (x : ℕ) → rows_of links s (other side a) x ≡ S x = λ x. numbered_at links.events (has_at s.rows) (other side a) e.looks_at x end.looks ∙ sym (h.rest.level e.looks_at x) in
    record {
      activity = a;
      named = named;
      held = held;
      partners = those s.period S f;
      are =
          record {
            rising = rising_those s.period S f;
            exact = λ x. (
              λ i.
                  let w = of_those s.period S f x i in
                  let both = and_parts (S x) (f x) w.1 in
                  let xl : x < I.period = (let l = w.0 in omega (arith, l, h.fits.period)) in
                  ((h.domains.exact (other side a) x).0 (there x ∙ both.0), (end.joins r x below xl).0 (subst (λ t. IsTrue (passes t e r x)) h.fits.period both.1)),
              λ i.
                  let xl : x < I.period = (InDomains-admitted I pushes (other side a) x i.0).below in
                  in_those s.period S f x (omega (arith, xl, h.fits.period))
                  (and_from (S x) (f x) (sym (there x) ∙ (h.domains.exact (other side a) x).1 i.0) (subst (λ t. IsTrue (passes t e r x)) (sym h.fits.period) ((end.joins r x below xl).1 i.1))),
            );
          };
      counted = length_those s.period S f ∙ sym (h.rest.exact p k end.listed r low);
    }

-- with the tail that was found for it
pub found_end : (I : Network) (links : Links) (n tail : ℕ) (side : Side) (a : Activity) → StandFor I links → activity_of I n ≡ Some a → option_map (λ q. 2 * q) (place_of links.activities a.id) ≡ Some tail → (q : ℕ) × (place_of links.activities a.id ≡ Some q) × (tail ≡ 2 * q) × (p : ℕ) × IsEndOf I.period links side a p q
found_end I links n tail side a stand named found =
    let q = twice_of (place_of links.activities a.id) tail found in
    let id = activity_id I n a named in
    let end = end_of I links n q.0 side a stand named id (ap (place_of links.activities) (sym id) ∙ q.1) in
    (q.0, q.1, q.2, end.0, end.1)

-- an activity that is there has a place
pub no_tail : (I : Network) (links : Links) (n : ℕ) (a : Activity) → StandFor I links → activity_of I n ≡ Some a → option_map (λ q. 2 * q) (place_of links.activities n) ≡ None → ⊥
no_tail I links n a stand named none =
    let q = some_of (place_of links.activities n) (stand.of_activities n ∙ ap is_some named) in
    false≢true (sym (ap is_some (sym (ap (option_map (λ k. 2 * k)) q.1) ∙ none)))
