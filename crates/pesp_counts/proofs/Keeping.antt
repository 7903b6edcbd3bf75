-- What the keeper keeps, as pairs are pushed and popped.
use Rattle.std.proofs.Common.{◌≡◌, ◌≢◌, ℕ, ◌+◌, ◌<◌, ◌≤◌, ◌==◌, ◌&&◌, ◌||◌, not, Bool, false, List, [], ◌∷◌, ◌++◌, Option, Some, None, length, get_or, take, drop, AllPairs, refl, sym, ap, subst, ◌∙◌, inl, inr, arith, IsTrue}
use Rattle.std.specs.List.{Contains}
use Rattle.std.specs.Option.{option_map_or}
use Rattle.std.proofs.lemmas.Bool.{cases_Bool, cases_eq, cases_lt, eq-eqb, ne_eqb, false≢true, or_cases}
use Rattle.std.proofs.lemmas.List.{drop-append-le, get_or-drop, get_or-take, get_or_append_left, length-append, length-drop, length-take-le, length_push, map-append, same_from_push, take-append-drop, take_all}
use Rattle.std.proofs.lemmas.List.Elements.{All-contains, All-drop, All-take}
use Rattle.std.proofs.lemmas.List.Folds.{list_any-append}
use Rattle.std.proofs.Math.Seq.{drop-append_seam}
use Rattle.std.proofs.Math.Bool.{or-true}
use Rattle.pesp_instance.specs.Network.{Network, has_event}
use Rattle.pesp_domains.specs.declared.pair.Pair.{Pair}
use Rattle.pesp_domains.specs.Domains.{In, InDomains, IsDomain}
use Rattle.pesp_domains.specs.Kept.{ArePushed}
use Rattle.pesp_domains.specs.Sweeps.{AreDomains, Pairs, limited, narrowed_to}
use Rattle.pesp_domains.proofs.Pushes.{push_settles, pushed_more}
use Rattle.pesp_counts_supports.specs.declared.trail.Placed.{Placed}
use Rattle.pesp_counts_supports.specs.Counts.{has_at}
use Rattle.pesp_counts.specs.declared.keeper.Pushed.{Pushed}
use Rattle.pesp_counts.specs.Keeping.{AreFor, AreMarked, AreSettled, IsKeeping, pairs_of, rows_of, with_pairs}
use Rattle.pesp_counts.specs.Keeping.AreMarked.{above, bottom}
use Rattle.pesp_counts_supports.specs.Resting.{HaveRoom, IsNarrowed}
use Rattle.pesp_counts_arcs.specs.Links.{Links}
use Rattle.pesp_counts_arcs.specs.Places.{ArePlaces, Places, number_at, numbered, place_of}
use Rattle.pesp_counts_supports.specs.Supports.{AreExact, AreLevel, AreOut, HaveSameShape, IsTaken, Supports, is_in}
use Rattle.pesp_base.proofs.Tests.{same_value, or_turned}
use Rattle.pesp_counts.proofs.Bridge.{counts_settle, domains_live, numbered_at, numbered_same}
use Rattle.pesp_counts_supports.proofs.Marks.{keeps_like}
use Rattle.pesp_counts_supports.proofs.Taken.{stands_in, fit_then}

pub domains_same : (I : Network) (pushes : List Pair) (S S' : Pairs) → ((e r : ℕ) → S' e r ≡ S e r) → AreDomains I pushes S → AreDomains I pushes S'
domains_same I pushes S S' same domains =
    record { exact = λ e r. ((λ h. (domains.exact e r).0 (sym (same e r) ∙ h)), (λ h. same e r ∙ (domains.exact e r).1 h)) }

pub for_same : (I : Network) (links : Links) (before after : Supports) → HaveSameShape before after → AreFor I links before → AreFor I links after
for_same I links before after shape h =
    record {
      period = shape.period ∙ h.period;
      stand = h.stand;
      fit = fit_then links before after shape h.fit;
      housed = λ e p at. let l = h.housed e p at in omega (arith, l, shape.rows);
      even = shape.counted ∙ h.even ∙ sym shape.rows;
    }

pub room_same : (s n : Supports) (for_back for_restored : ℕ) → HaveSameShape s n → HaveRoom s for_back for_restored → HaveRoom n for_back for_restored
room_same s n for_back for_restored shape room = record { back = rw (shape.rows, shape.period) room.back; restored = rw (shape.rows, shape.period) room.restored }

-- of one place alone residues pass a test where of one event alone they do
pub narrowed_numbered : (places : Places) (S : Pairs) (event p : ℕ) (test : ℕ → Bool) → ArePlaces places → place_of places event ≡ Some p → (e r : ℕ) → numbered places (narrowed_to S p test) e r ≡ narrowed_to (numbered places S) event test e r
narrowed_numbered places S event p test paired at e r =
    by (place_of places e) refl
  where
    by : (o : Option ℕ) → place_of places e ≡ o → option_map_or (λ q. narrowed_to S p test q r) o false ≡ (option_map_or (λ q. S q r) o false && (not (e == event) || test r))
    by None is = refl
    by (Some q) is =
        elim (cases_eq e event) [
          | inl same ↦
              let here : q ≡ p = same_value (place_of places event) q p (ap (place_of places) (sym same) ∙ is) at in
              rw (eq-eqb e event same, eq-eqb q p here) refl
          | inr apart ↦
              let there : q ≢ p = λ here. apart (same_value (number_at places p) e event (ap (number_at places) (sym here) ∙ (paired.paired e q).0 is) ((paired.paired event p).0 at)) in
              rw (ne_eqb e event apart, ne_eqb q p there) refl
        ]

-- ---- what was taken out since

in_both : (xs ys : List Placed) (p r : ℕ) → is_in (xs ++ ys) p r ≡ (is_in xs p r || is_in ys p r)
in_both xs ys p r = list_any-append (λ (x : Placed). x.place == p && x.residue == r) xs ys

-- with what was taken out since before, they are as they were
pub with_taken : (s n : Supports) (m : ℕ) → IsTaken s n → m ≤ length s.trail → (p r : ℕ) → with_pairs n (drop m n.trail) p r ≡ with_pairs s (drop m s.trail) p r
with_taken s n m taken low p r =
    ap (λ xs. has_at n.rows p r || is_in (drop m xs) p r) taken.trail
    ∙ ap (λ xs. has_at n.rows p r || is_in xs p r) (drop-append-le m s.trail taken.more low)
    ∙ ap (λ b. has_at n.rows p r || b) (in_both (drop m s.trail) taken.more p r)
    ∙ sym (or_turned (has_at n.rows p r) (is_in taken.more p r) (is_in (drop m s.trail) p r))
    ∙ ap (λ b. b || is_in (drop m s.trail) p r) (sym (taken.parted p r))

with_last : (s n : Supports) → IsTaken s n → (p r : ℕ) → with_pairs n (drop (length s.trail) n.trail) p r ≡ has_at s.rows p r
with_last s n taken p r =
    ap (λ xs. has_at n.rows p r || is_in xs p r) (ap (drop (length s.trail)) taken.trail ∙ drop-append_seam s.trail taken.more)
    ∙ sym (taken.parted p r)

-- what lies below a mark is marked as it was
marked_like : (I : Network) (links : Links) (s n : Supports) (top : ℕ) (stack : List Pushed) → ((i : ℕ) → i ≤ top → (p r : ℕ) → with_pairs n (drop i n.trail) p r ≡ with_pairs s (drop i s.trail) p r) → AreMarked I links s top stack → AreMarked I links n top stack
marked_like I links s n _ _ same (bottom top) = bottom top
marked_like I links s n _ _ same (above top before x low domains rest) =
    above top before x low
    (domains_same I (pairs_of before) _ _ (numbered_same links.events (with_pairs s (drop x.mark s.trail)) (with_pairs n (drop x.mark n.trail)) (same x.mark low)) domains)
    (marked_like I links s n x.mark before (λ i l. same i (omega (arith, l, low))) rest)

-- one pair more is pushed
pub keeping_push : (I : Network) (stack : List Pushed) (x : Pair) (links : Links) (s n : Supports) (p for_pushed for_back for_restored : ℕ) → IsKeeping I stack links s for_pushed for_back for_restored → IsTrue (has_event I x.event) → ((r : ℕ) → In (pairs_of stack) x.event r → ⊥) → place_of links.events x.event ≡ Some p → IsNarrowed links p (λ r. r == x.residue) s n → IsKeeping I (stack ++ record { pair = x; mark = length s.trail } ∷ []) links n for_pushed for_back for_restored
keeping_push I stack x links s n p for_pushed for_back for_restored h event free at narrow =
    let fits = h.settled.fits in
    let period : n.period ≡ I.period = narrow.shape.period ∙ fits.period in
    let M : Pairs = limited (has_at s.rows) p x.residue in
    let settles = counts_settle I links fits.stand M n period narrow.rest (keeps_like links n.period s.period M M (has_at n.rows) (sym narrow.shape.period) (λ q r. refl) narrow.keeps) in
    let last : Pushed = record { pair = x; mark = length s.trail } in
    let all : pairs_of (stack ++ last ∷ []) ≡ pairs_of stack ++ x ∷ [] = map-append (λ (y : Pushed). y.pair) stack (last ∷ []) in
    let long : length s.trail ≤ length n.trail = (let e = ap length narrow.taken.trail in let f = length-append s.trail narrow.taken.more in omega (arith, e, f)) in
    record {
      settled =
          record {
            network = h.settled.network;
            fits = for_same I links s n narrow.shape fits;
            rest = narrow.rest;
            domains = rw all
                (push_settles I (pairs_of stack) x (rows_of links s) (numbered links.events M) (rows_of links n) (narrowed_numbered links.events (has_at s.rows) x.event p (λ r. r == x.residue) fits.stand.events at) settles h.settled.domains);
          };
      pushed = rw all (pushed_more I (pairs_of stack) x event free h.pushed);
      marked = above (length n.trail) stack last long
          (domains_same I (pairs_of stack) _ _ (numbered_same links.events (has_at s.rows) (with_pairs n (drop (length s.trail) n.trail)) (with_last s n narrow.taken)) h.settled.domains)
          (marked_like I links s n (length s.trail) stack (λ i low. with_taken s n i narrow.taken low) h.marked);
      room_pushed = h.room_pushed;
      room_back = room_same s n for_back for_restored narrow.shape h.room_back;
    }

-- ---- what was taken out is put back

in_parts : (m : ℕ) (xs : List Placed) (p r : ℕ) → is_in xs p r ≡ (is_in (take m xs) p r || is_in (drop m xs) p r)
in_parts m xs p r = ap (λ ys. is_in ys p r) (sym (take-append-drop m xs)) ∙ in_both (take m xs) (drop m xs) p r

-- the later part of a trail
pub out_late : (s : Supports) (m : ℕ) → AreOut s s.trail → AreOut s (drop m s.trail)
out_late s m h =
    record {
      out = λ p r i. h.out p r (in_parts m s.trail p r ∙ ap (λ b. is_in (take m s.trail) p r || b) i ∙ or-true (is_in (take m s.trail) p r));
      within = All-drop (λ x. x.place < length s.rows) m s.trail h.within;
      below = All-drop (λ x. x.residue < s.period) m s.trail h.below;
      once = λ i j d lt within.
          let long = length-drop m s.trail in
          rw (get_or-drop m s.trail i d, get_or-drop m s.trail j d) (h.once (m + i) (m + j) d (omega (arith, lt)) (omega (arith, within, long)));
    }

-- no pair stands both before a mark and after it
apart_at : (m : ℕ) (xs : List Placed) (x : Placed) → AllPairs (λ y z. y ≢ z) xs → Contains (take m xs) x → Contains (drop m xs) x → ⊥
apart_at m xs x once i j =
    elim (cases_lt (length xs) m) [
      | inl over ↦
          let late = length-drop m xs in
          absurd (omega (arith, late, over, j.1))
      | inr low ↦
          let long = length-take-le m xs low in
          let late = length-drop m xs in
          once i.0 (m + j.0) x (omega (arith, i.1, long)) (omega (arith, j.1, late))
          (sym (get_or-take m xs i.0 x (omega (arith, i.1, long))) ∙ i.2 ∙ sym j.2 ∙ get_or-drop m xs j.0 x)
    ]

-- the earlier part of a trail, once the later one was put back
pub out_early : (s n : Supports) (m : ℕ) → AreOut s s.trail → HaveSameShape s n → ((p r : ℕ) → has_at n.rows p r ≡ (has_at s.rows p r || is_in (drop m s.trail) p r)) → AreOut n (take m s.trail)
out_early s n m h shape back =
    record {
      out = λ p r i.
          elim (cases_Bool (has_at n.rows p r)) [
            | inr none ↦ none
            | inl there ↦
                elim (or_cases (has_at s.rows p r) (is_in (drop m s.trail) p r) (sym (back p r) ∙ there)) [
                  | inl was ↦
                      let late : IsTrue (is_in s.trail p r) = in_parts m s.trail p r ∙ ap (λ b. b || is_in (drop m s.trail) p r) i in
                      absurd (false≢true (sym (h.out p r late) ∙ was))
                  | inr late ↦ absurd (apart_at m s.trail (record { place = p; residue = r }) h.once (stands_in (take m s.trail) p r i) (stands_in (drop m s.trail) p r late))
                ]
          ];
      within = All-take (λ x. x.place < length n.rows) m s.trail (λ i d l. let w = h.within i d l in omega (arith, w, shape.rows));
      below = All-take (λ x. x.residue < n.period) m s.trail (λ i d l. let w = h.below i d l in omega (arith, w, shape.period));
      once = λ i j d lt within.
          elim (cases_lt (length s.trail) m) [
            | inl over ↦ rw (take_all m s.trail (omega (arith, over))) (h.once i j d lt (rw (take_all m s.trail (omega (arith, over))) at within))
            | inr low ↦
                let long = length-take-le m s.trail low in
                rw (get_or-take m s.trail i d (omega (arith, lt, within, long)), get_or-take m s.trail j d (omega (arith, within, long))) (h.once i j d lt (omega (arith, within, long, low)))
          ];
    }

with_back : (s n : Supports) (m i : ℕ) → ((p r : ℕ) → has_at n.rows p r ≡ (has_at s.rows p r || is_in (drop m s.trail) p r)) → n.trail ≡ take m s.trail → m ≤ length s.trail → i ≤ m → (p r : ℕ) → with_pairs n (drop i n.trail) p r ≡ with_pairs s (drop i s.trail) p r
with_back s n m i back trail low le p r =
    let long = length-take-le m s.trail low in
    let parts : drop i s.trail ≡ drop i (take m s.trail) ++ drop m s.trail = ap (drop i) (sym (take-append-drop m s.trail)) ∙ drop-append-le i (take m s.trail) (drop m s.trail) (omega (arith, le, long)) in
    ap (λ xs. has_at n.rows p r || is_in (drop i xs) p r) trail
    ∙ ap (λ b. b || is_in (drop i (take m s.trail)) p r) (back p r)
    ∙ or_turned (has_at s.rows p r) (is_in (drop m s.trail) p r) (is_in (drop i (take m s.trail)) p r)
    ∙ ap (λ b. has_at s.rows p r || b) (sym (in_both (drop i (take m s.trail)) (drop m s.trail) p r))
    ∙ ap (λ xs. has_at s.rows p r || is_in xs p r) (sym parts)

-- the last mark is within the trail, and what was taken out since makes the rows those before the push
pub last_marked : (I : Network) (links : Links) (s : Supports) (top : ℕ) (stack before : List Pushed) (x : Pushed) → AreMarked I links s top stack → stack ≡ before ++ x ∷ [] → (x.mark ≤ top) × AreDomains I (pairs_of before) (numbered links.events (with_pairs s (drop x.mark s.trail))) × AreMarked I links s x.mark before
last_marked I links s _ _ before x (bottom top) is = absurd (omega (arith, ap length is, length_push before x))
last_marked I links s _ _ before x (above top before' x' low domains rest) is = let same = same_from_push before' before x' x is in rw (← same.0, ← same.1) (low, domains, rest)

-- without the last pair they are still of events, each of another one
fewer_pushed : (I : Network) (pushes after : List Pair) (x : Pair) → pushes ≡ after ++ x ∷ [] → ArePushed I pushes → ArePushed I after
fewer_pushed I pushes after x is h =
    let long = length_push after x in
    let e = ap length is in
    let same : (i : ℕ) (d : Pair) → i < length after → get_or pushes i d ≡ get_or after i d = λ i d l. ap (λ xs. get_or xs i d) is ∙ get_or_append_left after (x ∷ []) d i l in
    record {
      inside = λ i d l. subst (λ (y : Pair). IsTrue (has_event I y.event)) (same i d l) (h.inside i d (omega (arith, l, e, long)));
      apart = λ i j d ij jl q. h.apart i j d ij (omega (arith, jl, e, long)) (ap (λ (y : Pair). y.event) (same i d (omega (arith, ij, jl))) ∙ q ∙ ap (λ (y : Pair). y.event) (sym (same j d jl)));
    }

-- the pair that was pushed last is popped
pub keeping_pop : (I : Network) (stack before : List Pushed) (x : Pushed) (links : Links) (s n : Supports) (for_pushed for_back for_restored : ℕ) → IsKeeping I stack links s for_pushed for_back for_restored → stack ≡ before ++ x ∷ [] → ((p r : ℕ) → has_at n.rows p r ≡ (has_at s.rows p r || is_in (drop x.mark s.trail) p r)) → AreExact links n (has_at n.counted) → AreLevel n → n.trail ≡ take x.mark s.trail → HaveSameShape s n → IsKeeping I before links n for_pushed for_back for_restored
keeping_pop I stack before x links s n for_pushed for_back for_restored h is back exact level trail shape =
    let fits = h.settled.fits in
    let out = h.settled.rest.out in
    let all : pairs_of stack ≡ pairs_of before ++ x.pair ∷ [] = ap pairs_of is ∙ map-append (λ (y : Pushed). y.pair) before (x ∷ []) in
    let (low, was, marked) = last_marked I links s (length s.trail) stack before x h.marked is in
    let domains : AreDomains I (pairs_of before) (rows_of links n) = domains_same I (pairs_of before) _ _ (numbered_same links.events (with_pairs s (drop x.mark s.trail)) (has_at n.rows) back) was in
    let top : length n.trail ≡ x.mark = ap length trail ∙ length-take-le x.mark s.trail low in
    record {
      settled =
          record {
            network = h.settled.network;
            fits = for_same I links s n shape fits;
            rest =
                record {
                  exact = exact;
                  level = level;
                  live = domains_live I links fits.stand (pairs_of before) n (shape.period ∙ fits.period) exact level domains;
                  below = λ p r i.
                      elim (or_cases (has_at s.rows p r) (is_in (drop x.mark s.trail) p r) (sym (back p r) ∙ i)) [
                        | inl there ↦ let l = h.settled.rest.below p r there in omega (arith, l, shape.period)
                        | inr late ↦ let l = All-contains (λ (y : Placed). y.residue < s.period) (drop x.mark s.trail) (record { place = p; residue = r }) (All-drop (λ y. y.residue < s.period) x.mark s.trail out.below) (stands_in (drop x.mark s.trail) p r late) in omega (arith, l, shape.period)
                      ];
                  out = subst (AreOut n) (sym trail) (out_early s n x.mark out shape back);
                };
            domains = domains;
          };
      pushed = fewer_pushed I (pairs_of stack) (pairs_of before) x.pair all h.pushed;
      marked = rw top (marked_like I links s n x.mark before (λ i l. with_back s n x.mark i back trail low l) marked);
      room_pushed = h.room_pushed;
      room_back = room_same s n for_back for_restored shape h.room_back;
    }

-- ---- what is read

-- the rows hold no pair of a number that is no event
pub none_at : (I : Network) (pushes : List Pair) (links : Links) (s : Supports) (e r : ℕ) → AreSettled I pushes links s → place_of links.events e ≡ None → InDomains I pushes e r → ⊥
none_at I pushes links s e r h none i = false≢true (sym (ap (λ o. option_map_or (λ p. has_at s.rows p r) o false) none) ∙ (h.domains.exact e r).1 i)

-- the row at the place of an event is its domain
pub row_domain : (I : Network) (pushes : List Pair) (links : Links) (s : Supports) (e p : ℕ) (row : List Bool) → AreSettled I pushes links s → place_of links.events e ≡ Some p → row ≡ get_or s.rows p [] → length row ≡ s.period → IsDomain I pushes e row
row_domain I pushes links s e p row h at is long =
    record {
      long = long ∙ h.fits.period;
      exact = λ r.
          let same : rows_of links s e r ≡ get_or row r false = numbered_at links.events (has_at s.rows) e p r at ∙ ap (λ bits. get_or bits r false) (sym is) in
          ((λ i. (h.domains.exact e r).0 (same ∙ i)), (λ i. sym same ∙ (h.domains.exact e r).1 i));
    }
