-- What a look-up finds in a list of times that rises by event, and what a change at a place leaves.
use Rattle.std.proofs.Common.{◌≡◌, ℕ, zero, suc, ◌+◌, ◌-◌, ◌<◌, ◌≤◌, List, [], ◌∷◌, length, get_or, set, cond, Ordering, Some, None, Result, Ok, Err, IfOk, IfErr, All, refl, sym, ap, subst, ◌∙◌, arith}
use Rattle.std.specs.List.{insert, remove}
use Rattle.std.specs.List.Sorted.{IsSearchInRange, IsBinarySearchResult, IsNonDecreasingBy, IsStrictlyIncreasing}
use Rattle.std.specs.Ordering.{nat_cmp, is_eq, match_ordering, ordering_index}
use Rattle.std.specs.BTreeMap.{is_at, insert_entry}
use Rattle.std.specs.Map.{keys_of, values_of, lookup, remove_entry}
use Rattle.std.specs.declared.cmp.Ordering.TheVariants.{Less, Equal, Greater}
use Rattle.std.proofs.lemmas.Bool.Decides.{nat_tests}
use Rattle.std.proofs.lemmas.Cmp.{ranked}
use Rattle.std.proofs.lemmas.Grind.{common_steps}
use Rattle.std.proofs.lemmas.List.{get_or-map, length-map}
use Rattle.std.proofs.lemmas.List.Sorted.{IsNonDecreasingBy-from_default}
use Rattle.std.proofs.lemmas.List.Edits.{length-insert, length-remove, get_or-insert_below, get_or-insert_at, get_or-insert_above, get_or-remove_below, get_or-remove_above}
use Rattle.pesp_tension.specs.Places.{event_at, AreRising, IsAt, IsGap}
use Rattle.pesp_base.proofs.Orders.{cmp_above, cmp_below, cmp_same}

-- ---- how an event compares

same : (e n : ℕ) → n ≡ e → nat_cmp e n ≡ Equal
same e n h = cmp_same e n (sym h)

-- ---- the list without its first entry

at_tail : (x : ℕ × ℕ) (es : List (ℕ × ℕ)) (e place : ℕ) → IsAt (x ∷ es) e (suc place) → IsAt es e place
at_tail x es e place at = record { within = omega (arith, at.within); event = at.event }

gap_tail : (x : ℕ × ℕ) (es : List (ℕ × ℕ)) (e place : ℕ) → IsGap (x ∷ es) e (suc place) → IsGap es e place
gap_tail x es e place gap = record {
  within = omega (arith, gap.within);
  smaller = λ i h. gap.smaller (suc i) (omega arith);
  greater = λ i h k. gap.greater (suc i) (omega arith) (omega arith);
}

-- with a gap at its end, or before its first entry
gap_all : (x : ℕ × ℕ) (es : List (ℕ × ℕ)) (e : ℕ) → IsGap (x ∷ es) e 0 → IsGap es e 0
gap_all x es e gap = record {
  within = omega arith;
  smaller = λ i h. absurd (omega (arith, h));
  greater = λ i h k. gap.greater (suc i) (omega arith) (omega arith);
}

rising_tail : (x : ℕ × ℕ) (es : List (ℕ × ℕ)) → AreRising (x ∷ es) → AreRising es
rising_tail x es rising i j h k = rising (suc i) (suc j) (omega arith) (omega arith)

-- the first event is below one that stands after it
first_below : (x : ℕ × ℕ) (es : List (ℕ × ℕ)) (e place : ℕ) → AreRising (x ∷ es) → IsAt (x ∷ es) e (suc place) → x.0 < e
first_below x es e place rising at = subst (λ n. x.0 < n) at.event (rising 0 (suc place) (omega arith) at.within)

-- ---- look-ups

found_if : (x : ℕ × ℕ) (es : List (ℕ × ℕ)) (e : ℕ) (o : Ordering) → nat_cmp e x.0 ≡ o → lookup (is_at (nat_cmp e)) (x ∷ es) ≡ cond (is_eq o) (Some x.1) (lookup (is_at (nat_cmp e)) es)
found_if x es e o h = ap (λ r. cond (is_eq r) (Some x.1) (lookup (is_at (nat_cmp e)) es)) h

-- the event's time is the one at its place
pub lookup_at : (es : List (ℕ × ℕ)) (e place : ℕ) → AreRising es → IsAt es e place → lookup (is_at (nat_cmp e)) es ≡ Some (get_or es place (0, 0)).1
lookup_at [] e place rising at = absurd (omega (arith, at.within))
lookup_at (x ∷ es) e zero rising at = found_if x es e Equal (same e x.0 at.event)
lookup_at (x ∷ es) e (suc place) rising at =
    found_if x es e Greater (cmp_above e x.0 (first_below x es e place rising at)) ∙ lookup_at es e place (rising_tail x es rising) (at_tail x es e place at)

-- an event with a gap has no time
pub lookup_gap : (es : List (ℕ × ℕ)) (e place : ℕ) → IsGap es e place → lookup (is_at (nat_cmp e)) es ≡ None
lookup_gap [] e place gap = refl
lookup_gap (x ∷ es) e zero gap = found_if x es e Less (cmp_below e x.0 (gap.greater 0 (omega arith) (omega arith))) ∙ lookup_gap es e 0 (gap_all x es e gap)
lookup_gap (x ∷ es) e (suc place) gap = found_if x es e Greater (cmp_above e x.0 (gap.smaller 0 (omega arith))) ∙ lookup_gap es e place (gap_tail x es e place gap)

-- what holds of each time holds of the one at a place
pub time_at_place : (P : ℕ → Type 0) (es : List (ℕ × ℕ)) (place : ℕ) → All P (values_of es) → place < length es → P (get_or es place (0, 0)).1
time_at_place P es place all within =
    let time = λ (x : ℕ × ℕ). x.1 in
    let long = length-map es time in
    subst P (get_or-map time es place (0, 0) 0 within) (all place 0 (omega arith))

-- ---- changes

entered_if : (x : ℕ × ℕ) (es : List (ℕ × ℕ)) (e t : ℕ) (o : Ordering) → nat_cmp e x.0 ≡ o
    → insert_entry nat_cmp (x ∷ es) e t ≡ match_ordering o ((e, t) ∷ x ∷ es) ((x.0, t) ∷ es) (x ∷ insert_entry nat_cmp es e t)
entered_if x es e t o h = ap (λ r. match_ordering r ((e, t) ∷ x ∷ es) ((x.0, t) ∷ es) (x ∷ insert_entry nat_cmp es e t)) h

-- a time that is put into the gap
pub insert_gap : (es : List (ℕ × ℕ)) (e t place : ℕ) → IsGap es e place → insert es place (e, t) ≡ insert_entry nat_cmp es e t
insert_gap [] e t zero gap = refl
insert_gap [] e t (suc place) gap = absurd (omega (arith, gap.within))
insert_gap (x ∷ es) e t zero gap = sym (entered_if x es e t Less (cmp_below e x.0 (gap.greater 0 (omega arith) (omega arith))))
insert_gap (x ∷ es) e t (suc place) gap =
    ap (λ l. x ∷ l) (insert_gap es e t place (gap_tail x es e place gap)) ∙ sym (entered_if x es e t Greater (cmp_above e x.0 (gap.smaller 0 (omega arith))))

-- a time that is put in the place of another
pub set_at : (es : List (ℕ × ℕ)) (e t place : ℕ) → AreRising es → IsAt es e place → set es place (e, t) ≡ insert_entry nat_cmp es e t
set_at [] e t place rising at = absurd (omega (arith, at.within))
set_at (x ∷ es) e t zero rising at = ap (λ (n : ℕ). (n, t) ∷ es) (sym at.event) ∙ sym (entered_if x es e t Equal (same e x.0 at.event))
set_at (x ∷ es) e t (suc place) rising at =
    ap (λ l. x ∷ l) (set_at es e t place (rising_tail x es rising) (at_tail x es e place at))
    ∙ sym (entered_if x es e t Greater (cmp_above e x.0 (first_below x es e place rising at)))

left_if : (x : ℕ × ℕ) (es : List (ℕ × ℕ)) (e : ℕ) (o : Ordering) → nat_cmp e x.0 ≡ o → remove_entry (is_at (nat_cmp e)) (x ∷ es) ≡ cond (is_eq o) es (x ∷ remove_entry (is_at (nat_cmp e)) es)
left_if x es e o h = ap (λ r. cond (is_eq r) es (x ∷ remove_entry (is_at (nat_cmp e)) es)) h

-- a time that is taken away
pub remove_at : (es : List (ℕ × ℕ)) (e place : ℕ) → AreRising es → IsAt es e place → remove es place ≡ remove_entry (is_at (nat_cmp e)) es
remove_at [] e place rising at = absurd (omega (arith, at.within))
remove_at (x ∷ es) e zero rising at = sym (left_if x es e Equal (same e x.0 at.event))
remove_at (x ∷ es) e (suc place) rising at =
    ap (λ l. x ∷ l) (remove_at es e place (rising_tail x es rising) (at_tail x es e place at))
    ∙ sym (left_if x es e Greater (cmp_above e x.0 (first_below x es e place rising at)))

-- where there is none to take away
pub remove_gap : (es : List (ℕ × ℕ)) (e place : ℕ) → IsGap es e place → remove_entry (is_at (nat_cmp e)) es ≡ es
remove_gap [] e place gap = refl
remove_gap (x ∷ es) e zero gap =
    left_if x es e Less (cmp_below e x.0 (gap.greater 0 (omega arith) (omega arith))) ∙ ap (λ l. x ∷ l) (remove_gap es e 0 (gap_all x es e gap))
remove_gap (x ∷ es) e (suc place) gap =
    left_if x es e Greater (cmp_above e x.0 (gap.smaller 0 (omega arith))) ∙ ap (λ l. x ∷ l) (remove_gap es e place (gap_tail x es e place gap))

-- ---- the list still rises

pub rising_set : (es : List (ℕ × ℕ)) (e t place : ℕ) → AreRising es → IsAt es e place → AreRising (set es place (e, t))
rising_set es e t place rising at i j h k = grind (arith, common_steps, rising i j, rising i place, rising place j, at.within, at.event)

pub rising_insert : (es : List (ℕ × ℕ)) (e t place : ℕ) → AreRising es → IsGap es e place → AreRising (insert es place (e, t))
rising_insert es e t place rising gap i j h k =
    let new = insert es place (e, t) in
    let event = λ (x : ℕ × ℕ). x.0 in
    let long = length-insert es place (e, t) gap.within in
    let low : (i : ℕ) → i < place → event_at new i ≡ event_at es i = λ i low. ap event (get_or-insert_below es place (e, t) (0, 0) i low gap.within) in
    let here : (i : ℕ) → i ≡ place → event_at new i ≡ e = λ i here. rw here (ap event (get_or-insert_at es place (e, t) (0, 0) gap.within)) in
    let high : (i : ℕ) → place < i → event_at new i ≡ event_at es (i - 1) = λ i high. subst (λ q. event_at new q ≡ event_at es (i - 1)) {x = i - 1 + 1} (omega arith) (ap event (get_or-insert_above es place (e, t) (0, 0) (i - 1) (omega arith) gap.within)) in
    grind (arith, low i, here i, high i, low j, here j, high j, rising i j, rising i (j - 1), rising (i - 1) (j - 1), gap.smaller i, gap.greater (j - 1))

pub rising_remove : (es : List (ℕ × ℕ)) (place : ℕ) → AreRising es → place < length es → AreRising (remove es place)
rising_remove es place rising within i j h k =
    let new = remove es place in
    let event = λ (x : ℕ × ℕ). x.0 in
    let short = length-remove es place within in
    let low : (i : ℕ) → i < place → event_at new i ≡ event_at es i = λ i low. ap event (get_or-remove_below es place (0, 0) i low within) in
    let high : (i : ℕ) → place ≤ i → event_at new i ≡ event_at es (i + 1) = λ i high. ap event (get_or-remove_above es place (0, 0) i high within) in
    grind (arith, low i, high i, low j, high j, rising i j, rising i (j + 1), rising (i + 1) (j + 1))

-- the events, one by one
pub events_rise : (es : List (ℕ × ℕ)) → AreRising es → IsStrictlyIncreasing (keys_of es)
events_rise es rising k h =
    let event = λ (x : ℕ × ℕ). x.0 in
    let long = length-map es event in
    rw (get_or-map event es k (0, 0) 0 (omega arith), get_or-map event es (k + 1) (0, 0) 0 (omega arith)) (rising k (k + 1) (omega arith) (omega arith))

-- ---- searches

-- the comparisons with an event rise along the list, as a binary search asks
comparisons_rise : (es : List (ℕ × ℕ)) (e : ℕ) → AreRising es → IsNonDecreasingBy (λ x. ordering_index (nat_cmp x.0 e)) es
comparisons_rise es e rising =
    IsNonDecreasingBy-from_default (λ x. ordering_index (nat_cmp x.0 e)) es (0, 0) (λ i j le within.
    let rise : event_at es i ≤ event_at es j = grind (arith, rising i j, λ (same : i ≡ j). ap (event_at es) same) in
    grind (arith, nat_tests))

-- a binary search by event ends where the event stands, or would stand
pub searched : (es : List (ℕ × ℕ)) (e : ℕ) (r : Result ℕ ℕ) → AreRising es → IsSearchInRange r (length es) → IsBinarySearchResult (λ x. nat_cmp x.0 e) es r
    → record { found : IfOk r (IsAt es e); absent : IfErr r (IsGap es e) }
searched es e (Ok place) rising within equal = record { found = record { within = within; event = ranked _ e _ (sym (equal (0, 0))) }; absent = tt }
searched es e (Err place) rising within parted = record {
  found = tt;
  absent = record {
    within = within;
    smaller = λ i h. ranked _ e _ (sym ((parted (comparisons_rise es e rising)).0 i (0, 0) (omega arith) h));
    greater = λ i h k. ranked _ e _ (sym ((parted (comparisons_rise es e rising)).1 i (0, 0) h k));
  };
}
