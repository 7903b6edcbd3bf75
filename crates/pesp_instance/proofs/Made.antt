-- A table that is made at once, over a map of all pairs of a number and a slot.
use Rattle.std.proofs.Common.{◌≡◌, ℕ, ◌+◌, ◌<◌, ◌≤◌, true, List, [], ◌∷◌, ◌++◌, length, map, Option, Some, None, is_some, refl, sym, ap, ◌∙◌, inl, inr, arith}
use Rattle.std.proofs.lemmas.Bool.{cases_eq, cases_order, lt-ltb, le-ltb, eq-eqb, ne_eqb}
use Rattle.std.proofs.lemmas.List.{length-append}
use Rattle.std.proofs.lemmas.Map.Keys.{sorted_head, sorted_tail}
use Rattle.std.specs.declared.cmp.Ordering.TheVariants.{Less, Equal, Greater}
use Rattle.std.specs.BTreeMap.{BTreeMap, IsFromIterResult, insert_entry, is_at}
use Rattle.std.specs.List.Sorted.{IsStrictlySortedBy}
use Rattle.std.specs.Map.{keys_of, lookup, update, update_all}
use Rattle.std.specs.Ordering.{eq_by_cmp, match_ordering, nat_cmp}
use Rattle.pesp_base.specs.Numbered.{with_number, put_in}
use Rattle.slab.specs.Slab.{Slab, get, Updates}
use Rattle.pesp_instance.specs.Filled.{ArePut}
use Rattle.pesp_instance.specs.Table.{IsTable, values_in}
use Rattle.pesp_instance.proofs.Housed.{same_test, lookup-insert_same, lookup-insert_other}
use Rattle.pesp_instance.proofs.Rising.{IsAbove, IsAbove-less, Rises, length-put_in, sorted_from_rises, with_number-put_in}
use Rattle.pesp_instance.proofs.Tables.{inserted_in, lookup_above, missing}

-- ---- entries that are inserted one after another

abbrev pub inserts : List (ℕ × ℕ) → List (ℕ × ℕ) → List (ℕ × ℕ)
inserts es [] = es
inserts es (p ∷ ps) = inserts (insert_entry nat_cmp es p.0 p.1) ps

inserts-append : (es ps : List (ℕ × ℕ)) (p : ℕ × ℕ) → inserts es (ps ++ p ∷ []) ≡ insert_entry nat_cmp (inserts es ps) p.0 p.1
inserts-append es [] p = refl
inserts-append es (q ∷ ps) p = inserts-append (insert_entry nat_cmp es q.0 q.1) ps p

length-insert : (k s : ℕ) (es : List (ℕ × ℕ)) → length (insert_entry nat_cmp es k s) ≤ length es + 1
length-insert k s [] = omega arith
length-insert k s (e ∷ es) =
    elim (nat_cmp k e.0) as (λ r. length (match_ordering r ((k, s) ∷ e ∷ es) ((e.0, s) ∷ es) (e ∷ insert_entry nat_cmp es k s)) ≤ length (e ∷ es) + 1) [
      | Less ↦ omega arith
      | Equal ↦ omega arith
      | Greater ↦ omega (arith, length-insert k s es)
    ]

length-inserts : (es ps : List (ℕ × ℕ)) → length (inserts es ps) ≤ length es + length ps
length-inserts es [] = omega arith
length-inserts es (p ∷ ps) = omega (arith, length-inserts (insert_entry nat_cmp es p.0 p.1) ps, length-insert p.0 p.1 es)

key : ℕ × ℕ → ℕ
key e = e.0

above-insert : (n k s : ℕ) (es : List (ℕ × ℕ)) → n < k → IsAbove key n es → IsAbove key n (insert_entry nat_cmp es k s)
unfolding key
above-insert n k s [] below above = (below, tt)
above-insert n k s (e ∷ es) below above =
    elim (nat_cmp k e.0) as (λ r. IsAbove key n (match_ordering r ((k, s) ∷ e ∷ es) ((e.0, s) ∷ es) (e ∷ insert_entry nat_cmp es k s))) [
      | Less ↦ (below, above)
      | Equal ↦ above
      | Greater ↦ (above.0, above-insert n k s es below above.1)
    ]

rises-insert : (k s : ℕ) (es : List (ℕ × ℕ)) → Rises key es → Rises key (insert_entry nat_cmp es k s)
unfolding key
rises-insert k s [] rises = (tt, tt)
rises-insert k s (e ∷ es) rises =
    elim (cases_order k e.0) [
      | inl same ↦ rw (le-ltb k e.0 (omega arith), eq-eqb k e.0 same) rises
      | inr apart ↦ elim apart [
        | inl below ↦ rw (lt-ltb k e.0 below) ((below, IsAbove-less key k e.0 es (omega arith) rises.0), rises)
        | inr above ↦ rw (le-ltb k e.0 (omega arith), ne_eqb k e.0 (λ same. absurd (omega arith))) (above-insert e.0 k s es above rises.0, rises-insert k s es rises.1)
      ]
    ]

rises-inserts : (es ps : List (ℕ × ℕ)) → Rises key es → Rises key (inserts es ps)
rises-inserts es [] rises = rises
rises-inserts es (p ∷ ps) rises = rises-inserts (insert_entry nat_cmp es p.0 p.1) ps (rises-insert p.0 p.1 es rises)

sorted-inserts : (ps : List (ℕ × ℕ)) → IsStrictlySortedBy nat_cmp (keys_of (inserts [] ps))
unfolding key
sorted-inserts ps = sorted_from_rises key (inserts [] ps) (rises-inserts [] ps tt)

-- a number that is there takes no room
length-insert_found : (k s t : ℕ) (es : List (ℕ × ℕ)) → IsStrictlySortedBy nat_cmp (keys_of es) → lookup (is_at (nat_cmp k)) es ≡ Some t → length (insert_entry nat_cmp es k s) ≡ length es
length-insert_found k s t [] sorted is = absurd (cc)
length-insert_found k s t (e ∷ es) sorted is =
    elim (cases_order k e.0) [
      | inl same ↦ rw (le-ltb k e.0 (omega arith), eq-eqb k e.0 same) refl
      | inr apart ↦ elim apart [
        | inl below ↦
            let later : lookup (is_at (nat_cmp k)) es ≡ Some t = rw (same_test k e.0, ne_eqb e.0 k (λ same. absurd (omega arith))) at is in
            let none = lookup_above k e.0 es (omega arith) (sorted_head nat_cmp e.0 (keys_of es) sorted) in
            absurd (cc)
        | inr above ↦
            let later : lookup (is_at (nat_cmp k)) es ≡ Some t = rw (same_test k e.0, ne_eqb e.0 k (λ same. absurd (omega arith))) at is in
            let same = length-insert_found k s t es (sorted_tail nat_cmp e.0 (keys_of es) sorted) later in
            rw (le-ltb k e.0 (omega arith), ne_eqb k e.0 (λ is. absurd (omega arith))) (omega (arith, same))
      ]
    ]

-- and one that is new does
length-insert_new : (k s : ℕ) (es : List (ℕ × ℕ)) → lookup (is_at (nat_cmp k)) es ≡ None → length (insert_entry nat_cmp es k s) ≡ length es + 1
length-insert_new k s [] none = omega arith
length-insert_new k s (e ∷ es) none =
    elim (cases_order k e.0) [
      | inl same ↦ let is : Some e.1 ≡ None = rw (same_test k e.0, eq-eqb e.0 k (sym same)) at none in absurd (cc)
      | inr apart ↦ elim apart [
        | inl below ↦ rw (lt-ltb k e.0 below) (omega arith)
        | inr above ↦
            let later : lookup (is_at (nat_cmp k)) es ≡ None = rw (same_test k e.0, ne_eqb e.0 k (λ same. absurd (omega arith))) at none in
            rw (le-ltb k e.0 (omega arith), ne_eqb k e.0 (λ is. absurd (omega arith))) (omega (arith, length-insert_new k s es later))
      ]
    ]

-- where it took room, the number is new
fresh : (k s : ℕ) (es : List (ℕ × ℕ)) → IsStrictlySortedBy nat_cmp (keys_of es) → length (insert_entry nat_cmp es k s) ≡ length es + 1 → lookup (is_at (nat_cmp k)) es ≡ None
fresh k s es sorted more =
    elim (lookup (is_at (nat_cmp k)) es) as (λ o. lookup (is_at (nat_cmp k)) es ≡ o → o ≡ None) [
      | None ↦ λ is. refl
      | Some t ↦ λ is. absurd (omega (arith, more, length-insert_found k s t es sorted is))
    ] refl

lookup-inserts : (f : ℕ → Option ℕ) (es ps : List (ℕ × ℕ)) → ((q : ℕ) → lookup (is_at (nat_cmp q)) es ≡ f q) → (q : ℕ) → lookup (is_at (nat_cmp q)) (inserts es ps) ≡ update_all (eq_by_cmp nat_cmp) f ps q
lookup-inserts f es [] same q = same q
lookup-inserts f es (p ∷ ps) same q =
    lookup-inserts (update (eq_by_cmp nat_cmp) f p.0 (Some p.1)) (insert_entry nat_cmp es p.0 p.1) ps
    (λ r. elim (cases_eq r p.0) [
      | inl is ↦ rw (same_test p.0 r, eq-eqb r p.0 is, is) (lookup-insert_same p.0 p.1 es)
      | inr apart ↦ rw (same_test p.0 r, ne_eqb r p.0 apart) (lookup-insert_other p.0 r p.1 es apart ∙ same r)
    ]) q

-- ---- sorted entries in which each number is looked up alike are the same

at_head : (e : ℕ × ℕ) (es : List (ℕ × ℕ)) → lookup (is_at (nat_cmp e.0)) (e ∷ es) ≡ Some e.1
at_head e es = rw (same_test e.0 e.0, eq-eqb e.0 e.0 refl) refl

below_head : (n : ℕ) (e : ℕ × ℕ) (es : List (ℕ × ℕ)) → n < e.0 → IsStrictlySortedBy nat_cmp (keys_of (e ∷ es)) → lookup (is_at (nat_cmp n)) (e ∷ es) ≡ None
below_head n e es below sorted = rw (same_test n e.0, ne_eqb e.0 n (λ same. absurd (omega (arith, below, same)))) (lookup_above n e.0 es (omega arith) (sorted_head nat_cmp e.0 (keys_of es) sorted))

not_there : {x : ℕ} → Some x ≡ None → ⊥
not_there same = cc

same_entries : (es fs : List (ℕ × ℕ)) → IsStrictlySortedBy nat_cmp (keys_of es) → IsStrictlySortedBy nat_cmp (keys_of fs) → ((q : ℕ) → lookup (is_at (nat_cmp q)) es ≡ lookup (is_at (nat_cmp q)) fs) → es ≡ fs
same_entries [] [] s t same = refl
same_entries [] (f ∷ fs) s t same = absurd (not_there (sym (at_head f fs) ∙ sym (same f.0)))
same_entries (e ∷ es) [] s t same = absurd (not_there (sym (at_head e es) ∙ same e.0))
same_entries (e ∷ es) (f ∷ fs) s t same =
    elim (cases_order e.0 f.0) [
      | inl is ↦
          let both : Some e.1 ≡ Some f.1 = sym (at_head e es) ∙ same e.0 ∙ rw (same_test e.0 f.0, eq-eqb f.0 e.0 (sym is)) refl in
          let value : e.1 ≡ f.1 = cc in
          let later : (q : ℕ) → lookup (is_at (nat_cmp q)) es ≡ lookup (is_at (nat_cmp q)) fs = λ q. elim (cases_eq q e.0) [
            | inl here ↦ lookup_above q e.0 es (omega (arith, here)) (sorted_head nat_cmp e.0 (keys_of es) s) ∙ sym (lookup_above q f.0 fs (omega (arith, here, is)) (sorted_head nat_cmp f.0 (keys_of fs) t))
            | inr apart ↦ rw (same_test q e.0, same_test q f.0, ne_eqb e.0 q (λ i. apart (sym i)), ne_eqb f.0 q (λ i. apart (sym (is ∙ i)))) at (same q)
          ] in
          let rest = same_entries es fs (sorted_tail nat_cmp e.0 (keys_of es) s) (sorted_tail nat_cmp f.0 (keys_of fs) t) later in
          rw rest (ap (λ p. p ∷ fs) (λ i. (is i, value i)))
      | inr apart ↦ elim apart [
        | inl below ↦ absurd (not_there (sym (at_head e es) ∙ same e.0 ∙ below_head e.0 f fs below t))
        | inr above ↦ absurd (not_there (sym (at_head f fs) ∙ sym (same f.0) ∙ below_head f.0 e es above s))
      ]
    ]

-- a map that is made at once has the entries that are inserted one after another
entries_of : (ps : List (ℕ × ℕ)) (m : BTreeMap ℕ ℕ) → IsFromIterResult nat_cmp ps m → m.entries ≡ inserts [] ps
entries_of ps m made = same_entries m.entries (inserts [] ps) made.1 (sorted-inserts ps) (λ q. made.0 q ∙ sym (lookup-inserts (λ _. None) [] ps (λ r. refl) q))

-- ---- a table over such a map

module _ {V : Type 0} (number : V → ℕ) where
  ArePut-append : (before xs last : List V) (v : V) → ArePut number before xs last → with_number number (number v) last ≡ None → ArePut number before (xs ++ v ∷ []) (put_in number v last)
  ArePut-append before [] last v put none = (rw put at none, ap (put_in number v) put)
  ArePut-append before (x ∷ xs) last v put none = (put.0, ArePut-append (put_in number x before) xs last v put.1 none)

  pub length-ArePut : (before xs last : List V) → ArePut number before xs last → length last ≡ length before + length xs
  length-ArePut before [] last put = rw put (omega arith)
  length-ArePut before (x ∷ xs) last put = omega (arith, length-ArePut (put_in number x before) xs last put.1, length-put_in number x before put.0)

  pub ArePut-same : (before xs last other : List V) → ArePut number before xs last → ArePut number before xs other → last ≡ other
  ArePut-same before [] last other put same = put ∙ sym same
  ArePut-same before (x ∷ xs) last other put same = ArePut-same (put_in number x before) xs last other put.1 same.1

  -- the entries are of the numbers of these values
  HaveNumbers : List (ℕ × ℕ) → List V → Type 0
  HaveNumbers es before = (n : ℕ) → is_some (lookup (is_at (nat_cmp n)) es) ≡ is_some (with_number number n before)

  none_from : (n : ℕ) (es : List (ℕ × ℕ)) (before : List V) → HaveNumbers es before → with_number number n before ≡ None → lookup (is_at (nat_cmp n)) es ≡ None
  unfolding HaveNumbers
  none_from n es before have none =
      elim (lookup (is_at (nat_cmp n)) es) as (λ o. is_some o ≡ is_some (with_number number n before) → o ≡ None) [
        | None ↦ λ is. refl
        | Some t ↦ λ is. let not : true ≡ is_some {T = V} None = is ∙ ap is_some none in absurd (cc)
      ] (have n)

  one_more : (es : List (ℕ × ℕ)) (before : List V) (s : ℕ) (x : V) → HaveNumbers es before → HaveNumbers (insert_entry nat_cmp es (number x) s) (put_in number x before)
  unfolding HaveNumbers
  one_more es before s x have n =
      elim (cases_eq n (number x)) [
        | inl same ↦ rw (with_number-put_in number n x before, eq-eqb (number x) n (sym same), same) (ap is_some (lookup-insert_same (number x) s es))
        | inr apart ↦ rw (with_number-put_in number n x before, ne_eqb (number x) n (λ is. apart (sym is))) (ap is_some (lookup-insert_other (number x) n s es apart) ∙ have n)
      ]

  all_new : (es ps : List (ℕ × ℕ)) (before xs last : List V) → HaveNumbers es before → keys_of ps ≡ map number xs → ArePut number before xs last → length (inserts es ps) ≡ length es + length ps
  all_new es [] before xs last have keys put = omega arith
  all_new es (p ∷ ps) before [] last have keys put = absurd (cc)
  all_new es (p ∷ ps) before (x ∷ xs) last have keys put =
      let first : p.0 ≡ number x = cc in
      let later : keys_of ps ≡ map number xs = cc in
      let none = none_from (number x) es before have put.0 in
      let more : length (insert_entry nat_cmp es p.0 p.1) ≡ length es + 1 = length-insert_new p.0 p.1 es (rw first none) in
      let so : HaveNumbers (insert_entry nat_cmp es p.0 p.1) (put_in number x before) = rw first (one_more es before p.1 x have) in
      omega (arith, all_new (insert_entry nat_cmp es p.0 p.1) ps (put_in number x before) xs last so later put.1, more)

  -- where a number stands twice, no list has all values put in
  pub none_put : (values : List V) (pairs : List (ℕ × ℕ)) (m : BTreeMap ℕ ℕ) → keys_of pairs ≡ map number values → IsFromIterResult nat_cmp pairs m → (length m.entries ≡ length pairs → ⊥) → (last : List V) → ArePut number [] values last → ⊥
  unfolding HaveNumbers
  none_put values pairs m keys from fewer last put = fewer (omega (arith, ap (λ l. length l) (entries_of pairs m from), all_new [] pairs [] values last (λ n. refl) keys put))

  -- where no number stands twice, these slots and pairs make the table of the values so far
  abbrev pub IsMade : List V → Slab V → List (ℕ × ℕ) → Type 0
  IsMade done s pairs = length (inserts [] pairs) ≡ length pairs → IsTable number s.slots (inserts [] pairs) × ArePut number [] done (values_in s.slots (inserts [] pairs))

  pub none_made : (s : Slab V) → s.slots ≡ [] → IsMade [] s []
  unfolding IsStrictlySortedBy
  none_made s none same = (
    record { rises = tt; linked = tt; numbered = tt; housed = rw none (λ slot value is. absurd (cc)) },
    refl,
  )

  pub made_more : (done : List V) (old mid new : Slab V) (pairs pairs' : List (ℕ × ℕ)) (k slot at : ℕ) (v : V) → k ≡ number v → mid ≡ record old { capacity = mid.capacity } → slot ≡ mid.vacant_key → get mid slot ≡ None → at ≡ mid.vacant_key → Updates mid new at (Some v) → pairs' ≡ pairs ++ (k, slot) ∷ [] → IsMade done old pairs → IsMade (done ++ v ∷ []) new pairs'
  made_more done old mid new pairs pairs' k slot at v its kept is vacant same updates put made whole =
      let es : List (ℕ × ℕ) = inserts [] pairs in
      let put' : inserts [] pairs' ≡ insert_entry nat_cmp es k slot = ap (inserts []) put ∙ inserts-append [] pairs (k, slot) in
      let count : length pairs' ≡ length pairs + 1 = rw put (omega (arith, length-append pairs ((k, slot) ∷ []))) in
      let least : length (insert_entry nat_cmp es k slot) ≡ length pairs + 1 = ap (λ l. length l) (sym put') ∙ whole ∙ count in
      let so_far : length es ≡ length pairs = omega (arith, least, length-inserts [] pairs, length-insert k slot es) in
      let so = made so_far in
      let new_number : lookup (is_at (nat_cmp (number v))) es ≡ None = rw its at (fresh k slot es (sorted-inserts pairs) (omega (arith, least, so_far))) in
      let none = missing number old.slots es so.0 (number v) new_number in
      let both = inserted_in number old mid new es (inserts [] pairs') k slot at v its kept is vacant same updates put' (sorted-inserts pairs') so.0 none in
      (both.1, rw both.0 (ArePut-append [] done (values_in old.slots es) v so.1 none))

  -- the map of as many entries as pairs makes the whole table
  pub whole : (values : List V) (s : Slab V) (pairs : List (ℕ × ℕ)) (m : BTreeMap ℕ ℕ) → IsMade values s pairs → IsFromIterResult nat_cmp pairs m → length m.entries ≡ length pairs → IsTable number s.slots m.entries × ArePut number [] values (values_in s.slots m.entries)
  whole values s pairs m made from same = let entries = entries_of pairs m from in rw entries (made (sym (ap (λ l. length l) entries) ∙ same))
