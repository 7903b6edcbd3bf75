-- the nodes of a search: the first one, a step down, a step back, and the end.
use Rattle.std.proofs.Common.{◌≡◌, ℕ, suc, ◌+◌, ◌<◌, ◌≤◌, List, [], ◌∷◌, ◌++◌, length, get_or, refl, sym, ◌∙◌, ap, subst, inl, inr, arith, All}
use Rattle.std.proofs.lemmas.List.{length_push, get_or_append_left, get_or_push, same_from_push}
use Rattle.std.proofs.lemmas.List.Elements.{All-push, All-nil}
use Rattle.std.proofs.lemmas.List.Kept.{AllPairs-from_increasing}
use Rattle.pesp_instance.specs.Network.{IsNetwork, Network, event_ids}
use Rattle.pesp_domains.specs.declared.pair.Pair.{Pair}
use Rattle.pesp_domains.specs.Domains.{In}
use Rattle.pesp_search.specs.Paths.{pairs_of}
use Rattle.pesp_search.specs.Nodes.{Before, IsAt, IsFull, IsNext, IsSpent}
use Rattle.pesp_search.proofs.Timed.{pairs_only}
use Rattle.pesp_search.proofs.Order.{before_all, before_back, before_descend, before_raise}

-- ---- the pairs of a path

-- no times give no pairs
pub no_pairs : (ids : List ℕ) → pairs_of ids [] ≡ []
no_pairs [] = refl
no_pairs (e ∷ ids) = refl

-- a further time gives one further pair, that of the next event
pub pairs_push : (ids path : List ℕ) (r : ℕ) → length path < length ids → pairs_of ids (path ++ r ∷ []) ≡ pairs_of ids path ++ record { event = get_or ids (length path) 0; residue = r } ∷ []
pairs_push [] path r room = absurd (omega (arith, room))
pairs_push (e ∷ ids) [] r room = ap (λ ps. let q : Pair = record { event = e; residue = r } in q ∷ ps) (no_pairs ids)
pairs_push (e ∷ ids) (x ∷ path) r room =
    ap (λ ps. let q : Pair = record { event = e; residue = x } in q ∷ ps) (pairs_push ids path r (omega (arith, room)))

-- there is one pair for each time
pub pairs_length : (ids path : List ℕ) → length path ≤ length ids → length (pairs_of ids path) ≡ length path
pairs_length [] [] depth = refl
pairs_length [] (x ∷ path) depth = absurd (omega (arith, depth))
pairs_length (e ∷ ids) [] depth = refl
pairs_length (e ∷ ids) (x ∷ path) depth = ap suc (pairs_length ids path (omega (arith, depth)))

-- ---- the events of an instance

-- what holds of all times of a path holds of those before its last one
below_front : (n : ℕ) (path : List ℕ) (x : ℕ) → All (λ t. t < n) (path ++ x ∷ []) → All (λ t. t < n) path
below_front n path x h = λ k d l. subst (λ t. t < n) (get_or_append_left path (x ∷ []) d k l) (h k d (omega (arith, l, length_push path x)))

-- and of the last one
below_last : (n : ℕ) (path : List ℕ) (x : ℕ) → All (λ t. t < n) (path ++ x ∷ []) → x < n
below_last n path x h = subst (λ t. t < n) (get_or_push path x 0 (length path) refl) (h (length path) 0 (omega (arith, length_push path x)))

-- ---- the nodes

module _ (P : List ℕ → Type 0) (I : Network) where
  -- no times come before the first node
  nothing_before_start : (times : List ℕ) → Before times [] 0 → ⊥
  nothing_before_start [] h = h
  nothing_before_start (t ∷ times) h = omega (arith, h)

  -- a search starts at no times, with nothing pushed
  pub at_start : (pushes : List Pair) → pushes ≡ [] → IsAt P I pushes [] 0
  at_start pushes is =
      record {
        pairs = is ∙ sym (no_pairs (event_ids I));
        depth = omega arith;
        below = All-nil (λ t. t < I.period);
        small = omega arith;
        passed = λ times m b. absurd (nothing_before_start times b);
      }

  -- the next event has no pushed pair
  pub at_free : (pushes : List Pair) (path : List ℕ) (from : ℕ) → IsNetwork I → IsAt P I pushes path from → length path < length (event_ids I) → (s : ℕ) → In pushes (get_or (event_ids I) (length path) 0) s → ⊥
  at_free pushes path from network h room s i =
      let e : ℕ = get_or (event_ids I) (length path) 0 in
      let w = pairs_only (event_ids I) path e s (subst (λ ps. In ps e s) h.pairs i) in
      let less = AllPairs-from_increasing (event_ids I) network.events_rise w.0 (length path) 0 w.2 room in
      let same = w.3 in
      omega (arith, less, same)

  -- a step down, to the next time that is to be tried
  pub at_descend : (pushes : List Pair) (path : List ℕ) (from r : ℕ) → IsAt P I pushes path from → IsNext P I path from r → IsAt P I (pushes ++ record { event = get_or (event_ids I) (length path) 0; residue = r } ∷ []) (path ++ r ∷ []) 0
  at_descend pushes path from r h n =
      let room = n.room in
      record {
        pairs = ap (λ ps. ps ++ record { event = get_or (event_ids I) (length path) 0; residue = r } ∷ []) h.pairs ∙ sym (pairs_push (event_ids I) path r room);
        depth = omega (arith, length_push path r, room);
        below = All-push (λ t. t < I.period) path r h.below n.below;
        small = omega arith;
        passed = λ times m b.
            elim (before_raise times path from r (before_descend times path r b)) [
              | inl c ↦ h.passed times m c
              | inr w ↦ n.skips times m w.0 w.2 w.3
            ];
      }

  -- a step back, where nothing is left to try
  pub at_back : (pushes pushes' : List Pair) (last : Pair) (path : List ℕ) (x from : ℕ) → pushes ≡ pushes' ++ last ∷ [] → IsAt P I pushes (path ++ x ∷ []) from → IsSpent P I (path ++ x ∷ []) from → IsAt P I pushes' path (x + 1)
  at_back pushes pushes' last path x from is h spent =
      let depth = h.depth in
      let room : length path < length (event_ids I) = omega (arith, length_push path x, depth) in
      let under = below_last I.period path x h.below in
      let e : Pair = record { event = get_or (event_ids I) (length path) 0; residue = x } in
      let same = same_from_push pushes' (pairs_of (event_ids I) path) last e (sym is ∙ h.pairs ∙ pairs_push (event_ids I) path x room) in
      record {
        pairs = same.0;
        depth = omega (arith, room);
        below = below_front I.period path x h.below;
        small = omega (arith, under);
        passed = λ times m b.
            elim (before_back times path x from b) [
              | inl c ↦ h.passed times m c
              | inr w ↦ spent.passes times m w.0 w.1
            ];
      }

  -- where nothing is left to try for the first event, P holds of each full list of times
  pub at_end : (pushes : List Pair) (from : ℕ) → IsAt P I pushes [] from → IsSpent P I [] from → (times : List ℕ) → IsFull I times → P times
  at_end pushes from h spent [] m = spent.passes [] m tt (λ l. absurd (omega (arith, l)))
  at_end pushes from h spent (t ∷ times) m =
      elim (before_all (t ∷ times) from (omega arith)) [
        | inl b ↦ h.passed (t ∷ times) m b
        | inr g ↦ spent.passes (t ∷ times) m tt (λ _. g)
      ]

  -- one pair is pushed for each time
  pub at_length : (pushes : List Pair) (path : List ℕ) (from : ℕ) → IsAt P I pushes path from → length pushes ≡ length path
  at_length pushes path from h = ap length h.pairs ∙ pairs_length (event_ids I) path h.depth

  -- the last time is below the period
  pub last_below : (pushes : List Pair) (path : List ℕ) (x from : ℕ) → IsAt P I pushes (path ++ x ∷ []) from → x < I.period
  last_below pushes path x from h = below_last I.period path x h.below
