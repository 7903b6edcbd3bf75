-- How the network of an instance and its domains is made.
use Rattle.std.proofs.Common.{◌≡◌, ℕ, ◌+◌, ◌*◌, ◌/◌, ◌<◌, ◌≤◌, ◌⊎◌, ◌↔◌, Bool, true, false, List, [], ◌∷◌, ◌++◌, length, replicate, get_or, IsTrue, refl, sym, ◌∙◌, ap, subst, inl, inr, arith}
use Rattle.std.specs.List.{Contains}
use Rattle.std.specs.List.Sorted.{IsStrictlyIncreasing}
use Rattle.std.specs.Prelude.{slice_set}
use Rattle.std.proofs.Math.Nat.{min-le_left}
use Rattle.std.proofs.lemmas.Nat.{mul-le}
use Rattle.std.proofs.lemmas.Bool.{cases_eq, cases_order}
use Rattle.std.proofs.lemmas.List.{get_or_default, get_or-replicate, get_or-set_other, get_or-set_same, length-append, length-set}
use Rattle.std.proofs.lemmas.List.Kept.{AllPairs-from_increasing}
use Rattle.pesp_base.specs.declared.activity.Activity.{Activity}
use Rattle.pesp_instance.specs.Network.{IsNetwork, Network, event_ids, has_event}
use Rattle.pesp_domains.specs.declared.pair.Pair.{Pair}
use Rattle.pesp_domains.specs.Domains.{InDomains, IsDomain, holds}
use Rattle.pesp_search_network.specs.Arcs.{Arcs}
use Rattle.pesp_search_graph.specs.declared.arc.Arc.{Arc}
use Rattle.pesp_search.specs.Arcs.{AreArcsOf, AreDomains, IsArcOf, IsNetworkOf}
use Rattle.pesp_search.proofs.Events.{index_of}

-- ---- the index of an event

-- rising numbers do not fall
pub never_fall : (xs : List ℕ) → IsStrictlyIncreasing xs → (i j : ℕ) → i ≤ j → j < length xs → get_or xs i 0 ≤ get_or xs j 0
never_fall xs rises i j low within =
    elim (cases_eq i j) [
      | inl same ↦ subst (λ k. get_or xs i 0 ≤ get_or xs k 0) same (omega arith)
      | inr apart ↦ (let less = AllPairs-from_increasing xs rises i j 0 (omega (arith, low, apart)) within in omega (arith, less))
    ]

-- a number among others does not lie between two neighbours
pub not_between : (xs : List ℕ) (x i : ℕ) → ((k : ℕ) → k < i → get_or xs k 0 < x) → ((k : ℕ) → i ≤ k → k < length xs → x < get_or xs k 0) → Contains xs x → ⊥
not_between xs x i before after is =
    let same = get_or_default xs is.0 0 x is.1 in
    elim (cases_order is.0 i) [
      | inl here ↦ omega (arith, after is.0 (omega (arith, here)) is.1, same, is.2)
      | inr (inl low) ↦ omega (arith, before is.0 low, same, is.2)
      | inr (inr high) ↦ omega (arith, after is.0 (omega (arith, high)) is.1, same, is.2)
    ]

-- an event of an instance is among its events
pub event_among : (I : Network) (e : ℕ) → IsTrue (has_event I e) → Contains (event_ids I) e
event_among I e is = let w = index_of I e is in (w.0, w.1, (let same = get_or_default (event_ids I) w.0 e 0 w.1 in same ∙ w.2))

-- ---- arcs of activities

-- one arc more is of one activity more
pub arcs_more : (ids : List ℕ) (front : List Activity) (xs : List Arc) (a : Activity) (x : Arc) → AreArcsOf ids front xs → IsArcOf ids a x → AreArcsOf ids (front ++ a ∷ []) (xs ++ x ∷ [])
arcs_more ids [] [] a x are is = (is, tt)
arcs_more ids [] (y ∷ xs) a x are is = absurd are
arcs_more ids (b ∷ front) [] a x are is = absurd are
arcs_more ids (b ∷ front) (y ∷ xs) a x are is = (are.0, arcs_more ids front xs a x are.1 is)

-- there are as many
pub as_many : (ids : List ℕ) (front : List Activity) (xs : List Arc) → AreArcsOf ids front xs → length xs ≡ length front
as_many ids [] [] are = refl
as_many ids [] (y ∷ xs) are = absurd are
as_many ids (b ∷ front) [] are = absurd are
as_many ids (b ∷ front) (y ∷ xs) are = omega (arith, as_many ids front xs are.1)

-- there is room for the arc of each activity
pub room_for_arc : (I : Network) (ids : List ℕ) (front left : List Activity) (a : Activity) (xs : List Arc) → IsNetwork I → front ++ a ∷ left ≡ I.activities → AreArcsOf ids front xs → length xs < 100000
room_for_arc I ids front left a xs ok all are =
    let few = ok.few_activities in
    omega (arith, few, ap length all, length-append front (a ∷ left), as_many ids front xs are, min-le_left 100000 (12000000 / I.period))

-- ---- rows

-- the row of an event is before that of a later one
pub block : (p q T : ℕ) → p < q → p * T + T ≤ q * T
block p q T h = let e = mul-le (p + 1) T q T (omega arith) (omega arith) in omega (arith, e)

-- a residue of an event has its place in the rows
pub in_rows : (rows : List Bool) (index r T n : ℕ) → length rows ≡ n * T → index < n → r < T → index * T + r < length rows
in_rows rows index r T n long within low = omega (arith, block index n T within, low, long)

-- what is known of the row of an event, which was full, while residues are forbidden: those before this one are as in the domain
pub record IsKept (old new row : List Bool) (start T residue : ℕ) : Type 0 where
  pub long : length new ≡ length old
  pub kept : (r : ℕ) → r < residue → get_or new (start + r) false ≡ holds row r
  pub full : (r : ℕ) → residue ≤ r → r < T → get_or new (start + r) false ≡ true
  pub others : (k : ℕ) → ((k < start) ⊎ (start + T ≤ k)) → get_or new k false ≡ get_or old k false

-- a residue more is in the domain
pub kept_more : (old new row : List Bool) (start T residue : ℕ) → residue < T → IsKept old new row start T residue → holds row residue ≡ true → IsKept old new row start T (residue + 1)
kept_more old new row start T residue below is held =
    record {
      long = is.long;
      kept = λ r less.
          elim (cases_eq r residue) [
            | inl same ↦ rw same (is.full residue (omega arith) below ∙ sym held)
            | inr apart ↦ is.kept r (omega (arith, less, apart))
          ];
      full = λ r low less. is.full r (omega (arith, low)) less;
      others = is.others;
    }

-- the rows of the first events are their domains, and all others are full
pub record AreKept (I : Network) (pushes : List Pair) (rows : List Bool) (events n : ℕ) : Type 0 where
  pub domains : (index r : ℕ) → index < n → r < I.period → IsTrue (get_or rows (index * I.period + r) false) ↔ InDomains I pushes (get_or (event_ids I) index 0) r
  pub full : (index r : ℕ) → n ≤ index → index < events → r < I.period → get_or rows (index * I.period + r) false ≡ true

-- all are full at first
pub none_kept : (I : Network) (pushes : List Pair) (events : ℕ) → AreKept I pushes (replicate (events * I.period) true) events 0
none_kept I pushes events =
    record {
      domains = λ index r less low. absurd (omega (arith, less));
      full = λ index r low within less. get_or-replicate (events * I.period) (index * I.period + r) true false (omega (arith, block index events I.period within, less));
    }

-- a row more
pub row_kept : (I : Network) (pushes : List Pair) (old new row : List Bool) (events n : ℕ) → AreKept I pushes old events n → IsDomain I pushes (get_or (event_ids I) n 0) row
    → ((r : ℕ) → r < I.period → get_or new (n * I.period + r) false ≡ holds row r) → ((k : ℕ) → ((k < n * I.period) ⊎ (n * I.period + I.period ≤ k)) → get_or new k false ≡ get_or old k false) → AreKept I pushes new events (n + 1)
row_kept I pushes old new row events n before domain kept others =
    record {
      domains = λ index r less low.
          elim (cases_eq index n) [
            | inl same ↦ rw same (rw (kept r low) (domain.exact r))
            | inr apart ↦
                let under : index < n = omega (arith, less, apart) in
                rw (others (index * I.period + r) (inl (omega (arith, block index n I.period under, low)))) (before.domains index r under low)
          ];
      full = λ index r low within less. others (index * I.period + r) (inr (omega (arith, block n index I.period (omega (arith, low)), less))) ∙ before.full index r (omega (arith, low)) within less;
    }
