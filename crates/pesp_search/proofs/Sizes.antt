-- How many nodes of the tree are left at a node, that a search counts no more, and that there is at most one size.
use Rattle.std.proofs.Common.{◌≡◌, ℕ, ◌+◌, ◌-◌, ◌<◌, ◌≤◌, zero, suc, List, [], ◌∷◌, ◌++◌, length, refl, sym, ◌∙◌, subst, inl, inr, arith, append_assoc}
use Rattle.std.proofs.lemmas.List.{append-nil}
use Rattle.pesp_instance.specs.Network.{Network, event_ids}
use Rattle.pesp_search.specs.Paths.{InNext, IsDeadEnd}
use Rattle.pesp_search.specs.Tree.{AreNodes, IsSize, IsSumFrom, IsTreeSize}
use Rattle.pesp_search.specs.Nodes.{IsCounted, IsNext, Left}
use Rattle.pesp_search.proofs.Decided.{size_exists}

-- at the root all nodes below the prefix are left
pub left_start : (I : Network) (free : ℕ) (prefix : List ℕ) (n : ℕ) → IsSize I free prefix n → Left I free prefix [] 0 n
left_start I zero prefix n size = size
left_start I (suc free) prefix n (inl dead) = inl dead
left_start I (suc free) prefix n (inr live) = inr (I.period, omega arith, live.1)

-- residues that are passed over leave no more nodes
sum_skip : (I : Network) (free : ℕ) (path : List ℕ) (residues from more n : ℕ) → IsSumFrom (IsSize I free) I path (more + residues) from n → (m : ℕ) × IsSumFrom (IsSize I free) I path residues (from + more) m × (m ≤ n)
sum_skip I free path residues from zero n sum =
    let all : zero + residues ≡ residues = omega arith in
    let here : from ≡ from + zero = omega arith in
    (n, subst (λ f. IsSumFrom (IsSize I free) I path residues f n) here (subst (λ l. IsSumFrom (IsSize I free) I path l from n) all sum), omega arith)
sum_skip I free path residues from (suc more) n sum =
    let one : suc more + residues ≡ suc (more + residues) = omega arith in
    let whole : IsSumFrom (IsSize I free) I path (suc (more + residues)) from n = subst (λ l. IsSumFrom (IsSize I free) I path l from n) one sum in
    split (λ k sum. sum_skip I free path residues (suc from) more k sum) whole
  where
    up : (k : ℕ) → (m : ℕ) × IsSumFrom (IsSize I free) I path residues (suc from + more) m × (m ≤ k) → k ≤ n → (m : ℕ) × IsSumFrom (IsSize I free) I path residues (from + suc more) m × (m ≤ n)
    up k w less =
        let on : suc from + more ≡ from + suc more = omega arith in
        (w.0, subst (λ f. IsSumFrom (IsSize I free) I path residues f w.0) on w.1, (let few = w.2 in omega (arith, few, less)))

    split : ((k : ℕ) → IsSumFrom (IsSize I free) I path (more + residues) (suc from) k → (m : ℕ) × IsSumFrom (IsSize I free) I path residues (suc from + more) m × (m ≤ k)) → IsSumFrom (IsSize I free) I path (suc (more + residues)) from n → (m : ℕ) × IsSumFrom (IsSize I free) I path residues (from + suc more) m × (m ≤ n)
    split later (inl out) = up n (later n out.1) (omega arith)
    split later (inr (_, (m, size, (k, sum, total)))) = up k (later k sum) (omega (arith, total))

-- a step down takes one node
pub left_descend : (I : Network) (free : ℕ) (prefix path all : List ℕ) (from r n : ℕ) → prefix ++ path ≡ all → length path < free → (IsDeadEnd I all → ⊥) → from ≤ r → r < I.period → InNext I all r → Left I free prefix path from n → (m : ℕ) × Left I free prefix (path ++ r ∷ []) 0 m × (m + 1 ≤ n)
left_descend I zero prefix path all from r n is room live above below inside left = absurd (omega (arith, room))
left_descend I (suc free) prefix [] all from r n is room live above below inside left =
    let same : prefix ≡ all = sym (append-nil prefix) ∙ is in
    elim left [
      | inl dead ↦ absurd (live (subst (IsDeadEnd I) same dead.0))
      | inr rest ↦
          let at : InNext I prefix r = subst (λ q. InNext I q r) (sym same) inside in
          let more : ℕ = r - from in
          let later : ℕ = I.period - suc r in
          let up : from + more ≡ r = omega arith in
          let long : rest.0 ≡ more + suc later = omega (arith, rest.1) in
          let sum : IsSumFrom (IsSize I free) I prefix (more + suc later) from n = subst (λ l. IsSumFrom (IsSize I free) I prefix l from n) long rest.2 in
          let skipped = sum_skip I free prefix (suc later) from more n sum in
          let fewer = skipped.2 in
          let w = taken skipped.0 (subst (λ f. IsSumFrom (IsSize I free) I prefix (suc later) f skipped.0) up skipped.1) at in
          let less = w.2 in
          (w.0, w.1, omega (arith, fewer, less))
    ]
  where
    taken : (some : ℕ) → IsSumFrom (IsSize I free) I prefix (suc (I.period - suc r)) r some → InNext I prefix r → (m : ℕ) × Left I (suc free) prefix (r ∷ []) 0 m × (m + 1 ≤ some)
    taken some (inl out) at = absurd (out.0 at)
    taken some (inr (_, (m, size, (k, sum, total)))) at =
        let fits : r + 1 + (I.period - suc r) ≡ I.period = omega (arith, below) in
        let next : suc r ≡ r + 1 = omega arith in
        (m + k, (m, left_start I free (prefix ++ r ∷ []) m size, (k, (I.period - suc r, fits, subst (λ f. IsSumFrom (IsSize I free) I prefix (I.period - suc r) f k) next sum), refl)), omega (arith, total))
left_descend I (suc free) prefix (x ∷ path) all from r n is room live above below inside (a, left, (b, rest, total)) =
    let same : (prefix ++ x ∷ []) ++ path ≡ all = append_assoc prefix (x ∷ []) path ∙ is in
    let deeper = left_descend I free (prefix ++ x ∷ []) path all from r a same (omega (arith, room)) live above below inside left in
    let fewer = deeper.2 in
    (deeper.0 + b, (deeper.0, deeper.1, (b, rest, refl)), omega (arith, fewer, total))

-- a step back takes none
pub left_back : (I : Network) (free : ℕ) (prefix path : List ℕ) (x from n : ℕ) → Left I free prefix (path ++ x ∷ []) from n → (m : ℕ) × Left I free prefix path (x + 1) m × (m ≤ n)
left_back I zero prefix [] x from n left = absurd left
left_back I zero prefix (y ∷ path) x from n left = absurd left
left_back I (suc free) prefix [] x from n (a, left, (b, rest, total)) = (b, inr rest, omega (arith, total))
left_back I (suc free) prefix (y ∷ path) x from n (a, left, (b, rest, total)) =
    let deeper = left_back I free (prefix ++ y ∷ []) path x from a left in
    let fewer = deeper.2 in
    (deeper.0 + b, (deeper.0, deeper.1, (b, rest, refl)), omega (arith, fewer, total))

-- ---- the nodes of a search

-- before the first node all are left
pub counted_start : (I : Network) → IsCounted I [] 0 0
counted_start I =
    let size = size_exists I (length (event_ids I)) [] in
    record { size = size.0; tree = size.1; left = size.0; rest = left_start I (length (event_ids I)) [] size.0 size.1; within = omega arith }

-- a step down counts one
pub counted_descend : (P : List ℕ → Type 0) (I : Network) (path : List ℕ) (from r nodes more : ℕ) → IsNext P I path from r → more ≤ nodes + 1 → IsCounted I path from nodes → IsCounted I (path ++ r ∷ []) 0 more
counted_descend P I path from r nodes more next one counted =
    let taken = left_descend I (length (event_ids I)) [] path path from r counted.left refl next.room next.alive next.above next.below next.inside counted.rest in
    record { size = counted.size; tree = counted.tree; left = taken.0; rest = taken.1; within = omega (arith, counted.within, taken.2, one) }

-- a step back counts none
pub counted_back : (I : Network) (path : List ℕ) (x from nodes : ℕ) → IsCounted I (path ++ x ∷ []) from nodes → IsCounted I path (x + 1) nodes
counted_back I path x from nodes counted =
    let back = left_back I (length (event_ids I)) [] path x from counted.left counted.rest in
    record { size = counted.size; tree = counted.tree; left = back.0; rest = back.1; within = omega (arith, counted.within, back.2) }

-- so there are no more nodes than the tree has
pub counted_nodes : (I : Network) (path : List ℕ) (from nodes : ℕ) → IsCounted I path from nodes → AreNodes I nodes
counted_nodes I path from nodes counted = (counted.size, counted.tree, omega (arith, counted.within))

-- and fewer where a residue is yet to be tried
pub counted_below : (P : List ℕ → Type 0) (I : Network) (path : List ℕ) (from r nodes : ℕ) → IsNext P I path from r → IsCounted I path from nodes → (size : ℕ) × IsTreeSize I size × (nodes < size)
counted_below P I path from r nodes next counted =
    let taken = counted_descend P I path from r nodes (nodes + 1) next (omega arith) counted in
    (taken.size, taken.tree, omega (arith, taken.within))

-- no node at all is never more than the tree has
pub no_nodes : (I : Network) → AreNodes I 0
no_nodes I = counted_nodes I [] 0 0 (counted_start I)

-- ---- one size

-- where there is at most one size below each residue, there is at most one sum
pub sum_unique : (I : Network) (free : ℕ) (path : List ℕ) → ((r m n : ℕ) → IsSize I free (path ++ r ∷ []) m → IsSize I free (path ++ r ∷ []) n → m ≡ n)
    → (residues from m n : ℕ) → IsSumFrom (IsSize I free) I path residues from m → IsSumFrom (IsSize I free) I path residues from n → m ≡ n
sum_unique I free path one zero from m n sum other = sum ∙ sym other
sum_unique I free path one (suc residues) from m n (inl out) (inl also) = sum_unique I free path one residues (suc from) m n out.1 also.1
sum_unique I free path one (suc residues) from m n (inl out) (inr inside) = absurd (out.0 inside.0)
sum_unique I free path one (suc residues) from m n (inr inside) (inl out) = absurd (out.0 inside.0)
sum_unique I free path one (suc residues) from m n (inr (_, (a, size, (b, sum, total)))) (inr (_, (c, size', (d, sum', total')))) =
    let sizes = one from a c size size' in
    let sums = sum_unique I free path one residues (suc from) b d sum sum' in
    omega (arith, sizes, sums, total, total')

-- there is at most one size
pub size_unique : (I : Network) (free : ℕ) (path : List ℕ) (m n : ℕ) → IsSize I free path m → IsSize I free path n → m ≡ n
size_unique I zero path m n size other = size ∙ sym other
size_unique I (suc free) path m n (inl dead) (inl also) = dead.1 ∙ sym also.1
size_unique I (suc free) path m n (inl dead) (inr live) = absurd (live.0 dead.0)
size_unique I (suc free) path m n (inr live) (inl dead) = absurd (live.0 dead.0)
size_unique I (suc free) path m n (inr live) (inr also) = sum_unique I free path (λ r. size_unique I free (path ++ r ∷ [])) I.period 0 m n live.1 also.1
