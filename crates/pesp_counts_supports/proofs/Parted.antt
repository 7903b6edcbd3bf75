-- Residues that leave a set together, and what is owed for pairs that wait.
use Rattle.std.proofs.Common.{◌≡◌, ℕ, zero, suc, ◌+◌, ◌-◌, ◌*◌, ◌<◌, ◌≤◌, ◌==◌, ◌&&◌, not, cond, Bool, false, List, length, get_or, take, drop, sum_by, refl, sym, ap, ◌∙◌, arith, IsTrue}
use Rattle.std.specs.List.{Contains}
use Rattle.std.proofs.lemmas.Bool.{eq-eqb}
use Rattle.std.proofs.lemmas.List.{drop-append-le, get_or-drop, length-drop}
use Rattle.std.proofs.lemmas.List.Sums.{sum_by-append, sum_by-drop_more, sum_by-le-sum_by, sum_by-take-drop}
use Rattle.std.proofs.Math.Seq.{drop-append_seam}
use Rattle.std.proofs.Math.Nat.{mul-le-mul_left}
use Rattle.pesp_domains.specs.Sweeps.{Of, Pairs}
use Rattle.pesp_counts_supports.specs.declared.trail.Placed.{Placed}
use Rattle.pesp_counts_arcs.specs.declared.end.End.{End}
use Rattle.pesp_counts_arcs.specs.Ends.{AreLinked, end_at, ends_of, passes}
use Rattle.pesp_counts_arcs.specs.Links.{Links}
use Rattle.pesp_counts_supports.specs.Counts.{supporters}
use Rattle.pesp_counts_supports.specs.Moves.{owed}
use Rattle.pesp_counts_supports.specs.Spent.{ends_at}
use Rattle.pesp_counts_supports.specs.Supports.{IsTaken, Supports}
use Rattle.pesp_counts_supports.proofs.Grown.{supporters_empty}
use Rattle.pesp_counts_supports.proofs.Supporters.{one, supporters_without}

-- a set without residues of a place
abbrev pub without_block : Pairs → ℕ → (ℕ → Bool) → Pairs
without_block S place D p r = S p r && not (p == place && D r)

-- ---- supporters, as residues leave

-- those of a set are those that stay and those that leave
pub supporters_parted : (n : ℕ) (S S' D f : ℕ → Bool) → ((s : ℕ) → S' s ≡ (S s && not (D s))) → ((s : ℕ) → IsTrue (D s) → IsTrue (S s)) → supporters n S' f + supporters n D f ≡ supporters n S f
supporters_parted zero S S' D f stays within = omega arith
supporters_parted (suc n) S S' D f stays within =
    let rest = supporters_parted n S S' D f stays within in
    grind (arith, rest, stays n, within n)

-- of one residue there is one where it passes
pub supporters_single : (n : ℕ) (D f : ℕ → Bool) (r : ℕ) → r < n → ((s : ℕ) → D s ≡ (s == r)) → supporters n D f ≡ one (f r)
supporters_single n D f r l is =
    let parts = supporters_without n D (λ s. false) f r (λ s. grind (arith, is s)) l (is r ∙ eq-eqb r r refl) in
    omega (arith, parts, supporters_empty n (λ s. false) f (λ s. refl))

-- along an end one residue that leaves is the partner of those that it passes
pub partners_of_one : (period : ℕ) (ends : List End) (lists : List (List ℕ)) (p m : ℕ) (D : ℕ → Bool) (s r : ℕ) → AreLinked period ends lists → Contains (ends_of lists p) m → s < period → r < period → ((q : ℕ) → D q ≡ (q == s)) → supporters period D (passes period (end_at ends (end_at ends m).mate) r) ≡ one (passes period (end_at ends m) s r)
partners_of_one period ends lists p m D s r linked listed sl rl is =
    supporters_single period D (passes period (end_at ends (end_at ends m).mate) r) s sl is ∙ ap one (sym ((linked.each p m listed).both_ways s r sl rl))

-- ---- what is owed

-- no more than for all pairs
pub owed_most : (links : Links) (S : Pairs) (xs : List Placed) → owed links S xs ≤ ends_at links xs
owed_most links S xs =
    sum_by-le-sum_by (λ (x : Placed). cond (S x.place x.residue) (length (ends_of links.lists x.place)) 0) (λ x. length (ends_of links.lists x.place)) xs (λ x. grind arith)

-- one term falls by so much, and none rises
sum_less : (f g : Placed → ℕ) (xs : List Placed) (x : Placed) (d : ℕ) → Contains xs x → ((y : Placed) → f y ≤ g y) → f x + d ≤ g x → sum_by f xs + d ≤ sum_by g xs
sum_less f g xs x d (k, within, at) less here =
    let f_all = sum_by-take-drop f xs k in
    let g_all = sum_by-take-drop g xs k in
    let f_here = sum_by-drop_more f xs k x within in
    let g_here = sum_by-drop_more g xs k x within in
    let before = sum_by-le-sum_by f g (take k xs) less in
    let after = sum_by-le-sum_by f g (drop (k + 1) xs) less in
    omega (arith, f_all, g_all, f_here, g_here, before, after, ap f at, ap g at, here)

-- a pair of the set that leaves pays for the ends at its place
pub owed_one : (links : Links) (S S' : Pairs) (p r : ℕ) (xs : List Placed) → Contains xs (record { place = p; residue = r }) → Of S p r → S' p r ≡ false → ((q s : ℕ) → Of S' q s → Of S q s) → owed links S' xs + length (ends_of links.lists p) ≤ owed links S xs
owed_one links S S' p r xs waits there left fewer =
    sum_less (λ (x : Placed). cond (S' x.place x.residue) (length (ends_of links.lists x.place)) 0) (λ x. cond (S x.place x.residue) (length (ends_of links.lists x.place)) 0) xs (record { place = p; residue = r }) (length (ends_of links.lists p)) waits
    (λ x. grind (arith, fewer x.place x.residue)) (rw (there, left) (omega arith))

-- a pair that stands in a list from a place on is in the rest
pub stands_from : (xs : List Placed) (next i : ℕ) (x : Placed) → next ≤ i → i < length xs → get_or xs i x ≡ x → Contains (drop next xs) x
stands_from xs next i x le within at =
    let same : next + (i - next) ≡ i = omega (arith, le) in
    (i - next, omega (arith, le, within, length-drop next xs), get_or-drop next xs (i - next) x ∙ ap (λ n. get_or xs n x) same ∙ at)

-- pairs were taken, and those that left paid for the looks
pub paid : (links : Links) (before after : Supports) (period next spent : ℕ) (S S' : Pairs) → IsTaken before after → next < length before.trail → after.probes ≤ before.probes + period * spent → owed links S' (drop next before.trail) + spent ≤ owed links S (drop next before.trail)
    → after.probes + period * owed links S' (drop (next + 1) after.trail) ≤ before.probes + period * (owed links S (drop next before.trail) + ends_at links (drop (length before.trail) after.trail))
paid links before after period next spent S S' taken within looked less =
    let f : Placed → ℕ = λ x. cond (S' x.place x.residue) (length (ends_of links.lists x.place)) 0 in
    let none : Placed = record { place = 0; residue = 0 } in
    let grown : owed links S' (drop (next + 1) after.trail) ≡ owed links S' (drop (next + 1) before.trail) + owed links S' taken.more =
    ap (λ xs. owed links S' (drop (next + 1) xs)) taken.trail ∙ ap (owed links S') (drop-append-le (next + 1) before.trail taken.more (omega (arith, within))) ∙ sum_by-append f (drop (next + 1) before.trail) taken.more
    in
    let end : ends_at links (drop (length before.trail) after.trail) ≡ ends_at links taken.more =
    ap (λ xs. ends_at links (drop (length before.trail) xs)) taken.trail ∙ ap (ends_at links) (drop-append_seam before.trail taken.more)
    in
    let on = sum_by-drop_more f before.trail next none within in
    let most = owed_most links S' taken.more in
    let all : spent + owed links S' (drop (next + 1) after.trail) ≤ owed links S (drop next before.trail) + ends_at links (drop (length before.trail) after.trail) = omega (arith, grown, end, on, most, less) in
    omega (arith, mul-le-mul_left period all, looked)
