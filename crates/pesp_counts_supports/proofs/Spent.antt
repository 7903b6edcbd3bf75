-- The probes that pairs cost, by the ends at their places, and how ends pay for them.
use Rattle.std.proofs.Common.{◌≡◌, ℕ, ◌+◌, ◌≤◌, List, length, drop, min, sym, ap, ◌∙◌, arith, ◌-◌, ◌*◌, ◌<◌, [], ◌∷◌, ◌++◌, get_or, take, sum_by}
use Rattle.std.proofs.Math.Nat.{mul-le-mul_left, add-mul}
use Rattle.std.proofs.Math.Seq.{drop-append_seam}
use Rattle.std.proofs.lemmas.List.{drop-append-le, append-nil, take-append-le}
use Rattle.std.proofs.lemmas.List.Sums.{sum_by-append, sum_by_more}
use Rattle.pesp_counts_supports.specs.declared.trail.Placed.{Placed}
use Rattle.pesp_counts_arcs.specs.Ends.{ends_of}
use Rattle.pesp_counts_supports.specs.Counts.{has_at}
use Rattle.pesp_counts_arcs.specs.Links.{Links}
use Rattle.pesp_counts_supports.specs.Supports.{IsTaken, Keeps, Supports}
use Rattle.pesp_counts_supports.specs.Spent.{ends_at}
use Rattle.pesp_counts_supports.proofs.Taken.{taken_same}

-- a number that stops at the greatest one grows by no more than what is added
pub at_most : (old more most new : ℕ) → new ≡ min (old + more) most → new ≤ old + more
at_most old more most new is = omega (arith, is)

-- the trail grows at its end
pub ends_grown : (links : Links) (before after : Supports) (n : ℕ) (taken : IsTaken before after) → n ≤ length before.trail → ends_at links (drop n after.trail) ≡ ends_at links (drop n before.trail) + ends_at links taken.more
ends_grown links before after n taken within =
    ap (λ (xs : List Placed). ends_at links (drop n xs)) taken.trail
    ∙ ap (ends_at links) (drop-append-le n before.trail taken.more within)
    ∙ sum_by-append (λ (x : Placed). length (ends_of links.lists x.place)) (drop n before.trail) taken.more

-- what came to the end of the trail
pub ends_after : (links : Links) (before after : Supports) (n : ℕ) (taken : IsTaken before after) → n ≤ length before.trail → ends_at links (drop n after.trail) ≡ ends_at links (drop n before.trail) + ends_at links (drop (length before.trail) after.trail)
ends_after links before after n taken within =
    ends_grown links before after n taken within
    ∙ ap (λ xs. ends_at links (drop n before.trail) + ends_at links xs) (sym (ap (drop (length before.trail)) taken.trail ∙ drop-append_seam before.trail taken.more))

-- a look at a residue takes no pair
pub looked_taken : (before after : Supports) → after ≡ record before { probes = after.probes } → IsTaken before after
looked_taken before after is = taken_same before after (ap (λ (s : Supports). s.trail) is) (λ p r. ap (λ (s : Supports). has_at s.rows p r) is)

-- and the number of probes alone changes
pub looked_keeps : (before after : Supports) → after ≡ record before { probes = after.probes } → Keeps before after
looked_keeps before after is =
    record {
      period = ap (λ (s : Supports). s.period) is;
      counts = ap (λ (s : Supports). s.counts) is;
      counted = ap (λ (s : Supports). s.counted) is;
      many = ap (λ (s : Supports). length s.rows) is;
      room = ap (λ (s : Supports). s.room) is;
      sums = ap (λ (s : Supports). s.sums) is;
    }

-- ---- one end after another

-- the end is passed over, at no cost
pub one_end_less : (free back mid start now : ℕ) (all these rest : List ℕ) (number : ℕ) → these ≡ number ∷ rest
    → now + back + free * length these ≤ start + mid + free * length all
    → now + back + free * length rest ≤ start + mid + free * length all
one_end_less free back mid start now all these rest number is so_far =
    let long : free * length these ≡ free * (length rest + 1) = ap (λ xs. free * length xs) is ∙ ap (λ n. free * n) (omega arith) in
    omega (arith, long, so_far)

-- the end is looked along, and so many looks there are free
pub one_end_more : (free back mid more start now after : ℕ) (all these rest : List ℕ) (number : ℕ) → these ≡ number ∷ rest
    → now + back + free * length these ≤ start + mid + free * length all
    → after + mid ≤ now + more + free
    → after + back + free * length rest ≤ start + more + free * length all
one_end_more free back mid more start now after all these rest number is so_far looked =
    let long : free * length these ≡ free * (length rest + 1) = ap (λ xs. free * length xs) is ∙ ap (λ n. free * n) (omega arith) in
    omega (arith, long, so_far, looked)

-- ---- one pair after another

-- the ends of a pair more; the list may have grown at its end
pub ends_more : (links : Links) (before more after : List Placed) (next : ℕ) (x : Placed) → after ≡ before ++ more → next < length before → x ≡ get_or before next x → ends_at links (take (next + 1) after) ≡ ends_at links (take next before) + length (ends_of links.lists x.place)
ends_more links before more after next x is within at =
    let ends : Placed → ℕ = λ y. length (ends_of links.lists y.place) in
    ap (λ xs. sum_by ends (take (next + 1) xs)) is
    ∙ ap (sum_by ends) (take-append-le (next + 1) before more (omega (arith, within)))
    ∙ sum_by_more ends before next x within
    ∙ ap (λ y. sum_by ends (take next before) + ends y) (sym at)

-- a pair that is passed over costs nothing, and its ends are paid for all the same
pub ends_passed : (T : ℕ) (links : Links) (back : List Placed) (next : ℕ) (x : Placed) → next < length back → x ≡ get_or back next x → (2 * T - 1) * ends_at links (take next back) ≤ (2 * T - 1) * ends_at links (take (next + 1) back)
ends_passed T links back next x within at =
    let more = ends_more links back [] back next x (sym (append-nil back)) within at in
    mul-le-mul_left (2 * T - 1) (let le : ends_at links (take next back) ≤ ends_at links (take (next + 1) back) = omega (arith, more) in le)

-- those for the counts and those for bringing, by end
pub both_shares : (T ends : ℕ) → 1 ≤ T → T * ends + (T - 1) * ends ≡ (2 * T - 1) * ends
both_shares T ends some =
    let whole : T + (T - 1) ≡ 2 * T - 1 = omega (arith, some) in
    sym (add-mul T (T - 1) ends) ∙ ap (λ n. n * ends) whole
