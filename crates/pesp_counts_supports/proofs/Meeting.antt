-- What is met by what moved comes to the rows.
use Rattle.std.proofs.Common.{◌≡◌, ℕ, ◌+◌, ◌-◌, ◌%◌, ◌<◌, ◌≤◌, ◌&&◌, ◌||◌, not, nat_lt, Bool, true, false, Option, List, [], ◌∷◌, ◌++◌, get_or, refl, sym, ap, ◌∙◌, arith, IsTrue, if◌then◌else◌, ◌==◌}
use Rattle.std.proofs.lemmas.Bool.Decides.{nat_tests}
use Rattle.std.proofs.Math.Nat.{mod-lt, mod_self}
use Rattle.std.proofs.lemmas.Bool.{eq-eqb, lt-ltb, eqb-true as eqb_is}
use Rattle.std.proofs.lemmas.List.Folds.{list_any-append}
use Rattle.pesp_instance.specs.Network.{Network}
use Rattle.pesp_domains.specs.Sweeps.{Pairs}
use Rattle.pesp_counts_arcs.specs.declared.end.End.{End}
use Rattle.pesp_counts_arcs.specs.Ends.{end_at, passes}
use Rattle.pesp_counts_arcs.specs.Links.{Links}
use Rattle.pesp_counts_supports.specs.Blocks.{AreSums, is_met, is_met_by, of_block, of_blocks, of_met, joined_block}
use Rattle.pesp_counts_supports.specs.Counts.{has_at, supporters}
use Rattle.pesp_counts_supports.specs.declared.moving.Moved.{Moved}
use Rattle.pesp_counts_supports.specs.declared.moving.Moved.TheVariants.{Block, One}
use Rattle.pesp_counts_supports.specs.Moves.{comes_of, is_leveled}
use Rattle.pesp_counts_supports.specs.Restored.{of_pair}
use Rattle.pesp_counts_supports.specs.Restoring.{is_spared}
use Rattle.pesp_counts_supports.specs.Supports.{Supports}
use Rattle.pesp_counts_supports.proofs.SumLaws.{window_holds}

-- ---- tests of pairs

-- one pair more
pub met_then : (sums : List ℕ) (met : Option End) (may other all : Pairs) → ((p r : ℕ) → (may p r || other p r) ≡ all p r) → (p r : ℕ) → (of_met sums met may p r || of_met sums met other p r) ≡ of_met sums met all p r
met_then sums met may other all same p r = grind (arith, same p r)

pub met_none : (sums : List ℕ) (met : Option End) (may : Pairs) → ((p r : ℕ) → IsTrue (may p r) → ⊥) → (p r : ℕ) → IsTrue (of_met sums met may p r) → ⊥
met_none sums met may none p r h = grind (arith, none p r)

-- a pair that what moved meets
pub met_one : (sums : List ℕ) (met : Option End) (place residue : ℕ) → is_met_by sums met residue ≡ true → (p r : ℕ) → of_pair place residue p r ≡ of_met sums met (of_pair place residue) p r
met_one sums met place residue meets p r = grind (arith, nat_tests, meets)

-- ---- sums and partners

module _ (T : ℕ) (D : ℕ → Bool) (sums : List ℕ) (are : AreSums T D sums) (end : End) (first : end.first < T) (width : end.width ≤ T) where
  -- a block meets what has a partner in it
  pub met_is : (r : ℕ) → r < T → is_met sums end r ≡ nat_lt 0 (supporters T D (passes T end r))
  met_is r rl =
      let same : end.first + r + end.width ≡ end.first + end.width + r = omega arith in
      let is = ap (λ i. get_or sums i 0) same in
      let holds = window_holds T D sums end r are rl first width in
      grind (arith, nat_tests, is, holds)

-- ---- one end more

pub blocks_one : (T : ℕ) (I : Network) (links : Links) (spared : Option ℕ) (D : ℕ → Bool) (done : List ℕ) (m : ℕ) → is_spared spared m ≡ false → (p r : ℕ) → (of_blocks T I links spared D done p r || of_block T I links D (end_at links.ends (end_at links.ends m).mate) (end_at links.ends m).looks_at p r) ≡ of_blocks T I links spared D (done ++ m ∷ []) p r
blocks_one T I links spared D done m free p r =
    let test : ℕ → Bool = λ k. not (is_spared spared k) && of_block T I links D (end_at links.ends (end_at links.ends k).mate) (end_at links.ends k).looks_at p r in
    grind (arith, list_any-append test done (m ∷ []), free)

pub blocks_none : (T : ℕ) (I : Network) (links : Links) (spared : Option ℕ) (D : ℕ → Bool) (done : List ℕ) (m : ℕ) → is_spared spared m ≡ true → (p r : ℕ) → of_blocks T I links spared D done p r ≡ of_blocks T I links spared D (done ++ m ∷ []) p r
blocks_none T I links spared D done m out p r =
    let test : ℕ → Bool = λ k. not (is_spared spared k) && of_block T I links D (end_at links.ends (end_at links.ends k).mate) (end_at links.ends k).looks_at p r in
    grind (arith, list_any-append test done (m ∷ []), out)

-- ---- some residue goes with each

pub passes_some : (T : ℕ) (end : End) (s : ℕ) → 0 < T → 0 < end.width → passes T end s ((s + end.first) % T) ≡ true
passes_some T end s some wide =
    let at : ℕ = (s + end.first) % T in
    let below = mod-lt (s + end.first) some in
    let whole : at + (T - at) ≡ T = omega (arith, below) in
    let none : (at + (T - at)) % T ≡ 0 = ap (λ n. n % T) whole ∙ mod_self T in
    ap (λ n. nat_lt n end.width) none ∙ lt-ltb 0 end.width wide

-- ---- what comes with a pair

-- what comes with a pair that is not counted yet is in the rows, and not counted
pub came_with : (s : Supports) (p x : ℕ) (coming : Moved) → IsTrue (has_at s.rows p x) → has_at s.counted p x ≡ false → ((residue : ℕ) → coming ≡ One residue → residue ≡ x) → (r : ℕ) → IsTrue (comes_of s p coming r) → IsTrue (has_at s.rows p r) × (has_at s.counted p r ≡ false)
came_with s p x (One residue) there lone alone r h =
    let same : r ≡ x = eqb_is r residue h ∙ alone residue refl in
    (ap (has_at s.rows p) same ∙ there, ap (has_at s.counted p) same ∙ lone)
came_with s p x Block there lone alone r h = grind (arith, h)

-- and the pair is among it
pub came_itself : (s : Supports) (p x : ℕ) (coming : Moved) → IsTrue (has_at s.rows p x) → has_at s.counted p x ≡ false → ((residue : ℕ) → coming ≡ One residue → residue ≡ x) → IsTrue (comes_of s p coming x)
came_itself s p x (One residue) there lone alone = eq-eqb x residue (sym (alone residue refl))
came_itself s p x Block there lone alone = rw (there, lone) refl

-- what a place's row holds and is leveled, is what was counted there and what came
pub level_joins : (s : Supports) (place : ℕ) (l : Moved) → ((d : ℕ) → IsTrue (comes_of s place l d) → IsTrue (has_at s.rows place d)) → ((d : ℕ) → IsTrue (comes_of s place l d) → d < s.period) → ((p r : ℕ) → IsTrue (has_at s.counted p r) → IsTrue (has_at s.rows p r))
    → (p r : ℕ) → (if p == place && is_leveled s.period l r then has_at s.rows p r else has_at s.counted p r) ≡ joined_block (has_at s.counted) place (comes_of s place l) p r
level_joins s place (One residue) there below within p r = grind (arith, nat_tests, there r)
level_joins s place Block there below within p r = grind (arith, nat_tests, there r, below r, within p r)
