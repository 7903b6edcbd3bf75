-- What comes along one activity, and the looks for it.
use Rattle.std.proofs.Common.{◌≡◌, ℕ, zero, suc, ◌+◌, ◌-◌, ◌%◌, ◌<◌, ◌≤◌, ◌==◌, ◌&&◌, nat_lt, Bool, true, false, cond, Option, Some, None, IfSome, List, ◌++◌, ◌∷◌, refl, sym, ap, subst, ◌∙◌, ◌⊎◌, inl, inr, arith, IsTrue}
use Rattle.std.proofs.lemmas.Bool.Decides.{nat_tests}
use Rattle.std.proofs.Math.Nat.{mod-lt}
use Rattle.std.proofs.lemmas.Bool.{cases_Bool, cases_eq, cases_lt, ltb-true, eqb-true, and_parts}
use Rattle.std.specs.List.{Contains}
use Rattle.std.specs.Option.{unwrap_or}
use Rattle.pesp_instance.specs.Network.{Network}
use Rattle.std.proofs.lemmas.List.Elements.{Contains-append_right}
use Rattle.pesp_domains.proofs.Families.{here}
use Rattle.pesp_counts_arcs.specs.declared.end.End.{End}
use Rattle.pesp_counts_arcs.specs.declared.end.Ranges.{Ranges}
use Rattle.pesp_counts_arcs.specs.Ends.{AreLinked, end_at, ends_of, is_from_to, passes}
use Rattle.pesp_counts_arcs.specs.Links.{Links}
use Rattle.pesp_counts_supports.specs.declared.moving.Moved.{Moved}
use Rattle.pesp_counts_supports.specs.declared.moving.Moved.TheVariants.{Block, One}
use Rattle.pesp_counts_supports.specs.Blocks.{is_met, is_met_by, of_block, of_met}
use Rattle.pesp_counts_supports.specs.Counts.{has_at, supporters}
use Rattle.pesp_counts_supports.specs.Moves.{IsMoved, is_touched, partners}
use Rattle.pesp_counts_supports.specs.Restored.{AreRanges, in_ranges, of_ranges, of_start, size_of}
use Rattle.pesp_counts_supports.specs.Restoring.{admits_at}
use Rattle.pesp_counts_supports.specs.Spent.{unmet}
use Rattle.pesp_counts_supports.proofs.Moved.{range_holds, sums_of}
use Rattle.pesp_counts_supports.proofs.AlongEnds.{admits_below}
use Rattle.pesp_counts_supports.proofs.Meeting.{met_is, passes_some}
use Rattle.pesp_counts_supports.proofs.Supporters.{supporters_from, supporters_some}

-- ---- looks at what is not met

-- one residue more
pub unmet_more : (sums : List ℕ) (met : Option End) (low q : ℕ) → low ≤ q → unmet sums met low (q + 1 - low) ≡ unmet sums met low (q - low) + cond (is_met_by sums met q) 0 1
unmet_more sums met low q le =
    let next : q + 1 - low ≡ suc (q - low) = omega (arith, le) in
    let here : low + (q - low) ≡ q = omega (arith, le) in
    rw (next, here) refl

-- no more than there are
pub unmet_le : (sums : List ℕ) (met : Option End) (low n : ℕ) → unmet sums met low n ≤ n
unmet_le sums met low zero = omega arith
unmet_le sums met low (suc n) = let rest = unmet_le sums met low n in grind (arith, rest)

-- and fewer where one of them is met
pub unmet_less : (sums : List ℕ) (met : Option End) (low n r : ℕ) → low ≤ r → r < low + n → IsTrue (is_met_by sums met r) → unmet sums met low n + 1 ≤ n
unmet_less sums met low zero r le lt meets = absurd (omega (arith, le, lt))
unmet_less sums met low (suc n) r le lt meets =
    elim (cases_eq r (low + n)) [
      | inl same ↦ let rest = unmet_le sums met low n in grind (arith, rest, same, meets)
      | inr apart ↦ let less = unmet_less sums met low n r le (omega (arith, lt, apart)) meets in grind (arith, less)
    ]

-- none where nothing is asked for
pub unmet_none : (sums : List ℕ) (low n : ℕ) → unmet sums None low n ≡ 0
unmet_none sums low zero = refl
unmet_none sums low (suc n) = let rest = unmet_none sums low n in omega (arith, rest)

-- of ranges, some residue of which is met or which are not all residues, fewer than the period are unmet
pub few_unmet : (T : ℕ) (sums : List ℕ) (met : Option End) (w : Ranges) → AreRanges T w → (size_of w < T) ⊎ ((r : ℕ) × IsTrue (in_ranges w r) × IsTrue (is_met_by sums met r)) → unmet sums met w.start (w.end - w.start) + unmet sums met 0 w.wrapped ≤ T - 1
few_unmet T sums met w are one =
    let first = unmet_le sums met w.start (w.end - w.start) in
    let second = unmet_le sums met 0 w.wrapped in
    elim one [
      | inl few ↦ omega (arith, first, second, few)
      | inr (r, there, meets) ↦
          elim (cases_Bool (is_from_to w.start w.end r)) [
            | inl here ↦
                let (low, high) = range_holds w.start w.end r here in
                let less = unmet_less sums met w.start (w.end - w.start) r low (omega (arith, high, are.order)) meets in
                omega (arith, less, second, are.order, are.below, are.wrapped)
            | inr out ↦
                let (low, high) = range_holds 0 w.wrapped r (grind (arith, out, there)) in
                let less = unmet_less sums met 0 w.wrapped r (omega arith) (omega (arith, high)) meets in
                omega (arith, first, less, are.order, are.below, are.wrapped)
          ]
    ]

-- ---- the ranges that are gone over

-- what is beyond the period is in no ranges
pub beyond : (T : ℕ) (w : Ranges) (r : ℕ) → AreRanges T w → T ≤ r → in_ranges w r ≡ false
beyond T w r are high = grind (arith, nat_tests, are.order, are.below, are.wrapped)

-- those of one range from 0 on
pub whole : (T r : ℕ) → r < T → in_ranges (record { start = 0; end = T; wrapped = 0 }) r ≡ true
whole T r below = grind (arith, nat_tests)

-- of the ranges that is met which is admitted and met, and where some residue is, fewer looks than there are residues are free
pub record AreTold (T : ℕ) (I : Network) (links : Links) (place : ℕ) (sums : List ℕ) (met : Option End) (w : Ranges) : Type 0 where
  pub ranges : AreRanges T w
  pub brings : (p r : ℕ) → of_met sums met (of_ranges place w) p r ≡ of_met sums met (of_start I links place) p r
  pub few : (r : ℕ) → r < T → IsTrue (is_met_by sums met r) → unmet sums met w.start (w.end - w.start) + unmet sums met 0 w.wrapped ≤ T - 1

module _ (T : ℕ) (I : Network) (links : Links) (place : ℕ) (sums : List ℕ) (met : Option End) (same : T ≡ I.period) where
  told_by : (w : Ranges) → AreRanges T w → ((r : ℕ) → r < T → (in_ranges w r && is_met_by sums met r) ≡ (admits_at I links place r && is_met_by sums met r))
      → ((r : ℕ) → r < T → IsTrue (is_met_by sums met r) → (size_of w < T) ⊎ ((r : ℕ) × IsTrue (in_ranges w r) × IsTrue (is_met_by sums met r))) → AreTold T I links place sums met w
  told_by w are each some =
      record {
        ranges = are;
        brings = λ p r.
            elim (cases_lt r T) [
              | inl low ↦ grind (arith, each r low)
              | inr high ↦ grind (arith, beyond T w r are high, admits_below I links place r)
            ];
        few = λ r below meets. few_unmet T sums met w are (some r below meets);
      }

  -- ranges that are told hold just what is admitted, and not all residues; where all is admitted, they are those that were to be taken
  pub told : (o : Option Ranges) (d w : Ranges) → AreRanges T d → ((r : ℕ) → r < T → IsTrue (is_met_by sums met r) → IsTrue (in_ranges d r))
      → IfSome o (λ v. AreRanges I.period v × (size_of v < I.period) × ((r : ℕ) → r < I.period → in_ranges v r ≡ admits_at I links place r))
      → (o ≡ None → (r : ℕ) → r < I.period → IsTrue (admits_at I links place r))
      → w ≡ unwrap_or o d
      → AreTold T I links place sums met w
  told (Some v) d w are all some none is =
      let told : AreRanges T w × (size_of w < T) × ((r : ℕ) → r < T → in_ranges w r ≡ admits_at I links place r) = rw (same, is) some in
      told_by w told.0 (λ r below. ap (λ b. b && is_met_by sums met r) (told.2 r below)) (λ r below meets. inl told.1)
  told None d w are all some none is =
      let admits : (r : ℕ) → r < T → IsTrue (admits_at I links place r) = rw same (none refl) in
      rw is (told_by d are (λ r below. grind (arith, admits r below, all r below)) (λ r below meets. inr (r, all r below meets, meets)))

-- ---- what has a partner among what moves

-- what has a partner is touched
pub touches : (T : ℕ) (ends : List End) (lists : List (List ℕ)) → AreLinked T ends lists → (p number : ℕ) → Contains (ends_of lists p) number → (l : Moved) (sums : List ℕ) (D : ℕ → Bool) → IsMoved T l sums D
    → (r : ℕ) → r < T → 0 < partners T ends number D r → IsTrue (is_touched T l (end_at ends number) r)
touches T ends lists linked p number listed (One residue) sums D moved r below some =
    let end : End = end_at ends number in
    let w = supporters_some T D (passes T (end_at ends end.mate) r) some in
    let pass : passes T end w.0 r ≡ true = (linked.each p number listed).both_ways w.0 r w.1 below ∙ w.3 in
    let same : w.0 ≡ residue = eqb-true w.0 residue (sym (moved.1 w.0) ∙ w.2) in
    subst (λ s. IsTrue (passes T end s r)) same pass
touches T ends lists linked p number listed Block sums D moved r below some = refl

-- some residue has one, where some residue moves
pub some_partner : (T : ℕ) (ends : List End) (lists : List (List ℕ)) → AreLinked T ends lists → (p number : ℕ) → Contains (ends_of lists p) number → (D : ℕ → Bool) (d : ℕ) → d < T → IsTrue (D d) → (r : ℕ) × (r < T) × (0 < partners T ends number D r)
some_partner T ends lists linked p number listed D d below moves =
    let end : End = end_at ends number in
    let at = linked.each p number listed in
    let some : 0 < T = omega (arith, below) in
    let r : ℕ = (d + end.first) % T in
    let rl = mod-lt (d + end.first) some in
    let pass = passes_some T end d some at.some in
    (r, rl, supporters_from T D (passes T (end_at ends end.mate) r) d below moves (sym (at.both_ways d r below rl) ∙ pass))

-- along an activity that is met which has a partner among what moves, and all of it is touched
pub record AreMet (T : ℕ) (ends : List End) (number : ℕ) (l : Moved) (sums : List ℕ) (D : ℕ → Bool) (near far : End) : Type 0 where
  pub first : far.first < T
  pub width : far.width ≤ T
  pub partner : (r : ℕ) → r < T → is_met sums far r ≡ nat_lt 0 (partners T ends number D r)
  pub touched : (r : ℕ) → r < T → IsTrue (is_met sums far r) → IsTrue (is_touched T l near r)

pub are_met : (T : ℕ) (ends : List End) (lists : List (List ℕ)) → AreLinked T ends lists → (p number : ℕ) → Contains (ends_of lists p) number → (l : Moved) (sums : List ℕ) (D : ℕ → Bool) → IsMoved T l sums D → (near far : End) → near ≡ end_at ends number → far ≡ end_at ends near.mate → AreMet T ends number l sums D near far
are_met T ends lists linked p number listed l sums D moved near far near_is far_is =
    let mate = linked.each (end_at ends number).looks_at (end_at ends number).mate (linked.each p number listed).mate_there in
    let partner : (r : ℕ) → r < T → is_met sums far r ≡ nat_lt 0 (partners T ends number D r) = rw (far_is, near_is) (met_is T D sums (sums_of T l sums D moved) (end_at ends (end_at ends number).mate) mate.first mate.width) in
    record {
      first = rw (far_is, near_is) mate.first;
      width = rw (far_is, near_is) mate.width;
      partner = partner;
      touched = λ r below meets.
          let some = ltb-true 0 (partners T ends number D r) (sym (partner r below) ∙ meets) in
          rw near_is (touches T ends lists linked p number listed l sums D moved r below some);
    }

module _ (T : ℕ) (I : Network) (links : Links) (same : T ≡ I.period) (number : ℕ) (l : Moved) (sums : List ℕ) (D : ℕ → Bool) (near far : End) (near_is : near ≡ end_at links.ends number) (met : AreMet T links.ends number l sums D near far) where
  -- what is admitted and met comes along the activity
  pub met_block : (q r : ℕ) → of_met sums (Some far) (of_start I links near.looks_at) q r ≡ of_block T I links D (end_at links.ends near.mate) near.looks_at q r
  met_block q r =
      let is : partners T links.ends number D r ≡ supporters T D (passes T (end_at links.ends near.mate) r) = ap (λ (e : End). supporters T D (passes T (end_at links.ends e.mate) r)) (sym near_is) in
      grind (arith, met.partner r, is, admits_below I links near.looks_at r)

  -- of it nothing is lacking where no touched residue is
  pub block_there : (rows : List (List Bool)) → ((r : ℕ) → r < T → IsTrue (is_touched T l near r) → IsTrue (has_at rows near.looks_at r)) → (q r : ℕ) → IsTrue (of_block T I links D (end_at links.ends near.mate) near.looks_at q r) → IsTrue (has_at rows q r)
  block_there rows there q r h =
      let (start, meets) = and_parts (of_start I links near.looks_at q r) (is_met sums far r) (met_block q r ∙ h) in
      let (here, admitted) = and_parts (q == near.looks_at) (admits_at I links near.looks_at r) start in
      let below : r < T = let low = admits_below I links near.looks_at r admitted in omega (arith, low, same) in
      rw (eqb-true q near.looks_at here) (there r below (met.touched r below meets))

-- ---- one end after another

-- the next one is in the list
pub next_listed : (done rest : List ℕ) (m : ℕ) (all these : List ℕ) → these ≡ m ∷ rest → done ++ these ≡ all → Contains all m
next_listed done rest m all these steps walked = subst (λ xs. Contains xs m) (ap (λ xs. done ++ xs) (sym steps) ∙ walked) (Contains-append_right done (m ∷ rest) m (here m rest))
