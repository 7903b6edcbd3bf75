-- Which edits may bring pairs back, and what they reach, by computation.
use Rattle.std.proofs.Common.{◌≡◌, ℤ, pos, negsuc, refl, true, false, [], ◌∷◌, Some, None, arith}
use Rattle.std.proofs.lemmas.Bool.{false≢true}
use Rattle.pesp_base.specs.Bounds.{Bounds}
use Rattle.pesp_base.proofs.Laws.{met_is}
use Rattle.pesp_base.proofs.Samples.{arc}
use Rattle.pesp_instance.specs.declared.edit.Edit.TheVariants as do_
use Rattle.pesp_instance.specs.Edited.{after}
use Rattle.pesp_instance.specs.Network.{Network, new_event}
use Rattle.pesp_domains.specs.declared.side.Side.TheVariants.{Head}
use Rattle.pesp_domains.proofs.Families.{here, not_in_none}
use Rattle.pesp_domains.proofs.Sweeps.{swept}
use Rattle.pesp_domains.specs.Loosening.{admits_more}
use Rattle.pesp_counts_arcs.specs.Links.{Links, no_links}
use Rattle.pesp_counts.specs.declared.keeper.change.Starts.TheVariants.{AtBoth}
use Rattle.pesp_counts.specs.Changes.{event_at, left, limited_by, places, recounted_by}
use Rattle.pesp_counts.specs.Reached.{Reached, starts}
use Rattle.pesp_counts.specs.Reached.Reached.{begins, follows}

abbrev span : ℤ → ℤ → Bounds
span lower upper = record { lower = lower; upper = upper }

abbrev two : Network
two = record { period = 10; events = new_event 1 ∷ new_event 2 ∷ []; activities = arc 1 1 2 3 5 2 ∷ arc 2 2 1 4 6 1 ∷ [] }

abbrev one_fixed : Network
one_fixed = after two (do_.Fix 1 0 ∷ [])

-- ---- spans

wider : admits_more 10 (span (pos 3) (pos 5)) (span (pos 3) (pos 6)) ≡ true
wider = refl

narrower : admits_more 10 (span (pos 3) (pos 5)) (span (pos 4) (pos 5)) ≡ false
narrower = refl

-- a shift by a whole period admits nothing new
shifted : admits_more 10 (span (pos 3) (pos 5)) (span (pos 13) (pos 15)) ≡ false
shifted = refl

-- as long and elsewhere
moved_span : admits_more 10 (span (pos 3) (pos 5)) (span (negsuc 1) (pos 0)) ≡ true
moved_span = refl

-- ---- where chains begin

other_time : starts one_fixed (do_.Fix 1 1) ≡ 1 ∷ []
other_time = refl

same_time : starts one_fixed (do_.Fix 1 0) ≡ []
same_time = refl

first_time : starts two (do_.Fix 1 0) ≡ []
first_time = refl

no_time_more : starts one_fixed (do_.Unfix 1) ≡ 1 ∷ []
no_time_more = refl

-- also to the same ends
same_ends : starts one_fixed (do_.SetEnds 2 2 1) ≡ 2 ∷ 1 ∷ []
same_ends = refl

wider_span : starts one_fixed (do_.SetSpan 1 (span (pos 3) (pos 6))) ≡ 1 ∷ 2 ∷ []
wider_span = refl

narrower_span : starts one_fixed (do_.SetSpan 1 (span (pos 3) (pos 4))) ≡ []
narrower_span = refl

-- ---- the change of an edit, by place

-- activity 2 has place 0, and activity 1 place 1
abbrev linked : Links
linked = record no_links { activities = record { numbers = Some 2 ∷ Some 1 ∷ [] } }

recounts_set : recounted_by linked (do_.SetSpan 2 (span (pos 3) (pos 6))) ≡ Some 0
recounts_set = refl

recounts_moved : recounted_by linked (do_.SetEnds 1 2 1) ≡ Some 1
recounts_moved = refl

recounts_dropped : recounted_by linked (do_.DropActivity 1) ≡ None
recounts_dropped = refl

limits_one : limited_by (do_.SetWindow 2 3 1) ≡ Some 2
limits_one = refl

limits_none : limited_by (do_.SetWeight 2 3) ≡ None
limits_none = refl

from_both : places (AtBoth (1 ∷ 0 ∷ [])) ≡ 1 ∷ 0 ∷ []
from_both = refl

-- residue 0 alone of the fixed event
left_there : left one_fixed (Some (event_at 1 4)) (λ p r. true) 4 0 ≡ true
left_there = refl

gone_there : left one_fixed (Some (event_at 1 4)) (λ p r. true) 4 1 ≡ false
gone_there = refl

left_elsewhere : left one_fixed (Some (event_at 1 4)) (λ p r. true) 3 1 ≡ true
left_elsewhere = refl

-- ---- what is reached

-- the event's own pair at its new time, and from there a pair of the other event
moved_here : Reached one_fixed (do_.Fix 1 1) 1 1
moved_here =
    begins 1 1 (here 1 [])
    (record {
      outside = λ d. false≢true ((swept one_fixed [] 2 refl 1 1).1 d);
      admitted = record { of_event = refl; below = omega arith; window = refl; pushed = λ s i. absurd (not_in_none _ i) };
    })

moved_there : Reached one_fixed (do_.Fix 1 1) 2 6
moved_there =
    follows Head (arc 1 1 2 3 5 2) 6 1 moved_here (here (arc 1 1 2 3 5 2) (arc 2 2 1 4 6 1 ∷ [])) refl
    ((met_is 10 (span (pos 3) (pos 5)) 1 6 (omega arith)).0 refl)
    (record {
      outside = λ d. false≢true ((swept one_fixed [] 2 refl 2 6).1 d);
      admitted = record { of_event = refl; below = omega arith; window = refl; pushed = λ s i. absurd (not_in_none _ i) };
    })
