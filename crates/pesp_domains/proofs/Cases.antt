-- Domains of small instances, by computation.
use Rattle.std.proofs.Common.{ℕ, ◌==◌, Bool, pos, negsuc, refl, List, [], ◌∷◌, map, Some}
use Rattle.std.specs.List.{list_any, range_with_len}
use Rattle.std.proofs.lemmas.Bool.{false≢true}
use Rattle.pesp_base.proofs.Samples.{signed_arc as arc}
use Rattle.pesp_base.specs.Windows.{at_time}
use Rattle.pesp_instance.specs.declared.edit.Edit.TheVariants as do_
use Rattle.pesp_instance.specs.Edited.{after, empty_network}
use Rattle.pesp_instance.specs.Network.{Network, new_event}
use Rattle.pesp_domains.specs.declared.pair.Pair.{Pair}
use Rattle.pesp_domains.specs.Domains.{InDomains, IsDomain}
use Rattle.pesp_domains.proofs.Sweeps.{swept, swept_row}

-- the row of a period that holds these residues
abbrev row_of : ℕ → List ℕ → List Bool
row_of period residues = map (λ r. list_any (λ s. s == r) residues) (range_with_len 0 period)

-- these residues are the event's domain
abbrev HasDomain : Network → List Pair → ℕ → List ℕ → Type 0
HasDomain I pushes e residues = IsDomain I pushes e (row_of I.period residues)

-- each residue of period ten
abbrev all_ten : List ℕ
all_ten = range_with_len 0 10

abbrev pair : ℕ → ℕ → Pair
pair e r = record { event = e; residue = r }

-- ---- two events, and an activity each way between them

abbrev two : Network
two = record { period = 10; events = new_event 1 ∷ new_event 2 ∷ []; activities = arc 1 1 2 (pos 3) (pos 5) 2 ∷ arc 2 2 1 (pos 4) (pos 6) 1 ∷ [] }

two_rows : HasDomain two [] 1 all_ten × HasDomain two [] 2 all_ten
two_rows = (swept_row two [] 0 refl 1 _ refl refl, swept_row two [] 0 refl 2 _ refl refl)

abbrev one_fixed : Network
one_fixed = after two (do_.Fix 1 0 ∷ [])

-- with the first event at 0, the second one stands where both activities are met
one_fixed_rows : HasDomain one_fixed [] 1 (0 ∷ []) × HasDomain one_fixed [] 2 (4 ∷ 5 ∷ [])
one_fixed_rows = (swept_row one_fixed [] 2 refl 1 _ refl refl, swept_row one_fixed [] 2 refl 2 _ refl refl)

-- at 6 only the second activity is met
six_is_out : InDomains one_fixed [] 2 6 → ⊥
six_is_out h = false≢true ((swept one_fixed [] 2 refl 2 6).1 h)

abbrev moved : Network
moved = after one_fixed (do_.Fix 1 1 ∷ [])

moved_rows : HasDomain moved [] 1 (1 ∷ []) × HasDomain moved [] 2 (5 ∷ 6 ∷ [])
moved_rows = (swept_row moved [] 2 refl 1 _ refl refl, swept_row moved [] 2 refl 2 _ refl refl)

abbrev narrow : Network
narrow = after one_fixed (do_.SetSpan 1 (record { lower = pos 3; upper = pos 4 }) ∷ [])

narrow_rows : HasDomain narrow [] 1 (0 ∷ []) × HasDomain narrow [] 2 (4 ∷ [])
narrow_rows = (swept_row narrow [] 2 refl 1 _ refl refl, swept_row narrow [] 2 refl 2 _ refl refl)

abbrev unfixed : Network
unfixed = after narrow (do_.Unfix 1 ∷ [])

unfixed_rows : HasDomain unfixed [] 1 all_ten × HasDomain unfixed [] 2 all_ten
unfixed_rows = (swept_row unfixed [] 0 refl 1 _ refl refl, swept_row unfixed [] 0 refl 2 _ refl refl)

abbrev infeasible : Network
infeasible = after two (do_.SetSpan 1 (record { lower = pos 3; upper = pos 3 }) ∷ [])

-- 3 there and 4 to 6 back never make 10, but each residue has a partner along each activity
infeasible_rows : HasDomain infeasible [] 1 all_ten × HasDomain infeasible [] 2 all_ten
infeasible_rows = (swept_row infeasible [] 0 refl 1 _ refl refl, swept_row infeasible [] 0 refl 2 _ refl refl)

abbrev empty : Network
empty = after infeasible (do_.Fix 1 0 ∷ [])

-- with one event fixed, no residue of the other suits both activities
empty_rows : HasDomain empty [] 1 [] × HasDomain empty [] 2 []
empty_rows = (swept_row empty [] 3 refl 1 _ refl refl, swept_row empty [] 3 refl 2 _ refl refl)

abbrev beside : Network
beside = after empty (do_.AddEvent 3 ∷ [])

-- a new event has every residue, also beside empty rows
beside_rows : HasDomain beside [] 1 [] × HasDomain beside [] 2 [] × HasDomain beside [] 3 all_ten
beside_rows = (swept_row beside [] 3 refl 1 _ refl refl, swept_row beside [] 3 refl 2 _ refl refl, swept_row beside [] 3 refl 3 _ refl refl)

-- ---- pushed pairs

abbrev one_push : List Pair
one_push = pair 1 0 ∷ []

one_push_rows : HasDomain two one_push 1 (0 ∷ []) × HasDomain two one_push 2 (4 ∷ 5 ∷ [])
one_push_rows = (swept_row two one_push 2 refl 1 _ refl refl, swept_row two one_push 2 refl 2 _ refl refl)

abbrev two_pushes : List Pair
two_pushes = pair 1 0 ∷ pair 2 4 ∷ []

two_pushes_rows : HasDomain two two_pushes 1 (0 ∷ []) × HasDomain two two_pushes 2 (4 ∷ [])
two_pushes_rows = (swept_row two two_pushes 1 refl 1 _ refl refl, swept_row two two_pushes 1 refl 2 _ refl refl)

-- a push empties both rows where a fixed time does
push_empties : HasDomain infeasible one_push 1 [] × HasDomain infeasible one_push 2 []
push_empties = (swept_row infeasible one_push 3 refl 1 _ refl refl, swept_row infeasible one_push 3 refl 2 _ refl refl)

-- ---- other instances

-- four events, each at another residue than each other one, at period three
abbrev four : Network
four = record {
  period = 3;
  events = new_event 1 ∷ new_event 2 ∷ new_event 3 ∷ new_event 4 ∷ [];
  activities =
      arc 1 1 2 (pos 1) (pos 2) 1 ∷ arc 2 1 3 (pos 1) (pos 2) 1 ∷ arc 3 2 3 (pos 1) (pos 2) 1
      ∷ arc 4 1 4 (pos 1) (pos 2) 1 ∷ arc 5 2 4 (pos 1) (pos 2) 1 ∷ arc 6 3 4 (pos 1) (pos 2) 1 ∷ [];
}

abbrev all_three : List ℕ
all_three = range_with_len 0 3

-- no times meet all activities, but each residue has a partner along each one
four_rows : HasDomain four [] 1 all_three × HasDomain four [] 2 all_three × HasDomain four [] 3 all_three × HasDomain four [] 4 all_three
four_rows = (swept_row four [] 0 refl 1 _ refl refl, swept_row four [] 0 refl 2 _ refl refl, swept_row four [] 0 refl 3 _ refl refl, swept_row four [] 0 refl 4 _ refl refl)

abbrev loop : Network
loop = after (empty_network 10) (do_.AddEvent 1 ∷ do_.AddActivity (arc 3 1 1 (pos 1) (pos 2) 1) ∷ [])

-- no time meets the loop, but each residue has a partner after it and one before it
loop_row : HasDomain loop [] 1 all_ten
loop_row = swept_row loop [] 0 refl 1 _ refl refl

-- from two before to one after
abbrev negative : Network
negative = record { period = 10; events = record { id = 1; window = Some (at_time 0) } ∷ new_event 2 ∷ []; activities = arc 1 1 2 (negsuc 1) (pos 1) 1 ∷ [] }

negative_row : HasDomain negative [] 2 (0 ∷ 1 ∷ 8 ∷ 9 ∷ [])
negative_row = swept_row negative [] 2 refl 2 _ refl refl

-- a whole period
abbrev full_span : Network
full_span = after negative (do_.SetSpan 1 (record { lower = pos 7; upper = pos 16 }) ∷ [])

full_span_row : HasDomain full_span [] 2 all_ten
full_span_row = swept_row full_span [] 1 refl 2 _ refl refl
