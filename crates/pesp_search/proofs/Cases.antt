-- The tree and the optimum of small instances, by computation.
use Rattle.std.proofs.Common.{◌≡◌, ℕ, ◌==◌, true, refl, List, [], ◌∷◌, Some, inl, arith}
use Rattle.pesp_base.specs.declared.activity.Activity.{Activity}
use Rattle.pesp_base.specs.Windows.{at_time}
use Rattle.pesp_instance.specs.declared.event.Event.{Event}
use Rattle.pesp_instance.specs.Network.{Network, new_event}
use Rattle.pesp_search.specs.declared.answer.Answer.TheVariants.{Infeasible}
use Rattle.pesp_search.specs.Optima.{IsAnswer, IsOptimum}
use Rattle.pesp_search.specs.Parts.{turned_in}
use Rattle.pesp_search.specs.Paths.{timetable_of}
use Rattle.pesp_search.specs.Tree.{IsPlaceOf, IsTreeSize}
use Rattle.pesp_search.proofs.Counted.{place_of_is, tree_size_is}
use Rattle.pesp_search.proofs.Enumerated.{infeasible_is, optimum_is}
use Rattle.pesp_base.proofs.Samples.{arc}

abbrev free : ℕ → Event
free e = new_event e

abbrev at_zero : ℕ → Event
at_zero e = record { id = e; window = Some (at_time 0) }

-- ---- two events, and an activity each way between them

abbrev each_way : List Activity
each_way = arc 1 1 2 3 5 2 ∷ arc 2 2 1 4 6 1 ∷ []

abbrev two : Network
two = record { period = 10; events = free 1 ∷ free 2 ∷ []; activities = each_way }

-- ten residues of the first event, and two of the second after each
two_size : IsTreeSize two 30
two_size = tree_size_is two 2 30 refl

-- 4 and 5 are left after 0, and 0 has two nodes below it
two_places : IsPlaceOf two (0 ∷ 4 ∷ []) 2 × IsPlaceOf two (0 ∷ 5 ∷ []) 3 × IsPlaceOf two (1 ∷ 5 ∷ []) 5
two_places = (place_of_is two 2 (0 ∷ 4 ∷ []) 2 refl, place_of_is two 2 (0 ∷ 5 ∷ []) 3 refl, place_of_is two 2 (1 ∷ 5 ∷ []) 5 refl)

-- slacks 1 and 2, at weights 2 and 1; each turn of both times costs as much, and comes later
two_optimum : IsOptimum two (timetable_of two (0 ∷ 4 ∷ [])) 4
two_optimum = optimum_is two (0 ∷ 4 ∷ []) 4 refl refl

-- slacks 2 and 1 cost more
not_at_five : IsOptimum two (timetable_of two (0 ∷ 5 ∷ [])) 5 → ⊥
not_at_five h = absurd (let low = h.least (timetable_of two (0 ∷ 4 ∷ [])) two_optimum.member in omega (arith, low))

-- and times that are turned are not the first
not_turned : IsOptimum two (timetable_of two (1 ∷ 5 ∷ [])) 4 → ⊥
not_turned h = absurd (let less = h.first (timetable_of two (0 ∷ 4 ∷ [])) two_optimum.member (inl (omega arith)) in omega (arith, less))

-- with the first event at 0 there is one node for it, and two below
abbrev one_fixed : Network
one_fixed = record { period = 10; events = at_zero 1 ∷ free 2 ∷ []; activities = each_way }

one_fixed_size : IsTreeSize one_fixed 3
one_fixed_size = tree_size_is one_fixed 2 3 refl

-- 3 there and 4 to 6 back never make 10
abbrev infeasible : Network
infeasible = record { period = 10; events = free 1 ∷ free 2 ∷ []; activities = arc 1 1 2 3 3 2 ∷ arc 2 2 1 4 6 1 ∷ [] }

infeasible_answer : IsAnswer infeasible Infeasible
infeasible_answer = infeasible_is infeasible refl

-- but each residue of the first event is tried
infeasible_size : IsTreeSize infeasible 10
infeasible_size = tree_size_is infeasible 3 10 refl

-- with the first event at 0 its domain is empty, and there is no node
abbrev empty : Network
empty = record { period = 10; events = at_zero 1 ∷ free 2 ∷ []; activities = infeasible.activities }

empty_size : IsTreeSize empty 0
empty_size = tree_size_is empty 3 0 refl

-- ---- turned times

-- three more for both events: 4 to 9 is as far as 7 to 2
both_turned : turned_in 10 (λ e. true) 3 (1 ∷ 2 ∷ []) (4 ∷ 9 ∷ []) ≡ 7 ∷ 2 ∷ []
both_turned = refl

-- and for the events of the part alone
one_turned : turned_in 10 (λ e. e == 2) 6 (1 ∷ 2 ∷ []) (4 ∷ 9 ∷ []) ≡ 4 ∷ 5 ∷ []
one_turned = refl

-- ---- one activity, which every residue meets

abbrev later : Network
later = record { period = 10; events = free 1 ∷ free 2 ∷ []; activities = arc 1 1 2 3 12 1 ∷ [] }

-- the first member costs 7, and the optimum is met three nodes later
later_places : IsPlaceOf later (0 ∷ 0 ∷ []) 2 × IsPlaceOf later (0 ∷ 3 ∷ []) 5
later_places = (place_of_is later 1 (0 ∷ 0 ∷ []) 2 refl, place_of_is later 1 (0 ∷ 3 ∷ []) 5 refl)

later_optimum : IsOptimum later (timetable_of later (0 ∷ 3 ∷ [])) 0
later_optimum = optimum_is later (0 ∷ 3 ∷ []) 0 refl refl

-- ---- three events, each at another residue than each other one, at period three

abbrev three : ℕ → Network
three weight = record { period = 3; events = free 1 ∷ free 2 ∷ free 3 ∷ []; activities = arc 1 1 2 1 2 weight ∷ arc 2 1 3 1 2 weight ∷ arc 3 2 3 1 2 weight ∷ [] }

-- without weights all six members cost nothing, and with weights the second activity alone has a slack
three_optima : IsOptimum (three 0) (timetable_of (three 0) (0 ∷ 1 ∷ 2 ∷ [])) 0 × IsOptimum (three 1) (timetable_of (three 1) (0 ∷ 1 ∷ 2 ∷ [])) 1
three_optima = (optimum_is (three 0) (0 ∷ 1 ∷ 2 ∷ []) 0 refl refl, optimum_is (three 1) (0 ∷ 1 ∷ 2 ∷ []) 1 refl refl)

-- ---- no events

abbrev none : Network
none = record { period = 10; events = []; activities = [] }

none_size : IsTreeSize none 0
none_size = tree_size_is none 0 0 refl

none_optimum : IsOptimum none (timetable_of none []) 0
none_optimum = optimum_is none [] 0 refl refl
