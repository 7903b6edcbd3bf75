-- Drawn cases of the definitions, as the model of tools/tests answers them: made by tools/draw_cases from seed 1812.
use Rattle.std.proofs.Common.{pos, negsuc, refl, [], ◌∷◌, Some}
use Rattle.pesp_base.proofs.Samples.{signed_arc as arc}
use Rattle.pesp_instance.specs.Network.{Network, new_event}
use Rattle.pesp_search.specs.declared.answer.Answer.TheVariants.{Infeasible}
use Rattle.pesp_search.specs.Optima.{IsAnswer, IsOptimum}
use Rattle.pesp_search.specs.Paths.{timetable_of}
use Rattle.pesp_search.specs.Tree.{IsPlaceOf, IsTreeSize}
use Rattle.pesp_search.proofs.Counted.{place_of_is, tree_size_is}
use Rattle.pesp_search.proofs.Enumerated.{infeasible_is, optimum_is}

-- 3 events at period 7
abbrev network_0 : Network
network_0 = record { period = 7; events = new_event 3 ∷ new_event 6 ∷ new_event 8 ∷ []; activities = arc 1 8 6 (negsuc 0) (pos 0) 2 ∷ arc 2 8 6 (pos 13) (pos 14) 1 ∷ [] }

optimum_0 : IsOptimum network_0 (timetable_of network_0 (0 ∷ 0 ∷ 1 ∷ [])) 0
optimum_0 = optimum_is network_0 (0 ∷ 0 ∷ 1 ∷ []) 0 refl refl

size_0 : IsTreeSize network_0 154
size_0 = tree_size_is network_0 2 154 refl

place_0_0 : IsPlaceOf network_0 (5 ∷ 2 ∷ 2 ∷ []) 119
place_0_0 = place_of_is network_0 2 (5 ∷ 2 ∷ 2 ∷ []) 119 refl

place_0_1 : IsPlaceOf network_0 (5 ∷ 3 ∷ 4 ∷ []) 123
place_0_1 = place_of_is network_0 2 (5 ∷ 3 ∷ 4 ∷ []) 123 refl

place_0_2 : IsPlaceOf network_0 (4 ∷ 5 ∷ 5 ∷ []) 106
place_0_2 = place_of_is network_0 2 (4 ∷ 5 ∷ 5 ∷ []) 106 refl

-- 3 events at period 2
abbrev network_1 : Network
network_1 = record { period = 2; events = new_event 3 ∷ new_event 5 ∷ record { id = 8; window = Some (record { first = 1; length = 1 }) } ∷ []; activities = arc 1 8 5 (pos 2) (pos 3) 3 ∷ arc 2 3 8 (negsuc 1) (pos 0) 1 ∷ arc 3 8 3 (pos 1) (pos 5) 0 ∷ arc 4 5 8 (pos 3) (pos 5) 3 ∷ arc 5 3 8 (pos 2) (pos 3) 2 ∷ [] }

optimum_1 : IsOptimum network_1 (timetable_of network_1 (1 ∷ 0 ∷ 1 ∷ [])) 3
optimum_1 = optimum_is network_1 (1 ∷ 0 ∷ 1 ∷ []) 3 refl refl

size_1 : IsTreeSize network_1 10
size_1 = tree_size_is network_1 1 10 refl

place_1_0 : IsPlaceOf network_1 (0 ∷ 1 ∷ 1 ∷ []) 5
place_1_0 = place_of_is network_1 1 (0 ∷ 1 ∷ 1 ∷ []) 5 refl

place_1_1 : IsPlaceOf network_1 (1 ∷ 1 ∷ 1 ∷ []) 10
place_1_1 = place_of_is network_1 1 (1 ∷ 1 ∷ 1 ∷ []) 10 refl

place_1_2 : IsPlaceOf network_1 (1 ∷ 0 ∷ 1 ∷ []) 8
place_1_2 = place_of_is network_1 1 (1 ∷ 0 ∷ 1 ∷ []) 8 refl

-- 2 events at period 11
abbrev network_2 : Network
network_2 = record { period = 11; events = record { id = 1; window = Some (record { first = 6; length = 1 }) } ∷ new_event 2 ∷ []; activities = arc 1 2 2 (pos 10) (pos 11) 1 ∷ arc 2 2 1 (negsuc 7) (negsuc 3) 0 ∷ arc 4 2 2 (negsuc 9) (negsuc 7) 1 ∷ arc 6 1 1 (pos 0) (pos 0) 1 ∷ [] }

answer_2 : IsAnswer network_2 Infeasible
answer_2 = infeasible_is network_2 refl

size_2 : IsTreeSize network_2 0
size_2 = tree_size_is network_2 6 0 refl

-- 2 events at period 5
abbrev network_3 : Network
network_3 = record { period = 5; events = record { id = 2; window = Some (record { first = 0; length = 5 }) } ∷ record { id = 3; window = Some (record { first = 4; length = 4 }) } ∷ []; activities = arc 1 3 2 (pos 2) (pos 4) 0 ∷ arc 2 2 3 (pos 8) (pos 9) 2 ∷ arc 3 2 3 (pos 2) (pos 5) 2 ∷ [] }

optimum_3 : IsOptimum network_3 (timetable_of network_3 (1 ∷ 4 ∷ [])) 2
optimum_3 = optimum_is network_3 (1 ∷ 4 ∷ []) 2 refl refl

size_3 : IsTreeSize network_3 9
size_3 = tree_size_is network_3 3 9 refl

place_3_0 : IsPlaceOf network_3 (3 ∷ 1 ∷ []) 7
place_3_0 = place_of_is network_3 3 (3 ∷ 1 ∷ []) 7 refl

place_3_1 : IsPlaceOf network_3 (1 ∷ 4 ∷ []) 3
place_3_1 = place_of_is network_3 3 (1 ∷ 4 ∷ []) 3 refl

place_3_2 : IsPlaceOf network_3 (2 ∷ 0 ∷ []) 5
place_3_2 = place_of_is network_3 3 (2 ∷ 0 ∷ []) 5 refl

-- 3 events at period 7
abbrev network_4 : Network
network_4 = record { period = 7; events = new_event 5 ∷ new_event 7 ∷ record { id = 8; window = Some (record { first = 1; length = 7 }) } ∷ []; activities = arc 1 8 7 (pos 1) (pos 1) 2 ∷ arc 2 5 8 (pos 16) (pos 17) 1 ∷ arc 3 7 8 (negsuc 0) (pos 1) 3 ∷ arc 4 8 5 (negsuc 1) (pos 0) 4 ∷ [] }

optimum_4 : IsOptimum network_4 (timetable_of network_4 (0 ∷ 3 ∷ 2 ∷ [])) 0
optimum_4 = optimum_is network_4 (0 ∷ 3 ∷ 2 ∷ []) 0 refl refl

size_4 : IsTreeSize network_4 21
size_4 = tree_size_is network_4 3 21 refl

place_4_0 : IsPlaceOf network_4 (0 ∷ 3 ∷ 2 ∷ []) 3
place_4_0 = place_of_is network_4 3 (0 ∷ 3 ∷ 2 ∷ []) 3 refl

place_4_1 : IsPlaceOf network_4 (2 ∷ 5 ∷ 4 ∷ []) 9
place_4_1 = place_of_is network_4 3 (2 ∷ 5 ∷ 4 ∷ []) 9 refl

place_4_2 : IsPlaceOf network_4 (6 ∷ 2 ∷ 1 ∷ []) 21
place_4_2 = place_of_is network_4 3 (6 ∷ 2 ∷ 1 ∷ []) 21 refl

-- 4 events at period 3
abbrev network_5 : Network
network_5 = record { period = 3; events = new_event 1 ∷ new_event 2 ∷ new_event 3 ∷ record { id = 4; window = Some (record { first = 1; length = 2 }) } ∷ []; activities = arc 1 4 4 (negsuc 1) (negsuc 1) 2 ∷ arc 3 2 1 (pos 1) (pos 1) 3 ∷ arc 6 1 2 (pos 2) (pos 2) 3 ∷ [] }

answer_5 : IsAnswer network_5 Infeasible
answer_5 = infeasible_is network_5 refl

size_5 : IsTreeSize network_5 0
size_5 = tree_size_is network_5 2 0 refl

-- 3 events at period 6
abbrev network_6 : Network
network_6 = record { period = 6; events = new_event 1 ∷ record { id = 3; window = Some (record { first = 1; length = 2 }) } ∷ new_event 9 ∷ []; activities = arc 1 1 3 (pos 10) (pos 16) 2 ∷ arc 2 1 3 (negsuc 7) (negsuc 5) 1 ∷ arc 3 3 9 (pos 15) (pos 17) 3 ∷ arc 4 1 9 (negsuc 8) (negsuc 1) 4 ∷ arc 5 3 1 (pos 7) (pos 8) 4 ∷ [] }

optimum_6 : IsOptimum network_6 (timetable_of network_6 (2 ∷ 1 ∷ 5 ∷ [])) 6
optimum_6 = optimum_is network_6 (2 ∷ 1 ∷ 5 ∷ []) 6 refl refl

size_6 : IsTreeSize network_6 19
size_6 = tree_size_is network_6 3 19 refl

place_6_0 : IsPlaceOf network_6 (3 ∷ 2 ∷ 1 ∷ []) 13
place_6_0 = place_of_is network_6 3 (3 ∷ 2 ∷ 1 ∷ []) 13 refl

place_6_1 : IsPlaceOf network_6 (4 ∷ 2 ∷ 5 ∷ []) 19
place_6_1 = place_of_is network_6 3 (4 ∷ 2 ∷ 5 ∷ []) 19 refl

place_6_2 : IsPlaceOf network_6 (4 ∷ 2 ∷ 1 ∷ []) 18
place_6_2 = place_of_is network_6 3 (4 ∷ 2 ∷ 1 ∷ []) 18 refl

-- 4 events at period 4
abbrev network_7 : Network
network_7 = record { period = 4; events = record { id = 2; window = Some (record { first = 3; length = 4 }) } ∷ new_event 4 ∷ new_event 5 ∷ new_event 7 ∷ []; activities = arc 1 7 4 (pos 10) (pos 11) 2 ∷ [] }

optimum_7 : IsOptimum network_7 (timetable_of network_7 (0 ∷ 0 ∷ 0 ∷ 2 ∷ [])) 0
optimum_7 = optimum_is network_7 (0 ∷ 0 ∷ 0 ∷ 2 ∷ []) 0 refl refl

size_7 : IsTreeSize network_7 212
size_7 = tree_size_is network_7 2 212 refl

place_7_0 : IsPlaceOf network_7 (2 ∷ 0 ∷ 0 ∷ 2 ∷ []) 111
place_7_0 = place_of_is network_7 2 (2 ∷ 0 ∷ 0 ∷ 2 ∷ []) 111 refl

place_7_1 : IsPlaceOf network_7 (1 ∷ 2 ∷ 1 ∷ 3 ∷ []) 87
place_7_1 = place_of_is network_7 2 (1 ∷ 2 ∷ 1 ∷ 3 ∷ []) 87 refl

place_7_2 : IsPlaceOf network_7 (3 ∷ 3 ∷ 1 ∷ 1 ∷ []) 206
place_7_2 = place_of_is network_7 2 (3 ∷ 3 ∷ 1 ∷ 1 ∷ []) 206 refl

-- 2 events at period 10
abbrev network_8 : Network
network_8 = record { period = 10; events = new_event 3 ∷ record { id = 9; window = Some (record { first = 7; length = 9 }) } ∷ []; activities = arc 1 3 9 (pos 20) (pos 22) 2 ∷ [] }

optimum_8 : IsOptimum network_8 (timetable_of network_8 (0 ∷ 0 ∷ [])) 0
optimum_8 = optimum_is network_8 (0 ∷ 0 ∷ []) 0 refl refl

size_8 : IsTreeSize network_8 37
size_8 = tree_size_is network_8 2 37 refl

place_8_0 : IsPlaceOf network_8 (9 ∷ 0 ∷ []) 35
place_8_0 = place_of_is network_8 2 (9 ∷ 0 ∷ []) 35 refl

place_8_1 : IsPlaceOf network_8 (1 ∷ 1 ∷ []) 6
place_8_1 = place_of_is network_8 2 (1 ∷ 1 ∷ []) 6 refl

place_8_2 : IsPlaceOf network_8 (8 ∷ 9 ∷ []) 33
place_8_2 = place_of_is network_8 2 (8 ∷ 9 ∷ []) 33 refl

-- 3 events at period 3
abbrev network_9 : Network
network_9 = record { period = 3; events = new_event 2 ∷ new_event 5 ∷ new_event 6 ∷ []; activities = arc 1 2 6 (negsuc 1) (pos 0) 2 ∷ arc 2 6 5 (pos 0) (pos 3) 0 ∷ arc 3 6 2 (pos 3) (pos 5) 3 ∷ arc 4 2 6 (pos 5) (pos 5) 2 ∷ arc 5 2 5 (pos 7) (pos 8) 1 ∷ [] }

optimum_9 : IsOptimum network_9 (timetable_of network_9 (0 ∷ 1 ∷ 2 ∷ [])) 5
optimum_9 = optimum_is network_9 (0 ∷ 1 ∷ 2 ∷ []) 5 refl refl

size_9 : IsTreeSize network_9 15
size_9 = tree_size_is network_9 2 15 refl

place_9_0 : IsPlaceOf network_9 (0 ∷ 2 ∷ 2 ∷ []) 5
place_9_0 = place_of_is network_9 2 (0 ∷ 2 ∷ 2 ∷ []) 5 refl

place_9_1 : IsPlaceOf network_9 (1 ∷ 2 ∷ 0 ∷ []) 10
place_9_1 = place_of_is network_9 2 (1 ∷ 2 ∷ 0 ∷ []) 10 refl

place_9_2 : IsPlaceOf network_9 (2 ∷ 0 ∷ 1 ∷ []) 13
place_9_2 = place_of_is network_9 2 (2 ∷ 0 ∷ 1 ∷ []) 13 refl

-- 4 events at period 3
abbrev network_10 : Network
network_10 = record { period = 3; events = new_event 1 ∷ new_event 6 ∷ new_event 8 ∷ new_event 9 ∷ []; activities = arc 1 8 6 (negsuc 2) (negsuc 2) 4 ∷ [] }

optimum_10 : IsOptimum network_10 (timetable_of network_10 (0 ∷ 0 ∷ 0 ∷ 0 ∷ [])) 0
optimum_10 = optimum_is network_10 (0 ∷ 0 ∷ 0 ∷ 0 ∷ []) 0 refl refl

size_10 : IsTreeSize network_10 48
size_10 = tree_size_is network_10 2 48 refl

place_10_0 : IsPlaceOf network_10 (2 ∷ 1 ∷ 1 ∷ 1 ∷ []) 42
place_10_0 = place_of_is network_10 2 (2 ∷ 1 ∷ 1 ∷ 1 ∷ []) 42 refl

place_10_1 : IsPlaceOf network_10 (1 ∷ 0 ∷ 0 ∷ 1 ∷ []) 21
place_10_1 = place_of_is network_10 2 (1 ∷ 0 ∷ 0 ∷ 1 ∷ []) 21 refl

place_10_2 : IsPlaceOf network_10 (0 ∷ 2 ∷ 2 ∷ 0 ∷ []) 14
place_10_2 = place_of_is network_10 2 (0 ∷ 2 ∷ 2 ∷ 0 ∷ []) 14 refl

-- 3 events at period 2
abbrev network_11 : Network
network_11 = record { period = 2; events = new_event 1 ∷ new_event 3 ∷ new_event 5 ∷ []; activities = arc 1 5 1 (pos 0) (pos 2) 0 ∷ arc 2 5 1 (negsuc 1) (pos 0) 0 ∷ [] }

optimum_11 : IsOptimum network_11 (timetable_of network_11 (0 ∷ 0 ∷ 0 ∷ [])) 0
optimum_11 = optimum_is network_11 (0 ∷ 0 ∷ 0 ∷ []) 0 refl refl

size_11 : IsTreeSize network_11 14
size_11 = tree_size_is network_11 1 14 refl

place_11_0 : IsPlaceOf network_11 (1 ∷ 1 ∷ 0 ∷ []) 13
place_11_0 = place_of_is network_11 1 (1 ∷ 1 ∷ 0 ∷ []) 13 refl

place_11_1 : IsPlaceOf network_11 (1 ∷ 0 ∷ 0 ∷ []) 10
place_11_1 = place_of_is network_11 1 (1 ∷ 0 ∷ 0 ∷ []) 10 refl

place_11_2 : IsPlaceOf network_11 (1 ∷ 0 ∷ 1 ∷ []) 11
place_11_2 = place_of_is network_11 1 (1 ∷ 0 ∷ 1 ∷ []) 11 refl

-- 3 events at period 3
abbrev network_12 : Network
network_12 = record { period = 3; events = record { id = 1; window = Some (record { first = 2; length = 3 }) } ∷ new_event 4 ∷ new_event 8 ∷ []; activities = arc 1 8 1 (pos 1) (pos 5) 3 ∷ arc 2 1 4 (pos 3) (pos 3) 3 ∷ arc 3 8 8 (negsuc 2) (negsuc 1) 2 ∷ arc 4 8 1 (negsuc 1) (pos 2) 0 ∷ arc 5 4 8 (pos 0) (pos 2) 0 ∷ [] }

optimum_12 : IsOptimum network_12 (timetable_of network_12 (0 ∷ 0 ∷ 2 ∷ [])) 0
optimum_12 = optimum_is network_12 (0 ∷ 0 ∷ 2 ∷ []) 0 refl refl

size_12 : IsTreeSize network_12 15
size_12 = tree_size_is network_12 2 15 refl

place_12_0 : IsPlaceOf network_12 (0 ∷ 0 ∷ 0 ∷ []) 3
place_12_0 = place_of_is network_12 2 (0 ∷ 0 ∷ 0 ∷ []) 3 refl

place_12_1 : IsPlaceOf network_12 (1 ∷ 1 ∷ 1 ∷ []) 9
place_12_1 = place_of_is network_12 2 (1 ∷ 1 ∷ 1 ∷ []) 9 refl

place_12_2 : IsPlaceOf network_12 (2 ∷ 2 ∷ 0 ∷ []) 13
place_12_2 = place_of_is network_12 2 (2 ∷ 2 ∷ 0 ∷ []) 13 refl

-- 2 events at period 4
abbrev network_13 : Network
network_13 = record { period = 4; events = record { id = 1; window = Some (record { first = 2; length = 2 }) } ∷ new_event 4 ∷ []; activities = arc 1 1 4 (pos 3) (pos 3) 3 ∷ arc 2 4 1 (pos 3) (pos 4) 0 ∷ arc 3 4 4 (pos 4) (pos 6) 2 ∷ arc 4 1 4 (negsuc 0) (negsuc 0) 4 ∷ arc 5 4 1 (pos 4) (pos 6) 2 ∷ arc 6 4 1 (negsuc 3) (negsuc 3) 0 ∷ [] }

answer_13 : IsAnswer network_13 Infeasible
answer_13 = infeasible_is network_13 refl

size_13 : IsTreeSize network_13 0
size_13 = tree_size_is network_13 4 0 refl

-- 3 events at period 6
abbrev network_14 : Network
network_14 = record { period = 6; events = new_event 3 ∷ record { id = 6; window = Some (record { first = 4; length = 6 }) } ∷ record { id = 8; window = Some (record { first = 4; length = 6 }) } ∷ []; activities = arc 1 8 3 (negsuc 1) (pos 0) 2 ∷ arc 2 6 3 (negsuc 3) (pos 5) 4 ∷ [] }

optimum_14 : IsOptimum network_14 (timetable_of network_14 (0 ∷ 4 ∷ 2 ∷ [])) 0
optimum_14 = optimum_is network_14 (0 ∷ 4 ∷ 2 ∷ []) 0 refl refl

size_14 : IsTreeSize network_14 150
size_14 = tree_size_is network_14 2 150 refl

place_14_0 : IsPlaceOf network_14 (3 ∷ 3 ∷ 3 ∷ []) 90
place_14_0 = place_of_is network_14 2 (3 ∷ 3 ∷ 3 ∷ []) 90 refl

place_14_1 : IsPlaceOf network_14 (2 ∷ 4 ∷ 4 ∷ []) 71
place_14_1 = place_of_is network_14 2 (2 ∷ 4 ∷ 4 ∷ []) 71 refl

place_14_2 : IsPlaceOf network_14 (2 ∷ 5 ∷ 2 ∷ []) 73
place_14_2 = place_of_is network_14 2 (2 ∷ 5 ∷ 2 ∷ []) 73 refl

-- 4 events at period 4
abbrev network_15 : Network
network_15 = record { period = 4; events = new_event 1 ∷ new_event 2 ∷ record { id = 3; window = Some (record { first = 2; length = 4 }) } ∷ new_event 8 ∷ []; activities = arc 1 2 1 (pos 8) (pos 9) 0 ∷ arc 2 1 2 (pos 2) (pos 5) 1 ∷ arc 3 2 8 (negsuc 0) (pos 3) 4 ∷ [] }

optimum_15 : IsOptimum network_15 (timetable_of network_15 (0 ∷ 3 ∷ 0 ∷ 2 ∷ [])) 1
optimum_15 = optimum_is network_15 (0 ∷ 3 ∷ 0 ∷ 2 ∷ []) 1 refl refl

size_15 : IsTreeSize network_15 172
size_15 = tree_size_is network_15 2 172 refl

place_15_0 : IsPlaceOf network_15 (0 ∷ 0 ∷ 0 ∷ 2 ∷ []) 6
place_15_0 = place_of_is network_15 2 (0 ∷ 0 ∷ 0 ∷ 2 ∷ []) 6 refl

place_15_1 : IsPlaceOf network_15 (2 ∷ 2 ∷ 0 ∷ 0 ∷ []) 111
place_15_1 = place_of_is network_15 2 (2 ∷ 2 ∷ 0 ∷ 0 ∷ []) 111 refl

place_15_2 : IsPlaceOf network_15 (2 ∷ 2 ∷ 0 ∷ 2 ∷ []) 113
place_15_2 = place_of_is network_15 2 (2 ∷ 2 ∷ 0 ∷ 2 ∷ []) 113 refl

-- 3 events at period 2
abbrev network_16 : Network
network_16 = record { period = 2; events = new_event 1 ∷ record { id = 3; window = Some (record { first = 1; length = 2 }) } ∷ new_event 9 ∷ []; activities = arc 1 9 3 (pos 0) (pos 3) 1 ∷ arc 2 9 3 (pos 1) (pos 3) 3 ∷ arc 3 9 3 (pos 1) (pos 3) 3 ∷ arc 4 3 1 (negsuc 0) (negsuc 0) 1 ∷ [] }

optimum_16 : IsOptimum network_16 (timetable_of network_16 (0 ∷ 1 ∷ 0 ∷ [])) 1
optimum_16 = optimum_is network_16 (0 ∷ 1 ∷ 0 ∷ []) 1 refl refl

size_16 : IsTreeSize network_16 8
size_16 = tree_size_is network_16 2 8 refl

place_16_0 : IsPlaceOf network_16 (0 ∷ 1 ∷ 0 ∷ []) 3
place_16_0 = place_of_is network_16 2 (0 ∷ 1 ∷ 0 ∷ []) 3 refl

place_16_1 : IsPlaceOf network_16 (0 ∷ 1 ∷ 1 ∷ []) 4
place_16_1 = place_of_is network_16 2 (0 ∷ 1 ∷ 1 ∷ []) 4 refl

place_16_2 : IsPlaceOf network_16 (1 ∷ 0 ∷ 0 ∷ []) 7
place_16_2 = place_of_is network_16 2 (1 ∷ 0 ∷ 0 ∷ []) 7 refl

-- 3 events at period 2
abbrev network_17 : Network
network_17 = record { period = 2; events = new_event 1 ∷ new_event 2 ∷ new_event 4 ∷ []; activities = arc 1 1 4 (pos 1) (pos 2) 2 ∷ arc 2 1 4 (pos 1) (pos 3) 4 ∷ arc 5 1 4 (negsuc 0) (pos 0) 4 ∷ arc 6 4 2 (negsuc 1) (negsuc 0) 3 ∷ [] }

optimum_17 : IsOptimum network_17 (timetable_of network_17 (0 ∷ 1 ∷ 1 ∷ [])) 0
optimum_17 = optimum_is network_17 (0 ∷ 1 ∷ 1 ∷ []) 0 refl refl

size_17 : IsTreeSize network_17 14
size_17 = tree_size_is network_17 1 14 refl

place_17_0 : IsPlaceOf network_17 (0 ∷ 0 ∷ 0 ∷ []) 3
place_17_0 = place_of_is network_17 1 (0 ∷ 0 ∷ 0 ∷ []) 3 refl

place_17_1 : IsPlaceOf network_17 (1 ∷ 1 ∷ 1 ∷ []) 14
place_17_1 = place_of_is network_17 1 (1 ∷ 1 ∷ 1 ∷ []) 14 refl

place_17_2 : IsPlaceOf network_17 (0 ∷ 1 ∷ 1 ∷ []) 7
place_17_2 = place_of_is network_17 1 (0 ∷ 1 ∷ 1 ∷ []) 7 refl

-- 4 events at period 2
abbrev network_18 : Network
network_18 = record { period = 2; events = new_event 1 ∷ new_event 2 ∷ new_event 3 ∷ new_event 4 ∷ []; activities = arc 2 2 2 (negsuc 0) (negsuc 0) 4 ∷ arc 3 2 3 (negsuc 1) (negsuc 1) 0 ∷ arc 6 2 3 (negsuc 0) (pos 0) 1 ∷ [] }

answer_18 : IsAnswer network_18 Infeasible
answer_18 = infeasible_is network_18 refl

size_18 : IsTreeSize network_18 6
size_18 = tree_size_is network_18 3 6 refl

-- 2 events at period 5
abbrev network_19 : Network
network_19 = record { period = 5; events = new_event 1 ∷ new_event 7 ∷ []; activities = arc 1 1 7 (pos 12) (pos 12) 1 ∷ arc 2 7 1 (negsuc 3) (pos 3) 3 ∷ arc 3 7 1 (negsuc 6) (negsuc 5) 4 ∷ arc 4 1 7 (negsuc 4) (pos 2) 0 ∷ arc 5 1 7 (pos 1) (pos 4) 3 ∷ [] }

optimum_19 : IsOptimum network_19 (timetable_of network_19 (0 ∷ 2 ∷ [])) 9
optimum_19 = optimum_is network_19 (0 ∷ 2 ∷ []) 9 refl refl

size_19 : IsTreeSize network_19 10
size_19 = tree_size_is network_19 2 10 refl

place_19_0 : IsPlaceOf network_19 (4 ∷ 1 ∷ []) 10
place_19_0 = place_of_is network_19 2 (4 ∷ 1 ∷ []) 10 refl

place_19_1 : IsPlaceOf network_19 (3 ∷ 0 ∷ []) 8
place_19_1 = place_of_is network_19 2 (3 ∷ 0 ∷ []) 8 refl

place_19_2 : IsPlaceOf network_19 (2 ∷ 4 ∷ []) 6
place_19_2 = place_of_is network_19 2 (2 ∷ 4 ∷ []) 6 refl

-- 3 events at period 4
abbrev network_20 : Network
network_20 = record { period = 4; events = new_event 1 ∷ new_event 2 ∷ new_event 4 ∷ []; activities = arc 1 2 2 (pos 2) (pos 4) 3 ∷ arc 2 2 2 (pos 4) (pos 6) 3 ∷ arc 3 4 4 (pos 3) (pos 5) 2 ∷ arc 4 4 4 (pos 2) (pos 3) 10 ∷ arc 5 2 4 (pos 4) (pos 4) 3 ∷ arc 6 4 2 (negsuc 1) (negsuc 0) 1 ∷ [] }

answer_20 : IsAnswer network_20 Infeasible
answer_20 = infeasible_is network_20 refl

size_20 : IsTreeSize network_20 20
size_20 = tree_size_is network_20 3 20 refl

-- 4 events at period 2
abbrev network_21 : Network
network_21 = record { period = 2; events = new_event 1 ∷ new_event 2 ∷ new_event 3 ∷ new_event 8 ∷ []; activities = arc 1 2 1 (pos 4) (pos 6) 0 ∷ arc 2 8 2 (pos 4) (pos 6) 3 ∷ [] }

optimum_21 : IsOptimum network_21 (timetable_of network_21 (0 ∷ 0 ∷ 0 ∷ 0 ∷ [])) 0
optimum_21 = optimum_is network_21 (0 ∷ 0 ∷ 0 ∷ 0 ∷ []) 0 refl refl

size_21 : IsTreeSize network_21 30
size_21 = tree_size_is network_21 1 30 refl

place_21_0 : IsPlaceOf network_21 (0 ∷ 0 ∷ 0 ∷ 1 ∷ []) 5
place_21_0 = place_of_is network_21 1 (0 ∷ 0 ∷ 0 ∷ 1 ∷ []) 5 refl

place_21_1 : IsPlaceOf network_21 (1 ∷ 0 ∷ 0 ∷ 0 ∷ []) 19
place_21_1 = place_of_is network_21 1 (1 ∷ 0 ∷ 0 ∷ 0 ∷ []) 19 refl

place_21_2 : IsPlaceOf network_21 (1 ∷ 1 ∷ 1 ∷ 1 ∷ []) 30
place_21_2 = place_of_is network_21 1 (1 ∷ 1 ∷ 1 ∷ 1 ∷ []) 30 refl

-- 3 events at period 5
abbrev network_22 : Network
network_22 = record { period = 5; events = new_event 1 ∷ new_event 3 ∷ new_event 8 ∷ []; activities = arc 1 8 3 (pos 12) (pos 19) 4 ∷ [] }

optimum_22 : IsOptimum network_22 (timetable_of network_22 (0 ∷ 0 ∷ 3 ∷ [])) 0
optimum_22 = optimum_is network_22 (0 ∷ 0 ∷ 3 ∷ []) 0 refl refl

size_22 : IsTreeSize network_22 155
size_22 = tree_size_is network_22 1 155 refl

place_22_0 : IsPlaceOf network_22 (0 ∷ 2 ∷ 1 ∷ []) 16
place_22_0 = place_of_is network_22 1 (0 ∷ 2 ∷ 1 ∷ []) 16 refl

place_22_1 : IsPlaceOf network_22 (2 ∷ 0 ∷ 3 ∷ []) 68
place_22_1 = place_of_is network_22 1 (2 ∷ 0 ∷ 3 ∷ []) 68 refl

place_22_2 : IsPlaceOf network_22 (0 ∷ 0 ∷ 3 ∷ []) 6
place_22_2 = place_of_is network_22 1 (0 ∷ 0 ∷ 3 ∷ []) 6 refl

-- 3 events at period 3
abbrev network_23 : Network
network_23 = record { period = 3; events = new_event 1 ∷ new_event 2 ∷ new_event 8 ∷ []; activities = arc 1 1 8 (pos 5) (pos 7) 0 ∷ [] }

optimum_23 : IsOptimum network_23 (timetable_of network_23 (0 ∷ 0 ∷ 0 ∷ [])) 0
optimum_23 = optimum_is network_23 (0 ∷ 0 ∷ 0 ∷ []) 0 refl refl

size_23 : IsTreeSize network_23 39
size_23 = tree_size_is network_23 1 39 refl

place_23_0 : IsPlaceOf network_23 (0 ∷ 2 ∷ 1 ∷ []) 12
place_23_0 = place_of_is network_23 1 (0 ∷ 2 ∷ 1 ∷ []) 12 refl

place_23_1 : IsPlaceOf network_23 (1 ∷ 1 ∷ 0 ∷ []) 20
place_23_1 = place_of_is network_23 1 (1 ∷ 1 ∷ 0 ∷ []) 20 refl

place_23_2 : IsPlaceOf network_23 (1 ∷ 2 ∷ 0 ∷ []) 24
place_23_2 = place_of_is network_23 1 (1 ∷ 2 ∷ 0 ∷ []) 24 refl

-- 3 events at period 3
abbrev network_24 : Network
network_24 = record { period = 3; events = new_event 1 ∷ record { id = 2; window = Some (record { first = 0; length = 2 }) } ∷ record { id = 3; window = Some (record { first = 1; length = 1 }) } ∷ []; activities = arc 2 1 3 (negsuc 2) (negsuc 0) 3 ∷ arc 3 3 3 (pos 1) (pos 2) 3 ∷ arc 5 2 2 (pos 1) (pos 3) 2 ∷ arc 6 1 3 (pos 3) (pos 4) 4 ∷ [] }

answer_24 : IsAnswer network_24 Infeasible
answer_24 = infeasible_is network_24 refl

size_24 : IsTreeSize network_24 0
size_24 = tree_size_is network_24 3 0 refl

-- 3 events at period 2
abbrev network_25 : Network
network_25 = record { period = 2; events = record { id = 1; window = Some (record { first = 0; length = 2 }) } ∷ new_event 4 ∷ new_event 5 ∷ []; activities = arc 1 4 1 (pos 5) (pos 7) 2 ∷ arc 2 4 5 (pos 4) (pos 6) 3 ∷ arc 3 1 5 (pos 3) (pos 6) 4 ∷ arc 4 5 4 (negsuc 3) (negsuc 0) 4 ∷ [] }

optimum_25 : IsOptimum network_25 (timetable_of network_25 (0 ∷ 1 ∷ 1 ∷ [])) 0
optimum_25 = optimum_is network_25 (0 ∷ 1 ∷ 1 ∷ []) 0 refl refl

size_25 : IsTreeSize network_25 14
size_25 = tree_size_is network_25 1 14 refl

place_25_0 : IsPlaceOf network_25 (1 ∷ 0 ∷ 0 ∷ []) 10
place_25_0 = place_of_is network_25 1 (1 ∷ 0 ∷ 0 ∷ []) 10 refl

place_25_1 : IsPlaceOf network_25 (0 ∷ 0 ∷ 1 ∷ []) 4
place_25_1 = place_of_is network_25 1 (0 ∷ 0 ∷ 1 ∷ []) 4 refl

place_25_2 : IsPlaceOf network_25 (0 ∷ 1 ∷ 0 ∷ []) 6
place_25_2 = place_of_is network_25 1 (0 ∷ 1 ∷ 0 ∷ []) 6 refl

-- 2 events at period 3
abbrev network_26 : Network
network_26 = record { period = 3; events = new_event 1 ∷ new_event 2 ∷ []; activities = arc 1 1 2 (pos 2) (pos 2) 0 ∷ arc 2 1 2 (negsuc 5) (negsuc 2) 4 ∷ arc 3 1 2 (pos 5) (pos 8) 3 ∷ [] }

optimum_26 : IsOptimum network_26 (timetable_of network_26 (0 ∷ 2 ∷ [])) 8
optimum_26 = optimum_is network_26 (0 ∷ 2 ∷ []) 8 refl refl

size_26 : IsTreeSize network_26 6
size_26 = tree_size_is network_26 2 6 refl

place_26_0 : IsPlaceOf network_26 (2 ∷ 1 ∷ []) 6
place_26_0 = place_of_is network_26 2 (2 ∷ 1 ∷ []) 6 refl

place_26_1 : IsPlaceOf network_26 (1 ∷ 0 ∷ []) 4
place_26_1 = place_of_is network_26 2 (1 ∷ 0 ∷ []) 4 refl

place_26_2 : IsPlaceOf network_26 (0 ∷ 2 ∷ []) 2
place_26_2 = place_of_is network_26 2 (0 ∷ 2 ∷ []) 2 refl

-- 3 events at period 6
abbrev network_27 : Network
network_27 = record { period = 6; events = new_event 1 ∷ new_event 2 ∷ record { id = 3; window = Some (record { first = 3; length = 2 }) } ∷ []; activities = arc 1 3 1 (negsuc 5) (negsuc 4) 2 ∷ arc 2 2 3 (pos 3) (pos 5) 2 ∷ arc 3 2 3 (negsuc 1) (pos 0) 3 ∷ arc 4 2 3 (pos 2) (pos 3) 3 ∷ [] }

answer_27 : IsAnswer network_27 Infeasible
answer_27 = infeasible_is network_27 refl

size_27 : IsTreeSize network_27 0
size_27 = tree_size_is network_27 4 0 refl

-- 2 events at period 9
abbrev network_28 : Network
network_28 = record { period = 9; events = new_event 1 ∷ new_event 3 ∷ []; activities = arc 1 3 1 (pos 6) (pos 13) 1 ∷ [] }

optimum_28 : IsOptimum network_28 (timetable_of network_28 (0 ∷ 3 ∷ [])) 0
optimum_28 = optimum_is network_28 (0 ∷ 3 ∷ []) 0 refl refl

size_28 : IsTreeSize network_28 81
size_28 = tree_size_is network_28 2 81 refl

place_28_0 : IsPlaceOf network_28 (4 ∷ 0 ∷ []) 38
place_28_0 = place_of_is network_28 2 (4 ∷ 0 ∷ []) 38 refl

place_28_1 : IsPlaceOf network_28 (0 ∷ 2 ∷ []) 4
place_28_1 = place_of_is network_28 2 (0 ∷ 2 ∷ []) 4 refl

place_28_2 : IsPlaceOf network_28 (3 ∷ 8 ∷ []) 36
place_28_2 = place_of_is network_28 2 (3 ∷ 8 ∷ []) 36 refl

-- 2 events at period 4
abbrev network_29 : Network
network_29 = record { period = 4; events = new_event 2 ∷ new_event 9 ∷ []; activities = arc 1 9 9 (negsuc 3) (pos 0) 4 ∷ arc 2 9 9 (negsuc 0) (pos 0) 0 ∷ [] }

optimum_29 : IsOptimum network_29 (timetable_of network_29 (0 ∷ 0 ∷ [])) 0
optimum_29 = optimum_is network_29 (0 ∷ 0 ∷ []) 0 refl refl

size_29 : IsTreeSize network_29 20
size_29 = tree_size_is network_29 1 20 refl

place_29_0 : IsPlaceOf network_29 (0 ∷ 3 ∷ []) 5
place_29_0 = place_of_is network_29 1 (0 ∷ 3 ∷ []) 5 refl

place_29_1 : IsPlaceOf network_29 (3 ∷ 3 ∷ []) 20
place_29_1 = place_of_is network_29 1 (3 ∷ 3 ∷ []) 20 refl

place_29_2 : IsPlaceOf network_29 (2 ∷ 2 ∷ []) 14
place_29_2 = place_of_is network_29 1 (2 ∷ 2 ∷ []) 14 refl

-- 3 events at period 8
abbrev network_30 : Network
network_30 = record { period = 8; events = record { id = 1; window = Some (record { first = 4; length = 2 }) } ∷ new_event 2 ∷ new_event 4 ∷ []; activities = arc 1 1 1 (negsuc 7) (negsuc 5) 2 ∷ [] }

optimum_30 : IsOptimum network_30 (timetable_of network_30 (4 ∷ 0 ∷ 0 ∷ [])) 0
optimum_30 = optimum_is network_30 (4 ∷ 0 ∷ 0 ∷ []) 0 refl refl

size_30 : IsTreeSize network_30 146
size_30 = tree_size_is network_30 1 146 refl

place_30_0 : IsPlaceOf network_30 (4 ∷ 2 ∷ 0 ∷ []) 21
place_30_0 = place_of_is network_30 1 (4 ∷ 2 ∷ 0 ∷ []) 21 refl

place_30_1 : IsPlaceOf network_30 (5 ∷ 7 ∷ 3 ∷ []) 142
place_30_1 = place_of_is network_30 1 (5 ∷ 7 ∷ 3 ∷ []) 142 refl

place_30_2 : IsPlaceOf network_30 (4 ∷ 6 ∷ 0 ∷ []) 57
place_30_2 = place_of_is network_30 1 (4 ∷ 6 ∷ 0 ∷ []) 57 refl

-- 3 events at period 2
abbrev network_31 : Network
network_31 = record { period = 2; events = record { id = 1; window = Some (record { first = 1; length = 1 }) } ∷ new_event 2 ∷ new_event 4 ∷ []; activities = arc 1 2 4 (pos 1) (pos 1) 1 ∷ arc 2 4 4 (pos 2) (pos 3) 0 ∷ arc 3 4 2 (negsuc 1) (negsuc 0) 3 ∷ arc 4 2 4 (negsuc 0) (pos 0) 3 ∷ arc 5 4 2 (negsuc 1) (negsuc 1) 0 ∷ arc 6 4 2 (pos 2) (pos 3) 2 ∷ [] }

answer_31 : IsAnswer network_31 Infeasible
answer_31 = infeasible_is network_31 refl

size_31 : IsTreeSize network_31 3
size_31 = tree_size_is network_31 3 3 refl

-- 3 events at period 6
abbrev network_32 : Network
network_32 = record { period = 6; events = new_event 3 ∷ new_event 7 ∷ new_event 9 ∷ []; activities = arc 1 3 7 (negsuc 0) (pos 0) 4 ∷ arc 2 7 7 (pos 5) (pos 12) 0 ∷ arc 3 9 7 (negsuc 5) (pos 3) 1 ∷ [] }

optimum_32 : IsOptimum network_32 (timetable_of network_32 (0 ∷ 5 ∷ 5 ∷ [])) 0
optimum_32 = optimum_is network_32 (0 ∷ 5 ∷ 5 ∷ []) 0 refl refl

size_32 : IsTreeSize network_32 90
size_32 = tree_size_is network_32 2 90 refl

place_32_0 : IsPlaceOf network_32 (1 ∷ 1 ∷ 5 ∷ []) 30
place_32_0 = place_of_is network_32 2 (1 ∷ 1 ∷ 5 ∷ []) 30 refl

place_32_1 : IsPlaceOf network_32 (1 ∷ 0 ∷ 2 ∷ []) 20
place_32_1 = place_of_is network_32 2 (1 ∷ 0 ∷ 2 ∷ []) 20 refl

place_32_2 : IsPlaceOf network_32 (5 ∷ 5 ∷ 2 ∷ []) 87
place_32_2 = place_of_is network_32 2 (5 ∷ 5 ∷ 2 ∷ []) 87 refl

-- 2 events at period 2
abbrev network_33 : Network
network_33 = record { period = 2; events = new_event 1 ∷ new_event 4 ∷ []; activities = arc 3 1 1 (pos 1) (pos 3) 4 ∷ [] }

optimum_33 : IsOptimum network_33 (timetable_of network_33 (0 ∷ 0 ∷ [])) 4
optimum_33 = optimum_is network_33 (0 ∷ 0 ∷ []) 4 refl refl

size_33 : IsTreeSize network_33 6
size_33 = tree_size_is network_33 1 6 refl

place_33_0 : IsPlaceOf network_33 (1 ∷ 0 ∷ []) 5
place_33_0 = place_of_is network_33 1 (1 ∷ 0 ∷ []) 5 refl

place_33_1 : IsPlaceOf network_33 (0 ∷ 0 ∷ []) 2
place_33_1 = place_of_is network_33 1 (0 ∷ 0 ∷ []) 2 refl

place_33_2 : IsPlaceOf network_33 (1 ∷ 1 ∷ []) 6
place_33_2 = place_of_is network_33 1 (1 ∷ 1 ∷ []) 6 refl

-- 2 events at period 3
abbrev network_34 : Network
network_34 = record { period = 3; events = new_event 2 ∷ new_event 4 ∷ []; activities = arc 1 2 4 (negsuc 2) (negsuc 0) 3 ∷ [] }

optimum_34 : IsOptimum network_34 (timetable_of network_34 (0 ∷ 0 ∷ [])) 0
optimum_34 = optimum_is network_34 (0 ∷ 0 ∷ []) 0 refl refl

size_34 : IsTreeSize network_34 12
size_34 = tree_size_is network_34 1 12 refl

place_34_0 : IsPlaceOf network_34 (0 ∷ 1 ∷ []) 3
place_34_0 = place_of_is network_34 1 (0 ∷ 1 ∷ []) 3 refl

place_34_1 : IsPlaceOf network_34 (0 ∷ 2 ∷ []) 4
place_34_1 = place_of_is network_34 1 (0 ∷ 2 ∷ []) 4 refl

place_34_2 : IsPlaceOf network_34 (1 ∷ 1 ∷ []) 7
place_34_2 = place_of_is network_34 1 (1 ∷ 1 ∷ []) 7 refl

-- 3 events at period 8
abbrev network_35 : Network
network_35 = record { period = 8; events = new_event 1 ∷ new_event 2 ∷ record { id = 3; window = Some (record { first = 5; length = 7 }) } ∷ []; activities = arc 2 1 3 (negsuc 7) (negsuc 3) 2 ∷ arc 4 3 3 (negsuc 5) (negsuc 0) 1 ∷ arc 5 1 3 (pos 1) (pos 1) 4 ∷ arc 6 1 1 (negsuc 4) (pos 0) 2 ∷ [] }

answer_35 : IsAnswer network_35 Infeasible
answer_35 = infeasible_is network_35 refl

size_35 : IsTreeSize network_35 7
size_35 = tree_size_is network_35 4 7 refl

-- 2 events at period 4
abbrev network_36 : Network
network_36 = record { period = 4; events = new_event 5 ∷ record { id = 9; window = Some (record { first = 3; length = 4 }) } ∷ []; activities = arc 1 5 9 (pos 7) (pos 9) 3 ∷ [] }

optimum_36 : IsOptimum network_36 (timetable_of network_36 (0 ∷ 3 ∷ [])) 0
optimum_36 = optimum_is network_36 (0 ∷ 3 ∷ []) 0 refl refl

size_36 : IsTreeSize network_36 16
size_36 = tree_size_is network_36 2 16 refl

place_36_0 : IsPlaceOf network_36 (2 ∷ 2 ∷ []) 11
place_36_0 = place_of_is network_36 2 (2 ∷ 2 ∷ []) 11 refl

place_36_1 : IsPlaceOf network_36 (1 ∷ 1 ∷ []) 7
place_36_1 = place_of_is network_36 2 (1 ∷ 1 ∷ []) 7 refl

place_36_2 : IsPlaceOf network_36 (0 ∷ 1 ∷ []) 3
place_36_2 = place_of_is network_36 2 (0 ∷ 1 ∷ []) 3 refl

-- 4 events at period 4
abbrev network_37 : Network
network_37 = record { period = 4; events = new_event 1 ∷ new_event 5 ∷ new_event 6 ∷ new_event 9 ∷ []; activities = arc 1 6 1 (pos 4) (pos 6) 3 ∷ arc 2 6 5 (negsuc 3) (pos 0) 0 ∷ arc 3 1 1 (negsuc 6) (negsuc 3) 2 ∷ arc 4 1 6 (pos 10) (pos 12) 3 ∷ arc 5 1 1 (pos 4) (pos 8) 3 ∷ [] }

optimum_37 : IsOptimum network_37 (timetable_of network_37 (0 ∷ 0 ∷ 0 ∷ 0 ∷ [])) 12
optimum_37 = optimum_is network_37 (0 ∷ 0 ∷ 0 ∷ 0 ∷ []) 12 refl refl

-- 2 events at period 7
abbrev network_38 : Network
network_38 = record { period = 7; events = record { id = 1; window = Some (record { first = 2; length = 7 }) } ∷ record { id = 5; window = Some (record { first = 3; length = 7 }) } ∷ []; activities = arc 1 5 1 (pos 9) (pos 18) 3 ∷ arc 2 1 5 (negsuc 4) (negsuc 2) 3 ∷ [] }

optimum_38 : IsOptimum network_38 (timetable_of network_38 (0 ∷ 2 ∷ [])) 9
optimum_38 = optimum_is network_38 (0 ∷ 2 ∷ []) 9 refl refl

size_38 : IsTreeSize network_38 28
size_38 = tree_size_is network_38 2 28 refl

place_38_0 : IsPlaceOf network_38 (5 ∷ 0 ∷ []) 22
place_38_0 = place_of_is network_38 2 (5 ∷ 0 ∷ []) 22 refl

place_38_1 : IsPlaceOf network_38 (6 ∷ 2 ∷ []) 27
place_38_1 = place_of_is network_38 2 (6 ∷ 2 ∷ []) 27 refl

place_38_2 : IsPlaceOf network_38 (1 ∷ 3 ∷ []) 6
place_38_2 = place_of_is network_38 2 (1 ∷ 3 ∷ []) 6 refl

-- 3 events at period 6
abbrev network_39 : Network
network_39 = record { period = 6; events = record { id = 2; window = Some (record { first = 3; length = 5 }) } ∷ new_event 3 ∷ record { id = 4; window = Some (record { first = 4; length = 1 }) } ∷ []; activities = arc 1 2 2 (negsuc 4) (negsuc 4) 0 ∷ arc 2 4 2 (pos 1) (pos 2) 4 ∷ arc 3 4 3 (pos 5) (pos 7) 2 ∷ arc 4 2 3 (pos 4) (pos 4) 1 ∷ [] }

answer_39 : IsAnswer network_39 Infeasible
answer_39 = infeasible_is network_39 refl

size_39 : IsTreeSize network_39 0
size_39 = tree_size_is network_39 4 0 refl

-- 3 events at period 5
abbrev network_40 : Network
network_40 = record { period = 5; events = record { id = 2; window = Some (record { first = 2; length = 5 }) } ∷ record { id = 4; window = Some (record { first = 3; length = 4 }) } ∷ record { id = 7; window = Some (record { first = 2; length = 3 }) } ∷ []; activities = arc 1 7 2 (negsuc 8) (negsuc 3) 4 ∷ arc 2 4 7 (pos 13) (pos 15) 2 ∷ arc 3 7 2 (pos 1) (pos 1) 1 ∷ arc 4 4 7 (pos 15) (pos 20) 3 ∷ [] }

optimum_40 : IsOptimum network_40 (timetable_of network_40 (0 ∷ 4 ∷ 4 ∷ [])) 4
optimum_40 = optimum_is network_40 (0 ∷ 4 ∷ 4 ∷ []) 4 refl refl

size_40 : IsTreeSize network_40 19
size_40 = tree_size_is network_40 3 19 refl

place_40_0 : IsPlaceOf network_40 (3 ∷ 3 ∷ 2 ∷ []) 10
place_40_0 = place_of_is network_40 3 (3 ∷ 3 ∷ 2 ∷ []) 10 refl

place_40_1 : IsPlaceOf network_40 (4 ∷ 4 ∷ 3 ∷ []) 19
place_40_1 = place_of_is network_40 3 (4 ∷ 4 ∷ 3 ∷ []) 19 refl

place_40_2 : IsPlaceOf network_40 (4 ∷ 3 ∷ 3 ∷ []) 17
place_40_2 = place_of_is network_40 3 (4 ∷ 3 ∷ 3 ∷ []) 17 refl

-- 4 events at period 2
abbrev network_41 : Network
network_41 = record { period = 2; events = new_event 1 ∷ new_event 6 ∷ new_event 8 ∷ new_event 9 ∷ []; activities = arc 1 9 9 (pos 0) (pos 2) 3 ∷ arc 2 8 1 (pos 1) (pos 3) 3 ∷ [] }

optimum_41 : IsOptimum network_41 (timetable_of network_41 (0 ∷ 0 ∷ 1 ∷ 0 ∷ [])) 0
optimum_41 = optimum_is network_41 (0 ∷ 0 ∷ 1 ∷ 0 ∷ []) 0 refl refl

size_41 : IsTreeSize network_41 30
size_41 = tree_size_is network_41 1 30 refl

place_41_0 : IsPlaceOf network_41 (1 ∷ 0 ∷ 1 ∷ 1 ∷ []) 23
place_41_0 = place_of_is network_41 1 (1 ∷ 0 ∷ 1 ∷ 1 ∷ []) 23 refl

place_41_1 : IsPlaceOf network_41 (0 ∷ 0 ∷ 1 ∷ 1 ∷ []) 8
place_41_1 = place_of_is network_41 1 (0 ∷ 0 ∷ 1 ∷ 1 ∷ []) 8 refl

place_41_2 : IsPlaceOf network_41 (0 ∷ 0 ∷ 1 ∷ 0 ∷ []) 7
place_41_2 = place_of_is network_41 1 (0 ∷ 0 ∷ 1 ∷ 0 ∷ []) 7 refl

-- 3 events at period 2
abbrev network_42 : Network
network_42 = record { period = 2; events = new_event 2 ∷ record { id = 3; window = Some (record { first = 0; length = 1 }) } ∷ new_event 4 ∷ []; activities = arc 1 3 2 (pos 2) (pos 2) 0 ∷ arc 4 4 4 (pos 1) (pos 3) 0 ∷ arc 6 2 4 (pos 0) (pos 1) 3 ∷ [] }

optimum_42 : IsOptimum network_42 (timetable_of network_42 (0 ∷ 0 ∷ 0 ∷ [])) 0
optimum_42 = optimum_is network_42 (0 ∷ 0 ∷ 0 ∷ []) 0 refl refl

size_42 : IsTreeSize network_42 4
size_42 = tree_size_is network_42 2 4 refl

place_42_0 : IsPlaceOf network_42 (0 ∷ 0 ∷ 0 ∷ []) 3
place_42_0 = place_of_is network_42 2 (0 ∷ 0 ∷ 0 ∷ []) 3 refl

place_42_1 : IsPlaceOf network_42 (0 ∷ 0 ∷ 1 ∷ []) 4
place_42_1 = place_of_is network_42 2 (0 ∷ 0 ∷ 1 ∷ []) 4 refl

-- 4 events at period 4
abbrev network_43 : Network
network_43 = record { period = 4; events = record { id = 1; window = Some (record { first = 3; length = 1 }) } ∷ new_event 2 ∷ new_event 3 ∷ record { id = 4; window = Some (record { first = 2; length = 4 }) } ∷ []; activities = arc 1 2 4 (pos 3) (pos 3) 3 ∷ arc 3 3 3 (pos 1) (pos 3) 3 ∷ arc 4 3 3 (negsuc 2) (negsuc 1) 3 ∷ arc 5 3 3 (negsuc 0) (pos 2) 2 ∷ arc 6 4 3 (negsuc 3) (negsuc 2) 4 ∷ [] }

answer_43 : IsAnswer network_43 Infeasible
answer_43 = infeasible_is network_43 refl

size_43 : IsTreeSize network_43 5
size_43 = tree_size_is network_43 6 5 refl

-- 2 events at period 7
abbrev network_44 : Network
network_44 = record { period = 7; events = record { id = 6; window = Some (record { first = 0; length = 4 }) } ∷ new_event 7 ∷ []; activities = arc 1 6 7 (negsuc 12) (negsuc 6) 1 ∷ arc 2 7 6 (pos 8) (pos 16) 3 ∷ arc 3 6 6 (pos 0) (pos 0) 4 ∷ arc 4 7 7 (negsuc 10) (negsuc 4) 4 ∷ arc 5 7 6 (negsuc 0) (pos 2) 3 ∷ [] }

optimum_44 : IsOptimum network_44 (timetable_of network_44 (0 ∷ 6 ∷ [])) 27
optimum_44 = optimum_is network_44 (0 ∷ 6 ∷ []) 27 refl refl

size_44 : IsTreeSize network_44 20
size_44 = tree_size_is network_44 2 20 refl

place_44_0 : IsPlaceOf network_44 (2 ∷ 1 ∷ []) 13
place_44_0 = place_of_is network_44 2 (2 ∷ 1 ∷ []) 13 refl

place_44_1 : IsPlaceOf network_44 (3 ∷ 4 ∷ []) 20
place_44_1 = place_of_is network_44 2 (3 ∷ 4 ∷ []) 20 refl

place_44_2 : IsPlaceOf network_44 (2 ∷ 2 ∷ []) 14
place_44_2 = place_of_is network_44 2 (2 ∷ 2 ∷ []) 14 refl

-- 2 events at period 4
abbrev network_45 : Network
network_45 = record { period = 4; events = new_event 1 ∷ new_event 3 ∷ []; activities = arc 1 1 1 (pos 2) (pos 4) 0 ∷ arc 2 1 1 (negsuc 2) (negsuc 2) 2 ∷ arc 3 1 3 (negsuc 2) (negsuc 2) 3 ∷ arc 4 3 1 (pos 3) (pos 3) 1 ∷ arc 5 3 3 (pos 4) (pos 5) 3 ∷ arc 6 1 3 (pos 3) (pos 7) 3 ∷ [] }

answer_45 : IsAnswer network_45 Infeasible
answer_45 = infeasible_is network_45 refl

size_45 : IsTreeSize network_45 4
size_45 = tree_size_is network_45 3 4 refl

-- 3 events at period 7
abbrev network_46 : Network
network_46 = record { period = 7; events = record { id = 2; window = Some (record { first = 6; length = 3 }) } ∷ new_event 3 ∷ new_event 4 ∷ []; activities = arc 2 2 2 (pos 3) (pos 4) 4 ∷ [] }

answer_46 : IsAnswer network_46 Infeasible
answer_46 = infeasible_is network_46 refl

size_46 : IsTreeSize network_46 0
size_46 = tree_size_is network_46 2 0 refl

-- 3 events at period 6
abbrev network_47 : Network
network_47 = record { period = 6; events = new_event 1 ∷ new_event 2 ∷ record { id = 6; window = Some (record { first = 1; length = 1 }) } ∷ []; activities = arc 1 1 6 (pos 11) (pos 13) 2 ∷ arc 2 1 2 (negsuc 1) (pos 1) 1 ∷ arc 3 1 6 (pos 11) (pos 11) 2 ∷ [] }

optimum_47 : IsOptimum network_47 (timetable_of network_47 (2 ∷ 0 ∷ 1 ∷ [])) 0
optimum_47 = optimum_is network_47 (2 ∷ 0 ∷ 1 ∷ []) 0 refl refl

size_47 : IsTreeSize network_47 9
size_47 = tree_size_is network_47 3 9 refl

place_47_0 : IsPlaceOf network_47 (2 ∷ 3 ∷ 1 ∷ []) 9
place_47_0 = place_of_is network_47 3 (2 ∷ 3 ∷ 1 ∷ []) 9 refl

place_47_1 : IsPlaceOf network_47 (2 ∷ 0 ∷ 1 ∷ []) 3
place_47_1 = place_of_is network_47 3 (2 ∷ 0 ∷ 1 ∷ []) 3 refl

place_47_2 : IsPlaceOf network_47 (2 ∷ 1 ∷ 1 ∷ []) 5
place_47_2 = place_of_is network_47 3 (2 ∷ 1 ∷ 1 ∷ []) 5 refl

-- 2 events at period 7
abbrev network_48 : Network
network_48 = record { period = 7; events = new_event 4 ∷ new_event 9 ∷ []; activities = arc 1 4 9 (negsuc 7) (pos 5) 4 ∷ arc 2 9 4 (pos 0) (pos 9) 0 ∷ arc 3 9 9 (pos 0) (pos 1) 1 ∷ arc 4 4 9 (pos 1) (pos 13) 3 ∷ [] }

optimum_48 : IsOptimum network_48 (timetable_of network_48 (0 ∷ 1 ∷ [])) 8
optimum_48 = optimum_is network_48 (0 ∷ 1 ∷ []) 8 refl refl

size_48 : IsTreeSize network_48 56
size_48 = tree_size_is network_48 1 56 refl

place_48_0 : IsPlaceOf network_48 (4 ∷ 6 ∷ []) 40
place_48_0 = place_of_is network_48 1 (4 ∷ 6 ∷ []) 40 refl

place_48_1 : IsPlaceOf network_48 (4 ∷ 2 ∷ []) 36
place_48_1 = place_of_is network_48 1 (4 ∷ 2 ∷ []) 36 refl

place_48_2 : IsPlaceOf network_48 (6 ∷ 0 ∷ []) 50
place_48_2 = place_of_is network_48 1 (6 ∷ 0 ∷ []) 50 refl

-- 2 events at period 11
abbrev network_49 : Network
network_49 = record { period = 11; events = new_event 3 ∷ new_event 7 ∷ []; activities = arc 1 3 7 (negsuc 8) (pos 4) 4 ∷ [] }

optimum_49 : IsOptimum network_49 (timetable_of network_49 (0 ∷ 2 ∷ [])) 0
optimum_49 = optimum_is network_49 (0 ∷ 2 ∷ []) 0 refl refl

size_49 : IsTreeSize network_49 132
size_49 = tree_size_is network_49 1 132 refl

place_49_0 : IsPlaceOf network_49 (5 ∷ 9 ∷ []) 71
place_49_0 = place_of_is network_49 1 (5 ∷ 9 ∷ []) 71 refl

place_49_1 : IsPlaceOf network_49 (7 ∷ 5 ∷ []) 91
place_49_1 = place_of_is network_49 1 (7 ∷ 5 ∷ []) 91 refl

place_49_2 : IsPlaceOf network_49 (0 ∷ 4 ∷ []) 6
place_49_2 = place_of_is network_49 1 (0 ∷ 4 ∷ []) 6 refl

-- 2 events at period 8
abbrev network_50 : Network
network_50 = record { period = 8; events = new_event 2 ∷ new_event 8 ∷ []; activities = arc 1 2 8 (pos 7) (pos 8) 1 ∷ [] }

optimum_50 : IsOptimum network_50 (timetable_of network_50 (0 ∷ 7 ∷ [])) 0
optimum_50 = optimum_is network_50 (0 ∷ 7 ∷ []) 0 refl refl

size_50 : IsTreeSize network_50 24
size_50 = tree_size_is network_50 2 24 refl

place_50_0 : IsPlaceOf network_50 (5 ∷ 4 ∷ []) 17
place_50_0 = place_of_is network_50 2 (5 ∷ 4 ∷ []) 17 refl

place_50_1 : IsPlaceOf network_50 (2 ∷ 2 ∷ []) 9
place_50_1 = place_of_is network_50 2 (2 ∷ 2 ∷ []) 9 refl

place_50_2 : IsPlaceOf network_50 (5 ∷ 5 ∷ []) 18
place_50_2 = place_of_is network_50 2 (5 ∷ 5 ∷ []) 18 refl

-- 4 events at period 3
abbrev network_51 : Network
network_51 = record { period = 3; events = new_event 1 ∷ new_event 5 ∷ new_event 6 ∷ new_event 9 ∷ []; activities = arc 1 5 1 (negsuc 4) (negsuc 2) 4 ∷ [] }

optimum_51 : IsOptimum network_51 (timetable_of network_51 (0 ∷ 2 ∷ 0 ∷ 0 ∷ [])) 0
optimum_51 = optimum_is network_51 (0 ∷ 2 ∷ 0 ∷ 0 ∷ []) 0 refl refl

size_51 : IsTreeSize network_51 120
size_51 = tree_size_is network_51 1 120 refl

place_51_0 : IsPlaceOf network_51 (2 ∷ 0 ∷ 0 ∷ 0 ∷ []) 84
place_51_0 = place_of_is network_51 1 (2 ∷ 0 ∷ 0 ∷ 0 ∷ []) 84 refl

place_51_1 : IsPlaceOf network_51 (1 ∷ 1 ∷ 2 ∷ 2 ∷ []) 67
place_51_1 = place_of_is network_51 1 (1 ∷ 1 ∷ 2 ∷ 2 ∷ []) 67 refl

place_51_2 : IsPlaceOf network_51 (1 ∷ 0 ∷ 1 ∷ 2 ∷ []) 50
place_51_2 = place_of_is network_51 1 (1 ∷ 0 ∷ 1 ∷ 2 ∷ []) 50 refl

-- 2 events at period 9
abbrev network_52 : Network
network_52 = record { period = 9; events = new_event 2 ∷ new_event 7 ∷ []; activities = arc 1 2 7 (negsuc 8) (pos 1) 2 ∷ arc 2 2 7 (pos 18) (pos 19) 4 ∷ arc 3 7 2 (negsuc 2) (pos 1) 0 ∷ arc 4 2 7 (pos 10) (pos 11) 0 ∷ [] }

optimum_52 : IsOptimum network_52 (timetable_of network_52 (0 ∷ 1 ∷ [])) 6
optimum_52 = optimum_is network_52 (0 ∷ 1 ∷ []) 6 refl refl

size_52 : IsTreeSize network_52 18
size_52 = tree_size_is network_52 2 18 refl

place_52_0 : IsPlaceOf network_52 (1 ∷ 2 ∷ []) 4
place_52_0 = place_of_is network_52 2 (1 ∷ 2 ∷ []) 4 refl

place_52_1 : IsPlaceOf network_52 (2 ∷ 3 ∷ []) 6
place_52_1 = place_of_is network_52 2 (2 ∷ 3 ∷ []) 6 refl

place_52_2 : IsPlaceOf network_52 (8 ∷ 0 ∷ []) 18
place_52_2 = place_of_is network_52 2 (8 ∷ 0 ∷ []) 18 refl

-- 2 events at period 5
abbrev network_53 : Network
network_53 = record { period = 5; events = new_event 6 ∷ new_event 9 ∷ []; activities = arc 1 9 6 (pos 3) (pos 10) 2 ∷ arc 2 6 9 (pos 4) (pos 10) 2 ∷ arc 3 9 6 (pos 1) (pos 3) 4 ∷ arc 4 6 9 (negsuc 7) (negsuc 4) 4 ∷ arc 5 9 6 (pos 0) (pos 5) 0 ∷ [] }

optimum_53 : IsOptimum network_53 (timetable_of network_53 (0 ∷ 2 ∷ [])) 14
optimum_53 = optimum_is network_53 (0 ∷ 2 ∷ []) 14 refl refl

size_53 : IsTreeSize network_53 20
size_53 = tree_size_is network_53 2 20 refl

place_53_0 : IsPlaceOf network_53 (0 ∷ 3 ∷ []) 3
place_53_0 = place_of_is network_53 2 (0 ∷ 3 ∷ []) 3 refl

place_53_1 : IsPlaceOf network_53 (4 ∷ 3 ∷ []) 20
place_53_1 = place_of_is network_53 2 (4 ∷ 3 ∷ []) 20 refl

place_53_2 : IsPlaceOf network_53 (2 ∷ 4 ∷ []) 12
place_53_2 = place_of_is network_53 2 (2 ∷ 4 ∷ []) 12 refl

-- 2 events at period 10
abbrev network_54 : Network
network_54 = record { period = 10; events = new_event 2 ∷ new_event 7 ∷ []; activities = arc 1 7 2 (pos 16) (pos 18) 4 ∷ arc 2 2 7 (negsuc 3) (pos 4) 2 ∷ arc 3 2 7 (pos 21) (pos 25) 4 ∷ [] }

optimum_54 : IsOptimum network_54 (timetable_of network_54 (0 ∷ 2 ∷ [])) 24
optimum_54 = optimum_is network_54 (0 ∷ 2 ∷ []) 24 refl refl

size_54 : IsTreeSize network_54 40
size_54 = tree_size_is network_54 2 40 refl

place_54_0 : IsPlaceOf network_54 (6 ∷ 8 ∷ []) 27
place_54_0 = place_of_is network_54 2 (6 ∷ 8 ∷ []) 27 refl

place_54_1 : IsPlaceOf network_54 (5 ∷ 7 ∷ []) 22
place_54_1 = place_of_is network_54 2 (5 ∷ 7 ∷ []) 22 refl

place_54_2 : IsPlaceOf network_54 (3 ∷ 5 ∷ []) 14
place_54_2 = place_of_is network_54 2 (3 ∷ 5 ∷ []) 14 refl

-- 3 events at period 3
abbrev network_55 : Network
network_55 = record { period = 3; events = new_event 1 ∷ new_event 2 ∷ new_event 3 ∷ []; activities = arc 1 1 1 (pos 1) (pos 1) 2 ∷ arc 2 3 3 (pos 3) (pos 3) 3 ∷ arc 4 3 1 (pos 3) (pos 3) 0 ∷ arc 5 3 2 (pos 1) (pos 2) 0 ∷ [] }

answer_55 : IsAnswer network_55 Infeasible
answer_55 = infeasible_is network_55 refl

size_55 : IsTreeSize network_55 3
size_55 = tree_size_is network_55 4 3 refl

-- 3 events at period 5
abbrev network_56 : Network
network_56 = record { period = 5; events = new_event 1 ∷ new_event 2 ∷ new_event 6 ∷ []; activities = arc 1 6 2 (pos 9) (pos 16) 4 ∷ arc 2 6 2 (pos 11) (pos 11) 1 ∷ arc 3 1 6 (pos 9) (pos 14) 1 ∷ [] }

optimum_56 : IsOptimum network_56 (timetable_of network_56 (0 ∷ 0 ∷ 4 ∷ [])) 8
optimum_56 = optimum_is network_56 (0 ∷ 0 ∷ 4 ∷ []) 8 refl refl

size_56 : IsTreeSize network_56 55
size_56 = tree_size_is network_56 2 55 refl

place_56_0 : IsPlaceOf network_56 (0 ∷ 3 ∷ 2 ∷ []) 9
place_56_0 = place_of_is network_56 2 (0 ∷ 3 ∷ 2 ∷ []) 9 refl

place_56_1 : IsPlaceOf network_56 (2 ∷ 1 ∷ 0 ∷ []) 27
place_56_1 = place_of_is network_56 2 (2 ∷ 1 ∷ 0 ∷ []) 27 refl

place_56_2 : IsPlaceOf network_56 (0 ∷ 2 ∷ 1 ∷ []) 7
place_56_2 = place_of_is network_56 2 (0 ∷ 2 ∷ 1 ∷ []) 7 refl

-- 2 events at period 8
abbrev network_57 : Network
network_57 = record { period = 8; events = new_event 8 ∷ record { id = 9; window = Some (record { first = 2; length = 8 }) } ∷ []; activities = arc 1 8 9 (negsuc 0) (pos 4) 0 ∷ arc 2 8 9 (pos 6) (pos 12) 1 ∷ [] }

optimum_57 : IsOptimum network_57 (timetable_of network_57 (0 ∷ 7 ∷ [])) 1
optimum_57 = optimum_is network_57 (0 ∷ 7 ∷ []) 1 refl refl

size_57 : IsTreeSize network_57 56
size_57 = tree_size_is network_57 2 56 refl

place_57_0 : IsPlaceOf network_57 (2 ∷ 2 ∷ []) 17
place_57_0 = place_of_is network_57 2 (2 ∷ 2 ∷ []) 17 refl

place_57_1 : IsPlaceOf network_57 (7 ∷ 0 ∷ []) 51
place_57_1 = place_of_is network_57 2 (7 ∷ 0 ∷ []) 51 refl

place_57_2 : IsPlaceOf network_57 (0 ∷ 3 ∷ []) 5
place_57_2 = place_of_is network_57 2 (0 ∷ 3 ∷ []) 5 refl

-- 3 events at period 7
abbrev network_58 : Network
network_58 = record { period = 7; events = new_event 3 ∷ new_event 4 ∷ new_event 9 ∷ []; activities = arc 1 3 4 (pos 8) (pos 18) 1 ∷ arc 2 3 9 (negsuc 7) (negsuc 0) 3 ∷ arc 3 4 3 (pos 18) (pos 25) 0 ∷ arc 4 9 3 (pos 15) (pos 16) 3 ∷ arc 5 3 9 (negsuc 0) (pos 1) 1 ∷ [] }

optimum_58 : IsOptimum network_58 (timetable_of network_58 (0 ∷ 1 ∷ 6 ∷ [])) 0
optimum_58 = optimum_is network_58 (0 ∷ 1 ∷ 6 ∷ []) 0 refl refl

size_58 : IsTreeSize network_58 105
size_58 = tree_size_is network_58 2 105 refl

place_58_0 : IsPlaceOf network_58 (2 ∷ 6 ∷ 1 ∷ []) 45
place_58_0 = place_of_is network_58 2 (2 ∷ 6 ∷ 1 ∷ []) 45 refl

place_58_1 : IsPlaceOf network_58 (4 ∷ 5 ∷ 3 ∷ []) 73
place_58_1 = place_of_is network_58 2 (4 ∷ 5 ∷ 3 ∷ []) 73 refl

place_58_2 : IsPlaceOf network_58 (1 ∷ 2 ∷ 0 ∷ []) 22
place_58_2 = place_of_is network_58 2 (1 ∷ 2 ∷ 0 ∷ []) 22 refl

-- 2 events at period 4
abbrev network_59 : Network
network_59 = record { period = 4; events = record { id = 1; window = Some (record { first = 2; length = 2 }) } ∷ new_event 4 ∷ []; activities = arc 1 4 1 (pos 6) (pos 6) 2 ∷ arc 2 1 1 (pos 8) (pos 12) 3 ∷ arc 3 1 4 (negsuc 5) (negsuc 2) 0 ∷ [] }

optimum_59 : IsOptimum network_59 (timetable_of network_59 (2 ∷ 0 ∷ [])) 0
optimum_59 = optimum_is network_59 (2 ∷ 0 ∷ []) 0 refl refl

size_59 : IsTreeSize network_59 4
size_59 = tree_size_is network_59 2 4 refl

place_59_0 : IsPlaceOf network_59 (2 ∷ 0 ∷ []) 2
place_59_0 = place_of_is network_59 2 (2 ∷ 0 ∷ []) 2 refl

place_59_1 : IsPlaceOf network_59 (3 ∷ 1 ∷ []) 4
place_59_1 = place_of_is network_59 2 (3 ∷ 1 ∷ []) 4 refl

-- 2 events at period 3
abbrev network_60 : Network
network_60 = record { period = 3; events = new_event 1 ∷ new_event 2 ∷ []; activities = arc 1 2 2 (pos 0) (pos 3) 1 ∷ arc 2 1 2 (negsuc 2) (negsuc 2) 2 ∷ arc 4 2 1 (pos 3) (pos 4) 0 ∷ arc 5 1 1 (negsuc 0) (pos 0) 0 ∷ arc 6 1 2 (pos 3) (pos 5) 10 ∷ [] }

optimum_60 : IsOptimum network_60 (timetable_of network_60 (0 ∷ 0 ∷ [])) 0
optimum_60 = optimum_is network_60 (0 ∷ 0 ∷ []) 0 refl refl

size_60 : IsTreeSize network_60 6
size_60 = tree_size_is network_60 2 6 refl

place_60_0 : IsPlaceOf network_60 (2 ∷ 2 ∷ []) 6
place_60_0 = place_of_is network_60 2 (2 ∷ 2 ∷ []) 6 refl

place_60_1 : IsPlaceOf network_60 (1 ∷ 1 ∷ []) 4
place_60_1 = place_of_is network_60 2 (1 ∷ 1 ∷ []) 4 refl

place_60_2 : IsPlaceOf network_60 (0 ∷ 0 ∷ []) 2
place_60_2 = place_of_is network_60 2 (0 ∷ 0 ∷ []) 2 refl

-- 2 events at period 2
abbrev network_61 : Network
network_61 = record { period = 2; events = record { id = 1; window = Some (record { first = 0; length = 2 }) } ∷ new_event 5 ∷ []; activities = arc 1 1 5 (negsuc 4) (negsuc 1) 4 ∷ arc 2 1 5 (negsuc 1) (pos 0) 3 ∷ arc 3 1 5 (negsuc 2) (negsuc 0) 3 ∷ arc 4 1 5 (negsuc 0) (pos 0) 2 ∷ [] }

optimum_61 : IsOptimum network_61 (timetable_of network_61 (0 ∷ 1 ∷ [])) 3
optimum_61 = optimum_is network_61 (0 ∷ 1 ∷ []) 3 refl refl

size_61 : IsTreeSize network_61 6
size_61 = tree_size_is network_61 1 6 refl

place_61_0 : IsPlaceOf network_61 (1 ∷ 0 ∷ []) 5
place_61_0 = place_of_is network_61 1 (1 ∷ 0 ∷ []) 5 refl

place_61_1 : IsPlaceOf network_61 (0 ∷ 1 ∷ []) 3
place_61_1 = place_of_is network_61 1 (0 ∷ 1 ∷ []) 3 refl

place_61_2 : IsPlaceOf network_61 (1 ∷ 1 ∷ []) 6
place_61_2 = place_of_is network_61 1 (1 ∷ 1 ∷ []) 6 refl

-- 3 events at period 4
abbrev network_62 : Network
network_62 = record { period = 4; events = new_event 2 ∷ new_event 3 ∷ new_event 4 ∷ []; activities = arc 1 3 3 (negsuc 3) (negsuc 3) 1 ∷ arc 2 2 2 (pos 0) (pos 1) 0 ∷ arc 3 3 3 (pos 2) (pos 2) 2 ∷ arc 4 2 3 (pos 0) (pos 0) 0 ∷ arc 5 2 2 (negsuc 1) (negsuc 1) 2 ∷ arc 6 2 2 (pos 1) (pos 3) 0 ∷ [] }

answer_62 : IsAnswer network_62 Infeasible
answer_62 = infeasible_is network_62 refl

size_62 : IsTreeSize network_62 4
size_62 = tree_size_is network_62 3 4 refl

-- 3 events at period 5
abbrev network_63 : Network
network_63 = record { period = 5; events = new_event 1 ∷ new_event 2 ∷ record { id = 4; window = Some (record { first = 1; length = 2 }) } ∷ []; activities = arc 3 2 2 (pos 4) (pos 4) 1 ∷ arc 5 2 1 (pos 4) (pos 4) 3 ∷ arc 6 4 2 (pos 0) (pos 3) 3 ∷ [] }

answer_63 : IsAnswer network_63 Infeasible
answer_63 = infeasible_is network_63 refl

size_63 : IsTreeSize network_63 5
size_63 = tree_size_is network_63 4 5 refl

-- 2 events at period 8
abbrev network_64 : Network
network_64 = record { period = 8; events = new_event 6 ∷ new_event 8 ∷ []; activities = arc 1 8 6 (pos 12) (pos 22) 4 ∷ arc 2 8 6 (negsuc 10) (negsuc 1) 2 ∷ [] }

optimum_64 : IsOptimum network_64 (timetable_of network_64 (0 ∷ 3 ∷ [])) 4
optimum_64 = optimum_is network_64 (0 ∷ 3 ∷ []) 4 refl refl

size_64 : IsTreeSize network_64 72
size_64 = tree_size_is network_64 1 72 refl

place_64_0 : IsPlaceOf network_64 (0 ∷ 5 ∷ []) 7
place_64_0 = place_of_is network_64 1 (0 ∷ 5 ∷ []) 7 refl

place_64_1 : IsPlaceOf network_64 (1 ∷ 2 ∷ []) 13
place_64_1 = place_of_is network_64 1 (1 ∷ 2 ∷ []) 13 refl

place_64_2 : IsPlaceOf network_64 (7 ∷ 4 ∷ []) 69
place_64_2 = place_of_is network_64 1 (7 ∷ 4 ∷ []) 69 refl

-- 2 events at period 9
abbrev network_65 : Network
network_65 = record { period = 9; events = new_event 5 ∷ new_event 8 ∷ []; activities = arc 1 5 8 (negsuc 1) (pos 14) 1 ∷ arc 2 8 5 (negsuc 14) (negsuc 13) 2 ∷ [] }

optimum_65 : IsOptimum network_65 (timetable_of network_65 (0 ∷ 6 ∷ [])) 8
optimum_65 = optimum_is network_65 (0 ∷ 6 ∷ []) 8 refl refl

size_65 : IsTreeSize network_65 27
size_65 = tree_size_is network_65 2 27 refl

place_65_0 : IsPlaceOf network_65 (7 ∷ 3 ∷ []) 23
place_65_0 = place_of_is network_65 2 (7 ∷ 3 ∷ []) 23 refl

place_65_1 : IsPlaceOf network_65 (2 ∷ 8 ∷ []) 9
place_65_1 = place_of_is network_65 2 (2 ∷ 8 ∷ []) 9 refl

place_65_2 : IsPlaceOf network_65 (8 ∷ 5 ∷ []) 27
place_65_2 = place_of_is network_65 2 (8 ∷ 5 ∷ []) 27 refl

-- 3 events at period 4
abbrev network_66 : Network
network_66 = record { period = 4; events = new_event 1 ∷ record { id = 2; window = Some (record { first = 1; length = 2 }) } ∷ new_event 4 ∷ []; activities = arc 2 4 4 (negsuc 2) (negsuc 2) 0 ∷ [] }

answer_66 : IsAnswer network_66 Infeasible
answer_66 = infeasible_is network_66 refl

size_66 : IsTreeSize network_66 44
size_66 = tree_size_is network_66 2 44 refl

-- 3 events at period 6
abbrev network_67 : Network
network_67 = record { period = 6; events = record { id = 2; window = Some (record { first = 0; length = 5 }) } ∷ new_event 3 ∷ new_event 4 ∷ []; activities = arc 1 2 4 (pos 8) (pos 11) 3 ∷ arc 2 4 2 (negsuc 9) (negsuc 6) 1 ∷ arc 3 4 2 (pos 2) (pos 3) 4 ∷ arc 4 4 3 (negsuc 5) (negsuc 5) 3 ∷ [] }

optimum_67 : IsOptimum network_67 (timetable_of network_67 (0 ∷ 4 ∷ 4 ∷ [])) 6
optimum_67 = optimum_is network_67 (0 ∷ 4 ∷ 4 ∷ []) 6 refl refl

size_67 : IsTreeSize network_67 25
size_67 = tree_size_is network_67 3 25 refl

place_67_0 : IsPlaceOf network_67 (3 ∷ 1 ∷ 1 ∷ []) 20
place_67_0 = place_of_is network_67 3 (3 ∷ 1 ∷ 1 ∷ []) 20 refl

place_67_1 : IsPlaceOf network_67 (0 ∷ 3 ∷ 3 ∷ []) 3
place_67_1 = place_of_is network_67 3 (0 ∷ 3 ∷ 3 ∷ []) 3 refl

place_67_2 : IsPlaceOf network_67 (4 ∷ 2 ∷ 2 ∷ []) 25
place_67_2 = place_of_is network_67 3 (4 ∷ 2 ∷ 2 ∷ []) 25 refl

-- 3 events at period 7
abbrev network_68 : Network
network_68 = record { period = 7; events = new_event 2 ∷ record { id = 7; window = Some (record { first = 0; length = 5 }) } ∷ new_event 8 ∷ []; activities = arc 1 2 7 (pos 16) (pos 24) 0 ∷ arc 2 7 2 (pos 10) (pos 12) 3 ∷ arc 3 2 8 (negsuc 1) (negsuc 1) 0 ∷ arc 4 7 8 (negsuc 5) (pos 1) 3 ∷ arc 5 2 7 (pos 17) (pos 24) 2 ∷ [] }

optimum_68 : IsOptimum network_68 (timetable_of network_68 (0 ∷ 4 ∷ 5 ∷ [])) 2
optimum_68 = optimum_is network_68 (0 ∷ 4 ∷ 5 ∷ []) 2 refl refl

size_68 : IsTreeSize network_68 37
size_68 = tree_size_is network_68 2 37 refl

place_68_0 : IsPlaceOf network_68 (6 ∷ 1 ∷ 4 ∷ []) 33
place_68_0 = place_of_is network_68 2 (6 ∷ 1 ∷ 4 ∷ []) 33 refl

place_68_1 : IsPlaceOf network_68 (4 ∷ 1 ∷ 2 ∷ []) 23
place_68_1 = place_of_is network_68 2 (4 ∷ 1 ∷ 2 ∷ []) 23 refl

place_68_2 : IsPlaceOf network_68 (5 ∷ 2 ∷ 3 ∷ []) 30
place_68_2 = place_of_is network_68 2 (5 ∷ 2 ∷ 3 ∷ []) 30 refl

-- 4 events at period 3
abbrev network_69 : Network
network_69 = record { period = 3; events = record { id = 6; window = Some (record { first = 1; length = 3 }) } ∷ new_event 7 ∷ new_event 8 ∷ new_event 9 ∷ []; activities = arc 1 9 6 (pos 0) (pos 3) 2 ∷ [] }

optimum_69 : IsOptimum network_69 (timetable_of network_69 (0 ∷ 0 ∷ 0 ∷ 0 ∷ [])) 0
optimum_69 = optimum_is network_69 (0 ∷ 0 ∷ 0 ∷ 0 ∷ []) 0 refl refl

size_69 : IsTreeSize network_69 120
size_69 = tree_size_is network_69 1 120 refl

place_69_0 : IsPlaceOf network_69 (2 ∷ 2 ∷ 1 ∷ 2 ∷ []) 116
place_69_0 = place_of_is network_69 1 (2 ∷ 2 ∷ 1 ∷ 2 ∷ []) 116 refl

place_69_1 : IsPlaceOf network_69 (0 ∷ 2 ∷ 2 ∷ 2 ∷ []) 40
place_69_1 = place_of_is network_69 1 (0 ∷ 2 ∷ 2 ∷ 2 ∷ []) 40 refl

place_69_2 : IsPlaceOf network_69 (1 ∷ 0 ∷ 1 ∷ 2 ∷ []) 50
place_69_2 = place_of_is network_69 1 (1 ∷ 0 ∷ 1 ∷ 2 ∷ []) 50 refl

-- 3 events at period 7
abbrev network_70 : Network
network_70 = record { period = 7; events = new_event 2 ∷ new_event 3 ∷ new_event 7 ∷ []; activities = arc 1 2 7 (pos 9) (pos 11) 3 ∷ arc 2 2 7 (negsuc 6) (negsuc 4) 4 ∷ arc 3 2 3 (pos 13) (pos 20) 3 ∷ arc 4 7 3 (pos 10) (pos 13) 2 ∷ arc 5 3 2 (pos 13) (pos 15) 4 ∷ [] }

optimum_70 : IsOptimum network_70 (timetable_of network_70 (0 ∷ 6 ∷ 2 ∷ [])) 18
optimum_70 = optimum_is network_70 (0 ∷ 6 ∷ 2 ∷ []) 18 refl refl

size_70 : IsTreeSize network_70 49
size_70 = tree_size_is network_70 2 49 refl

place_70_0 : IsPlaceOf network_70 (5 ∷ 4 ∷ 0 ∷ []) 38
place_70_0 = place_of_is network_70 2 (5 ∷ 4 ∷ 0 ∷ []) 38 refl

place_70_1 : IsPlaceOf network_70 (4 ∷ 5 ∷ 6 ∷ []) 35
place_70_1 = place_of_is network_70 2 (4 ∷ 5 ∷ 6 ∷ []) 35 refl

place_70_2 : IsPlaceOf network_70 (4 ∷ 3 ∷ 6 ∷ []) 31
place_70_2 = place_of_is network_70 2 (4 ∷ 3 ∷ 6 ∷ []) 31 refl

-- 4 events at period 2
abbrev network_71 : Network
network_71 = record { period = 2; events = new_event 1 ∷ record { id = 2; window = Some (record { first = 0; length = 2 }) } ∷ new_event 3 ∷ new_event 4 ∷ []; activities = arc 1 3 4 (pos 1) (pos 2) 1 ∷ arc 2 4 1 (negsuc 0) (pos 1) 0 ∷ arc 3 4 2 (negsuc 0) (pos 1) 1 ∷ arc 4 3 2 (pos 0) (pos 0) 1 ∷ arc 5 1 1 (negsuc 1) (negsuc 1) 4 ∷ arc 6 2 1 (negsuc 0) (negsuc 0) 3 ∷ [] }

optimum_71 : IsOptimum network_71 (timetable_of network_71 (0 ∷ 1 ∷ 1 ∷ 0 ∷ [])) 0
optimum_71 = optimum_is network_71 (0 ∷ 1 ∷ 1 ∷ 0 ∷ []) 0 refl refl

size_71 : IsTreeSize network_71 10
size_71 = tree_size_is network_71 3 10 refl

place_71_0 : IsPlaceOf network_71 (1 ∷ 0 ∷ 0 ∷ 0 ∷ []) 9
place_71_0 = place_of_is network_71 3 (1 ∷ 0 ∷ 0 ∷ 0 ∷ []) 9 refl

place_71_1 : IsPlaceOf network_71 (0 ∷ 1 ∷ 1 ∷ 0 ∷ []) 4
place_71_1 = place_of_is network_71 3 (0 ∷ 1 ∷ 1 ∷ 0 ∷ []) 4 refl

place_71_2 : IsPlaceOf network_71 (1 ∷ 0 ∷ 0 ∷ 1 ∷ []) 10
place_71_2 = place_of_is network_71 3 (1 ∷ 0 ∷ 0 ∷ 1 ∷ []) 10 refl

-- 2 events at period 12
abbrev network_72 : Network
network_72 = record { period = 12; events = record { id = 2; window = Some (record { first = 11; length = 1 }) } ∷ new_event 3 ∷ []; activities = arc 3 2 3 (negsuc 8) (negsuc 7) 4 ∷ arc 5 3 3 (negsuc 7) (negsuc 6) 0 ∷ arc 6 3 3 (negsuc 2) (pos 4) 1000000000 ∷ [] }

answer_72 : IsAnswer network_72 Infeasible
answer_72 = infeasible_is network_72 refl

size_72 : IsTreeSize network_72 0
size_72 = tree_size_is network_72 4 0 refl

-- 3 events at period 6
abbrev network_73 : Network
network_73 = record { period = 6; events = new_event 3 ∷ new_event 4 ∷ new_event 8 ∷ []; activities = arc 1 4 8 (negsuc 1) (negsuc 0) 4 ∷ arc 2 8 4 (negsuc 3) (pos 2) 3 ∷ arc 3 4 8 (negsuc 8) (negsuc 5) 0 ∷ arc 4 8 3 (pos 2) (pos 4) 1 ∷ [] }

optimum_73 : IsOptimum network_73 (timetable_of network_73 (0 ∷ 0 ∷ 4 ∷ [])) 0
optimum_73 = optimum_is network_73 (0 ∷ 0 ∷ 4 ∷ []) 0 refl refl

size_73 : IsTreeSize network_73 66
size_73 = tree_size_is network_73 3 66 refl

place_73_0 : IsPlaceOf network_73 (1 ∷ 5 ∷ 3 ∷ []) 21
place_73_0 = place_of_is network_73 3 (1 ∷ 5 ∷ 3 ∷ []) 21 refl

place_73_1 : IsPlaceOf network_73 (5 ∷ 3 ∷ 2 ∷ []) 61
place_73_1 = place_of_is network_73 3 (5 ∷ 3 ∷ 2 ∷ []) 61 refl

place_73_2 : IsPlaceOf network_73 (4 ∷ 3 ∷ 1 ∷ []) 52
place_73_2 = place_of_is network_73 3 (4 ∷ 3 ∷ 1 ∷ []) 52 refl

-- 2 events at period 3
abbrev network_74 : Network
network_74 = record { period = 3; events = new_event 3 ∷ new_event 8 ∷ []; activities = arc 1 3 8 (negsuc 1) (pos 1) 1 ∷ arc 2 3 8 (negsuc 0) (pos 1) 2 ∷ arc 3 3 8 (pos 2) (pos 7) 2 ∷ arc 4 3 3 (pos 0) (pos 3) 0 ∷ [] }

optimum_74 : IsOptimum network_74 (timetable_of network_74 (0 ∷ 2 ∷ [])) 1
optimum_74 = optimum_is network_74 (0 ∷ 2 ∷ []) 1 refl refl

size_74 : IsTreeSize network_74 12
size_74 = tree_size_is network_74 1 12 refl

place_74_0 : IsPlaceOf network_74 (0 ∷ 0 ∷ []) 2
place_74_0 = place_of_is network_74 1 (0 ∷ 0 ∷ []) 2 refl

place_74_1 : IsPlaceOf network_74 (1 ∷ 2 ∷ []) 8
place_74_1 = place_of_is network_74 1 (1 ∷ 2 ∷ []) 8 refl

place_74_2 : IsPlaceOf network_74 (1 ∷ 1 ∷ []) 7
place_74_2 = place_of_is network_74 1 (1 ∷ 1 ∷ []) 7 refl

-- 3 events at period 5
abbrev network_75 : Network
network_75 = record { period = 5; events = record { id = 1; window = Some (record { first = 4; length = 5 }) } ∷ new_event 7 ∷ new_event 9 ∷ []; activities = arc 1 9 7 (pos 9) (pos 11) 2 ∷ [] }

optimum_75 : IsOptimum network_75 (timetable_of network_75 (0 ∷ 0 ∷ 1 ∷ [])) 0
optimum_75 = optimum_is network_75 (0 ∷ 0 ∷ 1 ∷ []) 0 refl refl

size_75 : IsTreeSize network_75 105
size_75 = tree_size_is network_75 2 105 refl

place_75_0 : IsPlaceOf network_75 (2 ∷ 1 ∷ 2 ∷ []) 51
place_75_0 = place_of_is network_75 2 (2 ∷ 1 ∷ 2 ∷ []) 51 refl

place_75_1 : IsPlaceOf network_75 (0 ∷ 4 ∷ 0 ∷ []) 19
place_75_1 = place_of_is network_75 2 (0 ∷ 4 ∷ 0 ∷ []) 19 refl

place_75_2 : IsPlaceOf network_75 (2 ∷ 1 ∷ 1 ∷ []) 50
place_75_2 = place_of_is network_75 2 (2 ∷ 1 ∷ 1 ∷ []) 50 refl

-- 3 events at period 2
abbrev network_76 : Network
network_76 = record { period = 2; events = new_event 5 ∷ record { id = 7; window = Some (record { first = 1; length = 2 }) } ∷ new_event 8 ∷ []; activities = arc 1 8 7 (pos 1) (pos 2) 4 ∷ arc 2 7 8 (pos 4) (pos 6) 4 ∷ arc 3 7 5 (pos 4) (pos 5) 3 ∷ arc 4 7 8 (negsuc 3) (pos 0) 1 ∷ arc 5 5 5 (pos 0) (pos 0) 3 ∷ [] }

optimum_76 : IsOptimum network_76 (timetable_of network_76 (0 ∷ 0 ∷ 0 ∷ [])) 4
optimum_76 = optimum_is network_76 (0 ∷ 0 ∷ 0 ∷ []) 4 refl refl

size_76 : IsTreeSize network_76 14
size_76 = tree_size_is network_76 1 14 refl

place_76_0 : IsPlaceOf network_76 (1 ∷ 1 ∷ 0 ∷ []) 13
place_76_0 = place_of_is network_76 1 (1 ∷ 1 ∷ 0 ∷ []) 13 refl

place_76_1 : IsPlaceOf network_76 (0 ∷ 1 ∷ 1 ∷ []) 7
place_76_1 = place_of_is network_76 1 (0 ∷ 1 ∷ 1 ∷ []) 7 refl

place_76_2 : IsPlaceOf network_76 (0 ∷ 0 ∷ 0 ∷ []) 3
place_76_2 = place_of_is network_76 1 (0 ∷ 0 ∷ 0 ∷ []) 3 refl

-- 2 events at period 11
abbrev network_77 : Network
network_77 = record { period = 11; events = new_event 3 ∷ new_event 4 ∷ []; activities = arc 1 3 4 (pos 22) (pos 24) 2 ∷ [] }

optimum_77 : IsOptimum network_77 (timetable_of network_77 (0 ∷ 0 ∷ [])) 0
optimum_77 = optimum_is network_77 (0 ∷ 0 ∷ []) 0 refl refl

size_77 : IsTreeSize network_77 44
size_77 = tree_size_is network_77 2 44 refl

place_77_0 : IsPlaceOf network_77 (10 ∷ 10 ∷ []) 44
place_77_0 = place_of_is network_77 2 (10 ∷ 10 ∷ []) 44 refl

place_77_1 : IsPlaceOf network_77 (0 ∷ 2 ∷ []) 4
place_77_1 = place_of_is network_77 2 (0 ∷ 2 ∷ []) 4 refl

place_77_2 : IsPlaceOf network_77 (2 ∷ 3 ∷ []) 11
place_77_2 = place_of_is network_77 2 (2 ∷ 3 ∷ []) 11 refl

-- 2 events at period 5
abbrev network_78 : Network
network_78 = record { period = 5; events = new_event 1 ∷ new_event 4 ∷ []; activities = arc 1 4 1 (pos 7) (pos 8) 3 ∷ arc 2 4 1 (pos 2) (pos 3) 0 ∷ arc 3 1 4 (pos 3) (pos 8) 1 ∷ arc 4 1 4 (negsuc 6) (negsuc 6) 0 ∷ arc 5 4 1 (pos 4) (pos 7) 3 ∷ [] }

optimum_78 : IsOptimum network_78 (timetable_of network_78 (0 ∷ 3 ∷ [])) 9
optimum_78 = optimum_is network_78 (0 ∷ 3 ∷ []) 9 refl refl

size_78 : IsTreeSize network_78 10
size_78 = tree_size_is network_78 2 10 refl

place_78_0 : IsPlaceOf network_78 (1 ∷ 4 ∷ []) 4
place_78_0 = place_of_is network_78 2 (1 ∷ 4 ∷ []) 4 refl

place_78_1 : IsPlaceOf network_78 (4 ∷ 2 ∷ []) 10
place_78_1 = place_of_is network_78 2 (4 ∷ 2 ∷ []) 10 refl

place_78_2 : IsPlaceOf network_78 (2 ∷ 0 ∷ []) 6
place_78_2 = place_of_is network_78 2 (2 ∷ 0 ∷ []) 6 refl

-- 4 events at period 3
abbrev network_79 : Network
network_79 = record { period = 3; events = new_event 1 ∷ record { id = 2; window = Some (record { first = 0; length = 2 }) } ∷ new_event 3 ∷ new_event 4 ∷ []; activities = arc 1 1 4 (pos 3) (pos 4) 1 ∷ arc 2 3 1 (negsuc 2) (negsuc 2) 0 ∷ arc 3 2 4 (pos 0) (pos 2) 1 ∷ arc 5 1 3 (pos 0) (pos 0) 1 ∷ arc 6 3 3 (negsuc 1) (negsuc 0) 0 ∷ [] }

answer_79 : IsAnswer network_79 Infeasible
answer_79 = infeasible_is network_79 refl

size_79 : IsTreeSize network_79 3
size_79 = tree_size_is network_79 6 3 refl
