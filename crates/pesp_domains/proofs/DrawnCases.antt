-- Drawn cases of the definitions, as the model of tools/tests answers them: made by tools/draw_cases from seed 1811.
use Rattle.std.proofs.Common.{ℕ, ◌==◌, pos, negsuc, refl, List, [], ◌∷◌, map, Some}
use Rattle.std.specs.List.{list_any, range_with_len}
use Rattle.pesp_base.proofs.Samples.{signed_arc as arc}
use Rattle.pesp_instance.specs.Network.{Network, new_event}
use Rattle.pesp_domains.specs.declared.pair.Pair.{Pair}
use Rattle.pesp_domains.specs.Domains.{IsDomain}
use Rattle.pesp_domains.proofs.Sweeps.{swept_row}

-- these residues are the event's domain
abbrev HasDomain : Network → List Pair → ℕ → List ℕ → Type 0
HasDomain I pushes e residues = IsDomain I pushes e (map (λ r. list_any (λ s. s == r) residues) (range_with_len 0 I.period))

-- 4 events at period 7
abbrev network_0 : Network
network_0 = record { period = 7; events = record { id = 2; window = Some (record { first = 4; length = 7 }) } ∷ record { id = 7; window = Some (record { first = 1; length = 4 }) } ∷ record { id = 8; window = Some (record { first = 2; length = 5 }) } ∷ new_event 9 ∷ []; activities = arc 1 8 2 (pos 1) (pos 5) 3 ∷ [] }

domain_0_of_2 : HasDomain network_0 [] 2 (0 ∷ 1 ∷ 2 ∷ 3 ∷ 4 ∷ 5 ∷ 6 ∷ [])
domain_0_of_2 = swept_row network_0 [] 1 refl 2 _ refl refl

domain_0_of_7 : HasDomain network_0 [] 7 (1 ∷ 2 ∷ 3 ∷ 4 ∷ [])
domain_0_of_7 = swept_row network_0 [] 1 refl 7 _ refl refl

domain_0_of_8 : HasDomain network_0 [] 8 (2 ∷ 3 ∷ 4 ∷ 5 ∷ 6 ∷ [])
domain_0_of_8 = swept_row network_0 [] 1 refl 8 _ refl refl

domain_0_of_9 : HasDomain network_0 [] 9 (0 ∷ 1 ∷ 2 ∷ 3 ∷ 4 ∷ 5 ∷ 6 ∷ [])
domain_0_of_9 = swept_row network_0 [] 1 refl 9 _ refl refl

-- 2 events at period 3
abbrev network_1 : Network
network_1 = record { period = 3; events = record { id = 5; window = Some (record { first = 2; length = 2 }) } ∷ record { id = 9; window = Some (record { first = 0; length = 2 }) } ∷ []; activities = arc 1 5 9 (pos 4) (pos 4) 0 ∷ arc 2 9 5 (negsuc 1) (pos 2) 1 ∷ arc 3 5 9 (negsuc 1) (negsuc 1) 4 ∷ arc 4 9 5 (pos 5) (pos 7) 1 ∷ arc 5 5 9 (negsuc 5) (negsuc 3) 0 ∷ [] }

domain_1_of_5 : HasDomain network_1 (record { event = 5; residue = 2 } ∷ []) 5 (2 ∷ [])
domain_1_of_5 = swept_row network_1 (record { event = 5; residue = 2 } ∷ []) 2 refl 5 _ refl refl

domain_1_of_9 : HasDomain network_1 (record { event = 5; residue = 2 } ∷ []) 9 (0 ∷ [])
domain_1_of_9 = swept_row network_1 (record { event = 5; residue = 2 } ∷ []) 2 refl 9 _ refl refl

-- 3 events at period 6
abbrev network_2 : Network
network_2 = record { period = 6; events = new_event 1 ∷ new_event 3 ∷ new_event 4 ∷ []; activities = arc 2 3 3 (pos 6) (pos 6) 0 ∷ arc 4 3 1 (pos 6) (pos 7) 2 ∷ arc 5 4 4 (pos 1) (pos 2) 4 ∷ [] }

domain_2_of_1 : HasDomain network_2 [] 1 (0 ∷ 1 ∷ 2 ∷ 3 ∷ 4 ∷ 5 ∷ [])
domain_2_of_1 = swept_row network_2 [] 0 refl 1 _ refl refl

domain_2_of_3 : HasDomain network_2 [] 3 (0 ∷ 1 ∷ 2 ∷ 3 ∷ 4 ∷ 5 ∷ [])
domain_2_of_3 = swept_row network_2 [] 0 refl 3 _ refl refl

domain_2_of_4 : HasDomain network_2 [] 4 (0 ∷ 1 ∷ 2 ∷ 3 ∷ 4 ∷ 5 ∷ [])
domain_2_of_4 = swept_row network_2 [] 0 refl 4 _ refl refl

-- 2 events at period 7
abbrev network_3 : Network
network_3 = record { period = 7; events = new_event 1 ∷ new_event 5 ∷ []; activities = arc 1 1 5 (pos 0) (pos 7) 4 ∷ arc 2 5 1 (pos 7) (pos 7) 3 ∷ arc 3 5 1 (negsuc 0) (pos 7) 0 ∷ arc 4 5 1 (negsuc 6) (negsuc 6) 4 ∷ [] }

domain_3_of_1 : HasDomain network_3 [] 1 (0 ∷ 1 ∷ 2 ∷ 3 ∷ 4 ∷ 5 ∷ 6 ∷ [])
domain_3_of_1 = swept_row network_3 [] 0 refl 1 _ refl refl

domain_3_of_5 : HasDomain network_3 [] 5 (0 ∷ 1 ∷ 2 ∷ 3 ∷ 4 ∷ 5 ∷ 6 ∷ [])
domain_3_of_5 = swept_row network_3 [] 0 refl 5 _ refl refl

-- 4 events at period 3
abbrev network_4 : Network
network_4 = record { period = 3; events = new_event 1 ∷ new_event 2 ∷ new_event 3 ∷ new_event 4 ∷ []; activities = arc 2 2 4 (negsuc 1) (negsuc 0) 1 ∷ arc 3 1 3 (negsuc 1) (negsuc 0) 3 ∷ arc 5 3 2 (pos 2) (pos 3) 0 ∷ arc 6 1 4 (pos 1) (pos 3) 1 ∷ [] }

domain_4_of_1 : HasDomain network_4 [] 1 (0 ∷ 1 ∷ 2 ∷ [])
domain_4_of_1 = swept_row network_4 [] 0 refl 1 _ refl refl

domain_4_of_2 : HasDomain network_4 [] 2 (0 ∷ 1 ∷ 2 ∷ [])
domain_4_of_2 = swept_row network_4 [] 0 refl 2 _ refl refl

domain_4_of_3 : HasDomain network_4 [] 3 (0 ∷ 1 ∷ 2 ∷ [])
domain_4_of_3 = swept_row network_4 [] 0 refl 3 _ refl refl

domain_4_of_4 : HasDomain network_4 [] 4 (0 ∷ 1 ∷ 2 ∷ [])
domain_4_of_4 = swept_row network_4 [] 0 refl 4 _ refl refl

-- 5 events at period 5
abbrev network_5 : Network
network_5 = record { period = 5; events = new_event 0 ∷ new_event 1 ∷ new_event 2 ∷ new_event 3 ∷ record { id = 4; window = Some (record { first = 4; length = 4 }) } ∷ []; activities = arc 6 1 2 (negsuc 0) (pos 0) 0 ∷ [] }

domain_5_of_0 : HasDomain network_5 [] 0 (0 ∷ 1 ∷ 2 ∷ 3 ∷ 4 ∷ [])
domain_5_of_0 = swept_row network_5 [] 1 refl 0 _ refl refl

domain_5_of_1 : HasDomain network_5 [] 1 (0 ∷ 1 ∷ 2 ∷ 3 ∷ 4 ∷ [])
domain_5_of_1 = swept_row network_5 [] 1 refl 1 _ refl refl

domain_5_of_2 : HasDomain network_5 [] 2 (0 ∷ 1 ∷ 2 ∷ 3 ∷ 4 ∷ [])
domain_5_of_2 = swept_row network_5 [] 1 refl 2 _ refl refl

domain_5_of_3 : HasDomain network_5 [] 3 (0 ∷ 1 ∷ 2 ∷ 3 ∷ 4 ∷ [])
domain_5_of_3 = swept_row network_5 [] 1 refl 3 _ refl refl

domain_5_of_4 : HasDomain network_5 [] 4 (0 ∷ 1 ∷ 2 ∷ 4 ∷ [])
domain_5_of_4 = swept_row network_5 [] 1 refl 4 _ refl refl

-- 4 events at period 11
abbrev network_6 : Network
network_6 = record { period = 11; events = new_event 1 ∷ record { id = 2; window = Some (record { first = 9; length = 1 }) } ∷ new_event 3 ∷ new_event 4 ∷ []; activities = arc 3 4 3 (pos 5) (pos 7) 3 ∷ arc 4 4 3 (negsuc 5) (negsuc 5) 0 ∷ arc 5 1 3 (pos 5) (pos 5) 2 ∷ arc 6 3 2 (pos 4) (pos 6) 1 ∷ [] }

domain_6_of_1 : HasDomain network_6 [] 1 (0 ∷ 9 ∷ 10 ∷ [])
domain_6_of_1 = swept_row network_6 [] 3 refl 1 _ refl refl

domain_6_of_2 : HasDomain network_6 [] 2 (9 ∷ [])
domain_6_of_2 = swept_row network_6 [] 3 refl 2 _ refl refl

domain_6_of_3 : HasDomain network_6 [] 3 (3 ∷ 4 ∷ 5 ∷ [])
domain_6_of_3 = swept_row network_6 [] 3 refl 3 _ refl refl

domain_6_of_4 : HasDomain network_6 [] 4 (0 ∷ 9 ∷ 10 ∷ [])
domain_6_of_4 = swept_row network_6 [] 3 refl 4 _ refl refl

-- 2 events at period 4
abbrev network_7 : Network
network_7 = record { period = 4; events = new_event 6 ∷ new_event 8 ∷ []; activities = arc 1 6 8 (pos 4) (pos 7) 1 ∷ [] }

domain_7_of_6 : HasDomain network_7 [] 6 (0 ∷ 1 ∷ 2 ∷ 3 ∷ [])
domain_7_of_6 = swept_row network_7 [] 0 refl 6 _ refl refl

domain_7_of_8 : HasDomain network_7 [] 8 (0 ∷ 1 ∷ 2 ∷ 3 ∷ [])
domain_7_of_8 = swept_row network_7 [] 0 refl 8 _ refl refl

-- 3 events at period 3
abbrev network_8 : Network
network_8 = record { period = 3; events = new_event 3 ∷ new_event 4 ∷ record { id = 7; window = Some (record { first = 1; length = 3 }) } ∷ []; activities = arc 1 4 7 (pos 0) (pos 2) 0 ∷ [] }

domain_8_of_3 : HasDomain network_8 [] 3 (0 ∷ 1 ∷ 2 ∷ [])
domain_8_of_3 = swept_row network_8 [] 0 refl 3 _ refl refl

domain_8_of_4 : HasDomain network_8 [] 4 (0 ∷ 1 ∷ 2 ∷ [])
domain_8_of_4 = swept_row network_8 [] 0 refl 4 _ refl refl

domain_8_of_7 : HasDomain network_8 [] 7 (0 ∷ 1 ∷ 2 ∷ [])
domain_8_of_7 = swept_row network_8 [] 0 refl 7 _ refl refl

-- 3 events at period 6
abbrev network_9 : Network
network_9 = record { period = 6; events = record { id = 3; window = Some (record { first = 2; length = 4 }) } ∷ record { id = 6; window = Some (record { first = 5; length = 6 }) } ∷ new_event 7 ∷ []; activities = arc 1 6 7 (pos 6) (pos 13) 3 ∷ [] }

domain_9_of_3 : HasDomain network_9 [] 3 (2 ∷ 3 ∷ 4 ∷ 5 ∷ [])
domain_9_of_3 = swept_row network_9 [] 1 refl 3 _ refl refl

domain_9_of_6 : HasDomain network_9 [] 6 (0 ∷ 1 ∷ 2 ∷ 3 ∷ 4 ∷ 5 ∷ [])
domain_9_of_6 = swept_row network_9 [] 1 refl 6 _ refl refl

domain_9_of_7 : HasDomain network_9 [] 7 (0 ∷ 1 ∷ 2 ∷ 3 ∷ 4 ∷ 5 ∷ [])
domain_9_of_7 = swept_row network_9 [] 1 refl 7 _ refl refl

-- 2 events at period 12
abbrev network_10 : Network
network_10 = record { period = 12; events = new_event 8 ∷ new_event 9 ∷ []; activities = arc 1 9 8 (negsuc 7) (pos 5) 3 ∷ arc 2 9 8 (pos 3) (pos 5) 1 ∷ arc 3 8 9 (pos 19) (pos 20) 4 ∷ arc 4 8 9 (pos 6) (pos 8) 3 ∷ arc 5 9 8 (pos 0) (pos 7) 0 ∷ [] }

domain_10_of_8 : HasDomain network_10 [] 8 (0 ∷ 1 ∷ 2 ∷ 3 ∷ 4 ∷ 5 ∷ 6 ∷ 7 ∷ 8 ∷ 9 ∷ 10 ∷ 11 ∷ [])
domain_10_of_8 = swept_row network_10 [] 0 refl 8 _ refl refl

domain_10_of_9 : HasDomain network_10 [] 9 (0 ∷ 1 ∷ 2 ∷ 3 ∷ 4 ∷ 5 ∷ 6 ∷ 7 ∷ 8 ∷ 9 ∷ 10 ∷ 11 ∷ [])
domain_10_of_9 = swept_row network_10 [] 0 refl 9 _ refl refl

-- 4 events at period 5
abbrev network_11 : Network
network_11 = record { period = 5; events = record { id = 2; window = Some (record { first = 2; length = 5 }) } ∷ new_event 3 ∷ record { id = 6; window = Some (record { first = 1; length = 5 }) } ∷ new_event 8 ∷ []; activities = arc 1 2 3 (negsuc 2) (pos 2) 3 ∷ [] }

domain_11_of_2 : HasDomain network_11 (record { event = 2; residue = 3 } ∷ record { event = 3; residue = 0 } ∷ []) 2 (3 ∷ [])
domain_11_of_2 = swept_row network_11 (record { event = 2; residue = 3 } ∷ record { event = 3; residue = 0 } ∷ []) 1 refl 2 _ refl refl

domain_11_of_3 : HasDomain network_11 (record { event = 2; residue = 3 } ∷ record { event = 3; residue = 0 } ∷ []) 3 (0 ∷ [])
domain_11_of_3 = swept_row network_11 (record { event = 2; residue = 3 } ∷ record { event = 3; residue = 0 } ∷ []) 1 refl 3 _ refl refl

domain_11_of_6 : HasDomain network_11 (record { event = 2; residue = 3 } ∷ record { event = 3; residue = 0 } ∷ []) 6 (0 ∷ 1 ∷ 2 ∷ 3 ∷ 4 ∷ [])
domain_11_of_6 = swept_row network_11 (record { event = 2; residue = 3 } ∷ record { event = 3; residue = 0 } ∷ []) 1 refl 6 _ refl refl

domain_11_of_8 : HasDomain network_11 (record { event = 2; residue = 3 } ∷ record { event = 3; residue = 0 } ∷ []) 8 (0 ∷ 1 ∷ 2 ∷ 3 ∷ 4 ∷ [])
domain_11_of_8 = swept_row network_11 (record { event = 2; residue = 3 } ∷ record { event = 3; residue = 0 } ∷ []) 1 refl 8 _ refl refl

-- 3 events at period 9
abbrev network_12 : Network
network_12 = record { period = 9; events = new_event 1 ∷ new_event 3 ∷ record { id = 4; window = Some (record { first = 6; length = 2 }) } ∷ []; activities = arc 1 3 3 (negsuc 1) (negsuc 1) 4 ∷ arc 4 3 3 (negsuc 3) (negsuc 1) 10 ∷ arc 5 1 4 (pos 2) (pos 2) 2 ∷ [] }

domain_12_of_1 : HasDomain network_12 (record { event = 1; residue = 5 } ∷ record { event = 3; residue = 3 } ∷ []) 1 (5 ∷ [])
domain_12_of_1 = swept_row network_12 (record { event = 1; residue = 5 } ∷ record { event = 3; residue = 3 } ∷ []) 2 refl 1 _ refl refl

domain_12_of_3 : HasDomain network_12 (record { event = 1; residue = 5 } ∷ record { event = 3; residue = 3 } ∷ []) 3 []
domain_12_of_3 = swept_row network_12 (record { event = 1; residue = 5 } ∷ record { event = 3; residue = 3 } ∷ []) 2 refl 3 _ refl refl

domain_12_of_4 : HasDomain network_12 (record { event = 1; residue = 5 } ∷ record { event = 3; residue = 3 } ∷ []) 4 (7 ∷ [])
domain_12_of_4 = swept_row network_12 (record { event = 1; residue = 5 } ∷ record { event = 3; residue = 3 } ∷ []) 2 refl 4 _ refl refl

-- 2 events at period 3
abbrev network_13 : Network
network_13 = record { period = 3; events = new_event 3 ∷ new_event 6 ∷ []; activities = arc 1 3 3 (pos 3) (pos 5) 0 ∷ arc 2 6 3 (pos 1) (pos 1) 4 ∷ arc 3 3 6 (pos 3) (pos 3) 3 ∷ [] }

domain_13_of_3 : HasDomain network_13 (record { event = 3; residue = 2 } ∷ []) 3 []
domain_13_of_3 = swept_row network_13 (record { event = 3; residue = 2 } ∷ []) 3 refl 3 _ refl refl

domain_13_of_6 : HasDomain network_13 (record { event = 3; residue = 2 } ∷ []) 6 []
domain_13_of_6 = swept_row network_13 (record { event = 3; residue = 2 } ∷ []) 3 refl 6 _ refl refl

-- 2 events at period 10
abbrev network_14 : Network
network_14 = record { period = 10; events = new_event 1 ∷ record { id = 3; window = Some (record { first = 5; length = 8 }) } ∷ []; activities = arc 1 1 3 (negsuc 13) (negsuc 10) 1 ∷ arc 2 3 1 (pos 23) (pos 23) 0 ∷ [] }

domain_14_of_1 : HasDomain network_14 [] 1 (0 ∷ 1 ∷ 2 ∷ 3 ∷ 4 ∷ 5 ∷ 8 ∷ 9 ∷ [])
domain_14_of_1 = swept_row network_14 [] 2 refl 1 _ refl refl

domain_14_of_3 : HasDomain network_14 [] 3 (0 ∷ 1 ∷ 2 ∷ 5 ∷ 6 ∷ 7 ∷ 8 ∷ 9 ∷ [])
domain_14_of_3 = swept_row network_14 [] 2 refl 3 _ refl refl

-- 2 events at period 8
abbrev network_15 : Network
network_15 = record { period = 8; events = record { id = 8; window = Some (record { first = 3; length = 5 }) } ∷ new_event 9 ∷ []; activities = arc 1 9 8 (pos 6) (pos 7) 3 ∷ arc 2 8 9 (negsuc 6) (negsuc 4) 0 ∷ arc 3 8 9 (negsuc 0) (pos 11) 0 ∷ arc 4 8 9 (negsuc 13) (negsuc 5) 1 ∷ arc 5 8 9 (pos 1) (pos 2) 1 ∷ [] }

domain_15_of_8 : HasDomain network_15 [] 8 (3 ∷ 4 ∷ 5 ∷ 6 ∷ 7 ∷ [])
domain_15_of_8 = swept_row network_15 [] 2 refl 8 _ refl refl

domain_15_of_9 : HasDomain network_15 [] 9 (0 ∷ 1 ∷ 4 ∷ 5 ∷ 6 ∷ 7 ∷ [])
domain_15_of_9 = swept_row network_15 [] 2 refl 9 _ refl refl

-- 3 events at period 8
abbrev network_16 : Network
network_16 = record { period = 8; events = record { id = 1; window = Some (record { first = 6; length = 4 }) } ∷ new_event 2 ∷ new_event 4 ∷ []; activities = arc 1 2 1 (negsuc 4) (negsuc 2) 0 ∷ arc 2 4 2 (pos 8) (pos 17) 2 ∷ [] }

domain_16_of_1 : HasDomain network_16 [] 1 (0 ∷ 1 ∷ 6 ∷ 7 ∷ [])
domain_16_of_1 = swept_row network_16 [] 2 refl 1 _ refl refl

domain_16_of_2 : HasDomain network_16 [] 2 (1 ∷ 2 ∷ 3 ∷ 4 ∷ 5 ∷ 6 ∷ [])
domain_16_of_2 = swept_row network_16 [] 2 refl 2 _ refl refl

domain_16_of_4 : HasDomain network_16 [] 4 (0 ∷ 1 ∷ 2 ∷ 3 ∷ 4 ∷ 5 ∷ 6 ∷ 7 ∷ [])
domain_16_of_4 = swept_row network_16 [] 2 refl 4 _ refl refl

-- 3 events at period 9
abbrev network_17 : Network
network_17 = record { period = 9; events = record { id = 2; window = Some (record { first = 2; length = 5 }) } ∷ record { id = 4; window = Some (record { first = 0; length = 7 }) } ∷ new_event 7 ∷ []; activities = arc 1 7 2 (negsuc 2) (pos 1) 4 ∷ arc 2 4 7 (negsuc 0) (pos 9) 0 ∷ arc 3 7 4 (pos 18) (pos 20) 1 ∷ arc 4 2 7 (pos 0) (pos 0) 2 ∷ arc 5 2 4 (pos 9) (pos 11) 1 ∷ [] }

domain_17_of_2 : HasDomain network_17 [] 2 (2 ∷ 3 ∷ 4 ∷ 5 ∷ 6 ∷ [])
domain_17_of_2 = swept_row network_17 [] 2 refl 2 _ refl refl

domain_17_of_4 : HasDomain network_17 [] 4 (2 ∷ 3 ∷ 4 ∷ 5 ∷ 6 ∷ [])
domain_17_of_4 = swept_row network_17 [] 2 refl 4 _ refl refl

domain_17_of_7 : HasDomain network_17 [] 7 (2 ∷ 3 ∷ 4 ∷ 5 ∷ 6 ∷ [])
domain_17_of_7 = swept_row network_17 [] 2 refl 7 _ refl refl

-- 2 events at period 12
abbrev network_18 : Network
network_18 = record { period = 12; events = new_event 2 ∷ new_event 5 ∷ []; activities = arc 1 2 5 (negsuc 16) (negsuc 14) 4 ∷ [] }

domain_18_of_2 : HasDomain network_18 (record { event = 2; residue = 9 } ∷ []) 2 (9 ∷ [])
domain_18_of_2 = swept_row network_18 (record { event = 2; residue = 9 } ∷ []) 2 refl 2 _ refl refl

domain_18_of_5 : HasDomain network_18 (record { event = 2; residue = 9 } ∷ []) 5 (4 ∷ 5 ∷ 6 ∷ [])
domain_18_of_5 = swept_row network_18 (record { event = 2; residue = 9 } ∷ []) 2 refl 5 _ refl refl

-- 2 events at period 10
abbrev network_19 : Network
network_19 = record { period = 10; events = new_event 1 ∷ new_event 4 ∷ []; activities = arc 1 1 1 (pos 5) (pos 6) 3 ∷ arc 3 1 1 (pos 7) (pos 8) 1 ∷ arc 5 4 4 (negsuc 9) (negsuc 8) 2 ∷ [] }

domain_19_of_1 : HasDomain network_19 [] 1 (0 ∷ 1 ∷ 2 ∷ 3 ∷ 4 ∷ 5 ∷ 6 ∷ 7 ∷ 8 ∷ 9 ∷ [])
domain_19_of_1 = swept_row network_19 [] 0 refl 1 _ refl refl

domain_19_of_4 : HasDomain network_19 [] 4 (0 ∷ 1 ∷ 2 ∷ 3 ∷ 4 ∷ 5 ∷ 6 ∷ 7 ∷ 8 ∷ 9 ∷ [])
domain_19_of_4 = swept_row network_19 [] 0 refl 4 _ refl refl

-- 2 events at period 2
abbrev network_20 : Network
network_20 = record { period = 2; events = new_event 3 ∷ new_event 9 ∷ []; activities = arc 1 9 3 (pos 5) (pos 7) 4 ∷ arc 2 9 3 (negsuc 1) (pos 0) 2 ∷ arc 3 3 9 (pos 1) (pos 4) 4 ∷ arc 4 3 9 (pos 4) (pos 4) 2 ∷ arc 5 9 3 (pos 2) (pos 4) 1 ∷ [] }

domain_20_of_3 : HasDomain network_20 (record { event = 3; residue = 0 } ∷ []) 3 (0 ∷ [])
domain_20_of_3 = swept_row network_20 (record { event = 3; residue = 0 } ∷ []) 2 refl 3 _ refl refl

domain_20_of_9 : HasDomain network_20 (record { event = 3; residue = 0 } ∷ []) 9 (0 ∷ [])
domain_20_of_9 = swept_row network_20 (record { event = 3; residue = 0 } ∷ []) 2 refl 9 _ refl refl

-- 3 events at period 11
abbrev network_21 : Network
network_21 = record { period = 11; events = new_event 1 ∷ new_event 5 ∷ new_event 9 ∷ []; activities = arc 1 1 5 (negsuc 0) (pos 12) 1 ∷ arc 2 1 5 (negsuc 0) (pos 1) 0 ∷ arc 3 1 5 (pos 20) (pos 23) 4 ∷ [] }

domain_21_of_1 : HasDomain network_21 [] 1 (0 ∷ 1 ∷ 2 ∷ 3 ∷ 4 ∷ 5 ∷ 6 ∷ 7 ∷ 8 ∷ 9 ∷ 10 ∷ [])
domain_21_of_1 = swept_row network_21 [] 0 refl 1 _ refl refl

domain_21_of_5 : HasDomain network_21 [] 5 (0 ∷ 1 ∷ 2 ∷ 3 ∷ 4 ∷ 5 ∷ 6 ∷ 7 ∷ 8 ∷ 9 ∷ 10 ∷ [])
domain_21_of_5 = swept_row network_21 [] 0 refl 5 _ refl refl

domain_21_of_9 : HasDomain network_21 [] 9 (0 ∷ 1 ∷ 2 ∷ 3 ∷ 4 ∷ 5 ∷ 6 ∷ 7 ∷ 8 ∷ 9 ∷ 10 ∷ [])
domain_21_of_9 = swept_row network_21 [] 0 refl 9 _ refl refl

-- 3 events at period 10
abbrev network_22 : Network
network_22 = record { period = 10; events = new_event 1 ∷ new_event 2 ∷ new_event 3 ∷ []; activities = arc 3 1 2 (negsuc 2) (negsuc 0) 3 ∷ arc 4 1 1 (negsuc 9) (negsuc 4) 1 ∷ arc 5 1 2 (pos 3) (pos 5) 4 ∷ [] }

domain_22_of_1 : HasDomain network_22 (record { event = 1; residue = 8 } ∷ []) 1 []
domain_22_of_1 = swept_row network_22 (record { event = 1; residue = 8 } ∷ []) 3 refl 1 _ refl refl

domain_22_of_2 : HasDomain network_22 (record { event = 1; residue = 8 } ∷ []) 2 []
domain_22_of_2 = swept_row network_22 (record { event = 1; residue = 8 } ∷ []) 3 refl 2 _ refl refl

domain_22_of_3 : HasDomain network_22 (record { event = 1; residue = 8 } ∷ []) 3 (0 ∷ 1 ∷ 2 ∷ 3 ∷ 4 ∷ 5 ∷ 6 ∷ 7 ∷ 8 ∷ 9 ∷ [])
domain_22_of_3 = swept_row network_22 (record { event = 1; residue = 8 } ∷ []) 3 refl 3 _ refl refl

-- 2 events at period 10
abbrev network_23 : Network
network_23 = record { period = 10; events = record { id = 6; window = Some (record { first = 9; length = 10 }) } ∷ new_event 7 ∷ []; activities = arc 1 7 7 (negsuc 9) (negsuc 9) 0 ∷ [] }

domain_23_of_6 : HasDomain network_23 (record { event = 6; residue = 6 } ∷ []) 6 (6 ∷ [])
domain_23_of_6 = swept_row network_23 (record { event = 6; residue = 6 } ∷ []) 1 refl 6 _ refl refl

domain_23_of_7 : HasDomain network_23 (record { event = 6; residue = 6 } ∷ []) 7 (0 ∷ 1 ∷ 2 ∷ 3 ∷ 4 ∷ 5 ∷ 6 ∷ 7 ∷ 8 ∷ 9 ∷ [])
domain_23_of_7 = swept_row network_23 (record { event = 6; residue = 6 } ∷ []) 1 refl 7 _ refl refl

-- 3 events at period 5
abbrev network_24 : Network
network_24 = record { period = 5; events = record { id = 1; window = Some (record { first = 4; length = 5 }) } ∷ new_event 5 ∷ new_event 8 ∷ []; activities = arc 1 5 8 (pos 1) (pos 7) 0 ∷ arc 2 1 8 (negsuc 7) (negsuc 0) 4 ∷ arc 3 1 8 (negsuc 5) (negsuc 3) 4 ∷ arc 4 8 1 (pos 3) (pos 11) 1 ∷ [] }

domain_24_of_1 : HasDomain network_24 [] 1 (0 ∷ 1 ∷ 2 ∷ 3 ∷ 4 ∷ [])
domain_24_of_1 = swept_row network_24 [] 0 refl 1 _ refl refl

domain_24_of_5 : HasDomain network_24 [] 5 (0 ∷ 1 ∷ 2 ∷ 3 ∷ 4 ∷ [])
domain_24_of_5 = swept_row network_24 [] 0 refl 5 _ refl refl

domain_24_of_8 : HasDomain network_24 [] 8 (0 ∷ 1 ∷ 2 ∷ 3 ∷ 4 ∷ [])
domain_24_of_8 = swept_row network_24 [] 0 refl 8 _ refl refl

-- 3 events at period 11
abbrev network_25 : Network
network_25 = record { period = 11; events = new_event 3 ∷ new_event 4 ∷ new_event 9 ∷ []; activities = arc 1 3 4 (pos 11) (pos 17) 1 ∷ arc 2 3 4 (pos 14) (pos 18) 4 ∷ arc 3 4 9 (negsuc 10) (negsuc 8) 1 ∷ [] }

domain_25_of_3 : HasDomain network_25 [] 3 (0 ∷ 1 ∷ 2 ∷ 3 ∷ 4 ∷ 5 ∷ 6 ∷ 7 ∷ 8 ∷ 9 ∷ 10 ∷ [])
domain_25_of_3 = swept_row network_25 [] 0 refl 3 _ refl refl

domain_25_of_4 : HasDomain network_25 [] 4 (0 ∷ 1 ∷ 2 ∷ 3 ∷ 4 ∷ 5 ∷ 6 ∷ 7 ∷ 8 ∷ 9 ∷ 10 ∷ [])
domain_25_of_4 = swept_row network_25 [] 0 refl 4 _ refl refl

domain_25_of_9 : HasDomain network_25 [] 9 (0 ∷ 1 ∷ 2 ∷ 3 ∷ 4 ∷ 5 ∷ 6 ∷ 7 ∷ 8 ∷ 9 ∷ 10 ∷ [])
domain_25_of_9 = swept_row network_25 [] 0 refl 9 _ refl refl

-- 3 events at period 10
abbrev network_26 : Network
network_26 = record { period = 10; events = new_event 1 ∷ new_event 2 ∷ new_event 3 ∷ []; activities = arc 1 3 2 (pos 5) (pos 5) 0 ∷ arc 2 2 1 (negsuc 9) (negsuc 7) 3 ∷ arc 3 1 2 (negsuc 9) (pos 0) 1 ∷ arc 4 1 3 (pos 14) (pos 16) 1 ∷ arc 5 1 2 (pos 10) (pos 11) 2 ∷ [] }

domain_26_of_1 : HasDomain network_26 (record { event = 1; residue = 9 } ∷ []) 1 (9 ∷ [])
domain_26_of_1 = swept_row network_26 (record { event = 1; residue = 9 } ∷ []) 3 refl 1 _ refl refl

domain_26_of_2 : HasDomain network_26 (record { event = 1; residue = 9 } ∷ []) 2 (9 ∷ [])
domain_26_of_2 = swept_row network_26 (record { event = 1; residue = 9 } ∷ []) 3 refl 2 _ refl refl

domain_26_of_3 : HasDomain network_26 (record { event = 1; residue = 9 } ∷ []) 3 (4 ∷ [])
domain_26_of_3 = swept_row network_26 (record { event = 1; residue = 9 } ∷ []) 3 refl 3 _ refl refl

-- 4 events at period 9
abbrev network_27 : Network
network_27 = record { period = 9; events = new_event 1 ∷ new_event 2 ∷ record { id = 4; window = Some (record { first = 8; length = 9 }) } ∷ new_event 7 ∷ []; activities = arc 1 1 4 (negsuc 5) (negsuc 3) 0 ∷ arc 2 4 2 (pos 22) (pos 25) 3 ∷ arc 3 2 1 (pos 19) (pos 21) 1 ∷ arc 4 4 1 (negsuc 3) (negsuc 1) 1 ∷ arc 5 1 4 (negsuc 3) (pos 4) 0 ∷ [] }

domain_27_of_1 : HasDomain network_27 [] 1 (0 ∷ 1 ∷ 2 ∷ 3 ∷ 4 ∷ 5 ∷ 6 ∷ 7 ∷ 8 ∷ [])
domain_27_of_1 = swept_row network_27 [] 0 refl 1 _ refl refl

domain_27_of_2 : HasDomain network_27 [] 2 (0 ∷ 1 ∷ 2 ∷ 3 ∷ 4 ∷ 5 ∷ 6 ∷ 7 ∷ 8 ∷ [])
domain_27_of_2 = swept_row network_27 [] 0 refl 2 _ refl refl

domain_27_of_4 : HasDomain network_27 [] 4 (0 ∷ 1 ∷ 2 ∷ 3 ∷ 4 ∷ 5 ∷ 6 ∷ 7 ∷ 8 ∷ [])
domain_27_of_4 = swept_row network_27 [] 0 refl 4 _ refl refl

domain_27_of_7 : HasDomain network_27 [] 7 (0 ∷ 1 ∷ 2 ∷ 3 ∷ 4 ∷ 5 ∷ 6 ∷ 7 ∷ 8 ∷ [])
domain_27_of_7 = swept_row network_27 [] 0 refl 7 _ refl refl

-- 3 events at period 6
abbrev network_28 : Network
network_28 = record { period = 6; events = new_event 1 ∷ new_event 2 ∷ new_event 6 ∷ []; activities = arc 1 2 1 (pos 7) (pos 10) 1 ∷ arc 2 6 2 (negsuc 2) (pos 4) 4 ∷ arc 3 6 2 (pos 15) (pos 15) 1 ∷ [] }

domain_28_of_1 : HasDomain network_28 (record { event = 1; residue = 2 } ∷ record { event = 2; residue = 1 } ∷ []) 1 (2 ∷ [])
domain_28_of_1 = swept_row network_28 (record { event = 1; residue = 2 } ∷ record { event = 2; residue = 1 } ∷ []) 2 refl 1 _ refl refl

domain_28_of_2 : HasDomain network_28 (record { event = 1; residue = 2 } ∷ record { event = 2; residue = 1 } ∷ []) 2 (1 ∷ [])
domain_28_of_2 = swept_row network_28 (record { event = 1; residue = 2 } ∷ record { event = 2; residue = 1 } ∷ []) 2 refl 2 _ refl refl

domain_28_of_6 : HasDomain network_28 (record { event = 1; residue = 2 } ∷ record { event = 2; residue = 1 } ∷ []) 6 (4 ∷ [])
domain_28_of_6 = swept_row network_28 (record { event = 1; residue = 2 } ∷ record { event = 2; residue = 1 } ∷ []) 2 refl 6 _ refl refl

-- 4 events at period 10
abbrev network_29 : Network
network_29 = record { period = 10; events = new_event 2 ∷ new_event 4 ∷ new_event 6 ∷ new_event 7 ∷ []; activities = arc 1 2 6 (negsuc 4) (pos 7) 4 ∷ arc 2 2 7 (pos 9) (pos 22) 0 ∷ arc 3 6 7 (pos 15) (pos 25) 3 ∷ [] }

domain_29_of_2 : HasDomain network_29 [] 2 (0 ∷ 1 ∷ 2 ∷ 3 ∷ 4 ∷ 5 ∷ 6 ∷ 7 ∷ 8 ∷ 9 ∷ [])
domain_29_of_2 = swept_row network_29 [] 0 refl 2 _ refl refl

domain_29_of_4 : HasDomain network_29 [] 4 (0 ∷ 1 ∷ 2 ∷ 3 ∷ 4 ∷ 5 ∷ 6 ∷ 7 ∷ 8 ∷ 9 ∷ [])
domain_29_of_4 = swept_row network_29 [] 0 refl 4 _ refl refl

domain_29_of_6 : HasDomain network_29 [] 6 (0 ∷ 1 ∷ 2 ∷ 3 ∷ 4 ∷ 5 ∷ 6 ∷ 7 ∷ 8 ∷ 9 ∷ [])
domain_29_of_6 = swept_row network_29 [] 0 refl 6 _ refl refl

domain_29_of_7 : HasDomain network_29 [] 7 (0 ∷ 1 ∷ 2 ∷ 3 ∷ 4 ∷ 5 ∷ 6 ∷ 7 ∷ 8 ∷ 9 ∷ [])
domain_29_of_7 = swept_row network_29 [] 0 refl 7 _ refl refl

-- 4 events at period 2
abbrev network_30 : Network
network_30 = record { period = 2; events = record { id = 1; window = Some (record { first = 0; length = 1 }) } ∷ new_event 2 ∷ new_event 3 ∷ new_event 4 ∷ []; activities = arc 3 1 2 (negsuc 0) (pos 1) 1 ∷ [] }

domain_30_of_1 : HasDomain network_30 (record { event = 1; residue = 1 } ∷ []) 1 []
domain_30_of_1 = swept_row network_30 (record { event = 1; residue = 1 } ∷ []) 2 refl 1 _ refl refl

domain_30_of_2 : HasDomain network_30 (record { event = 1; residue = 1 } ∷ []) 2 []
domain_30_of_2 = swept_row network_30 (record { event = 1; residue = 1 } ∷ []) 2 refl 2 _ refl refl

domain_30_of_3 : HasDomain network_30 (record { event = 1; residue = 1 } ∷ []) 3 (0 ∷ 1 ∷ [])
domain_30_of_3 = swept_row network_30 (record { event = 1; residue = 1 } ∷ []) 2 refl 3 _ refl refl

domain_30_of_4 : HasDomain network_30 (record { event = 1; residue = 1 } ∷ []) 4 (0 ∷ 1 ∷ [])
domain_30_of_4 = swept_row network_30 (record { event = 1; residue = 1 } ∷ []) 2 refl 4 _ refl refl

-- 2 events at period 4
abbrev network_31 : Network
network_31 = record { period = 4; events = record { id = 5; window = Some (record { first = 3; length = 4 }) } ∷ new_event 6 ∷ []; activities = arc 1 6 5 (pos 6) (pos 7) 2 ∷ arc 2 6 5 (pos 10) (pos 11) 4 ∷ arc 3 6 5 (pos 2) (pos 5) 2 ∷ arc 4 5 5 (pos 0) (pos 1) 4 ∷ [] }

domain_31_of_5 : HasDomain network_31 [] 5 (0 ∷ 1 ∷ 2 ∷ 3 ∷ [])
domain_31_of_5 = swept_row network_31 [] 0 refl 5 _ refl refl

domain_31_of_6 : HasDomain network_31 [] 6 (0 ∷ 1 ∷ 2 ∷ 3 ∷ [])
domain_31_of_6 = swept_row network_31 [] 0 refl 6 _ refl refl

-- 2 events at period 9
abbrev network_32 : Network
network_32 = record { period = 9; events = new_event 6 ∷ record { id = 7; window = Some (record { first = 1; length = 9 }) } ∷ []; activities = arc 1 6 7 (pos 21) (pos 24) 1 ∷ arc 2 7 6 (pos 1) (pos 14) 2 ∷ arc 3 6 7 (pos 13) (pos 22) 1 ∷ arc 4 7 6 (pos 4) (pos 14) 3 ∷ arc 5 6 7 (negsuc 4) (negsuc 2) 1 ∷ [] }

domain_32_of_6 : HasDomain network_32 (record { event = 6; residue = 3 } ∷ []) 6 (3 ∷ [])
domain_32_of_6 = swept_row network_32 (record { event = 6; residue = 3 } ∷ []) 2 refl 6 _ refl refl

domain_32_of_7 : HasDomain network_32 (record { event = 6; residue = 3 } ∷ []) 7 (0 ∷ 7 ∷ 8 ∷ [])
domain_32_of_7 = swept_row network_32 (record { event = 6; residue = 3 } ∷ []) 2 refl 7 _ refl refl

-- 3 events at period 2
abbrev network_33 : Network
network_33 = record { period = 2; events = record { id = 1; window = Some (record { first = 0; length = 2 }) } ∷ new_event 7 ∷ new_event 8 ∷ []; activities = arc 1 1 1 (negsuc 1) (pos 0) 1 ∷ arc 2 7 8 (pos 2) (pos 4) 3 ∷ arc 3 8 7 (pos 4) (pos 6) 1 ∷ [] }

domain_33_of_1 : HasDomain network_33 (record { event = 1; residue = 1 } ∷ record { event = 7; residue = 0 } ∷ []) 1 (1 ∷ [])
domain_33_of_1 = swept_row network_33 (record { event = 1; residue = 1 } ∷ record { event = 7; residue = 0 } ∷ []) 1 refl 1 _ refl refl

domain_33_of_7 : HasDomain network_33 (record { event = 1; residue = 1 } ∷ record { event = 7; residue = 0 } ∷ []) 7 (0 ∷ [])
domain_33_of_7 = swept_row network_33 (record { event = 1; residue = 1 } ∷ record { event = 7; residue = 0 } ∷ []) 1 refl 7 _ refl refl

domain_33_of_8 : HasDomain network_33 (record { event = 1; residue = 1 } ∷ record { event = 7; residue = 0 } ∷ []) 8 (0 ∷ 1 ∷ [])
domain_33_of_8 = swept_row network_33 (record { event = 1; residue = 1 } ∷ record { event = 7; residue = 0 } ∷ []) 1 refl 8 _ refl refl

-- 2 events at period 10
abbrev network_34 : Network
network_34 = record { period = 10; events = new_event 6 ∷ record { id = 7; window = Some (record { first = 5; length = 9 }) } ∷ []; activities = arc 1 6 7 (pos 3) (pos 13) 2 ∷ arc 2 7 6 (pos 27) (pos 29) 2 ∷ [] }

domain_34_of_6 : HasDomain network_34 [] 6 (0 ∷ 1 ∷ 2 ∷ 3 ∷ 4 ∷ 5 ∷ 6 ∷ 7 ∷ 8 ∷ 9 ∷ [])
domain_34_of_6 = swept_row network_34 [] 1 refl 6 _ refl refl

domain_34_of_7 : HasDomain network_34 [] 7 (0 ∷ 1 ∷ 2 ∷ 3 ∷ 5 ∷ 6 ∷ 7 ∷ 8 ∷ 9 ∷ [])
domain_34_of_7 = swept_row network_34 [] 1 refl 7 _ refl refl

-- 3 events at period 8
abbrev network_35 : Network
network_35 = record { period = 8; events = new_event 1 ∷ new_event 2 ∷ new_event 3 ∷ []; activities = arc 1 3 3 (pos 1) (pos 2) 1 ∷ arc 2 3 3 (negsuc 2) (negsuc 2) 1 ∷ [] }

domain_35_of_1 : HasDomain network_35 (record { event = 1; residue = 6 } ∷ record { event = 2; residue = 7 } ∷ []) 1 (6 ∷ [])
domain_35_of_1 = swept_row network_35 (record { event = 1; residue = 6 } ∷ record { event = 2; residue = 7 } ∷ []) 1 refl 1 _ refl refl

domain_35_of_2 : HasDomain network_35 (record { event = 1; residue = 6 } ∷ record { event = 2; residue = 7 } ∷ []) 2 (7 ∷ [])
domain_35_of_2 = swept_row network_35 (record { event = 1; residue = 6 } ∷ record { event = 2; residue = 7 } ∷ []) 1 refl 2 _ refl refl

domain_35_of_3 : HasDomain network_35 (record { event = 1; residue = 6 } ∷ record { event = 2; residue = 7 } ∷ []) 3 (0 ∷ 1 ∷ 2 ∷ 3 ∷ 4 ∷ 5 ∷ 6 ∷ 7 ∷ [])
domain_35_of_3 = swept_row network_35 (record { event = 1; residue = 6 } ∷ record { event = 2; residue = 7 } ∷ []) 1 refl 3 _ refl refl

-- 2 events at period 6
abbrev network_36 : Network
network_36 = record { period = 6; events = new_event 4 ∷ new_event 5 ∷ []; activities = arc 1 4 5 (negsuc 5) (negsuc 5) 1 ∷ arc 2 5 4 (pos 6) (pos 7) 2 ∷ arc 3 5 4 (negsuc 5) (negsuc 3) 3 ∷ arc 4 4 5 (pos 6) (pos 6) 3 ∷ arc 5 5 4 (pos 0) (pos 6) 3 ∷ [] }

domain_36_of_4 : HasDomain network_36 (record { event = 4; residue = 3 } ∷ []) 4 (3 ∷ [])
domain_36_of_4 = swept_row network_36 (record { event = 4; residue = 3 } ∷ []) 2 refl 4 _ refl refl

domain_36_of_5 : HasDomain network_36 (record { event = 4; residue = 3 } ∷ []) 5 (3 ∷ [])
domain_36_of_5 = swept_row network_36 (record { event = 4; residue = 3 } ∷ []) 2 refl 5 _ refl refl

-- 4 events at period 9
abbrev network_37 : Network
network_37 = record { period = 9; events = new_event 1 ∷ new_event 2 ∷ new_event 3 ∷ new_event 5 ∷ []; activities = arc 1 3 1 (negsuc 5) (negsuc 5) 3 ∷ arc 2 1 5 (negsuc 9) (negsuc 7) 0 ∷ arc 3 1 2 (pos 1) (pos 2) 1 ∷ arc 4 5 2 (pos 2) (pos 4) 0 ∷ arc 5 3 1 (pos 22) (pos 24) 4 ∷ [] }

domain_37_of_1 : HasDomain network_37 [] 1 (0 ∷ 1 ∷ 2 ∷ 3 ∷ 4 ∷ 5 ∷ 6 ∷ 7 ∷ 8 ∷ [])
domain_37_of_1 = swept_row network_37 [] 0 refl 1 _ refl refl

domain_37_of_2 : HasDomain network_37 [] 2 (0 ∷ 1 ∷ 2 ∷ 3 ∷ 4 ∷ 5 ∷ 6 ∷ 7 ∷ 8 ∷ [])
domain_37_of_2 = swept_row network_37 [] 0 refl 2 _ refl refl

domain_37_of_3 : HasDomain network_37 [] 3 (0 ∷ 1 ∷ 2 ∷ 3 ∷ 4 ∷ 5 ∷ 6 ∷ 7 ∷ 8 ∷ [])
domain_37_of_3 = swept_row network_37 [] 0 refl 3 _ refl refl

domain_37_of_5 : HasDomain network_37 [] 5 (0 ∷ 1 ∷ 2 ∷ 3 ∷ 4 ∷ 5 ∷ 6 ∷ 7 ∷ 8 ∷ [])
domain_37_of_5 = swept_row network_37 [] 0 refl 5 _ refl refl

-- 4 events at period 11
abbrev network_38 : Network
network_38 = record { period = 11; events = new_event 2 ∷ new_event 4 ∷ new_event 5 ∷ new_event 6 ∷ []; activities = arc 1 4 6 (pos 12) (pos 12) 0 ∷ arc 2 4 5 (negsuc 1) (pos 0) 4 ∷ arc 3 2 4 (pos 13) (pos 14) 1 ∷ arc 4 4 2 (pos 18) (pos 20) 0 ∷ arc 5 4 6 (pos 1) (pos 1) 3 ∷ [] }

domain_38_of_2 : HasDomain network_38 [] 2 (0 ∷ 1 ∷ 2 ∷ 3 ∷ 4 ∷ 5 ∷ 6 ∷ 7 ∷ 8 ∷ 9 ∷ 10 ∷ [])
domain_38_of_2 = swept_row network_38 [] 0 refl 2 _ refl refl

domain_38_of_4 : HasDomain network_38 [] 4 (0 ∷ 1 ∷ 2 ∷ 3 ∷ 4 ∷ 5 ∷ 6 ∷ 7 ∷ 8 ∷ 9 ∷ 10 ∷ [])
domain_38_of_4 = swept_row network_38 [] 0 refl 4 _ refl refl

domain_38_of_5 : HasDomain network_38 [] 5 (0 ∷ 1 ∷ 2 ∷ 3 ∷ 4 ∷ 5 ∷ 6 ∷ 7 ∷ 8 ∷ 9 ∷ 10 ∷ [])
domain_38_of_5 = swept_row network_38 [] 0 refl 5 _ refl refl

domain_38_of_6 : HasDomain network_38 [] 6 (0 ∷ 1 ∷ 2 ∷ 3 ∷ 4 ∷ 5 ∷ 6 ∷ 7 ∷ 8 ∷ 9 ∷ 10 ∷ [])
domain_38_of_6 = swept_row network_38 [] 0 refl 6 _ refl refl

-- 4 events at period 12
abbrev network_39 : Network
network_39 = record { period = 12; events = new_event 1 ∷ record { id = 2; window = Some (record { first = 10; length = 7 }) } ∷ new_event 3 ∷ new_event 4 ∷ []; activities = arc 2 4 4 (negsuc 1) (negsuc 0) 3 ∷ arc 4 1 2 (pos 10) (pos 11) 1 ∷ arc 5 2 2 (pos 2) (pos 4) 2 ∷ arc 6 3 3 (pos 10) (pos 12) 3 ∷ [] }

domain_39_of_1 : HasDomain network_39 [] 1 []
domain_39_of_1 = swept_row network_39 [] 4 refl 1 _ refl refl

domain_39_of_2 : HasDomain network_39 [] 2 []
domain_39_of_2 = swept_row network_39 [] 4 refl 2 _ refl refl

domain_39_of_3 : HasDomain network_39 [] 3 (0 ∷ 1 ∷ 2 ∷ 3 ∷ 4 ∷ 5 ∷ 6 ∷ 7 ∷ 8 ∷ 9 ∷ 10 ∷ 11 ∷ [])
domain_39_of_3 = swept_row network_39 [] 4 refl 3 _ refl refl

domain_39_of_4 : HasDomain network_39 [] 4 (0 ∷ 1 ∷ 2 ∷ 3 ∷ 4 ∷ 5 ∷ 6 ∷ 7 ∷ 8 ∷ 9 ∷ 10 ∷ 11 ∷ [])
domain_39_of_4 = swept_row network_39 [] 4 refl 4 _ refl refl

-- 4 events at period 11
abbrev network_40 : Network
network_40 = record { period = 11; events = record { id = 3; window = Some (record { first = 10; length = 9 }) } ∷ new_event 4 ∷ new_event 5 ∷ new_event 7 ∷ []; activities = arc 1 3 5 (negsuc 14) (negsuc 12) 3 ∷ arc 2 7 3 (pos 7) (pos 22) 3 ∷ arc 3 3 5 (pos 18) (pos 30) 1 ∷ arc 4 7 5 (negsuc 2) (negsuc 2) 4 ∷ arc 5 5 4 (negsuc 11) (negsuc 9) 0 ∷ [] }

domain_40_of_3 : HasDomain network_40 (record { event = 3; residue = 6 } ∷ record { event = 4; residue = 10 } ∷ []) 3 []
domain_40_of_3 = swept_row network_40 (record { event = 3; residue = 6 } ∷ record { event = 4; residue = 10 } ∷ []) 3 refl 3 _ refl refl

domain_40_of_4 : HasDomain network_40 (record { event = 3; residue = 6 } ∷ record { event = 4; residue = 10 } ∷ []) 4 []
domain_40_of_4 = swept_row network_40 (record { event = 3; residue = 6 } ∷ record { event = 4; residue = 10 } ∷ []) 3 refl 4 _ refl refl

domain_40_of_5 : HasDomain network_40 (record { event = 3; residue = 6 } ∷ record { event = 4; residue = 10 } ∷ []) 5 []
domain_40_of_5 = swept_row network_40 (record { event = 3; residue = 6 } ∷ record { event = 4; residue = 10 } ∷ []) 3 refl 5 _ refl refl

domain_40_of_7 : HasDomain network_40 (record { event = 3; residue = 6 } ∷ record { event = 4; residue = 10 } ∷ []) 7 []
domain_40_of_7 = swept_row network_40 (record { event = 3; residue = 6 } ∷ record { event = 4; residue = 10 } ∷ []) 3 refl 7 _ refl refl

-- 3 events at period 12
abbrev network_41 : Network
network_41 = record { period = 12; events = record { id = 1; window = Some (record { first = 9; length = 2 }) } ∷ new_event 3 ∷ new_event 4 ∷ []; activities = arc 1 4 1 (negsuc 0) (pos 1) 1 ∷ arc 2 4 4 (negsuc 4) (negsuc 4) 4 ∷ arc 3 4 3 (negsuc 7) (negsuc 6) 3 ∷ arc 4 1 4 (pos 9) (pos 9) 0 ∷ arc 5 4 4 (negsuc 11) (negsuc 11) 0 ∷ arc 77 3 1 (negsuc 8) (negsuc 7) 1 ∷ [] }

domain_41_of_1 : HasDomain network_41 [] 1 []
domain_41_of_1 = swept_row network_41 [] 3 refl 1 _ refl refl

domain_41_of_3 : HasDomain network_41 [] 3 []
domain_41_of_3 = swept_row network_41 [] 3 refl 3 _ refl refl

domain_41_of_4 : HasDomain network_41 [] 4 []
domain_41_of_4 = swept_row network_41 [] 3 refl 4 _ refl refl

-- 3 events at period 4
abbrev network_42 : Network
network_42 = record { period = 4; events = record { id = 2; window = Some (record { first = 2; length = 1 }) } ∷ new_event 3 ∷ new_event 4 ∷ []; activities = arc 1 2 4 (negsuc 0) (pos 1) 4 ∷ arc 2 2 4 (pos 0) (pos 0) 0 ∷ arc 3 2 4 (negsuc 0) (pos 0) 3 ∷ arc 5 2 4 (pos 3) (pos 5) 0 ∷ arc 6 4 4 (negsuc 0) (pos 1) 1 ∷ [] }

domain_42_of_2 : HasDomain network_42 [] 2 (2 ∷ [])
domain_42_of_2 = swept_row network_42 [] 2 refl 2 _ refl refl

domain_42_of_3 : HasDomain network_42 [] 3 (0 ∷ 1 ∷ 2 ∷ 3 ∷ [])
domain_42_of_3 = swept_row network_42 [] 2 refl 3 _ refl refl

domain_42_of_4 : HasDomain network_42 [] 4 (2 ∷ [])
domain_42_of_4 = swept_row network_42 [] 2 refl 4 _ refl refl

-- 3 events at period 2
abbrev network_43 : Network
network_43 = record { period = 2; events = record { id = 4; window = Some (record { first = 0; length = 1 }) } ∷ record { id = 7; window = Some (record { first = 1; length = 2 }) } ∷ record { id = 9; window = Some (record { first = 0; length = 2 }) } ∷ []; activities = arc 1 4 7 (pos 0) (pos 2) 3 ∷ arc 2 7 4 (pos 0) (pos 1) 3 ∷ arc 3 7 4 (pos 0) (pos 1) 2 ∷ arc 4 4 9 (pos 4) (pos 6) 3 ∷ arc 5 4 7 (pos 3) (pos 6) 2 ∷ [] }

domain_43_of_4 : HasDomain network_43 (record { event = 4; residue = 0 } ∷ []) 4 (0 ∷ [])
domain_43_of_4 = swept_row network_43 (record { event = 4; residue = 0 } ∷ []) 1 refl 4 _ refl refl

domain_43_of_7 : HasDomain network_43 (record { event = 4; residue = 0 } ∷ []) 7 (0 ∷ 1 ∷ [])
domain_43_of_7 = swept_row network_43 (record { event = 4; residue = 0 } ∷ []) 1 refl 7 _ refl refl

domain_43_of_9 : HasDomain network_43 (record { event = 4; residue = 0 } ∷ []) 9 (0 ∷ 1 ∷ [])
domain_43_of_9 = swept_row network_43 (record { event = 4; residue = 0 } ∷ []) 1 refl 9 _ refl refl

-- 3 events at period 7
abbrev network_44 : Network
network_44 = record { period = 7; events = new_event 2 ∷ new_event 3 ∷ new_event 4 ∷ []; activities = arc 1 3 3 (negsuc 5) (negsuc 3) 1 ∷ arc 2 3 2 (pos 1) (pos 3) 1 ∷ arc 4 3 2 (pos 6) (pos 7) 2 ∷ arc 5 3 3 (pos 0) (pos 0) 1 ∷ arc 6 2 3 (pos 2) (pos 2) 2 ∷ [] }

domain_44_of_2 : HasDomain network_44 [] 2 (0 ∷ 1 ∷ 2 ∷ 3 ∷ 4 ∷ 5 ∷ 6 ∷ [])
domain_44_of_2 = swept_row network_44 [] 0 refl 2 _ refl refl

domain_44_of_3 : HasDomain network_44 [] 3 (0 ∷ 1 ∷ 2 ∷ 3 ∷ 4 ∷ 5 ∷ 6 ∷ [])
domain_44_of_3 = swept_row network_44 [] 0 refl 3 _ refl refl

domain_44_of_4 : HasDomain network_44 [] 4 (0 ∷ 1 ∷ 2 ∷ 3 ∷ 4 ∷ 5 ∷ 6 ∷ [])
domain_44_of_4 = swept_row network_44 [] 0 refl 4 _ refl refl

-- 4 events at period 8
abbrev network_45 : Network
network_45 = record { period = 8; events = new_event 1 ∷ record { id = 2; window = Some (record { first = 2; length = 1 }) } ∷ new_event 3 ∷ new_event 4 ∷ []; activities = arc 1 2 3 (pos 7) (pos 15) 1 ∷ arc 2 4 1 (negsuc 7) (negsuc 6) 4 ∷ arc 4 3 2 (pos 5) (pos 7) 1 ∷ arc 5 1 2 (pos 8) (pos 9) 3 ∷ arc 6 3 4 (negsuc 1) (pos 0) 3 ∷ [] }

domain_45_of_1 : HasDomain network_45 (record { event = 1; residue = 2 } ∷ record { event = 2; residue = 0 } ∷ []) 1 []
domain_45_of_1 = swept_row network_45 (record { event = 1; residue = 2 } ∷ record { event = 2; residue = 0 } ∷ []) 3 refl 1 _ refl refl

domain_45_of_2 : HasDomain network_45 (record { event = 1; residue = 2 } ∷ record { event = 2; residue = 0 } ∷ []) 2 []
domain_45_of_2 = swept_row network_45 (record { event = 1; residue = 2 } ∷ record { event = 2; residue = 0 } ∷ []) 3 refl 2 _ refl refl

domain_45_of_3 : HasDomain network_45 (record { event = 1; residue = 2 } ∷ record { event = 2; residue = 0 } ∷ []) 3 []
domain_45_of_3 = swept_row network_45 (record { event = 1; residue = 2 } ∷ record { event = 2; residue = 0 } ∷ []) 3 refl 3 _ refl refl

domain_45_of_4 : HasDomain network_45 (record { event = 1; residue = 2 } ∷ record { event = 2; residue = 0 } ∷ []) 4 []
domain_45_of_4 = swept_row network_45 (record { event = 1; residue = 2 } ∷ record { event = 2; residue = 0 } ∷ []) 3 refl 4 _ refl refl

-- 4 events at period 12
abbrev network_46 : Network
network_46 = record { period = 12; events = new_event 1 ∷ record { id = 3; window = Some (record { first = 4; length = 11 }) } ∷ new_event 5 ∷ record { id = 8; window = Some (record { first = 3; length = 9 }) } ∷ []; activities = arc 1 1 8 (pos 21) (pos 33) 3 ∷ arc 2 3 5 (pos 20) (pos 23) 1 ∷ arc 3 5 3 (pos 4) (pos 16) 1 ∷ arc 4 1 5 (pos 23) (pos 35) 4 ∷ [] }

domain_46_of_1 : HasDomain network_46 (record { event = 1; residue = 2 } ∷ []) 1 (2 ∷ [])
domain_46_of_1 = swept_row network_46 (record { event = 1; residue = 2 } ∷ []) 1 refl 1 _ refl refl

domain_46_of_3 : HasDomain network_46 (record { event = 1; residue = 2 } ∷ []) 3 (0 ∷ 1 ∷ 2 ∷ 4 ∷ 5 ∷ 6 ∷ 7 ∷ 8 ∷ 9 ∷ 10 ∷ 11 ∷ [])
domain_46_of_3 = swept_row network_46 (record { event = 1; residue = 2 } ∷ []) 1 refl 3 _ refl refl

domain_46_of_5 : HasDomain network_46 (record { event = 1; residue = 2 } ∷ []) 5 (0 ∷ 1 ∷ 2 ∷ 3 ∷ 4 ∷ 5 ∷ 6 ∷ 7 ∷ 8 ∷ 9 ∷ 10 ∷ 11 ∷ [])
domain_46_of_5 = swept_row network_46 (record { event = 1; residue = 2 } ∷ []) 1 refl 5 _ refl refl

domain_46_of_8 : HasDomain network_46 (record { event = 1; residue = 2 } ∷ []) 8 (3 ∷ 4 ∷ 5 ∷ 6 ∷ 7 ∷ 8 ∷ 9 ∷ 10 ∷ 11 ∷ [])
domain_46_of_8 = swept_row network_46 (record { event = 1; residue = 2 } ∷ []) 1 refl 8 _ refl refl

-- 2 events at period 11
abbrev network_47 : Network
network_47 = record { period = 11; events = new_event 3 ∷ new_event 6 ∷ []; activities = arc 1 6 3 (pos 28) (pos 31) 4 ∷ [] }

domain_47_of_3 : HasDomain network_47 (record { event = 3; residue = 2 } ∷ []) 3 (2 ∷ [])
domain_47_of_3 = swept_row network_47 (record { event = 3; residue = 2 } ∷ []) 2 refl 3 _ refl refl

domain_47_of_6 : HasDomain network_47 (record { event = 3; residue = 2 } ∷ []) 6 (4 ∷ 5 ∷ 6 ∷ 7 ∷ [])
domain_47_of_6 = swept_row network_47 (record { event = 3; residue = 2 } ∷ []) 2 refl 6 _ refl refl

-- 4 events at period 5
abbrev network_48 : Network
network_48 = record { period = 5; events = record { id = 3; window = Some (record { first = 0; length = 2 }) } ∷ record { id = 4; window = Some (record { first = 4; length = 5 }) } ∷ new_event 5 ∷ new_event 9 ∷ []; activities = arc 1 4 9 (pos 3) (pos 4) 4 ∷ arc 2 3 9 (negsuc 9) (negsuc 3) 0 ∷ arc 3 3 4 (pos 5) (pos 8) 4 ∷ arc 4 3 5 (pos 13) (pos 18) 3 ∷ [] }

domain_48_of_3 : HasDomain network_48 [] 3 (0 ∷ 1 ∷ [])
domain_48_of_3 = swept_row network_48 [] 1 refl 3 _ refl refl

domain_48_of_4 : HasDomain network_48 [] 4 (0 ∷ 1 ∷ 2 ∷ 3 ∷ 4 ∷ [])
domain_48_of_4 = swept_row network_48 [] 1 refl 4 _ refl refl

domain_48_of_5 : HasDomain network_48 [] 5 (0 ∷ 1 ∷ 2 ∷ 3 ∷ 4 ∷ [])
domain_48_of_5 = swept_row network_48 [] 1 refl 5 _ refl refl

domain_48_of_9 : HasDomain network_48 [] 9 (0 ∷ 1 ∷ 2 ∷ 3 ∷ 4 ∷ [])
domain_48_of_9 = swept_row network_48 [] 1 refl 9 _ refl refl

-- 2 events at period 10
abbrev network_49 : Network
network_49 = record { period = 10; events = record { id = 3; window = Some (record { first = 6; length = 10 }) } ∷ new_event 5 ∷ []; activities = arc 1 3 3 (negsuc 9) (negsuc 6) 0 ∷ arc 2 5 3 (pos 6) (pos 7) 3 ∷ arc 3 3 5 (pos 4) (pos 6) 1 ∷ arc 4 3 5 (negsuc 6) (pos 4) 2 ∷ arc 5 5 3 (pos 6) (pos 7) 4 ∷ [] }

domain_49_of_3 : HasDomain network_49 (record { event = 3; residue = 2 } ∷ record { event = 5; residue = 4 } ∷ []) 3 []
domain_49_of_3 = swept_row network_49 (record { event = 3; residue = 2 } ∷ record { event = 5; residue = 4 } ∷ []) 2 refl 3 _ refl refl

domain_49_of_5 : HasDomain network_49 (record { event = 3; residue = 2 } ∷ record { event = 5; residue = 4 } ∷ []) 5 []
domain_49_of_5 = swept_row network_49 (record { event = 3; residue = 2 } ∷ record { event = 5; residue = 4 } ∷ []) 2 refl 5 _ refl refl

-- 4 events at period 4
abbrev network_50 : Network
network_50 = record { period = 4; events = new_event 0 ∷ new_event 1 ∷ new_event 2 ∷ record { id = 4; window = Some (record { first = 2; length = 1 }) } ∷ []; activities = arc 1 4 2 (pos 4) (pos 5) 1 ∷ arc 4 1 2 (pos 3) (pos 6) 4 ∷ arc 5 2 2 (pos 3) (pos 3) 1 ∷ arc 6 1 2 (pos 1) (pos 2) 1 ∷ [] }

domain_50_of_0 : HasDomain network_50 (record { event = 0; residue = 0 } ∷ record { event = 1; residue = 2 } ∷ []) 0 (0 ∷ [])
domain_50_of_0 = swept_row network_50 (record { event = 0; residue = 0 } ∷ record { event = 1; residue = 2 } ∷ []) 4 refl 0 _ refl refl

domain_50_of_1 : HasDomain network_50 (record { event = 0; residue = 0 } ∷ record { event = 1; residue = 2 } ∷ []) 1 []
domain_50_of_1 = swept_row network_50 (record { event = 0; residue = 0 } ∷ record { event = 1; residue = 2 } ∷ []) 4 refl 1 _ refl refl

domain_50_of_2 : HasDomain network_50 (record { event = 0; residue = 0 } ∷ record { event = 1; residue = 2 } ∷ []) 2 []
domain_50_of_2 = swept_row network_50 (record { event = 0; residue = 0 } ∷ record { event = 1; residue = 2 } ∷ []) 4 refl 2 _ refl refl

domain_50_of_4 : HasDomain network_50 (record { event = 0; residue = 0 } ∷ record { event = 1; residue = 2 } ∷ []) 4 []
domain_50_of_4 = swept_row network_50 (record { event = 0; residue = 0 } ∷ record { event = 1; residue = 2 } ∷ []) 4 refl 4 _ refl refl

-- 3 events at period 6
abbrev network_51 : Network
network_51 = record { period = 6; events = new_event 4 ∷ new_event 6 ∷ record { id = 8; window = Some (record { first = 0; length = 6 }) } ∷ []; activities = arc 1 8 4 (pos 5) (pos 8) 4 ∷ arc 2 6 4 (pos 8) (pos 8) 2 ∷ arc 3 8 4 (pos 0) (pos 1) 1 ∷ [] }

domain_51_of_4 : HasDomain network_51 [] 4 (0 ∷ 1 ∷ 2 ∷ 3 ∷ 4 ∷ 5 ∷ [])
domain_51_of_4 = swept_row network_51 [] 0 refl 4 _ refl refl

domain_51_of_6 : HasDomain network_51 [] 6 (0 ∷ 1 ∷ 2 ∷ 3 ∷ 4 ∷ 5 ∷ [])
domain_51_of_6 = swept_row network_51 [] 0 refl 6 _ refl refl

domain_51_of_8 : HasDomain network_51 [] 8 (0 ∷ 1 ∷ 2 ∷ 3 ∷ 4 ∷ 5 ∷ [])
domain_51_of_8 = swept_row network_51 [] 0 refl 8 _ refl refl

-- 4 events at period 10
abbrev network_52 : Network
network_52 = record { period = 10; events = new_event 1 ∷ record { id = 2; window = Some (record { first = 0; length = 5 }) } ∷ new_event 3 ∷ new_event 4 ∷ []; activities = arc 5 2 2 (pos 1) (pos 1) 4 ∷ arc 6 4 2 (pos 5) (pos 5) 1 ∷ [] }

domain_52_of_1 : HasDomain network_52 [] 1 (0 ∷ 1 ∷ 2 ∷ 3 ∷ 4 ∷ 5 ∷ 6 ∷ 7 ∷ 8 ∷ 9 ∷ [])
domain_52_of_1 = swept_row network_52 [] 5 refl 1 _ refl refl

domain_52_of_2 : HasDomain network_52 [] 2 []
domain_52_of_2 = swept_row network_52 [] 5 refl 2 _ refl refl

domain_52_of_3 : HasDomain network_52 [] 3 (0 ∷ 1 ∷ 2 ∷ 3 ∷ 4 ∷ 5 ∷ 6 ∷ 7 ∷ 8 ∷ 9 ∷ [])
domain_52_of_3 = swept_row network_52 [] 5 refl 3 _ refl refl

domain_52_of_4 : HasDomain network_52 [] 4 []
domain_52_of_4 = swept_row network_52 [] 5 refl 4 _ refl refl

-- 4 events at period 6
abbrev network_53 : Network
network_53 = record { period = 6; events = new_event 1 ∷ new_event 4 ∷ record { id = 7; window = Some (record { first = 0; length = 3 }) } ∷ new_event 8 ∷ []; activities = arc 1 4 7 (negsuc 1) (negsuc 0) 4 ∷ arc 2 8 4 (negsuc 7) (pos 3) 0 ∷ [] }

domain_53_of_1 : HasDomain network_53 [] 1 (0 ∷ 1 ∷ 2 ∷ 3 ∷ 4 ∷ 5 ∷ [])
domain_53_of_1 = swept_row network_53 [] 2 refl 1 _ refl refl

domain_53_of_4 : HasDomain network_53 [] 4 (1 ∷ 2 ∷ 3 ∷ 4 ∷ [])
domain_53_of_4 = swept_row network_53 [] 2 refl 4 _ refl refl

domain_53_of_7 : HasDomain network_53 [] 7 (0 ∷ 1 ∷ 2 ∷ [])
domain_53_of_7 = swept_row network_53 [] 2 refl 7 _ refl refl

domain_53_of_8 : HasDomain network_53 [] 8 (0 ∷ 1 ∷ 2 ∷ 3 ∷ 4 ∷ 5 ∷ [])
domain_53_of_8 = swept_row network_53 [] 2 refl 8 _ refl refl

-- 3 events at period 8
abbrev network_54 : Network
network_54 = record { period = 8; events = new_event 6 ∷ record { id = 7; window = Some (record { first = 7; length = 7 }) } ∷ new_event 8 ∷ []; activities = arc 1 6 8 (pos 3) (pos 12) 3 ∷ arc 2 8 7 (negsuc 11) (pos 0) 4 ∷ arc 3 7 8 (pos 10) (pos 16) 0 ∷ arc 4 7 8 (pos 3) (pos 8) 4 ∷ arc 5 8 6 (negsuc 9) (negsuc 9) 4 ∷ [] }

domain_54_of_6 : HasDomain network_54 [] 6 (0 ∷ 1 ∷ 2 ∷ 3 ∷ 4 ∷ 5 ∷ 6 ∷ 7 ∷ [])
domain_54_of_6 = swept_row network_54 [] 1 refl 6 _ refl refl

domain_54_of_7 : HasDomain network_54 [] 7 (0 ∷ 1 ∷ 2 ∷ 3 ∷ 4 ∷ 5 ∷ 7 ∷ [])
domain_54_of_7 = swept_row network_54 [] 1 refl 7 _ refl refl

domain_54_of_8 : HasDomain network_54 [] 8 (0 ∷ 1 ∷ 2 ∷ 3 ∷ 4 ∷ 5 ∷ 6 ∷ 7 ∷ [])
domain_54_of_8 = swept_row network_54 [] 1 refl 8 _ refl refl

-- 3 events at period 9
abbrev network_55 : Network
network_55 = record { period = 9; events = new_event 3 ∷ record { id = 4; window = Some (record { first = 2; length = 5 }) } ∷ record { id = 6; window = Some (record { first = 1; length = 4 }) } ∷ []; activities = arc 1 4 3 (negsuc 16) (negsuc 7) 4 ∷ [] }

domain_55_of_3 : HasDomain network_55 [] 3 (0 ∷ 1 ∷ 2 ∷ 3 ∷ 4 ∷ 5 ∷ 6 ∷ 7 ∷ 8 ∷ [])
domain_55_of_3 = swept_row network_55 [] 1 refl 3 _ refl refl

domain_55_of_4 : HasDomain network_55 [] 4 (2 ∷ 3 ∷ 4 ∷ 5 ∷ 6 ∷ [])
domain_55_of_4 = swept_row network_55 [] 1 refl 4 _ refl refl

domain_55_of_6 : HasDomain network_55 [] 6 (1 ∷ 2 ∷ 3 ∷ 4 ∷ [])
domain_55_of_6 = swept_row network_55 [] 1 refl 6 _ refl refl

-- 4 events at period 2
abbrev network_56 : Network
network_56 = record { period = 2; events = new_event 2 ∷ new_event 6 ∷ new_event 7 ∷ record { id = 8; window = Some (record { first = 0; length = 1 }) } ∷ []; activities = arc 1 6 8 (negsuc 1) (negsuc 1) 4 ∷ arc 2 6 8 (negsuc 3) (negsuc 0) 3 ∷ arc 3 6 2 (pos 4) (pos 6) 2 ∷ arc 4 6 7 (pos 1) (pos 2) 1 ∷ [] }

domain_56_of_2 : HasDomain network_56 [] 2 (0 ∷ 1 ∷ [])
domain_56_of_2 = swept_row network_56 [] 2 refl 2 _ refl refl

domain_56_of_6 : HasDomain network_56 [] 6 (0 ∷ [])
domain_56_of_6 = swept_row network_56 [] 2 refl 6 _ refl refl

domain_56_of_7 : HasDomain network_56 [] 7 (0 ∷ 1 ∷ [])
domain_56_of_7 = swept_row network_56 [] 2 refl 7 _ refl refl

domain_56_of_8 : HasDomain network_56 [] 8 (0 ∷ [])
domain_56_of_8 = swept_row network_56 [] 2 refl 8 _ refl refl

-- 4 events at period 12
abbrev network_57 : Network
network_57 = record { period = 12; events = new_event 4 ∷ record { id = 5; window = Some (record { first = 4; length = 4 }) } ∷ new_event 8 ∷ record { id = 9; window = Some (record { first = 7; length = 9 }) } ∷ []; activities = arc 1 4 9 (negsuc 8) (pos 3) 1 ∷ arc 2 9 8 (pos 21) (pos 25) 3 ∷ arc 3 8 5 (pos 20) (pos 22) 2 ∷ [] }

domain_57_of_4 : HasDomain network_57 (record { event = 4; residue = 9 } ∷ record { event = 5; residue = 8 } ∷ []) 4 []
domain_57_of_4 = swept_row network_57 (record { event = 4; residue = 9 } ∷ record { event = 5; residue = 8 } ∷ []) 4 refl 4 _ refl refl

domain_57_of_5 : HasDomain network_57 (record { event = 4; residue = 9 } ∷ record { event = 5; residue = 8 } ∷ []) 5 []
domain_57_of_5 = swept_row network_57 (record { event = 4; residue = 9 } ∷ record { event = 5; residue = 8 } ∷ []) 4 refl 5 _ refl refl

domain_57_of_8 : HasDomain network_57 (record { event = 4; residue = 9 } ∷ record { event = 5; residue = 8 } ∷ []) 8 []
domain_57_of_8 = swept_row network_57 (record { event = 4; residue = 9 } ∷ record { event = 5; residue = 8 } ∷ []) 4 refl 8 _ refl refl

domain_57_of_9 : HasDomain network_57 (record { event = 4; residue = 9 } ∷ record { event = 5; residue = 8 } ∷ []) 9 []
domain_57_of_9 = swept_row network_57 (record { event = 4; residue = 9 } ∷ record { event = 5; residue = 8 } ∷ []) 4 refl 9 _ refl refl

-- 2 events at period 4
abbrev network_58 : Network
network_58 = record { period = 4; events = new_event 5 ∷ record { id = 8; window = Some (record { first = 1; length = 4 }) } ∷ []; activities = arc 1 5 8 (pos 10) (pos 14) 3 ∷ arc 2 8 5 (pos 6) (pos 6) 3 ∷ arc 3 5 8 (pos 2) (pos 4) 1 ∷ arc 4 5 8 (negsuc 0) (pos 2) 1 ∷ [] }

domain_58_of_5 : HasDomain network_58 (record { event = 5; residue = 2 } ∷ record { event = 8; residue = 1 } ∷ []) 5 []
domain_58_of_5 = swept_row network_58 (record { event = 5; residue = 2 } ∷ record { event = 8; residue = 1 } ∷ []) 2 refl 5 _ refl refl

domain_58_of_8 : HasDomain network_58 (record { event = 5; residue = 2 } ∷ record { event = 8; residue = 1 } ∷ []) 8 []
domain_58_of_8 = swept_row network_58 (record { event = 5; residue = 2 } ∷ record { event = 8; residue = 1 } ∷ []) 2 refl 8 _ refl refl

-- 4 events at period 4
abbrev network_59 : Network
network_59 = record { period = 4; events = record { id = 1; window = Some (record { first = 1; length = 1 }) } ∷ new_event 2 ∷ record { id = 3; window = Some (record { first = 2; length = 2 }) } ∷ record { id = 4; window = Some (record { first = 1; length = 1 }) } ∷ []; activities = arc 2 1 3 (negsuc 2) (negsuc 2) 1 ∷ arc 3 2 4 (pos 1) (pos 1) 4 ∷ arc 6 4 4 (pos 0) (pos 0) 2 ∷ [] }

domain_59_of_1 : HasDomain network_59 (record { event = 1; residue = 2 } ∷ record { event = 2; residue = 0 } ∷ []) 1 []
domain_59_of_1 = swept_row network_59 (record { event = 1; residue = 2 } ∷ record { event = 2; residue = 0 } ∷ []) 2 refl 1 _ refl refl

domain_59_of_2 : HasDomain network_59 (record { event = 1; residue = 2 } ∷ record { event = 2; residue = 0 } ∷ []) 2 (0 ∷ [])
domain_59_of_2 = swept_row network_59 (record { event = 1; residue = 2 } ∷ record { event = 2; residue = 0 } ∷ []) 2 refl 2 _ refl refl

domain_59_of_3 : HasDomain network_59 (record { event = 1; residue = 2 } ∷ record { event = 2; residue = 0 } ∷ []) 3 []
domain_59_of_3 = swept_row network_59 (record { event = 1; residue = 2 } ∷ record { event = 2; residue = 0 } ∷ []) 2 refl 3 _ refl refl

domain_59_of_4 : HasDomain network_59 (record { event = 1; residue = 2 } ∷ record { event = 2; residue = 0 } ∷ []) 4 (1 ∷ [])
domain_59_of_4 = swept_row network_59 (record { event = 1; residue = 2 } ∷ record { event = 2; residue = 0 } ∷ []) 2 refl 4 _ refl refl

-- 2 events at period 9
abbrev network_60 : Network
network_60 = record { period = 9; events = new_event 4 ∷ new_event 7 ∷ []; activities = arc 1 4 7 (pos 5) (pos 14) 1 ∷ arc 2 7 4 (pos 21) (pos 22) 0 ∷ arc 3 4 7 (pos 5) (pos 7) 2 ∷ arc 4 7 4 (negsuc 4) (negsuc 3) 2 ∷ [] }

domain_60_of_4 : HasDomain network_60 [] 4 (0 ∷ 1 ∷ 2 ∷ 3 ∷ 4 ∷ 5 ∷ 6 ∷ 7 ∷ 8 ∷ [])
domain_60_of_4 = swept_row network_60 [] 0 refl 4 _ refl refl

domain_60_of_7 : HasDomain network_60 [] 7 (0 ∷ 1 ∷ 2 ∷ 3 ∷ 4 ∷ 5 ∷ 6 ∷ 7 ∷ 8 ∷ [])
domain_60_of_7 = swept_row network_60 [] 0 refl 7 _ refl refl

-- 4 events at period 10
abbrev network_61 : Network
network_61 = record { period = 10; events = new_event 2 ∷ record { id = 4; window = Some (record { first = 7; length = 6 }) } ∷ record { id = 6; window = Some (record { first = 9; length = 7 }) } ∷ new_event 7 ∷ []; activities = arc 1 7 2 (pos 2) (pos 6) 1 ∷ [] }

domain_61_of_2 : HasDomain network_61 (record { event = 2; residue = 4 } ∷ record { event = 4; residue = 7 } ∷ []) 2 (4 ∷ [])
domain_61_of_2 = swept_row network_61 (record { event = 2; residue = 4 } ∷ record { event = 4; residue = 7 } ∷ []) 2 refl 2 _ refl refl

domain_61_of_4 : HasDomain network_61 (record { event = 2; residue = 4 } ∷ record { event = 4; residue = 7 } ∷ []) 4 (7 ∷ [])
domain_61_of_4 = swept_row network_61 (record { event = 2; residue = 4 } ∷ record { event = 4; residue = 7 } ∷ []) 2 refl 4 _ refl refl

domain_61_of_6 : HasDomain network_61 (record { event = 2; residue = 4 } ∷ record { event = 4; residue = 7 } ∷ []) 6 (0 ∷ 1 ∷ 2 ∷ 3 ∷ 4 ∷ 5 ∷ 9 ∷ [])
domain_61_of_6 = swept_row network_61 (record { event = 2; residue = 4 } ∷ record { event = 4; residue = 7 } ∷ []) 2 refl 6 _ refl refl

domain_61_of_7 : HasDomain network_61 (record { event = 2; residue = 4 } ∷ record { event = 4; residue = 7 } ∷ []) 7 (0 ∷ 1 ∷ 2 ∷ 8 ∷ 9 ∷ [])
domain_61_of_7 = swept_row network_61 (record { event = 2; residue = 4 } ∷ record { event = 4; residue = 7 } ∷ []) 2 refl 7 _ refl refl

-- 4 events at period 9
abbrev network_62 : Network
network_62 = record { period = 9; events = new_event 1 ∷ record { id = 2; window = Some (record { first = 8; length = 8 }) } ∷ new_event 3 ∷ new_event 4 ∷ []; activities = arc 1 2 4 (negsuc 5) (negsuc 4) 1000000000 ∷ arc 2 2 4 (pos 6) (pos 6) 2 ∷ arc 3 4 4 (pos 5) (pos 5) 3 ∷ arc 4 2 1 (pos 1) (pos 3) 1 ∷ arc 5 2 4 (negsuc 0) (pos 1) 0 ∷ arc 6 2 4 (negsuc 3) (negsuc 0) 3 ∷ [] }

domain_62_of_1 : HasDomain network_62 [] 1 []
domain_62_of_1 = swept_row network_62 [] 6 refl 1 _ refl refl

domain_62_of_2 : HasDomain network_62 [] 2 []
domain_62_of_2 = swept_row network_62 [] 6 refl 2 _ refl refl

domain_62_of_3 : HasDomain network_62 [] 3 (0 ∷ 1 ∷ 2 ∷ 3 ∷ 4 ∷ 5 ∷ 6 ∷ 7 ∷ 8 ∷ [])
domain_62_of_3 = swept_row network_62 [] 6 refl 3 _ refl refl

domain_62_of_4 : HasDomain network_62 [] 4 []
domain_62_of_4 = swept_row network_62 [] 6 refl 4 _ refl refl

-- 4 events at period 12
abbrev network_63 : Network
network_63 = record { period = 12; events = new_event 1 ∷ new_event 2 ∷ new_event 3 ∷ new_event 4 ∷ []; activities = arc 1 3 1 (pos 9) (pos 10) 1 ∷ arc 2 4 2 (negsuc 0) (pos 1) 2 ∷ arc 3 2 3 (negsuc 7) (negsuc 6) 3 ∷ arc 5 2 1 (pos 12) (pos 12) 3 ∷ [] }

domain_63_of_1 : HasDomain network_63 [] 1 (0 ∷ 1 ∷ 2 ∷ 3 ∷ 4 ∷ 5 ∷ 6 ∷ 7 ∷ 8 ∷ 9 ∷ 10 ∷ 11 ∷ [])
domain_63_of_1 = swept_row network_63 [] 0 refl 1 _ refl refl

domain_63_of_2 : HasDomain network_63 [] 2 (0 ∷ 1 ∷ 2 ∷ 3 ∷ 4 ∷ 5 ∷ 6 ∷ 7 ∷ 8 ∷ 9 ∷ 10 ∷ 11 ∷ [])
domain_63_of_2 = swept_row network_63 [] 0 refl 2 _ refl refl

domain_63_of_3 : HasDomain network_63 [] 3 (0 ∷ 1 ∷ 2 ∷ 3 ∷ 4 ∷ 5 ∷ 6 ∷ 7 ∷ 8 ∷ 9 ∷ 10 ∷ 11 ∷ [])
domain_63_of_3 = swept_row network_63 [] 0 refl 3 _ refl refl

domain_63_of_4 : HasDomain network_63 [] 4 (0 ∷ 1 ∷ 2 ∷ 3 ∷ 4 ∷ 5 ∷ 6 ∷ 7 ∷ 8 ∷ 9 ∷ 10 ∷ 11 ∷ [])
domain_63_of_4 = swept_row network_63 [] 0 refl 4 _ refl refl

-- 2 events at period 2
abbrev network_64 : Network
network_64 = record { period = 2; events = new_event 4 ∷ new_event 6 ∷ []; activities = arc 1 6 4 (pos 0) (pos 3) 3 ∷ arc 2 4 6 (pos 2) (pos 3) 3 ∷ arc 3 4 6 (pos 0) (pos 2) 3 ∷ [] }

domain_64_of_4 : HasDomain network_64 [] 4 (0 ∷ 1 ∷ [])
domain_64_of_4 = swept_row network_64 [] 0 refl 4 _ refl refl

domain_64_of_6 : HasDomain network_64 [] 6 (0 ∷ 1 ∷ [])
domain_64_of_6 = swept_row network_64 [] 0 refl 6 _ refl refl

-- 2 events at period 3
abbrev network_65 : Network
network_65 = record { period = 3; events = new_event 1 ∷ new_event 2 ∷ []; activities = arc 4 1 2 (negsuc 1) (negsuc 1) 1 ∷ arc 5 1 1 (negsuc 1) (negsuc 1) 0 ∷ [] }

domain_65_of_1 : HasDomain network_65 [] 1 (0 ∷ 1 ∷ 2 ∷ [])
domain_65_of_1 = swept_row network_65 [] 0 refl 1 _ refl refl

domain_65_of_2 : HasDomain network_65 [] 2 (0 ∷ 1 ∷ 2 ∷ [])
domain_65_of_2 = swept_row network_65 [] 0 refl 2 _ refl refl

-- 4 events at period 9
abbrev network_66 : Network
network_66 = record { period = 9; events = new_event 1 ∷ new_event 2 ∷ new_event 3 ∷ new_event 4 ∷ []; activities = arc 1 3 2 (negsuc 5) (negsuc 4) 1 ∷ arc 2 3 3 (pos 9) (pos 18) 2 ∷ arc 3 1 3 (negsuc 5) (negsuc 4) 0 ∷ arc 5 3 1 (pos 1) (pos 2) 2 ∷ arc 6 2 3 (negsuc 8) (negsuc 7) 0 ∷ [] }

domain_66_of_1 : HasDomain network_66 [] 1 (0 ∷ 1 ∷ 2 ∷ 3 ∷ 4 ∷ 5 ∷ 6 ∷ 7 ∷ 8 ∷ [])
domain_66_of_1 = swept_row network_66 [] 0 refl 1 _ refl refl

domain_66_of_2 : HasDomain network_66 [] 2 (0 ∷ 1 ∷ 2 ∷ 3 ∷ 4 ∷ 5 ∷ 6 ∷ 7 ∷ 8 ∷ [])
domain_66_of_2 = swept_row network_66 [] 0 refl 2 _ refl refl

domain_66_of_3 : HasDomain network_66 [] 3 (0 ∷ 1 ∷ 2 ∷ 3 ∷ 4 ∷ 5 ∷ 6 ∷ 7 ∷ 8 ∷ [])
domain_66_of_3 = swept_row network_66 [] 0 refl 3 _ refl refl

domain_66_of_4 : HasDomain network_66 [] 4 (0 ∷ 1 ∷ 2 ∷ 3 ∷ 4 ∷ 5 ∷ 6 ∷ 7 ∷ 8 ∷ [])
domain_66_of_4 = swept_row network_66 [] 0 refl 4 _ refl refl

-- 2 events at period 9
abbrev network_67 : Network
network_67 = record { period = 9; events = new_event 3 ∷ record { id = 9; window = Some (record { first = 3; length = 6 }) } ∷ []; activities = arc 1 9 3 (pos 5) (pos 14) 2 ∷ [] }

domain_67_of_3 : HasDomain network_67 (record { event = 3; residue = 1 } ∷ []) 3 (1 ∷ [])
domain_67_of_3 = swept_row network_67 (record { event = 3; residue = 1 } ∷ []) 1 refl 3 _ refl refl

domain_67_of_9 : HasDomain network_67 (record { event = 3; residue = 1 } ∷ []) 9 (3 ∷ 4 ∷ 5 ∷ 6 ∷ 7 ∷ 8 ∷ [])
domain_67_of_9 = swept_row network_67 (record { event = 3; residue = 1 } ∷ []) 1 refl 9 _ refl refl

-- 3 events at period 2
abbrev network_68 : Network
network_68 = record { period = 2; events = new_event 4 ∷ new_event 8 ∷ record { id = 9; window = Some (record { first = 0; length = 1 }) } ∷ []; activities = arc 1 8 4 (pos 1) (pos 2) 1 ∷ arc 2 9 4 (pos 4) (pos 5) 1 ∷ arc 3 8 4 (pos 3) (pos 6) 1 ∷ arc 4 4 9 (negsuc 3) (negsuc 0) 2 ∷ [] }

domain_68_of_4 : HasDomain network_68 (record { event = 4; residue = 1 } ∷ record { event = 8; residue = 0 } ∷ []) 4 (1 ∷ [])
domain_68_of_4 = swept_row network_68 (record { event = 4; residue = 1 } ∷ record { event = 8; residue = 0 } ∷ []) 1 refl 4 _ refl refl

domain_68_of_8 : HasDomain network_68 (record { event = 4; residue = 1 } ∷ record { event = 8; residue = 0 } ∷ []) 8 (0 ∷ [])
domain_68_of_8 = swept_row network_68 (record { event = 4; residue = 1 } ∷ record { event = 8; residue = 0 } ∷ []) 1 refl 8 _ refl refl

domain_68_of_9 : HasDomain network_68 (record { event = 4; residue = 1 } ∷ record { event = 8; residue = 0 } ∷ []) 9 (0 ∷ [])
domain_68_of_9 = swept_row network_68 (record { event = 4; residue = 1 } ∷ record { event = 8; residue = 0 } ∷ []) 1 refl 9 _ refl refl

-- 2 events at period 12
abbrev network_69 : Network
network_69 = record { period = 12; events = record { id = 1; window = Some (record { first = 11; length = 10 }) } ∷ new_event 8 ∷ []; activities = arc 1 8 1 (negsuc 9) (negsuc 8) 0 ∷ arc 2 8 1 (pos 1) (pos 5) 3 ∷ [] }

domain_69_of_1 : HasDomain network_69 (record { event = 1; residue = 5 } ∷ []) 1 (5 ∷ [])
domain_69_of_1 = swept_row network_69 (record { event = 1; residue = 5 } ∷ []) 2 refl 1 _ refl refl

domain_69_of_8 : HasDomain network_69 (record { event = 1; residue = 5 } ∷ []) 8 (2 ∷ 3 ∷ [])
domain_69_of_8 = swept_row network_69 (record { event = 1; residue = 5 } ∷ []) 2 refl 8 _ refl refl

-- 4 events at period 5
abbrev network_70 : Network
network_70 = record { period = 5; events = new_event 1 ∷ record { id = 2; window = Some (record { first = 1; length = 4 }) } ∷ record { id = 5; window = Some (record { first = 2; length = 1 }) } ∷ new_event 6 ∷ []; activities = arc 1 1 1 (pos 10) (pos 12) 1 ∷ arc 2 5 1 (pos 1) (pos 3) 0 ∷ [] }

domain_70_of_1 : HasDomain network_70 [] 1 (0 ∷ 3 ∷ 4 ∷ [])
domain_70_of_1 = swept_row network_70 [] 2 refl 1 _ refl refl

domain_70_of_2 : HasDomain network_70 [] 2 (1 ∷ 2 ∷ 3 ∷ 4 ∷ [])
domain_70_of_2 = swept_row network_70 [] 2 refl 2 _ refl refl

domain_70_of_5 : HasDomain network_70 [] 5 (2 ∷ [])
domain_70_of_5 = swept_row network_70 [] 2 refl 5 _ refl refl

domain_70_of_6 : HasDomain network_70 [] 6 (0 ∷ 1 ∷ 2 ∷ 3 ∷ 4 ∷ [])
domain_70_of_6 = swept_row network_70 [] 2 refl 6 _ refl refl

-- 3 events at period 9
abbrev network_71 : Network
network_71 = record { period = 9; events = new_event 1 ∷ new_event 2 ∷ new_event 3 ∷ []; activities = arc 1 3 3 (pos 5) (pos 11) 1 ∷ arc 2 3 2 (negsuc 0) (pos 1) 2 ∷ arc 3 2 3 (pos 18) (pos 20) 0 ∷ arc 4 2 3 (pos 18) (pos 20) 1 ∷ [] }

domain_71_of_1 : HasDomain network_71 (record { event = 1; residue = 5 } ∷ record { event = 2; residue = 5 } ∷ []) 1 (5 ∷ [])
domain_71_of_1 = swept_row network_71 (record { event = 1; residue = 5 } ∷ record { event = 2; residue = 5 } ∷ []) 2 refl 1 _ refl refl

domain_71_of_2 : HasDomain network_71 (record { event = 1; residue = 5 } ∷ record { event = 2; residue = 5 } ∷ []) 2 (5 ∷ [])
domain_71_of_2 = swept_row network_71 (record { event = 1; residue = 5 } ∷ record { event = 2; residue = 5 } ∷ []) 2 refl 2 _ refl refl

domain_71_of_3 : HasDomain network_71 (record { event = 1; residue = 5 } ∷ record { event = 2; residue = 5 } ∷ []) 3 (5 ∷ 6 ∷ [])
domain_71_of_3 = swept_row network_71 (record { event = 1; residue = 5 } ∷ record { event = 2; residue = 5 } ∷ []) 2 refl 3 _ refl refl

-- 2 events at period 7
abbrev network_72 : Network
network_72 = record { period = 7; events = new_event 2 ∷ new_event 8 ∷ []; activities = arc 1 2 8 (negsuc 3) (negsuc 0) 1 ∷ [] }

domain_72_of_2 : HasDomain network_72 [] 2 (0 ∷ 1 ∷ 2 ∷ 3 ∷ 4 ∷ 5 ∷ 6 ∷ [])
domain_72_of_2 = swept_row network_72 [] 0 refl 2 _ refl refl

domain_72_of_8 : HasDomain network_72 [] 8 (0 ∷ 1 ∷ 2 ∷ 3 ∷ 4 ∷ 5 ∷ 6 ∷ [])
domain_72_of_8 = swept_row network_72 [] 0 refl 8 _ refl refl

-- 4 events at period 9
abbrev network_73 : Network
network_73 = record { period = 9; events = new_event 2 ∷ new_event 6 ∷ new_event 8 ∷ record { id = 9; window = Some (record { first = 0; length = 7 }) } ∷ []; activities = arc 1 2 9 (pos 6) (pos 8) 4 ∷ [] }

domain_73_of_2 : HasDomain network_73 [] 2 (0 ∷ 1 ∷ 2 ∷ 3 ∷ 4 ∷ 5 ∷ 6 ∷ 7 ∷ 8 ∷ [])
domain_73_of_2 = swept_row network_73 [] 1 refl 2 _ refl refl

domain_73_of_6 : HasDomain network_73 [] 6 (0 ∷ 1 ∷ 2 ∷ 3 ∷ 4 ∷ 5 ∷ 6 ∷ 7 ∷ 8 ∷ [])
domain_73_of_6 = swept_row network_73 [] 1 refl 6 _ refl refl

domain_73_of_8 : HasDomain network_73 [] 8 (0 ∷ 1 ∷ 2 ∷ 3 ∷ 4 ∷ 5 ∷ 6 ∷ 7 ∷ 8 ∷ [])
domain_73_of_8 = swept_row network_73 [] 1 refl 8 _ refl refl

domain_73_of_9 : HasDomain network_73 [] 9 (0 ∷ 1 ∷ 2 ∷ 3 ∷ 4 ∷ 5 ∷ 6 ∷ [])
domain_73_of_9 = swept_row network_73 [] 1 refl 9 _ refl refl

-- 3 events at period 3
abbrev network_74 : Network
network_74 = record { period = 3; events = new_event 1 ∷ new_event 3 ∷ record { id = 5; window = Some (record { first = 1; length = 3 }) } ∷ []; activities = arc 1 5 1 (pos 5) (pos 6) 3 ∷ arc 2 5 3 (negsuc 2) (pos 1) 1 ∷ arc 3 1 5 (negsuc 4) (negsuc 3) 2 ∷ arc 4 5 1 (pos 8) (pos 11) 3 ∷ [] }

domain_74_of_1 : HasDomain network_74 (record { event = 1; residue = 0 } ∷ record { event = 3; residue = 0 } ∷ []) 1 (0 ∷ [])
domain_74_of_1 = swept_row network_74 (record { event = 1; residue = 0 } ∷ record { event = 3; residue = 0 } ∷ []) 2 refl 1 _ refl refl

domain_74_of_3 : HasDomain network_74 (record { event = 1; residue = 0 } ∷ record { event = 3; residue = 0 } ∷ []) 3 (0 ∷ [])
domain_74_of_3 = swept_row network_74 (record { event = 1; residue = 0 } ∷ record { event = 3; residue = 0 } ∷ []) 2 refl 3 _ refl refl

domain_74_of_5 : HasDomain network_74 (record { event = 1; residue = 0 } ∷ record { event = 3; residue = 0 } ∷ []) 5 (1 ∷ [])
domain_74_of_5 = swept_row network_74 (record { event = 1; residue = 0 } ∷ record { event = 3; residue = 0 } ∷ []) 2 refl 5 _ refl refl

-- 3 events at period 4
abbrev network_75 : Network
network_75 = record { period = 4; events = record { id = 1; window = Some (record { first = 0; length = 4 }) } ∷ record { id = 7; window = Some (record { first = 0; length = 4 }) } ∷ new_event 9 ∷ []; activities = arc 1 7 9 (pos 1) (pos 3) 0 ∷ arc 2 7 9 (negsuc 4) (negsuc 2) 4 ∷ arc 3 1 9 (pos 11) (pos 15) 1 ∷ arc 4 9 1 (pos 4) (pos 6) 3 ∷ [] }

domain_75_of_1 : HasDomain network_75 [] 1 (0 ∷ 1 ∷ 2 ∷ 3 ∷ [])
domain_75_of_1 = swept_row network_75 [] 0 refl 1 _ refl refl

domain_75_of_7 : HasDomain network_75 [] 7 (0 ∷ 1 ∷ 2 ∷ 3 ∷ [])
domain_75_of_7 = swept_row network_75 [] 0 refl 7 _ refl refl

domain_75_of_9 : HasDomain network_75 [] 9 (0 ∷ 1 ∷ 2 ∷ 3 ∷ [])
domain_75_of_9 = swept_row network_75 [] 0 refl 9 _ refl refl

-- 3 events at period 8
abbrev network_76 : Network
network_76 = record { period = 8; events = new_event 5 ∷ new_event 7 ∷ new_event 8 ∷ []; activities = arc 1 5 7 (pos 5) (pos 7) 0 ∷ arc 2 7 5 (negsuc 7) (negsuc 2) 0 ∷ arc 3 5 8 (pos 14) (pos 15) 0 ∷ arc 4 5 7 (pos 2) (pos 4) 1 ∷ [] }

domain_76_of_5 : HasDomain network_76 (record { event = 5; residue = 0 } ∷ record { event = 7; residue = 7 } ∷ []) 5 []
domain_76_of_5 = swept_row network_76 (record { event = 5; residue = 0 } ∷ record { event = 7; residue = 7 } ∷ []) 3 refl 5 _ refl refl

domain_76_of_7 : HasDomain network_76 (record { event = 5; residue = 0 } ∷ record { event = 7; residue = 7 } ∷ []) 7 []
domain_76_of_7 = swept_row network_76 (record { event = 5; residue = 0 } ∷ record { event = 7; residue = 7 } ∷ []) 3 refl 7 _ refl refl

domain_76_of_8 : HasDomain network_76 (record { event = 5; residue = 0 } ∷ record { event = 7; residue = 7 } ∷ []) 8 []
domain_76_of_8 = swept_row network_76 (record { event = 5; residue = 0 } ∷ record { event = 7; residue = 7 } ∷ []) 3 refl 8 _ refl refl

-- 4 events at period 12
abbrev network_77 : Network
network_77 = record { period = 12; events = new_event 1 ∷ new_event 4 ∷ new_event 5 ∷ new_event 7 ∷ []; activities = arc 1 1 5 (pos 27) (pos 40) 2 ∷ arc 2 1 4 (pos 1) (pos 1) 1 ∷ arc 3 4 5 (negsuc 9) (pos 3) 3 ∷ arc 4 5 1 (pos 20) (pos 20) 3 ∷ arc 5 7 5 (pos 25) (pos 28) 0 ∷ [] }

domain_77_of_1 : HasDomain network_77 (record { event = 1; residue = 0 } ∷ []) 1 (0 ∷ [])
domain_77_of_1 = swept_row network_77 (record { event = 1; residue = 0 } ∷ []) 3 refl 1 _ refl refl

domain_77_of_4 : HasDomain network_77 (record { event = 1; residue = 0 } ∷ []) 4 (1 ∷ [])
domain_77_of_4 = swept_row network_77 (record { event = 1; residue = 0 } ∷ []) 3 refl 4 _ refl refl

domain_77_of_5 : HasDomain network_77 (record { event = 1; residue = 0 } ∷ []) 5 (4 ∷ [])
domain_77_of_5 = swept_row network_77 (record { event = 1; residue = 0 } ∷ []) 3 refl 5 _ refl refl

domain_77_of_7 : HasDomain network_77 (record { event = 1; residue = 0 } ∷ []) 7 (0 ∷ 1 ∷ 2 ∷ 3 ∷ [])
domain_77_of_7 = swept_row network_77 (record { event = 1; residue = 0 } ∷ []) 3 refl 7 _ refl refl

-- 3 events at period 12
abbrev network_78 : Network
network_78 = record { period = 12; events = record { id = 6; window = Some (record { first = 4; length = 12 }) } ∷ new_event 7 ∷ new_event 8 ∷ []; activities = arc 1 6 7 (negsuc 9) (negsuc 7) 2 ∷ [] }

domain_78_of_6 : HasDomain network_78 (record { event = 6; residue = 3 } ∷ record { event = 7; residue = 0 } ∷ []) 6 []
domain_78_of_6 = swept_row network_78 (record { event = 6; residue = 3 } ∷ record { event = 7; residue = 0 } ∷ []) 2 refl 6 _ refl refl

domain_78_of_7 : HasDomain network_78 (record { event = 6; residue = 3 } ∷ record { event = 7; residue = 0 } ∷ []) 7 []
domain_78_of_7 = swept_row network_78 (record { event = 6; residue = 3 } ∷ record { event = 7; residue = 0 } ∷ []) 2 refl 7 _ refl refl

domain_78_of_8 : HasDomain network_78 (record { event = 6; residue = 3 } ∷ record { event = 7; residue = 0 } ∷ []) 8 (0 ∷ 1 ∷ 2 ∷ 3 ∷ 4 ∷ 5 ∷ 6 ∷ 7 ∷ 8 ∷ 9 ∷ 10 ∷ 11 ∷ [])
domain_78_of_8 = swept_row network_78 (record { event = 6; residue = 3 } ∷ record { event = 7; residue = 0 } ∷ []) 2 refl 8 _ refl refl

-- 4 events at period 12
abbrev network_79 : Network
network_79 = record { period = 12; events = new_event 2 ∷ new_event 3 ∷ new_event 8 ∷ record { id = 9; window = Some (record { first = 0; length = 6 }) } ∷ []; activities = arc 1 3 9 (pos 18) (pos 27) 1 ∷ arc 2 8 2 (pos 19) (pos 21) 2 ∷ [] }

domain_79_of_2 : HasDomain network_79 [] 2 (0 ∷ 1 ∷ 2 ∷ 3 ∷ 4 ∷ 5 ∷ 6 ∷ 7 ∷ 8 ∷ 9 ∷ 10 ∷ 11 ∷ [])
domain_79_of_2 = swept_row network_79 [] 1 refl 2 _ refl refl

domain_79_of_3 : HasDomain network_79 [] 3 (0 ∷ 1 ∷ 2 ∷ 3 ∷ 4 ∷ 5 ∷ 6 ∷ 7 ∷ 8 ∷ 9 ∷ 10 ∷ 11 ∷ [])
domain_79_of_3 = swept_row network_79 [] 1 refl 3 _ refl refl

domain_79_of_8 : HasDomain network_79 [] 8 (0 ∷ 1 ∷ 2 ∷ 3 ∷ 4 ∷ 5 ∷ 6 ∷ 7 ∷ 8 ∷ 9 ∷ 10 ∷ 11 ∷ [])
domain_79_of_8 = swept_row network_79 [] 1 refl 8 _ refl refl

domain_79_of_9 : HasDomain network_79 [] 9 (0 ∷ 1 ∷ 2 ∷ 3 ∷ 4 ∷ 5 ∷ [])
domain_79_of_9 = swept_row network_79 [] 1 refl 9 _ refl refl

-- 3 events at period 2
abbrev network_80 : Network
network_80 = record { period = 2; events = new_event 1 ∷ record { id = 2; window = Some (record { first = 0; length = 2 }) } ∷ record { id = 5; window = Some (record { first = 0; length = 2 }) } ∷ []; activities = arc 1 1 2 (negsuc 1) (negsuc 0) 2 ∷ arc 2 1 2 (negsuc 1) (pos 0) 1 ∷ arc 3 5 1 (pos 1) (pos 4) 4 ∷ arc 4 2 1 (pos 0) (pos 0) 4 ∷ [] }

domain_80_of_1 : HasDomain network_80 (record { event = 1; residue = 1 } ∷ record { event = 2; residue = 0 } ∷ []) 1 []
domain_80_of_1 = swept_row network_80 (record { event = 1; residue = 1 } ∷ record { event = 2; residue = 0 } ∷ []) 3 refl 1 _ refl refl

domain_80_of_2 : HasDomain network_80 (record { event = 1; residue = 1 } ∷ record { event = 2; residue = 0 } ∷ []) 2 []
domain_80_of_2 = swept_row network_80 (record { event = 1; residue = 1 } ∷ record { event = 2; residue = 0 } ∷ []) 3 refl 2 _ refl refl

domain_80_of_5 : HasDomain network_80 (record { event = 1; residue = 1 } ∷ record { event = 2; residue = 0 } ∷ []) 5 []
domain_80_of_5 = swept_row network_80 (record { event = 1; residue = 1 } ∷ record { event = 2; residue = 0 } ∷ []) 3 refl 5 _ refl refl

-- 2 events at period 11
abbrev network_81 : Network
network_81 = record { period = 11; events = new_event 2 ∷ record { id = 8; window = Some (record { first = 6; length = 6 }) } ∷ []; activities = arc 1 8 2 (pos 22) (pos 34) 0 ∷ arc 2 2 8 (pos 20) (pos 32) 1 ∷ arc 3 8 2 (pos 24) (pos 25) 0 ∷ arc 4 8 2 (negsuc 9) (negsuc 8) 0 ∷ [] }

domain_81_of_2 : HasDomain network_81 [] 2 (0 ∷ 1 ∷ 2 ∷ 8 ∷ 9 ∷ 10 ∷ [])
domain_81_of_2 = swept_row network_81 [] 2 refl 2 _ refl refl

domain_81_of_8 : HasDomain network_81 [] 8 (0 ∷ 6 ∷ 7 ∷ 8 ∷ 9 ∷ 10 ∷ [])
domain_81_of_8 = swept_row network_81 [] 2 refl 8 _ refl refl

-- 3 events at period 8
abbrev network_82 : Network
network_82 = record { period = 8; events = new_event 3 ∷ new_event 4 ∷ new_event 8 ∷ []; activities = arc 1 3 4 (pos 7) (pos 12) 1 ∷ arc 2 4 8 (pos 3) (pos 6) 3 ∷ arc 3 3 8 (pos 8) (pos 15) 2 ∷ arc 4 8 3 (negsuc 7) (negsuc 5) 0 ∷ [] }

domain_82_of_3 : HasDomain network_82 (record { event = 3; residue = 2 } ∷ record { event = 4; residue = 0 } ∷ []) 3 []
domain_82_of_3 = swept_row network_82 (record { event = 3; residue = 2 } ∷ record { event = 4; residue = 0 } ∷ []) 2 refl 3 _ refl refl

domain_82_of_4 : HasDomain network_82 (record { event = 3; residue = 2 } ∷ record { event = 4; residue = 0 } ∷ []) 4 []
domain_82_of_4 = swept_row network_82 (record { event = 3; residue = 2 } ∷ record { event = 4; residue = 0 } ∷ []) 2 refl 4 _ refl refl

domain_82_of_8 : HasDomain network_82 (record { event = 3; residue = 2 } ∷ record { event = 4; residue = 0 } ∷ []) 8 []
domain_82_of_8 = swept_row network_82 (record { event = 3; residue = 2 } ∷ record { event = 4; residue = 0 } ∷ []) 2 refl 8 _ refl refl

-- 4 events at period 11
abbrev network_83 : Network
network_83 = record { period = 11; events = record { id = 1; window = Some (record { first = 3; length = 1 }) } ∷ new_event 2 ∷ new_event 3 ∷ new_event 4 ∷ []; activities = arc 1 4 4 (pos 8) (pos 10) 2 ∷ [] }

domain_83_of_1 : HasDomain network_83 (record { event = 1; residue = 5 } ∷ []) 1 []
domain_83_of_1 = swept_row network_83 (record { event = 1; residue = 5 } ∷ []) 1 refl 1 _ refl refl

domain_83_of_2 : HasDomain network_83 (record { event = 1; residue = 5 } ∷ []) 2 (0 ∷ 1 ∷ 2 ∷ 3 ∷ 4 ∷ 5 ∷ 6 ∷ 7 ∷ 8 ∷ 9 ∷ 10 ∷ [])
domain_83_of_2 = swept_row network_83 (record { event = 1; residue = 5 } ∷ []) 1 refl 2 _ refl refl

domain_83_of_3 : HasDomain network_83 (record { event = 1; residue = 5 } ∷ []) 3 (0 ∷ 1 ∷ 2 ∷ 3 ∷ 4 ∷ 5 ∷ 6 ∷ 7 ∷ 8 ∷ 9 ∷ 10 ∷ [])
domain_83_of_3 = swept_row network_83 (record { event = 1; residue = 5 } ∷ []) 1 refl 3 _ refl refl

domain_83_of_4 : HasDomain network_83 (record { event = 1; residue = 5 } ∷ []) 4 (0 ∷ 1 ∷ 2 ∷ 3 ∷ 4 ∷ 5 ∷ 6 ∷ 7 ∷ 8 ∷ 9 ∷ 10 ∷ [])
domain_83_of_4 = swept_row network_83 (record { event = 1; residue = 5 } ∷ []) 1 refl 4 _ refl refl

-- 4 events at period 11
abbrev network_84 : Network
network_84 = record { period = 11; events = new_event 1 ∷ record { id = 3; window = Some (record { first = 7; length = 4 }) } ∷ new_event 4 ∷ new_event 999999999 ∷ []; activities = arc 6 4 3 (pos 6) (pos 7) 0 ∷ [] }

domain_84_of_1 : HasDomain network_84 (record { event = 1; residue = 7 } ∷ []) 1 (7 ∷ [])
domain_84_of_1 = swept_row network_84 (record { event = 1; residue = 7 } ∷ []) 2 refl 1 _ refl refl

domain_84_of_3 : HasDomain network_84 (record { event = 1; residue = 7 } ∷ []) 3 (7 ∷ 8 ∷ 9 ∷ 10 ∷ [])
domain_84_of_3 = swept_row network_84 (record { event = 1; residue = 7 } ∷ []) 2 refl 3 _ refl refl

domain_84_of_4 : HasDomain network_84 (record { event = 1; residue = 7 } ∷ []) 4 (0 ∷ 1 ∷ 2 ∷ 3 ∷ 4 ∷ [])
domain_84_of_4 = swept_row network_84 (record { event = 1; residue = 7 } ∷ []) 2 refl 4 _ refl refl

domain_84_of_999999999 : HasDomain network_84 (record { event = 1; residue = 7 } ∷ []) 999999999 (0 ∷ 1 ∷ 2 ∷ 3 ∷ 4 ∷ 5 ∷ 6 ∷ 7 ∷ 8 ∷ 9 ∷ 10 ∷ [])
domain_84_of_999999999 = swept_row network_84 (record { event = 1; residue = 7 } ∷ []) 2 refl 999999999 _ refl refl

-- 3 events at period 7
abbrev network_85 : Network
network_85 = record { period = 7; events = new_event 6 ∷ new_event 8 ∷ record { id = 9; window = Some (record { first = 2; length = 6 }) } ∷ []; activities = arc 1 6 9 (pos 10) (pos 16) 4 ∷ arc 2 6 6 (negsuc 12) (negsuc 6) 2 ∷ arc 3 8 9 (pos 12) (pos 12) 4 ∷ [] }

domain_85_of_6 : HasDomain network_85 [] 6 (0 ∷ 1 ∷ 2 ∷ 3 ∷ 4 ∷ 5 ∷ 6 ∷ [])
domain_85_of_6 = swept_row network_85 [] 2 refl 6 _ refl refl

domain_85_of_8 : HasDomain network_85 [] 8 (0 ∷ 1 ∷ 2 ∷ 4 ∷ 5 ∷ 6 ∷ [])
domain_85_of_8 = swept_row network_85 [] 2 refl 8 _ refl refl

domain_85_of_9 : HasDomain network_85 [] 9 (0 ∷ 2 ∷ 3 ∷ 4 ∷ 5 ∷ 6 ∷ [])
domain_85_of_9 = swept_row network_85 [] 2 refl 9 _ refl refl

-- 4 events at period 6
abbrev network_86 : Network
network_86 = record { period = 6; events = new_event 1 ∷ record { id = 2; window = Some (record { first = 0; length = 3 }) } ∷ new_event 3 ∷ record { id = 4; window = Some (record { first = 1; length = 3 }) } ∷ []; activities = arc 1 3 2 (negsuc 3) (negsuc 3) 2 ∷ arc 3 2 2 (negsuc 1) (pos 4) 2 ∷ arc 4 3 4 (pos 3) (pos 4) 0 ∷ arc 5 2 2 (pos 1) (pos 3) 3 ∷ arc 6 4 2 (negsuc 5) (negsuc 1) 2 ∷ [] }

domain_86_of_1 : HasDomain network_86 [] 1 (0 ∷ 1 ∷ 2 ∷ 3 ∷ 4 ∷ 5 ∷ [])
domain_86_of_1 = swept_row network_86 [] 4 refl 1 _ refl refl

domain_86_of_2 : HasDomain network_86 [] 2 []
domain_86_of_2 = swept_row network_86 [] 4 refl 2 _ refl refl

domain_86_of_3 : HasDomain network_86 [] 3 []
domain_86_of_3 = swept_row network_86 [] 4 refl 3 _ refl refl

domain_86_of_4 : HasDomain network_86 [] 4 []
domain_86_of_4 = swept_row network_86 [] 4 refl 4 _ refl refl

-- 2 events at period 3
abbrev network_87 : Network
network_87 = record { period = 3; events = new_event 5 ∷ new_event 7 ∷ []; activities = arc 1 7 5 (pos 4) (pos 6) 4 ∷ arc 2 7 5 (pos 2) (pos 2) 0 ∷ arc 3 7 5 (negsuc 4) (negsuc 0) 2 ∷ arc 4 7 5 (pos 5) (pos 6) 4 ∷ [] }

domain_87_of_5 : HasDomain network_87 (record { event = 5; residue = 1 } ∷ record { event = 7; residue = 2 } ∷ []) 5 (1 ∷ [])
domain_87_of_5 = swept_row network_87 (record { event = 5; residue = 1 } ∷ record { event = 7; residue = 2 } ∷ []) 1 refl 5 _ refl refl

domain_87_of_7 : HasDomain network_87 (record { event = 5; residue = 1 } ∷ record { event = 7; residue = 2 } ∷ []) 7 (2 ∷ [])
domain_87_of_7 = swept_row network_87 (record { event = 5; residue = 1 } ∷ record { event = 7; residue = 2 } ∷ []) 1 refl 7 _ refl refl

-- 2 events at period 11
abbrev network_88 : Network
network_88 = record { period = 11; events = record { id = 1; window = Some (record { first = 8; length = 5 }) } ∷ new_event 4 ∷ []; activities = arc 1 4 1 (negsuc 16) (negsuc 3) 3 ∷ arc 2 4 1 (negsuc 15) (negsuc 14) 4 ∷ arc 3 1 4 (negsuc 7) (negsuc 4) 3 ∷ [] }

domain_88_of_1 : HasDomain network_88 [] 1 (0 ∷ 1 ∷ 8 ∷ 9 ∷ 10 ∷ [])
domain_88_of_1 = swept_row network_88 [] 2 refl 1 _ refl refl

domain_88_of_4 : HasDomain network_88 [] 4 (1 ∷ 2 ∷ 3 ∷ 4 ∷ 5 ∷ 6 ∷ [])
domain_88_of_4 = swept_row network_88 [] 2 refl 4 _ refl refl

-- 2 events at period 12
abbrev network_89 : Network
network_89 = record { period = 12; events = new_event 3 ∷ new_event 8 ∷ []; activities = arc 1 3 8 (negsuc 13) (negsuc 11) 3 ∷ arc 2 8 8 (pos 23) (pos 25) 3 ∷ [] }

domain_89_of_3 : HasDomain network_89 (record { event = 3; residue = 1 } ∷ []) 3 (1 ∷ [])
domain_89_of_3 = swept_row network_89 (record { event = 3; residue = 1 } ∷ []) 2 refl 3 _ refl refl

domain_89_of_8 : HasDomain network_89 (record { event = 3; residue = 1 } ∷ []) 8 (0 ∷ 1 ∷ 11 ∷ [])
domain_89_of_8 = swept_row network_89 (record { event = 3; residue = 1 } ∷ []) 2 refl 8 _ refl refl

-- 3 events at period 8
abbrev network_90 : Network
network_90 = record { period = 8; events = new_event 3 ∷ new_event 7 ∷ record { id = 8; window = Some (record { first = 1; length = 6 }) } ∷ []; activities = arc 1 8 7 (negsuc 11) (negsuc 8) 4 ∷ arc 2 8 3 (pos 5) (pos 6) 0 ∷ arc 3 8 3 (negsuc 1) (negsuc 1) 3 ∷ arc 4 8 3 (negsuc 2) (negsuc 1) 2 ∷ [] }

domain_90_of_3 : HasDomain network_90 [] 3 (0 ∷ 1 ∷ 2 ∷ 3 ∷ 4 ∷ 7 ∷ [])
domain_90_of_3 = swept_row network_90 [] 2 refl 3 _ refl refl

domain_90_of_7 : HasDomain network_90 [] 7 (0 ∷ 1 ∷ 2 ∷ 3 ∷ 4 ∷ 5 ∷ 6 ∷ 7 ∷ [])
domain_90_of_7 = swept_row network_90 [] 2 refl 7 _ refl refl

domain_90_of_8 : HasDomain network_90 [] 8 (1 ∷ 2 ∷ 3 ∷ 4 ∷ 5 ∷ 6 ∷ [])
domain_90_of_8 = swept_row network_90 [] 2 refl 8 _ refl refl

-- 4 events at period 8
abbrev network_91 : Network
network_91 = record { period = 8; events = new_event 1 ∷ new_event 5 ∷ new_event 6 ∷ record { id = 9; window = Some (record { first = 0; length = 7 }) } ∷ []; activities = arc 1 6 6 (pos 0) (pos 0) 2 ∷ arc 2 6 5 (pos 18) (pos 19) 2 ∷ [] }

domain_91_of_1 : HasDomain network_91 (record { event = 1; residue = 2 } ∷ record { event = 5; residue = 0 } ∷ []) 1 (2 ∷ [])
domain_91_of_1 = swept_row network_91 (record { event = 1; residue = 2 } ∷ record { event = 5; residue = 0 } ∷ []) 2 refl 1 _ refl refl

domain_91_of_5 : HasDomain network_91 (record { event = 1; residue = 2 } ∷ record { event = 5; residue = 0 } ∷ []) 5 (0 ∷ [])
domain_91_of_5 = swept_row network_91 (record { event = 1; residue = 2 } ∷ record { event = 5; residue = 0 } ∷ []) 2 refl 5 _ refl refl

domain_91_of_6 : HasDomain network_91 (record { event = 1; residue = 2 } ∷ record { event = 5; residue = 0 } ∷ []) 6 (5 ∷ 6 ∷ [])
domain_91_of_6 = swept_row network_91 (record { event = 1; residue = 2 } ∷ record { event = 5; residue = 0 } ∷ []) 2 refl 6 _ refl refl

domain_91_of_9 : HasDomain network_91 (record { event = 1; residue = 2 } ∷ record { event = 5; residue = 0 } ∷ []) 9 (0 ∷ 1 ∷ 2 ∷ 3 ∷ 4 ∷ 5 ∷ 6 ∷ [])
domain_91_of_9 = swept_row network_91 (record { event = 1; residue = 2 } ∷ record { event = 5; residue = 0 } ∷ []) 2 refl 9 _ refl refl

-- 3 events at period 2
abbrev network_92 : Network
network_92 = record { period = 2; events = new_event 2 ∷ new_event 7 ∷ new_event 9 ∷ []; activities = arc 1 2 9 (pos 2) (pos 5) 1 ∷ arc 2 7 9 (pos 3) (pos 6) 3 ∷ arc 3 7 2 (negsuc 0) (negsuc 0) 2 ∷ [] }

domain_92_of_2 : HasDomain network_92 (record { event = 2; residue = 0 } ∷ record { event = 7; residue = 0 } ∷ []) 2 []
domain_92_of_2 = swept_row network_92 (record { event = 2; residue = 0 } ∷ record { event = 7; residue = 0 } ∷ []) 3 refl 2 _ refl refl

domain_92_of_7 : HasDomain network_92 (record { event = 2; residue = 0 } ∷ record { event = 7; residue = 0 } ∷ []) 7 []
domain_92_of_7 = swept_row network_92 (record { event = 2; residue = 0 } ∷ record { event = 7; residue = 0 } ∷ []) 3 refl 7 _ refl refl

domain_92_of_9 : HasDomain network_92 (record { event = 2; residue = 0 } ∷ record { event = 7; residue = 0 } ∷ []) 9 []
domain_92_of_9 = swept_row network_92 (record { event = 2; residue = 0 } ∷ record { event = 7; residue = 0 } ∷ []) 3 refl 9 _ refl refl

-- 2 events at period 11
abbrev network_93 : Network
network_93 = record { period = 11; events = new_event 5 ∷ new_event 6 ∷ []; activities = arc 1 6 5 (pos 17) (pos 19) 1 ∷ arc 2 6 5 (negsuc 5) (negsuc 3) 4 ∷ arc 3 5 6 (pos 27) (pos 38) 1 ∷ arc 4 5 6 (negsuc 15) (negsuc 4) 2 ∷ [] }

domain_93_of_5 : HasDomain network_93 [] 5 (0 ∷ 1 ∷ 2 ∷ 3 ∷ 4 ∷ 5 ∷ 6 ∷ 7 ∷ 8 ∷ 9 ∷ 10 ∷ [])
domain_93_of_5 = swept_row network_93 [] 0 refl 5 _ refl refl

domain_93_of_6 : HasDomain network_93 [] 6 (0 ∷ 1 ∷ 2 ∷ 3 ∷ 4 ∷ 5 ∷ 6 ∷ 7 ∷ 8 ∷ 9 ∷ 10 ∷ [])
domain_93_of_6 = swept_row network_93 [] 0 refl 6 _ refl refl

-- 3 events at period 10
abbrev network_94 : Network
network_94 = record { period = 10; events = record { id = 4; window = Some (record { first = 6; length = 9 }) } ∷ new_event 5 ∷ new_event 9 ∷ []; activities = arc 1 4 9 (pos 4) (pos 14) 4 ∷ arc 2 9 4 (pos 5) (pos 8) 3 ∷ arc 3 4 9 (negsuc 14) (negsuc 12) 4 ∷ [] }

domain_94_of_4 : HasDomain network_94 (record { event = 4; residue = 0 } ∷ []) 4 (0 ∷ [])
domain_94_of_4 = swept_row network_94 (record { event = 4; residue = 0 } ∷ []) 2 refl 4 _ refl refl

domain_94_of_5 : HasDomain network_94 (record { event = 4; residue = 0 } ∷ []) 5 (0 ∷ 1 ∷ 2 ∷ 3 ∷ 4 ∷ 5 ∷ 6 ∷ 7 ∷ 8 ∷ 9 ∷ [])
domain_94_of_5 = swept_row network_94 (record { event = 4; residue = 0 } ∷ []) 2 refl 5 _ refl refl

domain_94_of_9 : HasDomain network_94 (record { event = 4; residue = 0 } ∷ []) 9 (5 ∷ [])
domain_94_of_9 = swept_row network_94 (record { event = 4; residue = 0 } ∷ []) 2 refl 9 _ refl refl

-- 4 events at period 3
abbrev network_95 : Network
network_95 = record { period = 3; events = new_event 2 ∷ record { id = 4; window = Some (record { first = 1; length = 3 }) } ∷ new_event 5 ∷ new_event 7 ∷ []; activities = arc 1 7 2 (pos 4) (pos 4) 1 ∷ arc 2 5 2 (negsuc 0) (pos 3) 1 ∷ arc 3 5 7 (pos 1) (pos 3) 0 ∷ arc 4 4 2 (negsuc 2) (pos 0) 2 ∷ [] }

domain_95_of_2 : HasDomain network_95 [] 2 (0 ∷ 1 ∷ 2 ∷ [])
domain_95_of_2 = swept_row network_95 [] 0 refl 2 _ refl refl

domain_95_of_4 : HasDomain network_95 [] 4 (0 ∷ 1 ∷ 2 ∷ [])
domain_95_of_4 = swept_row network_95 [] 0 refl 4 _ refl refl

domain_95_of_5 : HasDomain network_95 [] 5 (0 ∷ 1 ∷ 2 ∷ [])
domain_95_of_5 = swept_row network_95 [] 0 refl 5 _ refl refl

domain_95_of_7 : HasDomain network_95 [] 7 (0 ∷ 1 ∷ 2 ∷ [])
domain_95_of_7 = swept_row network_95 [] 0 refl 7 _ refl refl

-- 3 events at period 8
abbrev network_96 : Network
network_96 = record { period = 8; events = record { id = 2; window = Some (record { first = 0; length = 6 }) } ∷ new_event 3 ∷ new_event 4 ∷ []; activities = arc 1 4 3 (negsuc 8) (negsuc 7) 3 ∷ arc 2 4 2 (negsuc 3) (negsuc 1) 0 ∷ arc 3 2 3 (negsuc 6) (negsuc 6) 4 ∷ arc 4 2 3 (negsuc 12) (negsuc 6) 0 ∷ [] }

domain_96_of_2 : HasDomain network_96 (record { event = 2; residue = 0 } ∷ record { event = 3; residue = 6 } ∷ []) 2 []
domain_96_of_2 = swept_row network_96 (record { event = 2; residue = 0 } ∷ record { event = 3; residue = 6 } ∷ []) 2 refl 2 _ refl refl

domain_96_of_3 : HasDomain network_96 (record { event = 2; residue = 0 } ∷ record { event = 3; residue = 6 } ∷ []) 3 []
domain_96_of_3 = swept_row network_96 (record { event = 2; residue = 0 } ∷ record { event = 3; residue = 6 } ∷ []) 2 refl 3 _ refl refl

domain_96_of_4 : HasDomain network_96 (record { event = 2; residue = 0 } ∷ record { event = 3; residue = 6 } ∷ []) 4 []
domain_96_of_4 = swept_row network_96 (record { event = 2; residue = 0 } ∷ record { event = 3; residue = 6 } ∷ []) 2 refl 4 _ refl refl

-- 2 events at period 9
abbrev network_97 : Network
network_97 = record { period = 9; events = record { id = 1; window = Some (record { first = 2; length = 8 }) } ∷ new_event 3 ∷ []; activities = arc 1 1 3 (pos 5) (pos 6) 1 ∷ arc 2 3 3 (pos 4) (pos 4) 4 ∷ arc 3 1 1 (pos 0) (pos 1) 2 ∷ arc 5 1 3 (negsuc 4) (negsuc 2) 4 ∷ arc 6 1 1 (negsuc 5) (pos 2) 4 ∷ [] }

domain_97_of_1 : HasDomain network_97 (record { event = 1; residue = 7 } ∷ []) 1 []
domain_97_of_1 = swept_row network_97 (record { event = 1; residue = 7 } ∷ []) 4 refl 1 _ refl refl

domain_97_of_3 : HasDomain network_97 (record { event = 1; residue = 7 } ∷ []) 3 []
domain_97_of_3 = swept_row network_97 (record { event = 1; residue = 7 } ∷ []) 4 refl 3 _ refl refl

-- 3 events at period 5
abbrev network_98 : Network
network_98 = record { period = 5; events = new_event 3 ∷ record { id = 4; window = Some (record { first = 4; length = 5 }) } ∷ new_event 8 ∷ []; activities = arc 1 3 4 (pos 4) (pos 8) 1 ∷ [] }

domain_98_of_3 : HasDomain network_98 [] 3 (0 ∷ 1 ∷ 2 ∷ 3 ∷ 4 ∷ [])
domain_98_of_3 = swept_row network_98 [] 0 refl 3 _ refl refl

domain_98_of_4 : HasDomain network_98 [] 4 (0 ∷ 1 ∷ 2 ∷ 3 ∷ 4 ∷ [])
domain_98_of_4 = swept_row network_98 [] 0 refl 4 _ refl refl

domain_98_of_8 : HasDomain network_98 [] 8 (0 ∷ 1 ∷ 2 ∷ 3 ∷ 4 ∷ [])
domain_98_of_8 = swept_row network_98 [] 0 refl 8 _ refl refl

-- 4 events at period 4
abbrev network_99 : Network
network_99 = record { period = 4; events = new_event 1 ∷ new_event 3 ∷ new_event 8 ∷ new_event 9 ∷ []; activities = arc 1 9 3 (negsuc 4) (negsuc 2) 1 ∷ arc 2 1 8 (pos 6) (pos 10) 1 ∷ arc 3 1 1 (negsuc 3) (negsuc 1) 2 ∷ arc 4 9 8 (pos 3) (pos 7) 2 ∷ [] }

domain_99_of_1 : HasDomain network_99 (record { event = 1; residue = 3 } ∷ []) 1 (3 ∷ [])
domain_99_of_1 = swept_row network_99 (record { event = 1; residue = 3 } ∷ []) 1 refl 1 _ refl refl

domain_99_of_3 : HasDomain network_99 (record { event = 1; residue = 3 } ∷ []) 3 (0 ∷ 1 ∷ 2 ∷ 3 ∷ [])
domain_99_of_3 = swept_row network_99 (record { event = 1; residue = 3 } ∷ []) 1 refl 3 _ refl refl

domain_99_of_8 : HasDomain network_99 (record { event = 1; residue = 3 } ∷ []) 8 (0 ∷ 1 ∷ 2 ∷ 3 ∷ [])
domain_99_of_8 = swept_row network_99 (record { event = 1; residue = 3 } ∷ []) 1 refl 8 _ refl refl

domain_99_of_9 : HasDomain network_99 (record { event = 1; residue = 3 } ∷ []) 9 (0 ∷ 1 ∷ 2 ∷ 3 ∷ [])
domain_99_of_9 = swept_row network_99 (record { event = 1; residue = 3 } ∷ []) 1 refl 9 _ refl refl
