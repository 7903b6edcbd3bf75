-- Drawn cases of the definitions, as the model of tools/tests answers them: made by tools/draw_cases from seed 1813.
use Rattle.std.proofs.Common.{pos, negsuc, refl, [], ◌∷◌, Some, inl, codes}
use Rattle.std.specs.Fmt.{digits}
use Rattle.pesp_base.proofs.Samples.{signed_arc as arc}
use Rattle.pesp_instance.specs.Network.{new_event}
use Rattle.pesp_search.specs.declared.answer.Answer.TheVariants.{Infeasible, Optimal}
use Rattle.pesp_search.specs.Paths.{timetable_of}
use Rattle.pesp_search.proofs.Enumerated.{infeasible_is, optimum_is}
use Rattle.pesp_shell_replies.specs.Legal.{Legal, Work}
use Rattle.pesp_shell_replies.specs.Transcripts.{IsTranscript}

-- work 0 of stream 0
abbrev work_0_0 : Work
work_0_0 = record { instance = record { period = 8; events = new_event 4 ∷ new_event 9 ∷ []; activities = arc 1 4 9 (pos 15) (pos 15) 1 ∷ arc 2 9 4 (pos 0) (pos 10) 0 ∷ arc 3 9 4 (pos 18) (pos 26) 4 ∷ arc 4 4 9 (pos 11) (pos 15) 2 ∷ [] }; times = record { period = 8; entries = (4, 4) ∷ (9, 1) ∷ [] } }

-- work 1 of stream 0
abbrev work_0_1 : Work
work_0_1 = record { instance = record { period = 8; events = new_event 4 ∷ new_event 9 ∷ []; activities = arc 1 4 9 (pos 15) (pos 15) 1 ∷ arc 2 9 4 (pos 0) (pos 10) 0 ∷ arc 3 9 4 (pos 18) (pos 26) 4 ∷ arc 4 4 9 (pos 11) (pos 15) 2 ∷ [] }; times = record { period = 8; entries = (4, 0) ∷ (9, 7) ∷ [] } }

-- work 2 of stream 0
abbrev work_0_2 : Work
work_0_2 = record { instance = record { period = 8; events = new_event 4 ∷ new_event 9 ∷ []; activities = arc 1 4 9 (pos 6) (pos 7) 1 ∷ arc 2 9 4 (pos 0) (pos 10) 0 ∷ arc 3 9 4 (pos 18) (pos 26) 4 ∷ arc 4 4 9 (pos 11) (pos 15) 2 ∷ [] }; times = record { period = 8; entries = (4, 0) ∷ (9, 7) ∷ [] } }

step_0_0 : Legal work_0_0 (codes "window 2 8 5") (codes "refused 2 no event 2\n") work_0_0
unfolding digits
step_0_0 = record { tells = refl; leaves = refl }

step_0_1 : Legal work_0_0 (codes "domain 3") (codes "refused 2 no event 3\n") work_0_0
unfolding digits
step_0_1 = record { tells = refl; stays = refl }

step_0_2 : Legal work_0_0 (codes "adopt") (codes "ok\n") work_0_1
unfolding digits
step_0_2 = (Optimal 36 (timetable_of work_0_0.instance (0 ∷ 7 ∷ [])), optimum_is work_0_0.instance (0 ∷ 7 ∷ []) 36 refl refl, record { tells = refl; leaves = refl })

step_0_3 : Legal work_0_1 (codes "cost") (codes "cost 36\n") work_0_1
unfolding digits
step_0_3 = record { tells = refl; stays = refl }

step_0_4 : Legal work_0_1 (codes "try 1") (codes "optimum 36 2\n4 0\n9 7\n") work_0_1
unfolding digits
step_0_4 = inl (Optimal 36 (timetable_of work_0_1.instance (0 ∷ 7 ∷ [])), optimum_is work_0_1.instance (0 ∷ 7 ∷ []) 36 refl refl, record { tells = refl; stays = refl })

step_0_5 : Legal work_0_1 (codes "span 1 6 7") (codes "ok\n") work_0_2
unfolding digits
step_0_5 = record { tells = refl; leaves = refl }

step_0_6 : Legal work_0_2 (codes "add event 4") (codes "refused 1 event 4 exists\n") work_0_2
unfolding digits
step_0_6 = record { tells = refl; leaves = refl }

step_0_7 : Legal work_0_2 (codes "violations") (codes "violations 0\n") work_0_2
unfolding digits
step_0_7 = record { tells = refl; stays = refl }

step_0_8 : Legal work_0_2 (codes "domain 2") (codes "refused 2 no event 2\n") work_0_2
unfolding digits
step_0_8 = record { tells = refl; stays = refl }

step_0_9 : Legal work_0_2 (codes "cost") (codes "cost 37\n") work_0_2
unfolding digits
step_0_9 = record { tells = refl; stays = refl }

transcript_0 : IsTranscript work_0_0 (codes "window 2 8 5" ∷ codes "domain 3" ∷ codes "adopt" ∷ codes "cost" ∷ codes "try 1" ∷ codes "span 1 6 7" ∷ codes "add event 4" ∷ codes "violations" ∷ codes "domain 2" ∷ codes "cost" ∷ []) (codes "refused 2 no event 2\nrefused 2 no event 3\nok\ncost 36\noptimum 36 2\n4 0\n9 7\nok\nrefused 1 event 4 exists\nviolations 0\nrefused 2 no event 2\ncost 37\n")
unfolding digits
transcript_0 = (_, (_, _, _, step_0_0, (_, _, _, step_0_1, (_, _, _, step_0_2, (_, _, _, step_0_3, (_, _, _, step_0_4, (_, _, _, step_0_5, (_, _, _, step_0_6, (_, _, _, step_0_7, (_, _, _, step_0_8, (_, _, _, step_0_9, (refl, refl), refl), refl), refl), refl), refl), refl), refl), refl), refl), refl))

-- work 0 of stream 1
abbrev work_1_0 : Work
work_1_0 = record { instance = record { period = 11; events = record { id = 1; window = Some (record { first = 6; length = 10 }) } ∷ record { id = 3; window = Some (record { first = 8; length = 11 }) } ∷ new_event 4 ∷ new_event 8 ∷ []; activities = arc 1 3 4 (pos 22) (pos 24) 4 ∷ [] }; times = record { period = 11; entries = (1, 9) ∷ (3, 9) ∷ (4, 10) ∷ (8, 6) ∷ [] } }

-- work 1 of stream 1
abbrev work_1_1 : Work
work_1_1 = record { instance = record { period = 11; events = record { id = 1; window = Some (record { first = 6; length = 10 }) } ∷ new_event 2 ∷ record { id = 3; window = Some (record { first = 8; length = 11 }) } ∷ new_event 4 ∷ new_event 8 ∷ []; activities = arc 1 3 4 (pos 22) (pos 24) 4 ∷ [] }; times = record { period = 11; entries = (1, 9) ∷ (3, 9) ∷ (4, 10) ∷ (8, 6) ∷ [] } }

-- work 2 of stream 1
abbrev work_1_2 : Work
work_1_2 = record { instance = record { period = 11; events = record { id = 1; window = Some (record { first = 6; length = 10 }) } ∷ new_event 2 ∷ record { id = 3; window = Some (record { first = 8; length = 11 }) } ∷ new_event 4 ∷ new_event 8 ∷ []; activities = arc 1 3 4 (pos 22) (pos 24) 4 ∷ [] }; times = record { period = 11; entries = (1, 10) ∷ (3, 9) ∷ (4, 10) ∷ (8, 6) ∷ [] } }

-- work 3 of stream 1
abbrev work_1_3 : Work
work_1_3 = record { instance = record { period = 11; events = record { id = 1; window = Some (record { first = 6; length = 10 }) } ∷ new_event 2 ∷ record { id = 3; window = Some (record { first = 8; length = 11 }) } ∷ new_event 4 ∷ new_event 8 ∷ new_event 9 ∷ []; activities = arc 1 3 4 (pos 22) (pos 24) 4 ∷ [] }; times = record { period = 11; entries = (1, 10) ∷ (3, 9) ∷ (4, 10) ∷ (8, 6) ∷ [] } }

step_1_0 : Legal work_1_0 (codes "add event 1") (codes "refused 1 event 1 exists\n") work_1_0
unfolding digits
step_1_0 = record { tells = refl; leaves = refl }

step_1_1 : Legal work_1_0 (codes "window 0 7 2") (codes "refused 2 no event 0\n") work_1_0
unfolding digits
step_1_1 = record { tells = refl; leaves = refl }

step_1_2 : Legal work_1_0 (codes "add event 2") (codes "ok\n") work_1_1
unfolding digits
step_1_2 = record { tells = refl; leaves = refl }

step_1_3 : Legal work_1_1 (codes "add activity 3 3 77 -4 -2 1") (codes "refused 2 no event 77\n") work_1_1
unfolding digits
step_1_3 = record { tells = refl; leaves = refl }

step_1_4 : Legal work_1_1 (codes "weight 4 1") (codes "refused 6 no activity 4\n") work_1_1
unfolding digits
step_1_4 = record { tells = refl; leaves = refl }

step_1_5 : Legal work_1_1 (codes "time 1 10") (codes "ok\n") work_1_2
unfolding digits
step_1_5 = record { tells = refl; leaves = refl }

step_1_6 : Legal work_1_2 (codes "span 6 0 2") (codes "refused 6 no activity 6\n") work_1_2
unfolding digits
step_1_6 = record { tells = refl; leaves = refl }

step_1_7 : Legal work_1_2 (codes "span 3 8 9") (codes "refused 6 no activity 3\n") work_1_2
unfolding digits
step_1_7 = record { tells = refl; leaves = refl }

step_1_8 : Legal work_1_2 (codes "add event 9") (codes "ok\n") work_1_3
unfolding digits
step_1_8 = record { tells = refl; leaves = refl }

step_1_9 : Legal work_1_3 (codes "time 0 8") (codes "refused 2 no event 0\n") work_1_3
unfolding digits
step_1_9 = record { tells = refl; leaves = refl }

transcript_1 : IsTranscript work_1_0 (codes "add event 1" ∷ codes "window 0 7 2" ∷ codes "add event 2" ∷ codes "add activity 3 3 77 -4 -2 1" ∷ codes "weight 4 1" ∷ codes "time 1 10" ∷ codes "span 6 0 2" ∷ codes "span 3 8 9" ∷ codes "add event 9" ∷ codes "time 0 8" ∷ []) (codes "refused 1 event 1 exists\nrefused 2 no event 0\nok\nrefused 2 no event 77\nrefused 6 no activity 4\nok\nrefused 6 no activity 6\nrefused 6 no activity 3\nok\nrefused 2 no event 0\n")
unfolding digits
transcript_1 = (_, (_, _, _, step_1_0, (_, _, _, step_1_1, (_, _, _, step_1_2, (_, _, _, step_1_3, (_, _, _, step_1_4, (_, _, _, step_1_5, (_, _, _, step_1_6, (_, _, _, step_1_7, (_, _, _, step_1_8, (_, _, _, step_1_9, (refl, refl), refl), refl), refl), refl), refl), refl), refl), refl), refl), refl))

-- work 0 of stream 2
abbrev work_2_0 : Work
work_2_0 = record { instance = record { period = 5; events = new_event 4 ∷ new_event 7 ∷ new_event 8 ∷ []; activities = arc 1 7 8 (negsuc 1) (pos 3) 1 ∷ arc 2 4 8 (negsuc 5) (negsuc 2) 4 ∷ arc 3 4 7 (pos 1) (pos 8) 0 ∷ arc 4 8 7 (negsuc 1) (pos 0) 3 ∷ arc 5 4 7 (pos 13) (pos 13) 3 ∷ [] }; times = record { period = 5; entries = (4, 2) ∷ (7, 4) ∷ (8, 1) ∷ [] } }

-- work 1 of stream 2
abbrev work_2_1 : Work
work_2_1 = record { instance = record { period = 5; events = new_event 4 ∷ new_event 7 ∷ new_event 8 ∷ []; activities = arc 1 7 8 (negsuc 1) (pos 3) 1 ∷ arc 2 4 8 (negsuc 5) (negsuc 2) 4 ∷ arc 3 4 7 (pos 1) (pos 8) 0 ∷ arc 4 8 7 (negsuc 1) (pos 0) 1 ∷ arc 5 4 7 (pos 13) (pos 13) 3 ∷ [] }; times = record { period = 5; entries = (4, 2) ∷ (7, 4) ∷ (8, 1) ∷ [] } }

-- work 2 of stream 2
abbrev work_2_2 : Work
work_2_2 = record { instance = record { period = 5; events = new_event 4 ∷ new_event 7 ∷ new_event 8 ∷ []; activities = arc 1 7 8 (negsuc 1) (pos 3) 1 ∷ arc 2 4 8 (negsuc 5) (negsuc 2) 4 ∷ arc 3 4 7 (pos 1) (pos 8) 0 ∷ arc 5 4 7 (pos 13) (pos 13) 3 ∷ [] }; times = record { period = 5; entries = (4, 2) ∷ (7, 4) ∷ (8, 1) ∷ [] } }

-- work 3 of stream 2
abbrev work_2_3 : Work
work_2_3 = record { instance = record { period = 5; events = new_event 4 ∷ new_event 7 ∷ new_event 8 ∷ []; activities = arc 1 7 8 (negsuc 1) (pos 3) 1 ∷ arc 2 4 8 (negsuc 5) (negsuc 2) 4 ∷ arc 3 4 7 (negsuc 2) (negsuc 2) 0 ∷ arc 5 4 7 (pos 13) (pos 13) 3 ∷ [] }; times = record { period = 5; entries = (4, 2) ∷ (7, 4) ∷ (8, 1) ∷ [] } }

step_2_0 : Legal work_2_0 (codes "ends 4 3 2") (codes "refused 2 no event 3\n") work_2_0
unfolding digits
step_2_0 = record { tells = refl; leaves = refl }

step_2_1 : Legal work_2_0 (codes "cost") (codes "cost 16\n") work_2_0
unfolding digits
step_2_1 = record { tells = refl; stays = refl }

step_2_2 : Legal work_2_0 (codes "weight 4 1") (codes "ok\n") work_2_1
unfolding digits
step_2_2 = record { tells = refl; leaves = refl }

step_2_3 : Legal work_2_1 (codes "drop event 4") (codes "refused 3 event 4 is used by activity 2\n") work_2_1
unfolding digits
step_2_3 = record { tells = refl; leaves = refl }

step_2_4 : Legal work_2_1 (codes "drop activity 4") (codes "ok\n") work_2_2
unfolding digits
step_2_4 = record { tells = refl; leaves = refl }

step_2_5 : Legal work_2_2 (codes "span 3 -3 -3") (codes "ok\n") work_2_3
unfolding digits
step_2_5 = record { tells = refl; leaves = refl }

step_2_6 : Legal work_2_3 (codes "cost") (codes "cost 16\n") work_2_3
unfolding digits
step_2_6 = record { tells = refl; stays = refl }

step_2_7 : Legal work_2_3 (codes "untime 3") (codes "refused 2 no event 3\n") work_2_3
unfolding digits
step_2_7 = record { tells = refl; leaves = refl }

step_2_8 : Legal work_2_3 (codes "time 3 1") (codes "refused 2 no event 3\n") work_2_3
unfolding digits
step_2_8 = record { tells = refl; leaves = refl }

step_2_9 : Legal work_2_3 (codes "SPAN 1 1 3") (codes "fault unknown command\n") work_2_3
unfolding digits
step_2_9 = record { tells = refl; stays = refl }

transcript_2 : IsTranscript work_2_0 (codes "ends 4 3 2" ∷ codes "cost" ∷ codes "weight 4 1" ∷ codes "drop event 4" ∷ codes "drop activity 4" ∷ codes "span 3 -3 -3" ∷ codes "cost" ∷ codes "untime 3" ∷ codes "time 3 1" ∷ codes "SPAN 1 1 3" ∷ []) (codes "refused 2 no event 3\ncost 16\nok\nrefused 3 event 4 is used by activity 2\nok\nok\ncost 16\nrefused 2 no event 3\nrefused 2 no event 3\nfault unknown command\n")
unfolding digits
transcript_2 = (_, (_, _, _, step_2_0, (_, _, _, step_2_1, (_, _, _, step_2_2, (_, _, _, step_2_3, (_, _, _, step_2_4, (_, _, _, step_2_5, (_, _, _, step_2_6, (_, _, _, step_2_7, (_, _, _, step_2_8, (_, _, _, step_2_9, (refl, refl), refl), refl), refl), refl), refl), refl), refl), refl), refl), refl))

-- work 0 of stream 3
abbrev work_3_0 : Work
work_3_0 = record { instance = record { period = 7; events = record { id = 5; window = Some (record { first = 0; length = 3 }) } ∷ record { id = 8; window = Some (record { first = 3; length = 5 }) } ∷ []; activities = arc 1 8 5 (pos 0) (pos 10) 0 ∷ arc 2 8 5 (negsuc 16) (negsuc 9) 4 ∷ arc 3 5 5 (negsuc 0) (pos 0) 0 ∷ arc 4 5 8 (pos 17) (pos 19) 4 ∷ [] }; times = record { period = 7; entries = (5, 3) ∷ (8, 3) ∷ [] } }

-- work 1 of stream 3
abbrev work_3_1 : Work
work_3_1 = record { instance = record { period = 7; events = new_event 1 ∷ record { id = 5; window = Some (record { first = 0; length = 3 }) } ∷ record { id = 8; window = Some (record { first = 3; length = 5 }) } ∷ []; activities = arc 1 8 5 (pos 0) (pos 10) 0 ∷ arc 2 8 5 (negsuc 16) (negsuc 9) 4 ∷ arc 3 5 5 (negsuc 0) (pos 0) 0 ∷ arc 4 5 8 (pos 17) (pos 19) 4 ∷ [] }; times = record { period = 7; entries = (5, 3) ∷ (8, 3) ∷ [] } }

step_3_0 : Legal work_3_0 (codes "try 10") (codes "optimum 0 2\n5 0\n8 3\n") work_3_0
unfolding digits
step_3_0 = inl (Optimal 0 (timetable_of work_3_0.instance (0 ∷ 3 ∷ [])), optimum_is work_3_0.instance (0 ∷ 3 ∷ []) 0 refl refl, record { tells = refl; stays = refl })

step_3_1 : Legal work_3_0 (codes "time 3 1") (codes "refused 2 no event 3\n") work_3_0
unfolding digits
step_3_1 = record { tells = refl; leaves = refl }

step_3_2 : Legal work_3_0 (codes "add") (codes "fault unknown command\n") work_3_0
unfolding digits
step_3_2 = record { tells = refl; stays = refl }

step_3_3 : Legal work_3_0 (codes "time 2 5") (codes "refused 2 no event 2\n") work_3_0
unfolding digits
step_3_3 = record { tells = refl; leaves = refl }

step_3_4 : Legal work_3_0 (codes "add event 1") (codes "ok\n") work_3_1
unfolding digits
step_3_4 = record { tells = refl; leaves = refl }

step_3_5 : Legal work_3_1 (codes "tensions") (codes "refused 11 event 1 has no time\n") work_3_1
unfolding digits
step_3_5 = record { tells = refl; stays = refl }

step_3_6 : Legal work_3_1 (codes "optimum") (codes "optimum 0 3\n1 0\n5 0\n8 3\n") work_3_1
unfolding digits
step_3_6 = (Optimal 0 (timetable_of work_3_1.instance (0 ∷ 0 ∷ 3 ∷ [])), optimum_is work_3_1.instance (0 ∷ 0 ∷ 3 ∷ []) 0 refl refl, record { tells = refl; stays = refl })

step_3_7 : Legal work_3_1 (codes "add activity 6 4 1 6 7 1000000000") (codes "refused 2 no event 4\n") work_3_1
unfolding digits
step_3_7 = record { tells = refl; leaves = refl }

step_3_8 : Legal work_3_1 (codes "window 2 1 6") (codes "refused 2 no event 2\n") work_3_1
unfolding digits
step_3_8 = record { tells = refl; leaves = refl }

step_3_9 : Legal work_3_1 (codes "add") (codes "fault unknown command\n") work_3_1
unfolding digits
step_3_9 = record { tells = refl; stays = refl }

transcript_3 : IsTranscript work_3_0 (codes "try 10" ∷ codes "time 3 1" ∷ codes "add" ∷ codes "time 2 5" ∷ codes "add event 1" ∷ codes "tensions" ∷ codes "optimum" ∷ codes "add activity 6 4 1 6 7 1000000000" ∷ codes "window 2 1 6" ∷ codes "add" ∷ []) (codes "optimum 0 2\n5 0\n8 3\nrefused 2 no event 3\nfault unknown command\nrefused 2 no event 2\nok\nrefused 11 event 1 has no time\noptimum 0 3\n1 0\n5 0\n8 3\nrefused 2 no event 4\nrefused 2 no event 2\nfault unknown command\n")
unfolding digits
transcript_3 = (_, (_, _, _, step_3_0, (_, _, _, step_3_1, (_, _, _, step_3_2, (_, _, _, step_3_3, (_, _, _, step_3_4, (_, _, _, step_3_5, (_, _, _, step_3_6, (_, _, _, step_3_7, (_, _, _, step_3_8, (_, _, _, step_3_9, (refl, refl), refl), refl), refl), refl), refl), refl), refl), refl), refl), refl))

-- work 0 of stream 4
abbrev work_4_0 : Work
work_4_0 = record { instance = record { period = 9; events = new_event 1 ∷ new_event 2 ∷ new_event 4 ∷ []; activities = arc 1 4 4 (negsuc 3) (negsuc 2) 1 ∷ arc 2 1 2 (pos 8) (pos 11) 1 ∷ arc 4 4 2 (pos 3) (pos 4) 0 ∷ arc 5 1 4 (pos 5) (pos 7) 4 ∷ [] }; times = record { period = 9; entries = (1, 3) ∷ (2, 0) ∷ [] } }

-- work 1 of stream 4
abbrev work_4_1 : Work
work_4_1 = record { instance = record { period = 9; events = new_event 1 ∷ new_event 2 ∷ new_event 3 ∷ new_event 4 ∷ []; activities = arc 1 4 4 (negsuc 3) (negsuc 2) 1 ∷ arc 2 1 2 (pos 8) (pos 11) 1 ∷ arc 4 4 2 (pos 3) (pos 4) 0 ∷ arc 5 1 4 (pos 5) (pos 7) 4 ∷ [] }; times = record { period = 9; entries = (1, 3) ∷ (2, 0) ∷ [] } }

step_4_0 : Legal work_4_0 (codes "span 9 7 7") (codes "refused 6 no activity 9\n") work_4_0
unfolding digits
step_4_0 = record { tells = refl; leaves = refl }

step_4_1 : Legal work_4_0 (codes "cost") (codes "refused 11 event 4 has no time\n") work_4_0
unfolding digits
step_4_1 = record { tells = refl; stays = refl }

step_4_2 : Legal work_4_0 (codes "violations") (codes "refused 11 event 4 has no time\n") work_4_0
unfolding digits
step_4_2 = record { tells = refl; stays = refl }

step_4_3 : Legal work_4_0 (codes "window 4 9 1") (codes "refused 4 time 9 is out of range\n") work_4_0
unfolding digits
step_4_3 = record { tells = refl; leaves = refl }

step_4_4 : Legal work_4_0 (codes "window 3 5 5") (codes "refused 2 no event 3\n") work_4_0
unfolding digits
step_4_4 = record { tells = refl; leaves = refl }

step_4_5 : Legal work_4_0 (codes "add event 4") (codes "refused 1 event 4 exists\n") work_4_0
unfolding digits
step_4_5 = record { tells = refl; leaves = refl }

step_4_6 : Legal work_4_0 (codes "add event 3") (codes "ok\n") work_4_1
unfolding digits
step_4_6 = record { tells = refl; leaves = refl }

step_4_7 : Legal work_4_1 (codes "span 4 3 4") (codes "ok\n") work_4_1
unfolding digits
step_4_7 = record { tells = refl; leaves = refl }

step_4_8 : Legal work_4_1 (codes "add event 2") (codes "refused 1 event 2 exists\n") work_4_1
unfolding digits
step_4_8 = record { tells = refl; leaves = refl }

step_4_9 : Legal work_4_1 (codes "cost") (codes "refused 11 event 3 has no time\n") work_4_1
unfolding digits
step_4_9 = record { tells = refl; stays = refl }

transcript_4 : IsTranscript work_4_0 (codes "span 9 7 7" ∷ codes "cost" ∷ codes "violations" ∷ codes "window 4 9 1" ∷ codes "window 3 5 5" ∷ codes "add event 4" ∷ codes "add event 3" ∷ codes "span 4 3 4" ∷ codes "add event 2" ∷ codes "cost" ∷ []) (codes "refused 6 no activity 9\nrefused 11 event 4 has no time\nrefused 11 event 4 has no time\nrefused 4 time 9 is out of range\nrefused 2 no event 3\nrefused 1 event 4 exists\nok\nok\nrefused 1 event 2 exists\nrefused 11 event 3 has no time\n")
unfolding digits
transcript_4 = (_, (_, _, _, step_4_0, (_, _, _, step_4_1, (_, _, _, step_4_2, (_, _, _, step_4_3, (_, _, _, step_4_4, (_, _, _, step_4_5, (_, _, _, step_4_6, (_, _, _, step_4_7, (_, _, _, step_4_8, (_, _, _, step_4_9, (refl, refl), refl), refl), refl), refl), refl), refl), refl), refl), refl), refl))

-- work 0 of stream 5
abbrev work_5_0 : Work
work_5_0 = record { instance = record { period = 7; events = new_event 1 ∷ new_event 2 ∷ new_event 3 ∷ record { id = 4; window = Some (record { first = 2; length = 4 }) } ∷ new_event 77 ∷ []; activities = arc 1 2 2 (pos 1) (pos 2) 1 ∷ arc 2 4 2 (pos 5) (pos 5) 2 ∷ arc 3 4 4 (negsuc 1) (pos 0) 3 ∷ arc 4 4 1 (negsuc 1) (negsuc 1) 0 ∷ arc 5 4 3 (negsuc 1) (pos 0) 1 ∷ arc 6 2 4 (pos 5) (pos 7) 4 ∷ [] }; times = record { period = 7; entries = (1, 0) ∷ (2, 3) ∷ (3, 5) ∷ (4, 2) ∷ (77, 2) ∷ [] } }

-- work 1 of stream 5
abbrev work_5_1 : Work
work_5_1 = record { instance = record { period = 7; events = new_event 1 ∷ new_event 2 ∷ new_event 3 ∷ record { id = 4; window = Some (record { first = 2; length = 4 }) } ∷ new_event 77 ∷ []; activities = arc 1 2 2 (pos 1) (pos 2) 1 ∷ arc 2 4 2 (pos 5) (pos 5) 2 ∷ arc 3 3 4 (negsuc 1) (pos 0) 3 ∷ arc 4 4 1 (negsuc 1) (negsuc 1) 0 ∷ arc 5 4 3 (negsuc 1) (pos 0) 1 ∷ arc 6 2 4 (pos 5) (pos 7) 4 ∷ [] }; times = record { period = 7; entries = (1, 0) ∷ (2, 3) ∷ (3, 5) ∷ (4, 2) ∷ (77, 2) ∷ [] } }

-- work 2 of stream 5
abbrev work_5_2 : Work
work_5_2 = record { instance = record { period = 7; events = new_event 1 ∷ new_event 2 ∷ new_event 3 ∷ record { id = 4; window = Some (record { first = 2; length = 4 }) } ∷ new_event 77 ∷ []; activities = arc 1 2 2 (pos 1) (pos 2) 1 ∷ arc 2 4 2 (pos 5) (pos 5) 2 ∷ arc 3 3 4 (negsuc 1) (pos 0) 3 ∷ arc 4 4 2 (negsuc 1) (negsuc 1) 0 ∷ arc 5 4 3 (negsuc 1) (pos 0) 1 ∷ arc 6 2 4 (pos 5) (pos 7) 4 ∷ [] }; times = record { period = 7; entries = (1, 0) ∷ (2, 3) ∷ (3, 5) ∷ (4, 2) ∷ (77, 2) ∷ [] } }

-- work 3 of stream 5
abbrev work_5_3 : Work
work_5_3 = record { instance = record { period = 7; events = new_event 1 ∷ new_event 2 ∷ new_event 3 ∷ record { id = 4; window = Some (record { first = 2; length = 4 }) } ∷ new_event 77 ∷ []; activities = arc 1 2 2 (pos 1) (pos 2) 1 ∷ arc 2 4 2 (pos 5) (pos 5) 2 ∷ arc 4 4 2 (negsuc 1) (negsuc 1) 0 ∷ arc 5 4 3 (negsuc 1) (pos 0) 1 ∷ arc 6 2 4 (pos 5) (pos 7) 4 ∷ [] }; times = record { period = 7; entries = (1, 0) ∷ (2, 3) ∷ (3, 5) ∷ (4, 2) ∷ (77, 2) ∷ [] } }

-- work 4 of stream 5
abbrev work_5_4 : Work
work_5_4 = record { instance = record { period = 7; events = new_event 1 ∷ new_event 2 ∷ new_event 3 ∷ record { id = 4; window = Some (record { first = 2; length = 4 }) } ∷ new_event 77 ∷ []; activities = arc 1 2 2 (pos 1) (pos 2) 1 ∷ arc 2 4 2 (pos 5) (pos 5) 2 ∷ arc 4 4 2 (negsuc 1) (negsuc 1) 0 ∷ arc 5 4 3 (negsuc 1) (pos 0) 0 ∷ arc 6 2 4 (pos 5) (pos 7) 4 ∷ [] }; times = record { period = 7; entries = (1, 0) ∷ (2, 3) ∷ (3, 5) ∷ (4, 2) ∷ (77, 2) ∷ [] } }

-- work 5 of stream 5
abbrev work_5_5 : Work
work_5_5 = record { instance = record { period = 7; events = new_event 1 ∷ new_event 2 ∷ new_event 3 ∷ record { id = 4; window = Some (record { first = 2; length = 4 }) } ∷ new_event 77 ∷ []; activities = arc 1 2 2 (pos 1) (pos 2) 1 ∷ arc 2 4 2 (pos 5) (pos 5) 3 ∷ arc 4 4 2 (negsuc 1) (negsuc 1) 0 ∷ arc 5 4 3 (negsuc 1) (pos 0) 0 ∷ arc 6 2 4 (pos 5) (pos 7) 4 ∷ [] }; times = record { period = 7; entries = (1, 0) ∷ (2, 3) ∷ (3, 5) ∷ (4, 2) ∷ (77, 2) ∷ [] } }

step_5_0 : Legal work_5_0 (codes "drop event 2") (codes "refused 3 event 2 is used by activity 1\n") work_5_0
unfolding digits
step_5_0 = record { tells = refl; leaves = refl }

step_5_1 : Legal work_5_0 (codes "ends 3 3 4") (codes "ok\n") work_5_1
unfolding digits
step_5_1 = record { tells = refl; leaves = refl }

step_5_2 : Legal work_5_1 (codes "ends 4 4 2") (codes "ok\n") work_5_2
unfolding digits
step_5_2 = record { tells = refl; leaves = refl }

step_5_3 : Legal work_5_2 (codes "add event 4") (codes "refused 1 event 4 exists\n") work_5_2
unfolding digits
step_5_3 = record { tells = refl; leaves = refl }

step_5_4 : Legal work_5_2 (codes "drop activity 3") (codes "ok\n") work_5_3
unfolding digits
step_5_4 = record { tells = refl; leaves = refl }

step_5_5 : Legal work_5_3 (codes "add event 2") (codes "refused 1 event 2 exists\n") work_5_3
unfolding digits
step_5_5 = record { tells = refl; leaves = refl }

step_5_6 : Legal work_5_3 (codes "weight 5 0") (codes "ok\n") work_5_4
unfolding digits
step_5_6 = record { tells = refl; leaves = refl }

step_5_7 : Legal work_5_4 (codes "add event 4") (codes "refused 1 event 4 exists\n") work_5_4
unfolding digits
step_5_7 = record { tells = refl; leaves = refl }

step_5_8 : Legal work_5_4 (codes "weight 2 3") (codes "ok\n") work_5_5
unfolding digits
step_5_8 = record { tells = refl; leaves = refl }

step_5_9 : Legal work_5_5 (codes "add event 4") (codes "refused 1 event 4 exists\n") work_5_5
unfolding digits
step_5_9 = record { tells = refl; leaves = refl }

transcript_5 : IsTranscript work_5_0 (codes "drop event 2" ∷ codes "ends 3 3 4" ∷ codes "ends 4 4 2" ∷ codes "add event 4" ∷ codes "drop activity 3" ∷ codes "add event 2" ∷ codes "weight 5 0" ∷ codes "add event 4" ∷ codes "weight 2 3" ∷ codes "add event 4" ∷ []) (codes "refused 3 event 2 is used by activity 1\nok\nok\nrefused 1 event 4 exists\nok\nrefused 1 event 2 exists\nok\nrefused 1 event 4 exists\nok\nrefused 1 event 4 exists\n")
unfolding digits
transcript_5 = (_, (_, _, _, step_5_0, (_, _, _, step_5_1, (_, _, _, step_5_2, (_, _, _, step_5_3, (_, _, _, step_5_4, (_, _, _, step_5_5, (_, _, _, step_5_6, (_, _, _, step_5_7, (_, _, _, step_5_8, (_, _, _, step_5_9, (refl, refl), refl), refl), refl), refl), refl), refl), refl), refl), refl), refl))

-- work 0 of stream 6
abbrev work_6_0 : Work
work_6_0 = record { instance = record { period = 3; events = new_event 2 ∷ new_event 4 ∷ []; activities = arc 1 4 4 (pos 3) (pos 3) 2 ∷ arc 3 4 4 (pos 1) (pos 1) 4 ∷ arc 5 2 4 (negsuc 2) (negsuc 2) 3 ∷ arc 6 2 2 (pos 1) (pos 2) 4 ∷ [] }; times = record { period = 3; entries = (2, 0) ∷ (4, 0) ∷ [] } }

-- work 1 of stream 6
abbrev work_6_1 : Work
work_6_1 = record { instance = record { period = 3; events = new_event 2 ∷ new_event 4 ∷ new_event 77 ∷ []; activities = arc 1 4 4 (pos 3) (pos 3) 2 ∷ arc 3 4 4 (pos 1) (pos 1) 4 ∷ arc 5 2 4 (negsuc 2) (negsuc 2) 3 ∷ arc 6 2 2 (pos 1) (pos 2) 4 ∷ [] }; times = record { period = 3; entries = (2, 0) ∷ (4, 0) ∷ [] } }

-- work 2 of stream 6
abbrev work_6_2 : Work
work_6_2 = record { instance = record { period = 3; events = new_event 2 ∷ new_event 3 ∷ new_event 4 ∷ new_event 77 ∷ []; activities = arc 1 4 4 (pos 3) (pos 3) 2 ∷ arc 3 4 4 (pos 1) (pos 1) 4 ∷ arc 5 2 4 (negsuc 2) (negsuc 2) 3 ∷ arc 6 2 2 (pos 1) (pos 2) 4 ∷ [] }; times = record { period = 3; entries = (2, 0) ∷ (4, 0) ∷ [] } }

step_6_0 : Legal work_6_0 (codes "adopt") (codes "refused 12 infeasible\n") work_6_0
unfolding digits
step_6_0 = (Infeasible, infeasible_is work_6_0.instance refl, record { tells = refl; leaves = refl })

step_6_1 : Legal work_6_0 (codes "dump") (codes "# period 3 lines 6\nadd event 2\nadd event 4\nadd activity 1 4 4 3 3 2\nadd activity 3 4 4 1 1 4\nadd activity 5 2 4 -3 -3 3\nadd activity 6 2 2 1 2 4\n") work_6_0
unfolding digits
step_6_1 = record { tells = refl; stays = refl }

step_6_2 : Legal work_6_0 (codes "optimum") (codes "infeasible\n") work_6_0
unfolding digits
step_6_2 = (Infeasible, infeasible_is work_6_0.instance refl, record { tells = refl; stays = refl })

step_6_3 : Legal work_6_0 (codes "add activity 1 3 3 3 6 1") (codes "refused 5 activity 1 exists\n") work_6_0
unfolding digits
step_6_3 = record { tells = refl; leaves = refl }

step_6_4 : Legal work_6_0 (codes "add activity 5 2 3 -1 -1 3") (codes "refused 5 activity 5 exists\n") work_6_0
unfolding digits
step_6_4 = record { tells = refl; leaves = refl }

step_6_5 : Legal work_6_0 (codes "add event 77") (codes "ok\n") work_6_1
unfolding digits
step_6_5 = record { tells = refl; leaves = refl }

step_6_6 : Legal work_6_1 (codes "violations") (codes "refused 11 event 77 has no time\n") work_6_1
unfolding digits
step_6_6 = record { tells = refl; stays = refl }

step_6_7 : Legal work_6_1 (codes "add event 3") (codes "ok\n") work_6_2
unfolding digits
step_6_7 = record { tells = refl; leaves = refl }

step_6_8 : Legal work_6_2 (codes "cost") (codes "refused 11 event 3 has no time\n") work_6_2
unfolding digits
step_6_8 = record { tells = refl; stays = refl }

step_6_9 : Legal work_6_2 (codes "span 4 2 4") (codes "refused 6 no activity 4\n") work_6_2
unfolding digits
step_6_9 = record { tells = refl; leaves = refl }

transcript_6 : IsTranscript work_6_0 (codes "adopt" ∷ codes "dump" ∷ codes "optimum" ∷ codes "add activity 1 3 3 3 6 1" ∷ codes "add activity 5 2 3 -1 -1 3" ∷ codes "add event 77" ∷ codes "violations" ∷ codes "add event 3" ∷ codes "cost" ∷ codes "span 4 2 4" ∷ []) (codes "refused 12 infeasible\n# period 3 lines 6\nadd event 2\nadd event 4\nadd activity 1 4 4 3 3 2\nadd activity 3 4 4 1 1 4\nadd activity 5 2 4 -3 -3 3\nadd activity 6 2 2 1 2 4\ninfeasible\nrefused 5 activity 1 exists\nrefused 5 activity 5 exists\nok\nrefused 11 event 77 has no time\nok\nrefused 11 event 3 has no time\nrefused 6 no activity 4\n")
unfolding digits
transcript_6 = (_, (_, _, _, step_6_0, (_, _, _, step_6_1, (_, _, _, step_6_2, (_, _, _, step_6_3, (_, _, _, step_6_4, (_, _, _, step_6_5, (_, _, _, step_6_6, (_, _, _, step_6_7, (_, _, _, step_6_8, (_, _, _, step_6_9, (refl, refl), refl), refl), refl), refl), refl), refl), refl), refl), refl), refl))

-- work 0 of stream 7
abbrev work_7_0 : Work
work_7_0 = record { instance = record { period = 9; events = record { id = 1; window = Some (record { first = 3; length = 1 }) } ∷ record { id = 2; window = Some (record { first = 2; length = 4 }) } ∷ new_event 4 ∷ []; activities = arc 1 4 4 (pos 1) (pos 1) 0 ∷ arc 2 1 2 (pos 3) (pos 5) 4 ∷ [] }; times = record { period = 9; entries = (1, 7) ∷ (2, 5) ∷ (4, 6) ∷ [] } }

step_7_0 : Legal work_7_0 (codes "unfix 3") (codes "refused 2 no event 3\n") work_7_0
unfolding digits
step_7_0 = record { tells = refl; leaves = refl }

step_7_1 : Legal work_7_0 (codes "violations") (codes "violations 3\nactivity 1\nactivity 2\nevent 1\n") work_7_0
unfolding digits
step_7_1 = record { tells = refl; stays = refl }

step_7_2 : Legal work_7_0 (codes "add event 4") (codes "refused 1 event 4 exists\n") work_7_0
unfolding digits
step_7_2 = record { tells = refl; leaves = refl }

step_7_3 : Legal work_7_0 (codes "drop event 2") (codes "refused 3 event 2 is used by activity 2\n") work_7_0
unfolding digits
step_7_3 = record { tells = refl; leaves = refl }

step_7_4 : Legal work_7_0 (codes "violations") (codes "violations 3\nactivity 1\nactivity 2\nevent 1\n") work_7_0
unfolding digits
step_7_4 = record { tells = refl; stays = refl }

step_7_5 : Legal work_7_0 (codes "tensions") (codes "tensions 2\n1 9 8\n2 7 4\n") work_7_0
unfolding digits
step_7_5 = record { tells = refl; stays = refl }

step_7_6 : Legal work_7_0 (codes "window 3 7 8") (codes "refused 2 no event 3\n") work_7_0
unfolding digits
step_7_6 = record { tells = refl; leaves = refl }

step_7_7 : Legal work_7_0 (codes "drop event 1") (codes "refused 3 event 1 is used by activity 2\n") work_7_0
unfolding digits
step_7_7 = record { tells = refl; leaves = refl }

step_7_8 : Legal work_7_0 (codes "add event 2") (codes "refused 1 event 2 exists\n") work_7_0
unfolding digits
step_7_8 = record { tells = refl; leaves = refl }

step_7_9 : Legal work_7_0 (codes "violations") (codes "violations 3\nactivity 1\nactivity 2\nevent 1\n") work_7_0
unfolding digits
step_7_9 = record { tells = refl; stays = refl }

transcript_7 : IsTranscript work_7_0 (codes "unfix 3" ∷ codes "violations" ∷ codes "add event 4" ∷ codes "drop event 2" ∷ codes "violations" ∷ codes "tensions" ∷ codes "window 3 7 8" ∷ codes "drop event 1" ∷ codes "add event 2" ∷ codes "violations" ∷ []) (codes "refused 2 no event 3\nviolations 3\nactivity 1\nactivity 2\nevent 1\nrefused 1 event 4 exists\nrefused 3 event 2 is used by activity 2\nviolations 3\nactivity 1\nactivity 2\nevent 1\ntensions 2\n1 9 8\n2 7 4\nrefused 2 no event 3\nrefused 3 event 1 is used by activity 2\nrefused 1 event 2 exists\nviolations 3\nactivity 1\nactivity 2\nevent 1\n")
unfolding digits
transcript_7 = (_, (_, _, _, step_7_0, (_, _, _, step_7_1, (_, _, _, step_7_2, (_, _, _, step_7_3, (_, _, _, step_7_4, (_, _, _, step_7_5, (_, _, _, step_7_6, (_, _, _, step_7_7, (_, _, _, step_7_8, (_, _, _, step_7_9, (refl, refl), refl), refl), refl), refl), refl), refl), refl), refl), refl), refl))

-- work 0 of stream 8
abbrev work_8_0 : Work
work_8_0 = record { instance = record { period = 10; events = new_event 1 ∷ record { id = 2; window = Some (record { first = 7; length = 10 }) } ∷ new_event 4 ∷ []; activities = arc 1 4 1 (negsuc 8) (negsuc 2) 3 ∷ arc 2 1 2 (negsuc 8) (negsuc 8) 1 ∷ arc 3 1 2 (negsuc 7) (negsuc 6) 2 ∷ arc 4 1 1 (pos 3) (pos 4) 4 ∷ arc 5 4 1 (pos 5) (pos 5) 0 ∷ arc 6 2 1 (pos 9) (pos 9) 3 ∷ [] }; times = record { period = 10; entries = (1, 6) ∷ (2, 3) ∷ (4, 2) ∷ [] } }

-- work 1 of stream 8
abbrev work_8_1 : Work
work_8_1 = record { instance = record { period = 10; events = new_event 1 ∷ record { id = 2; window = Some (record { first = 7; length = 10 }) } ∷ record { id = 4; window = Some (record { first = 0; length = 1 }) } ∷ []; activities = arc 1 4 1 (negsuc 8) (negsuc 2) 3 ∷ arc 2 1 2 (negsuc 8) (negsuc 8) 1 ∷ arc 3 1 2 (negsuc 7) (negsuc 6) 2 ∷ arc 4 1 1 (pos 3) (pos 4) 4 ∷ arc 5 4 1 (pos 5) (pos 5) 0 ∷ arc 6 2 1 (pos 9) (pos 9) 3 ∷ [] }; times = record { period = 10; entries = (1, 6) ∷ (2, 3) ∷ (4, 2) ∷ [] } }

-- work 2 of stream 8
abbrev work_8_2 : Work
work_8_2 = record { instance = record { period = 10; events = new_event 1 ∷ record { id = 2; window = Some (record { first = 7; length = 10 }) } ∷ record { id = 4; window = Some (record { first = 0; length = 1 }) } ∷ []; activities = arc 1 4 1 (negsuc 8) (negsuc 2) 3 ∷ arc 2 1 2 (negsuc 8) (negsuc 8) 10 ∷ arc 3 1 2 (negsuc 7) (negsuc 6) 2 ∷ arc 4 1 1 (pos 3) (pos 4) 4 ∷ arc 5 4 1 (pos 5) (pos 5) 0 ∷ arc 6 2 1 (pos 9) (pos 9) 3 ∷ [] }; times = record { period = 10; entries = (1, 6) ∷ (2, 3) ∷ (4, 2) ∷ [] } }

step_8_0 : Legal work_8_0 (codes "cost") (codes "cost 65\n") work_8_0
unfolding digits
step_8_0 = record { tells = refl; stays = refl }

step_8_1 : Legal work_8_0 (codes "unfix 4") (codes "refused 9 event 4 is not fixed\n") work_8_0
unfolding digits
step_8_1 = record { tells = refl; leaves = refl }

step_8_2 : Legal work_8_0 [] [] work_8_0
unfolding digits
step_8_2 = record { tells = refl; stays = refl }

step_8_3 : Legal work_8_0 (codes "fix 4 0") (codes "ok\n") work_8_1
unfolding digits
step_8_3 = record { tells = refl; leaves = refl }

step_8_4 : Legal work_8_1 (codes "ends 9 2 2") (codes "refused 6 no activity 9\n") work_8_1
unfolding digits
step_8_4 = record { tells = refl; leaves = refl }

step_8_5 : Legal work_8_1 (codes "span 77 0 0") (codes "refused 6 no activity 77\n") work_8_1
unfolding digits
step_8_5 = record { tells = refl; leaves = refl }

step_8_6 : Legal work_8_1 (32 ∷ 9 ∷ 117 ∷ 110 ∷ 102 ∷ 105 ∷ 120 ∷ 32 ∷ 49 ∷ 13 ∷ []) (codes "refused 9 event 1 is not fixed\n") work_8_1
unfolding digits
step_8_6 = record { tells = refl; leaves = refl }

step_8_7 : Legal work_8_1 (codes "fix 3 4") (codes "refused 2 no event 3\n") work_8_1
unfolding digits
step_8_7 = record { tells = refl; leaves = refl }

step_8_8 : Legal work_8_1 (codes "weight 2 10") (codes "ok\n") work_8_2
unfolding digits
step_8_8 = record { tells = refl; leaves = refl }

step_8_9 : Legal work_8_2 (codes "add event 2") (codes "refused 1 event 2 exists\n") work_8_2
unfolding digits
step_8_9 = record { tells = refl; leaves = refl }

transcript_8 : IsTranscript work_8_0 (codes "cost" ∷ codes "unfix 4" ∷ [] ∷ codes "fix 4 0" ∷ codes "ends 9 2 2" ∷ codes "span 77 0 0" ∷ (32 ∷ 9 ∷ 117 ∷ 110 ∷ 102 ∷ 105 ∷ 120 ∷ 32 ∷ 49 ∷ 13 ∷ []) ∷ codes "fix 3 4" ∷ codes "weight 2 10" ∷ codes "add event 2" ∷ []) (codes "cost 65\nrefused 9 event 4 is not fixed\nok\nrefused 6 no activity 9\nrefused 6 no activity 77\nrefused 9 event 1 is not fixed\nrefused 2 no event 3\nok\nrefused 1 event 2 exists\n")
unfolding digits
transcript_8 = (_, (_, _, _, step_8_0, (_, _, _, step_8_1, (_, _, _, step_8_2, (_, _, _, step_8_3, (_, _, _, step_8_4, (_, _, _, step_8_5, (_, _, _, step_8_6, (_, _, _, step_8_7, (_, _, _, step_8_8, (_, _, _, step_8_9, (refl, refl), refl), refl), refl), refl), refl), refl), refl), refl), refl), refl))

-- work 0 of stream 9
abbrev work_9_0 : Work
work_9_0 = record { instance = record { period = 3; events = new_event 3 ∷ record { id = 8; window = Some (record { first = 2; length = 2 }) } ∷ new_event 9 ∷ []; activities = arc 1 8 9 (negsuc 6) (negsuc 1) 1 ∷ [] }; times = record { period = 3; entries = (3, 0) ∷ (8, 1) ∷ (9, 1) ∷ [] } }

-- work 1 of stream 9
abbrev work_9_1 : Work
work_9_1 = record { instance = record { period = 3; events = new_event 3 ∷ record { id = 8; window = Some (record { first = 2; length = 2 }) } ∷ new_event 9 ∷ []; activities = arc 1 8 9 (negsuc 6) (negsuc 1) 1 ∷ [] }; times = record { period = 3; entries = (3, 0) ∷ (8, 0) ∷ (9, 2) ∷ [] } }

-- work 2 of stream 9
abbrev work_9_2 : Work
work_9_2 = record { instance = record { period = 3; events = new_event 3 ∷ new_event 4 ∷ record { id = 8; window = Some (record { first = 2; length = 2 }) } ∷ new_event 9 ∷ []; activities = arc 1 8 9 (negsuc 6) (negsuc 1) 1 ∷ [] }; times = record { period = 3; entries = (3, 0) ∷ (8, 0) ∷ (9, 2) ∷ [] } }

-- work 3 of stream 9
abbrev work_9_3 : Work
work_9_3 = record { instance = record { period = 3; events = new_event 3 ∷ record { id = 4; window = Some (record { first = 0; length = 1 }) } ∷ record { id = 8; window = Some (record { first = 2; length = 2 }) } ∷ new_event 9 ∷ []; activities = arc 1 8 9 (negsuc 6) (negsuc 1) 1 ∷ [] }; times = record { period = 3; entries = (3, 0) ∷ (8, 0) ∷ (9, 2) ∷ [] } }

step_9_0 : Legal work_9_0 (codes "try 1") (codes "optimum 0 3\n3 0\n8 0\n9 2\n") work_9_0
unfolding digits
step_9_0 = inl (Optimal 0 (timetable_of work_9_0.instance (0 ∷ 0 ∷ 2 ∷ [])), optimum_is work_9_0.instance (0 ∷ 0 ∷ 2 ∷ []) 0 refl refl, record { tells = refl; stays = refl })

step_9_1 : Legal work_9_0 (codes "try 2") (codes "optimum 0 3\n3 0\n8 0\n9 2\n") work_9_0
unfolding digits
step_9_1 = inl (Optimal 0 (timetable_of work_9_0.instance (0 ∷ 0 ∷ 2 ∷ [])), optimum_is work_9_0.instance (0 ∷ 0 ∷ 2 ∷ []) 0 refl refl, record { tells = refl; stays = refl })

step_9_2 : Legal work_9_0 (codes "adopt") (codes "ok\n") work_9_1
unfolding digits
step_9_2 = (Optimal 0 (timetable_of work_9_0.instance (0 ∷ 0 ∷ 2 ∷ [])), optimum_is work_9_0.instance (0 ∷ 0 ∷ 2 ∷ []) 0 refl refl, record { tells = refl; leaves = refl })

step_9_3 : Legal work_9_1 (codes "add activity 77 2 0 3 6 1") (codes "refused 2 no event 2\n") work_9_1
unfolding digits
step_9_3 = record { tells = refl; leaves = refl }

step_9_4 : Legal work_9_1 (codes "add event 3") (codes "refused 1 event 3 exists\n") work_9_1
unfolding digits
step_9_4 = record { tells = refl; leaves = refl }

step_9_5 : Legal work_9_1 (codes "violations") (codes "violations 0\n") work_9_1
unfolding digits
step_9_5 = record { tells = refl; stays = refl }

step_9_6 : Legal work_9_1 (codes "add event 4") (codes "ok\n") work_9_2
unfolding digits
step_9_6 = record { tells = refl; leaves = refl }

step_9_7 : Legal work_9_2 (codes "window 4 0 1") (codes "ok\n") work_9_3
unfolding digits
step_9_7 = record { tells = refl; leaves = refl }

step_9_8 : Legal work_9_3 (codes "dump") (codes "# period 3 lines 7\nadd event 3\nadd event 4\nadd event 8\nadd event 9\nfix 4 0\nwindow 8 2 2\nadd activity 1 8 9 -7 -2 1\n") work_9_3
unfolding digits
step_9_8 = record { tells = refl; stays = refl }

step_9_9 : Legal work_9_3 (codes "span 6 3 6") (codes "refused 6 no activity 6\n") work_9_3
unfolding digits
step_9_9 = record { tells = refl; leaves = refl }

transcript_9 : IsTranscript work_9_0 (codes "try 1" ∷ codes "try 2" ∷ codes "adopt" ∷ codes "add activity 77 2 0 3 6 1" ∷ codes "add event 3" ∷ codes "violations" ∷ codes "add event 4" ∷ codes "window 4 0 1" ∷ codes "dump" ∷ codes "span 6 3 6" ∷ []) (codes "optimum 0 3\n3 0\n8 0\n9 2\noptimum 0 3\n3 0\n8 0\n9 2\nok\nrefused 2 no event 2\nrefused 1 event 3 exists\nviolations 0\nok\nok\n# period 3 lines 7\nadd event 3\nadd event 4\nadd event 8\nadd event 9\nfix 4 0\nwindow 8 2 2\nadd activity 1 8 9 -7 -2 1\nrefused 6 no activity 6\n")
unfolding digits
transcript_9 = (_, (_, _, _, step_9_0, (_, _, _, step_9_1, (_, _, _, step_9_2, (_, _, _, step_9_3, (_, _, _, step_9_4, (_, _, _, step_9_5, (_, _, _, step_9_6, (_, _, _, step_9_7, (_, _, _, step_9_8, (_, _, _, step_9_9, (refl, refl), refl), refl), refl), refl), refl), refl), refl), refl), refl), refl))

-- work 0 of stream 10
abbrev work_10_0 : Work
work_10_0 = record { instance = record { period = 9; events = new_event 1 ∷ record { id = 5; window = Some (record { first = 3; length = 9 }) } ∷ record { id = 6; window = Some (record { first = 6; length = 7 }) } ∷ []; activities = arc 1 6 1 (negsuc 5) (negsuc 3) 2 ∷ arc 2 1 6 (pos 6) (pos 6) 1 ∷ arc 3 5 6 (pos 3) (pos 13) 4 ∷ arc 4 5 1 (pos 7) (pos 8) 3 ∷ arc 5 1 5 (pos 10) (pos 13) 1 ∷ [] }; times = record { period = 9; entries = (1, 1) ∷ (5, 4) ∷ (6, 4) ∷ [] } }

-- work 1 of stream 10
abbrev work_10_1 : Work
work_10_1 = record { instance = record { period = 9; events = new_event 1 ∷ new_event 2 ∷ record { id = 5; window = Some (record { first = 3; length = 9 }) } ∷ record { id = 6; window = Some (record { first = 6; length = 7 }) } ∷ []; activities = arc 1 6 1 (negsuc 5) (negsuc 3) 2 ∷ arc 2 1 6 (pos 6) (pos 6) 1 ∷ arc 3 5 6 (pos 3) (pos 13) 4 ∷ arc 4 5 1 (pos 7) (pos 8) 3 ∷ arc 5 1 5 (pos 10) (pos 13) 1 ∷ [] }; times = record { period = 9; entries = (1, 1) ∷ (5, 4) ∷ (6, 4) ∷ [] } }

-- work 2 of stream 10
abbrev work_10_2 : Work
work_10_2 = record { instance = record { period = 9; events = record { id = 1; window = Some (record { first = 3; length = 8 }) } ∷ new_event 2 ∷ record { id = 5; window = Some (record { first = 3; length = 9 }) } ∷ record { id = 6; window = Some (record { first = 6; length = 7 }) } ∷ []; activities = arc 1 6 1 (negsuc 5) (negsuc 3) 2 ∷ arc 2 1 6 (pos 6) (pos 6) 1 ∷ arc 3 5 6 (pos 3) (pos 13) 4 ∷ arc 4 5 1 (pos 7) (pos 8) 3 ∷ arc 5 1 5 (pos 10) (pos 13) 1 ∷ [] }; times = record { period = 9; entries = (1, 1) ∷ (5, 4) ∷ (6, 4) ∷ [] } }

-- work 3 of stream 10
abbrev work_10_3 : Work
work_10_3 = record { instance = record { period = 9; events = record { id = 1; window = Some (record { first = 3; length = 8 }) } ∷ record { id = 2; window = Some (record { first = 8; length = 5 }) } ∷ record { id = 5; window = Some (record { first = 3; length = 9 }) } ∷ record { id = 6; window = Some (record { first = 6; length = 7 }) } ∷ []; activities = arc 1 6 1 (negsuc 5) (negsuc 3) 2 ∷ arc 2 1 6 (pos 6) (pos 6) 1 ∷ arc 3 5 6 (pos 3) (pos 13) 4 ∷ arc 4 5 1 (pos 7) (pos 8) 3 ∷ arc 5 1 5 (pos 10) (pos 13) 1 ∷ [] }; times = record { period = 9; entries = (1, 1) ∷ (5, 4) ∷ (6, 4) ∷ [] } }

-- work 4 of stream 10
abbrev work_10_4 : Work
work_10_4 = record { instance = record { period = 9; events = record { id = 1; window = Some (record { first = 3; length = 8 }) } ∷ record { id = 2; window = Some (record { first = 8; length = 5 }) } ∷ record { id = 5; window = Some (record { first = 3; length = 9 }) } ∷ record { id = 6; window = Some (record { first = 6; length = 7 }) } ∷ []; activities = arc 1 6 1 (negsuc 5) (negsuc 3) 2 ∷ arc 2 1 6 (negsuc 4) (pos 4) 1 ∷ arc 3 5 6 (pos 3) (pos 13) 4 ∷ arc 4 5 1 (pos 7) (pos 8) 3 ∷ arc 5 1 5 (pos 10) (pos 13) 1 ∷ [] }; times = record { period = 9; entries = (1, 1) ∷ (5, 4) ∷ (6, 4) ∷ [] } }

-- work 5 of stream 10
abbrev work_10_5 : Work
work_10_5 = record { instance = record { period = 9; events = record { id = 1; window = Some (record { first = 3; length = 8 }) } ∷ record { id = 5; window = Some (record { first = 3; length = 9 }) } ∷ record { id = 6; window = Some (record { first = 6; length = 7 }) } ∷ []; activities = arc 1 6 1 (negsuc 5) (negsuc 3) 2 ∷ arc 2 1 6 (negsuc 4) (pos 4) 1 ∷ arc 3 5 6 (pos 3) (pos 13) 4 ∷ arc 4 5 1 (pos 7) (pos 8) 3 ∷ arc 5 1 5 (pos 10) (pos 13) 1 ∷ [] }; times = record { period = 9; entries = (1, 1) ∷ (5, 4) ∷ (6, 4) ∷ [] } }

step_10_0 : Legal work_10_0 (codes "add event 2") (codes "ok\n") work_10_1
unfolding digits
step_10_0 = record { tells = refl; leaves = refl }

step_10_1 : Legal work_10_1 (codes "window 3 8 5") (codes "refused 2 no event 3\n") work_10_1
unfolding digits
step_10_1 = record { tells = refl; leaves = refl }

step_10_2 : Legal work_10_1 (codes "optimum 1") (codes "fault wrong number of words\n") work_10_1
unfolding digits
step_10_2 = record { tells = refl; stays = refl }

step_10_3 : Legal work_10_1 (codes "window 1 3 8") (codes "ok\n") work_10_2
unfolding digits
step_10_3 = record { tells = refl; leaves = refl }

step_10_4 : Legal work_10_2 (codes "window 2 8 5") (codes "ok\n") work_10_3
unfolding digits
step_10_4 = record { tells = refl; leaves = refl }

step_10_5 : Legal work_10_3 (codes "# a") [] work_10_3
unfolding digits
step_10_5 = record { tells = refl; stays = refl }

step_10_6 : Legal work_10_3 (codes "span 2 -5 4") (codes "ok\n") work_10_4
unfolding digits
step_10_6 = record { tells = refl; leaves = refl }

step_10_7 : Legal work_10_4 (codes "violations") (codes "refused 11 event 2 has no time\n") work_10_4
unfolding digits
step_10_7 = record { tells = refl; stays = refl }

step_10_8 : Legal work_10_4 (codes "drop event 4") (codes "refused 2 no event 4\n") work_10_4
unfolding digits
step_10_8 = record { tells = refl; leaves = refl }

step_10_9 : Legal work_10_4 (codes "drop event 2") (codes "ok\n") work_10_5
unfolding digits
step_10_9 = record { tells = refl; leaves = refl }

transcript_10 : IsTranscript work_10_0 (codes "add event 2" ∷ codes "window 3 8 5" ∷ codes "optimum 1" ∷ codes "window 1 3 8" ∷ codes "window 2 8 5" ∷ codes "# a" ∷ codes "span 2 -5 4" ∷ codes "violations" ∷ codes "drop event 4" ∷ codes "drop event 2" ∷ []) (codes "ok\nrefused 2 no event 3\nfault wrong number of words\nok\nok\nok\nrefused 11 event 2 has no time\nrefused 2 no event 4\nok\n")
unfolding digits
transcript_10 = (_, (_, _, _, step_10_0, (_, _, _, step_10_1, (_, _, _, step_10_2, (_, _, _, step_10_3, (_, _, _, step_10_4, (_, _, _, step_10_5, (_, _, _, step_10_6, (_, _, _, step_10_7, (_, _, _, step_10_8, (_, _, _, step_10_9, (refl, refl), refl), refl), refl), refl), refl), refl), refl), refl), refl), refl))

-- work 0 of stream 11
abbrev work_11_0 : Work
work_11_0 = record { instance = record { period = 4; events = new_event 1 ∷ new_event 4 ∷ new_event 5 ∷ new_event 7 ∷ []; activities = arc 1 7 5 (negsuc 2) (pos 2) 2 ∷ arc 2 5 1 (negsuc 4) (negsuc 2) 3 ∷ [] }; times = record { period = 4; entries = (1, 2) ∷ (4, 2) ∷ (5, 3) ∷ (7, 3) ∷ [] } }

-- work 1 of stream 11
abbrev work_11_1 : Work
work_11_1 = record { instance = record { period = 4; events = new_event 1 ∷ new_event 3 ∷ new_event 4 ∷ new_event 5 ∷ new_event 7 ∷ []; activities = arc 1 7 5 (negsuc 2) (pos 2) 2 ∷ arc 2 5 1 (negsuc 4) (negsuc 2) 3 ∷ [] }; times = record { period = 4; entries = (1, 2) ∷ (4, 2) ∷ (5, 3) ∷ (7, 3) ∷ [] } }

-- work 2 of stream 11
abbrev work_11_2 : Work
work_11_2 = record { instance = record { period = 4; events = new_event 1 ∷ new_event 3 ∷ new_event 4 ∷ new_event 5 ∷ new_event 7 ∷ []; activities = arc 1 7 5 (negsuc 2) (pos 2) 2 ∷ arc 2 5 1 (negsuc 4) (negsuc 2) 3 ∷ [] }; times = record { period = 4; entries = (1, 2) ∷ (3, 2) ∷ (4, 2) ∷ (5, 3) ∷ (7, 3) ∷ [] } }

-- work 3 of stream 11
abbrev work_11_3 : Work
work_11_3 = record { instance = record { period = 4; events = new_event 1 ∷ new_event 3 ∷ new_event 4 ∷ new_event 5 ∷ new_event 7 ∷ []; activities = arc 1 7 5 (negsuc 2) (pos 2) 2 ∷ arc 2 5 1 (negsuc 4) (negsuc 2) 3 ∷ arc 6 3 1 (pos 0) (pos 0) 3 ∷ [] }; times = record { period = 4; entries = (1, 2) ∷ (3, 2) ∷ (4, 2) ∷ (5, 3) ∷ (7, 3) ∷ [] } }

-- work 4 of stream 11
abbrev work_11_4 : Work
work_11_4 = record { instance = record { period = 4; events = new_event 1 ∷ new_event 3 ∷ new_event 4 ∷ new_event 5 ∷ new_event 7 ∷ []; activities = arc 1 7 5 (negsuc 2) (pos 2) 2 ∷ arc 2 5 1 (negsuc 4) (negsuc 2) 3 ∷ [] }; times = record { period = 4; entries = (1, 2) ∷ (3, 2) ∷ (4, 2) ∷ (5, 3) ∷ (7, 3) ∷ [] } }

step_11_0 : Legal work_11_0 (codes "add event 3") (codes "ok\n") work_11_1
unfolding digits
step_11_0 = record { tells = refl; leaves = refl }

step_11_1 : Legal work_11_1 (codes "span 5 -2 -2") (codes "refused 6 no activity 5\n") work_11_1
unfolding digits
step_11_1 = record { tells = refl; leaves = refl }

step_11_2 : Legal work_11_1 (codes "add event 3") (codes "refused 1 event 3 exists\n") work_11_1
unfolding digits
step_11_2 = record { tells = refl; leaves = refl }

step_11_3 : Legal work_11_1 (codes "time 3 2") (codes "ok\n") work_11_2
unfolding digits
step_11_3 = record { tells = refl; leaves = refl }

step_11_4 : Legal work_11_2 (codes "unfix 4") (codes "refused 9 event 4 is not fixed\n") work_11_2
unfolding digits
step_11_4 = record { tells = refl; leaves = refl }

step_11_5 : Legal work_11_2 (codes "drop activity 4") (codes "refused 6 no activity 4\n") work_11_2
unfolding digits
step_11_5 = record { tells = refl; leaves = refl }

step_11_6 : Legal work_11_2 (codes "tensions") (codes "tensions 2\n1 0 3\n2 -5 0\n") work_11_2
unfolding digits
step_11_6 = record { tells = refl; stays = refl }

step_11_7 : Legal work_11_2 (codes "add activity 6 3 1 0 0 3") (codes "ok\n") work_11_3
unfolding digits
step_11_7 = record { tells = refl; leaves = refl }

step_11_8 : Legal work_11_3 (codes "domain 9") (codes "refused 2 no event 9\n") work_11_3
unfolding digits
step_11_8 = record { tells = refl; stays = refl }

step_11_9 : Legal work_11_3 (codes "drop activity 6") (codes "ok\n") work_11_4
unfolding digits
step_11_9 = record { tells = refl; leaves = refl }

transcript_11 : IsTranscript work_11_0 (codes "add event 3" ∷ codes "span 5 -2 -2" ∷ codes "add event 3" ∷ codes "time 3 2" ∷ codes "unfix 4" ∷ codes "drop activity 4" ∷ codes "tensions" ∷ codes "add activity 6 3 1 0 0 3" ∷ codes "domain 9" ∷ codes "drop activity 6" ∷ []) (codes "ok\nrefused 6 no activity 5\nrefused 1 event 3 exists\nok\nrefused 9 event 4 is not fixed\nrefused 6 no activity 4\ntensions 2\n1 0 3\n2 -5 0\nok\nrefused 2 no event 9\nok\n")
unfolding digits
transcript_11 = (_, (_, _, _, step_11_0, (_, _, _, step_11_1, (_, _, _, step_11_2, (_, _, _, step_11_3, (_, _, _, step_11_4, (_, _, _, step_11_5, (_, _, _, step_11_6, (_, _, _, step_11_7, (_, _, _, step_11_8, (_, _, _, step_11_9, (refl, refl), refl), refl), refl), refl), refl), refl), refl), refl), refl), refl))

-- work 0 of stream 12
abbrev work_12_0 : Work
work_12_0 = record { instance = record { period = 10; events = record { id = 1; window = Some (record { first = 3; length = 3 }) } ∷ new_event 2 ∷ new_event 3 ∷ new_event 4 ∷ []; activities = arc 1 4 2 (pos 2) (pos 4) 0 ∷ arc 2 4 2 (negsuc 1) (negsuc 0) 3 ∷ arc 3 3 3 (negsuc 1) (pos 0) 0 ∷ arc 4 1 1 (pos 1) (pos 8) 2 ∷ arc 5 1 4 (pos 10) (pos 10) 0 ∷ arc 6 3 4 (negsuc 0) (pos 1) 2 ∷ [] }; times = record { period = 10; entries = (1, 5) ∷ (2, 5) ∷ (3, 5) ∷ (4, 4) ∷ [] } }

-- work 1 of stream 12
abbrev work_12_1 : Work
work_12_1 = record { instance = record { period = 10; events = record { id = 1; window = Some (record { first = 3; length = 7 }) } ∷ new_event 2 ∷ new_event 3 ∷ new_event 4 ∷ []; activities = arc 1 4 2 (pos 2) (pos 4) 0 ∷ arc 2 4 2 (negsuc 1) (negsuc 0) 3 ∷ arc 3 3 3 (negsuc 1) (pos 0) 0 ∷ arc 4 1 1 (pos 1) (pos 8) 2 ∷ arc 5 1 4 (pos 10) (pos 10) 0 ∷ arc 6 3 4 (negsuc 0) (pos 1) 2 ∷ [] }; times = record { period = 10; entries = (1, 5) ∷ (2, 5) ∷ (3, 5) ∷ (4, 4) ∷ [] } }

-- work 2 of stream 12
abbrev work_12_2 : Work
work_12_2 = record { instance = record { period = 10; events = record { id = 1; window = Some (record { first = 3; length = 7 }) } ∷ new_event 2 ∷ new_event 3 ∷ new_event 4 ∷ []; activities = arc 1 4 2 (pos 2) (pos 4) 0 ∷ arc 2 4 2 (negsuc 1) (negsuc 0) 3 ∷ arc 3 3 3 (negsuc 1) (pos 0) 0 ∷ arc 4 1 1 (pos 1) (pos 8) 2 ∷ arc 5 1 4 (pos 10) (pos 10) 0 ∷ arc 6 3 4 (negsuc 0) (pos 1) 2 ∷ [] }; times = record { period = 10; entries = (1, 6) ∷ (2, 5) ∷ (3, 5) ∷ (4, 4) ∷ [] } }

step_12_0 : Legal work_12_0 (codes "window 1 3 7") (codes "ok\n") work_12_1
unfolding digits
step_12_0 = record { tells = refl; leaves = refl }

step_12_1 : Legal work_12_1 (codes "add event 1") (codes "refused 1 event 1 exists\n") work_12_1
unfolding digits
step_12_1 = record { tells = refl; leaves = refl }

step_12_2 : Legal work_12_1 (codes "drop event 2") (codes "refused 3 event 2 is used by activity 1\n") work_12_1
unfolding digits
step_12_2 = record { tells = refl; leaves = refl }

step_12_3 : Legal work_12_1 (codes "add") (codes "fault unknown command\n") work_12_1
unfolding digits
step_12_3 = record { tells = refl; stays = refl }

step_12_4 : Legal work_12_1 (codes "time 4 65535") (codes "refused 4 time 65535 is out of range\n") work_12_1
unfolding digits
step_12_4 = record { tells = refl; leaves = refl }

step_12_5 : Legal work_12_1 (codes "add event 4") (codes "refused 1 event 4 exists\n") work_12_1
unfolding digits
step_12_5 = record { tells = refl; leaves = refl }

step_12_6 : Legal work_12_1 (codes "add event 3") (codes "refused 1 event 3 exists\n") work_12_1
unfolding digits
step_12_6 = record { tells = refl; leaves = refl }

step_12_7 : Legal work_12_1 (codes "time 1 6") (codes "ok\n") work_12_2
unfolding digits
step_12_7 = record { tells = refl; leaves = refl }

step_12_8 : Legal work_12_2 (codes "dump") (codes "# period 10 lines 11\nadd event 1\nadd event 2\nadd event 3\nadd event 4\nwindow 1 3 7\nadd activity 1 4 2 2 4 0\nadd activity 2 4 2 -2 -1 3\nadd activity 3 3 3 -2 0 0\nadd activity 4 1 1 1 8 2\nadd activity 5 1 4 10 10 0\nadd activity 6 3 4 -1 1 2\n") work_12_2
unfolding digits
step_12_8 = record { tells = refl; stays = refl }

step_12_9 : Legal work_12_2 (codes "add event 3") (codes "refused 1 event 3 exists\n") work_12_2
unfolding digits
step_12_9 = record { tells = refl; leaves = refl }

transcript_12 : IsTranscript work_12_0 (codes "window 1 3 7" ∷ codes "add event 1" ∷ codes "drop event 2" ∷ codes "add" ∷ codes "time 4 65535" ∷ codes "add event 4" ∷ codes "add event 3" ∷ codes "time 1 6" ∷ codes "dump" ∷ codes "add event 3" ∷ []) (codes "ok\nrefused 1 event 1 exists\nrefused 3 event 2 is used by activity 1\nfault unknown command\nrefused 4 time 65535 is out of range\nrefused 1 event 4 exists\nrefused 1 event 3 exists\nok\n# period 10 lines 11\nadd event 1\nadd event 2\nadd event 3\nadd event 4\nwindow 1 3 7\nadd activity 1 4 2 2 4 0\nadd activity 2 4 2 -2 -1 3\nadd activity 3 3 3 -2 0 0\nadd activity 4 1 1 1 8 2\nadd activity 5 1 4 10 10 0\nadd activity 6 3 4 -1 1 2\nrefused 1 event 3 exists\n")
unfolding digits
transcript_12 = (_, (_, _, _, step_12_0, (_, _, _, step_12_1, (_, _, _, step_12_2, (_, _, _, step_12_3, (_, _, _, step_12_4, (_, _, _, step_12_5, (_, _, _, step_12_6, (_, _, _, step_12_7, (_, _, _, step_12_8, (_, _, _, step_12_9, (refl, refl), refl), refl), refl), refl), refl), refl), refl), refl), refl), refl))

-- work 0 of stream 13
abbrev work_13_0 : Work
work_13_0 = record { instance = record { period = 6; events = record { id = 1; window = Some (record { first = 0; length = 6 }) } ∷ new_event 4 ∷ record { id = 7; window = Some (record { first = 5; length = 5 }) } ∷ record { id = 9; window = Some (record { first = 4; length = 6 }) } ∷ []; activities = arc 1 9 7 (pos 2) (pos 8) 1 ∷ arc 2 1 1 (negsuc 5) (negsuc 3) 1 ∷ arc 3 4 9 (negsuc 5) (negsuc 4) 2 ∷ [] }; times = record { period = 6; entries = (1, 0) ∷ (4, 3) ∷ (7, 1) ∷ (9, 2) ∷ [] } }

-- work 1 of stream 13
abbrev work_13_1 : Work
work_13_1 = record { instance = record { period = 6; events = record { id = 1; window = Some (record { first = 0; length = 6 }) } ∷ new_event 4 ∷ record { id = 7; window = Some (record { first = 5; length = 5 }) } ∷ record { id = 9; window = Some (record { first = 4; length = 6 }) } ∷ []; activities = arc 1 9 7 (pos 2) (pos 8) 1 ∷ arc 2 1 1 (negsuc 5) (negsuc 3) 1 ∷ arc 3 4 9 (negsuc 5) (negsuc 4) 1000000000 ∷ [] }; times = record { period = 6; entries = (1, 0) ∷ (4, 3) ∷ (7, 1) ∷ (9, 2) ∷ [] } }

-- work 2 of stream 13
abbrev work_13_2 : Work
work_13_2 = record { instance = record { period = 6; events = record { id = 1; window = Some (record { first = 0; length = 6 }) } ∷ new_event 4 ∷ record { id = 7; window = Some (record { first = 5; length = 5 }) } ∷ record { id = 9; window = Some (record { first = 4; length = 6 }) } ∷ []; activities = arc 1 9 7 (pos 2) (pos 8) 1 ∷ arc 2 1 1 (negsuc 5) (negsuc 3) 1 ∷ arc 3 4 9 (negsuc 5) (negsuc 4) 1000000000 ∷ [] }; times = record { period = 6; entries = (1, 0) ∷ (7, 1) ∷ (9, 2) ∷ [] } }

-- work 3 of stream 13
abbrev work_13_3 : Work
work_13_3 = record { instance = record { period = 6; events = record { id = 1; window = Some (record { first = 0; length = 6 }) } ∷ new_event 4 ∷ record { id = 7; window = Some (record { first = 5; length = 5 }) } ∷ record { id = 9; window = Some (record { first = 4; length = 6 }) } ∷ []; activities = arc 1 9 7 (pos 2) (pos 8) 1 ∷ arc 2 1 1 (negsuc 5) (negsuc 3) 1 ∷ arc 3 4 9 (negsuc 5) (negsuc 4) 1000000000 ∷ [] }; times = record { period = 6; entries = (1, 4) ∷ (7, 1) ∷ (9, 2) ∷ [] } }

step_13_0 : Legal work_13_0 (codes "add activity 1 1 2 -2 0 10") (codes "refused 5 activity 1 exists\n") work_13_0
unfolding digits
step_13_0 = record { tells = refl; leaves = refl }

step_13_1 : Legal work_13_0 (codes "window 1 5 0") (codes "refused 13 length 0 is out of range\n") work_13_0
unfolding digits
step_13_1 = record { tells = refl; leaves = refl }

step_13_2 : Legal work_13_0 (codes "weight 3 1000000000") (codes "ok\n") work_13_1
unfolding digits
step_13_2 = record { tells = refl; leaves = refl }

step_13_3 : Legal work_13_1 (codes "unfix 3") (codes "refused 2 no event 3\n") work_13_1
unfolding digits
step_13_3 = record { tells = refl; leaves = refl }

step_13_4 : Legal work_13_1 [] [] work_13_1
unfolding digits
step_13_4 = record { tells = refl; stays = refl }

step_13_5 : Legal work_13_1 (codes "violations") (codes "violations 1\nactivity 3\n") work_13_1
unfolding digits
step_13_5 = record { tells = refl; stays = refl }

step_13_6 : Legal work_13_1 (codes "time 3 4") (codes "refused 2 no event 3\n") work_13_1
unfolding digits
step_13_6 = record { tells = refl; leaves = refl }

step_13_7 : Legal work_13_1 (codes "untime 4") (codes "ok\n") work_13_2
unfolding digits
step_13_7 = record { tells = refl; leaves = refl }

step_13_8 : Legal work_13_2 (codes "add event 4") (codes "refused 1 event 4 exists\n") work_13_2
unfolding digits
step_13_8 = record { tells = refl; leaves = refl }

step_13_9 : Legal work_13_2 (codes "time 1 4") (codes "ok\n") work_13_3
unfolding digits
step_13_9 = record { tells = refl; leaves = refl }

transcript_13 : IsTranscript work_13_0 (codes "add activity 1 1 2 -2 0 10" ∷ codes "window 1 5 0" ∷ codes "weight 3 1000000000" ∷ codes "unfix 3" ∷ [] ∷ codes "violations" ∷ codes "time 3 4" ∷ codes "untime 4" ∷ codes "add event 4" ∷ codes "time 1 4" ∷ []) (codes "refused 5 activity 1 exists\nrefused 13 length 0 is out of range\nok\nrefused 2 no event 3\nviolations 1\nactivity 3\nrefused 2 no event 3\nok\nrefused 1 event 4 exists\nok\n")
unfolding digits
transcript_13 = (_, (_, _, _, step_13_0, (_, _, _, step_13_1, (_, _, _, step_13_2, (_, _, _, step_13_3, (_, _, _, step_13_4, (_, _, _, step_13_5, (_, _, _, step_13_6, (_, _, _, step_13_7, (_, _, _, step_13_8, (_, _, _, step_13_9, (refl, refl), refl), refl), refl), refl), refl), refl), refl), refl), refl), refl))

-- work 0 of stream 14
abbrev work_14_0 : Work
work_14_0 = record { instance = record { period = 2; events = new_event 4 ∷ new_event 5 ∷ new_event 9 ∷ []; activities = arc 1 4 5 (pos 0) (pos 3) 1 ∷ arc 2 9 4 (negsuc 1) (pos 1) 4 ∷ arc 3 9 4 (pos 3) (pos 5) 0 ∷ arc 4 4 4 (pos 3) (pos 5) 3 ∷ [] }; times = record { period = 2; entries = (4, 1) ∷ (5, 0) ∷ (9, 0) ∷ [] } }

-- work 1 of stream 14
abbrev work_14_1 : Work
work_14_1 = record { instance = record { period = 2; events = new_event 4 ∷ new_event 5 ∷ new_event 9 ∷ []; activities = arc 1 4 5 (pos 0) (pos 3) 1 ∷ arc 2 9 4 (negsuc 1) (pos 1) 4 ∷ arc 3 9 4 (pos 3) (pos 5) 0 ∷ arc 4 4 4 (pos 1) (pos 1) 3 ∷ [] }; times = record { period = 2; entries = (4, 1) ∷ (5, 0) ∷ (9, 0) ∷ [] } }

-- work 2 of stream 14
abbrev work_14_2 : Work
work_14_2 = record { instance = record { period = 2; events = new_event 4 ∷ new_event 5 ∷ new_event 9 ∷ []; activities = arc 1 4 5 (pos 0) (pos 3) 1 ∷ arc 2 9 4 (negsuc 1) (pos 1) 4 ∷ arc 3 9 4 (pos 3) (pos 5) 0 ∷ arc 4 4 4 (pos 1) (pos 1) 3 ∷ [] }; times = record { period = 2; entries = (5, 0) ∷ (9, 0) ∷ [] } }

-- work 3 of stream 14
abbrev work_14_3 : Work
work_14_3 = record { instance = record { period = 2; events = new_event 1 ∷ new_event 4 ∷ new_event 5 ∷ new_event 9 ∷ []; activities = arc 1 4 5 (pos 0) (pos 3) 1 ∷ arc 2 9 4 (negsuc 1) (pos 1) 4 ∷ arc 3 9 4 (pos 3) (pos 5) 0 ∷ arc 4 4 4 (pos 1) (pos 1) 3 ∷ [] }; times = record { period = 2; entries = (5, 0) ∷ (9, 0) ∷ [] } }

step_14_0 : Legal work_14_0 (codes "add event") (codes "fault wrong number of words\n") work_14_0
unfolding digits
step_14_0 = record { tells = refl; stays = refl }

step_14_1 : Legal work_14_0 (codes "optimum") (codes "optimum 3 3\n4 0\n5 0\n9 0\n") work_14_0
unfolding digits
step_14_1 = (Optimal 3 (timetable_of work_14_0.instance (0 ∷ 0 ∷ 0 ∷ [])), optimum_is work_14_0.instance (0 ∷ 0 ∷ 0 ∷ []) 3 refl refl, record { tells = refl; stays = refl })

step_14_2 : Legal work_14_0 (codes "span 4 1 1") (codes "ok\n") work_14_1
unfolding digits
step_14_2 = record { tells = refl; leaves = refl }

step_14_3 : Legal work_14_1 (codes "optimum") (codes "infeasible\n") work_14_1
unfolding digits
step_14_3 = (Infeasible, infeasible_is work_14_1.instance refl, record { tells = refl; stays = refl })

step_14_4 : Legal work_14_1 (codes "violations") (codes "violations 1\nactivity 4\n") work_14_1
unfolding digits
step_14_4 = record { tells = refl; stays = refl }

step_14_5 : Legal work_14_1 (codes "drop event 3") (codes "refused 2 no event 3\n") work_14_1
unfolding digits
step_14_5 = record { tells = refl; leaves = refl }

step_14_6 : Legal work_14_1 (codes "untime 4") (codes "ok\n") work_14_2
unfolding digits
step_14_6 = record { tells = refl; leaves = refl }

step_14_7 : Legal work_14_2 (codes "span 5 0 2") (codes "refused 6 no activity 5\n") work_14_2
unfolding digits
step_14_7 = record { tells = refl; leaves = refl }

step_14_8 : Legal work_14_2 (codes "add event 1") (codes "ok\n") work_14_3
unfolding digits
step_14_8 = record { tells = refl; leaves = refl }

step_14_9 : Legal work_14_3 (codes "span 5 2 4") (codes "refused 6 no activity 5\n") work_14_3
unfolding digits
step_14_9 = record { tells = refl; leaves = refl }

transcript_14 : IsTranscript work_14_0 (codes "add event" ∷ codes "optimum" ∷ codes "span 4 1 1" ∷ codes "optimum" ∷ codes "violations" ∷ codes "drop event 3" ∷ codes "untime 4" ∷ codes "span 5 0 2" ∷ codes "add event 1" ∷ codes "span 5 2 4" ∷ []) (codes "fault wrong number of words\noptimum 3 3\n4 0\n5 0\n9 0\nok\ninfeasible\nviolations 1\nactivity 4\nrefused 2 no event 3\nok\nrefused 6 no activity 5\nok\nrefused 6 no activity 5\n")
unfolding digits
transcript_14 = (_, (_, _, _, step_14_0, (_, _, _, step_14_1, (_, _, _, step_14_2, (_, _, _, step_14_3, (_, _, _, step_14_4, (_, _, _, step_14_5, (_, _, _, step_14_6, (_, _, _, step_14_7, (_, _, _, step_14_8, (_, _, _, step_14_9, (refl, refl), refl), refl), refl), refl), refl), refl), refl), refl), refl), refl))

-- work 0 of stream 15
abbrev work_15_0 : Work
work_15_0 = record { instance = record { period = 12; events = new_event 7 ∷ new_event 8 ∷ []; activities = arc 1 7 8 (negsuc 5) (negsuc 2) 1 ∷ arc 2 7 8 (pos 18) (pos 31) 2 ∷ arc 3 7 8 (pos 12) (pos 19) 1 ∷ arc 4 8 7 (pos 14) (pos 17) 2 ∷ [] }; times = record { period = 12; entries = (7, 11) ∷ (8, 2) ∷ [] } }

-- work 1 of stream 15
abbrev work_15_1 : Work
work_15_1 = record { instance = record { period = 12; events = new_event 7 ∷ new_event 8 ∷ []; activities = arc 1 7 8 (negsuc 5) (negsuc 2) 1 ∷ arc 2 7 8 (pos 18) (pos 31) 2 ∷ arc 3 7 8 (pos 12) (pos 19) 1 ∷ [] }; times = record { period = 12; entries = (7, 11) ∷ (8, 2) ∷ [] } }

step_15_0 : Legal work_15_0 (codes "dump") (codes "# period 12 lines 6\nadd event 7\nadd event 8\nadd activity 1 7 8 -6 -3 1\nadd activity 2 7 8 18 31 2\nadd activity 3 7 8 12 19 1\nadd activity 4 8 7 14 17 2\n") work_15_0
unfolding digits
step_15_0 = record { tells = refl; stays = refl }

step_15_1 : Legal work_15_0 (codes "window 4 2 1") (codes "refused 2 no event 4\n") work_15_0
unfolding digits
step_15_1 = record { tells = refl; leaves = refl }

step_15_2 : Legal work_15_0 (codes "unfix 1") (codes "refused 2 no event 1\n") work_15_0
unfolding digits
step_15_2 = record { tells = refl; leaves = refl }

step_15_3 : Legal work_15_0 (codes "window 2 7 11") (codes "refused 2 no event 2\n") work_15_0
unfolding digits
step_15_3 = record { tells = refl; leaves = refl }

step_15_4 : Legal work_15_0 (codes "optimum") (codes "optimum 16 2\n7 0\n8 7\n") work_15_0
unfolding digits
step_15_4 = (Optimal 16 (timetable_of work_15_0.instance (0 ∷ 7 ∷ [])), optimum_is work_15_0.instance (0 ∷ 7 ∷ []) 16 refl refl, record { tells = refl; stays = refl })

step_15_5 : Legal work_15_0 (codes "dump") (codes "# period 12 lines 6\nadd event 7\nadd event 8\nadd activity 1 7 8 -6 -3 1\nadd activity 2 7 8 18 31 2\nadd activity 3 7 8 12 19 1\nadd activity 4 8 7 14 17 2\n") work_15_0
unfolding digits
step_15_5 = record { tells = refl; stays = refl }

step_15_6 : Legal work_15_0 (codes "drop event 2") (codes "refused 2 no event 2\n") work_15_0
unfolding digits
step_15_6 = record { tells = refl; leaves = refl }

step_15_7 : Legal work_15_0 (codes "drop activity 4") (codes "ok\n") work_15_1
unfolding digits
step_15_7 = record { tells = refl; leaves = refl }

step_15_8 : Legal work_15_1 (codes "add activity 2 2 1 -11 1 10") (codes "refused 5 activity 2 exists\n") work_15_1
unfolding digits
step_15_8 = record { tells = refl; leaves = refl }

step_15_9 : Legal work_15_1 (codes "domain 4") (codes "refused 2 no event 4\n") work_15_1
unfolding digits
step_15_9 = record { tells = refl; stays = refl }

transcript_15 : IsTranscript work_15_0 (codes "dump" ∷ codes "window 4 2 1" ∷ codes "unfix 1" ∷ codes "window 2 7 11" ∷ codes "optimum" ∷ codes "dump" ∷ codes "drop event 2" ∷ codes "drop activity 4" ∷ codes "add activity 2 2 1 -11 1 10" ∷ codes "domain 4" ∷ []) (codes "# period 12 lines 6\nadd event 7\nadd event 8\nadd activity 1 7 8 -6 -3 1\nadd activity 2 7 8 18 31 2\nadd activity 3 7 8 12 19 1\nadd activity 4 8 7 14 17 2\nrefused 2 no event 4\nrefused 2 no event 1\nrefused 2 no event 2\noptimum 16 2\n7 0\n8 7\n# period 12 lines 6\nadd event 7\nadd event 8\nadd activity 1 7 8 -6 -3 1\nadd activity 2 7 8 18 31 2\nadd activity 3 7 8 12 19 1\nadd activity 4 8 7 14 17 2\nrefused 2 no event 2\nok\nrefused 5 activity 2 exists\nrefused 2 no event 4\n")
unfolding digits
transcript_15 = (_, (_, _, _, step_15_0, (_, _, _, step_15_1, (_, _, _, step_15_2, (_, _, _, step_15_3, (_, _, _, step_15_4, (_, _, _, step_15_5, (_, _, _, step_15_6, (_, _, _, step_15_7, (_, _, _, step_15_8, (_, _, _, step_15_9, (refl, refl), refl), refl), refl), refl), refl), refl), refl), refl), refl), refl))

-- work 0 of stream 16
abbrev work_16_0 : Work
work_16_0 = record { instance = record { period = 5; events = new_event 2 ∷ record { id = 3; window = Some (record { first = 2; length = 2 }) } ∷ new_event 6 ∷ new_event 7 ∷ []; activities = arc 1 6 2 (pos 4) (pos 6) 3 ∷ arc 2 3 7 (negsuc 1) (pos 4) 1 ∷ [] }; times = record { period = 5; entries = (2, 0) ∷ (3, 3) ∷ (6, 2) ∷ (7, 2) ∷ [] } }

-- work 1 of stream 16
abbrev work_16_1 : Work
work_16_1 = record { instance = record { period = 5; events = new_event 2 ∷ record { id = 3; window = Some (record { first = 2; length = 2 }) } ∷ new_event 6 ∷ new_event 7 ∷ []; activities = arc 1 6 2 (pos 4) (pos 6) 3 ∷ arc 2 3 7 (negsuc 1) (pos 4) 1 ∷ arc 999999999 3 3 (pos 5) (pos 7) 3 ∷ [] }; times = record { period = 5; entries = (2, 0) ∷ (3, 3) ∷ (6, 2) ∷ (7, 2) ∷ [] } }

step_16_0 : Legal work_16_0 (codes "weight 4 10") (codes "refused 6 no activity 4\n") work_16_0
unfolding digits
step_16_0 = record { tells = refl; leaves = refl }

step_16_1 : Legal work_16_0 (codes "add activity 1 2 999999999 3 4 3") (codes "refused 5 activity 1 exists\n") work_16_0
unfolding digits
step_16_1 = record { tells = refl; leaves = refl }

step_16_2 : Legal work_16_0 (codes "add activity 999999999 3 3 5 7 3") (codes "ok\n") work_16_1
unfolding digits
step_16_2 = record { tells = refl; leaves = refl }

step_16_3 : Legal work_16_1 (codes "add activity 3 3 3 0 0 3x") (codes "fault word 8 is not a number\n") work_16_1
unfolding digits
step_16_3 = record { tells = refl; stays = refl }

step_16_4 : Legal work_16_1 (codes "time 4 6") (codes "refused 2 no event 4\n") work_16_1
unfolding digits
step_16_4 = record { tells = refl; leaves = refl }

step_16_5 : Legal work_16_1 (codes "tensions") (codes "tensions 3\n1 8 4\n2 -1 1\n999999999 5 0\n") work_16_1
unfolding digits
step_16_5 = record { tells = refl; stays = refl }

step_16_6 : Legal work_16_1 (codes "dump") (codes "# period 5 lines 8\nadd event 2\nadd event 3\nadd event 6\nadd event 7\nwindow 3 2 2\nadd activity 1 6 2 4 6 3\nadd activity 2 3 7 -2 4 1\nadd activity 999999999 3 3 5 7 3\n") work_16_1
unfolding digits
step_16_6 = record { tells = refl; stays = refl }

step_16_7 : Legal work_16_1 (codes "add event 2") (codes "refused 1 event 2 exists\n") work_16_1
unfolding digits
step_16_7 = record { tells = refl; leaves = refl }

step_16_8 : Legal work_16_1 (codes "span 4 -4 -3") (codes "refused 6 no activity 4\n") work_16_1
unfolding digits
step_16_8 = record { tells = refl; leaves = refl }

step_16_9 : Legal work_16_1 (codes "cost") (codes "cost 13\n") work_16_1
unfolding digits
step_16_9 = record { tells = refl; stays = refl }

transcript_16 : IsTranscript work_16_0 (codes "weight 4 10" ∷ codes "add activity 1 2 999999999 3 4 3" ∷ codes "add activity 999999999 3 3 5 7 3" ∷ codes "add activity 3 3 3 0 0 3x" ∷ codes "time 4 6" ∷ codes "tensions" ∷ codes "dump" ∷ codes "add event 2" ∷ codes "span 4 -4 -3" ∷ codes "cost" ∷ []) (codes "refused 6 no activity 4\nrefused 5 activity 1 exists\nok\nfault word 8 is not a number\nrefused 2 no event 4\ntensions 3\n1 8 4\n2 -1 1\n999999999 5 0\n# period 5 lines 8\nadd event 2\nadd event 3\nadd event 6\nadd event 7\nwindow 3 2 2\nadd activity 1 6 2 4 6 3\nadd activity 2 3 7 -2 4 1\nadd activity 999999999 3 3 5 7 3\nrefused 1 event 2 exists\nrefused 6 no activity 4\ncost 13\n")
unfolding digits
transcript_16 = (_, (_, _, _, step_16_0, (_, _, _, step_16_1, (_, _, _, step_16_2, (_, _, _, step_16_3, (_, _, _, step_16_4, (_, _, _, step_16_5, (_, _, _, step_16_6, (_, _, _, step_16_7, (_, _, _, step_16_8, (_, _, _, step_16_9, (refl, refl), refl), refl), refl), refl), refl), refl), refl), refl), refl), refl))

-- work 0 of stream 17
abbrev work_17_0 : Work
work_17_0 = record { instance = record { period = 9; events = record { id = 3; window = Some (record { first = 3; length = 9 }) } ∷ record { id = 5; window = Some (record { first = 8; length = 7 }) } ∷ []; activities = arc 1 5 5 (pos 9) (pos 11) 4 ∷ arc 2 3 5 (negsuc 2) (pos 6) 4 ∷ arc 3 3 5 (pos 12) (pos 17) 2 ∷ arc 4 3 5 (pos 5) (pos 15) 1 ∷ [] }; times = record { period = 9; entries = (3, 4) ∷ (5, 1) ∷ [] } }

-- work 1 of stream 17
abbrev work_17_1 : Work
work_17_1 = record { instance = record { period = 9; events = record { id = 3; window = Some (record { first = 3; length = 9 }) } ∷ record { id = 5; window = Some (record { first = 8; length = 7 }) } ∷ []; activities = arc 1 5 5 (pos 9) (pos 11) 4 ∷ arc 2 3 5 (negsuc 2) (pos 6) 4 ∷ arc 3 3 5 (pos 6) (pos 6) 2 ∷ arc 4 3 5 (pos 5) (pos 15) 1 ∷ [] }; times = record { period = 9; entries = (3, 4) ∷ (5, 1) ∷ [] } }

-- work 2 of stream 17
abbrev work_17_2 : Work
work_17_2 = record { instance = record { period = 9; events = record { id = 3; window = Some (record { first = 3; length = 9 }) } ∷ record { id = 5; window = Some (record { first = 8; length = 7 }) } ∷ []; activities = arc 1 5 5 (pos 9) (pos 11) 4 ∷ arc 2 3 5 (negsuc 2) (pos 6) 4 ∷ arc 3 3 5 (pos 6) (pos 6) 2 ∷ arc 4 3 5 (pos 5) (pos 15) 1 ∷ [] }; times = record { period = 9; entries = (5, 1) ∷ [] } }

-- work 3 of stream 17
abbrev work_17_3 : Work
work_17_3 = record { instance = record { period = 9; events = record { id = 3; window = Some (record { first = 1; length = 5 }) } ∷ record { id = 5; window = Some (record { first = 8; length = 7 }) } ∷ []; activities = arc 1 5 5 (pos 9) (pos 11) 4 ∷ arc 2 3 5 (negsuc 2) (pos 6) 4 ∷ arc 3 3 5 (pos 6) (pos 6) 2 ∷ arc 4 3 5 (pos 5) (pos 15) 1 ∷ [] }; times = record { period = 9; entries = (5, 1) ∷ [] } }

-- work 4 of stream 17
abbrev work_17_4 : Work
work_17_4 = record { instance = record { period = 9; events = record { id = 3; window = Some (record { first = 1; length = 5 }) } ∷ record { id = 5; window = Some (record { first = 8; length = 7 }) } ∷ []; activities = arc 1 5 5 (pos 9) (pos 11) 4 ∷ arc 3 3 5 (pos 6) (pos 6) 2 ∷ arc 4 3 5 (pos 5) (pos 15) 1 ∷ [] }; times = record { period = 9; entries = (5, 1) ∷ [] } }

-- work 5 of stream 17
abbrev work_17_5 : Work
work_17_5 = record { instance = record { period = 9; events = new_event 2 ∷ record { id = 3; window = Some (record { first = 1; length = 5 }) } ∷ record { id = 5; window = Some (record { first = 8; length = 7 }) } ∷ []; activities = arc 1 5 5 (pos 9) (pos 11) 4 ∷ arc 3 3 5 (pos 6) (pos 6) 2 ∷ arc 4 3 5 (pos 5) (pos 15) 1 ∷ [] }; times = record { period = 9; entries = (5, 1) ∷ [] } }

step_17_0 : Legal work_17_0 (codes "time 999999999 7") (codes "refused 2 no event 999999999\n") work_17_0
unfolding digits
step_17_0 = record { tells = refl; leaves = refl }

step_17_1 : Legal work_17_0 (codes "unfix 2") (codes "refused 2 no event 2\n") work_17_0
unfolding digits
step_17_1 = record { tells = refl; leaves = refl }

step_17_2 : Legal work_17_0 [] [] work_17_0
unfolding digits
step_17_2 = record { tells = refl; stays = refl }

step_17_3 : Legal work_17_0 (codes "span 3 6 6") (codes "ok\n") work_17_1
unfolding digits
step_17_3 = record { tells = refl; leaves = refl }

step_17_4 : Legal work_17_1 (codes "untime 3") (codes "ok\n") work_17_2
unfolding digits
step_17_4 = record { tells = refl; leaves = refl }

step_17_5 : Legal work_17_2 (codes "window 4 7 2") (codes "refused 2 no event 4\n") work_17_2
unfolding digits
step_17_5 = record { tells = refl; leaves = refl }

step_17_6 : Legal work_17_2 (codes "window 3 1 5") (codes "ok\n") work_17_3
unfolding digits
step_17_6 = record { tells = refl; leaves = refl }

step_17_7 : Legal work_17_3 (codes "drop activity 2") (codes "ok\n") work_17_4
unfolding digits
step_17_7 = record { tells = refl; leaves = refl }

step_17_8 : Legal work_17_4 (codes "tensions") (codes "refused 11 event 3 has no time\n") work_17_4
unfolding digits
step_17_8 = record { tells = refl; stays = refl }

step_17_9 : Legal work_17_4 (codes "add event 2") (codes "ok\n") work_17_5
unfolding digits
step_17_9 = record { tells = refl; leaves = refl }

transcript_17 : IsTranscript work_17_0 (codes "time 999999999 7" ∷ codes "unfix 2" ∷ [] ∷ codes "span 3 6 6" ∷ codes "untime 3" ∷ codes "window 4 7 2" ∷ codes "window 3 1 5" ∷ codes "drop activity 2" ∷ codes "tensions" ∷ codes "add event 2" ∷ []) (codes "refused 2 no event 999999999\nrefused 2 no event 2\nok\nok\nrefused 2 no event 4\nok\nok\nrefused 11 event 3 has no time\nok\n")
unfolding digits
transcript_17 = (_, (_, _, _, step_17_0, (_, _, _, step_17_1, (_, _, _, step_17_2, (_, _, _, step_17_3, (_, _, _, step_17_4, (_, _, _, step_17_5, (_, _, _, step_17_6, (_, _, _, step_17_7, (_, _, _, step_17_8, (_, _, _, step_17_9, (refl, refl), refl), refl), refl), refl), refl), refl), refl), refl), refl), refl))

-- work 0 of stream 18
abbrev work_18_0 : Work
work_18_0 = record { instance = record { period = 11; events = new_event 5 ∷ new_event 8 ∷ []; activities = arc 1 5 8 (pos 27) (pos 28) 4 ∷ arc 2 5 8 (pos 17) (pos 28) 2 ∷ [] }; times = record { period = 11; entries = (5, 10) ∷ (8, 8) ∷ [] } }

-- work 1 of stream 18
abbrev work_18_1 : Work
work_18_1 = record { instance = record { period = 11; events = new_event 4 ∷ new_event 5 ∷ new_event 8 ∷ []; activities = arc 1 5 8 (pos 27) (pos 28) 4 ∷ arc 2 5 8 (pos 17) (pos 28) 2 ∷ [] }; times = record { period = 11; entries = (5, 10) ∷ (8, 8) ∷ [] } }

-- work 2 of stream 18
abbrev work_18_2 : Work
work_18_2 = record { instance = record { period = 11; events = new_event 4 ∷ new_event 5 ∷ new_event 8 ∷ []; activities = arc 1 5 8 (pos 27) (pos 28) 1000000000 ∷ arc 2 5 8 (pos 17) (pos 28) 2 ∷ [] }; times = record { period = 11; entries = (5, 10) ∷ (8, 8) ∷ [] } }

-- work 3 of stream 18
abbrev work_18_3 : Work
work_18_3 = record { instance = record { period = 11; events = new_event 3 ∷ new_event 4 ∷ new_event 5 ∷ new_event 8 ∷ []; activities = arc 1 5 8 (pos 27) (pos 28) 1000000000 ∷ arc 2 5 8 (pos 17) (pos 28) 2 ∷ [] }; times = record { period = 11; entries = (5, 10) ∷ (8, 8) ∷ [] } }

-- work 4 of stream 18
abbrev work_18_4 : Work
work_18_4 = record { instance = record { period = 11; events = new_event 3 ∷ new_event 4 ∷ new_event 5 ∷ new_event 8 ∷ []; activities = arc 1 5 8 (pos 27) (pos 28) 1000000000 ∷ arc 2 5 8 (pos 8) (pos 10) 2 ∷ [] }; times = record { period = 11; entries = (5, 10) ∷ (8, 8) ∷ [] } }

-- work 5 of stream 18
abbrev work_18_5 : Work
work_18_5 = record { instance = record { period = 11; events = new_event 3 ∷ new_event 4 ∷ new_event 5 ∷ new_event 8 ∷ []; activities = arc 1 5 8 (pos 27) (pos 28) 1000000000 ∷ arc 2 5 8 (pos 8) (pos 10) 2 ∷ [] }; times = record { period = 11; entries = (3, 4) ∷ (5, 10) ∷ (8, 8) ∷ [] } }

step_18_0 : Legal work_18_0 (codes "optimum") (codes "optimum 4 2\n5 0\n8 6\n") work_18_0
unfolding digits
step_18_0 = (Optimal 4 (timetable_of work_18_0.instance (0 ∷ 6 ∷ [])), optimum_is work_18_0.instance (0 ∷ 6 ∷ []) 4 refl refl, record { tells = refl; stays = refl })

step_18_1 : Legal work_18_0 (codes "add activity 5 4 2 0 1 1") (codes "refused 2 no event 4\n") work_18_0
unfolding digits
step_18_1 = record { tells = refl; leaves = refl }

step_18_2 : Legal work_18_0 (codes "add event 4") (codes "ok\n") work_18_1
unfolding digits
step_18_2 = record { tells = refl; leaves = refl }

step_18_3 : Legal work_18_1 (codes "dump") (codes "# period 11 lines 5\nadd event 4\nadd event 5\nadd event 8\nadd activity 1 5 8 27 28 4\nadd activity 2 5 8 17 28 2\n") work_18_1
unfolding digits
step_18_3 = record { tells = refl; stays = refl }

step_18_4 : Legal work_18_1 (codes "add activity 1 3 3 -11 -9 3") (codes "refused 5 activity 1 exists\n") work_18_1
unfolding digits
step_18_4 = record { tells = refl; leaves = refl }

step_18_5 : Legal work_18_1 (codes "weight 1 1000000000") (codes "ok\n") work_18_2
unfolding digits
step_18_5 = record { tells = refl; leaves = refl }

step_18_6 : Legal work_18_2 (codes "add event 3") (codes "ok\n") work_18_3
unfolding digits
step_18_6 = record { tells = refl; leaves = refl }

step_18_7 : Legal work_18_3 (codes "span 2 8 10") (codes "ok\n") work_18_4
unfolding digits
step_18_7 = record { tells = refl; leaves = refl }

step_18_8 : Legal work_18_4 (codes "# a") [] work_18_4
unfolding digits
step_18_8 = record { tells = refl; stays = refl }

step_18_9 : Legal work_18_4 (codes "time 3 4") (codes "ok\n") work_18_5
unfolding digits
step_18_9 = record { tells = refl; leaves = refl }

transcript_18 : IsTranscript work_18_0 (codes "optimum" ∷ codes "add activity 5 4 2 0 1 1" ∷ codes "add event 4" ∷ codes "dump" ∷ codes "add activity 1 3 3 -11 -9 3" ∷ codes "weight 1 1000000000" ∷ codes "add event 3" ∷ codes "span 2 8 10" ∷ codes "# a" ∷ codes "time 3 4" ∷ []) (codes "optimum 4 2\n5 0\n8 6\nrefused 2 no event 4\nok\n# period 11 lines 5\nadd event 4\nadd event 5\nadd event 8\nadd activity 1 5 8 27 28 4\nadd activity 2 5 8 17 28 2\nrefused 5 activity 1 exists\nok\nok\nok\nok\n")
unfolding digits
transcript_18 = (_, (_, _, _, step_18_0, (_, _, _, step_18_1, (_, _, _, step_18_2, (_, _, _, step_18_3, (_, _, _, step_18_4, (_, _, _, step_18_5, (_, _, _, step_18_6, (_, _, _, step_18_7, (_, _, _, step_18_8, (_, _, _, step_18_9, (refl, refl), refl), refl), refl), refl), refl), refl), refl), refl), refl), refl))

-- work 0 of stream 19
abbrev work_19_0 : Work
work_19_0 = record { instance = record { period = 2; events = new_event 3 ∷ record { id = 5; window = Some (record { first = 1; length = 2 }) } ∷ new_event 6 ∷ []; activities = arc 1 6 5 (negsuc 0) (pos 1) 0 ∷ arc 2 3 5 (negsuc 3) (pos 0) 2 ∷ arc 3 5 6 (negsuc 2) (negsuc 0) 4 ∷ arc 4 6 5 (pos 1) (pos 4) 4 ∷ arc 5 3 5 (negsuc 0) (pos 2) 0 ∷ [] }; times = record { period = 2; entries = (3, 0) ∷ (5, 0) ∷ (6, 0) ∷ [] } }

-- work 1 of stream 19
abbrev work_19_1 : Work
work_19_1 = record { instance = record { period = 2; events = new_event 3 ∷ record { id = 5; window = Some (record { first = 1; length = 2 }) } ∷ new_event 6 ∷ []; activities = arc 1 6 5 (negsuc 0) (pos 1) 0 ∷ arc 2 3 5 (negsuc 3) (pos 0) 2 ∷ arc 3 5 6 (negsuc 2) (negsuc 0) 4 ∷ arc 4 6 5 (pos 1) (pos 4) 4 ∷ arc 5 3 5 (negsuc 0) (pos 2) 0 ∷ [] }; times = record { period = 2; entries = (3, 0) ∷ (5, 0) ∷ (6, 1) ∷ [] } }

-- work 2 of stream 19
abbrev work_19_2 : Work
work_19_2 = record { instance = record { period = 2; events = new_event 1 ∷ new_event 3 ∷ record { id = 5; window = Some (record { first = 1; length = 2 }) } ∷ new_event 6 ∷ []; activities = arc 1 6 5 (negsuc 0) (pos 1) 0 ∷ arc 2 3 5 (negsuc 3) (pos 0) 2 ∷ arc 3 5 6 (negsuc 2) (negsuc 0) 4 ∷ arc 4 6 5 (pos 1) (pos 4) 4 ∷ arc 5 3 5 (negsuc 0) (pos 2) 0 ∷ [] }; times = record { period = 2; entries = (3, 0) ∷ (5, 0) ∷ (6, 1) ∷ [] } }

step_19_0 : Legal work_19_0 (codes "optimum") (codes "optimum 0 3\n3 0\n5 0\n6 1\n") work_19_0
unfolding digits
step_19_0 = (Optimal 0 (timetable_of work_19_0.instance (0 ∷ 0 ∷ 1 ∷ [])), optimum_is work_19_0.instance (0 ∷ 0 ∷ 1 ∷ []) 0 refl refl, record { tells = refl; stays = refl })

step_19_1 : Legal work_19_0 (codes "add") (codes "fault unknown command\n") work_19_0
unfolding digits
step_19_1 = record { tells = refl; stays = refl }

step_19_2 : Legal work_19_0 (codes "optimum") (codes "optimum 0 3\n3 0\n5 0\n6 1\n") work_19_0
unfolding digits
step_19_2 = (Optimal 0 (timetable_of work_19_0.instance (0 ∷ 0 ∷ 1 ∷ [])), optimum_is work_19_0.instance (0 ∷ 0 ∷ 1 ∷ []) 0 refl refl, record { tells = refl; stays = refl })

step_19_3 : Legal work_19_0 (codes "adopt") (codes "ok\n") work_19_1
unfolding digits
step_19_3 = (Optimal 0 (timetable_of work_19_0.instance (0 ∷ 0 ∷ 1 ∷ [])), optimum_is work_19_0.instance (0 ∷ 0 ∷ 1 ∷ []) 0 refl refl, record { tells = refl; leaves = refl })

step_19_4 : Legal work_19_1 (codes "ends 6 0 1") (codes "refused 6 no activity 6\n") work_19_1
unfolding digits
step_19_4 = record { tells = refl; leaves = refl }

step_19_5 : Legal work_19_1 (codes "add event 1") (codes "ok\n") work_19_2
unfolding digits
step_19_5 = record { tells = refl; leaves = refl }

step_19_6 : Legal work_19_2 (codes "violations") (codes "refused 11 event 1 has no time\n") work_19_2
unfolding digits
step_19_6 = record { tells = refl; stays = refl }

step_19_7 : Legal work_19_2 (codes "untime 4") (codes "refused 2 no event 4\n") work_19_2
unfolding digits
step_19_7 = record { tells = refl; leaves = refl }

step_19_8 : Legal work_19_2 (codes "optimum") (codes "optimum 0 4\n1 0\n3 0\n5 0\n6 1\n") work_19_2
unfolding digits
step_19_8 = (Optimal 0 (timetable_of work_19_2.instance (0 ∷ 0 ∷ 0 ∷ 1 ∷ [])), optimum_is work_19_2.instance (0 ∷ 0 ∷ 0 ∷ 1 ∷ []) 0 refl refl, record { tells = refl; stays = refl })

step_19_9 : Legal work_19_2 (codes "cost") (codes "refused 11 event 1 has no time\n") work_19_2
unfolding digits
step_19_9 = record { tells = refl; stays = refl }

transcript_19 : IsTranscript work_19_0 (codes "optimum" ∷ codes "add" ∷ codes "optimum" ∷ codes "adopt" ∷ codes "ends 6 0 1" ∷ codes "add event 1" ∷ codes "violations" ∷ codes "untime 4" ∷ codes "optimum" ∷ codes "cost" ∷ []) (codes "optimum 0 3\n3 0\n5 0\n6 1\nfault unknown command\noptimum 0 3\n3 0\n5 0\n6 1\nok\nrefused 6 no activity 6\nok\nrefused 11 event 1 has no time\nrefused 2 no event 4\noptimum 0 4\n1 0\n3 0\n5 0\n6 1\nrefused 11 event 1 has no time\n")
unfolding digits
transcript_19 = (_, (_, _, _, step_19_0, (_, _, _, step_19_1, (_, _, _, step_19_2, (_, _, _, step_19_3, (_, _, _, step_19_4, (_, _, _, step_19_5, (_, _, _, step_19_6, (_, _, _, step_19_7, (_, _, _, step_19_8, (_, _, _, step_19_9, (refl, refl), refl), refl), refl), refl), refl), refl), refl), refl), refl), refl))

-- work 0 of stream 20
abbrev work_20_0 : Work
work_20_0 = record { instance = record { period = 9; events = record { id = 2; window = Some (record { first = 0; length = 3 }) } ∷ new_event 6 ∷ record { id = 9; window = Some (record { first = 4; length = 8 }) } ∷ []; activities = arc 1 2 9 (pos 2) (pos 3) 1 ∷ [] }; times = record { period = 9; entries = (2, 1) ∷ (6, 4) ∷ [] } }

-- work 1 of stream 20
abbrev work_20_1 : Work
work_20_1 = record { instance = record { period = 9; events = record { id = 2; window = Some (record { first = 0; length = 3 }) } ∷ new_event 3 ∷ new_event 6 ∷ record { id = 9; window = Some (record { first = 4; length = 8 }) } ∷ []; activities = arc 1 2 9 (pos 2) (pos 3) 1 ∷ [] }; times = record { period = 9; entries = (2, 1) ∷ (6, 4) ∷ [] } }

-- work 2 of stream 20
abbrev work_20_2 : Work
work_20_2 = record { instance = record { period = 9; events = record { id = 2; window = Some (record { first = 0; length = 3 }) } ∷ new_event 3 ∷ new_event 6 ∷ record { id = 9; window = Some (record { first = 4; length = 8 }) } ∷ []; activities = arc 1 2 9 (pos 2) (pos 3) 1 ∷ [] }; times = record { period = 9; entries = (2, 1) ∷ (3, 4) ∷ (6, 4) ∷ [] } }

step_20_0 : Legal work_20_0 (codes "tensions") (codes "refused 11 event 9 has no time\n") work_20_0
unfolding digits
step_20_0 = record { tells = refl; stays = refl }

step_20_1 : Legal work_20_0 (codes "ADD EVENT 1") (codes "fault unknown command\n") work_20_0
unfolding digits
step_20_1 = record { tells = refl; stays = refl }

step_20_2 : Legal work_20_0 (codes "add activity 999999999 3 4 8 10 1") (codes "refused 2 no event 3\n") work_20_0
unfolding digits
step_20_2 = record { tells = refl; leaves = refl }

step_20_3 : Legal work_20_0 (codes "add activity 4 77 4 6 8 0") (codes "refused 2 no event 77\n") work_20_0
unfolding digits
step_20_3 = record { tells = refl; leaves = refl }

step_20_4 : Legal work_20_0 (codes "span 4 6 15") (codes "refused 6 no activity 4\n") work_20_0
unfolding digits
step_20_4 = record { tells = refl; leaves = refl }

step_20_5 : Legal work_20_0 (codes "add event 3") (codes "ok\n") work_20_1
unfolding digits
step_20_5 = record { tells = refl; leaves = refl }

step_20_6 : Legal work_20_1 (codes "time 3 4") (codes "ok\n") work_20_2
unfolding digits
step_20_6 = record { tells = refl; leaves = refl }

step_20_7 : Legal work_20_2 (codes "ends 5 2 4") (codes "refused 6 no activity 5\n") work_20_2
unfolding digits
step_20_7 = record { tells = refl; leaves = refl }

step_20_8 : Legal work_20_2 (codes "drop event 4") (codes "refused 2 no event 4\n") work_20_2
unfolding digits
step_20_8 = record { tells = refl; leaves = refl }

step_20_9 : Legal work_20_2 (codes "add event 2") (codes "refused 1 event 2 exists\n") work_20_2
unfolding digits
step_20_9 = record { tells = refl; leaves = refl }

transcript_20 : IsTranscript work_20_0 (codes "tensions" ∷ codes "ADD EVENT 1" ∷ codes "add activity 999999999 3 4 8 10 1" ∷ codes "add activity 4 77 4 6 8 0" ∷ codes "span 4 6 15" ∷ codes "add event 3" ∷ codes "time 3 4" ∷ codes "ends 5 2 4" ∷ codes "drop event 4" ∷ codes "add event 2" ∷ []) (codes "refused 11 event 9 has no time\nfault unknown command\nrefused 2 no event 3\nrefused 2 no event 77\nrefused 6 no activity 4\nok\nok\nrefused 6 no activity 5\nrefused 2 no event 4\nrefused 1 event 2 exists\n")
unfolding digits
transcript_20 = (_, (_, _, _, step_20_0, (_, _, _, step_20_1, (_, _, _, step_20_2, (_, _, _, step_20_3, (_, _, _, step_20_4, (_, _, _, step_20_5, (_, _, _, step_20_6, (_, _, _, step_20_7, (_, _, _, step_20_8, (_, _, _, step_20_9, (refl, refl), refl), refl), refl), refl), refl), refl), refl), refl), refl), refl))

-- work 0 of stream 21
abbrev work_21_0 : Work
work_21_0 = record { instance = record { period = 6; events = new_event 2 ∷ new_event 5 ∷ new_event 8 ∷ new_event 9 ∷ []; activities = arc 1 5 9 (pos 0) (pos 1) 4 ∷ arc 2 5 2 (negsuc 0) (pos 1) 3 ∷ arc 3 8 2 (negsuc 7) (negsuc 5) 2 ∷ [] }; times = record { period = 6; entries = (2, 5) ∷ (5, 4) ∷ (9, 4) ∷ [] } }

-- work 1 of stream 21
abbrev work_21_1 : Work
work_21_1 = record { instance = record { period = 6; events = record { id = 2; window = Some (record { first = 2; length = 1 }) } ∷ new_event 5 ∷ new_event 8 ∷ new_event 9 ∷ []; activities = arc 1 5 9 (pos 0) (pos 1) 4 ∷ arc 2 5 2 (negsuc 0) (pos 1) 3 ∷ arc 3 8 2 (negsuc 7) (negsuc 5) 2 ∷ [] }; times = record { period = 6; entries = (2, 5) ∷ (5, 4) ∷ (9, 4) ∷ [] } }

step_21_0 : Legal work_21_0 (codes "weight 6 1000000000") (codes "refused 6 no activity 6\n") work_21_0
unfolding digits
step_21_0 = record { tells = refl; leaves = refl }

step_21_1 : Legal work_21_0 (codes "dump") (codes "# period 6 lines 7\nadd event 2\nadd event 5\nadd event 8\nadd event 9\nadd activity 1 5 9 0 1 4\nadd activity 2 5 2 -1 1 3\nadd activity 3 8 2 -8 -6 2\n") work_21_0
unfolding digits
step_21_1 = record { tells = refl; stays = refl }

step_21_2 : Legal work_21_0 (codes "domain 999999999") (codes "refused 2 no event 999999999\n") work_21_0
unfolding digits
step_21_2 = record { tells = refl; stays = refl }

step_21_3 : Legal work_21_0 (codes "span 6 5 7") (codes "refused 6 no activity 6\n") work_21_0
unfolding digits
step_21_3 = record { tells = refl; leaves = refl }

step_21_4 : Legal work_21_0 (codes "add event 2") (codes "refused 1 event 2 exists\n") work_21_0
unfolding digits
step_21_4 = record { tells = refl; leaves = refl }

step_21_5 : Legal work_21_0 (codes "weight 4 1000000000") (codes "refused 6 no activity 4\n") work_21_0
unfolding digits
step_21_5 = record { tells = refl; leaves = refl }

step_21_6 : Legal work_21_0 (codes "drop event 4") (codes "refused 2 no event 4\n") work_21_0
unfolding digits
step_21_6 = record { tells = refl; leaves = refl }

step_21_7 : Legal work_21_0 (codes "fix 2 2") (codes "ok\n") work_21_1
unfolding digits
step_21_7 = record { tells = refl; leaves = refl }

step_21_8 : Legal work_21_1 (codes "time 77 2") (codes "refused 2 no event 77\n") work_21_1
unfolding digits
step_21_8 = record { tells = refl; leaves = refl }

step_21_9 : Legal work_21_1 (codes "add activity 4 3 9 2 4") (codes "fault wrong number of words\n") work_21_1
unfolding digits
step_21_9 = record { tells = refl; stays = refl }

transcript_21 : IsTranscript work_21_0 (codes "weight 6 1000000000" ∷ codes "dump" ∷ codes "domain 999999999" ∷ codes "span 6 5 7" ∷ codes "add event 2" ∷ codes "weight 4 1000000000" ∷ codes "drop event 4" ∷ codes "fix 2 2" ∷ codes "time 77 2" ∷ codes "add activity 4 3 9 2 4" ∷ []) (codes "refused 6 no activity 6\n# period 6 lines 7\nadd event 2\nadd event 5\nadd event 8\nadd event 9\nadd activity 1 5 9 0 1 4\nadd activity 2 5 2 -1 1 3\nadd activity 3 8 2 -8 -6 2\nrefused 2 no event 999999999\nrefused 6 no activity 6\nrefused 1 event 2 exists\nrefused 6 no activity 4\nrefused 2 no event 4\nok\nrefused 2 no event 77\nfault wrong number of words\n")
unfolding digits
transcript_21 = (_, (_, _, _, step_21_0, (_, _, _, step_21_1, (_, _, _, step_21_2, (_, _, _, step_21_3, (_, _, _, step_21_4, (_, _, _, step_21_5, (_, _, _, step_21_6, (_, _, _, step_21_7, (_, _, _, step_21_8, (_, _, _, step_21_9, (refl, refl), refl), refl), refl), refl), refl), refl), refl), refl), refl), refl))

-- work 0 of stream 22
abbrev work_22_0 : Work
work_22_0 = record { instance = record { period = 3; events = new_event 3 ∷ new_event 5 ∷ new_event 8 ∷ new_event 9 ∷ []; activities = arc 1 5 9 (pos 2) (pos 4) 3 ∷ arc 2 9 3 (negsuc 4) (negsuc 1) 0 ∷ arc 3 5 3 (negsuc 3) (pos 1) 2 ∷ arc 4 3 5 (pos 1) (pos 2) 4 ∷ [] }; times = record { period = 3; entries = (3, 2) ∷ (8, 1) ∷ (9, 1) ∷ [] } }

-- work 1 of stream 22
abbrev work_22_1 : Work
work_22_1 = record { instance = record { period = 3; events = new_event 3 ∷ new_event 5 ∷ new_event 8 ∷ new_event 9 ∷ []; activities = arc 1 5 9 (pos 2) (pos 4) 3 ∷ arc 2 9 3 (negsuc 4) (negsuc 1) 0 ∷ arc 3 5 3 (negsuc 3) (pos 1) 3 ∷ arc 4 3 5 (pos 1) (pos 2) 4 ∷ [] }; times = record { period = 3; entries = (3, 2) ∷ (8, 1) ∷ (9, 1) ∷ [] } }

-- work 2 of stream 22
abbrev work_22_2 : Work
work_22_2 = record { instance = record { period = 3; events = new_event 3 ∷ new_event 5 ∷ new_event 8 ∷ new_event 9 ∷ []; activities = arc 1 5 9 (pos 2) (pos 4) 3 ∷ arc 2 9 3 (negsuc 4) (negsuc 1) 0 ∷ arc 3 5 3 (negsuc 3) (pos 1) 3 ∷ arc 4 3 5 (pos 1) (pos 2) 3 ∷ [] }; times = record { period = 3; entries = (3, 2) ∷ (8, 1) ∷ (9, 1) ∷ [] } }

-- work 3 of stream 22
abbrev work_22_3 : Work
work_22_3 = record { instance = record { period = 3; events = record { id = 3; window = Some (record { first = 2; length = 1 }) } ∷ new_event 5 ∷ new_event 8 ∷ new_event 9 ∷ []; activities = arc 1 5 9 (pos 2) (pos 4) 3 ∷ arc 2 9 3 (negsuc 4) (negsuc 1) 0 ∷ arc 3 5 3 (negsuc 3) (pos 1) 3 ∷ arc 4 3 5 (pos 1) (pos 2) 3 ∷ [] }; times = record { period = 3; entries = (3, 2) ∷ (8, 1) ∷ (9, 1) ∷ [] } }

-- work 4 of stream 22
abbrev work_22_4 : Work
work_22_4 = record { instance = record { period = 3; events = record { id = 3; window = Some (record { first = 2; length = 1 }) } ∷ new_event 5 ∷ new_event 8 ∷ new_event 9 ∷ []; activities = arc 1 5 9 (pos 2) (pos 4) 3 ∷ arc 2 9 3 (negsuc 4) (negsuc 1) 0 ∷ arc 3 5 3 (negsuc 3) (pos 1) 3 ∷ arc 4 3 5 (pos 1) (pos 2) 3 ∷ [] }; times = record { period = 3; entries = (3, 2) ∷ (5, 0) ∷ (8, 0) ∷ (9, 2) ∷ [] } }

-- work 5 of stream 22
abbrev work_22_5 : Work
work_22_5 = record { instance = record { period = 3; events = new_event 1 ∷ record { id = 3; window = Some (record { first = 2; length = 1 }) } ∷ new_event 5 ∷ new_event 8 ∷ new_event 9 ∷ []; activities = arc 1 5 9 (pos 2) (pos 4) 3 ∷ arc 2 9 3 (negsuc 4) (negsuc 1) 0 ∷ arc 3 5 3 (negsuc 3) (pos 1) 3 ∷ arc 4 3 5 (pos 1) (pos 2) 3 ∷ [] }; times = record { period = 3; entries = (3, 2) ∷ (5, 0) ∷ (8, 0) ∷ (9, 2) ∷ [] } }

-- work 6 of stream 22
abbrev work_22_6 : Work
work_22_6 = record { instance = record { period = 3; events = new_event 1 ∷ record { id = 3; window = Some (record { first = 2; length = 1 }) } ∷ new_event 5 ∷ new_event 8 ∷ new_event 9 ∷ []; activities = arc 1 5 9 (pos 2) (pos 4) 3 ∷ arc 2 9 3 (negsuc 4) (negsuc 1) 0 ∷ arc 3 5 3 (negsuc 3) (pos 1) 3 ∷ arc 4 3 5 (pos 1) (pos 2) 3 ∷ [] }; times = record { period = 3; entries = (3, 2) ∷ (5, 0) ∷ (8, 0) ∷ (9, 1) ∷ [] } }

step_22_0 : Legal work_22_0 (codes "add activity 5 77 0 1 2 2") (codes "refused 2 no event 77\n") work_22_0
unfolding digits
step_22_0 = record { tells = refl; leaves = refl }

step_22_1 : Legal work_22_0 (codes "weight 3 3") (codes "ok\n") work_22_1
unfolding digits
step_22_1 = record { tells = refl; leaves = refl }

step_22_2 : Legal work_22_1 (codes "weight 4 3") (codes "ok\n") work_22_2
unfolding digits
step_22_2 = record { tells = refl; leaves = refl }

step_22_3 : Legal work_22_2 (codes "window 3 2 1") (codes "ok\n") work_22_3
unfolding digits
step_22_3 = record { tells = refl; leaves = refl }

step_22_4 : Legal work_22_3 (codes "adopt") (codes "ok\n") work_22_4
unfolding digits
step_22_4 = (Optimal 0 (timetable_of work_22_3.instance (2 ∷ 0 ∷ 0 ∷ 2 ∷ [])), optimum_is work_22_3.instance (2 ∷ 0 ∷ 0 ∷ 2 ∷ []) 0 refl refl, record { tells = refl; leaves = refl })

step_22_5 : Legal work_22_4 (codes "dump") (codes "# period 3 lines 9\nadd event 3\nadd event 5\nadd event 8\nadd event 9\nfix 3 2\nadd activity 1 5 9 2 4 3\nadd activity 2 9 3 -5 -2 0\nadd activity 3 5 3 -4 1 3\nadd activity 4 3 5 1 2 3\n") work_22_4
unfolding digits
step_22_5 = record { tells = refl; stays = refl }

step_22_6 : Legal work_22_4 (codes "fix 4 1") (codes "refused 2 no event 4\n") work_22_4
unfolding digits
step_22_6 = record { tells = refl; leaves = refl }

step_22_7 : Legal work_22_4 (codes "domain 0") (codes "refused 2 no event 0\n") work_22_4
unfolding digits
step_22_7 = record { tells = refl; stays = refl }

step_22_8 : Legal work_22_4 (codes "add event 1") (codes "ok\n") work_22_5
unfolding digits
step_22_8 = record { tells = refl; leaves = refl }

step_22_9 : Legal work_22_5 (codes "time 9 1") (codes "ok\n") work_22_6
unfolding digits
step_22_9 = record { tells = refl; leaves = refl }

transcript_22 : IsTranscript work_22_0 (codes "add activity 5 77 0 1 2 2" ∷ codes "weight 3 3" ∷ codes "weight 4 3" ∷ codes "window 3 2 1" ∷ codes "adopt" ∷ codes "dump" ∷ codes "fix 4 1" ∷ codes "domain 0" ∷ codes "add event 1" ∷ codes "time 9 1" ∷ []) (codes "refused 2 no event 77\nok\nok\nok\nok\n# period 3 lines 9\nadd event 3\nadd event 5\nadd event 8\nadd event 9\nfix 3 2\nadd activity 1 5 9 2 4 3\nadd activity 2 9 3 -5 -2 0\nadd activity 3 5 3 -4 1 3\nadd activity 4 3 5 1 2 3\nrefused 2 no event 4\nrefused 2 no event 0\nok\nok\n")
unfolding digits
transcript_22 = (_, (_, _, _, step_22_0, (_, _, _, step_22_1, (_, _, _, step_22_2, (_, _, _, step_22_3, (_, _, _, step_22_4, (_, _, _, step_22_5, (_, _, _, step_22_6, (_, _, _, step_22_7, (_, _, _, step_22_8, (_, _, _, step_22_9, (refl, refl), refl), refl), refl), refl), refl), refl), refl), refl), refl), refl))

-- work 0 of stream 23
abbrev work_23_0 : Work
work_23_0 = record { instance = record { period = 7; events = new_event 1 ∷ new_event 3 ∷ record { id = 4; window = Some (record { first = 6; length = 6 }) } ∷ []; activities = arc 1 1 1 (negsuc 4) (negsuc 4) 1 ∷ arc 2 4 1 (negsuc 1) (negsuc 0) 3 ∷ arc 4 4 1 (negsuc 1) (pos 3) 2 ∷ arc 5 4 3 (pos 4) (pos 5) 3 ∷ [] }; times = record { period = 7; entries = (1, 3) ∷ (3, 6) ∷ [] } }

-- work 1 of stream 23
abbrev work_23_1 : Work
work_23_1 = record { instance = record { period = 7; events = new_event 1 ∷ new_event 3 ∷ record { id = 4; window = Some (record { first = 6; length = 6 }) } ∷ []; activities = arc 1 1 1 (negsuc 4) (negsuc 4) 1 ∷ arc 2 4 1 (negsuc 1) (negsuc 0) 3 ∷ arc 4 4 1 (negsuc 1) (pos 3) 2 ∷ arc 5 4 3 (pos 4) (pos 5) 3 ∷ [] }; times = record { period = 7; entries = (1, 0) ∷ (3, 6) ∷ [] } }

-- work 2 of stream 23
abbrev work_23_2 : Work
work_23_2 = record { instance = record { period = 7; events = record { id = 1; window = Some (record { first = 2; length = 6 }) } ∷ new_event 3 ∷ record { id = 4; window = Some (record { first = 6; length = 6 }) } ∷ []; activities = arc 1 1 1 (negsuc 4) (negsuc 4) 1 ∷ arc 2 4 1 (negsuc 1) (negsuc 0) 3 ∷ arc 4 4 1 (negsuc 1) (pos 3) 2 ∷ arc 5 4 3 (pos 4) (pos 5) 3 ∷ [] }; times = record { period = 7; entries = (1, 0) ∷ (3, 6) ∷ [] } }

-- work 3 of stream 23
abbrev work_23_3 : Work
work_23_3 = record { instance = record { period = 7; events = record { id = 1; window = Some (record { first = 2; length = 6 }) } ∷ new_event 3 ∷ record { id = 4; window = Some (record { first = 6; length = 6 }) } ∷ []; activities = arc 1 1 1 (pos 1) (pos 2) 1 ∷ arc 2 4 1 (negsuc 1) (negsuc 0) 3 ∷ arc 4 4 1 (negsuc 1) (pos 3) 2 ∷ arc 5 4 3 (pos 4) (pos 5) 3 ∷ [] }; times = record { period = 7; entries = (1, 0) ∷ (3, 6) ∷ [] } }

step_23_0 : Legal work_23_0 (codes "time 1 0") (codes "ok\n") work_23_1
unfolding digits
step_23_0 = record { tells = refl; leaves = refl }

step_23_1 : Legal work_23_1 (codes "try 2") (codes "infeasible\n") work_23_1
unfolding digits
step_23_1 = inl (Infeasible, infeasible_is work_23_1.instance refl, record { tells = refl; stays = refl })

step_23_2 : Legal work_23_1 (codes "adopt") (codes "refused 12 infeasible\n") work_23_1
unfolding digits
step_23_2 = (Infeasible, infeasible_is work_23_1.instance refl, record { tells = refl; leaves = refl })

step_23_3 : Legal work_23_1 (codes "add activity 4 4 3 2 2 3") (codes "refused 5 activity 4 exists\n") work_23_1
unfolding digits
step_23_3 = record { tells = refl; leaves = refl }

step_23_4 : Legal work_23_1 (codes "adopt") (codes "refused 12 infeasible\n") work_23_1
unfolding digits
step_23_4 = (Infeasible, infeasible_is work_23_1.instance refl, record { tells = refl; leaves = refl })

step_23_5 : Legal work_23_1 (codes "violations") (codes "refused 11 event 4 has no time\n") work_23_1
unfolding digits
step_23_5 = record { tells = refl; stays = refl }

step_23_6 : Legal work_23_1 (codes "domain 0") (codes "refused 2 no event 0\n") work_23_1
unfolding digits
step_23_6 = record { tells = refl; stays = refl }

step_23_7 : Legal work_23_1 (codes "window 1 2 6") (codes "ok\n") work_23_2
unfolding digits
step_23_7 = record { tells = refl; leaves = refl }

step_23_8 : Legal work_23_2 (codes "span 1 1 2") (codes "ok\n") work_23_3
unfolding digits
step_23_8 = record { tells = refl; leaves = refl }

step_23_9 : Legal work_23_3 (codes "cost") (codes "refused 11 event 4 has no time\n") work_23_3
unfolding digits
step_23_9 = record { tells = refl; stays = refl }

transcript_23 : IsTranscript work_23_0 (codes "time 1 0" ∷ codes "try 2" ∷ codes "adopt" ∷ codes "add activity 4 4 3 2 2 3" ∷ codes "adopt" ∷ codes "violations" ∷ codes "domain 0" ∷ codes "window 1 2 6" ∷ codes "span 1 1 2" ∷ codes "cost" ∷ []) (codes "ok\ninfeasible\nrefused 12 infeasible\nrefused 5 activity 4 exists\nrefused 12 infeasible\nrefused 11 event 4 has no time\nrefused 2 no event 0\nok\nok\nrefused 11 event 4 has no time\n")
unfolding digits
transcript_23 = (_, (_, _, _, step_23_0, (_, _, _, step_23_1, (_, _, _, step_23_2, (_, _, _, step_23_3, (_, _, _, step_23_4, (_, _, _, step_23_5, (_, _, _, step_23_6, (_, _, _, step_23_7, (_, _, _, step_23_8, (_, _, _, step_23_9, (refl, refl), refl), refl), refl), refl), refl), refl), refl), refl), refl), refl))
