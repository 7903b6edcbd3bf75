-- The time of a walk, with the residues at its ends, is a whole number of periods, at every map.
use Rattle.std.proofs.Common.{◌≡◌, ℕ, ◌+◌, ◌-◌, ◌<◌, Bool, true, false, IsTrue, ℤ, pos, neg_ℤ, ◌+ℤ◌, ◌-ℤ◌, ◌*ℤ◌, List, [], ◌∷◌, length, map, get_or, ap, subst, ◌∙◌, arith}
use Rattle.std.proofs.Math.IntN.{*ℤ-zero}
use Rattle.std.proofs.lemmas.Bool.{and_parts, eqb-true, ltb-true}
use Rattle.std.proofs.lemmas.Int.{ints}
use Rattle.std.proofs.lemmas.List.{get_or-append_right, get_or_append_left, get_or-map, length-map}
use Rattle.pesp_base.proofs.Laws.{against, spread, tension_is}
use Rattle.pesp_base.specs.Tensions.{tension_of}
use Rattle.pesp_search_graph.specs.declared.arc.Arc.{Arc}
use Rattle.pesp_search_graph.specs.declared.step.Step.{Step}
use Rattle.pesp_search_network.specs.Arcs.{Arcs}
use Rattle.pesp_search_cycles.specs.Maps.{numbers_of, slack_at}
use Rattle.pesp_search_cycles.specs.Ranges.{IsMultiple}
use Rattle.pesp_search_cycles.specs.Walks.{Path, arc_at, end_of, joins, leads, no_arc, residue, round, signed, start_of, time_of, times}

turned : (a b z m n : ℤ) → z ≡ (a -ℤ b) +ℤ m → n ≡ neg_ℤ m → neg_ℤ z ≡ (b -ℤ a) +ℤ n
turned a b z m n e f = omega (arith, ints, e, f)

joined : (u v w t r p q s : ℤ) → t ≡ (v -ℤ u) +ℤ p → r ≡ (w -ℤ v) +ℤ q → s ≡ p +ℤ q → t +ℤ r ≡ (w -ℤ u) +ℤ s
joined u v w t r p q s e f g = omega (arith, ints, e, f, g)

nowhere : (u v m : ℤ) → u ≡ v → m ≡ pos 0 → pos 0 ≡ (v -ℤ u) +ℤ m
nowhere u v m e f = omega (arith, ints, e, f)

ended : (u v r s t m : ℤ) → t ≡ (v -ℤ u) +ℤ m → r ≡ u → s ≡ v → t +ℤ (r -ℤ s) ≡ m
ended u v r s t m e f g = omega (arith, ints, e, f, g)

-- the number at the place of an arc is its slack
pub slack_number : (A : Arcs) (xs : List ℕ) (k : ℕ) → k < length A.arcs → get_or (numbers_of A xs) k 0 ≡ slack_at A.period xs (arc_at A.arcs k)
slack_number A xs k h =
    let long = length-map A.arcs (slack_at A.period xs) in
    get_or_append_left (map (slack_at A.period xs) A.arcs) xs 0 k (omega (arith, h, long)) ∙ get_or-map (slack_at A.period xs) A.arcs k no_arc 0 h

-- the number at the place of an event is its residue
pub residue_number : (A : Arcs) (xs : List ℕ) (v : ℕ) → get_or (numbers_of A xs) (length A.arcs + v) 0 ≡ get_or xs v 0
residue_number A xs v =
    let n = length A.arcs in
    get_or-append_right (map (slack_at A.period xs) A.arcs) xs n (n + v) 0 (length-map A.arcs (slack_at A.period xs)) (omega arith)
    ∙ (let e : n + v - n ≡ v = omega arith in ap (λ k. get_or xs k 0) e)

module _ (A : Arcs) (some : 0 < A.period) (xs : List ℕ) where
  signed_way : (a : Arc) (along : Bool) → (q : ℤ) × (signed along (tension_of A.period a.span (get_or xs a.from 0) (get_or xs a.to 0)) ≡ (pos (get_or xs (end_of a along) 0) -ℤ pos (get_or xs (start_of a along) 0)) +ℤ pos A.period *ℤ q)
  signed_way a true = (tension_is A.period a.span (get_or xs a.from 0) (get_or xs a.to 0) some).in_class
  signed_way a false =
      let w = (tension_is A.period a.span (get_or xs a.from 0) (get_or xs a.to 0) some).in_class in
      (neg_ℤ w.0, turned (pos (get_or xs a.to 0)) (pos (get_or xs a.from 0)) (tension_of A.period a.span (get_or xs a.from 0) (get_or xs a.to 0)) (pos A.period *ℤ w.0) (pos A.period *ℤ neg_ℤ w.0) w.1 (against A.period w.0))

  step_way : (s : Step) → s.arc < length A.arcs → (q : ℤ) × (time_of A.arcs (numbers_of A xs) s ≡ (pos (get_or xs (end_of (arc_at A.arcs s.arc) s.along) 0) -ℤ pos (get_or xs (start_of (arc_at A.arcs s.arc) s.along) 0)) +ℤ pos A.period *ℤ q)
  step_way s h =
      let a = arc_at A.arcs s.arc in
      let w = signed_way a s.along in
      (w.0, ap (λ y. signed s.along (a.span.lower +ℤ pos y)) (slack_number A xs s.arc h) ∙ w.1)

  pub way : (u : ℕ) (ss : List Step) (v : ℕ) → IsTrue (leads A.arcs u ss v) → (q : ℤ) × (times A.arcs (numbers_of A xs) ss ≡ (pos (get_or xs v 0) -ℤ pos (get_or xs u 0)) +ℤ pos A.period *ℤ q)
  way u [] v h = (pos 0, nowhere _ _ (pos A.period *ℤ pos 0) (ap (λ k. pos (get_or xs k 0)) (eqb-true u v h)) (*ℤ-zero (pos A.period)))
  way u (s ∷ ss) v h =
      let a = arc_at A.arcs s.arc in
      let both = and_parts _ _ h in
      let more = and_parts _ _ both.1 in
      let first = step_way s (ltb-true _ _ both.0) in
      let rest = way (end_of a s.along) ss v more.1 in
      let start : start_of a s.along ≡ u = eqb-true _ _ more.0 in (
        first.0 +ℤ rest.0,
        joined (pos (get_or xs u 0)) (pos (get_or xs (end_of a s.along) 0)) (pos (get_or xs v 0)) (time_of A.arcs (numbers_of A xs) s) (times A.arcs (numbers_of A xs) ss) (pos A.period *ℤ first.0) (pos A.period *ℤ rest.0) (pos A.period *ℤ (first.0 +ℤ rest.0))
            (subst (λ k. time_of A.arcs (numbers_of A xs) s ≡ (pos (get_or xs (end_of a s.along) 0) -ℤ pos (get_or xs k 0)) +ℤ pos A.period *ℤ first.0) start first.1) rest.1 (spread A.period first.0 rest.0),
      )

  -- the time of a walk, with the residues at its ends, is a whole number of periods
  pub round_whole : (p : Path) → IsTrue (joins A.events A.arcs p) → IsMultiple A.period (round A.arcs (numbers_of A xs) p)
  round_whole p h =
      let inner = and_parts _ _ (and_parts _ _ h).1 in
      let w = way p.from p.steps p.to inner.1 in (
        w.0,
        ended (pos (get_or xs p.from 0)) (pos (get_or xs p.to 0)) (residue A.arcs (numbers_of A xs) p.from) (residue A.arcs (numbers_of A xs) p.to) (times A.arcs (numbers_of A xs) p.steps) (pos A.period *ℤ w.0) w.1 (ap pos (residue_number A xs p.from)) (ap pos (residue_number A xs p.to)),
      )
