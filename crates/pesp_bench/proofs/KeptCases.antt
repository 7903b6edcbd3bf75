-- The worked examples of kept answers, by computation.
use Rattle.std.proofs.Common.{◌≡◌, ℕ, ◌<◌, refl, sym, true, false, pos, [], ◌∷◌, Some, All, IsTrue, arith}
use Rattle.std.specs.Map.{values_of}
use Rattle.std.proofs.lemmas.Bool.{false≢true}
use Rattle.std.proofs.lemmas.List.Elements.{All-from_recursion}
use Rattle.pesp_base.specs.Bounds.{Bounds}
use Rattle.pesp_base.specs.Windows.{at_time}
use Rattle.pesp_instance.specs.declared.edit.Edit.{Edit}
use Rattle.pesp_instance.specs.declared.edit.Edit.TheVariants.{AddEvent, Fix, Unfix, AddActivity, SetSpan, SetWeight}
use Rattle.pesp_instance.specs.Edited.{effect}
use Rattle.pesp_instance.specs.Network.{Network, new_event}
use Rattle.pesp_search.specs.declared.answer.Answer.{Answer}
use Rattle.pesp_search.specs.declared.answer.Answer.TheVariants.{Optimal, Infeasible}
use Rattle.pesp_tension.specs.Timetables.{Times}
use Rattle.pesp_tension.specs.Answers.{agrees, meets}
use Rattle.pesp_bench.specs.Kept.{Keeps, cheapens, opens}
use Rattle.pesp_base.proofs.Samples.{arc}

abbrev span : ℕ → ℕ → Bounds
span lower upper = record { lower = pos lower; upper = pos upper }

-- two events and an activity each way between them
abbrev two : Network
two = record {
  period = 10;
  events = new_event 1 ∷ new_event 2 ∷ [];
  activities = arc 1 1 2 3 5 2 ∷ arc 2 2 1 4 6 1 ∷ [];
}

abbrev times : Times
times = record { period = 10; entries = (1, 0) ∷ (2, 4) ∷ [] }

abbrev optimum : Answer
optimum = Optimal 4 times

below : All (λ t. t < 10) (values_of times.entries)
below = All-from_recursion (λ t. t < 10) (0 ∷ 4 ∷ []) (omega arith, (omega arith, tt))

-- ---- edits that keep the optimum, one after another

abbrev narrowed : Edit
narrowed = SetSpan 1 (span 3 4)

abbrev held : Edit
held = Fix 1 0

abbrev joined : Edit
joined = AddActivity (arc 3 1 2 4 9 7)

narrower_span : Keeps two narrowed optimum
narrower_span = record {
  nothing_new = refl;
  stays = (
    record {
      period = refl;
      events = refl;
      below = below;
      met = All-from_recursion (λ a. IsTrue (meets times a)) (effect two narrowed).activities (refl, (refl, tt));
      window = All-from_recursion (λ x. IsTrue (agrees times x)) (effect two narrowed).events (refl, (refl, tt));
    },
    refl,
  );
}

abbrev second : Network
second = effect two narrowed

fixed_at_its_time : Keeps second held optimum
fixed_at_its_time = record {
  nothing_new = refl;
  stays = (
    record {
      period = refl;
      events = refl;
      below = below;
      met = All-from_recursion (λ a. IsTrue (meets times a)) (effect second held).activities (refl, (refl, tt));
      window = All-from_recursion (λ x. IsTrue (agrees times x)) (effect second held).events (refl, (refl, tt));
    },
    refl,
  );
}

abbrev third : Network
third = effect second held

one_activity_more : Keeps third joined optimum
one_activity_more = record {
  nothing_new = refl;
  stays = (
    record {
      period = refl;
      events = refl;
      below = below;
      met = All-from_recursion (λ a. IsTrue (meets times a)) (effect third joined).activities (refl, (refl, (refl, tt)));
      window = All-from_recursion (λ x. IsTrue (agrees times x)) (effect third joined).events (refl, (refl, tt));
    },
    refl,
  );
}

-- ---- edits that do not

smaller_weight : Keeps two (SetWeight 1 1) optimum → ⊥
smaller_weight keeps = false≢true (sym keeps.nothing_new)

-- the timetable costs 5 then
larger_weight : Keeps two (SetWeight 1 3) optimum → ⊥
larger_weight keeps = let is : 5 ≡ 4 = keeps.stays.1 in absurd (omega (arith, is))

-- the timetable has event 1 at 0
fixed_elsewhere : Keeps two (Fix 1 3) optimum → ⊥
fixed_elsewhere keeps = false≢true (keeps.stays.0.window 0 (record { id = 1; window = Some (at_time 3) }) (omega arith))

-- the same lower bound and a larger upper one
wider_span : Keeps two (SetSpan 1 (span 3 6)) optimum → ⊥
wider_span keeps = false≢true (sym keeps.nothing_new)

-- a larger lower bound, under which the slack is less
later_span : Keeps two (SetSpan 1 (span 4 5)) optimum → ⊥
later_span keeps = false≢true (sym keeps.nothing_new)

-- the optimum has event 1 at 5 for its fixed time alone
without_windows : Keeps (effect two (Fix 1 5)) (Unfix 1) (Optimal 4 (record { period = 10; entries = (1, 5) ∷ (2, 9) ∷ [] })) → ⊥
without_windows keeps = false≢true (sym keeps.nothing_new)

-- the activity has no slack, and without weight an earlier time is as good
abbrev tight : Network
tight = record {
  period = 2;
  events = new_event 0 ∷ new_event 1 ∷ [];
  activities = arc 2 0 1 1 2 1 ∷ [];
}

lowered_without_slack : Keeps tight (SetWeight 2 0) (Optimal 0 (record { period = 2; entries = (0, 0) ∷ (1, 1) ∷ [] })) → ⊥
lowered_without_slack keeps = false≢true (sym keeps.nothing_new)

-- ---- edits after nothing met everything

abbrev none : Network
none = effect two (SetSpan 1 (span 3 3))

weight_and_event : Keeps none (SetWeight 1 9) Infeasible × Keeps none (AddEvent 3) Infeasible
weight_and_event = (record { nothing_new = refl; stays = tt }, record { nothing_new = refl; stays = tt })

first_fixed_time : Keeps none (Fix 1 0) Infeasible
first_fixed_time = record { nothing_new = refl; stays = tt }

fixed_time_gone : opens (effect none (Fix 1 0)) (Unfix 1) ≡ true
fixed_time_gone = refl

fixed_time_moved : (opens (effect none (Fix 1 0)) (Fix 1 0) ≡ false) × (opens (effect none (Fix 1 0)) (Fix 1 1) ≡ true)
fixed_time_moved = (refl, refl)

-- a span a whole period on admits the same, and one of as many numbers as the period admits all
spans : (opens none (SetSpan 1 (span 13 13)) ≡ false) × (opens none (SetSpan 1 (span 3 4)) ≡ true) × (opens (effect none (SetSpan 2 (span 0 9))) (SetSpan 2 (span 4 20)) ≡ false)
spans = (refl, refl, refl)

-- which an optimum does not outlast: its slacks count from another bound
span_a_period_on : cheapens two (SetSpan 1 (span 13 15)) ≡ true
span_a_period_on = refl
