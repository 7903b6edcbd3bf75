-- Whether times are the optimum, or nothing meets everything, by going through all lists of times.
use Rattle.std.proofs.Common.{◌≡◌, ℕ, zero, suc, ◌<◌, ◌==◌, nat_le, nat_lt, Bool, true, false, ◌&&◌, ◌||◌, not, List, [], ◌∷◌, length, refl, sym, subst, ◌∙◌, ap, inl, inr, arith, All}
use Rattle.std.specs.List.{list_all, range_with_len}
use Rattle.std.specs.Map.{values_of}
use Rattle.std.proofs.lemmas.Bool.{and_parts, eq-eqb, eqb-true, false≢true, leb-true, lt-ltb, ltb-true, and_from, or_right}
use Rattle.std.proofs.lemmas.List.Elements.{All-contains, All-head, All-tail}
use Rattle.std.proofs.lemmas.List.Sums.{AllPass-from_list_all, list_all-from_AllPass}
use Rattle.pesp_instance.specs.Network.{Network, event_ids}
use Rattle.pesp_domains.proofs.Families.{in_range}
use Rattle.pesp_tension.specs.Answers.{agrees, cost_of, meets}
use Rattle.pesp_tension.specs.Timetables.{Times}
use Rattle.pesp_search.specs.declared.answer.Answer.TheVariants.{Infeasible}
use Rattle.pesp_search.specs.Optima.{IsAnswer, IsMember, IsOptimum, Precedes}
use Rattle.pesp_search.specs.Paths.{timetable_of}
use Rattle.pesp_search.proofs.Members.{member_timed}
use Rattle.pesp_search.proofs.Timed.{keys_of-zip}
use Rattle.pesp_instance.proofs.Tables.{length-values-keys as length-values_of}

-- whether each list of so many times below the period passes
abbrev pub every_list : (List ℕ → Bool) → ℕ → ℕ → Bool
every_list test period zero = test []
every_list test period (suc n) = list_all (λ t. every_list (λ times. test (t ∷ times)) period n) (range_with_len 0 period)

every_passes : (test : List ℕ → Bool) (period n : ℕ) → every_list test period n ≡ true → (times : List ℕ) → length times ≡ n → All (λ t. t < period) times → test times ≡ true
every_passes test period zero every [] long below = every
every_passes test period zero every (t ∷ times) long below = absurd (omega (arith, long))
every_passes test period (suc n) every [] long below = absurd (omega (arith, long))
every_passes test period (suc n) every (t ∷ times) long below =
    let first : ℕ → Bool = λ s. every_list (λ ts. test (s ∷ ts)) period n in
    let small = All-head (λ s. s < period) t times below in
    let here : first t ≡ true =
    All-contains (λ s. first s ≡ true) (range_with_len 0 period) t (AllPass-from_list_all first (range_with_len 0 period) every) (in_range 0 period t (omega arith) (omega (arith, small)))
    in
    every_passes (λ ts. test (t ∷ ts)) period n here times (omega (arith, long)) (All-tail (λ s. s < period) t times below)

-- ---- members

-- whether a timetable of the instance's events meets everything
abbrev pub is_member : Network → Times → Bool
is_member I m = list_all (λ t. nat_lt t I.period) (values_of m.entries) && (list_all (meets m) I.activities && list_all (agrees m) I.events)

member_passes : (I : Network) (m : Times) → IsMember I m → is_member I m ≡ true
member_passes I m member =
    and_from _ _
    (list_all-from_AllPass (λ t. nat_lt t I.period) (values_of m.entries) (λ k d l. lt-ltb _ _ (member.below k d l)))
    (and_from _ _ (list_all-from_AllPass (meets m) I.activities member.met) (list_all-from_AllPass (agrees m) I.events member.window))

member_from : (I : Network) (times : List ℕ) → length times ≡ length (event_ids I) → is_member I (timetable_of I times) ≡ true → IsMember I (timetable_of I times)
member_from I times long is =
    let m : Times = timetable_of I times in
    let parts = and_parts (list_all (λ t. nat_lt t I.period) (values_of m.entries)) _ is in
    let more = and_parts (list_all (meets m) I.activities) (list_all (agrees m) I.events) parts.1 in
    record {
      period = refl;
      events = keys_of-zip (event_ids I) times long;
      below = λ k d l. ltb-true _ _ (AllPass-from_list_all (λ t. nat_lt t I.period) (values_of m.entries) parts.0 k d l);
      met = AllPass-from_list_all (meets m) I.activities more.0;
      window = AllPass-from_list_all (agrees m) I.events more.1;
    }

-- what passes each list of times holds of each member
of_every : (I : Network) (test : Times → Bool) → every_list (λ times. test (timetable_of I times)) I.period (length (event_ids I)) ≡ true → (m : Times) → IsMember I m → test m ≡ true
of_every I test every m member =
    subst (λ n. test n ≡ true) (sym (member_timed I m member))
    (every_passes (λ times. test (timetable_of I times)) I.period (length (event_ids I)) every (values_of m.entries) (length-values_of m.entries ∙ ap length member.events) member.below)

-- ---- the order

-- whether the entries precede the others
abbrev precedes : List (ℕ × ℕ) → List (ℕ × ℕ) → Bool
precedes [] ys = false
precedes (x ∷ xs) [] = false
precedes (x ∷ xs) (y ∷ ys) = nat_lt x.1 y.1 || (x.1 == y.1 && precedes xs ys)

precedes_passes : (xs ys : List (ℕ × ℕ)) → Precedes xs ys → precedes xs ys ≡ true
precedes_passes [] ys h = absurd h
precedes_passes (x ∷ xs) [] h = absurd h
precedes_passes (x ∷ xs) (y ∷ ys) (inl less) = rw (lt-ltb x.1 y.1 less) refl
precedes_passes (x ∷ xs) (y ∷ ys) (inr (same, later)) = or_right (nat_lt x.1 y.1) _ (and_from _ _ (eq-eqb x.1 y.1 same) (precedes_passes xs ys later))

-- one thing, where another holds
then : (x y : Bool) → (not x || y) ≡ true → x ≡ true → y ≡ true
then true y h is = h
then false y h is = absurd (false≢true is)

-- ---- answers

-- whether a timetable is no member, or costs at least as much, and more where it precedes
abbrev is_no_better : Network → Times → ℕ → Times → Bool
is_no_better I m cost n = not (is_member I n) || (nat_le cost (cost_of I n) && (not (precedes n.entries m.entries) || nat_lt cost (cost_of I n)))

-- whether the times are a member at the cost, and no other times are better
abbrev pub is_optimum : Network → List ℕ → ℕ → Bool
is_optimum I times cost =
    is_member I (timetable_of I times)
    && (cost_of I (timetable_of I times) == cost && every_list (λ others. is_no_better I (timetable_of I times) cost (timetable_of I others)) I.period (length (event_ids I)))

pub optimum_is : (I : Network) (times : List ℕ) (cost : ℕ) → length times ≡ length (event_ids I) → is_optimum I times cost ≡ true → IsOptimum I (timetable_of I times) cost
optimum_is I times cost long is =
    let m : Times = timetable_of I times in
    let parts = and_parts (is_member I m) _ is in
    let more = and_parts (cost_of I m == cost) _ parts.1 in
    let every = of_every I (is_no_better I m cost) more.1 in
    record {
      member = member_from I times long parts.0;
      costs = eqb-true (cost_of I m) cost more.0;
      least = λ n member.
          let told = then (is_member I n) _ (every n member) (member_passes I n member) in
          leb-true cost (cost_of I n) (and_parts (nat_le cost (cost_of I n)) _ told).0;
      first = λ n member before.
          let told = then (is_member I n) _ (every n member) (member_passes I n member) in
          ltb-true cost (cost_of I n) (then (precedes n.entries m.entries) _ (and_parts (nat_le cost (cost_of I n)) _ told).1 (precedes_passes n.entries m.entries before));
    }

-- whether no times are a member
abbrev pub is_infeasible : Network → Bool
is_infeasible I = every_list (λ others. not (is_member I (timetable_of I others))) I.period (length (event_ids I))

pub infeasible_is : (I : Network) → is_infeasible I ≡ true → IsAnswer I Infeasible
infeasible_is I is m member = false≢true (sym (ap not (member_passes I m member)) ∙ of_every I (λ n. not (is_member I n)) is m member)
