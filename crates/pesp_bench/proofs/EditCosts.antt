-- What the activity that is edited costs before the edit and after it.
use Rattle.std.proofs.Common.{◌≡◌, ℕ, cond, ◌==◌, is_none, false, List, ◌∷◌, Option, Some, None, option_map, Ok, refl, sym, ap, ◌∙◌}
use Rattle.std.specs.Option.{option_map_or}
use Rattle.std.proofs.lemmas.Bool.{eq-eqb, false≢true}
use Rattle.pesp_base.specs.declared.activity.Activity.{Activity}
use Rattle.pesp_base.specs.declared.refusal.Refusal.{Refusal}
use Rattle.pesp_base.specs.Refusals.{unless_refused}
use Rattle.pesp_instance.specs.declared.edit.Edit.{Edit}
use Rattle.pesp_instance.specs.declared.edit.Edit.TheVariants.{AddActivity, DropActivity, SetSpan, SetWeight, SetEnds}
use Rattle.pesp_instance.specs.Edited.{changed, edited, no_activity}
use Rattle.pesp_instance.specs.Network.{Network, activity_of}
use Rattle.pesp_instance.proofs.Numbers.{activity_number as id_of}
use Rattle.pesp_instance.proofs.Rising.{number-with_number, with_number-change_in}
use Rattle.pesp_tension.specs.Answers.{cost_in}
use Rattle.pesp_tension.specs.Timetables.{Times}
use Rattle.pesp_domains.proofs.Edits.{effect_is}
use Rattle.pesp_bench.specs.Costing.{cost_changed, cost_edited, cost_of_number}
use Rattle.pesp_bench.proofs.CostMoves.{absent, added, gone}
use Rattle.pesp_bench.proofs.KeptAnswers.{not_refused}

-- what is found under a number costs so much
found_cost : (I : Network) (m : Times) (n : ℕ) (o : Option Activity) (cost : ℕ) → activity_of I n ≡ o → cost ≡ option_map_or (cost_in m) o 0 → cost ≡ cost_of_number I m n
found_cost I m n o cost found is = is ∙ sym (ap (λ p. option_map_or (cost_in m) p 0) found)

-- of an activity that is added
pub costs_added : (I J : Network) (m : Times) (a : Activity) (after : ℕ) → edited I (AddActivity a) ≡ Ok J → after ≡ cost_in m a → (0 ≡ cost_edited I m (AddActivity a)) × (after ≡ cost_edited J m (AddActivity a))
costs_added I J m a after makes is = (
  found_cost I m a.id None 0 (absent I J a makes) refl,
  found_cost J m a.id (Some a) after (ap (λ K. activity_of K a.id) (effect_is I J (AddActivity a) makes) ∙ added I a) is,
)

-- the edit drops or changes the activity of the number
abbrev pub IsOf : ℕ → Edit → Type 0
IsOf n (DropActivity k) = k ≡ n
IsOf n (SetSpan k span) = k ≡ n
IsOf n (SetWeight k weight) = k ≡ n
IsOf n (SetEnds k from to) = k ≡ n
IsOf n edit = ⊥

found_so : (I J : Network) (k n : ℕ) (rest : List (Option Refusal)) (x : Network) → k ≡ n → unless_refused (no_activity I k ∷ rest) x ≡ Ok J → activity_of I n ≡ None → ⊥
found_so I J k n rest x same makes none =
    let there : is_none (activity_of I k) ≡ false = not_refused (is_none (activity_of I k)) _ rest x J makes in
    false≢true (sym there ∙ ap (λ i. is_none (activity_of I i)) same ∙ ap is_none none)

-- where it is accepted, that activity is there
pub some_found : (I J : Network) (edit : Edit) (n : ℕ) → edited I edit ≡ Ok J → activity_of I n ≡ None → IsOf n edit → ⊥
some_found I J (DropActivity k) n makes none same = found_so I J k n _ _ same makes none
some_found I J (SetSpan k span) n makes none same = found_so I J k n _ _ same makes none
some_found I J (SetWeight k weight) n makes none same = found_so I J k n _ _ same makes none
some_found I J (SetEnds k from to) n makes none same = found_so I J k n _ _ same makes none
some_found I J edit n makes none other = absurd other

-- another span, weight or ends
costs_set : (I J : Network) (m : Times) (n : ℕ) (change : Activity → Activity) → ((a : Activity) → (change a).id ≡ a.id) → (a : Activity) (before after : ℕ) → J ≡ changed I n change → activity_of I n ≡ Some a
    → before ≡ cost_in m a → after ≡ cost_in m (change a) → (before ≡ cost_of_number I m n) × (after ≡ cost_of_number J m n)
costs_set I J m n change keeps a before after at found was is = (found_cost I m n (Some a) before found was, found_cost J m n (Some (change a)) after becomes is)
  where
    becomes : activity_of J n ≡ Some (change a)
    becomes =
        ap (λ K. activity_of K n) at ∙ with_number-change_in id_of n n change keeps I.activities ∙ ap (option_map (λ x. cond (id_of x == n) (change x) x)) found
        ∙ ap (λ b. Some (cond b (change a) a)) (eq-eqb a.id n (number-with_number id_of n I.activities a found))

-- of an activity that is dropped or changed
pub costs_found : (I J : Network) (m : Times) (edit : Edit) (n : ℕ) (a : Activity) (before after : ℕ) → edited I edit ≡ Ok J → activity_of I n ≡ Some a
    → before ≡ cost_in m a → after ≡ cost_changed m edit a → IsOf n edit → (before ≡ cost_edited I m edit) × (after ≡ cost_edited J m edit)
costs_found I J m (DropActivity k) n a before after makes found was is same = (
  found_cost I m k (Some a) before (ap (activity_of I) same ∙ found) was,
  found_cost J m k None after (ap (λ K. activity_of K k) (effect_is I J (DropActivity k) makes) ∙ gone I k) is,
)
costs_found I J m (SetSpan k span) n a before after makes found was is same =
    costs_set I J m k (λ x. record x { span = span }) (λ x. refl) a before after (effect_is I J (SetSpan k span) makes) (ap (activity_of I) same ∙ found) was is
costs_found I J m (SetWeight k weight) n a before after makes found was is same =
    costs_set I J m k (λ x. record x { weight = weight }) (λ x. refl) a before after (effect_is I J (SetWeight k weight) makes) (ap (activity_of I) same ∙ found) was is
costs_found I J m (SetEnds k from to) n a before after makes found was is same =
    costs_set I J m k (λ x. record x { from = from; to = to }) (λ x. refl) a before after (effect_is I J (SetEnds k from to) makes) (ap (activity_of I) same ∙ found) was is
costs_found I J m edit n a before after makes found was is other = absurd other
