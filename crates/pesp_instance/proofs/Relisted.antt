-- After an edit each activity is listed at its ends, and nothing else is.
use Rattle.std.proofs.Common.{◌≡◌, ℕ, Bool, true, false, cond, ◌==◌, ◌&&◌, ◌||◌, not, List, [], ◌∷◌, filter, Option, Some, None, option_map, refl, sym, ap, ◌∙◌, inl, inr}
use Rattle.std.proofs.lemmas.Bool.{cases_eq, eq-eqb, ne_eqb}
use Rattle.pesp_base.specs.declared.activity.Activity.{Activity}
use Rattle.pesp_base.specs.Numbered.{with_number, put_in, take_out, change_in}
use Rattle.pesp_instance.specs.declared.vertex.Vertex.{Vertex}
use Rattle.pesp_instance.specs.Ends.{vertex_number, lists_at, lists, is_end_in, AreListed, ListTheSame}
use Rattle.pesp_instance.specs.Network.{is_end_of}
use Rattle.pesp_base.proofs.Tests.{or_elsewhere}
use Rattle.pesp_instance.proofs.Numbers.{activity_number as id_of}
use Rattle.pesp_instance.proofs.Rising.{with_number-put_in, with_number-take_out, with_number-change_in, number-with_number}

joined_here : (b : Bool) → ((b && true) || false) ≡ b
joined_here true = refl
joined_here false = refl

parted_here : (b : Bool) → (not (b && true) && b) ≡ false
parted_here true = refl
parted_here false = refl

parted_elsewhere : (b l : Bool) → (not (b && false) && l) ≡ l
parted_elsewhere true l = refl
parted_elsewhere false l = refl

moved_here : (a b : Bool) → (not ((a && not b) && true) && ((b && true) || a)) ≡ b
moved_here true true = refl
moved_here true false = refl
moved_here false true = refl
moved_here false false = refl

moved_elsewhere : (a b l : Bool) → (not ((a && not b) && false) && ((b && false) || l)) ≡ l
moved_elsewhere true true l = refl
moved_elsewhere true false l = refl
moved_elsewhere false true l = refl
moved_elsewhere false false l = refl

not_an_end : (e n : ℕ) (activities : List Activity) → filter (is_end_of e) activities ≡ [] → is_end_in e (with_number id_of n activities) ≡ false
not_an_end e n [] none = refl
not_an_end e n (a ∷ activities) none =
    elim (is_end_of e a) as (λ b. is_end_of e a ≡ b → cond b (a ∷ filter (is_end_of e) activities) (filter (is_end_of e) activities) ≡ [] → is_end_in e (cond (a.id == n) (Some a) (with_number id_of n activities)) ≡ false) [
      | true ↦ λ is not. absurd (cc)
      | false ↦ λ is later. elim (a.id == n) as (λ b. is_end_in e (cond b (Some a) (with_number id_of n activities)) ≡ false) [
        | true ↦ is
        | false ↦ not_an_end e n activities later
      ]
    ] refl none

module _ (activities : List Activity) where
  abbrev stored : ℕ → Option Activity
  stored n = with_number id_of n activities

  -- what is listed of a number that no activity has
  none_listed : (vertices : List Vertex) (e m n : ℕ) → AreListed vertices activities → stored m ≡ None → m ≡ n → lists vertices e n ≡ false
  none_listed vertices e m n listed absent same = listed e n ∙ ap (is_end_in e) (ap stored (sym same) ∙ absent)

  pub AreListed-put_in : (old new : List Vertex) (a : Activity) → AreListed old activities → stored a.id ≡ None → ((e n : ℕ) → lists new e n ≡ ((is_end_of e a && a.id == n) || lists old e n)) → AreListed new (put_in id_of a activities)
  AreListed-put_in old new a listed absent linked e n =
      rw (with_number-put_in id_of n a activities) (linked e n ∙ elim (cases_eq a.id n) [
        | inl same ↦ rw (eq-eqb a.id n same, none_listed old e a.id n listed absent same) (joined_here (is_end_of e a))
        | inr apart ↦ rw (ne_eqb a.id n apart) (or_elsewhere (is_end_of e a) (lists old e n) ∙ listed e n)
      ])

  pub AreListed-take_out : (old new : List Vertex) (m : ℕ) (a : Activity) → AreListed old activities → stored m ≡ Some a → ((e n : ℕ) → lists new e n ≡ (not (is_end_of e a && a.id == n) && lists old e n)) → AreListed new (take_out id_of m activities)
  AreListed-take_out old new m a listed is unlinked e n =
      let its : a.id ≡ m = number-with_number id_of m activities a is in
      rw (with_number-take_out id_of n m activities) (unlinked e n ∙ elim (cases_eq a.id n) [
        | inl same ↦
            let here : lists old e n ≡ is_end_of e a = listed e n ∙ ap (is_end_in e) (ap stored (sym same ∙ its) ∙ is) in
            rw (eq-eqb a.id n same, eq-eqb n m (sym same ∙ its), here) (parted_here (is_end_of e a))
        | inr apart ↦ rw (ne_eqb a.id n apart, ne_eqb n m (λ at. apart (its ∙ sym at))) (parted_elsewhere (is_end_of e a) (lists old e n) ∙ listed e n)
      ])

  -- a change that leaves the ends
  pub AreListed-change_in : (vertices : List Vertex) (m : ℕ) (change : Activity → Activity) → ((a : Activity) → (change a).id ≡ a.id) → ((e : ℕ) (a : Activity) → is_end_of e (change a) ≡ is_end_of e a) → AreListed vertices activities → AreListed vertices (change_in id_of m change activities)
  AreListed-change_in vertices m change keeps same listed e n =
      rw (with_number-change_in id_of n m change keeps activities) (listed e n ∙ elim (stored n) as (λ o. is_end_in e o ≡ is_end_in e (option_map (λ x. cond (x.id == m) (change x) x) o)) [
        | None ↦ refl
        | Some x ↦ elim (x.id == m) as (λ b. is_end_of e x ≡ is_end_of e (cond b (change x) x)) [ true ↦ sym (same e x) | false ↦ refl ]
      ])

  -- a change of the ends of one activity
  pub AreListed-moved : (old mid new : List Vertex) (m : ℕ) (change : Activity → Activity) (a : Activity) → ((x : Activity) → (change x).id ≡ x.id) → AreListed old activities → stored m ≡ Some a → ((e n : ℕ) → lists mid e n ≡ ((is_end_of e (change a) && (change a).id == n) || lists old e n)) → ((e n : ℕ) → lists new e n ≡ (not ((is_end_of e a && not (is_end_of e (change a))) && a.id == n) && lists mid e n)) → AreListed new (change_in id_of m change activities)
  AreListed-moved old mid new m change a keeps listed is linked unlinked e n =
      let its : a.id ≡ m = number-with_number id_of m activities a is in
      rw (with_number-change_in id_of n m change keeps activities) (unlinked e n ∙ rw (linked e n, keeps a) (elim (cases_eq a.id n) [
        | inl same ↦
            let at : stored n ≡ Some a = ap stored (sym same ∙ its) ∙ is in
            let here : lists old e n ≡ is_end_of e a = listed e n ∙ ap (is_end_in e) at in
            rw (eq-eqb a.id n same, here, at, eq-eqb a.id m its) (moved_here (is_end_of e a) (is_end_of e (change a)))
        | inr apart ↦
            rw (ne_eqb a.id n apart) (moved_elsewhere (is_end_of e a) (is_end_of e (change a)) (lists old e n) ∙ listed e n ∙ untouched (stored n) refl (λ at. apart (its ∙ sym at)))
      ]))
    where
      untouched : (o : Option Activity) → stored n ≡ o → (n ≡ m → ⊥) → is_end_in e o ≡ is_end_in e (option_map (λ x. cond (x.id == m) (change x) x) o)
      untouched None at apart = refl
      untouched (Some x) at apart =
          let other : (x.id == m) ≡ false = ne_eqb x.id m (λ same. apart (sym (number-with_number id_of n activities x at) ∙ same)) in
          rw other refl

  -- vertices that list the same
  pub AreListed-same : (old new : List Vertex) → ListTheSame old new → AreListed old activities → AreListed new activities
  AreListed-same old new same listed e n = same e n ∙ listed e n

  -- a new event, at which nothing is listed
  pub AreListed-added : (x : Vertex) (vertices : List Vertex) → AreListed vertices activities → with_number vertex_number (vertex_number x) vertices ≡ None → x.activities.keys ≡ [] → AreListed (put_in vertex_number x vertices) activities
  AreListed-added x vertices listed absent empty e n =
      rw (with_number-put_in vertex_number e x vertices) (elim (cases_eq (vertex_number x) e) [
        | inl same ↦
            rw (eq-eqb (vertex_number x) e same, empty) (sym (sym (listed e n) ∙ ap (λ o. lists_at o n) (ap (λ m. with_number vertex_number m vertices) (sym same) ∙ absent)))
        | inr apart ↦ rw (ne_eqb (vertex_number x) e apart) (listed e n)
      ])

  -- an event that is no end of an activity goes
  pub AreListed-dropped : (d : ℕ) (vertices : List Vertex) → AreListed vertices activities → filter (is_end_of d) activities ≡ [] → AreListed (take_out vertex_number d vertices) activities
  AreListed-dropped d vertices listed none e n =
      rw (with_number-take_out vertex_number e d vertices) (elim (cases_eq e d) [
        | inl same ↦ rw (eq-eqb e d same, same) (sym (not_an_end d n activities none))
        | inr apart ↦ rw (ne_eqb e d apart) (listed e n)
      ])
