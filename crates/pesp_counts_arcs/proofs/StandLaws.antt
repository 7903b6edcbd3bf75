-- Places that stand for an instance: what is so of them, and what leaves them so.
use Rattle.std.proofs.Common.{◌≡◌, ℕ, ◌<◌, ◌≤◌, ◌==◌, ◌↔◌, Bool, true, false, if◌then◌else◌, Some, is_some, Ok, IsTrue, length, refl, sym, ap, subst, ◌∙◌, inl, inr, arith}
use Rattle.std.specs.List.{Contains}
use Rattle.std.specs.Option.{unwrap_or}
use Rattle.std.proofs.lemmas.Bool.{cases_eq}
use Rattle.pesp_base.specs.declared.activity.Activity.{Activity}
use Rattle.pesp_base.specs.Tensions.{IsMet}
use Rattle.pesp_instance.specs.declared.edit.Edit.{Edit}
use Rattle.pesp_instance.specs.declared.edit.Edit.TheVariants as edits
use Rattle.pesp_instance.specs.Edited.{changed, edited, effect}
use Rattle.pesp_instance.specs.Network.{Network, activity_of, has_event}
use Rattle.pesp_instance.proofs.Numbers.{activity_number as id_of}
use Rattle.pesp_instance.proofs.Rising.{with_number-change_in, with_number-put_in, with_number-take_out}
use Rattle.pesp_domains.proofs.Edits.{effect_is, keeps_fix, keeps_window, keeps_unfix}
use Rattle.pesp_domains.specs.declared.side.Side.{Side}
use Rattle.pesp_domains.specs.declared.side.Side.TheVariants.{Tail, Head}
use Rattle.pesp_domains.specs.Domains.{Joins, other, own}
use Rattle.pesp_counts_arcs.specs.declared.end.End.{End}
use Rattle.pesp_counts_arcs.specs.Ends.{AreLinked, IsEndAt, end_at, ends_of, passes}
use Rattle.pesp_counts_arcs.specs.Links.{IsEndOf, Links, LookSame, StandFor, end_number, opposite}
use Rattle.pesp_counts_arcs.specs.Lists.{AreShared}
use Rattle.pesp_counts_arcs.specs.Places.{ArePlaces, place_of}
use Rattle.pesp_counts_arcs.proofs.StandMembers.{in_change_other, in_change_same, of_change}

-- ---- sides

pub own_opposite : (side : Side) (a : Activity) → own (opposite side) a ≡ other side a
own_opposite Tail a = refl
own_opposite Head a = refl

pub other_opposite : (side : Side) (a : Activity) → other (opposite side) a ≡ own side a
other_opposite Tail a = refl
other_opposite Head a = refl

pub opposite_twice : (side : Side) → opposite (opposite side) ≡ side
opposite_twice Tail = refl
opposite_twice Head = refl

joins_turned : (side : Side) (period : ℕ) (a : Activity) (r s : ℕ) → Joins (opposite side) period a s r ≡ Joins side period a r s
joins_turned Tail period a r s = refl
joins_turned Head period a r s = refl

-- what is so of the tail and of the head is so of each side
abbrev pub by_side : (P : Side → Type 0) → P Tail → P Head → (side : Side) → P side
by_side P tail head Tail = tail
by_side P tail head Head = head

-- tests that hold of the same are one
same_test : (b c : Bool) (P Q : Type 0) → IsTrue b ↔ P → IsTrue c ↔ Q → Q ≡ P → b ≡ c
same_test true c P Q left right same = sym (right.1 (subst (λ X. X) (sym same) (left.0 refl)))
same_test false true P Q left right same = left.1 (subst (λ X. X) same (right.0 refl))
same_test false false P Q left right same = refl

pub some_same : (m n : ℕ) → Some m ≡ Some n → m ≡ n
some_same m n same = ap (λ o. unwrap_or o 0) same

-- ---- linked ends

module _ (I : Network) (links : Links) (stand : StandFor I links) where
  linked_end : (side : Side) (a : Activity) (p q : ℕ) → Contains I.activities a → Contains (ends_of links.lists p) (end_number side q) → IsEndOf I.period links side a p q → IsEndAt I.period links.ends links.lists p (end_number side q)
  linked_end side a p q there is end =
      let w = stand.all (opposite side) a there in
      let mate : IsEndOf I.period links (opposite side) a w.0 q = subst (λ n. IsEndOf I.period links (opposite side) a w.0 n) (some_same w.1 q (sym w.2.numbered ∙ end.numbered)) w.2 in
      let looks : w.0 ≡ (end_at links.ends (end_number side q)).looks_at = some_same _ _ (sym mate.at ∙ ap (place_of links.events) (own_opposite side a) ∙ end.looks) in
      let back : (end_at links.ends (end_number (opposite side) q)).looks_at ≡ p = some_same _ _ (sym mate.looks ∙ ap (place_of links.events) (other_opposite side a) ∙ end.at) in
      let turned : (end_at links.ends (end_number (opposite side) q)).mate ≡ end_number side q = mate.mate ∙ ap (λ s. end_number s q) (opposite_twice side) in
      record {
        within = stand.shared.within p (end_number side q) is;
        mate_there = subst (λ e. Contains (ends_of links.lists e) (end_at links.ends (end_number side q)).mate) looks (subst (Contains (ends_of links.lists w.0)) (sym end.mate) mate.listed);
        mate_looks = ap (λ k. (end_at links.ends k).looks_at) end.mate ∙ back;
        mate_back = ap (λ k. (end_at links.ends k).mate) end.mate ∙ turned;
        first = end.first;
        some = end.some;
        width = end.width;
        both_ways = λ r s rl sl.
            same_test _ _ (Joins side I.period a r s) (Joins (opposite side) I.period a s r)
            (end.joins r s rl sl)
            (subst (λ k. IsTrue (passes I.period (end_at links.ends k) s r) ↔ Joins (opposite side) I.period a s r) (sym end.mate) (mate.joins s r sl rl))
            (joins_turned side I.period a r s);
      }

  -- each listed end has its mate where it looks
  pub linked_from : AreLinked I.period links.ends links.lists
  linked_from =
      record {
        each = λ p k is.
            let w = stand.only p k is in
            subst (IsEndAt I.period links.ends links.lists p) (sym w.number) (linked_end w.side w.activity p w.place w.there (subst (Contains (ends_of links.lists p)) w.number is) w.is_end);
        once = stand.shared.once;
      }

-- ---- ends that are as before

pub joins_same : (side : Side) (period : ℕ) (a b : Activity) (r s : ℕ) → b.span ≡ a.span → Joins side period b r s ≡ Joins side period a r s
joins_same Tail period a b r s same = ap (λ span. IsMet period span r s) same
joins_same Head period a b r s same = ap (λ span. IsMet period span s r) same

-- an activity that has the place, the events' places and the span that one had before
pub record IsAsWas (before after : Links) (a b : Activity) : Type 0 where
  pub numbered : place_of after.activities b.id ≡ place_of before.activities a.id
  pub events : (side : Side) → place_of after.events (own side b) ≡ place_of before.events (own side a)
  pub span : b.span ≡ a.span

-- an end that is listed and looks as before is one of such an activity
pub end_kept : (period : ℕ) (before after : Links) (side : Side) (a b : Activity) (p q : ℕ) → IsAsWas before after a b → Contains (ends_of after.lists p) (end_number side q)
    → end_at after.ends (end_number side q) ≡ end_at before.ends (end_number side q) → IsEndOf period before side a p q → IsEndOf period after side b p q
end_kept period before after side a b p q was listed same end =
    record {
      numbered = was.numbered ∙ end.numbered;
      at = was.events side ∙ end.at;
      listed = listed;
      looks = ap (place_of after.events) (sym (own_opposite side b)) ∙ was.events (opposite side) ∙ ap (place_of before.events) (own_opposite side a)
          ∙ end.looks ∙ ap (λ (e : End). Some e.looks_at) (sym same);
      mate = ap (λ (e : End). e.mate) same ∙ end.mate;
      first = subst (λ (e : End). e.first < period) (sym same) end.first;
      some = subst (λ (e : End). 0 < e.width) (sym same) end.some;
      width = subst (λ (e : End). e.width ≤ period) (sym same) end.width;
      joins = λ r s rl sl.
          subst (λ (e : End). IsTrue (passes period e r s) ↔ Joins side period b r s) (sym same)
          (subst (λ X. IsTrue (passes period (end_at before.ends (end_number side q)) r s) ↔ X) (sym (joins_same side period a b r s was.span)) (end.joins r s rl sl));
    }

-- links with the ends and the lists as before stand for a network whose activities are as those were
module _ (I J : Network) (before after : Links) (period : I.period ≡ J.period)
    (ends : (k : ℕ) → end_at after.ends k ≡ end_at before.ends k)
    (lists : (p : ℕ) → ends_of after.lists p ≡ ends_of before.lists p)
    (into : (b : Activity) → Contains J.activities b → (a : Activity) × Contains I.activities a × IsAsWas before after a b)
    (back : (a : Activity) → Contains I.activities a → (b : Activity) × Contains J.activities b × IsAsWas before after a b)
    (are_events : ArePlaces after.events)
    (are_activities : ArePlaces after.activities)
    (of_events : (e : ℕ) → is_some (place_of after.events e) ≡ has_event J e)
    (of_activities : (n : ℕ) → is_some (place_of after.activities n) ≡ is_some (activity_of J n))
    (shared : AreShared (length after.ends) after.lists)
    (stand : StandFor I before) where
  kept : (side : Side) (a b : Activity) (p q : ℕ) → IsAsWas before after a b → IsEndOf I.period before side a p q → IsEndOf J.period after side b p q
  kept side a b p q same end =
      subst (λ t. IsEndOf t after side b p q) period
      (end_kept I.period before after side a b p q same (subst (λ xs. Contains xs (end_number side q)) (sym (lists p)) end.listed) (ends (end_number side q)) end)

  pub stands_on : StandFor J after
  stands_on =
      record {
        events = are_events;
        activities = are_activities;
        of_events = of_events;
        of_activities = of_activities;
        shared = shared;
        all = λ side b there.
            let a = into b there in
            let w = stand.all side a.0 a.1 in
            (w.0, w.1, kept side a.0 b w.0 w.1 a.2 w.2);
        only = λ p k is.
            let w = stand.only p k (subst (λ xs. Contains xs k) (lists p) is) in
            let b = back w.activity w.there in
            record {
              side = w.side;
              activity = b.0;
              place = w.place;
              there = b.1;
              number = w.number;
              is_end = kept w.side w.activity b.0 p w.place b.2 w.is_end;
            };
      }

-- links of which all look-ups are as before stand for what those before do
pub stands_same : (I : Network) (before after : Links) → LookSame before after → StandFor I before → StandFor I after
stands_same I before after same stand =
    stands_on I I before after refl same.ends same.lists (λ a there. (a, there, as_was a)) (λ a there. (a, there, as_was a)) same.are_events same.are_activities
    (λ e. ap is_some (same.events e) ∙ stand.of_events e)
    (λ n. ap is_some (same.activities n) ∙ stand.of_activities n)
    same.shared stand
  where
    as_was : (a : Activity) → IsAsWas before after a a
    as_was a = record { numbered = same.activities a.id; events = λ side. same.events (own side a); span = refl }

-- ---- edits that leave events, ends and spans

as_it_is : (links : Links) (a : Activity) → IsAsWas links links a a
as_it_is links a = record { numbered = refl; events = λ side. refl; span = refl }

-- an edit that leaves the activities, and which events there are
pub stands_kept : (I J : Network) (links : Links) → I.period ≡ J.period → I.activities ≡ J.activities → ((e : ℕ) → has_event J e ≡ has_event I e) → StandFor I links → StandFor J links
stands_kept I J links period activities events stand =
    stands_on I J links links period (λ k. refl) (λ p. refl)
    (λ a there. (a, subst (λ xs. Contains xs a) (sym activities) there, as_it_is links a))
    (λ a there. (a, subst (λ xs. Contains xs a) activities there, as_it_is links a))
    stand.events stand.activities
    (λ e. stand.of_events e ∙ sym (events e))
    (λ n. stand.of_activities n ∙ ap (λ xs. is_some (activity_of (record I { activities = xs }) n)) activities)
    stand.shared stand

pub stands_for : (I J : Network) (edit : Edit) (links : Links) → edited I edit ≡ Ok J → StandFor (effect I edit) links → StandFor J links
stands_for I J edit links ok = subst (λ K. StandFor K links) (sym (effect_is I J edit ok))

pub stands_fix : (I J : Network) (links : Links) (e t : ℕ) → edited I (edits.Fix e t) ≡ Ok J → StandFor I links → StandFor J links
stands_fix I J links e t ok stand =
    stands_for I J (edits.Fix e t) links ok (stands_kept I (effect I (edits.Fix e t)) links refl refl (keeps_fix e t I).1 stand)

pub stands_window : (I J : Network) (links : Links) (e first length : ℕ) → edited I (edits.SetWindow e first length) ≡ Ok J → StandFor I links → StandFor J links
stands_window I J links e first length ok stand =
    stands_for I J (edits.SetWindow e first length) links ok (stands_kept I (effect I (edits.SetWindow e first length)) links refl refl (keeps_window e first length I).1 stand)

pub stands_unfix : (I J : Network) (links : Links) (e : ℕ) → edited I (edits.Unfix e) ≡ Ok J → StandFor I links → StandFor J links
stands_unfix I J links e ok stand =
    stands_for I J (edits.Unfix e) links ok (stands_kept I (effect I (edits.Unfix e)) links refl refl (keeps_unfix e I).1 stand)

-- ---- which activities there are

pub has_changed : (I : Network) (n m : ℕ) (change : Activity → Activity) → ((a : Activity) → (change a).id ≡ a.id) → is_some (activity_of (changed I n change) m) ≡ is_some (activity_of I m)
has_changed I n m change keeps = rw (with_number-change_in id_of m n change keeps I.activities) (grind arith)

pub has_put : (I : Network) (a : Activity) (m : ℕ) → is_some (activity_of (effect I (edits.AddActivity a)) m) ≡ (if m == a.id then true else is_some (activity_of I m))
has_put I a m =
    rw (with_number-put_in id_of m a I.activities) (grind arith)

pub has_taken : (I : Network) (n m : ℕ) → is_some (activity_of (effect I (edits.DropActivity n)) m) ≡ (if m == n then false else is_some (activity_of I m))
has_taken I n m = rw (with_number-take_out id_of m n I.activities) (grind arith)

-- ---- a change of one activity

abbrev reweigh : ℕ → Activity → Activity
reweigh weight a = record a { weight = weight }

pub stands_weight : (I J : Network) (links : Links) (n weight : ℕ) → edited I (edits.SetWeight n weight) ≡ Ok J → StandFor I links → StandFor J links
stands_weight I J links n weight ok stand =
    stands_for I J (edits.SetWeight n weight) links ok
    (stands_on I (changed I n (reweigh weight)) links links refl (λ k. refl) (λ p. refl)
    (λ b there.
    let w = of_change id_of n (reweigh weight) I.activities b there in (
      w.0,
      w.1,
      elim w.2 [
        | inl is ↦ subst (IsAsWas links links w.0) is.1 (reweighed w.0)
        | inr is ↦ subst (IsAsWas links links w.0) is.1 (as_it_is links w.0)
      ],
    ))
    (λ a there.
    elim (cases_eq a.id n) [
      | inl same ↦ (reweigh weight a, in_change_same id_of n (reweigh weight) I.activities a there same, reweighed a)
      | inr apart ↦ (a, in_change_other id_of n (reweigh weight) I.activities a there apart, as_it_is links a)
    ])
    stand.events stand.activities stand.of_events
    (λ m. stand.of_activities m ∙ sym (has_changed I n m (reweigh weight) (λ a. refl)))
    stand.shared stand)
  where
    reweighed : (a : Activity) → IsAsWas links links a (reweigh weight a)
    reweighed a = record { numbered = refl; events = by_side (λ side. place_of links.events (own side (reweigh weight a)) ≡ place_of links.events (own side a)) refl refl; span = refl }
