-- An activity is listed no longer at an old end that is no end of the new one; events and slots stay.
use Rattle.std.proofs.Common.{◌≡◌, ℕ, Bool, true, false, ◌==◌, ◌&&◌, ◌||◌, not, refl, sym, ap, ◌∙◌}
use Rattle.std.proofs.lemmas.Bool.{eqb-true}
use Rattle.pesp_base.specs.declared.activity.Activity.{Activity}
use Rattle.pesp_instance.specs.Ends.{KeepsEvents, is_old_pair_of, lists}
use Rattle.pesp_instance.specs.Network.{is_end_of}
use Rattle.pesp_instance.proofs.ends.Table+Vertex.unlink_old.Goals as goal

-- by tests of an old end, whether it is an end of the new activity, and whether the number is its own
taken : (p a n l m : Bool) → a ≡ false → m ≡ (not (p && n) && l) → m ≡ (not ((p && not a) && n) && l)
taken true false n l m is less = less
taken true true n l m is less = absurd (cc)
taken false a n l m is less = less

left : (p a n l m : Bool) → a ≡ true → m ≡ l → m ≡ (not ((p && not a) && n) && l)
left true false n l m is same = absurd (cc)
left true true n l m is same = same
left false a n l m is same = same

twice : (b l : Bool) → (b && (b && l)) ≡ (b && l)
twice true l = refl
twice false l = refl

both : (p q s a b n l : Bool) → (p ≡ true → a ≡ s) → (q ≡ true → b ≡ s) → (not ((q && not b) && n) && (not ((p && not a) && n) && l)) ≡ (not (((p || q) && not s) && n) && l)
both false false s a b n l from to = refl
both true false s a b n l from to = rw (from refl) refl
both false true s a b n l from to = rw (to refl) refl
both true true s a b n l from to = rw (from refl, to refl) (twice (not (not s && n)) l)

-- what is listed once the two ends were looked at in turn
in_turn : (old new : Activity) (e n : ℕ) (l m k : Bool) → m ≡ (not ((old.from == e && not (is_end_of old.from new)) && old.id == n) && l) → k ≡ (not ((old.to == e && not (is_end_of old.to new)) && old.id == n) && m) → k ≡ (not (is_old_pair_of old new e n) && l)
in_turn old new e n l m k first second =
    second ∙ ap (λ x. not ((old.to == e && not (is_end_of old.to new)) && old.id == n) && x) first
    ∙ both (old.from == e) (old.to == e) (is_end_of e new) (is_end_of old.from new) (is_end_of old.to new) (old.id == n) l (λ at. ap (λ x. is_end_of x new) (eqb-true old.from e at)) (λ at. ap (λ x. is_end_of x new) (eqb-true old.to e at))

pub returns-then-not-is_end-2-clause-listed : goal.returns-then-not-is_end-2-clause-listed
returns-then-not-is_end-2-clause-listed c e n =
    let old = c.args.old.now in
    let new = c.args.new.now in
    let l = lists c.args.self.now.values e n in
    let m = lists c.if-not-is_end.self.values e n in
    let first : m ≡ (not ((old.from == e && not (is_end_of old.from new)) && old.id == n) && l) = elim c.if-not-is_end.branch [
      | goal.then-not-is_end w ↦ taken (old.from == e) (is_end_of old.from new) (old.id == n) l m (sym c.is_end.ensures ∙ w.if-not-is_end.true) (rw (w.self-is, ← c.get-number.ensures.value) (w.unlist_at.ensures.listed e n))
      | goal.else-not-is_end w ↦ left (old.from == e) (is_end_of old.from new) (old.id == n) l m (sym c.is_end.ensures ∙ w.if-not-is_end.false) (ap (λ t. lists t.values e n) w.self-is)
    ] in
    in_turn old new e n l m _ first (taken (old.to == e) (is_end_of old.to new) (old.id == n) m _ (sym c.is_end-2.ensures ∙ c.if-not-is_end-2.true) (rw (← c.get-number.ensures.value) (c.unlist_at-then-not-is_end-2.ensures.listed e n)))

pub returns-then-not-is_end-2-clause-kept : goal.returns-then-not-is_end-2-clause-kept
returns-then-not-is_end-2-clause-kept c =
    let first : KeepsEvents c.args.self.now c.if-not-is_end.self = elim c.if-not-is_end.branch [
      | goal.then-not-is_end w ↦ rw w.self-is w.unlist_at.ensures.kept
      | goal.else-not-is_end w ↦ rw w.self-is (record { events = refl; slots = refl })
    ] in
    let second = c.unlist_at-then-not-is_end-2.ensures.kept in
    record { events = second.events ∙ first.events; slots = second.slots ∙ first.slots }

pub returns-else-not-is_end-2-clause-listed : goal.returns-else-not-is_end-2-clause-listed
returns-else-not-is_end-2-clause-listed c e n =
    let old = c.args.old.now in
    let new = c.args.new.now in
    let l = lists c.args.self.now.values e n in
    let m = lists c.if-not-is_end.self.values e n in
    let first : m ≡ (not ((old.from == e && not (is_end_of old.from new)) && old.id == n) && l) = elim c.if-not-is_end.branch [
      | goal.then-not-is_end w ↦ taken (old.from == e) (is_end_of old.from new) (old.id == n) l m (sym c.is_end.ensures ∙ w.if-not-is_end.true) (rw (w.self-is, ← c.get-number.ensures.value) (w.unlist_at.ensures.listed e n))
      | goal.else-not-is_end w ↦ left (old.from == e) (is_end_of old.from new) (old.id == n) l m (sym c.is_end.ensures ∙ w.if-not-is_end.false) (ap (λ t. lists t.values e n) w.self-is)
    ] in
    in_turn old new e n l m m first (left (old.to == e) (is_end_of old.to new) (old.id == n) m m (sym c.is_end-2.ensures ∙ c.if-not-is_end-2.false) refl)

pub returns-else-not-is_end-2-clause-kept : goal.returns-else-not-is_end-2-clause-kept
returns-else-not-is_end-2-clause-kept c = elim c.if-not-is_end.branch [
  | goal.then-not-is_end w ↦ rw w.self-is w.unlist_at.ensures.kept
  | goal.else-not-is_end w ↦ rw w.self-is (record { events = refl; slots = refl })
]
