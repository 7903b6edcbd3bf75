-- The domains after an edit lie within those before it and the reached pairs.
use Rattle.std.proofs.Common.{◌≡◌, ℕ, ◌<◌, ◌==◌, ◌&&◌, ◌||◌, not, false, [], sym, ap, subst, ◌∙◌, inl, inr, ◌⊎◌, IsTrue, Ok, arith}
use Rattle.std.specs.List.{Contains, list_any}
use Rattle.std.proofs.lemmas.Bool.{and_from, and_parts, cases_Bool, false≢true, not-true, or_cases, or_left, or_right}
use Rattle.pesp_base.specs.declared.activity.Activity.{Activity}
use Rattle.pesp_instance.specs.declared.edit.Edit.{Edit}
use Rattle.pesp_instance.specs.Edited.{effect, edited}
use Rattle.pesp_instance.specs.Network.{IsNetwork, Network, has_event, admits}
use Rattle.pesp_domains.specs.declared.side.Side.{Side}
use Rattle.pesp_domains.specs.declared.side.Side.TheVariants.{Tail, Head}
use Rattle.pesp_domains.specs.Domains.{InDomains, IsAdmitted, Joins, Stands, other, own}
use Rattle.pesp_domains.specs.Sweeps.{AreDomains, Of, Pairs, Settles}
use Rattle.pesp_domains.proofs.Families.{not_in_none}
use Rattle.pesp_domains.proofs.Laws.{InDomains-admitted, InDomains-stands, Stands-more, standing_within}
use Rattle.pesp_domains.proofs.Passes.{own_is_event}
use Rattle.pesp_domains.proofs.Sweeps.{left, swept, swept_at_last}
use Rattle.pesp_counts.specs.Loosened.{AsksAgain, IsReach}
use Rattle.pesp_counts.specs.Reached.{IsOutside, Reached, is_edited, starts}
use Rattle.pesp_counts.specs.Reached.Reached.{begins, follows}
use Rattle.pesp_domains.proofs.Edits.{effect_is}
use Rattle.pesp_counts.proofs.Asks.{asks_again}

-- where no chain begins nothing is reached
pub reached_nowhere : (I : Network) (edit : Edit) (e r : ℕ) → starts I edit ≡ [] → Reached I edit e r → ⊥
reached_nowhere I edit _ _ none (begins e r start out) = not_in_none e (subst (λ xs. Contains xs e) none start)
reached_nowhere I edit _ _ none (follows side a r s before is unedited joins out) = reached_nowhere I edit (other side a) s none before

other_is_event : (I : Network) (side : Side) (a : Activity) → IsNetwork I → Contains I.activities a → IsTrue (has_event I (other side a))
other_is_event I Tail a network is = own_is_event I Head a network is
other_is_event I Head a network is = own_is_event I Tail a network is

module _ (I : Network) (edit : Edit) (network : IsNetwork I) (asks : AsksAgain I edit) (before reached : Pairs) (domains : AreDomains I [] before) (reach : IsReach I edit before reached) (D : Pairs) (sound : (e r : ℕ) → Of D e r → InDomains (effect I edit) [] e r) (complete : (e r : ℕ) → InDomains (effect I edit) [] e r → Of D e r) where
  abbrev J : Network
  J = effect I edit

  -- the old domains, and the new ones that are not reached, of events that were there
  abbrev union : Pairs
  union e r = before e r || (D e r && (not (reached e r) && has_event I e))

  module _ (e r : ℕ) (new : InDomains J [] e r) (event : IsTrue (has_event I e)) (far : reached e r ≡ false) where
    fresh : InDomains I [] e r → ⊥
    fresh i = false≢true (sym far ∙ reach.more e r ((domains.exact e r).1 i))

    outside : IsOutside I edit e r
    outside = record { outside = fresh; admitted = InDomains-admitted J [] e r new }

    no_start : Contains (starts I edit) e → ⊥
    no_start start = false≢true (sym far ∙ reach.all e r (begins e r start outside))

    below : r < I.period
    below = subst (λ n. r < n) asks.period (InDomains-admitted J [] e r new).below

    admitted_before : IsAdmitted I [] e r
    admitted_before =
        record {
          of_event = event;
          below = below;
          window = elim (asks.window e r below event (InDomains-admitted J [] e r new).of_event (InDomains-admitted J [] e r new).window) [ inl agrees ↦ agrees | inr start ↦ absurd (no_start start) ];
          pushed = λ s i. absurd (not_in_none _ i);
        }

    -- the partner along an heir is in the union
    partner_there : (side : Side) (a : Activity) (s : ℕ) → Contains I.activities a → own side a ≡ e → (is_edited edit a ≡ false) ⊎ (starts I edit ≡ []) → InDomains J [] (other side a) s → Joins side I.period a r s → Of union (other side a) s
    partner_there side a s is at unedited there joins =
        elim (cases_Bool (reached (other side a) s)) [
          | inr apart ↦
              or_right (before (other side a) s) _
              (and_from _ _ (complete (other side a) s there) (and_from _ _ (ap not apart) (other_is_event I side a network is)))
          | inl arrived ↦
              elim (cases_Bool (before (other side a) s)) [
                | inl was ↦ or_left _ _ was
                | inr was_not ↦
                    let reached_there = reach.only (other side a) s arrived was_not in
                    let here : Reached I edit e r =
                    elim unedited [
                      | inr none ↦ absurd (reached_nowhere I edit (other side a) s none reached_there)
                      | inl other_one ↦
                          subst (λ f. Reached I edit f r) at
                          (follows side a r s reached_there is other_one joins (subst (λ f. IsOutside I edit f r) (sym at) outside))
                    ]
                    in
                    absurd (false≢true (sym far ∙ reach.all e r here))
              ]
        ]

    stands_before : Stands I [] (Of union) e r
    stands_before =
        record {
          admitted = admitted_before;
          partner = λ side a is at.
              elim (asks.activities side a is) [
                | inl start ↦ absurd (no_start (subst (Contains (starts I edit)) at start))
                | inr heir ↦
                    let q = (InDomains-stands J [] e r new).partner side heir.heir heir.there (heir.own_end ∙ at) in
                    let there : InDomains J [] (other side a) q.0 = subst (λ f. InDomains J [] f q.0) heir.other_end q.1 in
                    let low : q.0 < I.period = subst (λ n. q.0 < n) asks.period (InDomains-admitted J [] (other side a) q.0 there).below in
                    let joins : Joins side I.period a r q.0 = heir.no_more r q.0 below low (subst (λ n. Joins side n heir.heir r q.0) asks.period q.2) in
                    (q.0, partner_there side a q.0 is at heir.unedited there joins, joins)
              ];
        }

  -- each pair of the union stands in the instance before the edit
  union_stands : (e r : ℕ) → Of union e r → Stands I [] (Of union) e r
  union_stands e r h =
      elim (or_cases (before e r) _ h) [
        | inl was ↦
            Stands-more I [] (InDomains I []) (Of union) (λ f s i. or_left _ _ ((domains.exact f s).1 i)) e r
            (InDomains-stands I [] e r ((domains.exact e r).0 was))
        | inr new ↦
            let w = and_parts _ _ new in
            let v = and_parts _ _ w.1 in
            stands_before e r (sound e r w.0) v.1 (not-true (reached e r) v.0)
      ]

  within_reach : (e r : ℕ) → IsTrue (has_event I e) → InDomains J [] e r → Of reached e r
  within_reach e r event new =
      elim (cases_Bool (reached e r)) [
        | inl there ↦ there
        | inr far ↦
            let i = standing_within I [] union union_stands e r (or_right (before e r) _ (and_from _ _ (complete e r new) (and_from _ _ (ap not far) event))) in
            reach.more e r ((domains.exact e r).1 i)
      ]

-- a pair of the domains after an edit, of an event that was there, was in them before or is reached
pub reach_covers : (I : Network) (edit : Edit) (before reached : Pairs) → IsNetwork I → AsksAgain I edit → AreDomains I [] before → IsReach I edit before reached → (e r : ℕ) → IsTrue (has_event I e) → InDomains (effect I edit) [] e r → Of reached e r
reach_covers I edit before reached network asks domains reach =
    let n = swept_at_last (effect I edit) [] in
    within_reach I edit network asks before reached domains reach (λ e r. list_any (λ p. p.event == e && p.residue == r) (left (effect I edit) [] n.0))
    (λ e r. (swept (effect I edit) [] n.0 n.1 e r).0) (λ e r. (swept (effect I edit) [] n.0 n.1 e r).1)

-- ---- an edit that brings no pair back

-- a pair of the new domains, of an event that was there, was in the old ones
pub old_covers : (I J : Network) (edit : Edit) (before : Pairs) → IsNetwork I → edited I edit ≡ Ok J → starts I edit ≡ [] → AreDomains I [] before → (e r : ℕ) → IsTrue (has_event I e) → InDomains J [] e r → Of before e r
old_covers I J edit before network made tight domains e r event new =
    reach_covers I edit before before network (asks_again I J edit network made) domains
    (record {
      more = λ f s h. h;
      all = λ f s h. absurd (reached_nowhere I edit f s tight h);
      only = λ f s h none. absurd (false≢true (sym none ∙ h));
    })
    e r event (subst (λ (K : Network). InDomains K [] e r) (effect_is I J edit made) new)

-- from a set of admitted pairs that has the old domains, as far as they may stay, settling ends at the new ones
pub tight_settles : (I J : Network) (edit : Edit) (before S after : Pairs) → IsNetwork I → edited I edit ≡ Ok J → starts I edit ≡ [] → AreDomains I [] before
    → ((e r : ℕ) → Of S e r → IsAdmitted J [] e r) → ((e r : ℕ) → IsAdmitted J [] e r → (IsTrue (has_event I e) → Of before e r) → Of S e r) → Settles J S after → AreDomains J [] after
tight_settles I J edit before S after network made tight domains admitted covers settles =
    settles.settles []
    (record { each = admitted })
    (record { each = λ e r i. covers e r (InDomains-admitted J [] e r i) (λ event. old_covers I J edit before network made tight domains e r event i) })

-- a pair of the old domains is admitted where its event is still there and admits it
pub still_admitted : (I J : Network) (before : Pairs) (e r : ℕ) → AreDomains I [] before → J.period ≡ I.period → Of before e r → IsTrue (has_event J e) → IsTrue (admits J e r) → IsAdmitted J [] e r
still_admitted I J before e r domains period h event agrees =
    let l = (InDomains-admitted I [] e r ((domains.exact e r).0 h)).below in
    record {
      of_event = event;
      below = omega (arith, l, period);
      window = agrees;
      pushed = λ s i. absurd (not_in_none _ i);
    }
