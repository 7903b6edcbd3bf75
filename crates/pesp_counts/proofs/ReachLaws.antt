-- What a pass puts back by place is what the edit reaches.
use Rattle.std.proofs.Common.{◌≡◌, ℕ, ◌<◌, ◌&&◌, ◌||◌, nat_lt, false, List, [], Option, Some, is_some, Ok, sym, ap, subst, ◌∙◌, inl, inr, arith, IsTrue}
use Rattle.std.specs.List.{Contains}
use Rattle.std.specs.Option.{option_map_or}
use Rattle.std.proofs.lemmas.Bool.{and_from, and_parts, cases_Bool, false≢true, lt-ltb, ltb-true, or_left, or_right}
use Rattle.pesp_instance.specs.declared.edit.Edit.{Edit}
use Rattle.pesp_instance.specs.Edited.{edited}
use Rattle.pesp_instance.specs.Network.{Network, admits}
use Rattle.pesp_domains.specs.Domains.{IsAdmitted, Joins, other, own}
use Rattle.pesp_domains.specs.Sweeps.{Of}
use Rattle.pesp_domains.proofs.Edits.{effect_is}
use Rattle.pesp_domains.proofs.Families.{not_in_none}
use Rattle.pesp_counts_supports.specs.declared.trail.Placed.{Placed}
use Rattle.pesp_counts_arcs.specs.Ends.{end_at, ends_of, passes}
use Rattle.pesp_counts_supports.specs.Counts.{has_at}
use Rattle.pesp_counts.specs.Keeping.{AreSettled, rows_of}
use Rattle.pesp_counts_arcs.specs.Links.{Links, StandFor, end_number}
use Rattle.pesp_counts.specs.Loosened.{IsReach}
use Rattle.pesp_counts.specs.Changes.{AreReached, AreSpared, AreStarts}
use Rattle.pesp_counts_arcs.specs.Places.{number_at, place_of}
use Rattle.pesp_counts.specs.Reached.{IsOutside, Reached, starts as begins_in}
use Rattle.pesp_counts.specs.Reached.Reached.{begins, follows}
use Rattle.pesp_counts_supports.specs.Restoring.{IsRestored, ReachedAt, admits_at, is_spared}
use Rattle.pesp_counts_supports.specs.Restoring.ReachedAt.{begins as begins_at, follows as follows_at}
use Rattle.pesp_counts_supports.specs.Supports.{Supports, is_in}
use Rattle.pesp_base.proofs.Tests.{same_value, or_second}
use Rattle.pesp_counts.proofs.Bridge.{numbered_at, place_is, test_of}
use Rattle.pesp_counts.proofs.Carried.{same_period}

pub outside_of : (I : Network) (edit : Edit) (e r : ℕ) → Reached I edit e r → IsOutside I edit e r
outside_of I edit _ _ (begins e r start out) = out
outside_of I edit _ _ (follows side a r s before is unedited joins out) = out

-- a chain begins somewhere
its_start : (I : Network) (edit : Edit) (e r : ℕ) → Reached I edit e r → (f : ℕ) × Contains (begins_in I edit) f
its_start I edit _ _ (begins e r start out) = (e, start)
its_start I edit _ _ (follows side a r s before is unedited joins out) = its_start I edit (other side a) s before

module _ (I J : Network) (edit : Edit) (links links' : Links) (s : Supports) (starts : List ℕ) (spared : Option ℕ) (h : AreSettled I [] links s) (made : edited I edit ≡ Ok J) (stand : StandFor J links') (events : (e p : ℕ) → place_of links'.events e ≡ Some p → place_of links.events e ≡ Some p) (start : AreStarts I edit links' starts) (others : (f : ℕ) → Contains (begins_in I edit) f → AreSpared I J edit links' spared) where
  abbrev At : ℕ → ℕ → Type 0
  At p r = ReachedAt s.period links' starts spared (admits_at J links') (has_at s.rows) p r

  periods : s.period ≡ J.period
  periods = h.fits.period ∙ sym (same_period I J edit h.network made)

  -- the rows before the edit, by place and by number
  before_at : (e p r : ℕ) → place_of links'.events e ≡ Some p → rows_of links s e r ≡ has_at s.rows p r
  before_at e p r at = numbered_at links.events (has_at s.rows) e p r (events e p at)

  admitted_after : (e r : ℕ) → IsOutside I edit e r → IsAdmitted J [] e r
  admitted_after e r o = subst (λ (K : Network). IsAdmitted K [] e r) (sym (effect_is I J edit made)) o.admitted

  below : (e r : ℕ) → Reached I edit e r → r < s.period
  below e r reached = let l = (admitted_after e r (outside_of I edit e r reached)).below in omega (arith, l, periods)

  admits_is : (e p r : ℕ) → place_of links'.events e ≡ Some p → admits_at J links' p r ≡ (nat_lt r J.period && admits J e r)
  admits_is e p r at = ap (λ o. option_map_or (λ f. nat_lt r J.period && admits J f r) o false) ((stand.events.paired e p).0 at)

  out_there : (e p r : ℕ) → place_of links'.events e ≡ Some p → IsOutside I edit e r → has_at s.rows p r ≡ false
  out_there e p r at o =
      elim (cases_Bool (has_at s.rows p r)) [
        | inr none ↦ none
        | inl there ↦ absurd (o.outside ((h.domains.exact e r).0 (before_at e p r at ∙ there)))
      ]

  admitted_there : (e p r : ℕ) → place_of links'.events e ≡ Some p → IsOutside I edit e r → Of (admits_at J links') p r
  admitted_there e p r at o = let a = admitted_after e r o in admits_is e p r at ∙ and_from _ _ (lt-ltb r J.period a.below) a.window

  outside_back : (e p r : ℕ) → place_of links'.events e ≡ Some p → has_at s.rows p r ≡ false → Of (admits_at J links') p r → IsOutside I edit e r
  outside_back e p r at none admitted =
      let both = and_parts _ _ (sym (admits_is e p r at) ∙ admitted) in
      let after : IsAdmitted J [] e r = record {
        of_event = sym (stand.of_events e) ∙ ap is_some at;
        below = ltb-true r J.period both.0;
        window = both.1;
        pushed = λ t i. absurd (not_in_none _ i);
      } in
      record {
        outside = λ i. false≢true (sym none ∙ sym (before_at e p r at) ∙ (h.domains.exact e r).1 i);
        admitted = subst (λ (K : Network). IsAdmitted K [] e r) (effect_is I J edit made) after;
      }

  -- what is reached by number is reached at its place
  reached_there : (e p r : ℕ) → place_of links'.events e ≡ Some p → Reached I edit e r → At p r
  reached_there _ p _ at (begins e r starts_here out) = begins_at p r (start.each e p starts_here at) (out_there e p r at out) (admitted_there e p r at out)
  reached_there _ p _ at (follows side a r t before is unedited joins out) =
      let f = its_start I edit (other side a) t before in
      let theirs = others f.0 f.1 in
      let w = stand.all side a (theirs.stays a is unedited) in
      let same : w.0 ≡ p = same_value (place_of links'.events (own side a)) w.0 p w.2.at at in
      let k : ℕ = end_number side w.1 in
      let rl : r < s.period = (let l = (admitted_after (own side a) r out).below in omega (arith, l, periods)) in
      let tl : t < s.period = below (other side a) t before in
      let joined : Joins side J.period a r t = subst (λ n. Joins side n a r t) (sym (same_period I J edit h.network made)) joins in
      let goes : IsTrue (passes J.period (end_at links'.ends k) r t) = (w.2.joins r t (omega (arith, rl, periods)) (omega (arith, tl, periods))).1 joined in
      follows_at p k r t (reached_there (other side a) (end_at links'.ends k).looks_at t w.2.looks before)
      (subst (λ q. Contains (ends_of links'.lists q) k) same w.2.listed) (theirs.apart side a w.1 is unedited w.2.numbered) rl tl
      (subst (λ n. IsTrue (passes n (end_at links'.ends k) r t)) (sym periods) goes) (out_there (own side a) p r at out) (admitted_there (own side a) p r at out)

  -- and the other way round
  reached_back : (p r : ℕ) → At p r → (e : ℕ) × (place_of links'.events e ≡ Some p) × Reached I edit e r
  reached_back _ _ (begins_at p r starts_here none admitted) =
      let w = start.only p starts_here in
      (w.0, w.2, begins w.0 r w.1 (outside_back w.0 p r w.2 none admitted))
  reached_back _ _ (follows_at p k r t before listed unspared rl tl goes none admitted) =
      let l = stand.only p k listed in
      let w = reached_back (end_at links'.ends k).looks_at t before in
      let f = its_start I edit w.0 t w.2 in
      let o = (others f.0 f.1).was l.side l.activity l.place l.there l.is_end.numbered (subst (λ j. is_spared spared j ≡ false) l.number unspared) in
      let looks : place_of links'.events (other l.side l.activity) ≡ Some (end_at links'.ends k).looks_at = l.is_end.looks ∙ ap (λ j. Some (end_at links'.ends j).looks_at) (sym l.number) in
      let same : w.0 ≡ other l.side l.activity = same_value (number_at links'.events (end_at links'.ends k).looks_at) w.0 (other l.side l.activity) ((stand.events.paired w.0 _).0 w.1) ((stand.events.paired (other l.side l.activity) _).0 looks) in
      let goes' : IsTrue (passes J.period (end_at links'.ends (end_number l.side l.place)) r t) = subst (λ n. IsTrue (passes n (end_at links'.ends (end_number l.side l.place)) r t)) periods (subst (λ j. IsTrue (passes s.period (end_at links'.ends j) r t)) l.number goes) in
      let joined = (l.is_end.joins r t (omega (arith, rl, periods)) (omega (arith, tl, periods))).0 goes' in (
        own l.side l.activity,
        l.is_end.at,
        follows l.side l.activity r t (subst (λ f. Reached I edit f t) same w.2) o.0 o.1
            (subst (λ n. Joins l.side n l.activity r t) (same_period I J edit h.network made) joined)
            (outside_back (own l.side l.activity) p r l.is_end.at none admitted),
      )

  module _ (s' : Supports) (back : List Placed) (restored : IsRestored J links' starts spared s s' back) where
    pub restored_reached : AreReached I edit links' back
    restored_reached =
        record {
          all = λ e p r at reached. restored.all p r (reached_there e p r at reached);
          only = λ p r i. reached_back p r (restored.only p r i);
          once = restored.once;
        }

    -- the rows are the domains before the edit, as far as their events stay, and just the reached pairs besides
    pub restored_reach : IsReach I edit (rows_of links s) (λ e r. rows_of links s e r || rows_of links' s' e r)
    restored_reach =
        record {
          more = λ e r i. or_left _ _ i;
          all = λ e r reached.
              let p = place_is J links' stand e (admitted_after e r (outside_of I edit e r reached)).of_event in
              or_right (rows_of links s e r) _
              (numbered_at links'.events (has_at s'.rows) e p.0 r p.1 ∙ restored.rows p.0 r ∙ or_right (has_at s.rows p.0 r) _ (restored.all p.0 r (reached_there e p.0 r p.1 reached)));
          only = λ e r i none.
              let p = test_of (λ p. has_at s'.rows p r) (place_of links'.events e) (or_second (rows_of links s e r) (rows_of links' s' e r) i none) in
              let out : has_at s.rows p.0 r ≡ false = sym (before_at e p.0 r p.1) ∙ none in
              let there = or_second (has_at s.rows p.0 r) (is_in back p.0 r) (sym (restored.rows p.0 r) ∙ p.2) out in
              let w = reached_back p.0 r (restored.only p.0 r there) in
              let same : w.0 ≡ e = same_value (number_at links'.events p.0) w.0 e ((stand.events.paired w.0 p.0).0 w.1) ((stand.events.paired e p.0).0 p.1) in
              subst (λ f. Reached I edit f r) same w.2;
        }
