-- What the counts settle by place, the domains settle by number.
use Rattle.std.proofs.Common.{◌≡◌, ℕ, ◌<◌, ◌==◌, ◌&&◌, Bool, true, false, List, Option, Some, None, is_some, refl, sym, ap, subst, ◌∙◌, arith, IsTrue}
use Rattle.std.specs.List.{Contains, list_any}
use Rattle.std.specs.Option.{option_map_or}
use Rattle.std.proofs.lemmas.Bool.{false≢true}
use Rattle.pesp_base.specs.declared.activity.Activity.{Activity}
use Rattle.pesp_instance.specs.Network.{Network, has_event}
use Rattle.pesp_domains.specs.declared.pair.Pair.{Pair}
use Rattle.pesp_domains.specs.declared.side.Side.{Side}
use Rattle.pesp_domains.specs.Domains.{InDomains, other, own}
use Rattle.pesp_domains.specs.Sweeps.{AreDomains, Covers, IsSettledAt, Of, Pairs, Settles}
use Rattle.pesp_domains.proofs.Laws.{InDomains-admitted, InDomains-stands, settled_domains}
use Rattle.pesp_domains.proofs.Sweeps.{left, swept, swept_at_last}
use Rattle.pesp_counts_arcs.specs.Ends.{end_at, passes}
use Rattle.pesp_counts_supports.specs.Counts.{IsClosed, KeepsClosed, has_at}
use Rattle.pesp_counts.specs.Keeping.{rows_of}
use Rattle.pesp_counts_supports.specs.Resting.{AreAtRest, AreLive}
use Rattle.pesp_counts_arcs.specs.Links.{Links, StandFor, end_number}
use Rattle.pesp_counts_arcs.specs.Places.{Places, number_at, numbered, place_of}
use Rattle.pesp_counts_supports.specs.Supports.{AreExact, AreLevel, Supports}
use Rattle.pesp_base.proofs.Tests.{same_value}
use Rattle.pesp_counts_supports.proofs.Supporters.{supporters_from, supporters_some}

-- ---- what an option holds

pub some_of : {X : Type 0} (o : Option X) → is_some o ≡ true → (x : X) × (o ≡ Some x)
some_of None h = absurd (false≢true h)
some_of (Some x) h = (x, refl)

pub test_of : {X : Type 0} (test : X → Bool) (o : Option X) → IsTrue (option_map_or test o false) → (x : X) × (o ≡ Some x) × IsTrue (test x)
test_of test None h = absurd (false≢true h)
test_of test (Some x) h = (x, refl, h)

-- ---- sets by place and by number

-- whether a set by number has the pair of a place
abbrev pub placed : Places → Pairs → Pairs
placed events D p r = option_map_or (λ e. D e r) (number_at events p) false

-- at the place of a number the set by place is the one by number
pub numbered_at : (events : Places) (S : Pairs) (e p r : ℕ) → place_of events e ≡ Some p → numbered events S e r ≡ S p r
numbered_at events S e p r at = ap (λ o. option_map_or (λ q. S q r) o false) at

placed_at : (events : Places) (D : Pairs) (e p r : ℕ) → number_at events p ≡ Some e → placed events D p r ≡ D e r
placed_at events D e p r at = ap (λ o. option_map_or (λ f. D f r) o false) at

-- what two sets have alike by place they have alike by number
pub numbered_same : (events : Places) (S S' : Pairs) → ((p r : ℕ) → S' p r ≡ S p r) → (e r : ℕ) → numbered events S' e r ≡ numbered events S e r
numbered_same events S S' same e r = ap (λ (test : ℕ → Bool). option_map_or test (place_of events e) false) (λ i p. same p r i)

module _ (I : Network) (links : Links) (stand : StandFor I links) where
  pub place_is : (e : ℕ) → IsTrue (has_event I e) → (p : ℕ) × (place_of links.events e ≡ Some p)
  place_is e is = some_of (place_of links.events e) (stand.of_events e ∙ is)

  -- the domains, by place, are closed
  domains_closed : (pushes : List Pair) (D : Pairs) → ((e r : ℕ) → Of D e r → InDomains I pushes e r) → ((e r : ℕ) → InDomains I pushes e r → Of D e r) → IsClosed I.period links.ends links.lists (placed links.events D)
  domains_closed pushes D into from =
      record {
        each = λ p r k h is.
            let e = test_of (λ e. D e r) (number_at links.events p) h in
            let l = stand.only p k is in
            let same : e.0 ≡ own l.side l.activity = same_value (number_at links.events p) e.0 _ e.1 ((stand.events.paired (own l.side l.activity) p).0 l.is_end.at) in
            let q = (InDomains-stands I pushes e.0 r (into e.0 r e.2)).partner l.side l.activity l.there (sym same) in
            let below = (InDomains-admitted I pushes e.0 r (into e.0 r e.2)).below in
            let low = (InDomains-admitted I pushes _ q.0 q.1).below in
            subst (λ j. (s : ℕ) × (s < I.period) × Of (placed links.events D) (end_at links.ends j).looks_at s × IsTrue (passes I.period (end_at links.ends j) r s)) (sym l.number) (
              q.0,
              low,
              placed_at links.events D (other l.side l.activity) _ q.0 ((stand.events.paired (other l.side l.activity) _).0 l.is_end.looks) ∙ from (other l.side l.activity) q.0 q.1,
              (l.is_end.joins r q.0 below low).1 q.2,
            );
      }

  -- what keeps closed sets keeps the domains
  pub covers_kept : (pushes : List Pair) (before after : Pairs) → KeepsClosed I.period links.ends links.lists before after → Covers I pushes (numbered links.events before) → Covers I pushes (numbered links.events after)
  covers_kept pushes before after keeps covers =
      let n = swept_at_last I pushes in
      let D : Pairs = λ e r. list_any (λ p. p.event == e && p.residue == r) (left I pushes n.0) in
      let closed = domains_closed pushes D (λ e r. (swept I pushes n.0 n.1 e r).0) (λ e r. (swept I pushes n.0 n.1 e r).1) in
      record {
        each = λ e r i.
            let p = place_is e (InDomains-admitted I pushes e r i).of_event in
            let here = placed_at links.events D e p.0 r ((stand.events.paired e p.0).0 p.1) ∙ (swept I pushes n.0 n.1 e r).1 i in
            numbered_at links.events after e p.0 r p.1
            ∙ keeps.keeps (placed links.events D) closed
            (λ q s h.
            let f = test_of (λ f. D f s) (number_at links.events q) h in
            sym (numbered_at links.events before f.0 q s ((stand.events.paired f.0 q).1 f.1)) ∙ covers.each f.0 s ((swept I pushes n.0 n.1 f.0 s).0 f.2))
            p.0 r here;
      }

  -- with nothing left to count out each pair has its partners
  pub settled_kept : (s : Supports) → s.period ≡ I.period → AreAtRest links s → (side : Side) (a : Activity) → Contains I.activities a → IsSettledAt I.period (rows_of links s) side a
  settled_kept s period h side a is =
      let w = stand.all side a is in
      let k : ℕ = end_number side w.1 in
      record {
        each = λ r below i.
            let low : r < s.period = omega (arith, period, below) in
            let here = sym (numbered_at links.events (has_at s.rows) (own side a) w.0 r w.2.at) ∙ i in
            let some = h.live w.0 k w.2.listed r low here in
            let exact = h.exact w.0 k w.2.listed r low in
            let q = supporters_some s.period (has_at s.counted (end_at links.ends k).looks_at) (passes s.period (end_at links.ends k) r) (subst (λ n. 0 < n) exact some) in
            let ql : q.0 < I.period = omega (arith, period, q.1) in
            (q.0, numbered_at links.events (has_at s.rows) (other side a) _ q.0 w.2.looks ∙ sym (h.level _ q.0) ∙ q.2, (w.2.joins r q.0 below ql).0 (subst (λ n. IsTrue (passes n (end_at links.ends k) r q.0)) period q.3));
      }

  -- taking out and counting out, until nothing waits, settles
  pub counts_settle : (before : Pairs) (s : Supports) → s.period ≡ I.period → AreAtRest links s → KeepsClosed s.period links.ends links.lists before (has_at s.rows) → Settles I (numbered links.events before) (rows_of links s)
  counts_settle before s period h keeps =
      record {
        settles = λ pushes admitted covers.
            settled_domains I pushes (rows_of links s)
            (record {
              each = λ e r i.
                  let p = test_of (λ p. has_at s.rows p r) (place_of links.events e) i in
                  admitted.each e r (numbered_at links.events before e p.0 r p.1 ∙ keeps.fewer p.0 r p.2);
            })
            (covers_kept pushes before (has_at s.rows) (subst (λ n. KeepsClosed n links.ends links.lists before (has_at s.rows)) period keeps) covers)
            (settled_kept s period h);
      }

  -- where the rows are the domains, and the counts those of the rows, each pair has its counts above 0
  pub domains_live : (pushes : List Pair) (s : Supports) → s.period ≡ I.period → AreExact links s (has_at s.counted) → AreLevel s → AreDomains I pushes (rows_of links s) → AreLive links s
  domains_live pushes s period exact level domains p k is r low here =
      let l = stand.only p k is in
      let below : r < I.period = omega (arith, period, low) in
      let i = (domains.exact (own l.side l.activity) r).0 (numbered_at links.events (has_at s.rows) (own l.side l.activity) p r l.is_end.at ∙ here) in
      let q = (InDomains-stands I pushes _ r i).partner l.side l.activity l.there refl in
      let ql = (InDomains-admitted I pushes _ q.0 q.1).below in
      let qs : q.0 < s.period = omega (arith, period, ql) in
      let there : IsTrue (has_at s.counted (end_at links.ends (end_number l.side l.place)).looks_at q.0) =
      level _ q.0 ∙ sym (numbered_at links.events (has_at s.rows) (other l.side l.activity) _ q.0 l.is_end.looks) ∙ (domains.exact (other l.side l.activity) q.0).1 q.1
      in
      let passes_there : IsTrue (passes s.period (end_at links.ends (end_number l.side l.place)) r q.0) = subst (λ n. IsTrue (passes n (end_at links.ends (end_number l.side l.place)) r q.0)) (sym period) ((l.is_end.joins r q.0 below ql).1 q.2) in
      let some = supporters_from s.period (has_at s.counted (end_at links.ends k).looks_at) (passes s.period (end_at links.ends k) r) q.0 qs
      (subst (λ j. IsTrue (has_at s.counted (end_at links.ends j).looks_at q.0)) (sym l.number) there)
      (subst (λ j. IsTrue (passes s.period (end_at links.ends j) r q.0)) (sym l.number) passes_there)
      in
      subst (λ n. 0 < n) (sym (exact p k is r low)) some
