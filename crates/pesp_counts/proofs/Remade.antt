-- Domains from full rows.
use Rattle.std.proofs.Common.{◌≡◌, ◌≢◌, ℕ, ◌+◌, ◌-◌, ◌%◌, ◌<◌, ◌==◌, ◌&&◌, ◌||◌, not, nat_lt, Bool, true, false, List, [], ◌∷◌, Some, is_some, length, refl, sym, ap, subst, ◌∙◌, inl, inr, arith, IsTrue, if◌then◌else◌}
use Rattle.std.specs.List.{Contains}
use Rattle.std.specs.Option.{option_and_then, option_map_or}
use Rattle.std.proofs.lemmas.Bool.{and_from, and_parts, cases_Bool, cases_eq, eq-eqb, lt-ltb, ne_eqb, false≢true, ltb-true}
use Rattle.std.proofs.lemmas.List.Elements.{All-contains}
use Rattle.pesp_base.specs.Numbered.{with_number}
use Rattle.pesp_instance.specs.declared.event.Event.{Event}
use Rattle.pesp_instance.specs.Network.{IsNetwork, Network, admits, agrees_with, event_of, has_event}
use Rattle.pesp_instance.proofs.Rising.{All-found, Rises, Rises-from_increasing, with_number-above}
use Rattle.pesp_domains.specs.Sweeps.{AreOpen, Pairs, narrowed_to}
use Rattle.pesp_domains.proofs.Opened.{opened}
use Rattle.pesp_domains.proofs.Pushes.{open_settles}
use Rattle.pesp_counts_arcs.specs.Ends.{end_at, passes}
use Rattle.pesp_counts_supports.specs.Counts.{ArePending, KeepsClosed, has_at}
use Rattle.pesp_counts.specs.Keeping.{AreFor, AreSettled, rows_of}
use Rattle.pesp_counts_supports.specs.Resting.{AreAtRest, AreLive}
use Rattle.pesp_counts_arcs.specs.Links.{Links, StandFor}
use Rattle.pesp_counts_arcs.specs.Places.{numbered, place_of}
use Rattle.pesp_counts_supports.specs.Supports.{AreExact, AreOut, HaveSameShape, IsTaken, Keeps, Supports}
use Rattle.pesp_base.proofs.Tests.{none_from}
use Rattle.pesp_counts.proofs.Bridge.{counts_settle, numbered_at, numbered_same, place_is}
use Rattle.pesp_counts.proofs.Keeping.{for_same, narrowed_numbered}
use Rattle.pesp_counts_supports.proofs.Marks.{keeps_like, out_more, pending_rest}
use Rattle.pesp_counts_supports.proofs.Supporters.{supporters_from}
use Rattle.pesp_counts_supports.proofs.Taken.{kept_shape, shape_then, taken_fewer, taken_then}
use Rattle.pesp_domains.proofs.Around.{mod_above}

-- ---- full rows

abbrev is_full : List (List Bool) → ℕ → Pairs
is_full rows period p r = nat_lt p (length rows) && nat_lt r period

pub out_none : (s : Supports) → s.trail ≡ [] → AreOut s s.trail
out_none s none =
    rw none
    (record {
      out = λ p r i. absurd (false≢true i);
      within = λ i d l. absurd (omega (arith, l));
      below = λ i d l. absurd (omega (arith, l));
      once = λ i j d lt l. absurd (omega (arith, l));
    })

-- with every residue some passes
some_passes : (period : ℕ) (first width r : ℕ) → 0 < period → 0 < width → nat_lt (((r + first) % period + (period - (r + first) % period)) % period) width ≡ true
some_passes period first width r some wide =
    let low : (r + first) % period < period = omega arith in
    let whole : (r + first) % period + (period - (r + first) % period) ≡ period = omega (arith, low) in
    let none : ((r + first) % period + (period - (r + first) % period)) % period ≡ 0 = ap (λ n. n % period) whole ∙ mod_above period period (omega arith) (omega (arith, some)) ∙ omega arith in
    lt-ltb _ width (omega (arith, none, wide))

full_live : (I : Network) (links : Links) (s : Supports) → AreFor I links s → AreExact links s (has_at s.counted) → ((p r : ℕ) → has_at s.counted p r ≡ is_full s.counted s.period p r) → AreLive links s
full_live I links s fits exact full p k is r rl here =
    let end = fits.fit.linked.each p k is in
    let e = end_at links.ends k in
    let low = fits.fit.counted e.looks_at e.mate end.mate_there in
    let x : ℕ = (r + e.first) % s.period in
    let xl : x < s.period = omega (arith, rl) in
    let there : IsTrue (has_at s.counted e.looks_at x) = full e.looks_at x ∙ and_from _ _ (lt-ltb e.looks_at (length s.counted) low) (lt-ltb x s.period xl) in
    let some = supporters_from s.period (has_at s.counted e.looks_at) (passes s.period e r) x xl there (some_passes s.period e.first e.width r (omega (arith, rl)) end.some) in
    subst (λ n. 0 < n) (sym (exact p k is r rl)) some

-- rows that were filled are at rest
pub full_as : (I : Network) (links : Links) (before s : Supports) → AreFor I links before → HaveSameShape before s → AreExact links s (has_at s.counted) → ((p r : ℕ) → has_at s.counted p r ≡ is_full before.counted before.period p r) → ((p r : ℕ) → has_at s.rows p r ≡ is_full before.rows before.period p r) → s.trail ≡ [] → AreAtRest links s
full_as I links before s fits shape exact counted rows trail =
    record {
      exact = exact;
      level = λ p r. counted p r ∙ ap (λ n. nat_lt p n && nat_lt r before.period) fits.even ∙ sym (rows p r);
      live = full_live I links s (for_same I links before s shape fits) exact (λ p r. rw (shape.counted, shape.period) (counted p r));
      below = λ p r i. rw shape.period (ltb-true r before.period (and_parts _ _ (sym (rows p r) ∙ i)).1);
      out = out_none s trail;
    }

-- what is settled from an open set are the domains
pub remade : (I : Network) (links : Links) (s m n : Supports) → IsNetwork I → AreFor I links s → AreAtRest links s → AreOpen I [] (rows_of links m) → IsTaken s m → Keeps s m
    → ArePending m.period links.ends links.lists n.counts (has_at n.counted) (has_at n.rows) n.trail (length n.trail) → KeepsClosed m.period links.ends links.lists (has_at m.rows) (has_at n.rows) → IsTaken m n → HaveSameShape m n → AreSettled I [] links n
remade I links s m n network fits rest all taken keeps pending closed more shape =
    let both = taken_then s m n taken more in
    let whole = shape_then s m n (kept_shape s m keeps) shape in
    let after = for_same I links s n whole fits in
    let at_rest = pending_rest links m n shape.period (λ q r i. let l = rest.below q r (taken_fewer s n both q r i) in omega (arith, l, whole.period)) (out_more s n rest.out rest.below whole both) pending in
    record {
      network = network;
      fits = after;
      rest = at_rest;
      domains = open_settles I [] (rows_of links m) (rows_of links n) all
          (counts_settle I links fits.stand (has_at m.rows) n after.period at_rest (keeps_like links n.period m.period (has_at m.rows) (has_at m.rows) (has_at n.rows) (sym shape.period) (λ p r. refl) closed));
    }

-- ---- windows

abbrev id_of : Event → ℕ
id_of x = x.id

event_there : (I : Network) (x : Event) → IsNetwork I → Contains I.events x → event_of I x.id ≡ Some x
event_there I x network is =
    All-contains (λ y. event_of I y.id ≡ Some y) I.events x (All-found id_of I.events (Rises-from_increasing id_of I.events network.events_rise)) is

-- of an event's residues those of its window are left
abbrev Agrees : Network → Event → Pairs → Pairs → Type 0
Agrees I x S S' = (e r : ℕ) → S' e r ≡ (S e r && (not (e == x.id) || agrees_with I.period x.window r))

-- where the residues at its place that are not in its window were taken out
pub agrees_window : (I : Network) (links : Links) (x : Event) (p : ℕ) (S S' : Pairs) → IsNetwork I → Contains I.events x → StandFor I links → place_of links.events x.id ≡ Some p → ((q r : ℕ) → S' q r ≡ narrowed_to S p (admits I x.id) q r) → Agrees I x (numbered links.events S) (numbered links.events S')
agrees_window I links x p S S' network there stand at is e r =
    numbered_same links.events (narrowed_to S p (admits I x.id)) S' is e r
    ∙ narrowed_numbered links.events S x.id p (admits I x.id) stand.events at e r
    ∙ ap (λ o. numbered links.events S e r && (not (e == x.id) || agrees_with I.period (option_and_then (λ (y : Event). y.window) o) r)) (event_there I x network there)

module _ (I : Network) (network : IsNetwork I) (x : Event) (rest : List Event) (S S' : Pairs) (is : Contains I.events x) (rises : Rises id_of (x ∷ rest)) (agrees : Agrees I x S S') where
  elsewhere : (e r : ℕ) → e ≢ x.id → S' e r ≡ S e r
  elsewhere e r apart = agrees e r ∙ rw (ne_eqb e x.id apart) (sym (by (S e r)))
    where
      by : (b : Bool) → b ≡ (b && (true || agrees_with I.period x.window r))
      by true = refl
      by false = refl

  -- and one more event is done
  pub state_more : ((e r : ℕ) → S e r ≡ (if is_some (with_number id_of e (x ∷ rest)) then nat_lt r I.period else opened I e r)) → (e r : ℕ) → S' e r ≡ (if is_some (with_number id_of e rest) then nat_lt r I.period else opened I e r)
  state_more before e r =
      elim (cases_eq e x.id) [
        | inr apart ↦ elsewhere e r apart ∙ (rw (ne_eqb x.id e (λ same. apart (sym same))) at (before e r))
        | inl same ↦
            let gone = with_number-above id_of x.id x.id rest (omega arith) rises.0 in
            let all : S x.id r ≡ nat_lt r I.period = rw (eq-eqb x.id x.id refl) at (before x.id r) in
            let one : S' x.id r ≡ (nat_lt r I.period && agrees_with I.period x.window r) = agrees x.id r ∙ rw (eq-eqb x.id x.id refl, all) refl in
            let want : opened I x.id r ≡ (nat_lt r I.period && agrees_with I.period x.window r) = ap (λ o. if is_some o then (nat_lt r I.period && agrees_with I.period (option_and_then (λ (y : Event). y.window) o) r) else false) (event_there I x network is) in
            rw (same, gone) (one ∙ sym want)
      ]

-- at first all events have all residues
pub state_first : (I : Network) (links : Links) (s : Supports) → AreFor I links s → ((p r : ℕ) → has_at s.rows p r ≡ is_full s.rows s.period p r) → (e r : ℕ) → rows_of links s e r ≡ (if has_event I e then nat_lt r I.period else opened I e r)
state_first I links s fits full e r =
    elim (cases_Bool (has_event I e)) [
      | inl event ↦
          let p = place_is I links fits.stand e event in
          rw event (numbered_at links.events (has_at s.rows) e p.0 r p.1 ∙ full p.0 r ∙ rw (lt-ltb p.0 (length s.rows) (fits.housed e p.0 p.1), fits.period) refl)
      | inr none ↦ rw none (ap (λ o. option_map_or (λ p. has_at s.rows p r) o false) (none_from (place_of links.events e) (fits.stand.of_events e ∙ none)))
    ]
