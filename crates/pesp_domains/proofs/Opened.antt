-- Rows that hold every residue of the windows of events.
use Rattle.std.proofs.Common.{◌≡◌, ℕ, ◌==◌, Bool, true, false, cond, nat_lt, if◌then◌else◌, List, [], ◌∷◌, length, Option, Some, None, option_map, is_some, IsTrue, refl, sym, ap, subst, ◌∙◌, inl, inr, ltb→lt, T, replicate, Bor, IfSome}
use Rattle.std.specs.Option.{option_map_or, unwrap_or}
use Rattle.std.specs.List.{Contains}
use Rattle.std.proofs.lemmas.Bool.{false≢true, cases_eq, eq-eqb, ne_eqb, lt-ltb}
use Rattle.std.proofs.lemmas.List.{length-replicate}
use Rattle.pesp_base.specs.Windows.{Interval}
use Rattle.pesp_base.specs.Numbered.{with_number}
use Rattle.pesp_instance.specs.declared.event.Event.{Event}
use Rattle.pesp_instance.specs.Network.{Network, admits, window_of, has_event}
use Rattle.pesp_domains.specs.declared.pair.Pair.{Pair}
use Rattle.pesp_domains.specs.Domains.{IsDomain, holds}
use Rattle.pesp_domains.specs.Rows.{AreRowsOf, HaveSameShape, OpensRow, Rows, SetsRow, has, is_open, row_at}
use Rattle.pesp_domains.specs.Sweeps.{AreDomains, AreOpen, Pairs}
use Rattle.pesp_domains.proofs.Families.{and_left, and_right, here_or_there, not_in_none}

-- whether the pair is of the instance and in the window of its event
abbrev pub opened : Network → ℕ → ℕ → Bool
opened I e r = if has_event I e then is_open (window_of I e) I.period r else false

pub shape_then : (a b c : Rows) → HaveSameShape a b → HaveSameShape b c → HaveSameShape a c
shape_then a b c h k e = k e ∙ h e

pub rows_stay : (I : Network) (a b : Rows) → HaveSameShape a b → AreRowsOf I a → AreRowsOf I b
rows_stay I a b h rows e = h e ∙ rows e

-- a test of a row's length is one of the length of the row that may be there
by_length : (test : ℕ → Bool) (row : Option (List Bool)) → option_map_or (λ r. test (length r)) row false ≡ option_map_or test (option_map length row) false
by_length test None = refl
by_length test (Some row) = refl

of_event : (b : Bool) (n : ℕ) (test : ℕ → Bool) → option_map_or test (if b then Some n else None) false ≡ (if b then test n else false)
of_event true n test = refl
of_event false n test = refl

-- a row that was opened holds what it is to hold
pub opened_row : (I : Network) (a b : Rows) (e : ℕ) → AreRowsOf I a → OpensRow e (window_of I e) a b → (r : ℕ) → has b e r ≡ opened I e r
opened_row I a b e rows opens r =
    opens e r
    ∙ rw (eq-eqb e e refl) (by_length (λ n. is_open (window_of I e) n r) (row_at a e) ∙ ap (λ o. option_map_or (λ n. is_open (window_of I e) n r) o false) (rows e) ∙ of_event (has_event I e) I.period (λ n. is_open (window_of I e) n r))

-- and no other row changed
pub other_row : (f : ℕ) (window : Option Interval) (a b : Rows) (e : ℕ) → (e ≡ f → ⊥) → OpensRow f window a b → (r : ℕ) → has b e r ≡ has a e r
other_row f window a b e apart opens r = opens e r ∙ rw (ne_eqb e f apart) refl

-- one event more is done
pub opened_more : (I : Network) (a b : Rows) (x : Event) (rest : List Event) → AreRowsOf I a → OpensRow x.id (window_of I x.id) a b
    → ((e : ℕ) → with_number (λ y. y.id) e (x ∷ rest) ≡ None → (r : ℕ) → has a e r ≡ opened I e r)
    → (e : ℕ) → with_number (λ y. y.id) e rest ≡ None → (r : ℕ) → has b e r ≡ opened I e r
opened_more I a b x rest rows opens done e none r =
    elim (cases_eq e x.id) [
      | inl same ↦ rw same (opened_row I a b x.id rows opens r)
      | inr apart ↦ other_row x.id (window_of I x.id) a b e apart opens r ∙ done e (rw (ne_eqb x.id e (λ same. apart (sym same))) none) r
    ]

-- before the first event there is nothing where there is no event
pub opened_none : (I : Network) (a : Rows) → AreRowsOf I a → (e : ℕ) → with_number (λ x. x.id) e I.events ≡ None → (r : ℕ) → has a e r ≡ opened I e r
opened_none I a rows e none r =
    let no_event : has_event I e ≡ false = ap is_some none in
    let no_row : option_map length (row_at a e) ≡ None = rows e ∙ ap (λ b. if b then Some I.period else None) no_event in
    rw no_event (empty (row_at a e) no_row)
  where
    empty : (row : Option (List Bool)) → option_map length row ≡ None → option_map_or (λ bs. holds bs r) row false ≡ false
    empty None e = refl
    empty (Some row) e = absurd (false≢true (sym (ap is_some e)))

-- when all events are done the rows are open
pub opened_all : (I : Network) (S : Pairs) → ((e r : ℕ) → S e r ≡ opened I e r) → AreOpen I [] S
opened_all I S same =
    record {
      exact = λ e r. (
        (λ h. let w = parts (has_event I e) (is_open (window_of I e) I.period r) (sym (same e r) ∙ h) in record {
          of_event = w.0;
          below = ltb→lt r I.period (subst T (sym (and_left (nat_lt r I.period) (admits I e r) w.1)) tt);
          window = and_right (nat_lt r I.period) (admits I e r) w.1;
          pushed = λ s i. absurd (not_in_none _ i);
        }),
        (λ h. same e r ∙ rw (h.of_event, lt-ltb r I.period h.below) h.window),
      );
    }
  where
    parts : (b c : Bool) → IsTrue (if b then c else false) → IsTrue b × IsTrue c
    parts true c h = (refl, h)
    parts false c h = absurd (false≢true h)

-- ---- a row for each event

-- an event of a list is found by its number
pub event_found : (xs : List Event) (x : Event) → Contains xs x → IsTrue (is_some (with_number (λ y. y.id) x.id xs))
event_found [] x i = absurd (not_in_none x i)
event_found (y ∷ xs) x i =
    elim (y.id == x.id) as (λ b. (y.id == x.id) ≡ b → IsTrue (is_some (cond b (Some y) (with_number (λ z. z.id) x.id xs)))) [
      | true ↦ λ is. refl
      | false ↦ λ apart.
          elim (here_or_there x y xs i) [
            | inl same ↦ absurd (false≢true (sym apart ∙ eq-eqb y.id x.id (ap (λ (z : Event). z.id) same)))
            | inr later ↦ event_found xs x later
          ]
    ] refl

-- whether the event's row is there, and as long as the period, just where it is to be
abbrev pub HasItsRow : Network → Rows → ℕ → Type 0
HasItsRow I rows e = option_map length (row_at rows e) ≡ (if has_event I e then Some I.period else None)

pub rows_none : (I : Network) (a : Rows) → ((e : ℕ) → row_at a e ≡ None) → (e : ℕ) → with_number (λ x. x.id) e I.events ≡ None → HasItsRow I a e
rows_none I a empty e none =
    let no_event : has_event I e ≡ false = ap is_some none in
    rw (empty e, no_event) refl

-- one event more has its row
pub rows_more : (I : Network) (a b : Rows) (x : Event) (rest : List Event) → Contains I.events x → SetsRow x.id (Some (replicate I.period true)) a b
    → ((e : ℕ) → with_number (λ y. y.id) e (x ∷ rest) ≡ None → HasItsRow I a e)
    → (e : ℕ) → with_number (λ y. y.id) e rest ≡ None → HasItsRow I b e
rows_more I a b x rest is sets done e none =
    elim (cases_eq e x.id) [
      | inl same ↦
          let long : option_map length (Some (replicate I.period true)) ≡ Some I.period = ap Some (length-replicate I.period true) in
          let there_is : has_event I x.id ≡ true = event_found I.events x is in
          rw same (rw (sets x.id, eq-eqb x.id x.id refl, there_is) long)
      | inr apart ↦ rw (sets e, ne_eqb e x.id apart) (done e (rw (ne_eqb x.id e (λ same. apart (sym same))) none))
    ]

-- ---- the row of an event

-- the row that stands at an event is its domain
pub row_is_domain : (I : Network) (pushes : List Pair) (rows : Rows) (e : ℕ) (found : Option (Bor (List Bool))) → option_map (λ row. row.now) found ≡ row_at rows e
    → AreRowsOf I rows → AreDomains I pushes (has rows) → IfSome found (λ row. IsDomain I pushes e row.now)
row_is_domain I pushes rows e None is of_events domains = tt
row_is_domain I pushes rows e (Some row) is of_events domains =
    record {
      long = length_of (has_event I e) (ap (option_map length) is ∙ of_events e);
      exact = λ r.
          let same : has rows e r ≡ holds row.now r = ap (λ o. option_map_or (λ bits. holds bits r) o false) (sym is) in
          ((λ h. (domains.exact e r).0 (same ∙ h)), (λ h. sym same ∙ (domains.exact e r).1 h));
    }
  where
    length_of : (b : Bool) → (Some (length row.now)) ≡ (if b then Some I.period else None) → length row.now ≡ I.period
    length_of true e = ap (λ o. unwrap_or o 0) e
    length_of false e = absurd (false≢true (sym (ap is_some e)))
