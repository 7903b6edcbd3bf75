-- Rows that are taken one after another.
use Rattle.std.proofs.Common.{◌≡◌, ℕ, ◌≤◌, List, [], ◌∷◌, ◌++◌, length, Option, Some, None, Result, Ok, Err, IfErr, inl, inr, refl, sym, ap, subst, ◌∙◌, arith}
use Rattle.pesp_base.specs.Refusals.{unless_refused}
use Rattle.pesplib_reader.specs.declared.fault.ReadFault.{ReadFault}
use Rattle.pesplib_reader.specs.declared.fault.FaultKind.{FaultKind}
use Rattle.pesplib_reader.specs.declared.records.Records.{Records}
use Rattle.pesplib_reader.specs.Left.{AreFrom, IsNextRow, IsReading, IsWant, count_of, row_of, rows_left}
use Rattle.pesplib_reader.specs.Records.{Row, records_of, rows_of}
use Rattle.pesplib_reader.specs.Taking.{IsReadFault, IsTakeFault, at_place, on_ok, row_taken, taken}

-- where the first of two lists of faults has none, the second decides
past : {X A : Type 0} (first second : List (Option FaultKind)) (a v : A) (x : X) → Ok v ≡ unless_refused first a → unless_refused (first ++ second) x ≡ unless_refused second x
past [] second a v x h = refl
past (None ∷ first) second a v x h = past first second a v x h
past (Some kind ∷ first) second a v x h = absurd (cc)

-- where it has one, that is the first of both
stopped : {X A : Type 0} (first second : List (Option FaultKind)) (a : A) (kind : FaultKind) (x : X) → Err kind ≡ unless_refused first a → unless_refused (first ++ second) x ≡ Err kind
stopped [] second a kind x h = absurd (cc)
stopped (None ∷ first) second a kind x h = stopped first second a kind x h
stopped (Some k ∷ first) second a kind x h = cc

pub value_is : {A : Type 0} (faults : List (Option FaultKind)) (a v : A) → Ok v ≡ unless_refused faults a → v ≡ a
value_is [] a v h = cc
value_is (None ∷ faults) a v h = value_is faults a v h
value_is (Some kind ∷ faults) a v h = absurd (cc)

-- where a row's faults are those it has by itself, and then those after the rows before it
module _ {X : Type 0} (own : List (List ℕ) → List (Option FaultKind)) (after : X → List (List ℕ) → List (Option FaultKind)) (add : X → List (List ℕ) → X) where
  abbrev both : X → List (List ℕ) → List (Option FaultKind)
  both x fields = own fields ++ after x fields

  module _ {A : Type 0} (x : X) (cut fields : List (List ℕ)) (a : A) (same : cut ≡ fields) where
    -- a row without faults by itself stands or falls after the others
    pub good_row : (v : A) → Ok v ≡ unless_refused (own fields) a → row_taken both add x cut ≡ unless_refused (after x fields) (add x fields)
    good_row v h = ap (row_taken both add x) same ∙ past (own fields) (after x fields) a v (add x fields) h

    -- a row with one falls by that
    pub bad_row : (kind : FaultKind) → Err kind ≡ unless_refused (own fields) a → row_taken both add x cut ≡ Err kind
    bad_row kind h = ap (row_taken both add x) same ∙ stopped (own fields) (after x fields) a kind (add x fields) h

module _ {X : Type 0} (faults : X → List (List ℕ) → List (Option FaultKind)) (add : X → List (List ℕ) → X) where
  abbrev From : ℕ → Result X ReadFault → Type 0
  From place stands = IfErr stands (λ first. place ≤ first.place)

  -- no row before the first of them has a fault
  none_before : (place : ℕ) (rows : List Row) (x : X) → AreFrom place rows → From place (taken faults add x rows)
  none_before place [] x from = tt
  none_before place (r ∷ rows) x from =
      elim (row_taken faults add x r.fields) as (λ o. From place (on_ok (λ y. taken faults add y rows) (at_place r.place o))) [
        | Ok y ↦ none_before place rows y from.1
        | Err kind ↦ from.0
      ]

  -- rows that stand for a value, and others after them
  taken_on : (front rows : List Row) (x y : X) → taken faults add x front ≡ Ok y → taken faults add x (front ++ rows) ≡ taken faults add y rows
  taken_on [] rows x y is = let same : x ≡ y = cc in ap (λ z. taken faults add z rows) same
  taken_on (r ∷ front) rows x y is =
      elim (row_taken faults add x r.fields) as (λ o. on_ok (λ z. taken faults add z front) (at_place r.place o) ≡ Ok y → on_ok (λ z. taken faults add z (front ++ rows)) (at_place r.place o) ≡ taken faults add y rows) [
        | Ok z ↦ λ so. taken_on front rows z y so
        | Err kind ↦ λ so. absurd (cc)
      ] is

  none_after : (place : ℕ) (r : Row) (rows : List Row) (o : Result X FaultKind) → place ≤ r.place → AreFrom place rows → From place (on_ok (λ y. taken faults add y rows) (at_place r.place o))
  none_after place r rows (Ok y) le from = none_before place rows y from
  none_after place r rows (Err kind) le from = le

  module _ (start : X) (bytes : List ℕ) where
    -- the rows before those that are left stand for x
    pub record IsReadTo (x : X) (s : Records) : Type 0 where
      pub reading : IsReading s
      pub stands : taken faults add x (rows_left s) ≡ taken faults add start (rows_of bytes)
      pub count : count_of s ≡ length (records_of bytes)

    pub begun : (s : Records) → IsReading s → rows_left s ≡ rows_of bytes → count_of s ≡ length (records_of bytes) → IsReadTo start s
    begun s reading rows count = record { reading = reading; stands = ap (taken faults add start) rows; count = count }

    -- rows in front that stand for a value
    pub read_to : (front : List Row) (x : X) (s : Records) → IsReading s → count_of s ≡ length (records_of bytes) → front ++ rows_left s ≡ rows_of bytes → taken faults add start front ≡ Ok x → IsReadTo x s
    read_to front x s reading count all is = record { reading = reading; stands = sym (taken_on front (rows_left s) start x is) ∙ ap (taken faults add start) all; count = count }

    pub ended : (x : X) (s : Records) → IsReadTo x s → rows_left s ≡ [] → taken faults add start (rows_of bytes) ≡ Ok x
    ended x s h none = sym h.stands ∙ ap (taken faults add x) none

    -- no memory for a record
    pub wanting : (x : X) (s : Records) (found : ReadFault) → IsReadTo x s → IsWant s found → IsReadFault bytes (taken faults add start (rows_of bytes)) found
    wanting x s found h want = inr (record {
      kind = want.kind;
      from_one = want.from_one;
      in_file = omega (arith, h.count, want.in_file);
      none_before = subst (From found.place) h.stands (none_before found.place (rows_left s) x want.none_before);
    })

    module _ (x : X) (old new : Records) (h : IsReadTo x old) (more : IsNextRow old new) where
      row_stands : on_ok (λ y. taken faults add y (rows_left new)) (at_place new.taken (row_taken faults add x (row_of new).fields)) ≡ taken faults add start (rows_of bytes)
      row_stands = sym (ap (taken faults add x) more.next) ∙ h.stands

      -- a row that is taken
      pub passed : (y : X) → row_taken faults add x (row_of new).fields ≡ Ok y → IsReadTo y new
      passed y e = record {
        reading = more.reading;
        stands = sym (ap (λ o. on_ok (λ z. taken faults add z (rows_left new)) (at_place new.taken o)) e) ∙ row_stands;
        count = more.count ∙ h.count;
      }

      stops : (kind : FaultKind) (o : Result X FaultKind) → row_taken faults add x (row_of new).fields ≡ o → IsTakeFault o kind → IsReadFault bytes (taken faults add start (rows_of bytes)) (record { place = new.taken; kind = kind })
      unfolding count_of
      stops kind (Err first) e same =
          inl (sym row_stands ∙ ap (λ o. on_ok (λ z. taken faults add z (rows_left new)) (at_place new.taken o)) e ∙ ap (λ k. Err (record { place = new.taken; kind = k })) (sym same))
      stops kind (Ok y) e same = inr (record {
        kind = same;
        from_one = more.from_one;
        in_file = omega (arith, more.count, h.count);
        none_before = subst (From new.taken) row_stands (none_after new.taken (row_of new) (rows_left new) (row_taken faults add x (row_of new).fields) (omega arith) more.later);
      })

      -- a row that cannot be taken
      pub stopped_at : (kind : FaultKind) (found : ReadFault) → IsTakeFault (row_taken faults add x (row_of new).fields) kind → found ≡ record { place = new.taken; kind = kind } → IsReadFault bytes (taken faults add start (rows_of bytes)) found
      stopped_at kind found h same = subst (IsReadFault bytes (taken faults add start (rows_of bytes))) (sym same) (stops kind (row_taken faults add x (row_of new).fields) refl h)
