-- Rows of residues by event, and their changes.
use Rattle.std.specs.Prelude.{◌≡◌, ℕ, Bool, false, ◌==◌, ◌&&◌, ◌||◌, not, nat_lt, if◌then◌else◌, List, length, Option, Some, None, option_map}
use Rattle.std.specs.BTreeMap.{is_at}
use Rattle.std.specs.Map.{lookup}
use Rattle.std.specs.Option.{option_map_or}
use Rattle.std.specs.Ordering.{nat_cmp}
use Rattle.pesp_base.specs.Windows.{Interval}
use Rattle.pesp_instance.specs.Network.{Network, agrees_with, has_event}
use Rattle.pesp_domains.specs.Domains.{holds}

-- rows, ascending by event
abbrev pub Rows : Type 0
Rows = List (ℕ × List Bool)

-- the row of an event
abbrev pub row_at : Rows → ℕ → Option (List Bool)
row_at rows e = lookup (is_at (nat_cmp e)) rows

-- whether the rows hold the pair
abbrev pub has : Rows → ℕ → ℕ → Bool
has rows e r = option_map_or (λ row. holds row r) (row_at rows e) false

-- there is a row for each event of the instance, with a test for each residue
abbrev pub AreRowsOf : Network → Rows → Type 0
AreRowsOf I rows = (e : ℕ) → option_map length (row_at rows e) ≡ (if has_event I e then Some I.period else None)

-- the same events have rows, as long as they were
abbrev pub HaveSameShape : Rows → Rows → Type 0
HaveSameShape before after = (e : ℕ) → option_map length (row_at after e) ≡ option_map length (row_at before e)

-- this is the event's row now, and no other event's row changes
abbrev pub SetsRow : ℕ → Option (List Bool) → Rows → Rows → Type 0
SetsRow event row before after = (e : ℕ) → row_at after e ≡ (if e == event then row else row_at before e)

-- whether the residue is one of so many, and in a window
abbrev pub is_open : Option Interval → ℕ → ℕ → Bool
is_open window long r = nat_lt r long && agrees_with long window r

-- the event's row holds each residue of the window, and no other event's row changes
abbrev pub OpensRow : ℕ → Option Interval → Rows → Rows → Type 0
OpensRow event window before after =
    (e r : ℕ) → has after e r ≡ (if e == event then option_map_or (λ row. is_open window (length row) r) (row_at before e) false else has before e r)

-- the pair goes, and no other
abbrev pub TakesOut : ℕ → ℕ → Rows → Rows → Type 0
TakesOut event residue before after =
    (e r : ℕ) → has after e r ≡ (has before e r && not (e == event && r == residue))

-- of the event's residues this one alone stays, and no other event's row changes
abbrev pub KeepsOnly : ℕ → ℕ → Rows → Rows → Type 0
KeepsOnly event residue before after =
    (e r : ℕ) → has after e r ≡ (has before e r && (not (e == event) || r == residue))
