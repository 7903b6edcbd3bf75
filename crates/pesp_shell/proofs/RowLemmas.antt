-- Rows of what was found: each of them, one more, and the row of an id.
use Rattle.std.proofs.Common.{◌≡◌, ◌∙◌, ◌||◌, ◌∷◌, ◌++◌, [], Bool, true, false, List, Option, Some, None, option_map, refl, sym, ap, ap₂, append-nil, true≢false}
use Rattle.std.specs.Prelude.{if◌then◌else◌, option_and_then, slice_get}
use Rattle.std.specs.List.{find}
use Rattle.std.specs.Option.{option_map_or}
use Rattle.std.specs.Str.{bytes_eq}
use Rattle.clap.specs.Facts.{explicit_source}
use Rattle.clap.specs.Takes.{is_given}
use Rattle.clap.specs.Values.{read_as}
use Rattle.clap.specs.Walk.{Row, Text, at_row, has_row, more_values, one_of, row_text, with_values, without}
use Rattle.clap.specs.declared.builder.value_parser.Reading.{Reading}
use Rattle.clap.specs.declared.parser.matches.ValueSource.{ValueSource}
use Rattle.clap.specs.declared.parser.matches.ValueSource.TheVariants.{CommandLine}

-- each row has the property
abbrev pub Each : (Row → Type 0) → List Row → Type 0
Each P [] = Unit {0}
Each P (r ∷ rows) = P r × Each P rows

pub each_more : (P : Row → Type 0) (rows : List Row) (r : Row) → Each P rows → P r → Each P (rows ++ r ∷ [])
each_more P [] r all p = (p, tt)
each_more P (x ∷ rows) r all p = (all.0, each_more P rows r all.1 p)

pub each_weaker : (P Q : Row → Type 0) → ((r : Row) → P r → Q r) → (rows : List Row) → Each P rows → Each Q rows
each_weaker P Q h [] all = tt
each_weaker P Q h (r ∷ rows) all = (h r all.0, each_weaker P Q h rows all.1)

neither : (a b : Bool) → (a || b) ≡ false → (a ≡ false) × (b ≡ false)
neither true b e = absurd (true≢false e)
neither false b e = (refl, e)

-- a row of an id that has none joins at the end
absent_row : (id : Text) (change : Row → List Row) (missing rows : List Row) → has_row id rows ≡ false → at_row id change missing rows ≡ rows ++ missing
absent_row id change missing [] e = refl
absent_row id change missing (r ∷ rows) e =
    let p = neither (bytes_eq r.id id) (has_row id rows) e in
    rw p.0 (ap (λ rs. r ∷ rs) (absent_row id change missing rows p.1))

abbrev pub new_row : Text → Reading → ValueSource → List Text → Row
new_row id how source values = record { id = id; values = values; count = None; source = Some source; reading = how }

pub values_join : (id : Text) (how : Reading) (source : ValueSource) (values : List Text) (rows : List Row) → has_row id rows ≡ false
    → with_values id how source values rows ≡ rows ++ new_row id how source values ∷ []
values_join id how source values rows e = absent_row id (more_values source values) (new_row id how source values ∷ []) rows e

pub set_joins : (id : Text) (how : Reading) (values : List Text) (rows : List Row) → has_row id rows ≡ false
    → with_values id how CommandLine values (without id rows) ≡ rows ++ new_row id how CommandLine values ∷ []
set_joins id how values rows e =
    ap (with_values id how CommandLine values) (absent_row id (λ _. []) [] rows e ∙ append-nil rows) ∙ values_join id how CommandLine values rows e

pub some_row : (id : Text) (rows : List Row) (r : Row) → bytes_eq r.id id ≡ true → has_row id (rows ++ r ∷ []) ≡ true
some_row id [] r e = rw e refl
some_row id (x ∷ rows) r e = go (bytes_eq x.id id) (some_row id rows r e)
  where
    go : (b : Bool) → has_row id (rows ++ r ∷ []) ≡ true → (b || has_row id (rows ++ r ∷ [])) ≡ true
    go true more = refl
    go false more = more

pub kept_row : (id : Text) (rows : List Row) (r : Row) → has_row id rows ≡ true → has_row id (rows ++ r ∷ []) ≡ true
kept_row id [] r e = absurd (true≢false (sym e))
kept_row id (x ∷ rows) r e = go (bytes_eq x.id id) (kept_row id rows r) e
  where
    go : (b : Bool) → (has_row id rows ≡ true → has_row id (rows ++ r ∷ []) ≡ true) → (b || has_row id rows) ≡ true
        → (b || has_row id (rows ++ r ∷ [])) ≡ true
    go true more e = refl
    go false more e = more e

-- the row of an id, with what holds of each row
pub found_row : (P : Row → Type 0) (id : Text) (rows : List Row) → has_row id rows ≡ true → Each P rows
    → (r : Row) × (find (λ x. bytes_eq x.id id) rows ≡ Some r) × (bytes_eq r.id id ≡ true) × P r
found_row P id [] e all = absurd (true≢false (sym e))
found_row P id (x ∷ rows) e all = go (bytes_eq x.id id) refl (λ there. found_row P id rows there all.1) e
  where
    go : (b : Bool) → bytes_eq x.id id ≡ b
        → (has_row id rows ≡ true → (r : Row) × (find (λ y. bytes_eq y.id id) rows ≡ Some r) × (bytes_eq r.id id ≡ true) × P r)
        → (b || has_row id rows) ≡ true
        → (r : Row) × ((if b then Some x else find (λ y. bytes_eq y.id id) rows) ≡ Some r) × (bytes_eq r.id id ≡ true) × P r
    go true is more e = (x, refl, is, all.0)
    go false is more e = more e

-- what the getters read of the row that was found
pub read_at : (id : Text) (rows : List Row) (r : Row) (how : Reading) (v : Text) → find (λ x. bytes_eq x.id id) rows ≡ Some r → r.reading ≡ how → r.values ≡ v ∷ []
    → one_of id rows ≡ Some (read_as how v)
read_at id rows r how v found reading values =
    ap (option_and_then row_text) found ∙ ap₂ (λ (k : Reading) (vs : List Text). option_map (read_as k) (slice_get vs 0)) reading values

pub given_at : (id : Text) (rows : List Row) (r : Row) (source : Option ValueSource) → find (λ x. bytes_eq x.id id) rows ≡ Some r → r.source ≡ source
    → is_given id rows ≡ explicit_source source
given_at id rows r source found is = ap (λ (o : Option Row). option_map_or (λ x. explicit_source x.source) o false) found ∙ ap explicit_source is
