-- The fields that are written have no faults, and read back as what they were written for.
use Rattle.std.proofs.Common.{◌≡◌, ℕ, ◌+◌, ◌^◌, ◌≤◌, ◌<◌, ◌==◌, true, false, List, [], ◌∷◌, length, decimal, ℤ, pos, negsuc, neg_ℤ, ◌≤ℤ◌, int_lt, unsigned_abs, unwrap_or, Option, Some, None, Ok, All, is_some, IsTrue, refl, ap, ◌∙◌, arith}
use Rattle.std.proofs.lemmas.Bool.{ne_eqb}
use Rattle.std.proofs.lemmas.Fmt.{decimal_nonempty}
use Rattle.std.proofs.lemmas.Int.{ints}
use Rattle.std.proofs.lemmas.List.{drop_all, take_all}
use Rattle.std.specs.Fmt.{signed_decimal}
use Rattle.std.specs.Int.Signed.{mag}
use Rattle.std.specs.List.{position_or_len}
use Rattle.pesp_base.specs.declared.activity.Activity.{Activity}
use Rattle.pesp_base.specs.Limits.{greatest_bound, greatest_number, greatest_weight, least_bound}
use Rattle.pesp_base.specs.Bounds.{AreBounds}
use Rattle.pesp_base.specs.Numbered.{with_number}
use Rattle.pesp_base.specs.Refusals.{unless_refused, when}
use Rattle.pesp_base.specs.Texts.{number_value}
use Rattle.pesp_base.proofs.Decimals.{AreBetween, decimal_between, number_value-decimal, number_value-signed_decimal, signed_decimal_between}
use Rattle.pesp_instance.specs.declared.event.Event.{Event}
use Rattle.pesp_instance.specs.Network.{IsActivity, IsEvent}
use Rattle.pesp_instance.proofs.Rising.{IfSome-with_number, number-with_number}
use Rattle.pesplib_reader.specs.declared.fault.FaultKind.{FaultKind}
use Rattle.pesplib_reader.specs.declared.fault.FaultKind.TheVariants as fault
use Rattle.pesplib_reader.specs.Rows.{greatest_time, activity_faults, activity_in, decimal_fault, decimals, is_point, natural, number_fault, range_fault, time_faults, value, weight_fault, weight_value, whole_part}
use Rattle.pesplib_writer.specs.Texts.{activity_fields}
use Rattle.pesp_base.proofs.Laws.{le_through, not_negative, numbers_in_order}
use Rattle.pesplib_writer.proofs.RecordLaws.{AreFields, IsField, IsRow}

-- ---- a number within limits

-- a number within its limits has no fault
in_limits : (k : ℕ) (low high z : ℤ) → low ≤ℤ z → z ≤ℤ high → range_fault k low high (Some z) ≡ None
in_limits k low high z g h =
    let above : int_lt z low ≡ false = grind (arith, ints) in
    let below : int_lt high z ≡ false = grind (arith, ints) in
    rw (above, below) refl

module _ (n : ℕ) (small : n < 2 ^ 64) where
  value_of_decimal : value (decimal n) ≡ pos n
  value_of_decimal = ap (λ o. unwrap_or o (pos 0)) (number_value-decimal n small)

  natural_of_decimal : natural (decimal n) ≡ n
  natural_of_decimal = ap unsigned_abs value_of_decimal

  decimal_in_limits : (k : ℕ) (low high : ℤ) → low ≤ℤ pos n → pos n ≤ℤ high → number_fault k low high (decimal n) ≡ None
  decimal_in_limits k low high g h = ap (range_fault k low high) (number_value-decimal n small) ∙ in_limits k low high (pos n) g h

-- a number of an event or an activity
number_stands : (k n : ℕ) → n ≤ greatest_number → number_fault k (pos 0) (pos greatest_number) (decimal n) ≡ None
number_stands k n le = decimal_in_limits n (omega (arith, le)) k (pos 0) (pos greatest_number) (not_negative n) (numbers_in_order n greatest_number le)

module _ (z : ℤ) (low : least_bound ≤ℤ z) (high : z ≤ℤ greatest_bound) where
  -- a bound is small enough to be written
  small_bound : mag z < 2 ^ 63
  small_bound = small z low high
    where
      small : (y : ℤ) → least_bound ≤ℤ y → y ≤ℤ greatest_bound → mag y < 2 ^ 63
      small (pos n) g h = omega (arith, ints, g, h)
      small (negsuc n) g h = omega (arith, ints, g, h)

  value_of_bound : value (signed_decimal z) ≡ z
  value_of_bound = ap (λ o. unwrap_or o (pos 0)) (number_value-signed_decimal z small_bound)

  bound_stands : (k : ℕ) → number_fault k least_bound greatest_bound (signed_decimal z) ≡ None
  bound_stands k = ap (range_fault k least_bound greatest_bound) (number_value-signed_decimal z small_bound) ∙ in_limits k least_bound greatest_bound z low high

-- ---- a weight, which is written without a point

no_point : (text : List ℕ) → AreBetween 48 57 text → position_or_len is_point text ≡ length text
no_point [] between = refl
no_point (b ∷ text) between =
    let apart : (b == 46) ≡ false = ne_eqb b 46 (λ same. absurd (omega (arith, between.0))) in
    rw apart (omega (arith, no_point text between.2))

all_whole : (text : List ℕ) → AreBetween 48 57 text → whole_part text ≡ text
all_whole text between = take_all (position_or_len is_point text) text (omega (arith, no_point text between))

no_decimals : (text : List ℕ) → AreBetween 48 57 text → decimals text ≡ []
no_decimals text between = drop_all (position_or_len is_point text + 1) text (omega (arith, no_point text between))

module _ (w : ℕ) (le : w ≤ greatest_weight) where
  small_weight : w < 2 ^ 64
  small_weight = omega (arith, le)

  weight_of_decimal : weight_value (decimal w) ≡ w
  weight_of_decimal = ap natural (all_whole (decimal w) (decimal_between w small_weight)) ∙ natural_of_decimal w small_weight

  weight_stands : weight_fault (decimal w) ≡ None
  unfolding weight_fault
  weight_stands =
      ap (λ ds. decimal_fault ds (number_value (whole_part (decimal w)))) (no_decimals (decimal w) (decimal_between w small_weight))
      ∙ ap (λ t. decimal_fault [] (number_value t)) (all_whole (decimal w) (decimal_between w small_weight))
      ∙ ap (decimal_fault []) (number_value-decimal w small_weight)
      ∙ in_limits 6 (pos 0) (pos greatest_weight) (pos w) (not_negative w) (numbers_in_order w greatest_weight le)

-- ---- what is written in digits, and a minus

weaker : (text : List ℕ) → AreBetween 48 57 text → AreBetween 45 57 text
weaker [] between = tt
weaker (b ∷ text) between = (omega (arith, between.0), between.1, weaker text between.2)

decimal_field : (n : ℕ) → n < 2 ^ 64 → IsField (decimal n)
decimal_field n small = (decimal_nonempty n small, weaker (decimal n) (decimal_between n small))

pub signed_nonempty : (z : ℤ) → mag z < 2 ^ 63 → 0 < length (signed_decimal z)
signed_nonempty (pos n) small = decimal_nonempty n (omega (arith, small))
signed_nonempty (negsuc n) small = omega arith

bound_field : (z : ℤ) → least_bound ≤ℤ z → z ≤ℤ greatest_bound → IsField (signed_decimal z)
bound_field z low high = (signed_nonempty z (small_bound z low high), signed_decimal_between z (small_bound z low high))

-- ---- the fields of an activity

-- the numbers, bounds and weight of the activity are within the limits
pub record IsWithin (a : Activity) : Type 0 where
  pub activity : IsActivity a
  pub from : a.from ≤ greatest_number
  pub to : a.to ≤ greatest_number

not_crossed : (x y l u : ℤ) → x ≡ u → y ≡ l → l ≤ℤ u → when (int_lt x y) fault.Crossed ≡ None
not_crossed x y l u e f h =
    let in_order : int_lt x y ≡ false = grind (arith, ints) in
    rw in_order refl

same_activity : (a : Activity) (id from to weight : ℕ) (lower upper : ℤ) → id ≡ a.id → from ≡ a.from → to ≡ a.to → weight ≡ a.weight → lower ≡ a.span.lower → upper ≡ a.span.upper
    → record { id = id; from = from; to = to; span = record { lower = lower; upper = upper }; weight = weight } ≡ a
same_activity a id from to weight lower upper e f g h i j = rw (e, f, g, h, i, j) refl

none_of_seven : {X : Type 0} (a b c d e f g : Option FaultKind) (x : X) → a ≡ None → b ≡ None → c ≡ None → d ≡ None → e ≡ None → f ≡ None → g ≡ None
    → unless_refused (a ∷ b ∷ c ∷ d ∷ e ∷ f ∷ g ∷ []) x ≡ Ok x
none_of_seven a b c d e f g x p q r s t u v = rw (p, q, r, s, t, u, v) refl

module _ (a : Activity) (is : IsWithin a) where
  abbrev bounds : AreBounds a.span.lower a.span.upper
  bounds = is.activity.bounds

  lower_below : a.span.lower ≤ℤ greatest_bound
  lower_below = le_through a.span.lower a.span.upper greatest_bound bounds.in_order bounds.below_greatest

  upper_above : least_bound ≤ℤ a.span.upper
  upper_above = le_through least_bound a.span.lower a.span.upper bounds.above_least bounds.in_order

  -- the fields of an activity read back as the activity
  pub activity_back : activity_in (activity_fields a) ≡ a
  activity_back =
      same_activity a _ _ _ _ _ _
      (natural_of_decimal a.id (omega (arith, is.activity.number)))
      (natural_of_decimal a.from (omega (arith, is.from)))
      (natural_of_decimal a.to (omega (arith, is.to)))
      (weight_of_decimal a.weight is.activity.weight)
      (value_of_bound a.span.lower bounds.above_least lower_below)
      (value_of_bound a.span.upper upper_above bounds.below_greatest)

  -- they have no fault
  pub activity_stands : {X : Type 0} (x : X) → unless_refused (activity_faults (activity_fields a)) x ≡ Ok x
  activity_stands x =
      none_of_seven _ _ _ _ _ _ _ x
      (number_stands 1 a.id is.activity.number)
      (number_stands 2 a.from is.from)
      (number_stands 3 a.to is.to)
      (bound_stands a.span.lower bounds.above_least lower_below 4)
      (bound_stands a.span.upper upper_above bounds.below_greatest 5)
      (weight_stands a.weight is.activity.weight)
      (not_crossed _ _ a.span.lower a.span.upper (value_of_bound a.span.upper upper_above bounds.below_greatest) (value_of_bound a.span.lower bounds.above_least lower_below) bounds.in_order)

  -- they are a row
  pub activity_is_row : IsRow (activity_fields a)
  activity_is_row =
      let weight : AreFields (decimal a.weight ∷ []) = (decimal_field a.weight (omega (arith, is.activity.weight)), tt) in
      let upper : AreFields (signed_decimal a.span.upper ∷ decimal a.weight ∷ []) = (bound_field a.span.upper upper_above bounds.below_greatest, weight) in
      let lower : AreFields (signed_decimal a.span.lower ∷ signed_decimal a.span.upper ∷ decimal a.weight ∷ []) = (bound_field a.span.lower bounds.above_least lower_below, upper) in
      (decimal_field a.id (omega (arith, is.activity.number)), (decimal_field a.from (omega (arith, is.from)), (decimal_field a.to (omega (arith, is.to)), lower)))

-- the number of an event is within its limit
pub event_within : (period n : ℕ) (events : List Event) → All (IsEvent period) events → IsTrue (is_some (with_number (λ (e : Event). e.id) n events)) → n ≤ greatest_number
event_within period n events all is =
    elim (with_number (λ (e : Event). e.id) n events) as (λ o. with_number (λ (e : Event). e.id) n events ≡ o → is_some o ≡ true → n ≤ greatest_number) [
      | None ↦ λ _ none. absurd (cc)
      | Some e ↦ λ at _.
          let same : e.id ≡ n = number-with_number (λ (x : Event). x.id) n events e at in
          omega (arith, same, (IfSome-with_number (λ (x : Event). x.id) (IsEvent period) n events e all at).number)
    ] refl is

-- ---- the fields of an event and its time

-- an event's number and its time are within the limits of a file
pub record IsTime (x : ℕ × ℕ) : Type 0 where
  pub event : x.0 ≤ greatest_number
  pub time : x.1 ≤ greatest_time

-- the fields of an event and its time
abbrev pub time_fields : ℕ × ℕ → List (List ℕ)
time_fields x = decimal x.0 ∷ decimal x.1 ∷ []

time_in_limits : (t : ℕ) → t ≤ greatest_time → number_fault 2 (neg_ℤ (pos greatest_time)) (pos greatest_time) (decimal t) ≡ None
time_in_limits t le =
    decimal_in_limits t (omega (arith, le)) 2 (neg_ℤ (pos greatest_time)) (pos greatest_time) (omega (arith, ints)) (omega (arith, ints, le))

none_of_two : {X : Type 0} (a b : Option FaultKind) (x : X) → a ≡ None → b ≡ None → unless_refused (a ∷ b ∷ []) x ≡ Ok x
none_of_two a b x p q = rw (p, q) refl

module _ (x : ℕ × ℕ) (is : IsTime x) where
  -- the fields of an event and its time read back
  pub event_back : natural (decimal x.0) ≡ x.0
  event_back = natural_of_decimal x.0 (omega (arith, is.event))

  pub time_back : value (decimal x.1) ≡ pos x.1
  time_back = value_of_decimal x.1 (omega (arith, is.time))

  -- they have no fault
  pub time_stands : {Y : Type 0} (y : Y) → unless_refused (time_faults (time_fields x)) y ≡ Ok y
  time_stands y = none_of_two _ _ y (number_stands 1 x.0 is.event) (time_in_limits x.1 is.time)

  -- they are a row
  pub time_is_row : IsRow (time_fields x)
  time_is_row = (decimal_field x.0 (omega (arith, is.event)), (decimal_field x.1 (omega (arith, is.time)), tt))
