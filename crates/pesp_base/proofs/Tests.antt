-- What follows from the answer of a test, and from what an option or a result is.
use Rattle.std.proofs.Common.{◌≡◌, Bool, true, false, ◌&&◌, ◌||◌, IsTrue, Option, Some, None, IsSome, IfSome, is_some, is_none, Result, Ok, Err, OnOk, OnErr, refl, sym, subst, ap, ◌∙◌}
use Rattle.std.proofs.Math.Bool.{or-false, or_assoc, or_comm}
use Rattle.std.proofs.lemmas.Bool.{false≢true}
use Rattle.std.proofs.lemmas.Option.{same_Some}

-- ---- tests

-- where one of two holds, and it is not the first
pub or_second : (b c : Bool) → IsTrue (b || c) → b ≡ false → IsTrue c
or_second true c one none = absurd (false≢true (sym none))
or_second false c one none = one

pub or_alone : (b : Bool) → b ≡ (b || false)
or_alone b = sym (or-false b)

-- the last two of three the other way round
pub or_turned : (b c d : Bool) → ((b || c) || d) ≡ (b || (d || c))
or_turned b c d = or_assoc b c d ∙ ap (λ t. b || t) (or_comm c d)

-- the first of two cannot hold
pub or_elsewhere : (b c : Bool) → ((b && false) || c) ≡ c
or_elsewhere true c = refl
or_elsewhere false c = refl

-- ---- options

pub none_from : {X : Type 0} (o : Option X) → is_some o ≡ false → o ≡ None
none_from None is = refl
none_from (Some x) is = absurd (false≢true (sym is))

pub some_from : {X : Type 0} (o : Option X) → is_none o ≡ false → is_some o ≡ true
some_from None is = absurd (false≢true (sym is))
some_from (Some x) is = refl

pub value_of : {X : Type 0} (o : Option X) → IsSome o → (x : X) × (o ≡ Some x)
value_of None is = absurd (cc)
value_of (Some x) is = (x, refl)

-- two values of one option are one
pub same_value : {X : Type 0} (o : Option X) (x y : X) → o ≡ Some x → o ≡ Some y → x ≡ y
same_value o x y one other = same_Some x y (sym one ∙ other)

pub for_some : {X : Type 0} (P : X → Type 0) (o : Option X) (x : X) → o ≡ Some x → P x → IfSome o P
for_some P o x is p = subst (λ v. IfSome v P) (sym is) p

-- ---- results

-- what holds anyway holds after either outcome
pub always_ok : {X E P : Type 0} (r : Result X E) → P → OnOk r P
always_ok (Ok x) holds = holds
always_ok (Err e) holds = tt

pub always_err : {X E P : Type 0} (r : Result X E) → P → OnErr r P
always_err (Ok x) holds = tt
always_err (Err e) holds = holds
