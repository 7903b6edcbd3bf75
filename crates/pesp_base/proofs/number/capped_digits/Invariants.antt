use Rattle.std.proofs.Common.{◌≡◌, ◌+◌, ◌-◌, ◌*◌, min, true, fold, take}
use Rattle.std.specs.List.{list_all}
use Rattle.std.specs.Char.{is_ascii_digit}
use Rattle.pesp_base.specs.Numbers.{number_cap}
use Rattle.pesp_base.proofs.number.capped_digits.Given as goal

-- the bytes so far are digits, and the number is theirs up to the cap
abbrev pub invariant-loop-digit : goal.invariant-loop-digit
invariant-loop-digit l =
    (list_all is_ascii_digit (take l.digit-index l.digits) ≡ true) × (l.number ≡ min number_cap (fold (λ n c. 10 * n + (c - 48)) 0 (take l.digit-index l.digits)))
