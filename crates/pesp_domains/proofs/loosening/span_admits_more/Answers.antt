-- Two windows compared by where they begin.
use Rattle.std.proofs.Common.{◌≡◌, ℤ, ◌-ℤ◌, to_z, of_z, w32, sym, ap, ◌∙◌, rules, arith}
use Rattle.std.proofs.lemmas.Bool.{le-ltb}
use Rattle.pesp_base.specs.Bounds.{AreBounds, Bounds}
use Rattle.pesp_base.specs.Tensions.{residue}
use Rattle.pesp_domains.proofs.Apart.{wider_full, wider_short}
use Rattle.pesp_domains.proofs.loosening.span_admits_more.Goals as goal

-- the difference of two bounds does not wrap
not_wrapped : (x y : ℤ) (new old : Bounds) → x ≡ new.lower → y ≡ old.lower → AreBounds new.lower new.upper → AreBounds old.lower old.upper → to_z w32 (of_z w32 (to_z w32 (of_z w32 x) -ℤ to_z w32 (of_z w32 y))) ≡ new.lower -ℤ old.lower
not_wrapped x y new old x_is y_is new_within old_within = search rules

pub returns-then-old_width-get : goal.returns-then-old_width-get
returns-then-old_width-get c =
    let T = c.args.period in
    let below = c.remainder-ahead.ensures.below in
    let new = c.lower.ensures in
    let old = c.lower-2.ensures in
    let ahead = c.remainder-ahead.ensures.value ∙ ap (residue T) (not_wrapped _ _ c.args.new c.args.old new.value old.value new.limits old.limits) in
    let short = c.if-old_width-get.true in
    sym (wider_short T c.args.old c.args.new _ _ _ (omega (arith, below)) old.limits.in_order new.limits.in_order ahead c.width_of-old_width.ensures.value c.width_of-new_width.ensures.value (omega (arith, short, c.get.ensures.value)))

pub returns-else-old_width-get : goal.returns-else-old_width-get
returns-else-old_width-get c =
    let T = c.args.period in
    let below = c.remainder-ahead.ensures.below in
    let new = c.lower.ensures in
    let old = c.lower-2.ensures in
    let ahead = c.remainder-ahead.ensures.value ∙ ap (residue T) (not_wrapped _ _ c.args.new c.args.old new.value old.value new.limits old.limits) in
    let full = c.if-old_width-get.false in
    le-ltb _ _ full
    ∙ sym (wider_full T c.args.old c.args.new _ _ _ (omega (arith, below)) old.limits.in_order new.limits.in_order ahead c.width_of-old_width.ensures.value c.width_of-new_width.ensures.value (omega (arith, full, c.get.ensures.value)))
