-- Why there is no price.
use Rattle.std.proofs.Common.{◌≡◌, ◌≢◌, ℕ, Bool, true, false, not, nat_le, is_none, [], ◌∷◌, None, Err, refl, inl, inr, subst, sym}
use Rattle.pesp_base.specs.Bounds.{Bounds}
use Rattle.pesp_base.specs.Refusals.{unless_refused, when}
use Rattle.pesp_base.specs.declared.refusal.Refusal.{Refusal}
use Rattle.pesp_base.specs.declared.refusal.Refusal.TheVariants as no
use Rattle.pesp_instance.specs.Edited.{edited, effect}
use Rattle.pesp_instance.specs.Network.{Network, activity_of, has_event}
use Rattle.pesp_instance.specs.declared.edit.Edit.TheVariants.{Fix, SetSpan}
use Rattle.pesp_bench.specs.Trials.{IsTrialRefusal, edit_of}
use Rattle.pesp_bench.specs.declared.trial.Trial.{Trial}
use Rattle.pesp_bench.specs.declared.trial.Trial.TheVariants.{Span, Time}
use Rattle.pesp_embedded.specs.Prices.{IsPriceFault}
use Rattle.pesp_embedded.specs.declared.fault.Fault.{Fault}
use Rattle.pesp_embedded.specs.declared.fault.Fault.TheVariants as fault

-- a number that is no event is refused
pub no_event_fault : (I : Network) (e t : ℕ) → has_event I e ≡ false → edited I (Fix e t) ≡ Err (no.NoEvent e)
no_event_fault I e t none = rw none refl

-- a number that is no activity is refused
pub no_activity_fault : (I : Network) (n : ℕ) (span : Bounds) → activity_of I n ≡ None → edited I (SetSpan n span) ≡ Err (no.NoActivity n)
no_activity_fault I n span none = rw none refl

-- ---- no refusal of a trial's edit is want of memory

fix_refused : (known late : Bool) (e t : ℕ) (I : Network) (refusal : Refusal) →
    unless_refused (when (not known) (no.NoEvent e) ∷ when late (no.TimeOutOfRange t) ∷ []) I ≡ Err refusal → refusal ≢ no.Memory
fix_refused false late e t I refusal is memory = absurd (cc)
fix_refused true true e t I refusal is memory = absurd (cc)
fix_refused true false e t I refusal is memory = absurd (cc)

span_refused : (none : Bool) (n : ℕ) (I : Network) (refusal : Refusal) → unless_refused (when none (no.NoActivity n) ∷ []) I ≡ Err refusal → refusal ≢ no.Memory
span_refused true n I refusal is memory = absurd (cc)
span_refused false n I refusal is memory = absurd (cc)

not_memory : (I : Network) (trial : Trial) (refusal : Refusal) → edited I (edit_of trial) ≡ Err refusal → refusal ≢ no.Memory
not_memory I (Time e t) refusal is = fix_refused (has_event I e) (nat_le I.period t) e t (effect I (Fix e t)) refusal is
not_memory I (Span n span) refusal is = span_refused (is_none (activity_of I n)) n (effect I (SetSpan n span)) refusal is

-- so the refusal of a trial, with want of memory by a status of its own, is why there is no price
pub price_fault : (I : Network) (trial : Trial) (refusal : Refusal) (f : Fault) → (refusal ≡ no.Memory → f ≡ fault.Memory)
    → (refusal ≢ no.Memory → f ≡ fault.Refused refusal) → IsTrialRefusal I trial refusal → IsPriceFault I trial f
price_fault I trial refusal f memory refused (inl is) = subst (IsPriceFault I trial) (sym (refused (not_memory I trial refusal is))) is
price_fault I trial refusal f memory refused (inr is) = subst (IsPriceFault I trial) (sym (memory is.0)) (is.1, is.2)
