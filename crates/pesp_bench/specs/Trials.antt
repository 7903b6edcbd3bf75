-- Trials: what is answered for an instance after an edit that is not made.
use Rattle.std.specs.Prelude.{◌≡◌, ℕ, ◌⊎◌, Bool, true, false, IsOk, Option, Some, None, Ok, Err}
use Rattle.std.specs.Option.{option_map_or}
use Rattle.pesp_base.specs.Windows.{Interval}
use Rattle.pesp_base.specs.declared.refusal.Refusal.{Refusal}
use Rattle.pesp_base.specs.declared.refusal.Refusal.TheVariants as no
use Rattle.pesp_instance.specs.Edited.{edited, effect}
use Rattle.pesp_instance.specs.Network.{Network, activity_of, admits, window_of}
use Rattle.pesp_instance.specs.declared.edit.Edit.{Edit}
use Rattle.pesp_instance.specs.declared.edit.Edit.TheVariants.{Fix, SetWindow, Unfix, SetSpan}
use Rattle.pesp_search.specs.Known.{IsKnown}
use Rattle.pesp_search.specs.declared.answer.Known.{Known}
use Rattle.pesp_bench.specs.declared.trial.Trial.{Trial}
use Rattle.pesp_bench.specs.declared.trial.Trial.TheVariants.{Time, Span}

-- the edit that makes the restriction
abbrev pub edit_of : Trial → Edit
edit_of (Time e t) = Fix e t
edit_of (Span n span) = SetSpan n span

-- whether a time is in its event's window; any span may be tried
abbrev pub is_within : Network → Trial → Bool
is_within I (Time e t) = admits I e t
is_within I (Span n span) = true

-- what a search for the optimum of the edited instance may come to, where the edit is accepted; outside of the event's window there is no timetable
pub record IsPriced (I : Network) (trial : Trial) (limit : ℕ) (known : Known) (nodes : ℕ) : Type 0 where
  pub accepted : edited I (edit_of trial) ≡ Ok (effect I (edit_of trial))
  pub within : is_within I trial ≡ true → IsKnown (effect I (edit_of trial)) None (Some limit) known nodes
  pub outside : is_within I trial ≡ false → (known.is_stopped ≡ false) × (known.best ≡ None) × (nodes ≡ 0)

-- the refusal of the edit, or out of memory where it has none and there is something to search for
abbrev pub IsTrialRefusal : Network → Trial → Refusal → Type 0
IsTrialRefusal I trial refusal = (edited I (edit_of trial) ≡ Err refusal) ⊎ ((refusal ≡ no.Memory) × IsOk (edited I (edit_of trial)) × (is_within I trial ≡ true))

-- ---- how the edit is taken back

-- the edit that gives an event this window, or none
abbrev pub window_edit : ℕ → Option Interval → Edit
window_edit e None = Unfix e
window_edit e (Some w) = SetWindow e w.first w.length

-- the edit that takes the trial's back
abbrev pub undo_of : Network → Trial → Edit
undo_of I (Time e t) = window_edit e (window_of I e)
undo_of I (Span n span) = SetSpan n (option_map_or (λ a. a.span) (activity_of I n) span)
