-- Windows of residues: at which residues an event may stand.
use Rattle.std.specs.Prelude.{◌≡◌, ℕ, ◌+◌, ◌%◌, ◌<◌, ◌≤◌, Bool, ◌&&◌, ◌==◌, nat_lt, Option, Some, None, if◌then◌else◌, pos, ◌-ℤ◌}
use Rattle.pesp_base.specs.Tensions.{residue}

-- what a clause sees of a window: its first residue, and of how many residues it is
pub record Interval : Type 0 where
  pub first : ℕ
  pub length : ℕ

-- the first residue is below the period, and there are one or more residues, each of them once
pub record IsWindow (period : ℕ) (window : Interval) : Type 0 where
  pub first : window.first < period
  pub some : 1 ≤ window.length
  pub once : window.length ≤ period

-- the residue is so many steps from the first one, up and on from zero after the last residue of the period
abbrev pub IsHeld : ℕ → Interval → ℕ → Type 0
IsHeld period window r = (k : ℕ) × (k < window.length) × ((window.first + k) % period ≡ r)

-- whether the residue is below the period, and fewer steps up from the first one than there are residues
abbrev pub is_held : ℕ → Interval → ℕ → Bool
is_held period window r = nat_lt r period && nat_lt (residue period (pos r -ℤ pos window.first)) window.length

-- the window of one time alone
abbrev pub at_time : ℕ → Interval
at_time t = record { first = t; length = 1 }

-- the time of a window of one residue
abbrev pub only_time : Interval → Option ℕ
only_time window = if window.length == 1 then Some window.first else None
