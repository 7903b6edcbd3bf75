-- A device with its notes.
use Rattle.std.specs.Prelude.{Bool}
use Rattle.pesp_shell_io.specs.declared.devices.Noted.{Noted}

abbrev pub device_of : {D : Type 0} → Noted D → D
device_of n = n.device

abbrev pub has_failed : {D : Type 0} → Noted D → Bool
has_failed n = n.failed

abbrev pub is_at_end : {D : Type 0} → Noted D → Bool
is_at_end n = n.at_end

abbrev pub has_passed_on : {D : Type 0} → Noted D → Bool
has_passed_on n = n.passed_on
