-- The numbers by which events and activities ascend.
use Rattle.std.proofs.Common.{ℕ}
use Rattle.pesp_base.specs.declared.activity.Activity.{Activity}
use Rattle.pesp_instance.specs.declared.event.Event.{Event}

abbrev pub event_number : Event → ℕ
event_number e = e.id

abbrev pub activity_number : Activity → ℕ
activity_number a = a.id
