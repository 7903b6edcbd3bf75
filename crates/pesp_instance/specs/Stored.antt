-- The instance that the fields of an `Instance` are.
use Rattle.pesp_instance.specs.declared.instance.Instance.TheInside.{Inside}
use Rattle.pesp_instance.specs.Ends.{AreListed, events_of}
use Rattle.pesp_instance.specs.Network.{Network, IsNetwork}

abbrev pub network_in : Inside → Network
network_in a = record { period = a.period; events = events_of a.vertices.values; activities = a.activities.values }

-- the fields are an instance, and each activity is listed at its ends
pub record IsStored (a : Inside) : Type 0 where
  pub network : IsNetwork (network_in a)
  pub listed : AreListed a.vertices.values a.activities.values
