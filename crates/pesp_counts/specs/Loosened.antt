-- What an edit asks of the pairs of the instance before it, against what it asks after it.
use Rattle.std.specs.Prelude.{◌≡◌, ℕ, ◌<◌, ◌⊎◌, false, IsTrue, []}
use Rattle.std.specs.List.{Contains}
use Rattle.pesp_base.specs.declared.activity.Activity.{Activity}
use Rattle.pesp_instance.specs.declared.edit.Edit.{Edit}
use Rattle.pesp_instance.specs.Edited.{effect}
use Rattle.pesp_instance.specs.Network.{Network, admits, has_event}
use Rattle.pesp_domains.specs.declared.side.Side.{Side}
use Rattle.pesp_domains.specs.Domains.{Joins, other, own}
use Rattle.pesp_domains.specs.Sweeps.{Of, Pairs}
use Rattle.pesp_counts.specs.Reached.{Reached, is_edited, starts}

-- an activity after the edit has the ends of this one and joins no more
pub record HasHeir (I : Network) (edit : Edit) (side : Side) (a : Activity) : Type 0 where
  pub heir : Activity
  pub there : Contains (effect I edit).activities heir
  pub own_end : own side heir ≡ own side a
  pub other_end : other side heir ≡ other side a
  pub no_more : (r s : ℕ) → r < I.period → s < I.period → Joins side I.period heir r s → Joins side I.period a r s
  pub unedited : (is_edited edit a ≡ false) ⊎ (starts I edit ≡ [])

-- what is asked of an event before the edit is asked after it too, but for events at which chains begin
pub record AsksAgain (I : Network) (edit : Edit) : Type 0 where
  pub period : (effect I edit).period ≡ I.period
  pub window : (e r : ℕ) → r < I.period → IsTrue (has_event I e) → IsTrue (has_event (effect I edit) e) → IsTrue (admits (effect I edit) e r) → IsTrue (admits I e r) ⊎ Contains (starts I edit) e
  pub activities : (side : Side) (a : Activity) → Contains I.activities a → Contains (starts I edit) (own side a) ⊎ HasHeir I edit side a

-- the set has the pairs of the other one and just the reached pairs besides
pub record IsReach (I : Network) (edit : Edit) (before reached : Pairs) : Type 0 where
  pub more : (e r : ℕ) → Of before e r → Of reached e r
  pub all : (e r : ℕ) → Reached I edit e r → Of reached e r
  pub only : (e r : ℕ) → Of reached e r → before e r ≡ false → Reached I edit e r
