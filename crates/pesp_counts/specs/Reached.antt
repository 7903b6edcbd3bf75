-- The pairs that an edit may bring back into the domains.
use Rattle.std.specs.Prelude.{◌≡◌, ℕ, Bool, false, ◌==◌, if◌then◌else◌, List, [], ◌∷◌, Option, Some, None}
use Rattle.std.specs.List.{Contains}
use Rattle.pesp_base.specs.declared.activity.Activity.{Activity}
use Rattle.pesp_instance.specs.declared.edit.Edit.{Edit}
use Rattle.pesp_instance.specs.declared.edit.Edit.TheVariants.{AddEvent, DropEvent, Fix, SetWindow, Unfix, AddActivity, DropActivity, SetSpan, SetWeight, SetEnds}
use Rattle.pesp_instance.specs.Edited.{effect}
use Rattle.pesp_instance.specs.Network.{Network, activity_of}
use Rattle.pesp_domains.specs.declared.side.Side.{Side}
use Rattle.pesp_domains.specs.Domains.{InDomains, IsAdmitted, Joins, other, own}
use Rattle.pesp_domains.specs.Loosening.{admits_anew, is_looser}

-- both ends of the activity, if there is one
abbrev pub ends_of : Option Activity → List ℕ
ends_of None = []
ends_of (Some a) = a.from ∷ a.to ∷ []

-- the events at which chains of pairs begin; an edit that has none restores nothing
abbrev pub starts : Network → Edit → List ℕ
starts I (AddEvent e) = []
starts I (DropEvent e) = []
starts I (AddActivity a) = []
starts I (SetWeight n weight) = []
starts I (Fix e t) = if admits_anew I (effect I (Fix e t)) e then e ∷ [] else []
starts I (SetWindow e first length) = if admits_anew I (effect I (SetWindow e first length)) e then e ∷ [] else []
starts I (Unfix e) = if admits_anew I (effect I (Unfix e)) e then e ∷ [] else []
starts I (SetSpan n span) = if is_looser I n span then ends_of (activity_of I n) else []
starts I (DropActivity n) = ends_of (activity_of I n)
starts I (SetEnds n from to) = ends_of (activity_of I n)

-- whether the activity is the edited one
abbrev pub is_edited : Edit → Activity → Bool
is_edited (SetSpan n span) a = a.id == n
is_edited (DropActivity n) a = a.id == n
is_edited (SetEnds n from to) a = a.id == n
is_edited (AddEvent e) a = false
is_edited (DropEvent e) a = false
is_edited (Fix e t) a = false
is_edited (SetWindow e first length) a = false
is_edited (Unfix e) a = false
is_edited (AddActivity b) a = false
is_edited (SetWeight n weight) a = false

-- the pair is outside the domains before the edit, and in its event's window after it
pub record IsOutside (I : Network) (edit : Edit) (e r : ℕ) : Type 0 where
  pub outside : InDomains I [] e r → ⊥
  pub admitted : IsAdmitted (effect I edit) [] e r

-- the least set of pairs outside that has those of the starts, and with a pair each one that an activity other than the edited one joins to it
pub data Reached (I : Network) (edit : Edit) : ℕ → ℕ → Type 0 where
  begins : (e r : ℕ) → Contains (starts I edit) e → IsOutside I edit e r → Reached I edit e r
  follows : (side : Side) (a : Activity) (r s : ℕ) → Reached I edit (other side a) s → Contains I.activities a → is_edited edit a ≡ false → Joins side I.period a r s → IsOutside I edit (own side a) r → Reached I edit (own side a) r
