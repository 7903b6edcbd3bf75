-- Connected parts of an instance, and times that are turned in one of them.
use Rattle.std.specs.Prelude.{◌≡◌, ℕ, ◌+◌, ◌%◌, ◌<◌, ◌≤◌, Bool, false, IsTrue, if◌then◌else◌, List, [], ◌∷◌, All, slice_index, slice_index_or, None}
use Rattle.std.specs.List.{Contains}
use Rattle.pesp_base.specs.declared.activity.Activity.{Activity}
use Rattle.pesp_instance.specs.Network.{Network, event_ids, window_of, has_event}
use Rattle.pesp_search.specs.Paths.{at}

-- no activity leads into the part or out of it, and no event of it has a window
pub record IsFreePart (I : Network) (part : ℕ → Bool) : Type 0 where
  pub closed : (a : Activity) → Contains I.activities a → part a.from ≡ part a.to
  pub free : (e : ℕ) → IsTrue (has_event I e) → IsTrue (part e) → window_of I e ≡ None

-- the event at the index is the least one of a part without a window
pub record IsLeast (I : Network) (index : ℕ) : Type 0 where
  pub part : ℕ → Bool
  pub is_free : IsFreePart I part
  pub inside : IsTrue (part (slice_index (event_ids I) index))
  pub none_before : (k : ℕ) → k < index → part (slice_index (event_ids I) k) ≡ false

-- the marked indices are those of such events
abbrev pub AreLeast : Network → List Bool → Type 0
AreLeast I marks = (k : ℕ) → IsTrue (slice_index_or marks k false) → IsLeast I k

-- ---- labels of events, which tell parts

-- both ends of each activity have one label
abbrev pub AreAgreed : Network → List ℕ → Type 0
AreAgreed I labels = All (λ a. at I labels a.from ≡ at I labels a.to) I.activities

-- among the first indices the k-th has its own number as its label, no earlier one has that label, and no event of that label has a window
pub record IsFirst (I : Network) (labels : List ℕ) (indices k : ℕ) : Type 0 where
  pub own : k < indices → slice_index labels k ≡ k
  pub others : (i : ℕ) → i < indices → slice_index labels i ≡ k → (k ≤ i) × (window_of I (slice_index (event_ids I) i) ≡ None)

-- the mark of the index is taken away, and none is put
abbrev pub IsUnmarked : ℕ → List Bool → List Bool → Type 0
IsUnmarked index old new = (k : ℕ) → IsTrue (slice_index_or new k false) → IsTrue (slice_index_or old k false) × (k ≡ index → ⊥)

-- none is put; the index stays marked only with its own number as its label, and its label only where that is no later index and the event has no window
abbrev pub IsMarked : ℕ → ℕ → Bool → List Bool → List Bool → Type 0
IsMarked index label has_window old new =
    (k : ℕ) → IsTrue (slice_index_or new k false) → IsTrue (slice_index_or old k false) × (k ≡ index → label ≡ index) × (label ≡ k → (label ≤ index) × (has_window ≡ false))

-- ---- turned times

-- the time, later by a number of steps, modulo the period
abbrev pub turned : ℕ → ℕ → ℕ → ℕ
turned period steps t = (t + steps) % period

-- the times of these events, with those of the part turned
abbrev pub turned_in : ℕ → (ℕ → Bool) → ℕ → List ℕ → List ℕ → List ℕ
turned_in period part steps [] times = times
turned_in period part steps (e ∷ ids) [] = []
turned_in period part steps (e ∷ ids) (t ∷ times) = (if part e then turned period steps t else t) ∷ turned_in period part steps ids times
