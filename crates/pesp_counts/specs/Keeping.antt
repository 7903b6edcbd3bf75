-- What a keeper by counts keeps.
use Rattle.std.specs.Prelude.{◌≡◌, ◌≢◌, ℕ, ◌<◌, ◌≤◌, Bool, true, false, ◌||◌, List, [], ◌∷◌, ◌++◌, Some, length, map, drop, vec_capacity}
use Rattle.std.specs.List.{Contains}
use Rattle.pesp_instance.specs.declared.edit.Edit.{Edit}
use Rattle.pesp_instance.specs.declared.edit.Edit.TheVariants.{AddEvent, DropEvent, Fix, SetWindow, Unfix, AddActivity, DropActivity, SetSpan, SetWeight, SetEnds}
use Rattle.pesp_instance.specs.Network.{IsNetwork, Network}
use Rattle.pesp_domains.specs.declared.pair.Pair.{Pair}
use Rattle.pesp_domains.specs.Kept.{ArePushed}
use Rattle.pesp_domains.specs.Sweeps.{AreDomains, Pairs}
use Rattle.pesp_counts_supports.specs.declared.trail.Placed.{Placed}
use Rattle.pesp_counts_arcs.specs.Ends.{end_at, ends_of}
use Rattle.pesp_counts_supports.specs.Counts.{has_at}
use Rattle.pesp_counts_arcs.specs.Links.{Links, StandFor}
use Rattle.pesp_counts_arcs.specs.Places.{numbered, place_of}
use Rattle.pesp_counts_supports.specs.Resting.{AreAtRest, HaveRoom}
use Rattle.pesp_counts_supports.specs.Supports.{Fit, Supports, is_in}
use Rattle.pesp_counts.specs.declared.keeper.Pushed.{Pushed}
use Rattle.pesp_counts.specs.declared.keeper.counted.Counted.{Counted}

-- the ends stand for the instance, and there are rows and counts for them
pub record AreFor (I : Network) (links : Links) (s : Supports) : Type 0 where
  pub period : s.period ≡ I.period
  pub stand : StandFor I links
  pub fit : Fit links s
  pub housed : (e p : ℕ) → place_of links.events e ≡ Some p → p < length s.rows
  pub even : length s.counted ≡ length s.rows

-- the rows, by number
abbrev pub rows_of : Links → Supports → Pairs
rows_of links s = numbered links.events (has_at s.rows)

-- the counts are those of the rows, and the rows are the domains
pub record AreSettled (I : Network) (pushes : List Pair) (links : Links) (s : Supports) : Type 0 where
  pub network : IsNetwork I
  pub fits : AreFor I links s
  pub rest : AreAtRest links s
  pub domains : AreDomains I pushes (rows_of links s)

-- whether the edit adds an event or an activity
abbrev pub adds : Edit → Bool
adds (AddEvent e) = true
adds (AddActivity a) = true
adds (DropEvent e) = false
adds (Fix e t) = false
adds (SetWindow e first length) = false
adds (Unfix e) = false
adds (DropActivity n) = false
adds (SetSpan n span) = false
adds (SetWeight n weight) = false
adds (SetEnds n from to) = false

-- events and listed ends are as before
pub record SeeSame (before after : Links) : Type 0 where
  pub events : (e : ℕ) → place_of after.events e ≡ place_of before.events e
  pub ends : (p k : ℕ) → Contains (ends_of after.lists p) k → end_at after.ends k ≡ end_at before.ends k
  pub lists : (p k : ℕ) → Contains (ends_of after.lists p) k → Contains (ends_of before.lists p) k

-- an event has a place that none had, and nothing else changes
pub record IsHousedAt (before after : Links) (event p : ℕ) : Type 0 where
  pub place : place_of after.events event ≡ Some p
  pub fresh : (e : ℕ) → place_of before.events e ≡ Some p → ⊥
  pub others : (e : ℕ) → e ≢ event → place_of after.events e ≡ place_of before.events e
  pub ends : after.ends ≡ before.ends
  pub lists : (q : ℕ) → ends_of after.lists q ≡ ends_of before.lists q

-- the pairs of what was pushed
abbrev pub pairs_of : List Pushed → List Pair
pairs_of = map (λ x. x.pair)

-- where there was room for what an edit puts back there still is
abbrev pub KeepsRoom : Counted → Counted → Type 0
KeepsRoom before after = HaveRoom before.supports (vec_capacity before.back) (vec_capacity before.restored) → HaveRoom after.supports (vec_capacity after.back) (vec_capacity after.restored)

-- the pairs of the rows, and those of a list
abbrev pub with_pairs : Supports → List Placed → Pairs
with_pairs s pairs p r = has_at s.rows p r || is_in pairs p r

-- where the trail of so many pairs stood before each push: what was taken out since then makes the rows those before the push
pub data AreMarked (I : Network) (links : Links) (s : Supports) : ℕ → List Pushed → Type 0 where
  bottom : (top : ℕ) → AreMarked I links s top []
  above : (top : ℕ) (before : List Pushed) (x : Pushed) → x.mark ≤ top → AreDomains I (pairs_of before) (numbered links.events (with_pairs s (drop x.mark s.trail))) → AreMarked I links s x.mark before → AreMarked I links s top (before ++ x ∷ [])

-- the rows are the domains, each push can be undone, and there is room for a push for each event, and for what an edit puts back
pub record IsKeeping (I : Network) (stack : List Pushed) (links : Links) (s : Supports) (for_pushed for_back for_restored : ℕ) : Type 0 where
  pub settled : AreSettled I (pairs_of stack) links s
  pub pushed : ArePushed I (pairs_of stack)
  pub marked : AreMarked I links s (length s.trail) stack
  pub room_pushed : length I.events ≤ for_pushed
  pub room_back : HaveRoom s for_back for_restored
