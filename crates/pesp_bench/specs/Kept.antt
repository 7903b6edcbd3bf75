-- Which accepted edits keep a known answer.
use Rattle.std.specs.Prelude.{◌≡◌, ℕ, ◌<◌, ◌≤◌, ◌↔◌, IsTrue, Bool, true, false, not, Option, Some, Ok}
use Rattle.pesp_base.specs.Windows.{Interval, at_time}
use Rattle.pesp_instance.specs.declared.edit.Edit.{Edit}
use Rattle.pesp_instance.specs.declared.edit.Edit.TheVariants.{AddEvent, DropEvent, Fix, SetWindow, Unfix, AddActivity, DropActivity, SetSpan, SetWeight, SetEnds}
use Rattle.pesp_instance.specs.Edited.{edited, effect}
use Rattle.pesp_instance.specs.Network.{IsNetwork, Network, agrees_with, window_of}
use Rattle.pesp_search.specs.declared.answer.Answer.{Answer}
use Rattle.pesp_search.specs.declared.answer.Answer.TheVariants.{Optimal, Infeasible}
use Rattle.pesp_search.specs.Optima.{IsAnswer, IsMember}
use Rattle.pesp_tension.specs.Answers.{cost_of}
use Rattle.pesp_tension.specs.Timetables.{Times}
use Rattle.pesp_domains.specs.Loosening.{admits_anew, is_looser}
use Rattle.pesp_bench.specs.Loosening.{is_lighter, is_moved}

-- whether an instance without members may have one after the edit
abbrev pub opens : Network → Edit → Bool
opens I (AddEvent e) = false
opens I (AddActivity a) = false
opens I (SetWeight n weight) = false
opens I (Fix e t) = admits_anew I (effect I (Fix e t)) e
opens I (SetWindow e first length) = admits_anew I (effect I (SetWindow e first length)) e
opens I (Unfix e) = admits_anew I (effect I (Unfix e)) e
opens I (SetSpan n span) = is_looser I n span
opens I (DropEvent e) = true
opens I (DropActivity n) = true
opens I (SetEnds n from to) = true

-- whether a timetable may be a member after the edit that was none, or cost less
abbrev pub cheapens : Network → Edit → Bool
cheapens I (AddActivity a) = false
cheapens I (SetWeight n weight) = is_lighter I n weight
cheapens I (Fix e t) = admits_anew I (effect I (Fix e t)) e
cheapens I (SetWindow e first length) = admits_anew I (effect I (SetWindow e first length)) e
cheapens I (Unfix e) = admits_anew I (effect I (Unfix e)) e
cheapens I (SetSpan n span) = is_moved I n span
cheapens I (AddEvent e) = true
cheapens I (DropEvent e) = true
cheapens I (DropActivity n) = true
cheapens I (SetEnds n from to) = true

-- whether the edit may bring what the answer does not know of
abbrev pub brings : Network → Edit → Answer → Bool
brings I edit Infeasible = opens I edit
brings I edit (Optimal cost m) = cheapens I edit

-- that no timetable meets everything says nothing of one; an optimum is still a member, at its cost
abbrev pub Stays : Network → Answer → Type 0
Stays I Infeasible = Unit {0}
Stays I (Optimal cost m) = IsMember I m × (cost_of I m ≡ cost)

-- whether an optimum's timetable stays, told of an accepted edit that cheapens nothing
abbrev pub TellsStay : Network → Edit → Times → Bool → Type 0
TellsStay I edit m stays =
    (J : Network) (cost : ℕ) → IsNetwork I → edited I edit ≡ Ok J → cheapens I edit ≡ false → IsMember I m → cost_of I m ≡ cost → IsTrue stays ↔ Stays (effect I edit) (Optimal cost m)

-- the accepted edit keeps the answer
pub record Keeps (I : Network) (edit : Edit) (answer : Answer) : Type 0 where
  pub nothing_new : brings I edit answer ≡ false
  pub stays : Stays (effect I edit) answer

-- what is known after an accepted edit: what the edit keeps stays known, and nothing else is
pub record IsKeptBy (I : Network) (edit : Edit) (before after : Option Answer) : Type 0 where
  pub stays : (answer : Answer) → before ≡ Some answer → Keeps I edit answer → after ≡ Some answer
  pub only : (answer : Answer) → after ≡ Some answer → (before ≡ Some answer) × Keeps I edit answer

-- ---- laws

-- an answer that an accepted edit keeps is the answer of the edited instance
abbrev pub EachKeptAnswerHolds : Type 0
EachKeptAnswerHolds = (I J : Network) (edit : Edit) (answer : Answer) → IsNetwork I → edited I edit ≡ Ok J → Keeps I edit answer → IsAnswer I answer → IsAnswer J answer

-- what the words say of windows: to fix an event admits anew but for an event without a window or at a time of its window; to unfix it does where its time was fixed, and does not where its window was of all residues
abbrev pub WindowsThatAdmit : Type 0
WindowsThatAdmit =
    ((I : Network) (e t : ℕ) → t < I.period → admits_anew I (effect I (Fix e t)) e ≡ not (agrees_with I.period (window_of I e) t))
    × ((I : Network) (e s : ℕ) → 2 ≤ I.period → s < I.period → window_of I e ≡ Some (at_time s) → admits_anew I (effect I (Unfix e)) e ≡ true)
    × ((I : Network) (e : ℕ) (w : Interval) → w.length ≡ I.period → window_of I e ≡ Some w → admits_anew I (effect I (Unfix e)) e ≡ false)
