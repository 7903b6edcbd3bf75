-- The change of each edit.
use Rattle.std.proofs.Common.{◌≡◌, ℕ, ◌+◌, ◌*◌, if◌then◌else◌, not, Bool, true, false, List, [], ◌∷◌, Option, Some, None, is_none, Ok, refl, sym, ap, subst, ◌∙◌, inl, inr}
use Rattle.std.specs.Result.{is_ok}
use Rattle.std.proofs.lemmas.Bool.{false≢true}
use Rattle.pesp_base.specs.declared.refusal.Refusal.{Refusal}
use Rattle.pesp_base.specs.Refusals.{unless_refused, when}
use Rattle.pesp_instance.specs.declared.edit.Edit.{Edit}
use Rattle.pesp_instance.specs.declared.edit.Edit.TheVariants.{AddEvent, DropEvent, Fix, SetWindow, Unfix, AddActivity, DropActivity, SetSpan, SetWeight, SetEnds}
use Rattle.pesp_instance.specs.Network.{Network, activity_of, has_event}
use Rattle.pesp_counts_arcs.specs.Ends.{end_at}
use Rattle.pesp_counts_arcs.specs.Links.{Links, StandFor}
use Rattle.pesp_counts_arcs.specs.Places.{place_of}
use Rattle.pesp_counts.specs.declared.keeper.change.Change.{Change}
use Rattle.pesp_counts.specs.declared.keeper.change.PlacedEvent.{PlacedEvent}
use Rattle.pesp_counts.specs.declared.keeper.change.Starts.{Starts}
use Rattle.pesp_counts.specs.declared.keeper.change.Starts.TheVariants.{Nowhere, At, AtBoth}
use Rattle.pesp_counts.specs.Changes.{AreStarts, IsChange, event_at, limited_by, places, recounted_by}
use Rattle.pesp_counts.specs.Reached.{ends_of, starts}
use Rattle.pesp_counts.proofs.Bridge.{some_of}
use Rattle.pesp_counts.proofs.Carried.{place_there}
use Rattle.pesp_counts.proofs.Relinked.{its_places}
use Rattle.std.specs.List.{Contains}
use Rattle.pesp_domains.proofs.Families.{here, here_or_there, not_in_none, there}
use Rattle.pesp_base.proofs.Tests.{same_value}

-- ---- starts

-- the places of these events, in their order
data AreAt (links : Links) : List ℕ → List ℕ → Type 0 where
  nowhere : AreAt links [] []
  at_one : (e p : ℕ) (es ps : List ℕ) → place_of links.events e ≡ Some p → AreAt links es ps → AreAt links (e ∷ es) (p ∷ ps)

at_each : (links : Links) (es ps : List ℕ) → AreAt links es ps → (f q : ℕ) → Contains es f → place_of links.events f ≡ Some q → Contains ps q
at_each links _ _ nowhere f q i at = absurd (not_in_none f i)
at_each links _ _ (at_one e p es ps at rest) f q i at' =
    elim (here_or_there f e es i) [
      | inl same ↦ subst (Contains (p ∷ ps)) (same_value (place_of links.events e) p q at (ap (place_of links.events) same ∙ at')) (here p ps)
      | inr later ↦ there q p ps (at_each links es ps rest f q later at')
    ]

at_only : (links : Links) (es ps : List ℕ) → AreAt links es ps → (q : ℕ) → Contains ps q → (f : ℕ) × Contains es f × (place_of links.events f ≡ Some q)
at_only links _ _ nowhere q i = absurd (not_in_none q i)
at_only links _ _ (at_one e p es ps at rest) q i =
    elim (here_or_there q p ps i) [
      | inl same ↦ (e, here e es, at ∙ ap (λ k. Some k) same)
      | inr later ↦ let w = at_only links es ps rest q later in (w.0, there w.0 e es w.1, w.2)
    ]

starts_at : (I : Network) (edit : Edit) (links : Links) (es ps : List ℕ) → starts I edit ≡ es → AreAt links es ps → AreStarts I edit links ps
starts_at I edit links es ps is are = record { each = λ e p i. at_each links es ps are e p (subst (λ xs. Contains xs e) is i); only = rw is (at_only links es ps are) }

-- no chain begins
pub no_start : (I : Network) (edit : Edit) (links : Links) → starts I edit ≡ [] → AreStarts I edit links []
no_start I edit links none = starts_at I edit links [] [] none nowhere

pub window_starts : (I : Network) (edit : Edit) (links : Links) (e p : ℕ) (b : Bool) → starts I edit ≡ (if b then e ∷ [] else []) → place_of links.events e ≡ Some p → AreStarts I edit links (places (if b then At (p ∷ []) else Nowhere))
window_starts I edit links e p true is at = starts_at I edit links (e ∷ []) (p ∷ []) is (at_one e p [] [] at nowhere)
window_starts I edit links e p false is at = no_start I edit links is

pub both_starts : (I : Network) (edit : Edit) (links : Links) (e f p q : ℕ) (b : Bool) → starts I edit ≡ (if b then e ∷ f ∷ [] else []) → place_of links.events e ≡ Some p → place_of links.events f ≡ Some q → AreStarts I edit links (places (if b then AtBoth (p ∷ q ∷ []) else Nowhere))
both_starts I edit links e f p q true is at at' = starts_at I edit links (e ∷ f ∷ []) (p ∷ q ∷ []) is (at_one e p (f ∷ []) (q ∷ []) at (at_one f q [] [] at' nowhere))
both_starts I edit links e f p q false is at at' = no_start I edit links is

-- that of an edit without a window
pub of_rest : (I : Network) (edit : Edit) (links : Links) (change : Change) → AreStarts I edit links (places change.loosened) → change.limited ≡ None → limited_by edit ≡ None → change.recounted ≡ recounted_by links edit → IsChange I edit links change
of_rest I edit links change begins none limits recounts =
    record {
      starts = begins;
      window = rw none (sym limits);
      limited = λ w same. let never : None ≡ Some w = sym none ∙ same in absurd (cc);
      recounted = recounts;
    }

-- the event that an accepted edit names first is there
pub first_holds : (b : Bool) (first : Refusal) (rest : List (Option Refusal)) (x J : Network) → unless_refused (when (not b) first ∷ rest) x ≡ Ok J → b ≡ true
first_holds true first rest x J ok = refl
first_holds false first rest x J ok = absurd (false≢true (ap is_ok ok))

-- what is told of a window, at the event's place
abbrev TellsWindow : Links → ℕ → Bool → Change → Type 0
TellsWindow links e b change = (p : ℕ) → place_of links.events e ≡ Some p → change ≡ record { loosened = if b then At (p ∷ []) else Nowhere; limited = Some (event_at e p); recounted = None }

pub window_change : (I : Network) (edit : Edit) (links : Links) (e : ℕ) (b : Bool) (change : Change) → StandFor I links → has_event I e ≡ true → starts I edit ≡ (if b then e ∷ [] else []) → limited_by edit ≡ Some e → recounted_by links edit ≡ None → TellsWindow links e b change → IsChange I edit links change
window_change I edit links e b change stand event begins limits recounts tells =
    let p = some_of (place_of links.events e) (stand.of_events e ∙ event) in
    rw (tells p.0 p.1)
    (record {
      starts = window_starts I edit links e p.0 b begins p.1;
      window = sym limits;
      limited = λ w same. let is : event_at e p.0 ≡ w = cc in subst (λ (v : PlacedEvent). place_of links.events v.event ≡ Some v.place) is p.1;
      recounted = sym recounts;
    })

-- both places of the activity at a place
abbrev at_both : Links → ℕ → Starts
at_both links q = AtBoth ((end_at links.ends (2 * q + 1)).looks_at ∷ (end_at links.ends (2 * q)).looks_at ∷ [])

-- what is told of an activity that changes, at its place
abbrev TellsActivity : Links → ℕ → Bool → Change → Type 0
TellsActivity links n b change = (q : ℕ) → place_of links.activities n ≡ Some q → change ≡ record { loosened = if b then at_both links q else Nowhere; limited = None; recounted = Some q }

activity_starts : (I : Network) (edit : Edit) (links : Links) (n q : ℕ) (b : Bool) → StandFor I links → place_of links.activities n ≡ Some q → starts I edit ≡ (if b then ends_of (activity_of I n) else []) → AreStarts I edit links (places (if b then at_both links q else Nowhere))
activity_starts I edit links n q b stand at begins =
    let w = its_places I links n q stand at in
    both_starts I edit links w.0.from w.0.to (end_at links.ends (2 * q + 1)).looks_at (end_at links.ends (2 * q)).looks_at b (begins ∙ ap (λ o. if b then ends_of o else []) w.1) w.2 w.3

-- whether or not its ends are counted anew
pub activity_change : (I : Network) (edit : Edit) (links : Links) (n : ℕ) (b : Bool) (told : Change) (recounted : Option ℕ) → StandFor I links → is_none (activity_of I n) ≡ false → starts I edit ≡ (if b then ends_of (activity_of I n) else []) → limited_by edit ≡ None → TellsActivity links n b told → ((q : ℕ) → place_of links.activities n ≡ Some q → recounted ≡ recounted_by links edit) → IsChange I edit links (record told { recounted = recounted })
activity_change I edit links n b told recounted stand there begins limits tells recounts =
    let q = place_there I links n stand there in
    let is = tells q.0 q.1 in
    of_rest I edit links (record told { recounted = recounted })
    (subst (λ (c : Change). AreStarts I edit links (places c.loosened)) (sym is) (activity_starts I edit links n q.0 b stand q.1 begins)) (ap (λ (c : Change). c.limited) is) limits (recounts q.0 q.1)

nothing : (I : Network) (edit : Edit) (links : Links) → starts I edit ≡ [] → limited_by edit ≡ None → recounted_by links edit ≡ None → IsChange I edit links (record { loosened = Nowhere; limited = None; recounted = None })
nothing I edit links none limits recounts = of_rest I edit links (record { loosened = Nowhere; limited = None; recounted = None }) (no_start I edit links none) refl limits (sym recounts)

-- of the other edits rows and counts see nothing
pub no_change : (I : Network) (edit : Edit) (links : Links) → ((e t : ℕ) → edit ≡ Fix e t → ⊥) → ((e first length : ℕ) → edit ≡ SetWindow e first length → ⊥) → ((e : ℕ) → edit ≡ Unfix e → ⊥) → ((n : ℕ) (span : _) → edit ≡ SetSpan n span → ⊥) → ((n from to : ℕ) → edit ≡ SetEnds n from to → ⊥) → ((n : ℕ) → edit ≡ DropActivity n → ⊥) → IsChange I edit links (record { loosened = Nowhere; limited = None; recounted = None })
no_change I (Fix e t) links a w u c m d = absurd (a e t refl)
no_change I (SetWindow e first length) links a w u c m d = absurd (w e first length refl)
no_change I (Unfix e) links a w u c m d = absurd (u e refl)
no_change I (SetSpan n span) links a w u c m d = absurd (c n span refl)
no_change I (SetEnds n from to) links a w u c m d = absurd (m n from to refl)
no_change I (DropActivity n) links a w u c m d = absurd (d n refl)
no_change I (AddEvent e) links a w u c m d = nothing I (AddEvent e) links refl refl refl
no_change I (DropEvent e) links a w u c m d = nothing I (DropEvent e) links refl refl refl
no_change I (AddActivity x) links a w u c m d = nothing I (AddActivity x) links refl refl refl
no_change I (SetWeight n weight) links a w u c m d = nothing I (SetWeight n weight) links refl refl refl
