-- Values that are put into a list one after another, and an instance to which activities are given so.
use Rattle.std.specs.Prelude.{◌≡◌, ℕ, List, [], ◌∷◌, None}
use Rattle.pesp_base.specs.declared.activity.Activity.{Activity}
use Rattle.pesp_base.specs.Numbered.{with_number, put_in}
use Rattle.pesp_instance.specs.Network.{IsNetwork, Network}

module _ {X : Type 0} (number : X → ℕ) where
  -- each of the values has a number that nothing before it has, and the last list has all of them put in
  abbrev pub ArePut : List X → List X → List X → Type 0
  ArePut before [] last = last ≡ before
  ArePut before (x ∷ xs) last = (with_number number (number x) before ≡ None) × ArePut (put_in number x before) xs last

-- the one instance, which has no activity, and the other differ in the given activities alone
pub record IsFilled (I : Network) (given : List Activity) (J : Network) : Type 0 where
  pub none : I.activities ≡ []
  pub put : ArePut (λ a. a.id) [] given J.activities
  pub kept : J ≡ record I { activities = J.activities }
  pub network : IsNetwork J
