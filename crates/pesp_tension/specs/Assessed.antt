-- Tensions, violations and cost at once.
use Rattle.std.specs.Prelude.{◌≡◌, ◌+◌, ◌++◌}
use Rattle.pesp_instance.specs.Network.{Network}
use Rattle.pesp_tension.specs.declared.assessment.Assessment.{Assessment}
use Rattle.pesp_tension.specs.Answers.{cost_of, tensions_of, unmet_among, violations_of}
use Rattle.pesp_tension.specs.Timetables.{Times}

-- the three answers of a timetable for an instance
pub record IsAssessment (I : Network) (m : Times) (a : Assessment) : Type 0 where
  pub tensions : a.tensions.items ≡ tensions_of I m
  pub violations : a.violations.items ≡ violations_of I m
  pub cost : a.cost ≡ cost_of I m

-- what the activities answer stands after what was there
pub record IsAfter (I : Network) (m : Times) (old new : Assessment) : Type 0 where
  pub tensions : new.tensions.items ≡ old.tensions.items ++ tensions_of I m
  pub violations : new.violations.items ≡ old.violations.items ++ unmet_among m I.activities
  pub cost : new.cost ≡ old.cost + cost_of I m
