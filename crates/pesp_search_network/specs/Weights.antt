-- Networks of which only some arcs weigh anything.
use Rattle.std.specs.Prelude.{◌≡◌, ℕ, Bool, true, false, List, [], ◌∷◌, map}
use Rattle.pesp_search_graph.specs.declared.arc.Arc.{Arc}

-- the arc, without its weight where that is not kept
abbrev pub kept : Bool → Arc → Arc
kept true a = a
kept false a = record a { weight = 0 }

-- the arcs whose parts are these, and the others without their weights
abbrev pub weighed : (ℕ → Bool) → List ℕ → List Arc → List Arc
weighed is_these parts [] = []
weighed is_these [] (a ∷ arcs) = kept false a ∷ weighed is_these [] arcs
weighed is_these (p ∷ parts) (a ∷ arcs) = kept (is_these p) a ∷ weighed is_these parts arcs

-- the same arcs but for what they weigh
abbrev pub AreAlike : List Arc → List Arc → Type 0
AreAlike arcs others = map (kept false) arcs ≡ map (kept false) others
