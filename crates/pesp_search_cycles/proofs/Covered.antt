-- Leaves, and nodes that are open: together they have each map below a cap.
use Rattle.std.proofs.Common.{◌≡◌, ℕ, ◌≤◌, Option, None, IfSome, MatchOption, ◌⊎◌, inl, inr, All, List, [], ◌∷◌, ◌++◌, Some, refl, sym, ap, subst, ◌∙◌, arith}
use Rattle.std.proofs.lemmas.List.Elements.{All-head, All-nil, All-pop, All-push, All-tail}
use Rattle.std.proofs.lemmas.Bool.{cases_lt}
use Rattle.pesp_search_least.specs.Sums.{AreHalves, InSome, IsCut, IsEmpty, IsLowerBound, IsWithin, Sums}
use Rattle.pesp_search_least.proofs.Stack.{in_some_pop, in_some_push}
use Rattle.pesp_search_cycles.specs.declared.boxes.Boxes.{Boxes}
use Rattle.pesp_search_cycles.specs.declared.node.Node.{Node}
use Rattle.pesp_search_cycles.specs.Leaves.{sums_of}
use Rattle.pesp_search_cycles.specs.Maps.{AreBoxes, IsSummed, Net}

-- where boxes and cycles stay, the maps do
pub same_sums : (new old : Node) → new.cycles ≡ old.cycles → new.boxes ≡ old.boxes → IsWithin (sums_of old) (sums_of new)
same_sums new old e f map sum s =
    subst (λ (B : Boxes). IsSummed new.cycles.now B map sum) (sym f)
    (subst (λ (N : Net). IsSummed N old.boxes map sum) (sym (ap (λ c. c.now) e)) s)

pub bound_before : (new old : Node) (bound : ℕ) → new.cycles ≡ old.cycles → new.boxes ≡ old.boxes → IsLowerBound (sums_of new) bound → IsLowerBound (sums_of old) bound
bound_before new old bound e f h map sum s = h map sum (same_sums new old e f map sum s)

-- what a bound tells of maps is what a lesser one does
pub bounded : (sums : Sums) (bound : Option ℕ) (n : ℕ) → MatchOption bound (IsEmpty sums) (IsLowerBound sums) → IfSome bound (λ b. n ≤ b) → IsLowerBound sums n
bounded sums None n told less map sum s = absurd (told map sum s)
bounded sums (Some b) n told less map sum s = omega (arith, told map sum s, less)

-- those of leaves and of nodes
abbrev pub InEither : Net → List Boxes → List Node → Sums
InEither N leaves nodes map sum = InSome (IsSummed N) leaves map sum ⊎ InSome sums_of nodes map sum

-- each map below the cap is in a leaf or in a node, and no map is new
pub record AreCovered (N : Net) (cap : ℕ) (all : Sums) (leaves : List Boxes) (nodes : List Node) : Type 0 where
  pub same : All (λ n. n.cycles.now ≡ N) nodes
  pub fit : All (AreBoxes N) leaves
  pub cut : IsCut cap all (InEither N leaves nodes)

-- no map of a leaf costs less
abbrev pub AreAbove : Net → ℕ → List Boxes → Type 0
AreAbove N least leaves = All (λ B. IsLowerBound (IsSummed N B) least) leaves

-- what is told of the leaves so far
pub record AreKept (N : Net) (cap : ℕ) (leaves : List Boxes) (least : ℕ) : Type 0 where
  pub above : AreAbove N least leaves
  pub low : least ≤ cap

pub kept_more : (N M : Net) (cap : ℕ) (leaves : List Boxes) (least new : ℕ) (B : Boxes) → AreKept N cap leaves least → new ≤ least → M ≡ N → IsLowerBound (IsSummed M B) new → AreKept N cap (leaves ++ B ∷ []) new
kept_more N M cap leaves least new B kept less same bound = record {
  above =
      All-push (λ (C : Boxes). IsLowerBound (IsSummed N C) new) leaves B (λ k d h map sum s. omega (arith, kept.above k d h map sum s, less))
      (subst (λ (O : Net). IsLowerBound (IsSummed O B) new) same bound);
  low = omega (arith, kept.low, less);
}

in_some_above : (N : Net) (least : ℕ) (leaves : List Boxes) → AreAbove N least leaves → IsLowerBound (InSome (IsSummed N) leaves) least
in_some_above N least [] above map sum s = absurd s
in_some_above N least (B ∷ leaves) above map sum s =
    elim s [
      | inl here ↦ All-head (λ (C : Boxes). IsLowerBound (IsSummed N C) least) B leaves above map sum here
      | inr there ↦ in_some_above N least leaves (All-tail (λ (C : Boxes). IsLowerBound (IsSummed N C) least) B leaves above) map sum there
    ]

-- what all maps cost at least
pub least_of_kept : (N : Net) (cap : ℕ) (all : Sums) (leaves : List Boxes) (least : ℕ) → AreKept N cap leaves least → IsCut cap all (InSome (IsSummed N) leaves) → IsLowerBound all least
least_of_kept N cap all leaves least kept cut map sum s =
    elim (cases_lt sum cap) [
      | inl low ↦ in_some_above N least leaves kept.above map sum (cut.keeps map sum low s)
      | inr high ↦ omega (arith, high, kept.low)
    ]

pub covered_last : (N : Net) (cap : ℕ) (all : Sums) (leaves : List Boxes) → AreCovered N cap all leaves [] → IsCut cap all (InSome (IsSummed N) leaves)
covered_last N cap all leaves is = record {
  keeps = λ map sum less has. elim (is.cut.keeps map sum less has) [ inl leaf ↦ leaf | inr none ↦ absurd none ];
  within = λ map sum has. is.cut.within map sum (inl has);
}

module _ (N : Net) (cap : ℕ) (all : Sums) where
  module _ (leaves : List Boxes) (ns : List Node) (n : Node) (is : AreCovered N cap all leaves (ns ++ n ∷ [])) where
    parted : All (λ (m : Node). m.cycles.now ≡ N) ns × (n.cycles.now ≡ N)
    parted = All-pop (λ (m : Node). m.cycles.now ≡ N) (ns ++ n ∷ []) ns (Some n) refl is.same

    pub covered_same : n.cycles.now ≡ N
    covered_same = parted.1

    rest_within : IsWithin (InEither N leaves ns) all
    rest_within map sum has =
        is.cut.within map sum
        (elim has [ inl leaf ↦ inl leaf | inr node ↦ inr (in_some_push sums_of ns n map sum (inl node)) ])

    node_within : IsWithin (sums_of n) all
    node_within map sum has = is.cut.within map sum (inr (in_some_push sums_of ns n map sum (inr has)))

    -- without a node that has nothing below the cap
    pub covered_nothing : IsLowerBound (sums_of n) cap → AreCovered N cap all leaves ns
    covered_nothing bound = record {
      same = parted.0;
      fit = is.fit;
      cut = record {
        keeps = λ map sum less has.
            elim (is.cut.keeps map sum less has) [
              | inl leaf ↦ inl leaf
              | inr node ↦ elim (in_some_pop sums_of ns n map sum node) [ inl there ↦ inr there | inr here ↦ absurd (omega (arith, less, bound map sum here)) ]
            ];
        within = rest_within;
      };
    }

    -- with a node as a leaf
    pub covered_leaf : (B : Boxes) → AreBoxes N B → IsWithin (sums_of n) (IsSummed N B) → IsWithin (IsSummed N B) (sums_of n) → AreCovered N cap all (leaves ++ B ∷ []) ns
    covered_leaf B fit there back = record {
      same = parted.0;
      fit = All-push (AreBoxes N) leaves B is.fit fit;
      cut = record {
        keeps = λ map sum less has.
            elim (is.cut.keeps map sum less has) [
              | inl leaf ↦ inl (in_some_push (IsSummed N) leaves B map sum (inl leaf))
              | inr node ↦ elim (in_some_pop sums_of ns n map sum node) [ inl other ↦ inr other | inr here ↦ inl (in_some_push (IsSummed N) leaves B map sum (inr (there map sum here))) ]
            ];
        within = λ map sum has.
            elim has [
              | inl leaf ↦ elim (in_some_pop (IsSummed N) leaves B map sum leaf) [ inl old ↦ rest_within map sum (inl old) | inr new ↦ node_within map sum (back map sum new) ]
              | inr node ↦ rest_within map sum (inr node)
            ];
      };
    }

    pub covered_push : (m : Node) → m.cycles ≡ n.cycles → m.boxes ≡ n.boxes → AreBoxes m.cycles.now m.boxes → AreCovered N cap all (leaves ++ m.boxes ∷ []) ns
    covered_push m e f fit =
        let here : m.cycles.now ≡ N = ap (λ c. c.now) e ∙ covered_same in
        covered_leaf m.boxes (subst (λ (M : Net). AreBoxes M m.boxes) here fit)
        (λ map sum s. subst (λ (M : Net). IsSummed M m.boxes map sum) here (same_sums m n e f map sum s))
        (λ map sum s. same_sums n m (sym e) (sym f) map sum (subst (λ (M : Net). IsSummed M m.boxes map sum) (sym here) s))

    -- with both halves in place of a node
    pub covered_halves : (first second : Node) → first.cycles.now ≡ N → second.cycles.now ≡ N → AreHalves (sums_of n) (sums_of first) (sums_of second) → AreCovered N cap all leaves ((ns ++ second ∷ []) ++ first ∷ [])
    covered_halves first second a b halves =
        let more = ns ++ second ∷ [] in
        record {
          same = All-push (λ (m : Node). m.cycles.now ≡ N) more first (All-push (λ (m : Node). m.cycles.now ≡ N) ns second parted.0 b) a;
          fit = is.fit;
          cut = record {
            keeps = λ map sum less has.
                elim (is.cut.keeps map sum less has) [
                  | inl leaf ↦ inl leaf
                  | inr node ↦
                      elim (in_some_pop sums_of ns n map sum node) [
                        | inl other ↦ inr (in_some_push sums_of more first map sum (inl (in_some_push sums_of ns second map sum (inl other))))
                        | inr here ↦
                            elim (halves.keeps map sum here) [
                              | inl x ↦ inr (in_some_push sums_of more first map sum (inr x))
                              | inr y ↦ inr (in_some_push sums_of more first map sum (inl (in_some_push sums_of ns second map sum (inr y))))
                            ]
                      ]
                ];
            within = λ map sum has.
                elim has [
                  | inl leaf ↦ rest_within map sum (inl leaf)
                  | inr node ↦
                      elim (in_some_pop sums_of more first map sum node) [
                        | inl others ↦
                            elim (in_some_pop sums_of ns second map sum others) [
                              | inl other ↦ rest_within map sum (inr other)
                              | inr y ↦ node_within map sum (halves.second_within map sum y)
                            ]
                        | inr x ↦ node_within map sum (halves.first_within map sum x)
                      ]
                ];
          };
        }

-- of the same maps
pub cut_along : (cap : ℕ) (all some few : Sums) → IsWithin all some → IsWithin some all → IsCut cap some few → IsCut cap all few
cut_along cap all some few there back cut = record {
  keeps = λ map sum less has. cut.keeps map sum less (there map sum has);
  within = λ map sum has. back map sum (cut.within map sum has);
}

-- of one leaf that has all maps
pub cut_alone : (N : Net) (cap : ℕ) (all : Sums) (leaves : List Boxes) (B : Boxes) → leaves ≡ B ∷ [] → IsWithin all (IsSummed N B) → IsWithin (IsSummed N B) all → IsCut cap all (InSome (IsSummed N) leaves)
cut_alone N cap all leaves B e there back =
    subst (λ (ls : List Boxes). IsCut cap all (InSome (IsSummed N) ls)) (sym e)
    (record {
      keeps = λ map sum less has. inl (there map sum has);
      within = λ map sum has. elim has [ inl here ↦ back map sum here | inr none ↦ absurd none ];
    })
