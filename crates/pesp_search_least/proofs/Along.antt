-- How far the search for the first map has come: the best agrees with each map that is left up to the event, and no map of its sum precedes it there.
use Rattle.std.proofs.Common.{◌≡◌, ℕ, ◌+◌, ◌<◌, ◌⊎◌, List, [], ◌∷◌, ◌++◌, length, get_or, take, refl, sym, ◌∙◌, inl, inr, arith}
use Rattle.std.proofs.lemmas.List.{length-take-le, take_more}
use Rattle.pesp_search_least.specs.declared.outcome.Candidate.{Candidate}
use Rattle.pesp_search_least.specs.Order.{IsFirstAt, IsHeld, IsSettled, Precedes}
use Rattle.pesp_search_least.specs.Sums.{AreLong, IsLeast, IsLowerBound, IsWithin, Sums}

-- ---- lists

-- lists of one length that are the same with one more each have the same items
pub same_push : (xs ys : List ℕ) (x y : ℕ) → length xs ≡ length ys → xs ++ x ∷ [] ≡ ys ++ y ∷ [] → (xs ≡ ys) × (x ≡ y)
same_push [] [] x y long same = (refl, cc)
same_push [] (b ∷ ys) x y long same = absurd (cc)
same_push (a ∷ xs) [] x y long same = absurd (cc)
same_push (a ∷ xs) (b ∷ ys) x y long same =
    let rest : (xs ≡ ys) × (x ≡ y) = same_push xs ys x y (cc) (cc) in
    let head : a ≡ b = cc in
    (cc (rest.0, head), rest.1)

-- one precedes the other with one more each: it did before, or is smaller there
pub precedes_push : (xs ys : List ℕ) (x y : ℕ) → length xs ≡ length ys → Precedes (xs ++ x ∷ []) (ys ++ y ∷ []) → Precedes xs ys ⊎ ((xs ≡ ys) × (x < y))
precedes_push [] [] x y long is = elim is [ inl less ↦ inr (refl, less) | inr more ↦ absurd more.1 ]
precedes_push [] (b ∷ ys) x y long is = absurd (cc)
precedes_push (a ∷ xs) [] x y long is = absurd (cc)
precedes_push (a ∷ xs) (b ∷ ys) x y long is =
    elim is [
      | inl less ↦ inl (inl less)
      | inr more ↦ elim (precedes_push xs ys x y (cc) more.1) [
        | inl before ↦ inl (inr (more.0, before))
        | inr after ↦ inr (cc (more.0, after.0), after.1)
      ]
    ]

-- ---- one event after the other

-- the best has least sum among the maps that are left; these agree with it up to the event, and each map that does is left
pub record IsAlong (root rest : Sums) (event : ℕ) (best : Candidate) : Type 0 where
  pub least : IsLeast rest best
  pub bound : IsLowerBound root best.cost
  pub within : IsWithin rest root
  pub agrees : (map : List ℕ) (sum : ℕ) → rest map sum → take event map ≡ take event best.map.items
  pub keeps : (map : List ℕ) (sum : ℕ) → root map sum → take event map ≡ take event best.map.items → rest map sum

-- and no map of its sum precedes it there
pub record IsFirstAlong (root rest : Sums) (event : ℕ) (best : Candidate) : Type 0 where
  pub along : IsAlong root rest event best
  pub first : IsSettled root event best

-- at first
pub along_start : (root : Sums) (best : Candidate) → IsLeast root best → IsAlong root root 0 best
along_start root best is =
    record {
      least = is;
      bound = is.least;
      within = λ map sum has. has;
      agrees = λ map sum has. refl;
      keeps = λ map sum has same. has;
    }

-- an event more, at which the best has this residue
pub along_held : (root rest new : Sums) (event events : ℕ) (best : Candidate) → AreLong root events → event < events → IsAlong root rest event best → IsHeld event (get_or best.map.items event 0) rest new → IsAlong root new (event + 1) best
along_held root rest new event events best long inside along cut =
    record {
      least = record { has = cut.keeps m best.cost along.least.has refl; least = λ map sum has. along.least.least map sum (cut.within map sum has) };
      bound = along.bound;
      within = λ map sum has. along.within map sum (cut.within map sum has);
      agrees = λ map sum has.
          let here : get_or map event 0 ≡ get_or m event 0 = cut.held map sum has in
          rw (longer map (lengths map sum (along.within map sum (cut.within map sum has))), longer m mine) (cc (along.agrees map sum (cut.within map sum has), here));
      keeps = λ map sum has agree.
          let both = parts map sum has agree in
          cut.keeps map sum (along.keeps map sum has both.0) both.1;
    }
  where
    m : List ℕ
    m = best.map.items

    lengths : (map : List ℕ) (sum : ℕ) → root map sum → event < length map
    lengths map sum has = omega (arith, long map sum has, inside)

    mine : event < length m
    mine = lengths m best.cost (along.within m best.cost along.least.has)

    longer : (map : List ℕ) → event < length map → take (event + 1) map ≡ take event map ++ get_or map event 0 ∷ []
    longer map less = take_more map event 0 less

    level : (map : List ℕ) → event < length map → length (take event map) ≡ length (take event m)
    level map less = length-take-le event map (omega (arith, less)) ∙ sym (length-take-le event m (omega (arith, mine)))

    parts : (map : List ℕ) (sum : ℕ) → root map sum → take (event + 1) map ≡ take (event + 1) m → (take event map ≡ take event m) × (get_or map event 0 ≡ get_or m event 0)
    parts map sum has agree =
        same_push (take event map) (take event m) (get_or map event 0) (get_or m event 0) (level map (lengths map sum has)) (sym (longer map (lengths map sum has)) ∙ agree ∙ longer m mine)

-- another one of least sum
along_other : (root rest : Sums) (event : ℕ) (old best : Candidate) → IsAlong root rest event old → IsLeast rest best → best.cost ≡ old.cost → IsAlong root rest event best
along_other root rest event old best along least costs = record {
  least = least;
  bound = λ map sum has. omega (arith, along.bound map sum has, costs);
  within = along.within;
  agrees = λ map sum has. along.agrees map sum has ∙ sym (along.agrees best.map.items best.cost least.has);
  keeps = λ map sum has same. along.keeps map sum has (same ∙ along.agrees best.map.items best.cost least.has);
}

-- an event more, at which the best is first
pub along_more : (root rest new : Sums) (event events : ℕ) (old best : Candidate) → AreLong root events → event < events → IsFirstAlong root rest event old → IsFirstAt rest event best → best.cost ≡ old.cost → IsHeld event (get_or best.map.items event 0) rest new → IsFirstAlong root new (event + 1) best
along_more root rest new event events old best long inside is at costs cut =
    record {
      along = along_held root rest new event events best long inside (along_other root rest event old best is.along at.least costs) cut;
      first = λ map sum has before.
          elim (precedes_push (take event map) (take event m) (get_or map event 0) (get_or m event 0) (level map (lengths map sum has)) (rw (longer map (lengths map sum has), longer m mine) at before)) [
            | inl earlier ↦ omega (arith, is.first map sum has (rw same at earlier), costs)
            | inr here ↦ at.first map sum (is.along.keeps map sum has (here.0 ∙ same)) here.1
          ];
    }
  where
    m : List ℕ
    m = best.map.items

    lengths : (map : List ℕ) (sum : ℕ) → root map sum → event < length map
    lengths map sum has = omega (arith, long map sum has, inside)

    mine : event < length m
    mine = lengths m best.cost (is.along.within m best.cost at.least.has)

    same : take event m ≡ take event old.map.items
    same = is.along.agrees m best.cost at.least.has

    longer : (map : List ℕ) → event < length map → take (event + 1) map ≡ take event map ++ get_or map event 0 ∷ []
    longer map less = take_more map event 0 less

    level : (map : List ℕ) → event < length map → length (take event map) ≡ length (take event m)
    level map less = length-take-le event map (omega (arith, less)) ∙ sym (length-take-le event m (omega (arith, mine)))
