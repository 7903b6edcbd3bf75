-- Whether one window has a residue that another one lacks is told by how far apart they begin.
use Rattle.std.proofs.Common.{◌≡◌, ℕ, ◌+◌, ◌-◌, ◌%◌, ◌<◌, ◌≤◌, ◌⊎◌, ◌&&◌, not, nat_lt, Bool, true, false, List, [], ◌∷◌, pos, ◌-ℤ◌, ◌≤ℤ◌, refl, sym, ap, ◌∙◌, inl, inr, arith}
use Rattle.std.specs.List.{list_any, range_with_len}
use Rattle.std.proofs.lemmas.Bool.{cases_Bool, cases_lt, false≢true, le-ltb, lt-ltb}
use Rattle.std.proofs.lemmas.Int.{ints}
use Rattle.pesp_base.specs.Bounds.{Bounds}
use Rattle.pesp_base.specs.Residues.{reach}
use Rattle.pesp_base.specs.Tensions.{is_met, residue, slack_of}
use Rattle.pesp_base.proofs.Laws.{met_is, residue_below}
use Rattle.pesp_base.proofs.Ranges.{some_below}
use Rattle.pesp_base.proofs.ResidueLaws.{met_within_reach, residue-below_first, residue-residue_sub}
use Rattle.pesp_domains.proofs.Around.{far_either, residue_from}
use Rattle.pesp_domains.proofs.Families.{of_range, passing}

-- how far a residue is above the first one of a window
abbrev above : ℕ → ℕ → ℕ → ℕ
above T first s = (s + (T - first)) % T

module _ (T old old_width new new_width : ℕ) (old_first : old < T) (new_first : new < T) (some : 0 < new_width) (width : new_width ≤ T) (old_within : old_width ≤ T) where
  abbrev test : ℕ → Bool
  test s = nat_lt (above T new s) new_width && not (nat_lt (above T old s) old_width)

  abbrev apart : ℕ
  apart = above T old new

  -- a number of steps leads to a residue
  step : (k : ℕ) → k < T → (s : ℕ) × (s < T) × ((s ≡ new + k) ⊎ (s + T ≡ new + k))
  step k kl =
      elim (cases_lt (new + k) T) [
        | inl low ↦ (new + k, low, inl refl)
        | inr high ↦ (new + k - T, omega (arith, high, kl, new_first), inr (omega (arith, high)))
      ]

  -- where it is in the new window and beyond the old one
  found : (k : ℕ) → k < new_width → apart + k < T → old_width ≤ apart + k → list_any test (range_with_len 0 T) ≡ true
  found k near within far =
      let s = step k (omega (arith, near, width)) in
      let a = far_either T new s.0 new_first s.1 in
      let b = far_either T old s.0 old_first s.1 in
      let c = far_either T old new old_first new_first in
      some_below test T s.0 s.1 (grind (arith, a, b, c, s.2, near, within, far, width, old_first, new_first))

  more : old_width < T → old_width < apart + new_width → list_any test (range_with_len 0 T) ≡ true
  more short beyond =
      let c = far_either T old new old_first new_first in
      elim (cases_lt apart old_width) [
        | inl inside ↦ found (old_width - apart) (omega (arith, beyond, inside)) (omega (arith, short, inside)) (omega (arith, inside))
        | inr outside ↦ found 0 some (grind (arith, c, old_first, new_first)) (omega (arith, outside))
      ]

  lacks : (old_width ≡ T) ⊎ (apart + new_width ≤ old_width) → (s : ℕ) → s < T → test s ≡ false
  lacks fits s sl =
      let a = far_either T new s new_first sl in
      let b = far_either T old s old_first sl in
      let c = far_either T old new old_first new_first in
      grind (arith, a, b, c, fits, sl, old_first, new_first, old_within)

  no_more : (old_width ≡ T) ⊎ (apart + new_width ≤ old_width) → list_any test (range_with_len 0 T) ≡ false
  no_more fits =
      elim (cases_Bool (list_any test (range_with_len 0 T))) [
        | inl some ↦
            let x = passing test (range_with_len 0 T) some in
            let sl : x.0 < T = let l = of_range 0 T x.0 x.1 in omega (arith, l.1) in
            absurd (false≢true (sym (lacks fits x.0 sl) ∙ x.2))
        | inr none ↦ none
      ]

  more_is : list_any test (range_with_len 0 T) ≡ (nat_lt old_width T && nat_lt old_width (apart + new_width))
  more_is =
      elim (cases_lt old_width T) [
        | inl short ↦ elim (cases_lt old_width (apart + new_width)) [
          | inl beyond ↦ let some = more short beyond in grind (arith, some, short, beyond)
          | inr fits ↦ let none = no_more (inr (omega (arith, fits))) in grind (arith, none, fits)
        ]
        | inr full ↦ let none = no_more (inl (omega (arith, full, old_within))) in grind (arith, none, full)
      ]

any_same : (f g : ℕ → Bool) → ((s : ℕ) → f s ≡ g s) → (ss : List ℕ) → list_any f ss ≡ list_any g ss
any_same f g same [] = refl
any_same f g same (s ∷ ss) = rw (same s, any_same f g same ss) refl

-- what a span admits with residue 0 stands in a window from the residue of its lower bound on
met_in_window : (T : ℕ) (span : Bounds) → 0 < T → span.lower ≤ℤ span.upper → (d : ℕ) → is_met T span 0 d ≡ nat_lt (above T (residue T span.lower) d) (reach T span + 1)
met_in_window T span some in_order d =
    let low = residue_below T span.lower some in
    let same : pos d -ℤ span.lower ≡ pos d -ℤ pos 0 -ℤ span.lower = omega (arith, ints) in
    let far : above T (residue T span.lower) d ≡ slack_of T span 0 d = sym (residue-below_first T d (residue T span.lower) some (omega (arith, low))) ∙ residue_from T (pos d) span.lower some ∙ ap (residue T) same in
    elim (cases_Bool (is_met T span 0 d)) [
      | inl met ↦
          let near = (met_within_reach T span some in_order 0 d).0 ((met_is T span 0 d some).0 met) in
          grind (arith, met, near, far)
      | inr unmet ↦ elim (cases_lt (reach T span) (slack_of T span 0 d)) [
        | inl beyond ↦ grind (arith, unmet, beyond, far)
        | inr near ↦ absurd (false≢true (sym unmet ∙ (met_is T span 0 d some).1 ((met_within_reach T span some in_order 0 d).1 (omega (arith, near)))))
      ]
    ]

-- how far apart the windows of two spans begin
apart_is : (T : ℕ) (old new : Bounds) → 0 < T → above T (residue T old.lower) (residue T new.lower) ≡ residue T (new.lower -ℤ old.lower)
apart_is T old new some =
    let low = residue_below T old.lower some in
    sym (residue-below_first T (residue T new.lower) (residue T old.lower) some (omega (arith, low)))
    ∙ residue_from T (pos (residue T new.lower)) old.lower some ∙ residue-residue_sub T new.lower old.lower some

-- of two spans: whether the new one admits with residue 0 what the old one does not
module _ (T : ℕ) (old new : Bounds) (ahead old_width new_width : ℕ) (some : 0 < T) (old_order : old.lower ≤ℤ old.upper) (new_order : new.lower ≤ℤ new.upper) (ahead_is : ahead ≡ residue T (new.lower -ℤ old.lower)) (old_is : old_width ≡ reach T old + 1) (new_is : new_width ≡ reach T new + 1) where
  abbrev admitted : ℕ → Bool
  admitted d = is_met T new 0 d && not (is_met T old 0 d)

  by_windows : list_any admitted (range_with_len 0 T) ≡ (nat_lt old_width T && nat_lt old_width (ahead + new_width))
  by_windows =
      any_same _ _ (λ d. rw (met_in_window T new some new_order d, met_in_window T old some old_order d) refl) (range_with_len 0 T)
      ∙ more_is T (residue T old.lower) (reach T old + 1) (residue T new.lower) (reach T new + 1) (residue_below T old.lower some) (residue_below T new.lower some) (omega arith) (omega (arith, some)) (omega (arith, some))
      ∙ rw (ahead_is, old_is, new_is, apart_is T old new some) refl

  pub wider_short : old_width < T → list_any admitted (range_with_len 0 T) ≡ nat_lt old_width (ahead + new_width)
  wider_short short = by_windows ∙ rw (lt-ltb old_width T short) refl

  pub wider_full : T ≤ old_width → list_any admitted (range_with_len 0 T) ≡ false
  wider_full full = by_windows ∙ rw (le-ltb old_width T full) refl
