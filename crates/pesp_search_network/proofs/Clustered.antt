-- A network whose events that go with one another are one is searched in the place of the other.
use Rattle.std.proofs.Common.{◌≡◌, ℕ, zero, suc, ◌+◌, ◌*◌, ◌%◌, ◌<◌, IsTrue, All, inl, inr, List, [], ◌∷◌, length, get_or, map, slice_index, sum_by, sym, subst, ap, ◌∙◌, arith, mod-lt}
use Rattle.std.proofs.lemmas.Bool.{cases_lt}
use Rattle.std.proofs.lemmas.List.{ext_get_or, get_or-map, get_or_default, get_or_past, length-map}
use Rattle.pesp_base.proofs.WindowLaws.{after_no_step}
use Rattle.pesp_search_least.specs.Order.{Precedes}
use Rattle.pesp_search_network.specs.Arcs.{AreArcs, Arcs, IsCosted, IsMet, cost_in, has}
use Rattle.pesp_search_network.specs.Prices.{unmet}
use Rattle.pesp_search_network.specs.Reduced.{IsLift, IsReduced}
use Rattle.pesp_search_network.specs.Shifts.{lifted}
use Rattle.pesp_search_network.specs.Tied.{AreAscending, AreLed, AreMoved, AreRowsHeld, IsBelow, shifted}
use Rattle.pesp_search_network.specs.declared.presolve.shift.Shift.{Shift}
use Rattle.pesp_search_network.proofs.Costed.{below_all, cheap_costed, costed_cheap}
use Rattle.pesp_search_network.proofs.Moved.{lifted_at}
use Rattle.pesp_search_network.proofs.Residues.{keeps_rows}

-- ---- the order of maps

-- the first event at which two maps differ
pub record IsFirstApart (y z : List ℕ) (at : ℕ) : Type 0 where
  pub same : (v : ℕ) → v < at → slice_index y v ≡ slice_index z v
  pub less : slice_index y at < slice_index z at

pub precedes_of : (y z : List ℕ) (at : ℕ) → length y ≡ length z → IsFirstApart y z at → Precedes y z
precedes_of [] [] at long is = absurd (omega (arith, is.less))
precedes_of [] (s ∷ z) at long is = absurd (omega (arith, long))
precedes_of (r ∷ y) [] at long is = absurd (omega (arith, long))
precedes_of (r ∷ y) (s ∷ z) zero long is = inl is.less
precedes_of (r ∷ y) (s ∷ z) (suc at) long is =
    inr (is.same 0 (omega arith), precedes_of y z at (omega (arith, long)) (record { same = λ v h. is.same (suc v) (omega (arith, h)); less = is.less }))

module _ (T : ℕ) (y z : List ℕ) (y_below : IsBelow T y) (z_below : IsBelow T z) where
  -- events that go with others differ no sooner than these
  pub first_apart : (shifts : List Shift) (seen : ℕ) → AreAscending seen shifts → ((v : ℕ) → v < seen → slice_index y v ≡ slice_index z v) → Precedes (lifted T shifts y) (lifted T shifts z) → (at : ℕ) × IsFirstApart y z at
  first_apart [] seen is same before = absurd before
  first_apart (s ∷ shifts) seen (inl (old, rest)) same (inl less) = absurd (omega (arith, less, ap (λ r. (r + s.offset) % T) (same s.index old)))
  first_apart (s ∷ shifts) seen (inl (old, rest)) same (inr (e, later)) = first_apart shifts seen rest same later
  first_apart (s ∷ shifts) seen (inr (new, level, rest)) same (inl less) =
      (s.index, record { same = λ v h. same v (omega (arith, h, new)); less = omega (arith, less, at_level s level y y_below, at_level s level z z_below) })
    where
      at_level : (s : Shift) → s.offset ≡ 0 → (x : List ℕ) → IsBelow T x → (slice_index x s.index + s.offset) % T ≡ slice_index x s.index
      at_level s level x below = ap (λ o. (slice_index x s.index + o) % T) level ∙ after_no_step T (slice_index x s.index) (below s.index)
  first_apart (s ∷ shifts) seen (inr (new, level, rest)) same (inr (e, later)) =
      first_apart shifts (seen + 1) rest
      (λ v h. elim (cases_lt v seen) [
        | inl less ↦ same v less
        | inr most ↦
            (let here : s.index ≡ v = omega (arith, most, h, new) in
            subst (λ w. slice_index y w ≡ slice_index z w) here (sym (at_level s level y y_below) ∙ e ∙ at_level s level z z_below))
      ])
      later
    where
      at_level : (s : Shift) → s.offset ≡ 0 → (x : List ℕ) → IsBelow T x → (slice_index x s.index + s.offset) % T ≡ slice_index x s.index
      at_level s level x below = ap (λ o. (slice_index x s.index + o) % T) level ∙ after_no_step T (slice_index x s.index) (below s.index)

-- ---- the clusters

module _ (N M : Arcs) (leaders : List ℕ) (shifts : List Shift) (sound : AreArcs N) (led : AreLed N N.events leaders shifts) (ascending : AreAscending 0 shifts)
    (period : M.period ≡ N.period) (events : M.events ≡ length leaders) (held : AreRowsHeld N shifts N.events M) (moved : AreMoved N shifts M) where
  abbrev T : ℕ
  T = N.period

  abbrev d₀ : Shift
  d₀ = record { index = 0; offset = 0 }

  some : 0 < T
  some = omega (arith, sound.some)

  -- the residues of the leaders
  abbrev led_by : List ℕ → List ℕ
  led_by x = map (slice_index x) leaders

  led_at : (x : List ℕ) (i : ℕ) → i < length leaders → slice_index (led_by x) i ≡ slice_index x (slice_index leaders i)
  led_at x i h = get_or-map (slice_index x) leaders i 0 0 h

  -- a map is that of its leaders, lifted
  is_lifted : (x : List ℕ) → IsMet N x → (v : ℕ) → v < N.events → slice_index x v ≡ shifted T shifts (led_by x) v d₀
  is_lifted x met v h =
      led.tied v d₀ x h met ∙ ap (λ r. (r + (get_or shifts v d₀).offset) % T) (sym (led_at x (get_or shifts v d₀).index (led.within v d₀ h)))

  lift_of : (x : List ℕ) → IsMet N x → x ≡ lifted T shifts (led_by x)
  lift_of x met =
      ext_get_or 0 x (lifted T shifts (led_by x)) (met.long ∙ sym led.long ∙ sym (length-map shifts (λ s. (slice_index (led_by x) s.index + s.offset) % T)))
      (λ v h. is_lifted x met v (omega (arith, h, met.long)) ∙ sym (lifted_at T shifts (led_by x) v d₀ (omega (arith, h, met.long, led.long))))

  leaders_below : (x : List ℕ) → IsMet N x → IsBelow T (led_by x)
  leaders_below x met v = elim (cases_lt v (length leaders)) [
    | inl less ↦ subst (λ r. r < T) (sym (led_at x v less)) (below_all T x some met.below (slice_index leaders v))
    | inr past ↦ subst (λ r. r < T) (sym (get_or_past (led_by x) v 0 (omega (arith, past, length-map leaders (slice_index x))))) some
  ]

  is_below : (y : List ℕ) → IsMet M y → IsBelow T y
  is_below y met = below_all T y some (subst (λ t. All (λ r. r < t) y) period met.below)

  down : (x : List ℕ) (cost : ℕ) → IsCosted N x cost → IsLift M 0 1 (lifted T shifts) x cost
  down x cost is =
      let y = led_by x in
      let met = is.met in
      let same = lift_of x met in
      let cheap = costed_cheap N x cost is in
      let rows = keeps_rows N x met in
      let exchanged = moved y in
      let none = exchanged.met (subst (λ (m : List ℕ). sum_by (unmet T m) N.arcs ≡ 0) same cheap.none) in
      record {
        reduced = y;
        part = sum_by (cost_in T y) M.arcs;
        has =
            cheap_costed M y (sum_by (cost_in T y) M.arcs)
            (record {
              rows = record {
                long = length-map leaders (slice_index x) ∙ sym events;
                below = λ v h. subst (λ t. slice_index y v < t) (sym period) (leaders_below x met v);
                rows = held.kept y (leaders_below x met) (λ event d h.
                    (let at = get_or_default shifts event d₀ d (omega (arith, h, led.long)) in
                    subst (λ (s : Shift). IsTrue (has N event ((slice_index y s.index + s.offset) % T))) at
                    (subst (λ r. IsTrue (has N event r)) (is_lifted x met event h) (rows.rows event h))));
              };
              none = ap (λ t. sum_by (unmet t y) M.arcs) period ∙ none;
              costs = ap (λ t. sum_by (cost_in t y) M.arcs) period;
            });
        is = same;
        costs = sym cheap.costs ∙ ap (λ (m : List ℕ). sum_by (cost_in T m) N.arcs) same ∙ exchanged.costs none ∙ omega arith;
      }

  up : (y : List ℕ) (part : ℕ) → IsCosted M y part → IsCosted N (lifted T shifts y) (0 + 1 * part)
  up y part is =
      let cheap = costed_cheap M y part is in
      let below = is_below y is.met in
      let none : sum_by (unmet T y) M.arcs ≡ 0 = ap (λ t. sum_by (unmet t y) M.arcs) (sym period) ∙ cheap.none in
      let costs : sum_by (cost_in T y) M.arcs ≡ part = ap (λ t. sum_by (cost_in t y) M.arcs) (sym period) ∙ cheap.costs in
      let exchanged = moved y in
      cheap_costed N (lifted T shifts y) (0 + 1 * part)
      (record {
        rows = record {
          long = length-map shifts (λ s. (slice_index y s.index + s.offset) % T) ∙ led.long;
          below = λ v h. subst (λ r. r < T) (sym (lifted_at T shifts y v d₀ (omega (arith, h, led.long)))) (mod-lt (slice_index y (get_or shifts v d₀).index + (get_or shifts v d₀).offset) some);
          rows = λ v h. subst (λ r. IsTrue (has N v r)) (sym (lifted_at T shifts y v d₀ (omega (arith, h, led.long)))) (held.fewer y below cheap.rows.rows v d₀ h);
        };
        none = exchanged.back none;
        costs = omega (arith, exchanged.costs none, costs);
      })

  -- the maps of both are one another's
  pub clustered : IsReduced N M 0 1 (lifted N.period shifts)
  clustered = record {
    some = omega arith;
    down = down;
    up = up;
    order = λ y z part rest has_y has_z before.
        (let apart = first_apart T y z (is_below y has_y.met) (is_below z has_z.met) shifts 0 ascending (λ v h. absurd (omega (arith, h))) before in
        precedes_of y z apart.0 (has_y.met.long ∙ sym has_z.met.long) apart.1);
  }
