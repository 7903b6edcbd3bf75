-- Pairs go from the rows where a count is none.
use Rattle.std.proofs.Common.{◌≡◌, ℕ, zero, suc, ◌<◌, ◌==◌, ◌&&◌, not, ◌⊎◌, Bool, true, List, [], ◌∷◌, All, length, get_or, refl, sym, ap, subst, ◌∙◌, inl, inr, arith, IsTrue}
use Rattle.std.proofs.lemmas.Bool.Decides.{nat_tests}
use Rattle.std.specs.List.{Contains}
use Rattle.std.proofs.lemmas.Bool.{and_parts, cases_Bool, eqb-true as eqb_is}
use Rattle.std.proofs.lemmas.List.Elements.{All-get_or}
use Rattle.pesp_domains.specs.Sweeps.{Of, Pairs, narrowed_to}
use Rattle.pesp_domains.proofs.Families.{and_left}
use Rattle.pesp_domains.proofs.RowLaws.{within_row}
use Rattle.pesp_counts_arcs.specs.declared.end.End.{End}
use Rattle.pesp_counts_arcs.specs.declared.end.Ranges.{Ranges}
use Rattle.pesp_counts_arcs.specs.Ends.{AreLinked, end_at, ends_of, is_from_to, passes}
use Rattle.pesp_counts_arcs.specs.Links.{Links}
use Rattle.pesp_counts_supports.specs.declared.moving.Moved.{Moved}
use Rattle.pesp_counts_supports.specs.Counts.{KeepsClosed, count_at, has_at}
use Rattle.pesp_counts_supports.specs.Moves.{is_touched}
use Rattle.pesp_counts_supports.specs.Resting.{AreLiveBut}
use Rattle.pesp_counts_supports.specs.Restored.{AreRanges, in_ranges}
use Rattle.pesp_counts_supports.specs.Supports.{AreExact, Keeps, Supports}
use Rattle.pesp_counts_supports.proofs.Rows.{Clears, within_rows}
use Rattle.pesp_counts_supports.proofs.Supporters.{supporters_none}

-- ---- one place

-- a residue of a row is below the period
pub below_long : (rows : List (List Bool)) (n p r : ℕ) → All (λ row. length row ≡ n) rows → Of (has_at rows) p r → r < n
below_long rows n p r long h = omega (arith, within_row (get_or rows p []) r h, All-get_or (λ row. length row ≡ n) rows p [] (within_rows rows p r h) long)

-- what goes from the row of a place, of all residues below the period
pub clears_all : (place period : ℕ) (f : ℕ → Bool) (before after : List (List Bool)) → All (λ row. length row ≡ period) before → Clears place f 0 period before after → (p r : ℕ) → has_at after p r ≡ (has_at before p r && not (p == place && f r))
clears_all place period f before after long clears p r = grind (arith, nat_tests, clears p r, below_long before period p r long)

-- what goes from the row of a place, of two ranges one after the other
pub clears_both : (place : ℕ) (f : ℕ → Bool) (w : Ranges) (before mid after : List (List Bool)) → Clears place f w.start w.end before mid → Clears place f 0 w.wrapped mid after → (p r : ℕ) → has_at after p r ≡ (has_at before p r && not (p == place && in_ranges w r && f r))
clears_both place f w before mid after first then p r = grind (arith, first p r, then p r)

-- what goes from the row of a place beside two ranges, which have those of the period that stay
pub narrowed_both : (T place : ℕ) (stays : ℕ → Bool) (w : Ranges) (before mid after : List (List Bool)) → AreRanges T w → ((r : ℕ) → r < T → in_ranges w r ≡ stays r) → All (λ row. length row ≡ T) before → ((p r : ℕ) → has_at mid p r ≡ (has_at before p r && not (p == place && is_from_to w.wrapped w.start r))) → ((p r : ℕ) → has_at after p r ≡ (has_at mid p r && not (p == place && is_from_to w.end T r))) → (p r : ℕ) → has_at after p r ≡ narrowed_to (has_at before) place stays p r
narrowed_both T place stays w before mid after are left long first then p r =
    grind (arith, nat_tests, are.order, are.below, are.wrapped, left r, first p r, then p r, below_long before T p r long)

-- ---- one end after another

-- an item of a list is one of the rest, or the first
rest_or : (m : ℕ) (rest : List ℕ) (x : ℕ) → Contains (m ∷ rest) x → Contains rest x ⊎ (x ≡ m)
rest_or m rest x (zero, l, e) = inr (sym e)
rest_or m rest x (suc k, l, e) = inl (k, omega (arith, l), e)

-- the pairs that an end takes out: those at its far place that go with what left and have no count there
abbrev pub goes_along : ℕ → List ℕ → Moved → End → Pairs
goes_along T counts left end p r = p == end.looks_at && is_touched T left end r && (count_at T counts end.mate r == 0)

module _ (links : Links) (now after : Supports) (left : Moved) (place m : ℕ) (linked : AreLinked now.period links.ends links.lists) (listed : Contains (ends_of links.lists place) m) (keeps : Keeps now after)
    (rows : (p r : ℕ) → r < now.period → has_at after.rows p r ≡ (has_at now.rows p r && not (goes_along now.period now.counts left (end_at links.ends m) p r))) where
  abbrev k : ℕ
  k = (end_at links.ends m).mate

  -- of the pairs that are left, those that an end to come may take out lack a count at most
  pub live_more : (rest : List ℕ) → AreLiveBut links now left (m ∷ rest) → AreLiveBut links after left rest
  live_more rest live p j r is below h =
      let below_now : r < now.period = omega (arith, below, keeps.period) in
      let stays = sym (rows p r below_now) ∙ h in
      rw (keeps.period, keeps.counts)
      (elim (live p j r is below_now (and_left (has_at now.rows p r) _ stays)) [
        | inl some ↦ inl some
        | inr w ↦
            elim (rest_or m rest w.0 w.1) [
              | inl later ↦ inr (w.0, later, w.2, w.3)
              | inr same ↦
                  let mate : k ≡ j = ap (λ i. (end_at links.ends i).mate) (sym same) ∙ w.2 in
                  let far : p ≡ (end_at links.ends m).looks_at = sym (linked.each p j is).mate_looks ∙ ap (λ i. (end_at links.ends i).looks_at) (ap (λ i. (end_at links.ends i).mate) (sym mate) ∙ (linked.each place m listed).mate_back) in
                  let touched : is_touched now.period left (end_at links.ends m) r ≡ true = subst (λ i. IsTrue (is_touched now.period left (end_at links.ends i) r)) same w.3 in
                  inl (grind (arith, nat_tests, stays, mate, far, touched))
            ]
      ])

  -- and of a closed set none goes
  pub closed_more : (counted : Pairs) → AreExact links now counted → ((p r : ℕ) → Of (has_at now.rows) p r → r < now.period) → ((p r : ℕ) → Of (has_at now.rows) p r → Of counted p r) → ((p r : ℕ) → Of (has_at after.rows) p r → Of (has_at now.rows) p r)
      → KeepsClosed now.period links.ends links.lists (has_at now.rows) (has_at after.rows)
  closed_more counted exact below within fewer =
      record {
        fewer = fewer;
        keeps = λ S closed in_rows p r h.
            let had = in_rows p r h in
            let rl = below p r had in
            elim (cases_Bool (goes_along now.period now.counts left (end_at links.ends m) p r)) [
              | inr stays ↦ rows p r rl ∙ rw (had, stays) refl
              | inl gone ↦
                  let parts = and_parts _ (count_at now.period now.counts k r == 0) gone in
                  let far : p ≡ (end_at links.ends m).looks_at = eqb_is p (end_at links.ends m).looks_at (and_left _ _ parts.0) in
                  let at = linked.each place m listed in
                  let w = closed.each p r k h (subst (λ q. Contains (ends_of links.lists q) k) (sym far) at.mate_there) in
                  let none = sym (exact (end_at links.ends m).looks_at k at.mate_there r rl) ∙ eqb_is (count_at now.period now.counts k r) 0 parts.1 in
                  absurd (supporters_none now.period (counted (end_at links.ends k).looks_at) (passes now.period (end_at links.ends k) r) none w.0 w.1 (within (end_at links.ends k).looks_at w.0 (in_rows (end_at links.ends k).looks_at w.0 w.2)) w.3)
            ];
      }
