-- Both are told by what they have.
use Rattle.std.proofs.Common.{◌≡◌, Bool, true, false, ap, sym, rules}
use Rattle.std.specs.Bool.{Decides}
use Rattle.std.proofs.lemmas.Slice.Eq.{slice_eq-Decides}
use Rattle.pesp_search_network.specs.Arcs.{Arcs}
use Rattle.pesp_search_network.proofs.Same.{decides_arc, decides_bool, same_of}
use Rattle.pesp_search_network.proofs.network.Network.is_same.Goals as goal

pub returns-then-eq : goal.returns-then-eq
returns-then-eq c =
    let A = c.args.self.now in
    let B = c.args.other.now in
    let arcs : Decides c.eq.result (A.arcs ≡ B.arcs) = rw (← c.self.view_is, ← c.other.view_is) (slice_eq-Decides decides_arc _ _ _ c.eq.ensures) in
    let rows : Decides c.eq-then-eq.result (A.rows ≡ B.rows) = rw (← c.self.view_is, ← c.other.view_is) (slice_eq-Decides decides_bool _ _ _ c.eq-then-eq.ensures) in
    let period : A.period ≡ B.period = search rules in
    let events : A.events ≡ B.events = search rules in (
      λ is. same_of A B period events (arcs.0 c.if-eq.true) (rows.0 is),
      λ same. rows.1 (ap (λ (C : Arcs). C.rows) (sym same)),
    )

pub returns-else-eq : goal.returns-else-eq
returns-else-eq c =
    let A = c.args.self.now in
    let B = c.args.other.now in
    let arcs : Decides c.eq.result (A.arcs ≡ B.arcs) = rw (← c.self.view_is, ← c.other.view_is) (slice_eq-Decides decides_arc _ _ _ c.eq.ensures) in (
      λ is. absurd (true_or_false c.eq.result is c.if-eq.false),
      λ same. arcs.1 (ap (λ (C : Arcs). C.arcs) (sym same)),
    )
  where
    true_or_false : (b : Bool) → b ≡ true → b ≡ false → ⊥
    true_or_false b t f = absurd (cc (t, f))
