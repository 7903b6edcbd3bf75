-- The one map that is left.
use Rattle.std.proofs.Common.{◌≡◌, ℕ, List, Vec, Global, Option, Some, None, IfNone, refl, sym, subst}
use Rattle.pesp_search_cycles.specs.declared.range.Range.{Range}
use Rattle.pesp_search_cycles.specs.Ranges.{AreIn}
use Rattle.pesp_search_cycles.proofs.Tested.{last_told, none_fits}
use Rattle.pesp_search_cycles.proofs.node.Node.last.Goals as goal

pub returns : goal.returns
returns c =
    let s = c.args.self.now in
    let only : (xs : List ℕ) → AreIn c.residues.result.now xs → xs ≡ c.in-Some.map.items = rw c.in-Some.is at c.in_ok-map.ensures.some in
    last_told s.cycles.now s.boxes c.in-Some.map.items c.in_ok-found.found s.sound s.fit
    (λ xs inside. only xs (subst (λ (rs : List Range). AreIn rs xs) (sym c.residues.ensures) inside))
    c.in_ok-found.ensures.none c.in_ok-found.ensures.same c.in_ok-found.ensures.some

pub returns-in_default : goal.returns-in_default
returns-in_default c =
    let s = c.args.self.now in
    none_fits s.cycles.now s.boxes s.sound s.fit
    (λ xs small inside. none_left c.in_ok-map.field-0 c.in_default.not-Some c.in_ok-map.ensures.none xs small (subst (λ (rs : List Range). AreIn rs xs) (sym c.residues.ensures) inside))
  where
    none_left : (o : Option (Vec ℕ Global)) → ((x : Vec ℕ Global) → o ≡ Some x → ⊥) → {P : Type 0} → IfNone o P → P
    none_left None n h = h
    none_left (Some x) n h = absurd (n x refl)
