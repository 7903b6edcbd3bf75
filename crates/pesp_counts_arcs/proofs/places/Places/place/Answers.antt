-- A number stands at its guess, or the map has its place.
use Rattle.std.proofs.Common.{◌≡◌, ℕ, None, Some, refl, sym, ◌∙◌}
use Rattle.pesp_counts_arcs.specs.Places.{guess_of, number_at}
use Rattle.pesp_counts_arcs.proofs.PlaceLaws.{place_of_other}
use Rattle.pesp_counts_arcs.proofs.places.Places.place.Goals as goal

pub returns-in-Some : goal.returns-in-Some
returns-in-Some c =
    rw (← c.self.view_is) (sym ((c.self.invariant.are_places.paired c.args.number c.in-Some.place).1 ((c.in-Some.ensures c.in-Some.place).0 refl).1))

pub returns-in-None : goal.returns-in-None
returns-in-None c =
    let out : (p : ℕ) → guess_of c.self.inside.guesses.items c.args.number ≡ Some p → number_at (record { numbers = c.self.inside.numbers.slots }) p ≡ Some c.args.number → ⊥ = λ p guess stands.
    let none : None ≡ Some p = (c.in-None.ensures p).1 (rw c.deref.ensures.value guess, stands) in absurd (cc) in
    let other = place_of_other (record { numbers = c.self.inside.numbers.slots }) c.self.inside.guesses.items c.self.inside.others.entries c.args.number c.self.invariant out in
    rw (← c.self.view_is) (c.copied.ensures ∙ c.get.ensures.value ∙ sym other)
