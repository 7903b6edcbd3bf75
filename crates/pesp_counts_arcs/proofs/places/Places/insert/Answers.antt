-- A new number has the place that no other has, and is found there.
use Rattle.std.proofs.Common.{◌≡◌, ◌≢◌, ℕ, Some, None, true, false, sym, ap, drop, inl, inr, ◌∙◌, length, rules, refl}
use Rattle.std.proofs.lemmas.Bool.{ne_eqb}
use Rattle.slab.specs.Slab.{get}
use Rattle.pesp_instance.proofs.Housed.{same_test}
use Rattle.pesp_counts_arcs.specs.Places.{AreFound, Places, number_at, place_of}
use Rattle.pesp_counts_arcs.proofs.GuessLaws.{written_whole}
use Rattle.pesp_counts_arcs.proofs.PlaceLaws.{AreFound-kept, AreFound-more, AreFound-put, other_of-absent, placed}
use Rattle.pesp_counts_arcs.proofs.places.Places.insert.Goals as goal
use Rattle.pesp_counts_arcs.proofs.places.Places.insert.Goals.{then-not-keep_guess+in_ok-insert, else-not-keep_guess}

pub invariant_of-self-in_err-make_guesses : goal.invariant_of-self-in_err-make_guesses
invariant_of-self-in_err-make_guesses c =
    let same : c.reserve.new.self.slots ≡ c.self.inside.numbers.slots = ap (λ s. s.slots) c.in_ok-reserve.ensures.rest_kept in
    rw same (AreFound-more (record { numbers = c.self.inside.numbers.slots }) c.self.inside.guesses.items c.make_guesses.new.guesses.items c.self.inside.others.entries c.self.invariant c.make_guesses.ensures.by_bits c.make_guesses.ensures.stay)

pub invariant_of-self-in_err-insert : goal.invariant_of-self-in_err-insert
invariant_of-self-in_err-insert c =
    let same : c.reserve.new.self.slots ≡ c.self.inside.numbers.slots = ap (λ s. s.slots) c.in_ok-reserve.ensures.rest_kept in
    let old : Places = record { numbers = c.reserve.new.self.slots } in
    let free : get c.reserve.new.self c.reserve.new.self.vacant_key ≡ None = rw c.vacant_key-place.ensures.value at c.vacant_key-place.ensures.vacant in
    let was : AreFound old c.self.inside.guesses.items c.self.inside.others.entries = rw same c.self.invariant in
    rw (written_whole c.make_guesses.new.guesses.len c.deref_mut.result.now c.keep_guess.new.guesses (drop (length c.keep_guess.new.guesses) c.make_guesses.new.guesses.items) c.keep_guess.ensures.many c.deref_mut.ensures.len, c.in_err-insert.ensures.err)
    (AreFound-kept c.reserve.new.self c.self.inside.guesses.items c.make_guesses.new.guesses.items c.deref_mut.result.now c.keep_guess.new.guesses c.self.inside.others.entries c.args.number c.keep_guess.result was c.make_guesses.ensures.by_bits c.make_guesses.ensures.stay c.deref_mut.ensures.value c.keep_guess.ensures free)

pub invariant_of-self-2 : goal.invariant_of-self-2
invariant_of-self-2 c =
    let same : c.reserve.new.self.slots ≡ c.self.inside.numbers.slots = ap (λ s. s.slots) c.in_ok-reserve.ensures.rest_kept in
    let old : Places = record { numbers = c.reserve.new.self.slots } in
    let free : get c.reserve.new.self c.reserve.new.self.vacant_key ≡ None = rw c.vacant_key-place.ensures.value at c.vacant_key-place.ensures.vacant in
    let new : Places = record { numbers = c.insert_reserved.new.self.slots } in
    let place = c.reserve.new.self.vacant_key in
    let guesses = c.keep_guess.new.guesses in
    let was : AreFound old c.self.inside.guesses.items c.self.inside.others.entries = rw same c.self.invariant in
    let found : AreFound old guesses c.self.inside.others.entries = AreFound-kept c.reserve.new.self c.self.inside.guesses.items c.make_guesses.new.guesses.items c.deref_mut.result.now guesses c.self.inside.others.entries c.args.number c.keep_guess.result was c.make_guesses.ensures.by_bits c.make_guesses.ensures.stay c.deref_mut.ensures.value c.keep_guess.ensures free in
    let whole = written_whole c.make_guesses.new.guesses.len c.deref_mut.result.now guesses (drop (length guesses) c.make_guesses.new.guesses.items) c.keep_guess.ensures.many c.deref_mut.ensures.len in
    let stay : c.if-not-keep_guess.self-inside.numbers ≡ c.reserve.new.self = elim c.if-not-keep_guess.branch [ then-not-keep_guess+in_ok-insert w ↦ rw w.self-inside-is refl | else-not-keep_guess w ↦ rw w.self-inside-is refl ] in
    let at : c.insert_reserved.result ≡ place = c.insert_reserved.ensures.key ∙ ap (λ s. s.vacant_key) stay in
    let others : (p : ℕ) → p ≢ place → number_at new p ≡ number_at old p = rw (← at, ← ap (λ s. s.slots) stay) c.insert_reserved.ensures.updates.others in
    let its : number_at new place ≡ Some c.args.number = rw (← at) c.insert_reserved.ensures.updates.changed in
    let absent : place_of old c.args.number ≡ None = rw same (rw (← c.self.view_is) at c.requires.absent) in
    let unknown = other_of-absent old guesses c.self.inside.others.entries c.args.number found absent in
    elim c.if-not-keep_guess.branch [
      | then-not-keep_guess+in_ok-insert w ↦
          let lost : c.keep_guess.result ≡ false = search rules in
          let other = c.keep_guess.ensures.lost lost in
          rw (w.self-inside-is, whole)
          (AreFound-put old new c.args.number place found.are_places others absent free its guesses c.self.inside.others.entries w.insert.new.self.entries found
          (λ n apart. w.in_ok-insert.ensures.updates.0 n ∙ rw (same_test c.args.number n, ne_eqb n c.args.number apart) refl)
          (inr (record { stands = its; guess = other.0; guessed = other.1; apart = other.2 }, w.in_ok-insert.ensures.updates.1 ∙ ap (λ k. Some k) c.vacant_key-place.ensures.value)))
      | else-not-keep_guess w ↦
          let kept : c.keep_guess.result ≡ true = search rules in
          rw (w.self-inside-is, whole)
          (AreFound-put old new c.args.number place found.are_places others absent free its guesses c.self.inside.others.entries c.self.inside.others.entries found (λ n apart. refl) (inl (c.keep_guess.ensures.its kept, unknown)))
    ]

pub returns-clause-places : goal.returns-clause-places
returns-clause-places c n =
    let same : c.reserve.new.self.slots ≡ c.self.inside.numbers.slots = ap (λ s. s.slots) c.in_ok-reserve.ensures.rest_kept in
    let old : Places = record { numbers = c.self.inside.numbers.slots } in
    let new : Places = record { numbers = c.insert_reserved.new.self.slots } in
    let place = c.vacant_key-place.result in
    let stay : c.if-not-keep_guess.self-inside.numbers ≡ c.reserve.new.self = elim c.if-not-keep_guess.branch [ then-not-keep_guess+in_ok-insert w ↦ rw w.self-inside-is refl | else-not-keep_guess w ↦ rw w.self-inside-is refl ] in
    let at : c.insert_reserved.result ≡ place = c.insert_reserved.ensures.key ∙ ap (λ s. s.vacant_key) stay ∙ sym c.vacant_key-place.ensures.value in
    let others : (p : ℕ) → p ≢ place → number_at new p ≡ number_at old p = rw (← at, ← (ap (λ s. s.slots) stay ∙ same)) c.insert_reserved.ensures.updates.others in
    let its : number_at new place ≡ Some c.args.number = rw (← at) c.insert_reserved.ensures.updates.changed in
    let free : number_at old place ≡ None = rw (← same) c.vacant_key-place.ensures.vacant in
    rw (← c.self.view_is) (placed old new c.args.number place c.self.invariant.are_places others (rw (← c.self.view_is) at c.requires.absent) free its n)

pub returns-clause-paired : goal.returns-clause-paired
returns-clause-paired c = (invariant_of-self-2 c).are_places
