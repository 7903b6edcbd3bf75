-- An event stands at a place where it has a time.
use Rattle.std.proofs.Common.{◌≡◌, ℕ, List, Result, Ok, Err, IfOk, IfErr, is_ok, is_some, sym, ap}
use Rattle.std.specs.BTreeMap.{is_at}
use Rattle.std.specs.Map.{lookup}
use Rattle.std.specs.Ordering.{nat_cmp}
use Rattle.pesp_tension.specs.Places.{AreRising, IsAt, IsGap}
use Rattle.pesp_tension.proofs.Places.{lookup_at, lookup_gap}
use Rattle.pesp_tension.proofs.timetable.Timetable.place_to_set.Goals as goal

known_at : (es : List (ℕ × ℕ)) (e : ℕ) (r : Result ℕ ℕ) → AreRising es → IfOk r (IsAt es e) → IfErr r (IsGap es e) → is_ok r ≡ is_some (lookup (is_at (nat_cmp e)) es)
known_at es e (Ok place) rising at gap = sym (ap is_some (lookup_at es e place rising at))
known_at es e (Err place) rising at gap = sym (ap is_some (lookup_gap es e place gap))

pub returns-clause-known : goal.returns-clause-known
returns-clause-known c =
    let facts = rw c.deref.ensures.value at c.place.ensures in
    rw (← c.self.view_is) (known_at c.self.inside.times.items c.args.event c.place.result c.self.invariant.rising facts.found facts.absent)
