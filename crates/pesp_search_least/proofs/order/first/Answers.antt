-- An event more.
use Rattle.std.proofs.Common.{◌≡◌, ◌<◌, length, get_or, ◌∙◌, refl, arith, rules}
use Rattle.std.proofs.lemmas.List.{get_or_default}
use Rattle.pesp_search_least.specs.Order.{IsFirstAt, IsHeld}
use Rattle.pesp_search_least.proofs.Along.{along_more, along_start}
use Rattle.pesp_search_least.proofs.Budgets.{spends_none, spends_on}
use Rattle.pesp_search_least.proofs.order.first.Goals as goal

pub held-init : goal.held-init
held-init g c = record {
  along = along_start (g.R.Region.sums c.args.region) c.args.candidate c.requires.least;
  events = refl;
}

pub events-init : goal.events-init
events-init g c =
    let same : c.held.event ≡ c.args.settled = omega (arith, c.held-test.false, c.held.auto.event-end) in
    record {
      along = record { along = rw same at c.held.invariant.along; first = c.requires.settled };
      costs = refl;
      events = c.held.invariant.events;
      budget = spends_none c.args.budget.now.left;
    }

pub events-preserved : goal.events-preserved
events-preserved g c =
    let sums = g.R.Region.sums in
    let event = c.events.event in
    let found = c.in_ok-found.found in
    let is : IsFirstAt (sums c.events.rest) event found = search rules in
    let has = c.events.invariant.along.along.within found.map.items found.cost is.least.has in
    let long : event < length found.map.items = omega (arith, c.events-events.ensures.maps found.map.items found.cost has, c.events-test.true) in
    let residue : c.index-in-events.result.now ≡ get_or found.map.items event 0 =
    c.index-in-events.ensures ∙ get_or_default found.map.items event c.index-in-events.result.now 0 long in
    let held : IsHeld event (get_or found.map.items event 0) (sums c.events.rest) (sums c.hold-in-events.new.self) = rw residue at c.hold-in-events.ensures.held in
    record {
      along = along_more (sums c.args.region) (sums c.events.rest) (sums c.hold-in-events.new.self) event c.events-events.result c.events.best found c.events-events.ensures.maps c.events-test.true c.events.invariant.along is c.in_ok-found.ensures.costs held;
      costs = c.in_ok-found.ensures.costs ∙ c.events.invariant.costs;
      events = c.hold-in-events.ensures.events ∙ c.events.invariant.events;
      budget = spends_on c.args.budget.now.left c.events.budget.left c.first_at.new.budget.left c.events.invariant.budget c.in_ok-found.ensures.budget;
    }
