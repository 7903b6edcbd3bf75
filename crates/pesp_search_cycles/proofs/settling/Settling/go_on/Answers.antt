-- The region has all maps of least cost.
use Rattle.std.proofs.Common.{◌≤◌, ◌+◌, Option, IfSome, sym, ap, subst, refl}
use Rattle.std.proofs.lemmas.Result.{IfOk-weaker}
use Rattle.pesp_search_least.specs.declared.outcome.First.TheVariants.{Spent}
use Rattle.pesp_search_least.specs.Order.{IsFirstOutcome}
use Rattle.pesp_search_least.specs.Sums.{InSome, IsCut}
use Rattle.pesp_search_network.specs.Arcs.{IsCosted}
use Rattle.pesp_search_cycles.specs.Maps.{IsLeft, IsSummed}
use Rattle.pesp_search_cycles.specs.Settlings.{AreLeaves, IsSettling}
use Rattle.pesp_search_cycles.specs.declared.settling.Known.TheVariants.{Closed}
use Rattle.pesp_search_cycles.specs.declared.settling.Settling.{Settling}
use Rattle.pesp_search_cycles.proofs.Firsts.{first_of, least_of_few, region_cut, settled_of_few, told_first}
use Rattle.pesp_search_cycles.proofs.Leaved.{copies_back, copies_fit, copies_there, cut_alike}
use Rattle.pesp_search_cycles.proofs.settling.Settling.go_on.Goals as goal

pub first-requires : goal.first-requires
first-requires c =
    let N = c.args.cycles.now in
    let region = c.in_ok-region.region in
    let best = c.args.self.best in
    let cut : IsCut (best.cost + 1) (IsCosted N.network) (IsLeft region.cycles.now region.residues.items region.leaves.boxes.items) =
    region_cut N region.cycles.now c.network.result.now c.in_ok-residues.residues.items region.residues.items c.in-Closed.leaves.boxes.items region.leaves.boxes.items (best.cost + 1)
    c.in_ok-region.ensures.cycles c.network.ensures (ap (λ v. v.items) c.in_ok-region.ensures.residues) (ap (λ l. l.boxes.items) c.in_ok-region.ensures.leaves) c.in_ok-residues.ensures.inside (rw c.in-Closed.is at c.in_ok-known.ensures.known).1 in
    let left = IsLeft region.cycles.now region.residues.items region.leaves.boxes.items in
    record {
      least = least_of_few (IsCosted N.network) left best.cost cut best refl c.requires.least;
      room = c.requires.room;
      events = rw c.in_ok-region.ensures.cycles c.requires.events;
      settled = settled_of_few (IsCosted N.network) left best.cost cut best c.args.self.settled c.requires.settled;
    }

pub returns-in-Done-clause-first : goal.returns-in-Done-clause-first
returns-in-Done-clause-first c =
    let N = c.args.cycles.now in
    let region = c.in_ok-region.region in
    let best = c.args.self.best in
    let cut : IsCut (best.cost + 1) (IsCosted N.network) (IsLeft region.cycles.now region.residues.items region.leaves.boxes.items) =
    region_cut N region.cycles.now c.network.result.now c.in_ok-residues.residues.items region.residues.items c.in-Closed.leaves.boxes.items region.leaves.boxes.items (best.cost + 1)
    c.in_ok-region.ensures.cycles c.network.ensures (ap (λ v. v.items) c.in_ok-region.ensures.residues) (ap (λ l. l.boxes.items) c.in_ok-region.ensures.leaves) c.in_ok-residues.ensures.inside (rw c.in-Closed.is at c.in_ok-known.ensures.known).1 in
    let told : IsFirstOutcome (IsCosted N.network) best.cost c.in_ok-best.field-0 =
    first_of (IsCosted N.network) (IsLeft region.cycles.now region.residues.items region.leaves.boxes.items) best.cost cut best c.in_ok-best.field-0 c.requires.least refl c.in_ok-best.ensures.first in
    rw c.in-Done.is at told

pub returns-in-Spent-clause-first : goal.returns-in-Spent-clause-first
returns-in-Spent-clause-first c =
    let N = c.args.cycles.now in
    let region = c.in_ok-region.region in
    let best = c.args.self.best in
    let cut : IsCut (best.cost + 1) (IsCosted N.network) (IsLeft region.cycles.now region.residues.items region.leaves.boxes.items) =
    region_cut N region.cycles.now c.network.result.now c.in_ok-residues.residues.items region.residues.items c.in-Closed.leaves.boxes.items region.leaves.boxes.items (best.cost + 1)
    c.in_ok-region.ensures.cycles c.network.ensures (ap (λ v. v.items) c.in_ok-region.ensures.residues) (ap (λ l. l.boxes.items) c.in_ok-region.ensures.leaves) c.in_ok-residues.ensures.inside (rw c.in-Closed.is at c.in_ok-known.ensures.known).1 in
    let told : IsFirstOutcome (IsCosted N.network) best.cost c.in_ok-best.field-0 =
    first_of (IsCosted N.network) (IsLeft region.cycles.now region.residues.items region.leaves.boxes.items) best.cost cut best c.in_ok-best.field-0 c.requires.least refl c.in_ok-best.ensures.first in
    let stop : IsFirstOutcome (IsCosted N.network) best.cost (Spent c.in-Spent.best c.in-Spent.settled) = rw c.in-Spent.is at told in
    let standing : Settling = record { known = Closed c.in_ok-copy.field-0; best = c.in-Spent.best; settled = c.in-Spent.settled; in_vain = c.args.self.in_vain } in
    IfOk-weaker c.stopped-in-Spent.result _ _ (λ r is. told_first N.network best.cost standing r.0 is stop.0 stop.1 stop.2) c.stopped-in-Spent.ensures.first

pub returns-in-Spent-clause-settling : goal.returns-in-Spent-clause-settling
returns-in-Spent-clause-settling c =
    let N = c.args.cycles.now in
    let region = c.in_ok-region.region in
    let best = c.args.self.best in
    let cut : IsCut (best.cost + 1) (IsCosted N.network) (IsLeft region.cycles.now region.residues.items region.leaves.boxes.items) =
    region_cut N region.cycles.now c.network.result.now c.in_ok-residues.residues.items region.residues.items c.in-Closed.leaves.boxes.items region.leaves.boxes.items (best.cost + 1)
    c.in_ok-region.ensures.cycles c.network.ensures (ap (λ v. v.items) c.in_ok-region.ensures.residues) (ap (λ l. l.boxes.items) c.in_ok-region.ensures.leaves) c.in_ok-residues.ensures.inside (rw c.in-Closed.is at c.in_ok-known.ensures.known).1 in
    let told : IsFirstOutcome (IsCosted N.network) best.cost c.in_ok-best.field-0 =
    first_of (IsCosted N.network) (IsLeft region.cycles.now region.residues.items region.leaves.boxes.items) best.cost cut best c.in_ok-best.field-0 c.requires.least refl c.in_ok-best.ensures.first in
    let stop : IsFirstOutcome (IsCosted N.network) best.cost (Spent c.in-Spent.best c.in-Spent.settled) = rw c.in-Spent.is at told in
    let standing : Settling = record { known = Closed c.in_ok-copy.field-0; best = c.in-Spent.best; settled = c.in-Spent.settled; in_vain = c.args.self.in_vain } in
    let leaves = c.in-Closed.leaves.boxes.items in
    let copy = c.in_ok-copy.field-0.boxes.items in
    let known : AreLeaves N best.cost c.in-Closed.leaves = rw c.in-Closed.is at c.in_ok-known.ensures.known in
    let within : c.in-Spent.settled ≤ region.cycles.now.network.events = (rw c.in-Spent.is at c.in_ok-best.ensures.events).1 in
    let is : IsSettling N standing = record {
      least = stop.0;
      settled = stop.2;
      events = rw c.in_ok-region.ensures.cycles at within;
      room = rw stop.1 c.requires.room;
      known = rw stop.1
          (copies_fit N leaves copy c.in_ok-copy.ensures known.0, cut_alike (best.cost + 1) (IsCosted N.network) (InSome (IsSummed N) leaves) (InSome (IsSummed N) copy) (copies_there N leaves copy c.in_ok-copy.ensures) (copies_back N leaves copy c.in_ok-copy.ensures) known.1);
    } in
    IfOk-weaker c.stopped-in-Spent.result _ _ (λ r told. subst (λ (o : Option Settling). IfSome o (IsSettling N)) (sym told) is) c.stopped-in-Spent.ensures.settling
