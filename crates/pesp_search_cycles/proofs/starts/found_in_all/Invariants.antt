-- What is known of the parts so far.
use Rattle.std.proofs.Common.{◌≡◌}
use Rattle.pesp_search_least.specs.Spending.{OnlySpends}
use Rattle.pesp_search_cycles.specs.Starts.{IsFound, parts_before}
use Rattle.pesp_search_cycles.proofs.starts.found_in_all.Given as goal

abbrev pub invariant-loop-name : goal.invariant-loop-name
invariant-loop-name l =
    record {
      cycles : l.starts.cycles.now ≡ l.site.cycles.now;
      found : IsFound (parts_before l.site.cycles.now.network l.parts.arcs.items l.name) l.site.cycles.now l.site.residues.now l.cost l.starts.boxes.items;
      spent : OnlySpends l.initial.budget.left l.budget.left;
    }
