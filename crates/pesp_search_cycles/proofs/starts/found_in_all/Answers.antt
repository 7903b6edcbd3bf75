-- Part by part.
use Rattle.std.proofs.Common.{◌≡◌, ℕ, ◌+◌, List, All, sym, subst, ◌∙◌, rules}
use Rattle.pesp_search_least.specs.Sums.{InSome}
use Rattle.pesp_search_least.proofs.Budgets.{spends_on}
use Rattle.pesp_search_cycles.specs.declared.boxes.Boxes.{Boxes}
use Rattle.pesp_search_cycles.specs.Maps.{AreBoxes, Net}
use Rattle.pesp_search_cycles.specs.Starts.{IsInBoxes}
use Rattle.pesp_search_cycles.proofs.Parted.{found_more, found_none}
use Rattle.pesp_search_cycles.proofs.starts.found_in_all.Goals as goal

pub loop-name-init : goal.loop-name-init
loop-name-init c =
    let N = c.args.site.now.cycles.now in
    let R = c.args.site.now.residues.now in
    let starts = c.in_ok-starts.starts in
    let fit : All (AreBoxes N) starts.boxes.items = subst (λ (M : Net). All (AreBoxes M) starts.boxes.items) c.in_ok-starts.ensures.cycles starts.fit in
    record {
      cycles = c.in_ok-starts.ensures.cycles;
      found = found_none N.network c.args.parts.now.arcs.items N R starts.boxes.items (λ xs sum s. c.in_ok-starts.ensures.inside xs sum (c.requires.root xs sum s)) fit;
      spent = search rules;
    }

pub loop-name-preserved : goal.loop-name-preserved
loop-name-preserved c =
    let N = c.args.site.now.cycles.now in
    let W = N.network in
    let R = c.args.site.now.residues.now in
    let labels = c.args.parts.now.arcs.items in
    let l = c.loop-name.name in
    let before = c.loop-name.starts in
    let found = c.in-Some.found in
    let both = c.in_ok-starts-2.starts in
    let same : before.cycles.now ≡ N = c.loop-name.invariant.cycles in
    let same_both : both.cycles.now ≡ N = c.in_ok-starts-2.ensures.cycles ∙ same in
    let fit : All (AreBoxes N) both.boxes.items = subst (λ (M : Net). All (AreBoxes M) both.boxes.items) same_both both.fit in
    let last = rw c.in-Some.is at c.in_ok-found.ensures.found in
    let others : c.deref.result.now ≡ found.boxes.items = search rules in
    let join : (xs : List ℕ) (sum : ℕ) → InSome (IsInBoxes N) before.boxes.items xs sum → InSome (IsInBoxes N) found.boxes.items xs sum → InSome (IsInBoxes N) both.boxes.items xs sum =
    λ xs sum has more.
    subst (λ (M : Net). InSome (IsInBoxes M) both.boxes.items xs sum) same
    (c.in_ok-starts-2.ensures.both xs sum (subst (λ (M : Net). InSome (IsInBoxes M) before.boxes.items xs sum) (sym same) has)
    (subst (λ (M : Net). InSome (IsInBoxes M) c.deref.result.now xs sum) (sym same) (subst (λ (bs : List Boxes). InSome (IsInBoxes N) bs xs sum) (sym others) more))) in
    let sum : c.in-Some-checked_add.sum ≡ c.loop-name.cost + found.cost = search rules in
    record {
      cycles = same_both;
      found = rw sum (found_more W labels N R l c.loop-name.cost found.cost before.boxes.items found.boxes.items both.boxes.items c.loop-name.invariant.found last join fit);
      spent = spends_on _ _ _ c.loop-name.invariant.spent c.in_ok-found.ensures.budget;
    }
