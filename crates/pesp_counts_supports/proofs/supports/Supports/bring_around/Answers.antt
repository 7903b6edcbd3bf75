-- What goes along an end more is brought, unless it is spared.
use Rattle.std.proofs.Common.{◌≤◌, ◌+◌, ◌-◌, ◌*◌, ◌∷◌, ◌++◌, ◌||◌, [], length, sym, ap, subst, ◌∙◌, append_assoc, arith}
use Rattle.std.proofs.lemmas.Bool.{false≢true}
use Rattle.pesp_counts_arcs.specs.declared.end.End.{End}
use Rattle.pesp_counts_arcs.specs.Ends.{end_at, ends_of}
use Rattle.pesp_counts_supports.specs.Blocks.{of_block, of_blocks}
use Rattle.pesp_counts_supports.specs.Moves.{IsMoved}
use Rattle.pesp_counts_supports.specs.Restored.{IsBrought}
use Rattle.pesp_counts_supports.proofs.Along.{next_listed, some_partner}
use Rattle.pesp_counts_supports.proofs.Brought.{brought_as, brought_keeps, brought_none, brought_then}
use Rattle.pesp_counts_supports.proofs.Spent.{one_end_less, one_end_more}
use Rattle.pesp_counts_supports.proofs.Meeting.{blocks_none, blocks_one}
use Rattle.pesp_counts_supports.proofs.Taken.{fit_then, kept_shape}
use Rattle.pesp_counts_supports.proofs.supports.Supports.bring_around.Goals as goal

pub loop-number-init : goal.loop-number-init
loop-number-init c =
    let start = c.args.self.now in
    let links = c.args.links.now in
    let all = c.into_iter-number-iterator.ensures.into_iter_gives ∙ c.ends_at-number-items.ensures in
    record {
      can_next = tt;
      is_finite = tt;
      walked = ([], all, λ D is. brought_none (of_blocks start.period c.args.instance.now links c.args.spared D []) start c.args.back.now (λ p r h. absurd (false≢true h)));
      probes = let long = ap (λ xs. (start.period - 1) * length xs) all in omega (arith, long);
    }

pub bring_along-requires-clause-fit : goal.bring_along-requires-clause-fit
bring_along-requires-clause-fit c =
    let start = c.args.self.now in
    let links = c.args.links.now in
    let now = c.loop-number.self in
    let w = c.loop-number.invariant.walked in
    let (D, is, some) = c.requires.some in
    fit_then links start now (kept_shape start now (brought_keeps (of_blocks start.period c.args.instance.now links c.args.spared D w.0) start now c.args.back.now c.loop-number.back (w.2 D is))) c.requires.fit

pub bring_along-requires-clause-some : goal.bring_along-requires-clause-some
bring_along-requires-clause-some c =
    let start = c.args.self.now in
    let links = c.args.links.now in
    let w = c.loop-number.invariant.walked in
    let (D, is, some) = c.requires.some in
    let number = c.in-Some.number in
    let listed = next_listed w.0 c.next.new.self number (ends_of links.lists c.args.place) c.loop-number.number-iterator c.in-Some.ensures.steps w.1 in
    rw ((w.2 D is).period, (w.2 D is).sums) (D, is, some_partner start.period links.ends links.lists c.requires.fit.linked c.args.place number listed D some.0 some.1 some.2)

pub loop-number-preserved-then-not-is_spared_end : goal.loop-number-preserved-then-not-is_spared_end
loop-number-preserved-then-not-is_spared_end c =
    let start = c.args.self.now in
    let I = c.args.instance.now in
    let links = c.args.links.now in
    let now = c.loop-number.self in
    let after = c.bring_along.new.self in
    let number = c.in-Some.number in
    let rest = c.next.new.self in
    let T = start.period in
    let p = c.args.place in
    let spared = c.args.spared in
    let end : End = end_at links.ends number in
    let inv = c.loop-number.invariant in
    let w = inv.walked in
    let back = c.args.back.now in
    let mid = c.loop-number.back in
    let more = c.bring_along.new.back in
    let free = sym c.is_spared_end.ensures ∙ c.if-not-is_spared_end.true in
    let some = c.requires.some in
    let same = (w.2 some.0 some.1).period in
    let looked = subst (λ n. after.probes + length mid.items ≤ now.probes + length more.items + (n - 1)) same c.bring_along.ensures.probes in
    record {
      can_next = tt;
      is_finite = tt;
      walked = (
        w.0 ++ number ∷ [],
        append_assoc w.0 (number ∷ []) rest ∙ ap (λ xs. w.0 ++ xs) (sym c.in-Some.ensures.steps) ∙ w.1,
        λ D is.
            let so_far = w.2 D is in
            let this = of_block T I links D (end_at links.ends end.mate) end.looks_at in
            let moved : IsMoved now.period c.args.came now.sums D = rw (so_far.period, so_far.sums) is in
            let came : IsBrought this now after mid more =
            subst (λ n. IsBrought (of_block n I links D (end_at links.ends end.mate) end.looks_at) now after mid more) so_far.period (c.bring_along.ensures.brought D moved)
            in
            brought_as (λ q r. of_blocks T I links spared D w.0 q r || this q r) (of_blocks T I links spared D (w.0 ++ number ∷ [])) start after back more
            (blocks_one T I links spared D w.0 number free)
            (brought_then (of_blocks T I links spared D w.0) this start now after back mid more so_far came),
      );
      probes = one_end_more (T - 1) (length back.items) (length mid.items) (length more.items) start.probes now.probes after.probes (ends_of links.lists p) c.loop-number.number-iterator rest number c.in-Some.ensures.steps inv.probes looked;
    }

pub loop-number-preserved : goal.loop-number-preserved
loop-number-preserved c =
    let start = c.args.self.now in
    let I = c.args.instance.now in
    let links = c.args.links.now in
    let now = c.loop-number.self in
    let number = c.in-Some.number in
    let rest = c.next.new.self in
    let T = start.period in
    let spared = c.args.spared in
    let inv = c.loop-number.invariant in
    let w = inv.walked in
    let back = c.args.back.now in
    let mid = c.loop-number.back in
    let out = sym c.is_spared_end.ensures ∙ c.if-not-is_spared_end.false in
    record {
      can_next = tt;
      is_finite = tt;
      walked = (
        w.0 ++ number ∷ [],
        append_assoc w.0 (number ∷ []) rest ∙ ap (λ xs. w.0 ++ xs) (sym c.in-Some.ensures.steps) ∙ w.1,
        λ D is. brought_as (of_blocks T I links spared D w.0) (of_blocks T I links spared D (w.0 ++ number ∷ [])) start now back mid (blocks_none T I links spared D w.0 number out) (w.2 D is),
      );
      probes = one_end_less (T - 1) (length back.items) (length mid.items) start.probes now.probes (ends_of links.lists c.args.place) c.loop-number.number-iterator rest number c.in-Some.ensures.steps inv.probes;
    }
