-- One residue more is leveled.
use Rattle.std.proofs.Common.{◌≡◌, ◌<◌, ◌==◌, ◌&&◌, ◌||◌, not, if◌then◌else◌, ℕ, Bool, true, false, List, [], length, get_or, ap, ◌∙◌, arith}
use Rattle.std.proofs.lemmas.Bool.Decides.{nat_tests}
use Rattle.std.proofs.lemmas.List.{get_or_default, length-set}
use Rattle.std.specs.Vec.{with_item}
use Rattle.pesp_domains.specs.Domains.{holds}
use Rattle.pesp_counts_supports.specs.declared.supports.Supports.TheInside.{Inside}
use Rattle.pesp_counts_supports.specs.Counts.{has_at}
use Rattle.pesp_counts_supports.specs.Supports.{Supports}
use Rattle.pesp_counts_supports.proofs.Grown.{long_set}
use Rattle.pesp_counts_supports.proofs.Moved.{levels_more}
use Rattle.pesp_counts_supports.proofs.supports.Supports.level.Goals as goal
use Rattle.pesp_counts_supports.proofs.supports.Supports.level.Goals.{After-holds}

-- the row as it is put in, or taken out
module _ (rows : List (List Bool)) (place q : ℕ) (row item : List Bool) (here : Bool) (is : here ≡ has_at rows place q) where
  came : here ≡ true → ((r : ℕ) → holds row r ≡ (holds item r || r == q)) → (r : ℕ) → holds row r ≡ (if r == q then has_at rows place r else holds item r)
  came so put r = grind (arith, nat_tests, put r)

  went : here ≡ false → ((r : ℕ) → holds row r ≡ (holds item r && not (r == q))) → (r : ℕ) → holds row r ≡ (if r == q then has_at rows place r else holds item r)
  went so put r = grind (arith, nat_tests, put r)

-- the place is one of what is counted, and the residue was looked for in its row
facts : (c : After-holds) → (c.args.place < length c.loop-residue.self-inside.counted.items) × (c.holds.result ≡ has_at c.self.inside.rows.items c.args.place c.in-Some.residue)
facts c =
    let place = c.args.place in
    let rows = c.self.inside.rows.items in
    let same = ap (λ (s : Inside). get_or s.rows.items place c.index.result.now) c.loop-residue.invariant.same in
    let many = ap (λ (s : Supports). length s.rows) c.self.view_is in
    let read = c.index.ensures ∙ same ∙ get_or_default rows place c.index.result.now [] (omega (arith, many, c.requires.place)) in (
      omega (arith, c.loop-residue.invariant.long, c.self.invariant.even, many, c.requires.place),
      c.holds.ensures ∙ ap (λ xs. holds xs c.in-Some.residue) read,
    )

pub loop-residue-preserved-then-holds : goal.loop-residue-preserved-then-holds
loop-residue-preserved-then-holds c =
    let i = c.loop-residue.invariant in
    let steps = c.in-Some.ensures.steps in
    let place = c.args.place in
    let counted = c.loop-residue.self-inside.counted.items in
    let (within, is) = facts (goal.at.loop-residue-preserved-then-holds c).After-holds in
    let item = c.index_mut.result.now in
    let row = c.put_in.new.self in
    let each = came c.self.inside.rows.items place c.in-Some.residue row item c.holds.result is c.if-holds.true c.put_in.ensures.holds in
    rw steps.1.2
    (record {
      can_next = tt;
      is_finite = tt;
      end = steps.0 ∙ i.end;
      low = omega (arith, i.low);
      high = omega (arith, steps.0, steps.1.0);
      leveled = levels_more place c.into_iter-residue-iterator.result.start c.self.inside.rows.items c.self.inside.counted.items c.loop-residue.residue-iterator.start counted row item i.low within c.index_mut.ensures.value (rw steps.1.1 at each) i.leveled;
      counted = long_set c.self.inside.period place counted row item within i.counted c.index_mut.ensures.value c.put_in.ensures.long;
      long = length-set counted place row ∙ i.long;
      same = ap (λ (s : Inside). record s { counted = with_item c.loop-residue.self-inside.counted place row }) i.same;
    })

pub loop-residue-preserved : goal.loop-residue-preserved
loop-residue-preserved c =
    let i = c.loop-residue.invariant in
    let steps = c.in-Some.ensures.steps in
    let place = c.args.place in
    let counted = c.loop-residue.self-inside.counted.items in
    let (within, is) = facts (goal.at.loop-residue-preserved c).After-holds in
    let item = c.index_mut-else-holds.result.now in
    let row = c.take_out.new.self in
    let each = went c.self.inside.rows.items place c.in-Some.residue row item c.holds.result is c.if-holds.false c.take_out.ensures.holds in
    rw steps.1.2
    (record {
      can_next = tt;
      is_finite = tt;
      end = steps.0 ∙ i.end;
      low = omega (arith, i.low);
      high = omega (arith, steps.0, steps.1.0);
      leveled = levels_more place c.into_iter-residue-iterator.result.start c.self.inside.rows.items c.self.inside.counted.items c.loop-residue.residue-iterator.start counted row item i.low within c.index_mut-else-holds.ensures.value (rw steps.1.1 at each) i.leveled;
      counted = long_set c.self.inside.period place counted row item within i.counted c.index_mut-else-holds.ensures.value c.take_out.ensures.long;
      long = length-set counted place row ∙ i.long;
      same = ap (λ (s : Inside). record s { counted = with_item c.loop-residue.self-inside.counted place row }) i.same;
    })
