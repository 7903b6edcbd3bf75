-- Each start is where its residue begins, so the part between two is the run between them.
use Rattle.std.proofs.Common.{arith}
use Rattle.pesp_shell_replies.proofs.SpacedLemmas.{part_between, places_long}
use Rattle.pesp_shell_replies.proofs.residue_texts.ResidueTexts.run_text.Goals as goal

pub index-start-requires : goal.index-start-requires
index-start-requires c =
    omega (arith, places_long c.self.invariant, c.self.inside.starts.ok.0, c.self.view_is)

pub index-end-requires : goal.index-end-requires
index-end-requires c =
    omega (arith, places_long c.self.invariant, c.self.inside.starts.ok.0, c.self.view_is)

pub slice_bounds-result-count : goal.slice_bounds-result-count
slice_bounds-result-count c =
    (part_between c.self.invariant c.args.low c.args.high c.index-start.result.now c.index-end.result.now
    c.requires.order (omega (arith, c.self.view_is)) c.index-start.ensures c.index-end.ensures).0

pub slice_bounds-result-start : goal.slice_bounds-result-start
slice_bounds-result-start c =
    (part_between c.self.invariant c.args.low c.args.high c.index-start.result.now c.index-end.result.now
    c.requires.order (omega (arith, c.self.view_is)) c.index-start.ensures c.index-end.ensures).0

pub slice_bounds-result-end : goal.slice_bounds-result-end
slice_bounds-result-end c =
    rw c.deref.ensures.value
    (part_between c.self.invariant c.args.low c.args.high c.index-start.result.now c.index-end.result.now
    c.requires.order (omega (arith, c.self.view_is)) c.index-start.ensures c.index-end.ensures).1

pub returns : goal.returns
returns c =
    rw c.deref.ensures.value
    (part_between c.self.invariant c.args.low c.args.high c.index-start.result.now c.index-end.result.now
    c.requires.order (omega (arith, c.self.view_is)) c.index-start.ensures c.index-end.ensures).2
