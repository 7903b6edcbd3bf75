-- A residue begins where the text before it ends.
use Rattle.std.proofs.Common.{◌≡◌, ◌+◌, map, ap, ◌∙◌, arith}
use Rattle.std.specs.List.{range_with_len}
use Rattle.pesp_shell_replies.specs.Spaced.{spaced, start_of}
use Rattle.pesp_shell_replies.proofs.SpacedLemmas.{starts_more, text_more}
use Rattle.pesp_shell_replies.proofs.residue_texts.ResidueTexts.new.Goals as goal

pub loop-residue-preserved : goal.loop-residue-preserved
loop-residue-preserved c = record {
  text = text_more c.loop-residue.text.items c.put_residue.new.text.items c.loop-residue.residue c.loop-residue.invariant.text c.in_ok-put_residue.ensures;
  starts = starts_more c.loop-residue.text.items c.loop-residue.starts.items c.push.new.self.items c.loop-residue.residue c.len.result
      c.loop-residue.invariant.text c.loop-residue.invariant.starts (c.len.ensures ∙ c.loop-residue.text.ok.0) c.in_ok-push.ensures.items;
}

pub invariant_of-result : goal.invariant_of-result
invariant_of-result c =
    let ends : c.loop-residue.residue ≡ c.args.period = omega arith in
    record {
      text = c.loop-residue.invariant.text ∙ ap (λ r. spaced (range_with_len 0 r)) ends;
      starts =
          starts_more c.loop-residue.text.items c.loop-residue.starts.items c.push-2.new.self.items c.loop-residue.residue c.len-2.result
          c.loop-residue.invariant.text c.loop-residue.invariant.starts (c.len-2.ensures ∙ c.loop-residue.text.ok.0) c.in_ok-push-2.ensures.items
          ∙ ap (λ r. map start_of (range_with_len 0 (r + 1))) ends;
    }
