-- The residues that were gone over are written, and where each of them begins.
use Rattle.std.proofs.Common.{◌≡◌, map}
use Rattle.std.specs.List.{range_with_len}
use Rattle.pesp_shell_replies.specs.Spaced.{spaced, start_of}
use Rattle.pesp_shell_replies.proofs.residue_texts.ResidueTexts.new.Given as goal

abbrev pub invariant-loop-residue : goal.invariant-loop-residue
invariant-loop-residue l = record {
  text : l.text.items ≡ spaced (range_with_len 0 l.residue);
  starts : l.starts.items ≡ map start_of (range_with_len 0 l.residue);
}
