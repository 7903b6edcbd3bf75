-- A residue more is in the row, or forbidden.
use Rattle.std.proofs.Common.{refl, arith}
use Rattle.pesp_search.proofs.arcs.keep_row.Goals as goal

pub loop-residue-init : goal.loop-residue-init
loop-residue-init c =
    record {
      same = refl;
      rows = record {
        long = refl;
        kept = λ r less. absurd (omega (arith, less));
        full = λ r low less. c.requires.full r less;
        others = λ k out. refl;
      };
    }
