-- Another residue goes, if it is there.
use Rattle.std.proofs.Common.{arith, ◌≡◌, ◌==◌, ◌&&◌, not, ℕ, Bool, true, false, refl, sym, ◌∙◌}
use Rattle.std.proofs.lemmas.Bool.{eq-eqb, ne_eqb}
use Rattle.pesp_counts_supports.specs.Counts.{has_at}
use Rattle.std.proofs.Math.Bool.{and-false as no_and}
use Rattle.pesp_counts_supports.proofs.Rows.{clears_passed, clears_taken}
use Rattle.pesp_counts_supports.proofs.Taken.{kept_then, taken_then}
use Rattle.pesp_counts_supports.proofs.supports.Supports.limit.Goals as goal
use Rattle.pesp_counts_supports.proofs.supports.Supports.limit.Goals.{then-other-residue+then-holds, else-other-residue, else-other-residue-via-then-other-residue+else-holds, else-other-residue-via-else-other-residue}

pub loop-other-preserved : goal.loop-other-preserved
loop-other-preserved c =
    let start = c.args.self.now in
    let now = c.loop-other.self in
    let inv = c.loop-other.invariant in
    let other = c.loop-other.other in
    let f : ℕ → Bool = λ r. not (r == c.args.residue) in
    elim c.if-other-residue.branch [
      | then-other-residue+then-holds w ↦
          let after = w.take_out.new.self in
          let goes : f other ≡ true = rw (ne_eqb other c.args.residue w.if-other-residue.true) refl in
          rw w.self-is
          (record {
            rows = clears_taken c.args.place f 0 start.rows other now.rows after.rows (omega arith) goes w.take_out.ensures.rows inv.rows;
            taken = taken_then start now after inv.taken w.take_out.ensures.takes.taken;
            keeps = kept_then start now after inv.keeps w.take_out.ensures.takes.keeps;
            probes = w.take_out.ensures.takes.probes ∙ inv.probes;
          })
      | else-other-residue w ↦
          let stays : (has_at now.rows c.args.place other && f other) ≡ false =
          elim w.else-other-residue.branch [
            | else-other-residue-via-then-other-residue+else-holds v ↦
                let out : has_at now.rows c.args.place other ≡ false = sym v.holds.ensures ∙ v.if-holds.false in
                rw out refl
            | else-other-residue-via-else-other-residue v ↦
                rw (eq-eqb other c.args.residue v.if-other-residue.false) (no_and (has_at now.rows c.args.place other))
          ]
          in
          rw w.self-is
          (record {
            rows = clears_passed c.args.place f 0 start.rows other now.rows stays inv.rows;
            taken = inv.taken;
            keeps = inv.keeps;
            probes = inv.probes;
          })
    ]
