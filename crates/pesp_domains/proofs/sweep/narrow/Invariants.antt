-- The pass so far; while nothing was taken out, each residue before this one has its partner.
use Rattle.std.proofs.Common.{◌≡◌, ℕ, ◌<◌, false}
use Rattle.pesp_domains.specs.Domains.{HasPartner, own}
use Rattle.pesp_domains.specs.Rows.{HaveSameShape, has}
use Rattle.pesp_domains.specs.Sweeps.{IsPass, Of}
use Rattle.pesp_domains.proofs.sweep.narrow.Given as goal

abbrev pub invariant-loop-residue : goal.invariant-loop-residue
invariant-loop-residue l = record {
  shape : HaveSameShape l.initial.rows l.rows;
  pass : IsPass l.instance (has l.initial.rows) (has l.rows) l.changed;
  settled : l.changed ≡ false → (r : ℕ) → r < l.residue → Of (has l.rows) (own l.side l.activity) r → HasPartner l.instance.period (Of (has l.rows)) l.side l.activity r;
}
