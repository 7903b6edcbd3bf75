-- Of the residues before this one those of the window are left.
use Rattle.std.proofs.Common.{◌≡◌, ℕ, ◌&&◌, ◌||◌, nat_le, length}
use Rattle.pesp_base.specs.Windows.{is_held}
use Rattle.pesp_domains.specs.Domains.{holds}
use Rattle.pesp_domains.proofs.row.Row.keep_window.Given as goal

abbrev pub invariant-loop-residue : goal.invariant-loop-residue
invariant-loop-residue l = record {
  long : length l.self ≡ length l.initial.self;
  holds : (r : ℕ) → holds l.self r ≡ (holds l.initial.self r && (nat_le l.residue r || is_held l.period l.window r));
}
