-- The residues that are looked at are those of the row from the given one on.
use Rattle.std.proofs.Common.{◌≡◌, ◌+◌, length, find, sym, ap, ◌∙◌, ◌-◌, zero-add, arith}
use Rattle.std.specs.List.{range_with_len}
use Rattle.pesp_domains.specs.Domains.{holds}
use Rattle.pesp_domains.proofs.RowLaws.{find_from}
use Rattle.pesp_domains.proofs.row.Row.next_from.Goals as goal

pub returns : goal.returns
returns c =
    let row = c.args.self.now in
    let long : c.period.result ≡ 0 + length row = c.period.ensures ∙ sym (zero-add (length row)) in
    c.first_between.ensures ∙ ap (λ n. find (holds row) (range_with_len c.args.residue (n - c.args.residue))) long ∙ sym (find_from (holds row) c.args.residue 0 (length row) (omega arith))
