-- The range is the whole period.
use Rattle.std.proofs.Common.{◌≡◌, ◌==◌, ℕ, Bool, All, length, ap, subst, ◌∙◌}
use Rattle.pesp_counts_supports.specs.Counts.{count_at}
use Rattle.pesp_counts_supports.specs.Supports.{Supports}
use Rattle.pesp_counts_supports.proofs.Rows.{Clears}
use Rattle.pesp_counts_supports.proofs.Sifted.{clears_all}
use Rattle.pesp_counts_supports.proofs.supports.Supports.sift.Goals as goal

pub returns-clause-rows : goal.returns-clause-rows
returns-clause-rows c =
    let start = c.args.self.now in
    let inside = c.self.inside in
    let after = c.sift_range.new.self in
    let f : ℕ → Bool = λ r. count_at start.period start.counts c.args.end r == 0 in
    let long = subst (λ (s : Supports). All (λ row. length row ≡ s.period) s.rows) c.self.view_is c.self.invariant.rows in
    let period : c.get.result ≡ start.period = c.get.ensures.value ∙ ap (λ (s : Supports). s.period) c.self.view_is in
    let clears : Clears c.args.place f 0 c.get.result start.rows after.rows =
    subst (λ (s : Supports). Clears c.args.place (λ r. count_at s.period s.counts c.args.end r == 0) 0 c.get.result s.rows after.rows) c.self.view_is
    (rw c.probe_range-residues.ensures.range at c.sift_range.ensures.rows)
    in
    clears_all c.args.place start.period f start.rows after.rows long (subst (λ n. Clears c.args.place f 0 n start.rows after.rows) period clears)
