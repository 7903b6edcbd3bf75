-- What stands in neither of the two ranges goes, and is what the window does not hold.
use Rattle.std.proofs.Common.{◌≡◌, All, length, ap, sym, subst, ◌∙◌}
use Rattle.pesp_base.specs.Windows.{is_held}
use Rattle.pesp_domains.specs.Sweeps.{narrowed_to}
use Rattle.pesp_counts_supports.specs.Counts.{has_at}
use Rattle.pesp_counts_supports.specs.Supports.{Supports}
use Rattle.pesp_counts_supports.proofs.Sifted.{narrowed_both}
use Rattle.pesp_counts_supports.proofs.Taken.{taken_then}
use Rattle.pesp_counts_supports.proofs.supports.Supports.limit_to.Goals as goal

pub returns-clause-rows : goal.returns-clause-rows
returns-clause-rows c p r =
    let start = c.args.self.now in
    let T = c.self.inside.period in
    let period_is : T ≡ start.period = ap (λ (s : Supports). s.period) c.self.view_is in
    let top : c.get.result ≡ T = c.get.ensures.value ∙ ap (λ (s : Supports). s.period) c.limit_range-2.view_is ∙ c.limit_range.ensures.takes.keeps.period ∙ sym period_is in
    let long : All (λ row. length row ≡ T) start.rows = subst (λ rows. All (λ row. length row ≡ T) rows) (ap (λ (s : Supports). s.rows) c.self.view_is) c.self.invariant.rows in
    subst (λ n. has_at c.limit_range-3.new.self.rows p r ≡ narrowed_to (has_at start.rows) c.args.place (is_held n c.args.window) p r) period_is
    (narrowed_both T c.args.place (is_held T c.args.window) c.ranges_of-left.result start.rows c.limit_range.new.self.rows c.limit_range-3.new.self.rows c.ranges_of-left.ensures.ranges c.ranges_of-left.ensures.held long c.limit_range.ensures.rows (rw top at c.limit_range-3.ensures.rows) p r)

pub returns-clause-taken : goal.returns-clause-taken
returns-clause-taken c = taken_then c.args.self.now c.limit_range.new.self c.limit_range-3.new.self c.limit_range.ensures.takes.taken c.limit_range-3.ensures.takes.taken
