-- The part of the row is that of the range, and its counts stand as far behind.
use Rattle.std.proofs.Common.{◌≡◌, ◌+◌, ◌*◌, ◌<◌, ◌≤◌, ◌==◌, ◌&&◌, length, option_map, get_or, subst, sym, ap, [], ◌∙◌, arith}
use Rattle.std.proofs.lemmas.List.{get_or_read}
use Rattle.std.proofs.lemmas.List.Elements.{All-get_or}
use Rattle.pesp_counts_supports.specs.Counts.{count_at, has_at}
use Rattle.pesp_counts_supports.specs.Lone.{IsFirst}
use Rattle.pesp_counts_supports.specs.Supports.{Supports}
use Rattle.pesp_counts_supports.proofs.Lone.{lone_within}
use Rattle.pesp_counts_supports.proofs.supports.Supports.first_lone.Goals as goal
use Rattle.pesp_counts_supports.proofs.supports.Supports.first_lone.Goals.{After-first_lone}

-- in the whole row
told : (c : After-first_lone) → IsFirst (λ r. has_at c.args.self.now.rows c.args.place r && (count_at c.args.self.now.period c.args.self.now.counts c.args.end r == 0)) c.args.from c.args.to (option_map (λ i. c.args.from + i) c.first_lone.result)
told c =
    let inside = c.self.inside in
    let place = c.args.place in
    let here = subst (λ (s : Supports). place < length s.rows) (sym c.self.view_is) c.requires.place in
    let high = subst (λ (s : Supports). c.args.to ≤ s.period) (sym c.self.view_is) c.requires.high in
    let row : c.tests.result.now ≡ get_or inside.rows.items place [] = c.tests.ensures ∙ get_or_read inside.rows.items place c.index.result.now here c.index.ensures [] in
    let long = All-get_or (λ row. length row ≡ inside.period) inside.rows.items place [] here c.self.invariant.rows in
    let base : c.base-base.result ≡ c.args.end * inside.period = c.base-base.ensures.base ∙ ap (λ n. c.args.end * n) c.get.ensures.value in
    let told = rw (c.from.ensures, c.from-2.ensures, c.from-3.ensures) at c.first_lone.ensures in
    let within = lone_within c.tests.result.now inside.counts.values c.base-base.result c.args.from c.args.to c.first_lone.result c.requires.order (omega (arith, high, long, ap length row)) told in
    subst (λ (s : Supports). IsFirst (λ r. has_at s.rows place r && (count_at s.period s.counts c.args.end r == 0)) c.args.from c.args.to (option_map (λ i. c.args.from + i) c.first_lone.result)) c.self.view_is
    (rw (row, base) at within)

pub returns-in_err-ahead : goal.returns-in_err-ahead
returns-in_err-ahead c = rw (c.from_residual.ensures) (rw c.in_err-ahead.was at (told (goal.at.returns-in_err-ahead c).After-first_lone))

pub returns : goal.returns
returns c = rw c.in_ok-ahead.was at (told (goal.at.returns c).After-first_lone)
