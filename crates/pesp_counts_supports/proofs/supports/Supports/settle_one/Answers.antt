-- The pair that waited longest goes from what is counted, alone or with others.
use Rattle.std.proofs.Common.{◌≡◌, ◌<◌, ℕ, Bool, All, length, get_or, sym, ap, subst, ◌∙◌, None}
use Rattle.std.proofs.lemmas.List.{get_or_default}
use Rattle.pesp_domains.specs.Sweeps.{Pairs}
use Rattle.pesp_counts_supports.specs.Counts.{has_at}
use Rattle.pesp_counts_supports.specs.Moves.{leaves_of}
use Rattle.pesp_counts_arcs.specs.Links.{Links}
use Rattle.pesp_counts_supports.specs.declared.moving.Moved.{Moved}
use Rattle.pesp_counts_supports.specs.declared.moving.Way.TheVariants.{Out}
use Rattle.pesp_counts_supports.specs.Supports.{IsTaken, Supports}
use Rattle.pesp_counts_supports.proofs.Moved.{HasGone, has_gone, moves_on}
use Rattle.pesp_counts_supports.proofs.Settled.{AreLeaving, rest_of, step_exact, step_live, step_paid, step_pending, step_goes}
use Rattle.pesp_counts_supports.proofs.Sifted.{below_long}
use Rattle.pesp_counts_supports.proofs.Taken.{fit_then, taken_same, taken_then, resummed}
use Rattle.pesp_counts_supports.proofs.supports.Supports.settle_one.Goals as goal
use Rattle.pesp_counts_supports.proofs.supports.Supports.settle_one.Goals.{After-moving_with-leaving, After-level}

-- no pair has gone from the rows before
taken_on : {links : Links} {s t last : Supports} {p : ℕ} {l : Moved} {D : ℕ → Bool} {to : Pairs} → HasGone links None s t p l D to → IsTaken t last → IsTaken s last
taken_on {links} {s} {t} {last} v taken = taken_then s t last (taken_same s t v.trail (λ p r. ap (λ rows. has_at rows p r) v.rows)) taken

-- the pair waits, and others of its place may
leaving : (c : After-moving_with-leaving) → AreLeaving c.args.links.now c.args.next c.index-pair.result.now c.moving_with-leaving.result c.args.self.now c.moving_with-leaving.new.self
leaving c =
    let next = c.args.next in
    record {
      linked = c.requires.fit.linked;
      pending = c.requires.pending;
      long = subst (λ (s : Supports). All (λ row. length row ≡ s.period) s.counted) c.self.view_is c.self.invariant.counted;
      within = c.requires.next;
      at = λ d.
          ap (λ (s : Supports). get_or s.trail next d) (sym c.self.view_is)
          ∙ get_or_default c.self.inside.trail.items next d c.index-pair.result.now (subst (λ (s : Supports). next < length s.trail) (sym c.self.view_is) c.requires.next)
          ∙ sym c.index-pair.ensures;
      here = sym c.has_counted.ensures ∙ c.if-has_counted.true;
      out = sym c.holds.ensures ∙ c.if-not-holds.true;
      alone = c.moving_with-leaving.ensures.alone;
      moved = c.moving_with-leaving.ensures.moving;
    }

pub move_around-requires-clause-fit : goal.move_around-requires-clause-fit
move_around-requires-clause-fit c =
    let mid = c.moving_with-leaving.new.self in
    fit_then c.args.links.now c.args.self.now mid (resummed c.args.self.now mid c.moving_with-leaving.ensures.same) c.requires.fit

pub move_around-requires-clause-moves : goal.move_around-requires-clause-moves
move_around-requires-clause-moves c =
    let links = c.args.links.now in
    let start = c.args.self.now in
    let pair = c.index-pair.result.now in
    let mid = c.moving_with-leaving.new.self in
    let l = c.moving_with-leaving.result in
    let D = leaves_of start pair.place l in
    let w = leaving (goal.at.move_around-requires-clause-moves c).After-moving_with-leaving in
    (has_at start.counted, rest_of pair l start, D, moves_on links None start mid pair.place l Out (has_at start.counted) (rest_of pair l start) D c.moving_with-leaving.ensures.same (λ q k is free. c.requires.pending.exact q k is) w.moved (step_goes links c.args.next pair l start mid w))

-- what leaves is counted out, and is counted no more
left : (c : After-level) → AreLeaving c.args.links.now c.args.next c.index-pair.result.now c.moving_with-leaving.result c.args.self.now c.moving_with-leaving.new.self
    → HasGone c.args.links.now None c.args.self.now c.level.new.self c.index-pair.result.now.place c.moving_with-leaving.result (leaves_of c.args.self.now c.index-pair.result.now.place c.moving_with-leaving.result) (rest_of c.index-pair.result.now c.moving_with-leaving.result c.args.self.now)
left c w =
    let links = c.args.links.now in
    let start = c.args.self.now in
    let pair = c.index-pair.result.now in
    let mid = c.moving_with-leaving.new.self in
    let l = c.moving_with-leaving.result in
    let moved = c.move_around.ensures in
    let does = c.level.ensures in
    has_gone links None start mid c.move_around.new.self c.level.new.self pair.place l Out (has_at start.counted) (rest_of pair l start) (leaves_of start pair.place l) c.moving_with-leaving.ensures.same moved.only.same does.same
    (λ q k is free. c.requires.pending.exact q k is) w.moved (step_goes links c.args.next pair l start mid w) moved.exact moved.only.long moved.probes does.counted does.long

pub sift_around-requires-clause-fit : goal.sift_around-requires-clause-fit
sift_around-requires-clause-fit c =
    let at = goal.at.sift_around-requires-clause-fit c in
    fit_then c.args.links.now c.args.self.now c.level.new.self (left at.After-level (leaving at.After-moving_with-leaving)).shape c.requires.fit

pub sift_around-requires-clause-below : goal.sift_around-requires-clause-below
sift_around-requires-clause-below c p r h =
    let start = c.args.self.now in
    let at = goal.at.sift_around-requires-clause-below c in
    let v = left at.After-level (leaving at.After-moving_with-leaving) in
    let long = subst (λ (s : Supports). All (λ row. length row ≡ s.period) s.rows) c.self.view_is c.self.invariant.rows in
    rw v.shape.period (below_long start.rows start.period p r long (ap (λ xs. has_at xs p r) (sym v.rows) ∙ h))

pub sift_around-requires-clause-exact : goal.sift_around-requires-clause-exact
sift_around-requires-clause-exact c =
    let at = goal.at.sift_around-requires-clause-exact c in
    let w = leaving at.After-moving_with-leaving in
    step_exact c.args.links.now c.args.next c.index-pair.result.now c.moving_with-leaving.result c.args.self.now c.moving_with-leaving.new.self w c.level.new.self (left at.After-level w)

pub sift_around-requires-clause-live : goal.sift_around-requires-clause-live
sift_around-requires-clause-live c =
    let at = goal.at.sift_around-requires-clause-live c in
    let w = leaving at.After-moving_with-leaving in
    step_live c.args.links.now c.args.next c.index-pair.result.now c.moving_with-leaving.result c.args.self.now c.moving_with-leaving.new.self w c.level.new.self (left at.After-level w)

-- ---- what was taken out

pub returns-then-not-holds-clause-pending : goal.returns-then-not-holds-clause-pending
returns-then-not-holds-clause-pending c =
    let at = goal.at.returns-then-not-holds-clause-pending c in
    let w = leaving at.After-moving_with-leaving in
    let v = left at.After-level w in
    let does = c.sift_around.ensures in
    step_pending c.args.links.now c.args.next c.index-pair.result.now c.moving_with-leaving.result c.args.self.now c.moving_with-leaving.new.self w c.level.new.self v c.sift_around.new.self (taken_on v does.takes.taken) does.takes.keeps does.live

pub returns-then-not-holds-clause-probes : goal.returns-then-not-holds-clause-probes
returns-then-not-holds-clause-probes c =
    let at = goal.at.returns-then-not-holds-clause-probes c in
    let w = leaving at.After-moving_with-leaving in
    let v = left at.After-level w in
    let does = c.sift_around.ensures in
    step_paid c.args.links.now c.args.next c.index-pair.result.now c.moving_with-leaving.result c.args.self.now c.moving_with-leaving.new.self w c.level.new.self v c.sift_around.new.self (taken_on v does.takes.taken) does.takes.keeps does.takes.probes

pub returns-then-not-holds-clause-taken : goal.returns-then-not-holds-clause-taken
returns-then-not-holds-clause-taken c =
    let at = goal.at.returns-then-not-holds-clause-taken c in
    taken_on (left at.After-level (leaving at.After-moving_with-leaving)) c.sift_around.ensures.takes.taken
