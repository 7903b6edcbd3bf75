-- The event has the times that are given, and every other event the one that it has.
use Rattle.std.proofs.Common.{ap, sym, unwrap_or, ◌∙◌}
use Rattle.std.proofs.lemmas.Bool.{eq-eqb, eqb-true, false≢true}
use Rattle.pesp_bench.proofs.Entries.{other_put, own_put}
use Rattle.pesp_bench.proofs.moved.times_at.Goals as goal

pub returns-then-eq-clause-before : goal.returns-then-eq-clause-before
returns-then-eq-clause-before c = rw (eqb-true c.args.end c.args.event (sym c.eq.ensures ∙ c.if-eq.true)) c.requires.before

pub returns-then-eq-clause-after : goal.returns-then-eq-clause-after
returns-then-eq-clause-after c =
    let own = c.args.own in
    rw (eqb-true c.args.end c.args.event (sym c.eq.ensures ∙ c.if-eq.true)) (sym (ap (λ o. unwrap_or o 0) (own_put c.args.event own.1 c.args.times.now.entries)))

pub returns-clause-after : goal.returns-clause-after
returns-clause-after c =
    let own = c.args.own in
    c.unwrap_or-time.ensures
    ∙ ap (λ o. unwrap_or o 0) (c.get.ensures.time ∙ sym (other_put c.args.event own.1 c.args.end c.args.times.now.entries (λ same. false≢true (sym (sym c.eq.ensures ∙ c.if-eq.false) ∙ eq-eqb c.args.end c.args.event same))))
