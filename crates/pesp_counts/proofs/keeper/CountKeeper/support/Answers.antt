-- The count at the end of the activity is that of the partners.
use Rattle.std.proofs.Common.{◌≡◌, ◌*◌, ◌∙◌, ℕ, ap, sym, subst, option_copied, option_map}
use Rattle.pesp_domains.specs.Domains.{InDomains, own}
use Rattle.pesp_counts.specs.Restores.{Seen}
use Rattle.pesp_counts.specs.Keeping.{pairs_of}
use Rattle.pesp_counts_arcs.specs.declared.end.End.{End}
use Rattle.pesp_counts_arcs.specs.Ends.{end_at}
use Rattle.pesp_counts_supports.specs.Counts.{count_at}
use Rattle.pesp_counts_arcs.specs.Links.{IsEndOf, end_number}
use Rattle.pesp_counts_arcs.specs.Places.{place_of}
use Rattle.pesp_counts.specs.Support.{IsSupport}
use Rattle.pesp_counts.proofs.Carried.{tail_listed, tail_low, tail_mate}
use Rattle.pesp_counts.proofs.Supported.{activity_id, found_end, is_support, no_tail}
use Rattle.pesp_counts.proofs.keeper.CountKeeper.support.Goals as goal
use Rattle.pesp_counts.proofs.keeper.CountKeeper.support.Goals.{in-Tail, in-Head}

pub tail-requires : goal.tail-requires
tail-requires c q at = tail_low c.self.inside.instance c.self.inside.counted.links c.in_ok-activity.activity.now.id q c.self.invariant.settled.fits.stand at

pub returns-in_err-tail : goal.returns-in_err-tail
returns-in_err-tail c =
    let i = c.self.inside in
    let links = i.counted.links in
    let a = c.in_ok-activity.activity.now in
    let named = sym c.activity.ensures.value ∙ ap option_copied c.in_ok-activity.was in
    absurd (no_tail i.instance links c.args.activity a c.self.invariant.settled.fits.stand named (ap (λ k. option_map (λ q. 2 * q) (place_of links.activities k)) (sym (activity_id i.instance c.args.activity a named)) ∙ sym c.tail.ensures ∙ c.in_err-tail.was))

pub end-requires : goal.end-requires
end-requires c =
    let i = c.self.inside in
    let a = c.in_ok-activity.activity.now in
    let stand = c.self.invariant.settled.fits.stand in
    let e = found_end i.instance i.counted.links c.args.activity c.in_ok-tail.tail c.args.side a stand (sym c.activity.ensures.value ∙ ap option_copied c.in_ok-activity.was) (sym c.tail.ensures ∙ c.in_ok-tail.was) in
    rw e.2 (tail_low i.instance i.counted.links a.id e.0 stand e.1)

-- the end is that of the activity at the side
its_end : (c : goal.Joined-side) → (q : ℕ) × (c.match-side.end ≡ end_number c.args.side q) × (p : ℕ) × IsEndOf c.self.inside.instance.period c.self.inside.counted.links c.args.side c.in_ok-activity.activity.now p q
its_end c =
    let i = c.self.inside in
    let a = c.in_ok-activity.activity.now in
    let stand = c.self.invariant.settled.fits.stand in
    let (q, at, tail, p, end) = found_end i.instance i.counted.links c.args.activity c.in_ok-tail.tail c.args.side a stand (sym c.activity.ensures.value ∙ ap option_copied c.in_ok-activity.was) (sym c.tail.ensures ∙ c.in_ok-tail.was) in
    let listed = tail_listed i.instance i.counted.links a.id q stand at in (
      q,
      elim c.match-side.branch [
        | in-Tail w ↦ w.end-is ∙ tail ∙ ap (λ side. end_number side q) (sym w.in-Tail.is)
        | in-Head w ↦
            w.end-is ∙ ap (λ (x : End). x.mate) (w.end.ensures ∙ ap (end_at i.counted.links.ends) tail) ∙ tail_mate i.instance i.counted.links listed.0 q stand listed.1 ∙ ap (λ side. end_number side q) (sym w.in-Head.is)
      ],
      p,
      end,
    )

pub count-requires-clause-end : goal.count-requires-clause-end
count-requires-clause-end c =
    let (q, number, p, end) = its_end c in
    rw number (c.self.invariant.settled.fits.fit.counts p (end_number c.args.side q) end.listed)

pub returns : goal.returns
returns c =
    let i = c.self.inside in
    let I = i.instance in
    let n = c.args.activity in
    let a = c.in_ok-activity.activity.now in
    let (q, number, p, end) = its_end c.before in
    let here : InDomains I (pairs_of i.pushed.items) (own c.args.side a) c.args.residue =
    subst (λ e. InDomains I (pairs_of i.pushed.items) e c.args.residue) c.own.ensures
    (subst (λ (k : Seen). InDomains k.network k.pushes c.own.result c.args.residue) (sym c.self.view_is) (c.holds.ensures.0 c.if-not-holds.false))
    in
    subst (λ (k : Seen). IsSupport k.network k.pushes n c.args.side c.args.residue c.count.result) c.self.view_is
    (subst (λ x. IsSupport I (pairs_of i.pushed.items) n c.args.side c.args.residue x) (sym (c.count.ensures ∙ ap (λ k. count_at i.counted.supports.period i.counted.supports.counts k c.args.residue) number))
    (is_support I (pairs_of i.pushed.items) i.counted.links i.counted.supports n q p c.args.residue c.args.side a c.self.invariant.settled (sym c.activity.ensures.value ∙ ap option_copied c.in_ok-activity.was) end here))
