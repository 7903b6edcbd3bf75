-- A pair without a partner goes, if it is there.
use Rattle.std.proofs.Common.{◌≡◌, ◌&&◌, ◌==◌, ℕ, false, length, take, get_or, refl, sym, ap, subst, ◌∙◌, arith}
use Rattle.std.specs.List.{list_any}
use Rattle.std.proofs.lemmas.List.{take_more}
use Rattle.std.proofs.lemmas.List.Sums.{sum_by-drop_more}
use Rattle.pesp_domains.specs.Removals.{without}
use Rattle.pesp_counts_supports.specs.declared.trail.Placed.{Placed}
use Rattle.pesp_counts_arcs.specs.Ends.{ends_of}
use Rattle.pesp_counts_supports.specs.Counts.{count_at, has_at}
use Rattle.pesp_counts_supports.specs.Supports.{Supports, lacks_partner}
use Rattle.pesp_counts_supports.proofs.PutBack.{Sifts, sifts_passed, sifts_taken}
use Rattle.std.proofs.Math.Bool.{and-false as no_and}
use Rattle.pesp_counts_supports.proofs.Spent.{looked_keeps, looked_taken}
use Rattle.pesp_counts_supports.proofs.Taken.{kept_shape, kept_then, taken_then, fit_then}
use Rattle.pesp_counts_supports.proofs.supports.Supports.sift_back.Goals as goal
use Rattle.pesp_counts_supports.proofs.supports.Supports.sift_back.Goals.{then-holds+then-lacks_partner, else-holds, else-holds-via-then-holds+else-lacks_partner, else-holds-via-else-holds}

pub lacks_partner-requires-clause-fit : goal.lacks_partner-requires-clause-fit
lacks_partner-requires-clause-fit c = fit_then c.args.links.now c.args.self.now c.loop-pair.self (kept_shape c.args.self.now c.loop-pair.self c.loop-pair.invariant.keeps) c.requires.fit

pub loop-pair-preserved : goal.loop-pair-preserved
loop-pair-preserved c =
    let start = c.args.self.now in
    let links = c.args.links.now in
    let now = c.loop-pair.self in
    let inv = c.loop-pair.invariant in
    let i = c.loop-pair.pair-index in
    let back = c.args.back.now in
    let x : Placed = get_or back i (record { place = 0; residue = 0 }) in
    let more = take_more back i (record { place = 0; residue = 0 }) c.loop-pair-test.true in
    let spends = sum_by-drop_more (λ (y : Placed). length (ends_of links.lists y.place)) back i (record { place = 0; residue = 0 }) c.loop-pair-test.true in
    let same : lacks_partner links now x.place x.residue ≡ lacks_partner links start x.place x.residue = ap (λ counts. list_any (λ k. count_at now.period counts k x.residue == 0) (ends_of links.lists x.place)) inv.keeps.counts ∙ ap (λ n. list_any (λ k. count_at n start.counts k x.residue == 0) (ends_of links.lists x.place)) inv.keeps.period in
    elim c.if-holds.branch [
      | then-holds+then-lacks_partner w ↦
          let mid = w.lacks_partner.new.self in
          let after = w.take_out.new.self in
          let is = w.lacks_partner.ensures.same in
          let takes : (p r : ℕ) → has_at after.rows p r ≡ without (has_at now.rows) x.place x.residue p r = λ p r. w.take_out.ensures.rows p r ∙ ap (λ (s : Supports). without (has_at s.rows) x.place x.residue p r) is in
          rw w.self-is
          (record {
            rows = subst (λ xs. Sifts links start xs after.rows) (sym more) (sifts_taken links start (take i back) x now.rows inv.rows after.rows (sym same ∙ sym w.lacks_partner.ensures.lacks ∙ w.if-lacks_partner.true) takes);
            taken = taken_then start now after inv.taken (taken_then now mid after (looked_taken now mid is) w.take_out.ensures.takes.taken);
            keeps = kept_then start now after inv.keeps (kept_then now mid after (looked_keeps now mid is) w.take_out.ensures.takes.keeps);
            counts_on = omega (arith, inv.counts_on, w.lacks_partner.ensures.counts_on, w.take_out.ensures.takes.probes);
            probes = omega (arith, spends, w.lacks_partner.ensures.probes, w.take_out.ensures.takes.probes, inv.probes);
          })
      | else-holds w ↦
          elim w.else-holds.branch [
            | else-holds-via-then-holds+else-lacks_partner v ↦
                let mid = v.lacks_partner.new.self in
                let is = v.lacks_partner.ensures.same in
                let none : lacks_partner links start x.place x.residue ≡ false = sym same ∙ sym v.lacks_partner.ensures.lacks ∙ v.if-lacks_partner.false in
                let stays : (has_at now.rows x.place x.residue && lacks_partner links start x.place x.residue) ≡ false = rw none (no_and (has_at now.rows x.place x.residue)) in
                rw (w.self-is, v.self-is)
                (record {
                  rows = subst (λ xs. Sifts links start xs mid.rows) (sym more) (sifts_passed links start (take i back) x mid.rows (subst (λ (s : Supports). Sifts links start (take i back) s.rows) (sym is) inv.rows) (subst (λ (s : Supports). (has_at s.rows x.place x.residue && lacks_partner links start x.place x.residue) ≡ false) (sym is) stays));
                  taken = taken_then start now mid inv.taken (looked_taken now mid is);
                  keeps = kept_then start now mid inv.keeps (looked_keeps now mid is);
                  counts_on = omega (arith, inv.counts_on, v.lacks_partner.ensures.counts_on);
                  probes = omega (arith, spends, v.lacks_partner.ensures.probes, inv.probes);
                })
            | else-holds-via-else-holds v ↦
                let out : has_at now.rows x.place x.residue ≡ false = sym c.holds.ensures ∙ v.if-holds.false in
                let stays : (has_at now.rows x.place x.residue && lacks_partner links start x.place x.residue) ≡ false = rw out refl in
                rw (w.self-is, v.self-is)
                (record {
                  rows = subst (λ xs. Sifts links start xs now.rows) (sym more) (sifts_passed links start (take i back) x now.rows inv.rows stays);
                  taken = inv.taken;
                  keeps = inv.keeps;
                  counts_on = inv.counts_on;
                  probes = omega (arith, spends, inv.probes);
                })
          ]
    ]
