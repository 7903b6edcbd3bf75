-- One pair more is in the rows.
use Rattle.std.proofs.Common.{◌≡◌, ◌<◌, ◌||◌, ◌==◌, ◌&&◌, ◌∷◌, [], Bool, true, false, length, get_or, take, refl, sym, ap, ◌∙◌, arith}
use Rattle.std.proofs.Math.Bool.{or-false}
use Rattle.std.proofs.lemmas.List.{length-set, take_more}
use Rattle.std.proofs.lemmas.List.Elements.{All-get_or}
use Rattle.std.proofs.lemmas.List.Folds.{list_any-append}
use Rattle.pesp_counts_supports.specs.declared.trail.Placed.{Placed}
use Rattle.pesp_counts_supports.specs.Counts.{has_at}
use Rattle.pesp_counts_supports.specs.Supports.{is_in}
use Rattle.pesp_counts_supports.proofs.Grown.{long_set}
use Rattle.pesp_counts_supports.proofs.Raised.{has_put}
use Rattle.pesp_counts_supports.proofs.raising.put_all.Goals as goal

pub index_mut-requires : goal.index_mut-requires
index_mut-requires c =
    let zero : Placed = record { place = 0; residue = 0 } in
    let within = All-get_or (λ (x : Placed). x.place < length c.args.rows.now.items) c.args.pairs.now c.loop-pair.pair-index zero c.loop-pair-test.true c.requires.within in
    omega (arith, within, c.loop-pair.invariant.many)

pub put_in-requires : goal.put_in-requires
put_in-requires c =
    let zero : Placed = record { place = 0; residue = 0 } in
    let i = c.loop-pair.invariant in
    let (n, long, below) = c.requires.below in
    let rows = c.loop-pair.rows.items in
    let within = All-get_or (λ (x : Placed). x.place < length c.args.rows.now.items) c.args.pairs.now c.loop-pair.pair-index zero c.loop-pair-test.true c.requires.within in
    let residue = All-get_or (λ (x : Placed). x.residue < n) c.args.pairs.now c.loop-pair.pair-index zero c.loop-pair-test.true below in
    let item = ap length c.index_mut.ensures.value ∙ All-get_or (λ row. length row ≡ n) rows _ c.index_mut.result.now (omega (arith, within, i.many)) (i.long n long) in
    omega (arith, residue, item)

pub loop-pair-preserved : goal.loop-pair-preserved
loop-pair-preserved c =
    let zero : Placed = record { place = 0; residue = 0 } in
    let i = c.loop-pair.invariant in
    let pairs = c.args.pairs.now in
    let k = c.loop-pair.pair-index in
    let x : Placed = get_or pairs k zero in
    let rows = c.loop-pair.rows.items in
    let row = c.put_in.new.self in
    let within = All-get_or (λ (y : Placed). y.place < length c.args.rows.now.items) pairs k zero c.loop-pair-test.true c.requires.within in
    let here : x.place < length rows = omega (arith, within, i.many) in
    let put = has_put rows x.place x.residue row c.index_mut.result.now here c.index_mut.ensures.value c.put_in.ensures.holds in
    let more = take_more pairs k zero c.loop-pair-test.true in
    record {
      many = length-set rows x.place row ∙ i.many;
      long = λ n all. long_set n x.place rows row c.index_mut.result.now here (i.long n all) c.index_mut.ensures.value c.put_in.ensures.long;
      has = λ p r.
          put p r
          ∙ ap (λ b. b || (x.place == p && x.residue == r)) (i.has p r)
          ∙ by (has_at c.args.rows.now.items p r) (is_in (take k pairs) p r) (x.place == p && x.residue == r)
          ∙ ap (λ b. has_at c.args.rows.now.items p r || (is_in (take k pairs) p r || b)) (sym (or-false (x.place == p && x.residue == r)))
          ∙ ap (λ b. has_at c.args.rows.now.items p r || b) (sym (ap (λ ys. is_in ys p r) more ∙ list_any-append (λ (y : Placed). y.place == p && y.residue == r) (take k pairs) (x ∷ [])));
    }
  where
    by : (a b c : Bool) → ((a || b) || c) ≡ (a || (b || c))
    by true b c = refl
    by false b c = refl
