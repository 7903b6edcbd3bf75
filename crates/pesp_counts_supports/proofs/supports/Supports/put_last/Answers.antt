-- The rows hold one pair more, and the counts are those of the rows with it.
use Rattle.std.proofs.Common.{◌≡◌, ◌*◌, ◌<◌, ◌≤◌, ◌++◌, ◌∷◌, [], length, subst, sym, ap, ◌∙◌, refl, false, arith, get_or, drop}
use Rattle.std.proofs.lemmas.List.{length-set, length_push}
use Rattle.std.proofs.lemmas.List.Elements.{All-get_or}
use Rattle.pesp_counts_supports.specs.Counts.{has_at}
use Rattle.pesp_counts_supports.specs.Supports.{Supports, joined}
use Rattle.pesp_counts_supports.proofs.Grown.{long_set}
use Rattle.pesp_counts_supports.proofs.Raised.{has_put, held_put}
use Rattle.pesp_counts_supports.proofs.Parted.{stands_from}
use Rattle.std.proofs.Math.Seq.{get_or-append_seam}
use Rattle.pesp_counts_supports.proofs.Returned.{known_of, returning_last}
use Rattle.pesp_counts_supports.proofs.supports.Supports.put_last.Goals as goal
use Rattle.pesp_counts_supports.proofs.supports.Supports.put_last.Goals.{After-take_last-pair}

-- the pair is of a row, below the period, and out of the rows
facts : (c : After-take_last-pair) → let rows = c.self.inside.rows.items in let x = c.take_last-pair.result in
    (x.place < length rows) × (x.residue < c.self.inside.period) × (has_at rows x.place x.residue ≡ false)
facts c =
    let mid = c.count_last.new.self in
    let rest = c.take_last-pair.new.self.items in
    let x = c.take_last-pair.result in
    let is = subst (λ (s : Supports). s.trail ≡ rest ++ x ∷ []) c.self.view_is c.take_last-pair.ensures.items in
    let more : c.args.mark ≤ length rest = omega (arith, c.requires.more, ap length c.count_last.ensures.trail, ap length is, length_push rest x) in
    let at = ap (λ xs. get_or xs (length rest) x) is ∙ get_or-append_seam rest x [] x in
    let stands = stands_from mid.trail c.args.mark (length rest) x more (omega (arith, ap length is, length_push rest x)) at in
    subst (λ (s : Supports). (x.place < length s.rows) × (x.residue < s.period) × (has_at s.rows x.place x.residue ≡ false)) (sym c.self.view_is)
    (known_of mid (drop c.args.mark mid.trail) x c.count_last.ensures.returning.out stands)

pub index_mut-requires : goal.index_mut-requires
index_mut-requires c = let (here, below, out) = facts (goal.at.index_mut-requires c).After-take_last-pair in omega (arith, here, c.self.invariant.even)

pub put_in-requires : goal.put_in-requires
put_in-requires c =
    let n = c.self.inside.period in
    let (here, below, out) = facts (goal.at.put_in-requires c).After-take_last-pair in
    let counted = c.self.inside.counted.items in
    let there : c.take_last-pair.result.place < length counted = omega (arith, here, c.self.invariant.even) in
    let long = ap length c.index_mut.ensures.value ∙ All-get_or (λ xs. length xs ≡ n) counted c.take_last-pair.result.place c.index_mut.result.now there c.self.invariant.counted in
    omega (arith, below, long)

pub index_mut-requires-2 : goal.index_mut-requires-2
index_mut-requires-2 c = omega (arith, (facts (goal.at.index_mut-requires-2 c).After-take_last-pair).0)

pub put_in-requires-2 : goal.put_in-requires-2
put_in-requires-2 c =
    let n = c.self.inside.period in
    let (here, below, out) = facts (goal.at.put_in-requires-2 c).After-take_last-pair in
    let long = ap length c.index_mut-2.ensures.value ∙ All-get_or (λ xs. length xs ≡ n) c.self.inside.rows.items c.take_last-pair.result.place c.index_mut-2.result.now here c.self.invariant.rows in
    omega (arith, below, long)

pub invariant_of-self : goal.invariant_of-self
invariant_of-self c =
    let v = c.self.invariant in
    let n = c.self.inside.period in
    let x = c.take_last-pair.result in
    let place = x.place in
    let rows = c.self.inside.rows.items in
    let counted = c.self.inside.counted.items in
    let rest = c.take_last-pair.new.self.items in
    let (here, inside, out) = facts (goal.at.invariant_of-self c).After-take_last-pair in
    let there : place < length counted = omega (arith, here, v.even) in
    let long = ap length c.index_mut-2.ensures.value ∙ All-get_or (λ xs. length xs ≡ n) rows place c.index_mut-2.result.now here v.rows in
    let below : x.residue < length c.index_mut-2.result.now = omega (arith, long, inside) in
    let more = held_put rows place x.residue c.put_in-2.new.self c.index_mut-2.result.now here c.index_mut-2.ensures.value c.put_in-2.ensures.holds c.put_in-2.ensures.long below out in
    let area = ap (λ m. m * n) (length-set rows place c.put_in-2.new.self) in
    let popped = ap length c.take_last-pair.ensures.items ∙ length_push rest x in
    record {
      period = v.period;
      rows = long_set n place rows c.put_in-2.new.self c.index_mut-2.result.now here v.rows c.index_mut-2.ensures.value c.put_in-2.ensures.long;
      counted = long_set n place counted c.put_in.new.self c.index_mut.result.now there v.counted c.index_mut.ensures.value c.put_in.ensures.long;
      even = length-set counted place c.put_in.new.self ∙ v.even ∙ sym (length-set rows place c.put_in-2.new.self);
      few = rw (length-set rows place c.put_in-2.new.self) v.few;
      room = omega (arith, more, popped, v.room, c.take_last-pair.ensures.capacity);
      all_room = omega (arith, area, v.all_room, c.take_last-pair.ensures.capacity);
      sums = rw (length-set rows place c.put_in-2.new.self) v.sums;
      fits = v.fits;
    }

pub returns-clause-returning : goal.returns-clause-returning
returns-clause-returning c =
    let mid = c.count_last.new.self in
    let view = c.self.view_is in
    let x = c.take_last-pair.result in
    let rest = c.take_last-pair.new.self.items in
    let rows = c.self.inside.rows.items in
    let counted = c.self.inside.counted.items in
    let does = c.count_last.ensures in
    let (here, inside, out) = facts (goal.at.returns-clause-returning c).After-take_last-pair in
    let is = subst (λ (s : Supports). s.trail ≡ rest ++ x ∷ []) view c.take_last-pair.ensures.items in
    let more : c.args.mark ≤ length rest = omega (arith, c.requires.more, ap length does.trail, ap length is, length_push rest x) in
    returning_last c.args.mark mid does.returning.out rest x is more c.args.links.now _ does.returning (does.last rest x (sym does.trail ∙ is))
    (λ p r. has_put rows x.place x.residue c.put_in-2.new.self c.index_mut-2.result.now here c.index_mut-2.ensures.value c.put_in-2.ensures.holds p r ∙ ap (λ (s : Supports). joined (has_at s.rows) x.place x.residue p r) view)
    (λ p r. has_put counted x.place x.residue c.put_in.new.self c.index_mut.result.now (omega (arith, here, c.self.invariant.even)) c.index_mut.ensures.value c.put_in.ensures.holds p r ∙ ap (λ (s : Supports). joined (has_at s.counted) x.place x.residue p r) view)
    refl (ap (λ (s : Supports). s.counts) view)
    (record {
      period = ap (λ (s : Supports). s.period) view;
      counts = ap (λ (s : Supports). length s.counts) view;
      counted = length-set counted x.place c.put_in.new.self ∙ ap (λ (s : Supports). length s.counted) view;
      rows = length-set rows x.place c.put_in-2.new.self ∙ ap (λ (s : Supports). length s.rows) view;
      room = c.take_last-pair.ensures.capacity ∙ ap (λ (s : Supports). s.room) view;
    })

pub returns-clause-last : goal.returns-clause-last
returns-clause-last c =
    let x = c.take_last-pair.result in
    let rows = c.self.inside.rows.items in
    let does = c.count_last.ensures in
    let (here, inside, out) = facts (goal.at.returns-clause-last c).After-take_last-pair in
    let put = has_put rows x.place x.residue c.put_in-2.new.self c.index_mut-2.result.now here c.index_mut-2.ensures.value c.put_in-2.ensures.holds in
    (x, sym does.trail ∙ sym (ap (λ (s : Supports). s.trail) c.self.view_is) ∙ c.take_last-pair.ensures.items, λ p r. put p r ∙ ap (λ xs. joined (has_at xs) x.place x.residue p r) (ap (λ (s : Supports). s.rows) c.self.view_is ∙ does.rows))
