-- What a map costs in a network is what it costs in a piece, and in the rest.
use Rattle.std.proofs.Common.{◌≡◌, ℕ, ◌+◌, ◌<◌, Bool, true, false, IsTrue, All, Option, List, filter, length, slice_index, sum_by, refl, sym, subst, ap, ap₂, ◌∙◌, arith}
use Rattle.std.proofs.lemmas.List.Elements.{All-filter, All-from_get_or}
use Rattle.std.proofs.lemmas.List.Filters.{sum_by-filter_both}
use Rattle.pesp_search_network.specs.Arcs.{Arcs, IsCosted, KeepsRows, cost_in, has, meets}
use Rattle.pesp_search_network.specs.Pieces.{IsJoined, IsPeeled, IsShare, is_inner, is_of, turn_of}
use Rattle.pesp_search_network.specs.SumsApart.{AreTogether, IsSumOf}
use Rattle.pesp_search_graph.specs.declared.arc.Arc.{Arc}
use Rattle.pesp_base.proofs.WindowLaws.{after_no_step}
use Rattle.pesp_search_network.proofs.Joined.{IsBuilt, all_both, build, joined_inside, joined_keeps_rows, joined_list, joined_outside, outside_same}
use Rattle.pesp_search_network.proofs.Turned.{costs-turned, met-turned}
use Rattle.pesp_search_network.proofs.Residues.{keeps_rows}

-- ---- one share

-- a map that meets all arcs of the list, and what they cost
pub record IsPriced (N : Arcs) (arcs : List Arc) (map : List ℕ) (cost : ℕ) : Type 0 where
  pub met : All (λ a. IsTrue (meets N.period map a)) arcs
  pub costs : sum_by (cost_in N.period map) arcs ≡ cost

module _ (inner : List Bool) (side : Bool) (N M : Arcs) (share : IsShare inner side N M) where
  -- a map of the share gives each event a residue of its row
  share_keeps_rows : (map : List ℕ) (cost : ℕ) → IsCosted M map cost → KeepsRows N map
  share_keeps_rows map cost is =
      let p = keeps_rows M map is.met in
      let below : (v : ℕ) → v < N.events → slice_index map v < N.period = λ v h. subst (λ T. slice_index map v < T) share.period (p.below v (omega (arith, h, share.events))) in
      record {
        long = p.long ∙ share.events;
        below = below;
        rows = λ v h. share.fewer v (slice_index map v) (below v h) (p.rows v (omega (arith, h, share.events)));
      }

  -- and costs what the arcs of the share do
  share_priced : (map : List ℕ) (cost : ℕ) → IsCosted M map cost → IsPriced N (filter (is_of inner side) N.arcs) map cost
  share_priced map cost is = record {
    met =
        (subst (λ T. All (λ a. IsTrue (meets T map a)) (filter (is_of inner side) N.arcs)) share.period
        (subst (λ (arcs : List Arc). All (λ a. IsTrue (meets M.period map a)) arcs) share.arcs is.met.met));
    costs = ap (λ T. sum_by (cost_in T map) (filter (is_of inner side) N.arcs)) (sym share.period) ∙ ap (sum_by (cost_in M.period map)) (sym share.arcs) ∙ is.costs;
  }

  -- a map that gives each event a residue of its row in the share, and meets the arcs of the share
  share_costed : (map : List ℕ) (cost : ℕ) → length map ≡ N.events → ((v : ℕ) → v < N.events → slice_index map v < N.period) → ((v : ℕ) → v < N.events → IsTrue (has M v (slice_index map v)))
      → IsPriced N (filter (is_of inner side) N.arcs) map cost → IsCosted M map cost
  share_costed map cost long below rows is = record {
    met = record {
      long = long ∙ sym share.events;
      below = All-from_get_or (λ r. r < M.period) map 0 (λ v h. subst (λ T. slice_index map v < T) (sym share.period) (below v (omega (arith, h, long))));
      rows = λ v h. rows v (omega (arith, h, share.events));
      met =
          (subst (λ T. All (λ a. IsTrue (meets T map a)) M.arcs) (sym share.period)
          (subst (λ (arcs : List Arc). All (λ a. IsTrue (meets N.period map a)) arcs) (sym share.arcs) is.met));
    };
    costs = ap (λ T. sum_by (cost_in T map) M.arcs) share.period ∙ ap (sum_by (cost_in N.period map)) share.arcs ∙ is.costs;
  }

  -- where the whole has a map, each row of the share has a residue
  share_some : (map : List ℕ) → KeepsRows N map → IsBuilt (λ v q. (q < N.period) × IsTrue (has M v q)) N.events
  share_some map is =
      build (λ v q. (q < N.period) × IsTrue (has M v q)) N.events
      (λ v h. (let one = share.some v (slice_index map v) (is.below v h) (is.rows v h) in (one.0, (one.1, one.2))))

  share_fits : (map : List ℕ) → length map ≡ N.events → ((v : ℕ) → v < N.events → (slice_index map v < N.period) × IsTrue (has M v (slice_index map v))) → KeepsRows N map
  share_fits map long each = record {
    long = long;
    below = λ v h. (each v h).0;
    rows = λ v h. share.fewer v (slice_index map v) (each v h).0 (each v h).1;
  }

-- ---- both

module _ (N P R : Arcs) (inner : List Bool) (joint : Option ℕ) (peeled : IsPeeled N P R inner joint) where
  -- two maps are joined to one of the whole, at what both cost
  pub costed-joined : (p r map : List ℕ) (a b : ℕ) → IsCosted P p a → IsCosted R r b → IsJoined N.period inner (turn_of N.period joint p r) p r map → IsCosted N map (a + b)
  costed-joined p r map a b has_p has_r joined =
      let T = N.period in
      let t = turn_of T joint p r in
      let pp = share_keeps_rows inner true N P peeled.inside p a has_p in
      let rp = share_keeps_rows inner false N R peeled.outside r b has_r in
      let pm = joined_keeps_rows N inner joint p r map peeled.piece pp rp joined in
      let in_turn = joined_inside N inner joint p r map peeled.piece pp rp joined in
      let as_was = joined_outside N inner joint p r map peeled.piece pp rp joined in
      let of_p = share_priced inner true N P peeled.inside p a has_p in
      let of_r = share_priced inner false N R peeled.outside r b has_r in
      let inside = filter (is_of inner true) N.arcs in
      let outside = filter (is_of inner false) N.arcs in
      record {
        met = record {
          long = pm.long;
          below = All-from_get_or (λ q. q < T) map 0 (λ v h. pm.below v (omega (arith, h, pm.long)));
          rows = pm.rows;
          met =
              all_both (is_of inner true) (λ c. IsTrue (meets T map c)) N.arcs (met-turned T t p map inside in_turn of_p.met)
              (met-turned T 0 r map outside as_was of_r.met);
        };
        costs =
            sym (sum_by-filter_both (is_of inner true) (is_of inner false) (λ _. refl) (cost_in T map) N.arcs)
            ∙ ap₂ (λ m n. m + n) (costs-turned T t p map inside in_turn ∙ of_p.costs) (costs-turned T 0 r map outside as_was ∙ of_r.costs);
      }

  -- a map of the whole falls into one of the piece and one of the rest
  pub costed-apart : (map : List ℕ) (cost : ℕ) → IsCosted N map cost → AreTogether (IsCosted P) (IsCosted R) cost
  costed-apart map cost is =
      let T = N.period in
      let pm = keeps_rows N map is.met in
      let inside = filter (is_of inner true) N.arcs in
      let outside = filter (is_of inner false) N.arcs in
      let met : (side : Bool) → All (λ a. IsTrue (meets T map a)) (filter (is_of inner side) N.arcs) = λ side. All-filter (is_of inner side) (λ a. IsTrue (meets T map a)) N.arcs is.met.met in
      let ground_in = share_some inner true N P peeled.inside map pm in
      let fits = share_fits inner true N P peeled.inside ground_in.map ground_in.long ground_in.each in
      let t = turn_of T joint map ground_in.map in
      let in_piece = joined_list T inner t map ground_in.map in
      let in_rows = joined_keeps_rows N inner joint map ground_in.map in_piece.0 peeled.piece pm fits in_piece.1 in
      let in_turn = joined_inside N inner joint map ground_in.map in_piece.0 peeled.piece pm fits in_piece.1 in
      let ground_out = share_some inner false N R peeled.outside map pm in
      let in_rest = joined_list T inner 0 ground_out.map map in
      let there = λ (v : ℕ) (h : v < N.events). out_of_piece R ground_out.map map in_rest.0 pm ground_out.long ground_out.each peeled.outside.kept in_rest.1 v h (is_inner inner v) refl in
      let long_out : length in_rest.0 ≡ N.events = in_rest.1.long ∙ pm.long in
      let as_was = outside_same N inner joint map in_rest.0 peeled.piece pm (λ v h out. in_rest.1.stays v (omega (arith, h, pm.long)) out) in
      record {
        first = in_piece.0;
        second = in_rest.0;
        part = sum_by (cost_in T map) inside;
        rest = sum_by (cost_in T map) outside;
        has_first =
            share_costed inner true N P peeled.inside in_piece.0 (sum_by (cost_in T map) inside) in_rows.long in_rows.below
            (λ v h. of_piece P ground_in.map map in_piece.0 t in_rows ground_in.long ground_in.each peeled.inside.kept in_piece.1 v h (is_inner inner v) refl)
            (record { met = met-turned T t map in_piece.0 inside in_turn (met true); costs = costs-turned T t map in_piece.0 inside in_turn });
        has_second =
            share_costed inner false N R peeled.outside in_rest.0 (sum_by (cost_in T map) outside) long_out (λ v h. (there v h).0) (λ v h. (there v h).1)
            (record { met = met-turned T 0 map in_rest.0 outside as_was (met false); costs = costs-turned T 0 map in_rest.0 outside as_was });
        adds = sum_by-filter_both (is_of inner true) (is_of inner false) (λ _. refl) (cost_in T map) N.arcs ∙ is.costs;
      }
    where
      Kept : Bool → Arcs → Type 0
      Kept side M = (v r : ℕ) → r < N.period → is_inner inner v ≡ side → has M v r ≡ has N v r

      Each : Arcs → List ℕ → Type 0
      Each M ground = (v : ℕ) → v < N.events → (slice_index ground v < N.period) × IsTrue (has M v (slice_index ground v))

      of_piece : (M : Arcs) (ground old new : List ℕ) (t : ℕ) → KeepsRows N new → length ground ≡ N.events → Each M ground → Kept true M → IsJoined N.period inner t old ground new
          → (v : ℕ) → v < N.events → (b : Bool) → is_inner inner v ≡ b → IsTrue (has M v (slice_index new v))
      of_piece M ground old new t pn long each kept joined v h true is = kept v (slice_index new v) (pn.below v h) is ∙ pn.rows v h
      of_piece M ground old new t pn long each kept joined v h false is =
          subst (λ r. IsTrue (has M v r)) (sym (joined.stays v (omega (arith, h, long)) is)) (each v h).1

      out_of_piece : (M : Arcs) (ground old new : List ℕ) → KeepsRows N old → length ground ≡ N.events → Each M ground → Kept false M → IsJoined N.period inner 0 ground old new
          → (v : ℕ) → v < N.events → (b : Bool) → is_inner inner v ≡ b → (slice_index new v < N.period) × IsTrue (has M v (slice_index new v))
      out_of_piece M ground old new po long each kept joined v h true is =
          let same : slice_index new v ≡ slice_index ground v = joined.turned v (omega (arith, h, po.long)) is ∙ after_no_step N.period (slice_index ground v) (each v h).0 in
          (subst (λ r. r < N.period) (sym same) (each v h).0, subst (λ r. IsTrue (has M v r)) (sym same) (each v h).1)
      out_of_piece M ground old new po long each kept joined v h false is =
          let same : slice_index new v ≡ slice_index old v = joined.stays v (omega (arith, h, po.long)) is in (
            subst (λ r. r < N.period) (sym same) (po.below v h),
            subst (λ r. IsTrue (has M v r)) (sym same) (kept v (slice_index old v) (po.below v h) is ∙ po.rows v h),
          )

  -- what maps of the whole cost is what maps of both do, added up
  pub costed_sums : IsSumOf (IsCosted N) (IsCosted P) (IsCosted R)
  costed_sums = record {
    apart = costed-apart;
    together = λ p r a b has_p has_r.
        (let joined = joined_list N.period inner (turn_of N.period joint p r) p r in
        (joined.0, costed-joined p r joined.0 a b has_p has_r joined.1));
  }
