-- A store of rings stays one with more room.
use Rattle.std.proofs.Common.{◌≡◌, ℕ, ◌-◌, ◌^◌, ◌<◌, ◌++◌, List, length, get_or, map, replicate, take, refl, sym, ap, subst, ◌∙◌, arith}
use Rattle.std.proofs.lemmas.Grind.{common_steps}
use Rattle.std.proofs.lemmas.List.{get_or-map}
use Rattle.pesp_counts_arcs.specs.declared.lists.Head.{Head}
use Rattle.pesp_counts_arcs.specs.declared.lists.Neighbours.{Neighbours}
use Rattle.pesp_counts_arcs.specs.Lists.{AreRings, afters, befores, items_at, lists_of}
use Rattle.pesp_counts_arcs.proofs.ListLaws.{lists_read, resized, shared_room, shared_same}
use Rattle.pesp_counts_arcs.proofs.RingLaws.{round_read, round_same}
use Rattle.pesp_counts_arcs.proofs.RingStores.{no_neighbours}

-- ---- more room

-- a field of what stands anywhere, also beyond the items
field_at : (f : Neighbours → ℕ) → f no_neighbours ≡ 0 → (items : List Neighbours) (i : ℕ) → get_or (map f items) i 0 ≡ f (get_or items i no_neighbours)
field_at f none items i = let within = get_or-map f items i no_neighbours 0 in grind (arith, common_steps, within, none)

field_more : (f : Neighbours → ℕ) → f no_neighbours ≡ 0 → (items : List Neighbours) (n long : ℕ) → long ≡ length items → long < n → (i : ℕ) → get_or (map f (take n items ++ replicate (n - long) no_neighbours)) i 0 ≡ get_or (map f items) i 0
field_more f none items n long is more i =
    field_at f none (take n items ++ replicate (n - long) no_neighbours) i ∙ ap f (resized items n long no_neighbours is more i) ∙ sym (field_at f none items i)

module _ (items after : List Neighbours) (heads : List Head) (n long : ℕ) (is : long ≡ length items) (more : long < n) (grown : after ≡ take n items ++ replicate (n - long) no_neighbours) where
  same_afters : (i : ℕ) → get_or (afters after) i 0 ≡ get_or (afters items) i 0
  same_afters i = ap (λ xs. get_or (afters xs) i 0) grown ∙ field_more (λ k. k.after) refl items n long is more i

  same_befores : (i : ℕ) → get_or (befores after) i 0 ≡ get_or (befores items) i 0
  same_befores i = ap (λ xs. get_or (befores xs) i 0) grown ∙ field_more (λ k. k.before) refl items n long is more i

  pub lists_grown : lists_of (afters after) heads ≡ lists_of (afters items) heads
  lists_grown = lists_read (afters items) (afters after) same_afters heads

  pub rings_grown : length after ≡ n → n < 2 ^ 32 → AreRings items (lists_of (afters items) heads) → AreRings after (lists_of (afters after) heads)
  rings_grown many few h =
      subst (AreRings after) (sym lists_grown)
      (record {
        stored = record {
          few = omega (arith, many, few);
          few_lists = h.stored.few_lists;
          shared = shared_room (length items) (length after) (lists_of (afters items) heads) (omega (arith, is, more, many)) h.stored.shared;
        };
        forward = round_read (afters items) (befores items) (afters after) (befores after) (lists_of (afters items) heads) same_afters same_befores h.forward;
        backward = round_read (befores items) (afters items) (befores after) (afters after) (lists_of (afters items) heads) same_befores same_afters h.backward;
      })

-- lists with the same items are rings as those are
pub rings_same : (items : List Neighbours) (lists after : List (List ℕ)) → length after < 2 ^ 32 → ((p : ℕ) → items_at after p ≡ items_at lists p) → AreRings items lists → AreRings items after
rings_same items lists after few same h =
    record {
      stored = record { few = h.stored.few; few_lists = few; shared = shared_same (length items) lists after same h.stored.shared };
      forward = round_same (afters items) (befores items) lists after same h.forward;
      backward = round_same (befores items) (afters items) lists after same h.backward;
    }
