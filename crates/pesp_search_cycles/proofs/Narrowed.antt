-- Ranges that are narrowed one by one, and boxes that are narrowed to others.
use Rattle.std.proofs.Common.{◌≡◌, ℕ, ◌+◌, ◌<◌, ◌≤◌, ◌↔◌, ◌++◌, inl, inr, ℤ, pos, List, length, get_or, length-set, sym, subst, ◌∙◌, arith}
use Rattle.std.proofs.Math.ListN.{set}
use Rattle.std.proofs.lemmas.Bool.{cases_eq}
use Rattle.std.proofs.lemmas.List.{get_or_append_left}
use Rattle.pesp_search_network.specs.Arcs.{Arcs}
use Rattle.pesp_search_cycles.specs.declared.boxes.Boxes.{Boxes}
use Rattle.pesp_search_cycles.specs.declared.range.Range.{Range}
use Rattle.pesp_search_cycles.specs.Maps.{AreBoxes, IsInside, Net, numbers_of}
use Rattle.pesp_search_cycles.specs.Ranges.{AllIn, AreInFront, AreNarrowed, IsIn, no_range}
use Rattle.pesp_search_cycles.specs.Splits.{IsNarrowed}
use Rattle.pesp_search_cycles.specs.Walks.{Path, no_path, round}
use Rattle.pesp_search_cycles.proofs.Numbered.{numbers_long}
use Rattle.pesp_search_cycles.proofs.Regions.{put_has}
use Rattle.pesp_search_cycles.proofs.Split.{put_back, put_in}

-- ---- ranges

-- so many of the ranges have their numbers
abbrev pub AreFirst : List Range → ℕ → (ℕ → ℤ) → Type 0
AreFirst others i z = (k : ℕ) → k < i → IsIn (get_or others k no_range) (z k)

-- so many ranges are narrowed
pub record IsUpTo (old others : List Range) (i : ℕ) (new : List Range) : Type 0 where
  pub long : length new ≡ length old
  pub both : (n : ℕ) (z : ℕ → ℤ) → AllIn new n z ↔ (AllIn old n z × AreFirst others i z)

first_more : (others : List Range) (i : ℕ) (z : ℕ → ℤ) → AreFirst others i z → IsIn (get_or others i no_range) (z i) → AreFirst others (i + 1) z
first_more others i z f here k h =
    elim (cases_eq k i) [
      | inl e ↦ subst (λ m. IsIn (get_or others m no_range) (z m)) (sym e) here
      | inr e ↦ f k (omega (arith, h, e))
    ]

module _ (old others new : List Range) (i : ℕ) (q : Range) (here : i < length new) (u : IsUpTo old others i new) (both : (z : ℤ) → IsIn q z ↔ (IsIn (get_or new i no_range) z × IsIn (get_or others i no_range) z)) where
  more : (n : ℕ) (z : ℕ → ℤ) → AllIn (set new i q) n z → AllIn old n z × AreFirst others (i + 1) z
  more n z a =
      let m : i < n = omega (arith, here, length-set new i q, a.long) in
      let is : IsIn (get_or new i no_range) (z i) × IsIn (get_or others i no_range) (z i) = (both (z i)).0 (put_has new n z i q here m a) in
      let before = (u.both n z).0 (put_back new n z i here q a (λ _. is.0)) in
      (before.0, first_more others i z before.1 is.1)

  less : (n : ℕ) (z : ℕ → ℤ) → AllIn old n z × AreFirst others (i + 1) z → AllIn (set new i q) n z
  less n z p =
      let b : AllIn new n z = (u.both n z).1 (p.0, λ k h. p.1 k (omega (arith, h))) in
      put_in new n z i here q b ((both (z i)).1 (b.each i (omega (arith, here, b.long)), p.1 i (omega arith)))

  pub up_to_more : IsUpTo old others (i + 1) (set new i q)
  up_to_more = record { long = length-set new i q ∙ u.long; both = λ n z. (more n z, less n z) }

pub up_to_all : (old others new : List Range) (i : ℕ) → (i < length others → ⊥) → i ≤ length others → IsUpTo old others i new → AreNarrowed old others new
up_to_all old others new i all few u = record {
  long = u.long;
  both = λ n z. (
    λ a. let p = (u.both n z).0 a in (p.0, λ k h. p.1 k (omega (arith, h, all))),
    λ p. (u.both n z).1 (p.0, λ k h. p.1 k (omega (arith, h, few))),
  );
}

-- ---- boxes

-- the boxes have the first numbers and rounds of a map
pub record IsInFront (A : Arcs) (walks : List Path) (B : Boxes) (xs : List ℕ) : Type 0 where
  pub numbers : AreInFront B.numbers.items (λ k. pos (get_or (numbers_of A xs) k 0))
  pub rounds : AreInFront B.rounds.items (λ k. round A.arcs (numbers_of A xs) (get_or walks k no_path))

pub narrowed_inside : (N : Net) (old others new : Boxes) (xs : List ℕ) → IsNarrowed old others new → IsInside N new xs → IsInside N old xs × IsInFront N.network N.walks others xs
narrowed_inside N old others new xs n i =
    let numbers = (n.numbers.both _ _).0 i.numbers in
    let rounds = (n.rounds.both _ _).0 i.rounds in
    (record { numbers = numbers.0; rounds = rounds.0 }, record { numbers = numbers.1; rounds = rounds.1 })

pub inside_narrowed : (N : Net) (old others new : Boxes) (xs : List ℕ) → IsNarrowed old others new → IsInside N old xs → IsInFront N.network N.walks others xs → IsInside N new xs
inside_narrowed N old others new xs n i f = record {
  numbers = (n.numbers.both _ _).1 (i.numbers, f.numbers);
  rounds = (n.rounds.both _ _).1 (i.rounds, f.rounds);
}

pub narrowed_fit : (N : Net) (old others new : Boxes) → IsNarrowed old others new → AreBoxes N old → AreBoxes N new
narrowed_fit N old others new n fit = record { numbers = n.numbers.long ∙ fit.numbers; rounds = n.rounds.long ∙ fit.rounds }

-- ---- boxes of fewer walks

module _ (N : Net) (more : List Path) (B : Boxes) (fit : AreBoxes N B) (xs : List ℕ) where
  same_walk : (k : ℕ) → k < length B.rounds.items → get_or (N.walks ++ more) k no_path ≡ get_or N.walks k no_path
  same_walk k h = get_or_append_left N.walks more no_path k (omega (arith, h, fit.rounds))

  pub front_of : IsInside N B xs → IsInFront N.network (N.walks ++ more) B xs
  front_of i = record {
    numbers = λ k h. i.numbers.each k (omega (arith, h, i.numbers.long));
    rounds = λ k h.
        subst (λ (p : Path). IsIn (get_or B.rounds.items k no_range) (round N.network.arcs (numbers_of N.network xs) p)) (sym (same_walk k h))
        (i.rounds.each k (omega (arith, h, fit.rounds)));
  }

  pub inside_of : length xs ≡ N.network.events → IsInFront N.network (N.walks ++ more) B xs → IsInside N B xs
  inside_of long f = record {
    numbers = record { long = omega (arith, fit.numbers, numbers_long N.network xs, long); each = λ k h. f.numbers k (omega (arith, h, fit.numbers, numbers_long N.network xs, long)) };
    rounds = record {
      long = fit.rounds;
      each = λ k h.
          let m : k < length B.rounds.items = omega (arith, h, fit.rounds) in
          subst (λ (p : Path). IsIn (get_or B.rounds.items k no_range) (round N.network.arcs (numbers_of N.network xs) p)) (same_walk k m) (f.rounds k m);
    };
  }
