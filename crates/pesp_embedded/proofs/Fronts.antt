-- A room that is filled from its front, one after another.
use Rattle.std.proofs.Common.{◌≡◌, ℕ, ◌+◌, ◌<◌, ◌≤◌, ◌∙◌, List, [], ◌∷◌, ◌++◌, length, length-append, length-take-le, append-nil, append_assoc, set, take, drop, refl, sym, ap, arith}
use Rattle.std.proofs.Math.Seq.{drop-nil, take-nil}
use Rattle.std.proofs.lemmas.List.{take-append-drop}
use Rattle.pesp_embedded.specs.Answered.{fronted}

-- nothing is in front yet
pub fronted_none : (room : List ℕ) → fronted [] room ≡ room
fronted_none [] = refl
fronted_none (y ∷ room) = refl

-- one more
set_next : (shown : List ℕ) (x : ℕ) (room : List ℕ) → length shown < length room → set (fronted shown room) (length shown) x ≡ fronted (shown ++ x ∷ []) room
set_next [] x [] l = absurd (omega (arith, l))
set_next (d ∷ shown) x [] l = absurd (omega (arith, l))
set_next [] x (y ∷ room) l = rw (take-nil (length room)) refl
set_next (d ∷ shown) x (y ∷ room) l = ap (λ ys. d ∷ ys) (set_next shown x room (omega (arith, l)))

pub fronted_more : (shown : List ℕ) (place x : ℕ) (room now : List ℕ) → now ≡ fronted shown room → length shown ≡ place → place < length room → set now place x ≡ fronted (shown ++ x ∷ []) room
fronted_more shown place x room now is long l = rw (is, ← long) (set_next shown x room (omega (arith, long, l)))

-- what finds no room is not there
pub fronted_full : (shown rest room : List ℕ) → length shown ≡ length room → fronted (shown ++ rest) room ≡ fronted shown room
fronted_full [] rest [] full = drop-nil (length rest)
fronted_full [] rest (y ∷ room) full = absurd (omega (arith, full))
fronted_full (d ∷ shown) rest [] full = absurd (omega (arith, full))
fronted_full (d ∷ shown) rest (y ∷ room) full = ap (λ ys. d ∷ ys) (fronted_full shown rest room (omega (arith, full)))

-- so the first of them are enough, where they fill the room
pub fronted_first : (n : ℕ) (all room : List ℕ) → n ≡ length room → n ≤ length all → fronted (take n all) room ≡ fronted all room
fronted_first n all room full le =
    sym (ap (λ shown. fronted shown room) (sym (take-append-drop n all)) ∙ fronted_full (take n all) (drop n all) room (length-take-le n all le ∙ full))

-- ---- one number after another

-- so many of all numbers are in front of the room, and the rest is yet to come
pub record IsFilling (all rest room now : List ℕ) (place : ℕ) : Type 0 where
  pub shown : List ℕ
  pub parts : shown ++ rest ≡ all
  pub long : length shown ≡ place
  pub fits : place ≤ length room
  pub filled : now ≡ fronted shown room

pub begins : (all room : List ℕ) → IsFilling all all room room 0
begins all room = record { shown = []; parts = refl; long = refl; fits = omega arith; filled = sym (fronted_none room) }

pub goes_on : (all rest room now : List ℕ) (place x : ℕ) → IsFilling all (x ∷ rest) room now place → place < length room → IsFilling all rest room (set now place x) (place + 1)
goes_on all rest room now place x f l = record {
  shown = f.shown ++ x ∷ [];
  parts = append_assoc f.shown (x ∷ []) rest ∙ f.parts;
  long = length-append f.shown (x ∷ []) ∙ (omega (arith, f.long));
  fits = omega (arith, l);
  filled = fronted_more f.shown place x room now f.filled f.long l;
}

-- all are shown
pub ends : (all room now : List ℕ) (place : ℕ) → IsFilling all [] room now place → now ≡ fronted all room
ends all room now place f = f.filled ∙ ap (λ shown. fronted shown room) (sym (append-nil f.shown) ∙ f.parts)

-- the room is full
pub is_full : (all rest room now : List ℕ) (place : ℕ) → IsFilling all rest room now place → place ≡ length room → now ≡ fronted all room
is_full all rest room now place f full =
    f.filled ∙ sym (fronted_full f.shown rest room (f.long ∙ full)) ∙ ap (λ shown. fronted shown room) f.parts
