-- A text is cut at its first line feed.
use Rattle.std.proofs.Common.{◌≡◌, ℕ, zero, suc, ◌<◌, ◌≤◌, Bool, true, false, List, [], ◌∷◌, length, take, drop, slice_index, ap, ◌∙◌, arith}
use Rattle.pesp_shell_io.specs.Lines.{IsUncut, before_pieces, cut_at}
use Rattle.pesp_shell_io.proofs.CutLemmas.{cut_whole}

-- each byte is looked at, and none ends a piece
pub uncut_by : (ends : ℕ → Bool) (bytes : List ℕ) → ((k : ℕ) → k < length bytes → ends (slice_index bytes k) ≡ false) → IsUncut ends bytes
uncut_by ends [] none = tt
uncut_by ends (b ∷ bytes) none = (none 0 (omega arith), uncut_by ends bytes (λ k low. none (suc k) (omega (arith, low))))

-- the bytes before one are looked at, and none ends a piece
pub uncut_before : (ends : ℕ → Bool) (bytes : List ℕ) (i : ℕ) → i ≤ length bytes → ((k : ℕ) → k < i → ends (slice_index bytes k) ≡ false)
    → IsUncut ends (take i bytes)
uncut_before ends bytes zero low none = tt
uncut_before ends [] (suc i) low none = tt
uncut_before ends (b ∷ bytes) (suc i) low none =
    (none 0 (omega arith), uncut_before ends bytes i (omega (arith, low)) (λ k below. none (suc k) (omega (arith, below))))

-- a text without a byte that ends a piece is one piece
pub cut_nowhere : (ends : ℕ → Bool) (b : ℕ) (bytes : List ℕ) → ((k : ℕ) → k < length (b ∷ bytes) → ends (slice_index (b ∷ bytes) k) ≡ false) → cut_at ends (b ∷ bytes) ≡ (b ∷ bytes) ∷ []
cut_nowhere ends b bytes none = cut_whole ends (b ∷ bytes) (uncut_by ends (b ∷ bytes) none) (omega arith)

-- a text is cut at the first such byte
pub cut_first : (ends : ℕ → Bool) (bytes : List ℕ) (i : ℕ) → i < length bytes → ((k : ℕ) → k < i → ends (slice_index bytes k) ≡ false)
    → ends (slice_index bytes i) ≡ true → cut_at ends bytes ≡ take i bytes ∷ cut_at ends (drop (suc i) bytes)
cut_first ends [] i low none at = absurd (omega (arith, low))
cut_first ends (b ∷ bytes) zero low none at = ap (λ t. before_pieces t b (cut_at ends bytes)) at
cut_first ends (b ∷ bytes) (suc i) low none at =
    ap (λ t. before_pieces t b (cut_at ends bytes)) (none 0 (omega arith))
    ∙ ap (before_pieces false b) (cut_first ends bytes i (omega (arith, low)) (λ k below. none (suc k) (omega (arith, below))) at)
