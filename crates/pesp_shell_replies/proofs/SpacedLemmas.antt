-- Residues run by run, and a table of them.
use Rattle.std.proofs.Common.{◌≡◌, ℕ, zero, suc, ◌+◌, ◌-◌, ◌≤◌, Bool, true, false, List, [], ◌∷◌, ◌++◌, length, map, filter, take, drop, get_or, refl, sym, ap, ◌∙◌, arith, append_assoc, decimal}
use Rattle.std.specs.List.{range_with_len}
use Rattle.std.proofs.Math.Seq.{drop-append_seam, take-append_seam}
use Rattle.std.proofs.lemmas.Grind.{flat_map-append}
use Rattle.std.proofs.lemmas.List.{append-nil, length-append}
use Rattle.std.proofs.lemmas.List.FromFn.{get_or-map-range_with_len, length-map-range_with_len, map-range_with_len_more}
use Rattle.pesp_domains.specs.Domains.{holds, residues}
use Rattle.pesp_shell_replies.specs.Replies.{domain_line, domain_text}
use Rattle.pesp_shell_replies.specs.Spaced.{IsTable, spaced, start_of}
use Rattle.pesp_shell_replies.proofs.Written.{row_more, row_same}

-- numbers, and those after them
range_on : (a m n b k : ℕ) → a + m ≡ b → m + n ≡ k → range_with_len a k ≡ range_with_len a m ++ range_with_len b n
range_on a zero n b k at is =
    let long : k ≡ n = omega arith in
    let same : a ≡ b = omega arith in
    ap (λ j. range_with_len a j) long ∙ ap (λ j. range_with_len j n) same
range_on a (suc m) n b k at is =
    let long : k ≡ suc (m + n) = omega arith in
    ap (λ j. range_with_len a j) long ∙ ap (λ ks. a ∷ ks) (range_on (a + 1) m n b (m + n) (omega arith) refl)

-- the residues of a run after those of another
run_on : (a m n b k : ℕ) → a + m ≡ b → m + n ≡ k → spaced (range_with_len a k) ≡ spaced (range_with_len a m) ++ spaced (range_with_len b n)
run_on a m n b k at is = ap spaced (range_on a m n b k at is) ∙ flat_map-append (λ r. 32 ∷ decimal r) (range_with_len a m) (range_with_len b n)

-- one residue more in a run
run_more : (a m r k : ℕ) → a + m ≡ r → m + 1 ≡ k → spaced (range_with_len a k) ≡ spaced (range_with_len a m) ++ (32 ∷ decimal r)
run_more a m r k at is = run_on a m 1 r k at is ∙ ap (λ t. spaced (range_with_len a m) ++ t) (append-nil (32 ∷ decimal r))

-- ---- a table

pub text_more : (text next : List ℕ) (r : ℕ) → text ≡ spaced (range_with_len 0 r) → next ≡ text ++ (32 ∷ decimal r) → next ≡ spaced (range_with_len 0 (r + 1))
text_more text next r at is = is ∙ ap (λ t. t ++ (32 ∷ decimal r)) at ∙ sym (run_more 0 r r (r + 1) (omega arith) refl)

pub starts_more : (text starts next : List ℕ) (r n : ℕ) → text ≡ spaced (range_with_len 0 r) → starts ≡ map start_of (range_with_len 0 r) → n ≡ length text → next ≡ starts ++ n ∷ []
    → next ≡ map start_of (range_with_len 0 (r + 1))
starts_more text starts next r n at before long is =
    is ∙ ap (λ xs. xs ++ n ∷ []) before ∙ ap (λ m. map start_of (range_with_len 0 r) ++ m ∷ []) (long ∙ ap length at) ∙ sym (map-range_with_len_more start_of 0 r r (omega arith))

-- a residue begins as far after another as the run between them is long
starts_apart : (low high : ℕ) → low ≤ high → start_of high ≡ start_of low + length (spaced (range_with_len low (high - low)))
starts_apart low high order =
    ap length (run_on 0 low (high - low) low high (omega arith) (omega arith)) ∙ length-append (spaced (range_with_len 0 low)) (spaced (range_with_len low (high - low)))

module _ {period : ℕ} {bytes places : List ℕ} (table : IsTable period bytes places) where
  pub places_long : length places ≡ period + 1
  places_long = ap length table.starts ∙ length-map-range_with_len start_of 0 (period + 1)

  pub place_at : (r start : ℕ) → r ≤ period → start ≡ get_or places r start → start ≡ start_of r
  place_at r start within is = is ∙ rw table.starts (get_or-map-range_with_len start_of 0 (period + 1) r r start (omega arith) (omega arith))

  pub place_within : (r : ℕ) → r ≤ period → start_of r ≤ length bytes
  place_within r within = omega (arith, starts_apart r period within, ap length table.text)

  -- the bytes from one place on and before another are the run between them
  run_between : (low high : ℕ) → low ≤ high → high ≤ period → take (start_of high - start_of low) (drop (start_of low) bytes) ≡ spaced (range_with_len low (high - low))
  run_between low high order within =
      let before = spaced (range_with_len 0 low) in
      let run = spaced (range_with_len low (high - low)) in
      let rest = spaced (range_with_len high (period - high)) in
      let whole : bytes ≡ before ++ (run ++ rest) =
      table.text ∙ run_on 0 high (period - high) high period (omega arith) (omega arith)
      ∙ ap (λ t. t ++ rest) (run_on 0 low (high - low) low high (omega arith) (omega arith)) ∙ append_assoc before run rest in
      let long : start_of high - start_of low ≡ length run = omega (arith, starts_apart low high order) in
      ap (λ n. take n (drop (start_of low) bytes)) long
      ∙ ap (λ t. take (length run) (drop (start_of low) t)) whole
      ∙ ap (λ t. take (length run) t) (drop-append_seam before (run ++ rest))
      ∙ take-append_seam run rest

  -- so are those between two numbers that stand in the places
  pub part_between : (low high start end : ℕ) → low ≤ high → high ≤ period → start ≡ get_or places low start → end ≡ get_or places high end
      → (start ≤ end) × (end ≤ length bytes) × (take (end - start) (drop start bytes) ≡ spaced (range_with_len low (high - low)))
  part_between low high start end order within from to =
      let first : start ≡ start_of low = place_at low start (omega arith) from in
      let last : end ≡ start_of high = place_at high end within to in (
        omega (arith, starts_apart low high order),
        omega (arith, place_within high within),
        rw (first, last) (run_between low high order within),
      )

-- ---- the line of a domain, run by run

-- a residue that passes goes on with the run
pub run_goes_on : (before text : List ℕ) (e first r : ℕ) (test : ℕ → Bool) → first ≤ r
    → text ++ spaced (range_with_len first (r - first)) ≡ before ++ domain_line e (filter test (range_with_len 0 r)) → test r ≡ true
    → text ++ spaced (range_with_len first (r + 1 - first)) ≡ before ++ domain_line e (filter test (range_with_len 0 (r + 1)))
run_goes_on before text e first r test order at passes =
    let run = spaced (range_with_len first (r - first)) in
    row_more before (text ++ run) (text ++ spaced (range_with_len first (r + 1 - first))) e r test at passes
    (ap (λ t. text ++ t) (run_more first (r - first) r (r + 1 - first) (omega arith) (omega arith)) ∙ sym (append_assoc text run (32 ∷ decimal r)))

-- where one does not, the run is put, and the next is empty
pub run_ends : (before text next : List ℕ) (e first r : ℕ) (test : ℕ → Bool)
    → text ++ spaced (range_with_len first (r - first)) ≡ before ++ domain_line e (filter test (range_with_len 0 r)) → test r ≡ false
    → next ≡ text ++ spaced (range_with_len first (r - first))
    → next ++ spaced (range_with_len (r + 1) (r + 1 - (r + 1))) ≡ before ++ domain_line e (filter test (range_with_len 0 (r + 1)))
run_ends before text next e first r test at fails is =
    let none : r + 1 - (r + 1) ≡ 0 = omega arith in
    ap (λ n. next ++ spaced (range_with_len (r + 1) n)) none ∙ append-nil next ∙ row_same before (text ++ spaced (range_with_len first (r - first))) next e r test at fails is

-- at the last residue the last run ends the line
pub line_ends : (before text next : List ℕ) (e first r period : ℕ) (row : List Bool) → r ≡ period → length row ≡ period
    → text ++ spaced (range_with_len first (r - first)) ≡ before ++ domain_line e (filter (holds row) (range_with_len 0 r))
    → next ≡ text ++ spaced (range_with_len first (period - first)) → next ++ 10 ∷ [] ≡ before ++ domain_text e (residues row)
line_ends before text next e first r period row ends long at is =
    ap (λ t. t ++ 10 ∷ [])
    (is ∙ ap (λ n. text ++ spaced (range_with_len first (n - first))) (sym ends) ∙ at
    ∙ ap (λ n. before ++ domain_line e (filter (holds row) (range_with_len 0 n))) (ends ∙ sym long))
    ∙ append_assoc before (domain_line e (residues row)) (10 ∷ [])
