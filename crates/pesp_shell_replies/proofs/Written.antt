-- What one line more, and one word more, adds to a text.
use Rattle.std.proofs.Common.{◌≡◌, ℕ, ◌+◌, ◌<◌, List, [], ◌∷◌, ◌++◌, length, get_or, take, map, sym, ap, ◌∙◌, append_assoc, codes, decimal, filter, Bool, true, false, cond}
use Rattle.std.specs.List.{range_with_len}
use Rattle.std.proofs.lemmas.Grind.{flat_map-append}
use Rattle.std.proofs.lemmas.List.{take_more, map-append, append-nil}
use Rattle.pesp_base.specs.Texts.{as_lines, separated, words_line}
use Rattle.pesp_shell_replies.specs.Replies.{domain_line}
use Rattle.pesp_base.proofs.Ranges.{filter_more}

one_line_more : {X : Type 0} (line : X → List ℕ) (xs : List X) (i : ℕ) (x : X) → i < length xs → x ≡ get_or xs i x
    → as_lines (map line (take (i + 1) xs)) ≡ as_lines (map line (take i xs)) ++ (line x ++ 10 ∷ [])
one_line_more line xs i x h e =
    ap (λ ys. as_lines (map line ys)) (take_more xs i x h ∙ ap (λ y. take i xs ++ y ∷ []) (sym e))
    ∙ ap as_lines (map-append line (take i xs) (x ∷ [])) ∙ flat_map-append (λ l. l ++ 10 ∷ []) (map line (take i xs)) (line x ∷ [])
    ∙ ap (λ r. as_lines (map line (take i xs)) ++ r) (append-nil (line x ++ 10 ∷ []))

-- after a text and a header, the lines of the first members and the line of one more are those of one more
pub lines_more : {X : Type 0} (text header : List ℕ) (line : X → List ℕ) (xs : List X) (i : ℕ) (x : X) → i < length xs → x ≡ get_or xs i x
    → (text ++ (header ++ as_lines (map line (take i xs)))) ++ (line x ++ 10 ∷ []) ≡ text ++ (header ++ as_lines (map line (take (i + 1) xs)))
lines_more text header line xs i x h e =
    append_assoc text (header ++ as_lines (map line (take i xs))) (line x ++ 10 ∷ [])
    ∙ ap (λ r. text ++ r) (append_assoc header (as_lines (map line (take i xs))) (line x ++ 10 ∷ []) ∙ ap (λ r. header ++ r) (sym (one_line_more line xs i x h e)))

piece_more : (between p : List ℕ) (ps : List (List ℕ)) (q : List ℕ)
    → separated between (p ∷ (ps ++ q ∷ [])) ≡ separated between (p ∷ ps) ++ (between ++ q)
piece_more between p [] q = append_assoc p between q
piece_more between p (x ∷ xs) q =
    ap (λ r. (p ++ between) ++ r) (piece_more between x xs q) ∙ sym (append_assoc (p ++ between) (separated between (x ∷ xs)) (between ++ q))

-- one residue more in the line of a domain
residue_more : (e : ℕ) (residues : List ℕ) (r : ℕ) → domain_line e (residues ++ r ∷ []) ≡ domain_line e residues ++ (32 ∷ decimal r)
residue_more e residues r =
    ap (λ ws. words_line ((decimal e ++ codes ":") ∷ ws)) (map-append decimal residues (r ∷ []))
    ∙ piece_more (32 ∷ []) (decimal e ++ codes ":") (map decimal residues) (decimal r)

-- the line of a domain whose residues are those that pass a test
pub row_more : (before text next : List ℕ) (e r : ℕ) (test : ℕ → Bool) → text ≡ before ++ domain_line e (filter test (range_with_len 0 r)) → test r ≡ true
    → next ≡ text ++ (32 ∷ decimal r) → next ≡ before ++ domain_line e (filter test (range_with_len 0 (r + 1)))
row_more before text next e r test at passes is =
    is ∙ ap (λ t. t ++ (32 ∷ decimal r)) at ∙ append_assoc before (domain_line e (filter test (range_with_len 0 r))) (32 ∷ decimal r)
    ∙ ap (λ t. before ++ t) (sym (ap (λ rs. domain_line e rs) (filter_more test r ∙ ap (λ b. filter test (range_with_len 0 r) ++ cond b (r ∷ []) []) passes) ∙ residue_more e (filter test (range_with_len 0 r)) r))

pub row_same : (before text next : List ℕ) (e r : ℕ) (test : ℕ → Bool) → text ≡ before ++ domain_line e (filter test (range_with_len 0 r)) → test r ≡ false
    → next ≡ text → next ≡ before ++ domain_line e (filter test (range_with_len 0 (r + 1)))
row_same before text next e r test at fails is =
    is ∙ at ∙ ap (λ rs. before ++ domain_line e rs) (sym (filter_more test r ∙ ap (λ b. filter test (range_with_len 0 r) ++ cond b (r ∷ []) []) fails ∙ append-nil (filter test (range_with_len 0 r))))
