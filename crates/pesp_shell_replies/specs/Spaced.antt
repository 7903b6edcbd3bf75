-- Residues each after a space, a table of them, and the lines that are put from it.
use Rattle.std.specs.Prelude.{◌≡◌, ℕ, ◌+◌, List, ◌∷◌, ◌++◌, map, length, decimal}
use Rattle.std.specs.List.{AllZip, flat_map, range_with_len, zip}
use Rattle.pesp_base.specs.Texts.{as_lines}
use Rattle.pesp_instance.specs.Network.{Network}
use Rattle.pesp_shell_replies.specs.Legal.{AreResidues}
use Rattle.pesp_shell_replies.specs.Replies.{domain_line}

-- residues, each after a space
abbrev pub spaced : List ℕ → List ℕ
spaced residues = flat_map (λ r. 32 ∷ decimal r) residues

-- where a residue begins, after all below it
abbrev pub start_of : ℕ → ℕ
start_of r = length (spaced (range_with_len 0 r))

-- the bytes are the residues below the period, and the places are where each begins and where the last ends
pub record IsTable (period : ℕ) (bytes places : List ℕ) : Type 0 where
  pub text : bytes ≡ spaced (range_with_len 0 period)
  pub starts : places ≡ map start_of (range_with_len 0 (period + 1))

-- a text goes on with a line for each of the events, which tells its domain
pub record AddsLines (I : Network) (events : List ℕ) (before after : List ℕ) : Type 0 where
  pub rows : List (List ℕ)
  pub are : AllZip (AreResidues I) events rows
  pub lines : after ≡ before ++ as_lines (map (λ x. domain_line x.0 x.1) (zip events rows))
