-- Lines that are taken one after another.
use Rattle.std.proofs.Common.{◌≡◌, ℕ, zero, suc, ◌+◌, ◌-◌, ◌<◌, ◌≤◌, IsTrue, List, [], ◌∷◌, length, drop, get_or, Result, Ok, Err, IfErr, inl, inr, refl, sym, ap, subst, ◌∙◌, add-one, arith}
use Rattle.pesp_base.specs.declared.refusal.Refusal.TheVariants as no
use Rattle.pesp_instance.specs.Network.{Network, IsNetwork}
use Rattle.pesplib_writer.specs.Script.{script}
use Rattle.pesp_shell_commands.specs.declared.replaying.ReplayFault.{ReplayFault}
use Rattle.pesp_shell_commands.specs.declared.replaying.ReplayKind.{ReplayKind}
use Rattle.pesp_shell_commands.specs.declared.replaying.ReplayKind.TheVariants as kind
use Rattle.pesp_shell_commands.specs.LineFaults.{IsLineFault}
use Rattle.pesp_shell_io.specs.Lines.{lines_of}
use Rattle.pesp_shell_commands.specs.Replayed.{IsReplayFault, after_line, line_at, may_grow, on_line, replayed, replayed_from}
use Rattle.pesp_shell_commands.specs.Parsed.{parsed}
use Rattle.pesp_shell_commands.proofs.ScriptLaws.{script_gives_back}

-- no line up to this one is faulty
abbrev After : ℕ → Result Network ReplayFault → Type 0
After n stands = IfErr stands (λ first. n < first.line)

-- the faulty one of lines is none before the first of them
faulty_after : (m n : ℕ) (I : Network) (lines : List (List ℕ)) → m < n → After m (replayed_from n I lines)
faulty_after m n I [] lt = tt
faulty_after m n I (line ∷ lines) lt =
    elim (after_line n I line) as (λ o. After m (on_line n (λ J. replayed_from (n + 1) J lines) o)) [
      | Ok J ↦ faulty_after m (n + 1) J lines (omega (arith, lt))
      | Err kind ↦ lt
    ]

-- a line with so many before it, and the lines after it
record IsNext (n : ℕ) (lines : List (List ℕ)) (line : List ℕ) (after : List (List ℕ)) : Type 0 where
  here : get_or lines n [] ≡ line
  rest : drop (suc n) lines ≡ after
  below : n < length lines

next_line : (n : ℕ) (lines : List (List ℕ)) (line : List ℕ) (after : List (List ℕ)) → drop n lines ≡ line ∷ after → IsNext n lines line after
next_line zero [] line after e = absurd (cc)
next_line zero (l ∷ lines) line after e = record { here = cc; rest = cc; below = omega arith }
next_line (suc n) [] line after e = absurd (cc)
next_line (suc n) (l ∷ lines) line after e =
    let later = next_line n lines line after e in
    record { here = later.here; rest = later.rest; below = omega (arith, later.below) }

module _ (period : ℕ) (bytes : List ℕ) where
  -- so many lines before those that are left make the instance
  pub record IsReplayedTo (number : ℕ) (I : Network) (rest : List ℕ) : Type 0 where
    pub stands : replayed_from (number + 1) I (lines_of rest) ≡ replayed period bytes
    pub left : drop number (lines_of bytes) ≡ lines_of rest
    pub room : number + length rest ≤ length bytes

  -- after the last line
  pub ended : (number : ℕ) (I : Network) (rest : List ℕ) → IsReplayedTo number I rest → rest ≡ [] → replayed period bytes ≡ Ok I
  ended number I rest h none = sym h.stands ∙ ap (λ r. replayed_from (number + 1) I (lines_of r)) none

  module _ (number : ℕ) (I : Network) (rest line after : List ℕ) (h : IsReplayedTo number I rest) (cut : lines_of rest ≡ line ∷ lines_of after) where
    line_stands : on_line (number + 1) (λ J. replayed_from (number + 1 + 1) J (lines_of after)) (after_line (number + 1) I line) ≡ replayed period bytes
    line_stands = sym (ap (replayed_from (number + 1) I) cut) ∙ h.stands

    next : IsNext number (lines_of bytes) line (lines_of after)
    next = next_line number (lines_of bytes) line (lines_of after) (h.left ∙ cut)

    -- a line that is taken
    pub taken : (J : Network) → after_line (number + 1) I line ≡ Ok J → length after < length rest → IsReplayedTo (number + 1) J after
    taken J e shorter = record {
      stands = sym (ap (on_line (number + 1) (λ K. replayed_from (number + 1 + 1) K (lines_of after))) e) ∙ line_stands;
      left = ap (λ n. drop n (lines_of bytes)) (add-one number) ∙ next.rest;
      room = omega (arith, shorter, h.room);
    }

    this_line : line_at (lines_of bytes) (number + 1) ≡ line
    this_line = let place : number + 1 - 1 ≡ number = omega arith in ap (λ n. get_or (lines_of bytes) n []) place ∙ next.here

    stops : (found : ReplayKind) (o : Result Network ReplayKind) → after_line (number + 1) I line ≡ o → IsLineFault o (may_grow (parsed line)) found
        → IsReplayFault bytes (replayed period bytes) (record { line = number + 1; kind = found })
    stops found (Err first) e same =
        inl (sym line_stands ∙ ap (on_line (number + 1) (λ J. replayed_from (number + 1 + 1) J (lines_of after))) e ∙ ap (λ k. Err (record { line = number + 1; kind = k })) (sym same))
    stops found (Ok J) e (same, grows) = inr (record {
      kind = same;
      from_one = omega arith;
      in_script = omega (arith, next.below);
      grows = subst (λ l. IsTrue (may_grow (parsed l))) (sym this_line) grows;
      none_faulty = subst (After (number + 1)) (sym (ap (on_line (number + 1) (λ K. replayed_from (number + 1 + 1) K (lines_of after))) e) ∙ line_stands) (faulty_after (number + 1) (number + 1 + 1) J (lines_of after) (omega arith));
    })

    -- a line that cannot be taken
    pub stopped_at : (found : ReplayKind) → IsLineFault (after_line (number + 1) I line) (may_grow (parsed line)) found → IsReplayFault bytes (replayed period bytes) (record { line = number + 1; kind = found })
    stopped_at found fault = stops found (after_line (number + 1) I line) refl fault

-- where the bytes are the script of an instance
module _ (period : ℕ) (bytes : List ℕ) (I : Network) (network : IsNetwork I) (same_period : I.period ≡ period) (same : bytes ≡ script I) where
  builds : replayed period bytes ≡ Ok I
  builds = ap (λ p. replayed p bytes) (sym same_period) ∙ ap (replayed I.period) same ∙ script_gives_back I network

  -- an instance that is answered is that one
  pub given_back : (J : Network) → replayed period bytes ≡ Ok J → J ≡ I
  given_back J stands = let both : Ok J ≡ Ok I = sym stands ∙ builds in cc

  -- a fault that is answered is want of memory
  pub only_memory : (found : ReplayFault) → IsReplayFault bytes (replayed period bytes) found → found.kind ≡ kind.Refused no.Memory
  only_memory found (inl stands) = absurd (let both : Err found ≡ Ok I = sym stands ∙ builds in cc)
  only_memory found (inr memory) = memory.kind
