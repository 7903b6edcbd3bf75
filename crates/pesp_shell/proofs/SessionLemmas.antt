-- What stands between two lines of a run, and how each of its ends follows.
use Rattle.std.proofs.Common.{◌≡◌, ℕ, ◌+◌, ◌-◌, ◌<◌, ◌≤◌, Bool, false, List, [], ◌∷◌, ◌++◌, All, length, take, drop, slice_get, Option, Some, Result, Ok, Err, OnOk, IsTrue, inl, inr, refl, sym, ap, subst, ◌∙◌, arith, append_assoc, append-nil, length-append, take-append-drop}
use Rattle.std.specs.Prelude.{IsSomeAnd}
use Rattle.std.proofs.lemmas.Bool.{false≢true}
use Rattle.std.proofs.lemmas.List.{take_at, get_or_at}
use Rattle.std.proofs.lemmas.List.Elements.{All-append, All-cons, All-head, All-nil}
use Rattle.std.proofs.lemmas.Option.{slice_get-get_or}
use Rattle.std.specs.Io.KnownBytes.{Appends, Consumes, IsAtEnd, Keeps}
use Rattle.std.proofs.KnownBytes.{Appends-kept, Appends-nil, Appends-trans, Consumes-nil, Consumes-trans}
use Rattle.pesp_base.specs.Texts.{as_lines}
use Rattle.pesp_shell_io.specs.Lines.{IsUncut, is_line_feed, lines_of, longest_line, most_lines}
use Rattle.pesp_shell_io.specs.Fronts.{IsFront, IsUnended}
use Rattle.pesp_shell_io.specs.declared.line_reader.Front.TheVariants as fronts
use Rattle.pesp_shell_io.proofs.CutLemmas.{AreLines}
use Rattle.pesp_shell_io.proofs.LineLemmas.{ended_lines-before, lines_of-after, lines_of-front, lines_of-last, some_line}
use Rattle.pesp_shell_replies.specs.Legal.{Work}
use Rattle.pesp_shell_replies.specs.Transcripts.{Leads}
use Rattle.pesp_shell.specs.declared.run_fault.RunFault.{RunFault}
use Rattle.pesp_shell.specs.declared.run_fault.RunFault.TheVariants as fault
use Rattle.pesp_shell.specs.Opening.{Files, IsOpenFault}
use Rattle.pesp_shell.specs.Runs.{Answers, IsRun, IsServed, Marks, MayWant, NoneFailed}
use Rattle.pesp_shell.specs.Sessions.{MayAnswer, MayEndAfter}

abbrev IsShort : List ℕ → Type 0
IsShort line = length line ≤ longest_line

-- so many lines are read and answered, which led the first work to this one, and these bytes are held after them
pub record Progress (first now : Work) (left left' written written' : Option (List ℕ)) (held : List ℕ) (done : ℕ) : Type 0 where
  pub lines : List (List ℕ)
  pub output : List ℕ
  pub consumed : Consumes left left' (as_lines lines ++ held)
  pub appended : Appends written written' output
  pub whole : AreLines lines
  pub short : All (λ line. length line ≤ longest_line) lines
  pub count : length lines ≡ done
  pub leads : Leads first lines output now

-- ---- lists

as_lines-more : (lines : List (List ℕ)) (line : List ℕ) → as_lines (lines ++ line ∷ []) ≡ as_lines lines ++ (line ++ 10 ∷ [])
as_lines-more [] line = append-nil (line ++ 10 ∷ [])
as_lines-more (l ∷ lines) line =
    ap (λ bytes. (l ++ 10 ∷ []) ++ bytes) (as_lines-more lines line) ∙ sym (append_assoc (l ++ 10 ∷ []) (as_lines lines) (line ++ 10 ∷ []))

are_more : (lines : List (List ℕ)) (line : List ℕ) → AreLines lines → IsUncut is_line_feed line → AreLines (lines ++ line ∷ [])
are_more [] line are whole = (whole, tt)
are_more (l ∷ lines) line are whole = (are.0, are_more lines line are.1 whole)

-- lines and what is after them, where a line more is taken
moved : (lines : List (List ℕ)) (line rest held : List ℕ) → held ≡ line ++ 10 ∷ rest → as_lines lines ++ held ≡ as_lines (lines ++ line ∷ []) ++ rest
moved lines line rest held e =
    ap (λ bytes. as_lines lines ++ bytes) (e ∙ sym (append_assoc line (10 ∷ []) rest))
    ∙ sym (append_assoc (as_lines lines) (line ++ 10 ∷ []) rest)
    ∙ ap (λ bytes. bytes ++ rest) (sym (as_lines-more lines line))

-- a line that may go on is one line at most, and no long one
one_line : (held : List ℕ) → IsUnended held → (length (lines_of held) ≤ 1) × All IsShort (lines_of held)
one_line [] unended = (omega arith, All-nil IsShort)
one_line (b ∷ bytes) unended =
    subst (λ lines. (length lines ≤ 1) × All IsShort lines) (sym (lines_of-last (b ∷ bytes) unended.0 (omega arith)))
    (omega arith, All-cons IsShort (b ∷ bytes) [] unended.1 (All-nil IsShort))

-- ---- transcripts

pub leads_on : (first mid last : Work) (lines more : List (List ℕ)) (output rest : List ℕ)
    → Leads first lines output mid → Leads mid more rest last → Leads first (lines ++ more) (output ++ rest) last
leads_on first mid last [] more output rest (none, same) leads =
    subst (λ w. Leads w more (output ++ rest) last) same (subst (λ o. Leads mid more (o ++ rest) last) (sym none) leads)
leads_on first mid last (line ∷ lines) more output rest (reply, next, tail, legal, leads, whole) later =
    (reply, next, tail ++ rest, legal, leads_on next mid last lines more tail rest leads later, ap (λ o. o ++ rest) whole ∙ append_assoc reply tail rest)

stands : (first last : Work) (lines : List (List ℕ)) (output : List ℕ)
    → length lines ≤ most_lines → All IsShort lines → Leads first lines output last → Answers first lines output
stands first last lines output few short leads = record { few = few; short = short; transcript = (last, leads) }

-- ---- before the first line

-- memory is wanted before the first line
pub not_begun : (first : Work) (left written : Option (List ℕ)) (m : Marks) → NoneFailed m → IsServed first left left written written m (Err (fault.Memory 0))
not_begun first left written m off = record {
  read = [];
  output = [];
  consumed = Consumes-nil left;
  appended = Appends-nil written;
  all = λ ok. absurd (false≢true ok);
  ending = (off, omega arith, (λ some. absurd (omega (arith, some))), stands first first [] [] (omega arith) (All-nil IsShort) (refl, refl));
}

-- the files open no work
pub not_opened : (f : Files) (left written : Option (List ℕ)) (m : Marks) (ended : RunFault)
    → NoneFailed m → IsOpenFault f ended → IsRun f left left written written m (Err ended)
not_opened f left written m (fault.File source found) off first = inr (off, Consumes-nil left, Appends-nil written, source, found, first, refl)
not_opened f left written m (fault.Memory line) off (w, opening, first) =
    subst (λ (n : ℕ). IsRun f left left written written m (Err (fault.Memory n))) (sym first) (inl (w, opening, not_begun w left written m off))
not_opened f left written m fault.Read off none = absurd none
not_opened f left written m fault.Write off none = absurd none
not_opened f left written m (fault.LineTooLong line) off none = absurd none
not_opened f left written m fault.TooManyLines off none = absurd none

-- ---- from line to line

pub begun : (first : Work) (left written : Option (List ℕ)) → Progress first first left left written written [] 0
begun first left written = record {
  lines = [];
  output = [];
  consumed = Consumes-nil left;
  appended = Appends-nil written;
  whole = tt;
  short = All-nil IsShort;
  count = refl;
  leads = (refl, refl);
}

module _ (first now : Work) (left left' written written' : Option (List ℕ)) (held : List ℕ) (done : ℕ) where
  -- more bytes are taken
  pub looked : (left'' : Option (List ℕ)) (bytes held' : List ℕ) → Progress first now left left' written written' held done
      → Consumes left' left'' bytes → held' ≡ held ++ bytes → Progress first now left left'' written written' held' done
  looked left'' bytes held' p taken e = record {
    lines = p.lines;
    output = p.output;
    consumed = subst (Consumes left left'') (append_assoc (as_lines p.lines) held bytes ∙ ap (λ later. as_lines p.lines ++ later) (sym e)) (Consumes-trans left left' left'' (as_lines p.lines ++ held) bytes p.consumed taken);
    appended = p.appended;
    whole = p.whole;
    short = p.short;
    count = p.count;
    leads = p.leads;
  }

  -- a line is answered, and let go
  pub answered : (next : Work) (written'' : Option (List ℕ)) (line rest : List ℕ) (number : ℕ) (mark : Bool) → Progress first now left left' written written' held done
      → held ≡ line ++ 10 ∷ rest → IsUncut is_line_feed line → length line ≤ longest_line
      → MayAnswer now (line ∷ []) number next written' written'' mark (Ok tt) → Progress first next left left' written written'' rest (done + 1)
  answered next written'' line rest number mark p e whole short (off, replies, leads, appended) = record {
    lines = p.lines ++ line ∷ [];
    output = p.output ++ replies;
    consumed = subst (Consumes left left') (moved p.lines line rest held e) p.consumed;
    appended = Appends-trans written written' written'' p.output replies p.appended appended;
    whole = are_more p.lines line p.whole whole;
    short = All-append IsShort p.lines (line ∷ []) p.short (All-cons IsShort line [] short (All-nil IsShort));
    count = omega (arith, length-append p.lines (line ∷ []), p.count);
    leads = leads_on first now next p.lines (line ∷ []) p.output replies p.leads leads;
  }

  -- the lines of all that was read
  all_lines : (some more : List (List ℕ)) (p : Progress first now left left' written written' held done) → lines_of held ≡ some ++ more
      → lines_of (as_lines p.lines ++ held) ≡ p.lines ++ (some ++ more)
  all_lines some more p e = lines_of-after p.lines held p.whole ∙ ap (λ ls. p.lines ++ ls) e

  -- ---- ends

  module _ (m : Marks) (p : Progress first now left left' written written' held done) where
    abbrev read : List ℕ
    read = as_lines p.lines ++ held

    -- every line so far is answered, and what is written after their replies is nothing
    kept : (written'' : Option (List ℕ)) → Keeps written' written'' → Appends written written'' p.output
    kept written'' keeps = Appends-kept written written' written'' p.output p.appended keeps

    so_far : done ≤ most_lines → Answers first p.lines p.output
    so_far few = stands first now p.lines p.output (omega (arith, few, p.count)) p.short p.leads

    first_lines : (n : ℕ) (ls : List (List ℕ)) → n ≡ done → lines_of read ≡ p.lines ++ ls → done ≤ most_lines → Answers first (take n (lines_of read)) p.output
    first_lines n ls same e few =
        subst (λ lines. Answers first lines p.output) (sym (ap (take n) e ∙ take_at p.lines ls n (omega (arith, same, p.count)))) (so_far few)

    -- a read failed
    pub unread : done ≤ most_lines → IsUncut is_line_feed held → IsTrue m.not_read → m.not_written ≡ false → IsServed first left left' written written' m (Err fault.Read)
    unread few uncut failed off = record {
      read = read;
      output = p.output;
      consumed = p.consumed;
      appended = p.appended;
      all = λ ok. absurd (false≢true ok);
      ending = (failed, off, subst (λ lines. Answers first lines p.output) (sym (ended_lines-before p.lines held p.whole uncut)) (so_far few));
    }

    -- the next line is too long
    pub too_long : done + 1 ≤ most_lines → IsFront held fronts.TooLong → NoneFailed m → IsServed first left left' written written' m (Err (fault.LineTooLong (done + 1)))
    too_long few (line, rest, e, uncut, long) off =
        let (more, lines, front) = lines_of-front line rest uncut (omega (arith, long)) in
        let all : lines_of read ≡ p.lines ++ ((line ++ more) ∷ lines) = lines_of-after p.lines held p.whole ∙ ap (λ bytes. p.lines ++ lines_of bytes) e ∙ ap (λ ls. p.lines ++ ls) front in
        let there : done + 1 - 1 < length (p.lines ++ ((line ++ more) ∷ lines)) = omega (arith, length-append p.lines ((line ++ more) ∷ lines), p.count) in
        let it : slice_get (lines_of read) (done + 1 - 1) ≡ Some (line ++ more) =
        ap (λ ls. slice_get ls (done + 1 - 1)) all ∙ slice_get-get_or (p.lines ++ ((line ++ more) ∷ lines)) (done + 1 - 1) [] there
        ∙ ap Some (get_or_at p.lines (line ++ more) lines [] (done + 1 - 1) (omega (arith, p.count))) in
        record {
          read = read;
          output = p.output;
          consumed = p.consumed;
          appended = p.appended;
          all = λ ok. absurd (false≢true ok);
          ending = (
            off,
            omega arith,
            few,
            subst (λ o. IsSomeAnd o (λ l. longest_line < length l)) (sym it) (omega (arith, length-append line more, long)),
            first_lines (done + 1 - 1) ((line ++ more) ∷ lines) (omega arith) all (omega (arith, few)),
          );
        }

    -- the next line, if there is one, is not answered
    pub faulted : (next : Work) (written'' : Option (List ℕ)) (some more : List (List ℕ)) (fault : RunFault)
        → done + 1 ≤ most_lines → lines_of held ≡ some ++ more → length some ≤ 1 → All IsShort some → m.not_read ≡ false
        → MayAnswer now some (done + 1) next written' written'' m.not_written (Err fault) → IsServed first left left' written written'' m (Err fault)
    faulted next written'' some more (fault.Memory line) few e one short reader (writer, same, asking, is, asks, keeps) =
        let all : lines_of read ≡ p.lines ++ (asking ∷ more) = all_lines some more p e ∙ ap (λ ls. p.lines ++ (ls ++ more)) is in
        let there : line - 1 < length (p.lines ++ (asking ∷ more)) = omega (arith, length-append p.lines (asking ∷ more), p.count, same) in
        let it : slice_get (lines_of read) (line - 1) ≡ Some asking =
        ap (λ ls. slice_get ls (line - 1)) all ∙ slice_get-get_or (p.lines ++ (asking ∷ more)) (line - 1) [] there
        ∙ ap Some (get_or_at p.lines asking more [] (line - 1) (omega (arith, p.count, same))) in
        record {
          read = read;
          output = p.output;
          consumed = p.consumed;
          appended = kept written'' keeps;
          all = λ ok. absurd (false≢true ok);
          ending = (
            (reader, writer),
            omega (arith, same, few),
            (λ some_line. subst (λ o. IsSomeAnd o MayWant) (sym it) (All-head IsShort asking [] (subst (All IsShort) is short), asks)),
            first_lines (line - 1) (asking ∷ more) (omega (arith, same)) all (omega (arith, few)),
          );
        }
    faulted next written'' some more fault.Write few e one short reader (failed, last, replies, n, leads, appended) =
        let all : lines_of read ≡ (p.lines ++ some) ++ more = all_lines some more p e ∙ sym (append_assoc p.lines some more) in
        let whole : (p.output ++ take n replies) ++ drop n replies ≡ p.output ++ replies = append_assoc p.output (take n replies) (drop n replies) ∙ ap (λ o. p.output ++ o) (take-append-drop n replies) in
        record {
          read = read;
          output = p.output ++ take n replies;
          consumed = p.consumed;
          appended = Appends-trans written written' written'' p.output (take n replies) p.appended appended;
          all = λ ok. absurd (false≢true ok);
          ending = (
            failed,
            reader,
            length (p.lines ++ some),
            drop n replies,
            subst (λ lines. Answers first lines ((p.output ++ take n replies) ++ drop n replies)) (sym (ap (take (length (p.lines ++ some))) all ∙ take_at (p.lines ++ some) more (length (p.lines ++ some)) refl))
                (subst (Answers first (p.lines ++ some)) (sym whole)
                (stands first last (p.lines ++ some) (p.output ++ replies) (omega (arith, length-append p.lines some, p.count, one, few)) (All-append IsShort p.lines some p.short short)
                (leads_on first now last p.lines some p.output replies p.leads leads))),
          );
        }
    faulted next written'' some more (fault.File source found) few e one short reader none = absurd none
    faulted next written'' some more fault.Read few e one short reader none = absurd none
    faulted next written'' some more (fault.LineTooLong line) few e one short reader none = absurd none
    faulted next written'' some more fault.TooManyLines few e one short reader none = absurd none

    -- the last line is answered, if there is one, or not
    pub finished : (next : Work) (written'' : Option (List ℕ)) (ended : Result (Unit {0}) RunFault)
        → done + 1 ≤ most_lines → IsUnended held → IsTrue m.at_end → IsAtEnd left' → m.not_read ≡ false
        → MayAnswer now (lines_of held) (done + 1) next written' written'' m.not_written ended → OnOk ended (IsTrue m.passed_on)
        → IsServed first left left' written written'' m ended
    finished next written'' (Ok done_) few unended at_end none reader (writer, replies, leads, appended) passed =
        let one = one_line held unended in
        let all : lines_of read ≡ p.lines ++ lines_of held = lines_of-after p.lines held p.whole in
        record {
          read = read;
          output = p.output ++ replies;
          consumed = p.consumed;
          appended = Appends-trans written written' written'' p.output replies p.appended appended;
          all = λ ok. none;
          ending = (
            (reader, writer),
            at_end,
            passed,
            subst (λ lines. Answers first lines (p.output ++ replies)) (sym all)
                (stands first next (p.lines ++ lines_of held) (p.output ++ replies) (omega (arith, length-append p.lines (lines_of held), p.count, one.0, few)) (All-append IsShort p.lines (lines_of held) p.short one.1)
                (leads_on first now next p.lines (lines_of held) p.output replies p.leads leads)),
          );
        }
    finished next written'' (Err fault) few unended at_end none reader may passed =
        let one = one_line held unended in
        faulted next written'' (lines_of held) [] fault few (sym (append-nil (lines_of held))) one.0 one.1 reader may

    -- after the greatest number of lines
    pub ended : (written'' : Option (List ℕ)) (end : Result (Unit {0}) RunFault)
        → done ≡ most_lines → Keeps written' written'' → MayEndAfter held left' m end → IsServed first left left' written written'' m end
    ended written'' (Ok done_) full keeps (off, none, at_end, empty, passed) = record {
      read = read;
      output = p.output;
      consumed = p.consumed;
      appended = kept written'' keeps;
      all = λ ok. empty;
      ending = (
        off,
        at_end,
        passed,
        subst (λ lines. Answers first lines p.output) (sym (all_lines [] [] p (ap lines_of none) ∙ append-nil p.lines)) (so_far (omega (arith, full))),
      );
    }
    ended written'' (Err fault.Read) full keeps (off, none, failed) = record {
      read = read;
      output = p.output;
      consumed = p.consumed;
      appended = kept written'' keeps;
      all = λ ok. absurd (false≢true ok);
      ending = (
        failed,
        off,
        subst (λ lines. Answers first lines p.output) (sym (ended_lines-before p.lines held p.whole (subst (IsUncut is_line_feed) (sym none) tt))) (so_far (omega (arith, full))),
      );
    }
    ended written'' (Err fault.Write) full keeps (off, none, failed) = record {
      read = read;
      output = p.output;
      consumed = p.consumed;
      appended = kept written'' keeps;
      all = λ ok. absurd (false≢true ok);
      ending = (
        failed,
        off,
        done,
        [],
        subst (Answers first (take done (lines_of read))) (sym (append-nil p.output)) (first_lines done (lines_of held) refl (lines_of-after p.lines held p.whole) (omega (arith, full))),
      );
    }
    ended written'' (Err fault.TooManyLines) full keeps (off, some) = record {
      read = read;
      output = p.output;
      consumed = p.consumed;
      appended = kept written'' keeps;
      all = λ ok. absurd (false≢true ok);
      ending = (
        off,
        omega (arith, ap length (lines_of-after p.lines held p.whole), length-append p.lines (lines_of held), p.count, some_line held some, full),
        first_lines most_lines (lines_of held) (sym full) (lines_of-after p.lines held p.whole) (omega (arith, full)),
      );
    }
    ended written'' (Err (fault.File source found)) full keeps none = absurd none
    ended written'' (Err (fault.Memory line)) full keeps none = absurd none
    ended written'' (Err (fault.LineTooLong line)) full keeps none = absurd none
