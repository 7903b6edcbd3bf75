-- Transcripts: one line more, where they are cut, and which instance they leave.
use Rattle.std.proofs.Common.{◌≡◌, ℕ, zero, suc, Bool, true, false, List, [], ◌∷◌, ◌++◌, take, drop, Option, Some, None, Result, Ok, Err, refl, sym, ap, ◌∙◌, append_assoc, append-nil, subst, inl, inr}
use Rattle.std.specs.Prelude.{is_none, nat_le, MatchBool}
use Rattle.std.specs.List.{cons_option}
use Rattle.std.specs.Result.{result_unwrap_or}
use Rattle.pesp_base.specs.declared.refusal.Refusal.{Refusal}
use Rattle.pesp_base.specs.declared.refusal.Refusal.TheVariants as no
use Rattle.pesp_base.specs.Refusals.{unless_refused, when}
use Rattle.pesp_instance.specs.declared.edit.Edit.{Edit}
use Rattle.pesp_instance.specs.Edited.{after, edited, effect, no_event, refusals}
use Rattle.pesp_tension.specs.Timetables.{time_of, with_time, without_time}
use Rattle.pesp_bench.specs.State.{times_after}
use Rattle.pesp_instance.specs.Network.{Network, has_event}
use Rattle.pesp_search.specs.declared.answer.Answer.{Answer}
use Rattle.pesp_search.specs.declared.answer.Answer.TheVariants.{Optimal, Infeasible}
use Rattle.pesp_shell_commands.specs.declared.command.Command.{Command}
use Rattle.pesp_shell_commands.specs.declared.command.Command.TheVariants as command
use Rattle.pesp_shell_commands.specs.declared.parsing.ParseFault.{ParseFault}
use Rattle.pesp_shell_commands.specs.Parsed.{parsed}
use Rattle.pesp_shell_replies.specs.Legal.{AreResidues, Changes, Legal, LegalCommand, LegalSaid, Tells, Work, adopted_work, edited_work, timed_work, untimed_work}
use Rattle.pesp_shell_replies.specs.Replies.{domain_text, refusal_text}
use Rattle.pesp_shell_replies.specs.Transcripts.{AreAfresh, Leads, edit_in, edit_said, edits_in}

-- one line more, whose reply is legal in the last work
pub leads_more : (first last next : Work) (lines : List (List ℕ)) (line output reply : List ℕ)
    → Leads first lines output last → Legal last line reply next → Leads first (lines ++ line ∷ []) (output ++ reply) next
leads_more first last next [] line output reply (none, same) legal =
    (reply, next, [], (rw same at legal), (refl, refl), ap (λ o. o ++ reply) none ∙ sym (append-nil reply))
leads_more first last next (l ∷ lines) line output reply (r, mid, rest, legal_first, leads, whole) legal =
    (r, mid, rest ++ reply, legal_first, leads_more mid last next lines line rest reply leads legal, ap (λ o. o ++ reply) whole ∙ append_assoc r rest reply)

-- the work and the output after the first n lines
leads_cut : (first last : Work) (lines : List (List ℕ)) (output : List ℕ) (n : ℕ) → Leads first lines output last
    → (mid : Work) × (told : List ℕ) × (rest : List ℕ) × Leads first (take n lines) told mid × Leads mid (drop n lines) rest last × (output ≡ told ++ rest)
leads_cut first last lines output zero leads = (first, [], output, (refl, refl), leads, refl)
leads_cut first last [] output (suc n) leads = (first, [], output, (refl, refl), leads, refl)
leads_cut first last (line ∷ lines) output (suc n) (r, next, rest, legal, leads, whole) =
    let (mid, told, more, before, later, same) = leads_cut next last lines rest n leads in
    (mid, r ++ told, more, (r, next, told, legal, before, refl), later, whole ∙ ap (λ o. r ++ o) same ∙ sym (append_assoc r told more))

-- the instance after an edit, if there is one
abbrev after_edit : Network → Option Edit → Network
after_edit I None = I
after_edit I (Some edit) = result_unwrap_or (edited I edit) I

-- a change that leaves the instance leaves it whether it is refused or not
same_instance : (refusals : List (Option Refusal)) (w next : Work) → next.instance ≡ w.instance → (result_unwrap_or (unless_refused refusals next) w).instance ≡ w.instance
same_instance [] w next same = same
same_instance (None ∷ rest) w next same = same_instance rest w next same
same_instance (Some refusal ∷ rest) w next same = refl

edited_instance : (refusals : List (Option Refusal)) (w next : Work)
    → (result_unwrap_or (unless_refused refusals next) w).instance ≡ result_unwrap_or (unless_refused refusals next.instance) w.instance
edited_instance [] w next = refl
edited_instance (None ∷ rest) w next = edited_instance rest w next
edited_instance (Some refusal ∷ rest) w next = refl

adopted_instance : (w : Work) (answer : Answer) → (result_unwrap_or (adopted_work w answer) w).instance ≡ w.instance
adopted_instance w (Optimal cost times) = refl
adopted_instance w Infeasible = refl

stays : (w next : Work) (reply : Option (List ℕ)) (text : List ℕ) → Tells w reply text next → next.instance ≡ w.instance
stays w next reply text tells = ap (λ (x : Work). x.instance) tells.stays

changes : (w next : Work) (outcome : Result Work Refusal) (text : List ℕ) → Changes w outcome text next → next.instance ≡ (result_unwrap_or outcome w).instance
changes w next outcome text is = ap (λ (x : Work). x.instance) is.leaves

-- the instance after a command
command_instance : (w next : Work) (said : Command) (text : List ℕ) → LegalCommand w said text next → next.instance ≡ after_edit w.instance (edit_said (Ok (Some said)))
command_instance w next (command.Edit edit) text is =
    changes w next (edited_work w edit) text is ∙ edited_instance (refusals w.instance edit) w (record { instance = effect w.instance edit; times = times_after edit w.times })
command_instance w next (command.Time e t) text is =
    changes w next (timed_work w e t) text is
    ∙ same_instance (no_event w.instance e ∷ when (nat_le w.instance.period t) (no.TimeOutOfRange t) ∷ []) w (record w { times = with_time w.times e t }) refl
command_instance w next (command.Untime e) text is =
    changes w next (untimed_work w e) text is
    ∙ same_instance (no_event w.instance e ∷ when (is_none (time_of w.times e)) (no.MissingTime e) ∷ []) w (record w { times = without_time w.times e }) refl
command_instance w next command.Adopt text (answer, is_answer, is) = changes w next (adopted_work w answer) text is ∙ adopted_instance w answer
command_instance w next (command.Domain e) text is = by (has_event w.instance e) is
  where
    by : (b : Bool) → MatchBool b ((residues : List ℕ) × AreResidues w.instance e residues × Tells w (Some (domain_text e residues)) text next) (Tells w (refusal_text (no.NoEvent e)) text next)
        → next.instance ≡ w.instance
    by true (residues, are, tells) = stays w next _ text tells
    by false tells = stays w next _ text tells
command_instance w next command.Domains text (rows, are, tells) = stays w next _ text tells
command_instance w next command.Tensions text tells = stays w next _ text tells
command_instance w next command.Violations text tells = stays w next _ text tells
command_instance w next command.Cost text tells = stays w next _ text tells
command_instance w next command.Optimum text (answer, is_answer, tells) = stays w next _ text tells
command_instance w next (command.TryOptimum limit) text (inl (answer, is_answer, tells)) = stays w next _ text tells
command_instance w next (command.TryOptimum limit) text (inr (found, may, tells)) = stays w next _ text tells
command_instance w next command.Dump text tells = stays w next _ text tells

-- the instance after a line
said_instance : (w next : Work) (said : Result (Option Command) ParseFault) (text : List ℕ) → LegalSaid w said text next → next.instance ≡ after_edit w.instance (edit_said said)
said_instance w next (Ok None) text tells = stays w next _ text tells
said_instance w next (Ok (Some c)) text is = command_instance w next c text is
said_instance w next (Err fault) text tells = stays w next _ text tells

after_more : (I : Network) (edit : Option Edit) (edits : List Edit) → after I (cons_option edit edits) ≡ after (after_edit I edit) edits
after_more I None edits = refl
after_more I (Some edit) edits = refl

-- the instance after lines is the one that their edits leave
pub leads_instance : (first last : Work) (lines : List (List ℕ)) (output : List ℕ) → Leads first lines output last → last.instance ≡ after first.instance (edits_in lines)
leads_instance first last [] output (none, same) = ap (λ (x : Work). x.instance) same
leads_instance first last (line ∷ lines) output (reply, next, rest, legal, leads, whole) =
    leads_instance next last lines rest leads
    ∙ ap (λ I. after I (edits_in lines)) (said_instance first next (parsed line) reply legal)
    ∙ sym (after_more first.instance (edit_in line) (edits_in lines))

pub are_afresh : AreAfresh
are_afresh first lines output n small (last, leads) =
    let (mid, told, rest, before, later, whole) = leads_cut first last lines output n leads in
    record {
      times = mid.times;
      told = told;
      rest = rest;
      whole = whole;
      before = subst (λ I. Leads first (take n lines) told (record { instance = I; times = mid.times })) (leads_instance first mid (take n lines) told before) before;
      later = (last, subst (λ I. Leads (record { instance = I; times = mid.times }) (drop n lines) rest last) (leads_instance first mid (take n lines) told before) later);
    }
