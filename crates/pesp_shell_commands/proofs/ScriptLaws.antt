-- Each line of an instance's script says its edit, and replaying the script gives the instance back.
use Rattle.std.proofs.Common.{◌≡◌, ℕ, ◌+◌, ◌≤◌, true, false, cond, if◌then◌else◌, List, [], ◌∷◌, ◌++◌, length, map, codes, decimal, Some, None, Result, Ok, Err, All, IfSome, is_some, refl, ap, ap₂, ◌∙◌, arith, ◌==◌, length-append}
use Rattle.std.specs.List.{filter_map}
use Rattle.std.proofs.lemmas.Bool.{eqb-true, le-ltb, false≢true}
use Rattle.std.proofs.lemmas.List.{length-map}
use Rattle.std.proofs.lemmas.List.Elements.{All-append, All-cons, All-head, All-map, All-nil, All-tail, All-weaker}
use Rattle.pesp_base.specs.Limits.{greatest_number}
use Rattle.pesp_base.specs.declared.refusal.Refusal.{Refusal}
use Rattle.pesp_base.specs.Numbered.{with_number}
use Rattle.pesp_base.specs.Windows.{Interval, IsWindow}
use Rattle.pesp_instance.specs.declared.edit.Edit.{Edit}
use Rattle.pesp_instance.specs.declared.edit.Edit.TheVariants.{AddActivity, AddEvent, Fix, SetWindow}
use Rattle.pesp_instance.specs.declared.event.Event.{Event}
use Rattle.pesp_instance.specs.Edited.{edited, empty_network}
use Rattle.pesp_instance.specs.Network.{IsEvent, IsNetwork, Network, event_ids}
use Rattle.pesplib_writer.specs.Script.{applied, edit_line, on_accepted, own_edit, script, script_edits, script_head, script_lines, window_edit}
use Rattle.pesplib_writer.proofs.ScriptLaws.{script_builds}
use Rattle.pesp_shell_io.specs.declared.limits.TheConstants.{LONGEST_LINE, MOST_LINES}
use Rattle.pesp_shell_io.specs.Lines.{IsUncut, is_line_feed, lines_of}
use Rattle.pesp_shell_commands.specs.declared.parsing.TheConstants.{GREATEST_TIME}
use Rattle.pesp_shell_commands.specs.Parsed.{parsed}
use Rattle.pesp_shell_commands.specs.Replayed.{IsSaid, on_line, or_refused, replayed, replayed_from, said}
use Rattle.pesp_shell_io.proofs.CutLemmas.{AreLines, lines_of-as_lines}
use Rattle.pesp_shell_commands.proofs.EditLines.{Says, activity_says, event_says, fix_says, window_says}
use Rattle.pesp_shell_commands.proofs.LineLemmas.{ArePlain, one_line, parsed_line, short_line}
use Rattle.pesp_shell_commands.proofs.WordLemmas.{plain_decimal, plain_name}

-- ---- lines that say edits

are_said : (edits : List Edit) → All Says edits → map parsed (map edit_line edits) ≡ map said edits
are_said [] all = refl
are_said (edit ∷ edits) all = ap₂ (λ c cs. c ∷ cs) (All-head Says edit edits all).says (are_said edits (All-tail Says edit edits all))

are_lines : (edits : List Edit) → All Says edits → AreLines (map edit_line edits)
are_lines [] all = tt
are_lines (edit ∷ edits) all = ((All-head Says edit edits all).one_line, are_lines edits (All-tail Says edit edits all))

-- ---- an instance's numbers are within their limits

event_number : (period : ℕ) (events : List Event) (n : ℕ) → All (IsEvent period) events → is_some (with_number (λ x. x.id) n events) ≡ true → n ≤ greatest_number
event_number period [] n all is = absurd (false≢true is)
event_number period (x ∷ events) n all is =
    elim (x.id == n) as (λ b. (x.id == n) ≡ b → is_some (cond b (Some x) (with_number (λ y. y.id) n events)) ≡ true → n ≤ greatest_number) [
      | true ↦ λ same _. omega (arith, eqb-true x.id n same, (All-head (IsEvent period) x events all).number)
      | false ↦ λ apart later. event_number period events n (All-tail (IsEvent period) x events all) later
    ] refl is

-- a window's edit is said, which fixes a time or does not
window_says_its_edit : (period : ℕ) (e : ℕ) (w : Interval) → period ≤ GREATEST_TIME → e ≤ greatest_number → IsWindow period w → Says (window_edit e w)
window_says_its_edit period e w high number is =
    elim (w.length == 1) as (λ b. Says (if b then Fix e w.first else SetWindow e w.first w.length)) [
      | true ↦ fix_says e w.first number (omega (arith, is.first, high))
      | false ↦ window_says e w.first w.length number (omega (arith, is.first, high)) (omega (arith, is.once, high))
    ]

windows_say : (period : ℕ) (events : List Event) → period ≤ GREATEST_TIME → All (IsEvent period) events → All Says (filter_map own_edit events)
windows_say period [] high all = All-nil Says
windows_say period (x ∷ events) high all =
    let first : IsEvent period x = All-head (IsEvent period) x events all in
    let later : All Says (filter_map own_edit events) = windows_say period events high (All-tail (IsEvent period) x events all) in
    elim x.window as (λ o. IfSome o (IsWindow period) → All Says (filter_map own_edit (record x { window = o } ∷ events))) [
      | None ↦ λ _. later
      | Some w ↦ λ is. All-cons Says (window_edit x.id w) (filter_map own_edit events) (window_says_its_edit period x.id w high first.number is) later
    ] first.window

few_windows : (events : List Event) → length (filter_map own_edit events) ≤ length events
few_windows [] = omega arith
few_windows (x ∷ events) =
    let later : length (filter_map own_edit events) ≤ length events = few_windows events in
    elim x.window as (λ o. length (filter_map own_edit (record x { window = o } ∷ events)) ≤ length (x ∷ events)) [
      | None ↦ omega arith
      | Some w ↦ omega arith
    ]

-- ---- the lines of a script

module _ (I : Network) (net : IsNetwork I) where
  events_say : All Says (map AddEvent (event_ids I))
  events_say =
      All-map Says AddEvent (event_ids I)
      (All-map (λ e. Says (AddEvent e)) (λ x. x.id) I.events
      (All-weaker (IsEvent I.period) (λ x. Says (AddEvent x.id)) (λ x is. event_says x.id is.number) I.events net.events_within))

  its_number : (n : ℕ) → is_some (with_number (λ x. x.id) n I.events) ≡ true → n ≤ greatest_number
  its_number n is = event_number I.period I.events n net.events_within is

  activities_say : All Says (map AddActivity I.activities)
  activities_say =
      All-map Says AddActivity I.activities
      (λ k d below. activity_says _ (net.activities_within k d below) (its_number _ (net.ends k d below).from) (its_number _ (net.ends k d below).to))

  lines_say : All Says (script_edits I)
  lines_say =
      All-append Says (map AddEvent (event_ids I) ++ filter_map own_edit I.events) (map AddActivity I.activities)
      (All-append Says (map AddEvent (event_ids I)) (filter_map own_edit I.events) events_say (windows_say I.period I.events (omega (arith, net.period_high)) net.events_within))
      activities_say

  -- far fewer than the limit of lines
  few_lines : length (script_lines I) ≤ 140000
  few_lines = simp (length-append, length-map) (omega (arith, net.few_events, few_windows I.events, net.few_activities))

  -- the words of the comment in front
  abbrev head_words : List (List ℕ)
  head_words = codes "#" ∷ codes "period" ∷ decimal I.period ∷ codes "lines" ∷ decimal (length (script_lines I)) ∷ []

  plain_head : ArePlain head_words
  plain_head = (
    plain_name (codes "#") refl refl (omega arith) (omega arith),
    (
      plain_name (codes "period") refl refl (omega arith) (omega arith),
      (
        plain_decimal I.period (omega (arith, net.period_high)),
        (plain_name (codes "lines") refl refl (omega arith) (omega arith), (plain_decimal (length (script_lines I)) (omega (arith, few_lines)), tt)),
      ),
    ),
  )

  head_says : parsed (script_head I) ≡ Ok None
  head_says = parsed_line head_words plain_head

  head_short : length (script_head I) ≤ LONGEST_LINE
  head_short = omega (arith, short_line head_words plain_head)

-- ---- replaying

same_instance : (I K : Network) → ◌≡◌ {A = Result Network Refusal} (Ok I) (Ok K) → I ≡ K
same_instance I K e = cc

-- nothing is done at a line that says nothing
nothing_done : (n : ℕ) (I : Network) (line : List ℕ) (lines : List (List ℕ)) → n ≤ MOST_LINES → length line ≤ LONGEST_LINE → parsed line ≡ Ok None
    → replayed_from n I (line ∷ lines) ≡ replayed_from (n + 1) I lines
nothing_done n I line lines few short says = rw (le-ltb MOST_LINES n few, le-ltb LONGEST_LINE (length line) short, says) refl

-- edits that are accepted one after another are replayed from their lines
replayed_edits : (edits : List Edit) → All Says edits → (n : ℕ) (I J : Network) → n + length edits ≤ MOST_LINES + 1
    → applied I edits ≡ Ok J → replayed_from n I (map edit_line edits) ≡ Ok J
replayed_edits [] all n I J few e = ap Ok (same_instance I J e)
replayed_edits (edit ∷ edits) all n I J few e =
    let first : Says edit = All-head Says edit edits all in
    rw (le-ltb MOST_LINES n (omega (arith, few)), le-ltb LONGEST_LINE (length (edit_line edit)) first.short, first.says)
    (elim (edited I edit) as (λ r. on_accepted (λ K. applied K edits) r ≡ Ok J → on_line n (λ K. replayed_from (n + 1) K (map edit_line edits)) (or_refused r) ≡ Ok J) [
      | Ok K ↦ λ accepted. replayed_edits edits (All-tail Says edit edits all) (n + 1) K J (omega (arith, few)) accepted
      | Err refusal ↦ λ refused. absurd (cc)
    ] e)

-- the script is cut into the lines that it was made of
script_is_cut : (I : Network) → IsNetwork I → lines_of (script I) ≡ script_head I ∷ script_lines I
script_is_cut I net =
    let head : IsUncut is_line_feed (script_head I) = one_line (head_words I net) (plain_head I net) in
    lines_of-as_lines (script_head I ∷ script_lines I) (head, are_lines (script_edits I) (lines_say I net))

-- the head says nothing, and each later line its edit
pub script_is_said : (I : Network) → IsNetwork I → IsSaid I
script_is_said I net = record { lines = script_is_cut I net; head = head_says I net; edits = are_said (script_edits I) (lines_say I net) }

-- where the edits of the script build the instance, so does the script
pub script_replays : (I : Network) → IsNetwork I → applied (empty_network I.period) (script_edits I) ≡ Ok I → replayed I.period (script I) ≡ Ok I
script_replays I net builds =
    let few : length (script_lines I) ≡ length (script_edits I) = length-map (script_edits I) edit_line in
    ap (replayed_from 1 (empty_network I.period)) (script_is_cut I net)
    ∙ nothing_done 1 (empty_network I.period) (script_head I) (script_lines I) (omega arith) (head_short I net) (head_says I net)
    ∙ replayed_edits (script_edits I) (lines_say I net) 2 (empty_network I.period) I (omega (arith, few, few_lines I net)) builds

-- replaying the script of an instance gives the instance back
pub script_gives_back : (I : Network) → IsNetwork I → replayed I.period (script I) ≡ Ok I
script_gives_back I net = script_replays I net (script_builds I net)
