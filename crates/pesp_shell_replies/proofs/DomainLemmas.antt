-- Rows of domains, told as residues of events, line by line.
use Rattle.std.proofs.Common.{◌≡◌, ℕ, ◌<◌, Bool, Some, List, [], ◌∷◌, ◌++◌, length, map, IsTrue, false, refl, sym, ap, subst, ◌∙◌, inl, inr, arith, append_assoc, codes, decimal}
use Rattle.std.specs.List.{AllZip, range_with_len, zip}
use Rattle.std.proofs.lemmas.Bool.{cases_lt, false≢true}
use Rattle.std.proofs.lemmas.Grind.{flat_map-append}
use Rattle.std.proofs.lemmas.List.{append-nil, get_or_past, length-map, map-append}
use Rattle.std.proofs.lemmas.List.Kept.{IsStrictlyIncreasing-filter}
use Rattle.std.proofs.lemmas.Slice.Zip.{AllZip-long, length-zip}
use Rattle.pesp_base.proofs.Ranges.{range_rises}
use Rattle.pesp_base.specs.Texts.{as_lines}
use Rattle.pesp_instance.specs.Network.{Network, event_ids, has_event}
use Rattle.pesp_domains.specs.Domains.{IsDomain, holds, residues}
use Rattle.pesp_domains.proofs.Families.{in_filter, in_range, of_filter}
use Rattle.pesp_shell_commands.specs.declared.command.Command.TheVariants as command
use Rattle.pesp_shell_replies.specs.Legal.{AreResidues, LegalCommand, Work}
use Rattle.pesp_shell_replies.specs.Replies.{domain_line, domain_text}
use Rattle.pesp_shell_replies.specs.Spaced.{AddsLines}

-- the residues of a row are those of the domain
are_residues : (I : Network) (e : ℕ) (row : List Bool) → IsDomain I [] e row → AreResidues I e (residues row)
are_residues I e row domain = record {
  rising = IsStrictlyIncreasing-filter (holds row) (range_with_len 0 (length row)) (range_rises (length row));
  exact = λ r. (
    (λ i. (domain.exact r).0 (of_filter (holds row) (range_with_len 0 (length row)) r i).1),
    (λ i. let h = (domain.exact r).1 i in in_filter (holds row) (range_with_len 0 (length row)) r (in_range 0 (length row) r (omega arith) (let l = below r h in omega (arith, l))) h),
  );
}
  where
    below : (r : ℕ) → IsTrue (holds row r) → r < length row
    below r h =
        elim (cases_lt r (length row)) [
          | inl l ↦ l
          | inr g ↦ absurd (false≢true (sym (get_or_past row r false g) ∙ h))
        ]

-- the reply to `domain`, from a row
pub domain_told : (w : Work) (e : ℕ) (row : List Bool) (text : List ℕ) → IsTrue (has_event w.instance e) → IsDomain w.instance [] e row → text ≡ domain_text e (residues row)
    → LegalCommand w (command.Domain e) text w
domain_told w e row text is domain told = rw is (residues row, are_residues w.instance e row domain, record { tells = ap Some (sym told); stays = refl })

-- ---- lines of domains

-- the line of an event, from its row
pub line_added : (I : Network) (e : ℕ) (row : List Bool) (before after : List ℕ) → IsDomain I [] e row → after ≡ before ++ domain_text e (residues row) → AddsLines I (e ∷ []) before after
line_added I e row before after domain is = record {
  rows = residues row ∷ [];
  are = (are_residues I e row domain, tt);
  lines = is ∙ ap (λ t. before ++ t) (sym (append-nil (domain_text e (residues row))));
}

none_added : (I : Network) (text : List ℕ) → AddsLines I [] text text
none_added I text = record { rows = []; are = tt; lines = sym (append-nil text) }

each_on : (I : Network) (events others : List ℕ) (rows more : List (List ℕ)) → AllZip (AreResidues I) events rows → AllZip (AreResidues I) others more
    → AllZip (AreResidues I) (events ++ others) (rows ++ more) × (zip (events ++ others) (rows ++ more) ≡ zip events rows ++ zip others more)
each_on I [] others [] more are also = (also, refl)
each_on I [] others (x ∷ rows) more are also = absurd are
each_on I (e ∷ events) others [] more are also = absurd are
each_on I (e ∷ events) others (x ∷ rows) more are also =
    let rest = each_on I events others rows more are.1 also in
    ((are.0, rest.0), ap (λ xs. (e, x) ∷ xs) rest.1)

-- lines after lines
lines_on : (I : Network) (events others : List ℕ) (before between after : List ℕ) → AddsLines I events before between → AddsLines I others between after → AddsLines I (events ++ others) before after
lines_on I events others before between after first later =
    let each = each_on I events others first.rows later.rows first.are later.are in
    let line = (λ (x : ℕ × List ℕ). domain_line x.0 x.1) in
    let one = as_lines (map line (zip events first.rows)) in
    let two = as_lines (map line (zip others later.rows)) in
    let both : as_lines (map line (zip (events ++ others) (first.rows ++ later.rows))) ≡ one ++ two =
    ap (λ xs. as_lines (map line xs)) each.1 ∙ ap as_lines (map-append line (zip events first.rows) (zip others later.rows))
    ∙ flat_map-append (λ l. l ++ 10 ∷ []) (map line (zip events first.rows)) (map line (zip others later.rows)) in
    record {
      rows = first.rows ++ later.rows;
      are = each.0;
      lines = later.lines ∙ ap (λ t. t ++ two) first.lines ∙ append_assoc before one two ∙ ap (λ t. before ++ t) (sym both);
    }

-- the lines of those events that were gone over
pub record AreOver (I : Network) (left : List ℕ) (before after : List ℕ) : Type 0 where
  pub events : List ℕ
  pub all : events ++ left ≡ event_ids I
  pub lines : AddsLines I events before after

pub over_none : (I : Network) (text : List ℕ) → AreOver I (event_ids I) text text
over_none I text = record { events = []; all = refl; lines = none_added I text }

pub over_more : (I : Network) (e : ℕ) (left : List ℕ) (before between after : List ℕ) → AreOver I (e ∷ left) before between → AddsLines I (e ∷ []) between after → AreOver I left before after
over_more I e left before between after over line = record {
  events = over.events ++ e ∷ [];
  all = append_assoc over.events (e ∷ []) left ∙ over.all;
  lines = lines_on I over.events (e ∷ []) before between after over.lines line;
}

pub over_all : (I : Network) (before after : List ℕ) → AreOver I [] before after → AddsLines I (event_ids I) before after
over_all I before after over = subst (λ events. AddsLines I events before after) (sym (append-nil over.events) ∙ over.all) over.lines

-- the reply to `domains`, from its first line and the lines of all events
pub domains_told : (w : Work) (text : List ℕ) → AddsLines w.instance (event_ids w.instance) (codes "domains " ++ decimal (length w.instance.events) ++ 10 ∷ []) text
    → LegalCommand w command.Domains text w
domains_told w text adds =
    let ids = event_ids w.instance in
    let line = (λ (x : ℕ × List ℕ). domain_line x.0 x.1) in
    let long : length w.instance.events ≡ length (map line (zip ids adds.rows)) =
    omega (arith, length-map w.instance.events (λ e. e.id), length-map (zip ids adds.rows) line, length-zip ids adds.rows, AllZip-long (AreResidues w.instance) ids adds.rows adds.are) in (
      adds.rows,
      adds.are,
      record {
        tells = ap Some (sym (adds.lines ∙ ap (λ n. (codes "domains " ++ decimal n ++ 10 ∷ []) ++ as_lines (map line (zip ids adds.rows))) long));
        stays = refl;
      },
    )
