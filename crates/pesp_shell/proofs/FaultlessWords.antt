-- What every use of an argument keeps, a line without a fault keeps: a property of the rows, from the first word to the last.
use Rattle.std.proofs.Common.{◌≡◌, ◌&&◌, not, ◌∷◌, [], ℕ, zero, suc, Bool, true, false, List, Option, Some, None, refl, subst, drop, length}
use Rattle.std.specs.Prelude.{if◌then◌else◌, is_some, encode_utf8, slice_get}
use Rattle.std.specs.List.{find, fold}
use Rattle.std.specs.Option.{option_map_or}
use Rattle.std.specs.Str.{bytes_eq, chars}
use Rattle.clap.specs.Lexer.{long_of, short_of}
use Rattle.clap.specs.Kinds.{Kinds, or_else}
use Rattle.clap.specs.Simple.{Shape}
use Rattle.clap.specs.Walk.{Held, Names, Outcome, Row, Rule, Step, Text, Waiting, Walk, after_flag, after_step, arg_by_id, arg_by_index, arg_by_long, arg_by_short}
use Rattle.clap.specs.Walk.{attached_value, bundle, bundle_met, bundle_step, done, flag_met, has_long, has_short, idle, is_pending, long_met, long_or_other, next, nothing_held, option, option_met}
use Rattle.clap.specs.Walk.{option_word, plain, plain_word, positional, positional_held, pushed, reacted, refused, settled, settled_rows, short_met, short_or_plain, subcommand, subcommand_met}
use Rattle.clap.specs.Walk.{subcommand_or_other, takes_several, takes_values, to_positional, trailing, used, used_by_id, value, waits, walk, walk_from, walked, walked_from, word_met}
use Rattle.clap.specs.Faults.{bundle_fault, bundle_step_fault, flag_word_fault, flags_fault, level_fault, long_fault, option_fault, other_fault, positional_fault, react_fault, settle_fault}
use Rattle.clap.specs.Faults.{check_fault, defaults_fault, short_fault, step_fault, stray_fault, turn_fault, use_fault, walk_fault, word_fault}
use Rattle.clap.specs.Walk.{finished}
use Rattle.clap.specs.declared.error.kind.ErrorKind.TheVariants as kind

pub no_fault : (a b : Kinds) → or_else a b ≡ [] → (a ≡ []) × (b ≡ [])
no_fault [] b e = (refl, e)
no_fault (k ∷ ks) b e = cc

-- a use without a fault of the argument keeps the property
abbrev pub Keeps : (List Row → Type 0) → Bool → Rule → Type 0
Keeps H again a = (values : List Text) (rows : List Row) → use_fault again a values rows ≡ [] → H rows → H (used a values rows)

abbrev pub AllKeep : (List Row → Type 0) → Bool → List Rule → Type 0
AllKeep H again [] = Unit {0}
AllKeep H again (a ∷ c) = Keeps H again a × AllKeep H again c

-- an argument that a search finds keeps it
found_keeps : (H : List Row → Type 0) (again : Bool) (p : Rule → Bool) (c : List Rule) (a : Rule) → AllKeep H again c → find p c ≡ Some a → Keeps H again a
found_keeps H again p [] a all e = cc
found_keeps H again p (x ∷ c) a all e = go (p x) (λ rest. found_keeps H again p c a all.1 rest) e
  where
    go : (b : Bool) → (find p c ≡ Some a → Keeps H again a) → (if b then Some x else find p c) ≡ Some a → Keeps H again a
    go true rest e =
        let same : x ≡ a = cc in
        subst (Keeps H again) same all.0
    go false rest e = rest e

module _ (H : List Row → Type 0) (again : Bool) (c : List Rule) (all : AllKeep H again c) where
  -- what a search found keeps it
  abbrev FoundKeeps : Option Rule → Type 0
  FoundKeeps o = (a : Rule) → o ≡ Some a → Keeps H again a

  use_keeps : (o : Option Rule) → FoundKeeps o → (values : List Text) (rows : List Row) → option_map_or (λ a. use_fault again a values rows) o [] ≡ []
      → H rows → H (used_by_id o values rows)
  use_keeps None k values rows e g = g
  use_keeps (Some a) k values rows e g = k a refl values rows e g

  settle_keeps : (p : Option (Text × List Text)) (rows : List Row)
      → option_map_or (λ q. option_map_or (λ a. use_fault again a q.1 rows) (arg_by_id c q.0) []) p [] ≡ [] → H rows → H (settled_rows c p rows)
  settle_keeps None rows e g = g
  settle_keeps (Some q) rows e g = use_keeps (arg_by_id c q.0) (λ a is. found_keeps H again (λ x. bytes_eq x.id q.0) c a all is) q.1 rows e g

  react_keeps : (a : Rule) → Keeps H again a → (values : List Text) (h : Held) → react_fault c again a values h ≡ [] → H h.rows → H (reacted c a values h).rows
  react_keeps a k values h e g =
      let f = no_fault (settle_fault c again h) (use_fault again a values (settled c h).rows) e in
      k values (settled c h).rows f.1 (settle_keeps h.pending h.rows f.0 g)

  option_keeps : (a : Rule) → Keeps H again a → (v : Option Text) (h : Held) → option_fault c again a v h ≡ [] → H h.rows → H (option_met c a v h).0.rows
  option_keeps a k (Some v) h e g = react_keeps a k (v ∷ []) h e g
  option_keeps a k None h e g = settle_keeps h.pending h.rows e g

  long_keeps : (o : Option Rule) → FoundKeeps o → (v : Option Text) (h : Held) → long_fault c again o v h ≡ [] → H h.rows → H (long_met c o v h).0.rows
  long_keeps None k v h e g = g
  long_keeps (Some a) k v h e g = go (takes_values a) v e
    where
      go : (b : Bool) (v : Option Text)
          → (if b then option_fault c again a v h else (if is_some v then kind.TooManyValues ∷ [] else react_fault c again a [] h)) ≡ []
          → H (if b then option_met c a v h else flag_met c a v h).0.rows
      go true v e = option_keeps a (k a refl) v h e g
      go false (Some v) e = g
      go false None e = react_keeps a (k a refl) [] h e g

  short_keeps : (o : Option Rule) → FoundKeeps o → (rest : Text) (h : Held) (after : Held → Held × Outcome) (fault : Held → Kinds)
      → ((x : Held) → fault x ≡ [] → H x.rows → H (after x).0.rows)
      → short_fault c again o rest h fault ≡ [] → H h.rows → H (short_met c o rest h after).0.rows
  short_keeps None k rest h after fault step e g = g
  short_keeps (Some a) k rest h after fault step e g = go (takes_values a) e
    where
      go : (b : Bool)
          → (if b then option_fault c again a (attached_value rest) h else or_else (react_fault c again a [] h) (fault (reacted c a [] h))) ≡ []
          → H (if b then option_met c a (attached_value rest) h else after (reacted c a [] h)).0.rows
      go true e = option_keeps a (k a refl) (attached_value rest) h e g
      go false e =
          let f = no_fault (react_fault c again a [] h) (fault (reacted c a [] h)) e in
          step (reacted c a [] h) f.1 (react_keeps a (k a refl) [] h f.0 g)

  letter_keeps : (o : Option ℕ) (flags : Text) (skip : ℕ) (so_far : Outcome) (h : Held) (after : Text → ℕ → Outcome → Held → Held × Outcome) (fault : Text → ℕ → Held → Kinds)
      → ((t : Text) (n : ℕ) (u : Outcome) (x : Held) → fault t n x ≡ [] → H x.rows → H (after t n u x).0.rows)
      → bundle_step_fault c again o flags skip h fault ≡ [] → H h.rows → H (bundle_step c o flags skip so_far h after).0.rows
  letter_keeps None flags skip so_far h after fault step e g = g
  letter_keeps (Some x) flags zero so_far h after fault step e g =
      let rest = drop (length (encode_utf8 x)) flags in
      short_keeps (arg_by_short c x) (λ a is. found_keeps H again (λ r. not (is_some r.index) && has_short r x) c a all is) rest h (after rest 0 done) (fault rest 0)
      (λ y. step rest 0 done y) e g
  letter_keeps (Some x) flags (suc skip) so_far h after fault step e g = step (drop (length (encode_utf8 x)) flags) skip so_far h e g

  bundle_keeps : (k : ℕ) (flags : Text) (skip : ℕ) (so_far : Outcome) (h : Held) → flags_fault c again k flags skip h ≡ [] → H h.rows
      → H (bundle_met c k flags skip so_far h).0.rows
  unfolding bundle_met flags_fault
  bundle_keeps zero flags skip so_far h e g = g
  bundle_keeps (suc k) flags skip so_far h e g =
      letter_keeps (slice_get (chars flags) 0) flags skip so_far h (bundle_met c k) (flags_fault c again k) (λ t n u x. bundle_keeps k t n u x) e g

  plain_keeps : (waiting : Waiting) (word : Text) (h : Held) → H h.rows → H (plain_word c waiting word h).0.rows
  plain_keeps (option id) word h g = go (arg_by_id c id)
    where
      go : (o : Option Rule) → H (option_word o id word h).0.rows
      go None = g
      go (Some a) = g
  plain_keeps idle word h g = g
  plain_keeps positional word h g = g

  outcome_keeps : (waiting : Waiting) (word : Text) (h : Held) (u : Outcome) → H h.rows → H (after_flag c waiting word h u).0.rows
  outcome_keeps waiting word h done g = g
  outcome_keeps waiting word h (waits id) g = g
  outcome_keeps waiting word h plain g = plain_keeps waiting word h g
  outcome_keeps waiting word h refused g = plain_keeps waiting word h g

  flag_keeps : (waiting : Waiting) (word : Text) (o : Option (Text × Option Text)) (h : Held) → flag_word_fault c again o word h ≡ [] → H h.rows
      → H (long_or_other c waiting word o h).0.rows
  flag_keeps waiting word (Some p) h e g =
      outcome_keeps waiting word (long_met c (arg_by_long c p.0) p.1 h).0 (long_met c (arg_by_long c p.0) p.1 h).1
      (long_keeps (arg_by_long c p.0) (λ a is. found_keeps H again (λ r. not (is_some r.index) && has_long r p.0) c a all is) p.1 h e g)
  flag_keeps waiting word None h e g = go (short_of word) e
    where
      go : (o : Option Text) → option_map_or (λ flags. bundle_fault c again flags h) o [] ≡ [] → H (short_or_plain c waiting word o h).0.rows
      go None e = plain_keeps waiting word h g
      go (Some flags) e =
          outcome_keeps waiting word (bundle c flags h).0 (bundle c flags h).1 (bundle_keeps (length flags) flags h.skip plain (record h { skip = 0 }) e g)

  positional_keeps : (a : Rule) (word : Text) (h : Held) → positional_fault c again a h ≡ [] → H h.rows → H (positional_held c a word h).rows
  positional_keeps a word h e g = go (is_pending a h.pending && takes_several a) e
    where
      go : (b : Bool) → (if b then [] else settle_fault c again h) ≡ [] → H (pushed a.id word (if b then h else settled c h)).rows
      go true e = g
      go false e = settle_keeps h.pending h.rows e g

module _ (H : List Row → Type 0) (s : Shape) (names : Names) (all : AllKeep H s.args_override_self s.rules) where
  other_keeps : (o : Option Text) (waiting : Waiting) (position : ℕ) (word : Text) (h : Held) → other_fault s o word h ≡ [] → H h.rows
      → H (subcommand_or_other s.rules o waiting position word h).0.rows
  other_keeps (Some name) waiting position word h e g = g
  other_keeps None waiting position word h e g = go (bytes_eq word (45 ∷ 45 ∷ [])) e
    where
      go : (b : Bool) → (if b then [] else flag_word_fault s.rules s.args_override_self (long_of word) word h) ≡ []
          → H (if b then (h, trailing position) else long_or_other s.rules waiting word (long_of word) h).0.rows
      go true e = g
      go false e = flag_keeps H s.args_override_self s.rules all waiting word (long_of word) h e g

  word_keeps : (is_trailing : Bool) (waiting : Waiting) (position : ℕ) (word : Text) (h : Held) → word_fault s names is_trailing waiting word h ≡ [] → H h.rows
      → H (word_met s.rules names is_trailing waiting position word h).0.rows
  word_keeps true waiting position word h e g = g
  word_keeps false waiting position word h e g = other_keeps (subcommand_met names waiting word) waiting position word h e g

  step_keeps : (word : Text) (w : Walk) (h : Held) (step : Step) → step_fault s w.position h step ≡ [] → H h.rows → H (after_step s.rules word w h step).held.rows
  step_keeps word w h (next waiting) e g = g
  step_keeps word w h (trailing position) e g = g
  step_keeps word w h (subcommand name) e g = g
  step_keeps word w h value e g = go (arg_by_index s.rules w.position) e
    where
      go : (o : Option Rule) → option_map_or (λ a. positional_fault s.rules s.args_override_self a h) o (stray_fault s) ≡ [] → H (to_positional s.rules o word w h).held.rows
      go None e = g
      go (Some a) e = positional_keeps H s.args_override_self s.rules all a word h e g

  turn_keeps : (w : Walk) (word : Text) → turn_fault s names w word ≡ [] → H w.held.rows → H (walked s.rules names w word).held.rows
  unfolding walked
  turn_keeps w word e g = go w.stopped e
    where
      go : (stop : Option (Text × List Text))
          → (if is_some stop then [] else or_else (word_fault s names w.is_trailing w.waiting word w.held)
          (step_fault s w.position (word_met s.rules names w.is_trailing w.waiting w.position word w.held).0
          (word_met s.rules names w.is_trailing w.waiting w.position word w.held).1)) ≡ []
          → H (walked_from s.rules names stop w word).held.rows
      go (Some p) e = g
      go None e =
          let met = word_met s.rules names w.is_trailing w.waiting w.position word w.held in
          let f = no_fault (word_fault s names w.is_trailing w.waiting word w.held) (step_fault s w.position met.0 met.1) e in
          step_keeps word w met.0 met.1 f.1 (word_keeps w.is_trailing w.waiting w.position word w.held f.0 g)

  walk_keeps : (words : List Text) (w : Walk) → walk_fault s names w words ≡ [] → H w.held.rows → H (fold (walked s.rules names) w words).held.rows
  unfolding walk_fault
  walk_keeps [] w e g = g
  walk_keeps (word ∷ rest) w e g =
      let f = no_fault (turn_fault s names w word) (walk_fault s names (walked s.rules names w word) rest) e in
      walk_keeps rest (walked s.rules names w word) f.1 (turn_keeps w word f.0 g)

  -- the rows before defaults have it, where a line without a fault was read
  pub level_keeps : (words : List Text) (has_subcommand : Bool) (below : Kinds) → level_fault s names nothing_held words has_subcommand below ≡ [] → H []
      → H (settled s.rules (walk s.rules names nothing_held words).held).rows
  level_keeps words has_subcommand below e g =
      let end = (walk s.rules names nothing_held words).held in
      let last = or_else (defaults_fault (settled s.rules end).rows s.rules) (check_fault s (finished s.rules end) has_subcommand) in
      let f = no_fault (walk_fault s names (walk_from nothing_held) words)
      (or_else below (or_else (settle_fault s.rules s.args_override_self end) last)) e in
      let b = no_fault below (or_else (settle_fault s.rules s.args_override_self end) last) f.1 in
      let d = no_fault (settle_fault s.rules s.args_override_self end) last b.1 in
      settle_keeps H s.args_override_self s.rules all end.pending end.rows d.0 (walk_keeps words (walk_from nothing_held) f.0 g)
