-- The lines stand after the first one.
use Rattle.std.proofs.Common.{◌≡◌, ◌++◌, ◌∷◌, [], length, map, append_assoc}
use Rattle.pesp_base.specs.Texts.{as_lines}
use Rattle.pesp_shell_replies.specs.Replies.{costed, costed_line, time_line}
use Rattle.pesp_shell_replies.proofs.rows.put_costed.Goals as goal

pub returns : goal.returns
returns c =
    let whole : c.put_head.new.text.items ++ as_lines (map time_line c.args.times.now.entries) ≡ c.args.text.now.items ++ costed c.args.word.now c.args.cost c.args.times.now =
    rw (c.in_ok-put_head.ensures, c.time_count.ensures) (append_assoc c.args.text.now.items (costed_line c.args.word.now c.args.cost (length c.args.times.now.entries) ++ 10 ∷ []) (as_lines (map time_line c.args.times.now.entries))) in
    rw (← whole) c.put_times.ensures
