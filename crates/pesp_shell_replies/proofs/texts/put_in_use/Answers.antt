-- The two numbers stand one after the other.
use Rattle.std.proofs.Common.{◌≡◌, ◌++◌, codes, decimal, append_assoc}
use Rattle.pesp_shell_replies.specs.Replies.{in_use_text}
use Rattle.pesp_shell_replies.proofs.texts.put_in_use.Goals as goal

pub returns : goal.returns
returns c =
    let whole : c.put_event.new.text.items ++ (decimal c.args.activity ++ codes "\n") ≡ c.args.text.now.items ++ in_use_text c.args.event c.args.activity = rw c.in_ok-put_event.ensures (simp append_assoc) in
    rw (← whole) c.put_activity.ensures
