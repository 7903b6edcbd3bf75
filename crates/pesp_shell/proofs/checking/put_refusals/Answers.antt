-- One reply stands after another, three times.
use Rattle.pesp_shell.proofs.CheckLemmas.{put_thrice}
use Rattle.pesp_shell.proofs.checking.put_refusals.Goals as goal
use Rattle.pesp_shell_replies.specs.Replies.{refusal_text}

pub returns : goal.returns
returns c =
    put_thrice c.put_refusal-3.result (refusal_text c.args.refusal.now) c.args.text.now.items c.put_refusal.new.text.items c.put_refusal-2.new.text.items c.put_refusal-3.new.text.items
    c.in_ok-put_refusal.ensures c.in_ok-put_refusal-2.ensures c.put_refusal-3.ensures
