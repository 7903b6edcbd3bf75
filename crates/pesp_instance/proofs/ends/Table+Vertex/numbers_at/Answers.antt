-- An event is there where its vertex is; no numbers are in order.
use Rattle.std.proofs.Common.{rules, is_some, sym, ap, ◌∙◌}
use Rattle.std.specs.List.Sorted.{IsStrictlySortedBy}
use Rattle.pesp_base.specs.Numbered.{with_number}
use Rattle.pesp_instance.specs.Ends.{vertex_number}
use Rattle.pesp_instance.proofs.Vertices.{is_event}
use Rattle.pesp_instance.proofs.ends.Table+Vertex.numbers_at.Goals as goal

pub returns-in_err-get-clause-known : goal.returns-in_err-get-clause-known
returns-in_err-get-clause-known c =
    rw c.from_residual.ensures (ap is_some (c.in_err-get.ensures ∙ ap (λ n. with_number vertex_number n c.args.self.now.values) c.get.ensures.value) ∙ sym (is_event c.args.event c.args.self.now.values))

pub returns-in_err-get-clause-ordered : goal.returns-in_err-get-clause-ordered
unfolding IsStrictlySortedBy
returns-in_err-get-clause-ordered c = rw c.from_residual.ensures tt

pub returns-clause-known : goal.returns-clause-known
returns-clause-known c =
    ap is_some (c.in_ok-get.ensures ∙ ap (λ n. with_number vertex_number n c.args.self.now.values) c.get.ensures.value) ∙ sym (is_event c.args.event c.args.self.now.values)

-- by search, and named so that a wrong body is refused here at once
pub returns-clause-value : goal.returns-clause-value
returns-clause-value c = search rules
