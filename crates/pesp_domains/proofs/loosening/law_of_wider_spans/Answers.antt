-- By the distance of the two residues.
use Rattle.pesp_domains.proofs.Wider.{wider_is}
use Rattle.pesp_domains.proofs.loosening.law_of_wider_spans.Goals as goal

pub returns : goal.returns
returns c = wider_is
