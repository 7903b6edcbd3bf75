-- By induction on the pairs that are taken out.
use Rattle.pesp_domains.proofs.Removals.{removal_ends}
use Rattle.pesp_domains.proofs.removal.law_of_removal.Goals as goal

pub returns : goal.returns
returns c = removal_ends
