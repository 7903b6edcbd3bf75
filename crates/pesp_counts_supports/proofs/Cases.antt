-- What ends pass, and counts of partners, by computation.
use Rattle.std.proofs.Common.{◌≡◌, ◌||◌, ◌==◌, refl, true, false}
use Rattle.pesp_counts_arcs.specs.declared.end.End.{End}
use Rattle.pesp_counts_arcs.specs.Ends.{passes}
use Rattle.pesp_counts_supports.specs.Counts.{supporters}

-- the tail of a span from 3 to 5 at period 10, and its head
abbrev tail : End
tail = record { looks_at = 0; mate = 1; first = 3; width = 3 }

abbrev head : End
head = record { looks_at = 0; mate = 0; first = 5; width = 3 }

tail_at_seven : passes 10 tail 7 2 ≡ true
tail_at_seven = refl

head_at_two : passes 10 head 2 7 ≡ true
head_at_two = refl

head_at_three : passes 10 head 3 7 ≡ false
head_at_three = refl

-- of 4 and 5 at the head both go with 0 at the tail, and 5 alone with 2
two_partners : supporters 10 (λ s. s == 4 || s == 5) (passes 10 tail 0) ≡ 2
two_partners = refl

partners_of_two : supporters 10 (λ s. s == 4 || s == 5) (passes 10 tail 2) ≡ 1
partners_of_two = refl
