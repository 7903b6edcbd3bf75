-- The texts are those of the words.
use Rattle.std.proofs.Common.{◌≡◌, ℕ, List, Result, inl, map, string_bytes, subst, rules}
use Rattle.clap.specs.Walk.{texts}
use Rattle.pesp_shell_main.specs.declared.ending.Ending.{Ending}
use Rattle.pesp_shell_main.specs.Files.{FileSystem}
use Rattle.pesp_shell_main.specs.Work.{IsWork, Streams}
use Rattle.pesp_shell_main.proofs.program.work_of.Goals as goal

same_words : {F : Type 0} (fs : FileSystem F) (before after : List (List ℕ)) (s : Streams) (ended : Result (Unit {0}) Ending) → before ≡ after
    → IsWork fs before s ended → IsWork fs after s ended
same_words fs before after s ended same is = subst (λ words. IsWork fs words s ended) same is

pub returns : goal.returns
returns g c =
    let same : texts c.as_slice-2.result.now ≡ map string_bytes c.in-Ok.words.items = search rules in
    rw c.in-Ok.is (inl (same_words _ _ _ _ _ same c.work.ensures))
