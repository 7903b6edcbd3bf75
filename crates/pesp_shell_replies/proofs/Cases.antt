-- Transcripts of small streams, by computation.
use Rattle.std.proofs.Common.{refl, [], ◌∷◌, codes}
use Rattle.std.specs.Fmt.{digits}
use Rattle.pesp_base.specs.Texts.{as_lines}
use Rattle.pesp_base.proofs.Samples.{arc}
use Rattle.pesp_instance.specs.Network.{new_event}
use Rattle.pesp_tension.specs.Timetables.{no_times}
use Rattle.pesp_shell_replies.specs.Legal.{Work}
use Rattle.pesp_shell_replies.specs.Transcripts.{IsTranscript}

-- the two activities at period 10
abbrev two : Work
two = record {
  instance = record {
    period = 10;
    events = new_event 1 ∷ new_event 2 ∷ [];
    activities = arc 1 1 2 3 5 2 ∷ arc 2 2 1 4 6 1 ∷ [];
  };
  times = no_times 10;
}

abbrev tells : {X : Type 0} → X → X
tells x = x

pub working_timetable : IsTranscript two
    (codes "time 1 0" ∷ codes "time 2 12" ∷ codes "cost" ∷ codes "# note" ∷ codes "fix x 1" ∷ codes "drop event 1" ∷ codes "time 2 3" ∷ codes "violations" ∷ [])
    (as_lines (codes "ok" ∷ codes "refused 4 time 12 is out of range" ∷ codes "refused 11 event 2 has no time" ∷ codes "fault word 2 is not a number" ∷ codes "refused 3 event 1 is used by activity 1" ∷ codes "ok" ∷ codes "violations 1" ∷ codes "activity 2" ∷ []))
unfolding digits
working_timetable = (
  _,
  (
    _,
    _,
    _,
    record { tells = refl; leaves = refl },
    (
      _,
      _,
      _,
      record { tells = refl; leaves = refl },
      (
        _,
        _,
        _,
        record { tells = refl; stays = refl },
        (
          _,
          _,
          _,
          record { tells = refl; stays = refl },
          (
            _,
            _,
            _,
            record { tells = refl; stays = refl },
            (
              _,
              _,
              _,
              record { tells = refl; leaves = refl },
              (
                _,
                _,
                _,
                record { tells = refl; leaves = refl },
                (
                  _,
                  _,
                  _,
                  record { tells = refl; stays = refl },
                  (refl, refl),
                  refl,
                ),
                refl,
              ),
              refl,
            ),
            refl,
          ),
          refl,
        ),
        refl,
      ),
      refl,
    ),
    refl,
  ),
)
