-- Activities that are listed at their ends one after another, by rising number.
use Rattle.std.proofs.Common.{◌≡◌, ◌≤◌, List, [], ◌∷◌, ◌++◌, All, length, map, refl, ◌∙◌}
use Rattle.std.proofs.lemmas.List.Elements.{All-nil}
use Rattle.std.specs.List.Sorted.{IsStrictlyIncreasing}
use Rattle.pesp_base.specs.declared.activity.Activity.{Activity}
use Rattle.pesp_base.specs.Limits.{max_activities}
use Rattle.pesp_base.specs.Numbered.{put_in}
use Rattle.pesp_instance.specs.declared.vertex.Vertex.{Vertex}
use Rattle.pesp_instance.specs.Ends.{AreListed, ListsMore, events_of, is_pair_of}
use Rattle.pesp_instance.specs.Network.{HasEnds, IsActivity, IsNetwork, Network}
use Rattle.pesp_instance.proofs.Numbers.{activity_number as id_of}
use Rattle.pesp_instance.proofs.PutLast.{none_before, put_last}
use Rattle.pesp_instance.proofs.Relisted.{AreListed-put_in}
use Rattle.pesp_instance.proofs.Rising.{All-put_in, Rises}

-- the activities are within the limits, lead between events, and are listed at their ends, and nothing else is
pub record IsLinkedTo (old new : List Vertex) (activities : List Activity) : Type 0 where
  pub listed : AreListed new activities
  pub ends : All (HasEnds (events_of old)) activities
  pub within : All IsActivity activities
  pub kept : events_of new ≡ events_of old

pub none_linked : (old : List Vertex) → AreListed old [] → IsLinkedTo old old []
none_linked old none = record { listed = none; ends = All-nil (HasEnds (events_of old)); within = All-nil IsActivity; kept = refl }

-- one more, of a greater number
pub linked_more : (old mid new : List Vertex) (front : List Activity) (a : Activity) (rest : List Activity) → Rises id_of (front ++ a ∷ rest) → IsLinkedTo old mid front → IsActivity a → HasEnds (events_of old) a → ListsMore (is_pair_of a) mid new → events_of new ≡ events_of mid → IsLinkedTo old new (front ++ a ∷ [])
linked_more old mid new front a rest rises so within ends more same =
    let last : put_in id_of a front ≡ front ++ a ∷ [] = put_last id_of front a rest rises in record {
      listed = rw (← last) (AreListed-put_in front mid new a so.listed (none_before id_of front a rest rises) more);
      ends = rw (← last) (All-put_in id_of (HasEnds (events_of old)) a front ends so.ends);
      within = rw (← last) (All-put_in id_of IsActivity a front within so.within);
      kept = same ∙ so.kept;
    }

-- an instance with other activities, which are listed
pub with_linked : (I : Network) (old new : List Vertex) (activities : List Activity) → IsNetwork I → events_of old ≡ I.events → IsStrictlyIncreasing (map id_of activities) → length activities ≤ max_activities I.period → IsLinkedTo old new activities → IsNetwork (record { period = I.period; events = events_of new; activities = activities })
with_linked I old new activities net same rising few linked =
    rw (linked.kept, same) (record {
      period_low = net.period_low;
      period_high = net.period_high;
      events_rise = net.events_rise;
      events_within = net.events_within;
      few_events = net.few_events;
      activities_rise = rising;
      activities_within = linked.within;
      few_activities = few;
      ends = rw same at linked.ends;
    })
