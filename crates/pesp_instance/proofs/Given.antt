-- An instance to which activities are given at once is the one that has all put in, and there is none where those of a table lead elsewhere.
use Rattle.std.proofs.Common.{◌≡◌, ◌≤◌, List, [], All, length, Option, None, Some, Result, Ok, Err, IfNone, IfOk, IfSome, sym, ap, subst, ◌∙◌, arith}
use Rattle.std.specs.Option.{MatchOption}
use Rattle.pesp_base.specs.declared.activity.Activity.{Activity}
use Rattle.pesp_base.specs.Limits.{max_activities}
use Rattle.pesp_instance.specs.Filled.{ArePut, IsFilled}
use Rattle.pesp_instance.specs.Network.{HasEnds, IsNetwork, Network}
use Rattle.pesp_instance.proofs.Made.{ArePut-same, length-ArePut}
use Rattle.pesp_instance.proofs.Numbers.{activity_number as id_of}

-- no instance has more than it may
pub few_given : (I J : Network) (given : List Activity) → IsFilled I given J → length given ≤ max_activities I.period
few_given I J given filled =
    let period = ap (λ (K : Network). K.period) filled.kept in
    let few : length J.activities ≤ max_activities I.period = rw (← period) filled.network.few_activities in
    omega (arith, few, length-ArePut id_of [] given J.activities filled.put)

-- as a table of them is taken
pub filled_by : {E : Type 0} (I : Network) (given last : List Activity) (r : Result (Option Network) E) → I.activities ≡ [] → ArePut id_of [] given last → IfOk r (λ f. IfNone f (All (HasEnds I.events) last → ⊥)) → IfOk r (λ f. IfSome f (λ J. J ≡ record I { activities = last })) → IfOk r (λ f. IfSome f IsNetwork) → IfOk r (λ f. MatchOption f ((J : Network) → IsFilled I given J → ⊥) (IsFilled I given))
filled_by I given last (Err e) none put missing value net = tt
filled_by I given last (Ok None) none put missing value net = λ J filled.
    let events = ap (λ (K : Network). K.events) filled.kept in
    let same = ArePut-same id_of [] given J.activities last filled.put put in
    missing (rw (events, same) at filled.network.ends)
filled_by I given last (Ok (Some J)) none put missing value net =
    let same : J.activities ≡ last = ap (λ (K : Network). K.activities) value in record {
      none = none;
      put = subst (ArePut id_of [] given) (sym same) put;
      kept = value ∙ ap (λ as'. record I { activities = as' }) (sym same);
      network = net;
    }
