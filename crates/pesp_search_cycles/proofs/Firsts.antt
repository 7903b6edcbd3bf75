-- First maps of sums of which only those below a cap are kept.
use Rattle.std.proofs.Common.{◌≡◌, ℕ, ◌+◌, ◌∙◌, List, take, inl, inr, sym, subst, arith}
use Rattle.std.proofs.lemmas.Bool.{cases_lt}
use Rattle.pesp_search_least.specs.declared.outcome.Candidate.{Candidate}
use Rattle.pesp_search_least.specs.declared.outcome.First.{First}
use Rattle.pesp_search_least.specs.declared.outcome.First.TheVariants.{Done, Spent}
use Rattle.pesp_search_least.specs.Order.{IsFirst, IsFirstOutcome, IsSettled, Precedes}
use Rattle.pesp_search_least.specs.Reached.{AreEqual}
use Rattle.pesp_search_least.proofs.Reached.{least_equal}
use Rattle.pesp_search_least.specs.Sums.{InSome, IsCut, IsLeast, Sums}
use Rattle.pesp_search_network.specs.Arcs.{Arcs, IsCosted, IsMet}
use Rattle.pesp_search_cycles.specs.declared.boxes.Boxes.{Boxes}
use Rattle.pesp_search_cycles.specs.declared.range.Range.{Range}
use Rattle.pesp_search_cycles.specs.declared.settling.Settling.{Settling}
use Rattle.pesp_search_cycles.specs.Settlings.{IsTold}
use Rattle.pesp_search_cycles.specs.Maps.{IsLeft, IsSummed, Net}
use Rattle.pesp_search_cycles.specs.Ranges.{AreIn}

module _ (all few : Sums) (cost : ℕ) (cut : IsCut (cost + 1) all few) where
  pub least_of_few : (candidate : Candidate) → candidate.cost ≡ cost → IsLeast all candidate → IsLeast few candidate
  least_of_few candidate e l = record {
    has = cut.keeps candidate.map.items candidate.cost (omega (arith, e)) l.has;
    least = λ map sum h. l.least map sum (cut.within map sum h);
  }

  -- what costs as much as a map of least cost is one
  least_of_all : (least candidate : Candidate) → IsLeast all least → least.cost ≡ cost → candidate.cost ≡ cost → IsLeast few candidate → IsLeast all candidate
  least_of_all least candidate l e f h = record {
    has = cut.within candidate.map.items candidate.cost h.has;
    least = λ map sum has. omega (arith, l.least map sum has, e, f);
  }

  first_of_all : (least candidate : Candidate) → IsLeast all least → least.cost ≡ cost → candidate.cost ≡ cost → IsFirst few candidate → IsFirst all candidate
  first_of_all least candidate l e f h = record {
    least = least_of_all least candidate l e f h.least;
    first = λ map sum has before.
        elim (cases_lt sum (cost + 1)) [
          | inl low ↦ h.first map sum (cut.keeps map sum low has) before
          | inr high ↦ omega (arith, high, f)
        ];
  }

  settled_of_all : (least candidate : Candidate) (settled : ℕ) → candidate.cost ≡ cost → IsSettled few settled candidate → IsSettled all settled candidate
  settled_of_all least candidate settled f h map sum has before =
      elim (cases_lt sum (cost + 1)) [
        | inl low ↦ h map sum (cut.keeps map sum low has) before
        | inr high ↦ omega (arith, high, f)
      ]

  pub settled_of_few : (candidate : Candidate) (settled : ℕ) → IsSettled all settled candidate → IsSettled few settled candidate
  settled_of_few candidate settled h map sum has before = h map sum (cut.within map sum has) before

  pub first_of : (least : Candidate) (first : First) → IsLeast all least → least.cost ≡ cost → IsFirstOutcome few cost first → IsFirstOutcome all cost first
  first_of least (Done candidate) l e h = (first_of_all least candidate l e h.1 h.0, h.1)
  first_of least (Spent candidate settled) l e h = (least_of_all least candidate l e h.1 h.0, h.1, settled_of_all least candidate settled h.1 h.2)

-- the leaves of a region that was made of these ones: where the ranges have the residues of all maps, no map of theirs is lost
pub region_cut : (N V : Net) (A : Arcs) (R Q : List Range) (leaves kept : List Boxes) (cap : ℕ) → V ≡ N → A ≡ N.network → Q ≡ R → kept ≡ leaves → ((xs : List ℕ) → IsMet A xs → AreIn R xs) → IsCut cap (IsCosted N.network) (InSome (IsSummed N) leaves) → IsCut cap (IsCosted N.network) (IsLeft V Q kept)
region_cut N V A R Q leaves kept cap cycles network residues boxes all cut =
    let inside : (xs : List ℕ) → IsMet N.network xs → AreIn R xs = subst (λ (B : Arcs). (xs : List ℕ) → IsMet B xs → AreIn R xs) network all in
    let left : IsCut cap (IsCosted N.network) (IsLeft N R leaves) = record {
      keeps = λ xs cost less s. (cut.keeps xs cost less s, inside xs s.met);
      within = λ xs cost s. cut.within xs cost s.0;
    } in
    subst (λ (M : Net). IsCut cap (IsCosted N.network) (IsLeft M Q kept)) (sym cycles)
    (subst (λ (T : List Range). IsCut cap (IsCosted N.network) (IsLeft N T kept)) (sym residues)
    (subst (λ (ls : List Boxes). IsCut cap (IsCosted N.network) (IsLeft N R ls)) (sym boxes) left))

-- ---- what is told where a search stops

settled_equal : (sums : Sums) (settled : ℕ) (one other : Candidate) → AreEqual one other → IsSettled sums settled one → IsSettled sums settled other
settled_equal sums settled one other same is map sum has before =
    omega (arith, is map sum has (subst (λ (xs : List ℕ). Precedes (take settled map) (take settled xs)) same.map before), same.cost)

pub told_first : (A : Arcs) (cost : ℕ) (s : Settling) (first : First) → IsTold s first → IsLeast (IsCosted A) s.best → s.best.cost ≡ cost → IsSettled (IsCosted A) s.settled s.best → IsFirstOutcome (IsCosted A) cost first
told_first A cost s (Done candidate) told least e settled = absurd told
told_first A cost s (Spent candidate events) told least e settled = (
  least_equal (IsCosted A) s.best candidate told.0 least,
  told.0.cost ∙ e,
  subst (λ (n : ℕ). IsSettled (IsCosted A) n candidate) (sym told.1) (settled_equal (IsCosted A) s.settled s.best candidate told.0 settled),
)
