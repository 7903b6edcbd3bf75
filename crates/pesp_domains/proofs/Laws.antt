-- Laws of the domains: what stands by a family stands by a larger one, the domains stand by themselves, and taking out what does not stand ends at them.
use Rattle.std.proofs.Common.{ℕ, Bool, List, ◌++◌, filter, sym, subst, inl, inr}
use Rattle.std.specs.List.{Contains}
use Rattle.std.proofs.lemmas.List.Elements.{Contains-append_left, Contains-append_right, Contains-append_cases}
use Rattle.pesp_base.specs.declared.activity.Activity.{Activity}
use Rattle.pesp_instance.specs.Network.{Network}
use Rattle.pesp_domains.specs.declared.pair.Pair.{Pair}
use Rattle.pesp_domains.specs.declared.side.Side.{Side}
use Rattle.pesp_domains.specs.Domains.{In, InDomains, IsAdmitted, IsSupported, Stands}
use Rattle.pesp_domains.specs.Sweeps.{AreAdmitted, AreDomains, Covers, IsSettledAt, Of, Pairs, all_pairs}
use Rattle.pesp_domains.proofs.Families.{in_all_pairs, in_filter, of_filter}

pub Stands-more : (I : Network) (pushes : List Pair) (S S' : ℕ → ℕ → Type 0) → ((e r : ℕ) → S e r → S' e r) → (e r : ℕ) → Stands I pushes S e r → Stands I pushes S' e r
Stands-more I pushes S S' more e r h =
    record {
      admitted = h.admitted;
      partner = λ side a is at. let w = h.partner side a is at in (w.0, more _ _ w.1, w.2);
    }

-- each pair of the domains stands by the domains
pub InDomains-stands : (I : Network) (pushes : List Pair) (e r : ℕ) → InDomains I pushes e r → Stands I pushes (InDomains I pushes) e r
InDomains-stands I pushes e r h =
    Stands-more I pushes (In h.family) (InDomains I pushes)
    (λ f s i. record { family = h.family; supported = h.supported; member = i }) e r (h.supported.each e r h.member)

pub InDomains-admitted : (I : Network) (pushes : List Pair) (e r : ℕ) → InDomains I pushes e r → IsAdmitted I pushes e r
InDomains-admitted I pushes e r h = (InDomains-stands I pushes e r h).admitted

-- the union of two supported families is one
pub IsSupported-append : (I : Network) (pushes F G : List Pair) → IsSupported I pushes F → IsSupported I pushes G → IsSupported I pushes (F ++ G)
IsSupported-append I pushes F G f g =
    record {
      each = λ e r h.
          elim (Contains-append_cases F G _ h) [
            | inl i ↦ Stands-more I pushes (In F) (In (F ++ G)) (λ x s. Contains-append_left F G _) e r (f.each e r i)
            | inr i ↦ Stands-more I pushes (In G) (In (F ++ G)) (λ x s. Contains-append_right F G _) e r (g.each e r i)
          ];
    }

-- a set in which each pair stands by the set is within the domains
pub standing_within : (I : Network) (pushes : List Pair) (S : Pairs) → ((e r : ℕ) → Of S e r → Stands I pushes (Of S) e r) → (e r : ℕ) → Of S e r → InDomains I pushes e r
standing_within I pushes S stands e r h =
    let test : Pair → Bool = λ p. S p.event p.residue in
    let family : List Pair = filter test (all_pairs I) in
    let into : (f s : ℕ) → Of S f s → In family f s =
    λ f s i. let w = (stands f s i).admitted in in_filter test (all_pairs I) _ (in_all_pairs I f s w.of_event w.below) i
    in
    let out : (f s : ℕ) → In family f s → Of S f s = λ f s i. (of_filter test (all_pairs I) _ i).1 in
    record {
      family = family;
      supported = record { each = λ f s i. Stands-more I pushes (Of S) (In family) into f s (stands f s (out f s i)) };
      member = into e r h;
    }

-- a set that covers the domains, whose pairs are admitted and have their partners along each activity, is the domains
pub settled_domains : (I : Network) (pushes : List Pair) (S : Pairs) → AreAdmitted I pushes S → Covers I pushes S → ((side : Side) (a : Activity) → Contains I.activities a → IsSettledAt I.period S side a) → AreDomains I pushes S
settled_domains I pushes S admitted covers settled =
    record {
      exact = λ e r. (
        standing_within I pushes S (λ f s i. record {
          admitted = admitted.each f s i;
          partner = λ side a is at. (settled side a is).each s (admitted.each f s i).below (subst (λ k. Of S k s) (sym at) i);
        }) e r,
        covers.each e r,
      );
    }

-- with fewer pushed pairs there are more domains
pub InDomains-fewer : (I : Network) (pushes all : List Pair) → ((e s : ℕ) → In pushes e s → In all e s) → (e r : ℕ) → InDomains I all e r → InDomains I pushes e r
InDomains-fewer I pushes all within e r h =
    record {
      family = h.family;
      supported =
          record {
            each = λ f s i.
                let w = h.supported.each f s i in
                record {
                  admitted = record { of_event = w.admitted.of_event; below = w.admitted.below; window = w.admitted.window; pushed = λ t j. w.admitted.pushed t (within f t j) };
                  partner = w.partner;
                };
          };
      member = h.member;
    }
