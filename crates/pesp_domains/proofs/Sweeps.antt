-- The domains by computation: of all pairs, those that do not stand by the others go, sweep after sweep, until each one that is left stands by what is left.
use Rattle.std.proofs.Common.{◌≡◌, ℕ, zero, suc, ◌<◌, ◌==◌, ◌≤◌, nat_lt, Bool, true, false, cond, ◌&&◌, ◌||◌, not, ◌↔◌, List, [], ◌∷◌, filter, length, IsTrue, refl, sym, subst, ◌∙◌, inl, inr, arith}
use Rattle.std.specs.Bool.{Decides}
use Rattle.std.specs.List.{Contains, list_all, list_any}
use Rattle.std.proofs.lemmas.Bool.{agree_below, agree_below_at, and_parts, cases_lt, false≢true}
use Rattle.std.proofs.lemmas.Bool.Decides.{Decides-and, Decides-eqb, Decides-like, Decides-ltb, Decides-or}
use Rattle.std.proofs.lemmas.List.{get_or_past}
use Rattle.pesp_base.specs.declared.activity.Activity.{Activity}
use Rattle.pesp_base.specs.Tensions.{is_met}
use Rattle.pesp_base.proofs.Laws.{met_is}
use Rattle.pesp_instance.specs.Network.{Network, admits, has_event}
use Rattle.pesp_instance.proofs.Rising.{length-filter_le}
use Rattle.pesp_domains.specs.declared.pair.Pair.{Pair}
use Rattle.pesp_domains.specs.declared.side.Side.{Side}
use Rattle.pesp_domains.specs.declared.side.Side.TheVariants.{Tail, Head}
use Rattle.pesp_domains.specs.Domains.{HasPartner, In, InDomains, IsAdmitted, IsDomain, Joins, Stands, holds, other, own}
use Rattle.pesp_domains.specs.Sweeps.{all_pairs}
use Rattle.pesp_domains.proofs.Families.{here, here_or_there, in_all_pairs, in_filter, not_in_none, there}
use Rattle.pesp_domains.proofs.Laws.{InDomains-admitted, InDomains-stands, Stands-more}

-- ---- the tests

-- whether the list has the pair
abbrev pub is_in : List Pair → ℕ → ℕ → Bool
is_in pairs e r = list_any (λ p. p.event == e && p.residue == r) pairs

-- whether the activity is met by residue r at this end and s at the other
abbrev joins : Side → ℕ → Activity → ℕ → ℕ → Bool
joins Tail period a r s = is_met period a.span r s
joins Head period a r s = is_met period a.span s r

-- whether the residue at this end of the activity has a partner in the list along it
abbrev has_partner : ℕ → List Pair → Side → Activity → ℕ → Bool
has_partner period pairs side a r = list_any (λ p. p.event == other side a && joins side period a r p.residue) pairs

-- whether the pair has a partner in the list along the activity, where its event is at this end
abbrev has_partner_at : ℕ → List Pair → Pair → Activity → Side → Bool
has_partner_at period pairs p a side = not (own side a == p.event) || has_partner period pairs side a p.residue

-- whether both ends pass
abbrev both_ends : (Side → Bool) → Bool
both_ends test = test Tail && test Head

-- whether no pushed pair of its event has another residue
abbrev agrees_with_all : List Pair → Pair → Bool
agrees_with_all pushes p = list_all (λ q. not (q.event == p.event) || q.residue == p.residue) pushes

module _ (I : Network) (pushes : List Pair) where
  -- whether the pair is of the instance, and is in the window and agrees with the pushed residue of its event
  abbrev is_admitted : Pair → Bool
  is_admitted p = has_event I p.event && nat_lt p.residue I.period && admits I p.event p.residue && agrees_with_all pushes p

  -- whether the pair is admitted, and has a partner in the list along each activity at each end that is its event
  abbrev stands : List Pair → Pair → Bool
  stands pairs p = is_admitted p && list_all (λ a. both_ends (has_partner_at I.period pairs p a)) I.activities

  -- the pairs that stand by the list
  abbrev sweep : List Pair → List Pair
  sweep pairs = filter (stands pairs) pairs

  -- what n sweeps leave of all pairs
  abbrev pub left : ℕ → List Pair
  left zero = all_pairs I
  left (suc n) = sweep (left n)

  -- whether each pair of the list stands by the list
  abbrev pub is_supported : List Pair → Bool
  is_supported pairs = list_all (stands pairs) pairs

-- ---- what the tests tell

module _ {X : Type 0} (test : X → Bool) (P : X → Type 0) (each : (x : X) → Decides (test x) (P x)) where
  -- whether a member is as wanted
  any_is : (xs : List X) → Decides (list_any test xs) ((x : X) × Contains xs x × P x)
  any_is [] = (λ e. absurd (false≢true e), λ h. absurd (not_in_none h.0 h.1))
  any_is (y ∷ xs) =
      Decides-like (test y || list_any test xs)
      (λ h. elim h [ inl now ↦ (y, here y xs, now) | inr later ↦ (later.0, there later.0 y xs later.1, later.2) ])
      (λ h. elim (here_or_there h.0 y xs h.1) [ inl same ↦ inl (subst P (sym same) h.2) | inr later ↦ inr (h.0, later, h.2) ])
      (Decides-or (test y) (list_any test xs) (each y) (any_is xs))

  -- whether each member is as wanted
  all_is : (xs : List X) → Decides (list_all test xs) ((x : X) → Contains xs x → P x)
  all_is [] = (λ e x i. absurd (not_in_none x i), λ h. refl)
  all_is (y ∷ xs) =
      Decides-like (test y && list_all test xs)
      (λ h x i. elim (here_or_there x y xs i) [ inl same ↦ subst P same h.0 | inr later ↦ h.1 x later ])
      (λ h. (h y (here y xs), λ x i. h x (there x y xs i)))
      (Decides-and (test y) (list_all test xs) (each y) (all_is xs))

-- whether one thing holds where another does
if_then : {P Q : Type 0} (x y : Bool) → Decides x P → Decides y Q → Decides (not x || y) (P → Q)
if_then true y p q = (λ e _. q.0 e, λ h. q.1 (h (p.0 refl)))
if_then false y p q = (λ _ h. absurd (false≢true (p.1 h)), λ _. refl)

-- a test that stands in the definition itself
itself : (b : Bool) → Decides b (IsTrue b)
itself b = (λ e. e, λ e. e)

-- a list has a pair where the test finds it
in_is : (pairs : List Pair) (e r : ℕ) → Decides (is_in pairs e r) (In pairs e r)
in_is pairs e r =
    Decides-like (is_in pairs e r)
    (λ h. subst (Contains pairs) (one_pair h.0 (record { event = e; residue = r }) h.2.0 h.2.1) h.1)
    (λ i. (record { event = e; residue = r }, i, (refl, refl)))
    (any_is (λ p. p.event == e && p.residue == r) (λ p. (p.event ≡ e) × (p.residue ≡ r)) (λ p. Decides-and _ _ (Decides-eqb p.event e) (Decides-eqb p.residue r)) pairs)
  where
    one_pair : (p q : Pair) → p.event ≡ q.event → p.residue ≡ q.residue → p ≡ q
    one_pair p q same also = λ i. record { event = same i; residue = also i }

-- a pair agrees with the pushed pairs where the test says so
agrees_is : (pushes : List Pair) (p : Pair) → Decides (agrees_with_all pushes p) ((s : ℕ) → In pushes p.event s → s ≡ p.residue)
agrees_is pushes p =
    Decides-like (agrees_with_all pushes p)
    (λ h s i. h (record { event = p.event; residue = s }) i refl)
    (λ h q i same. h q.residue (subst (λ e. In pushes e q.residue) same i))
    (all_is (λ q. not (q.event == p.event) || q.residue == p.residue) (λ q. q.event ≡ p.event → q.residue ≡ p.residue) (λ q. if_then _ _ (Decides-eqb q.event p.event) (Decides-eqb q.residue p.residue)) pushes)

-- a pair is admitted where the test says so
admitted_is : (I : Network) (pushes : List Pair) (p : Pair) → Decides (is_admitted I pushes p) (IsAdmitted I pushes p.event p.residue)
admitted_is I pushes p =
    Decides-like (is_admitted I pushes p)
    (λ h. record { of_event = h.0.0.0; below = h.0.0.1; window = h.0.1; pushed = h.1 })
    (λ h. (((h.of_event, h.below), h.window), h.pushed))
    (Decides-and _ _ (Decides-and _ _ (Decides-and _ _ (itself (has_event I p.event)) (Decides-ltb p.residue I.period)) (itself (admits I p.event p.residue))) (agrees_is pushes p))

module _ (period : ℕ) (some : 0 < period) where
  -- an activity is met where the test says so
  joins_is : (side : Side) (a : Activity) (r s : ℕ) → Decides (joins side period a r s) (Joins side period a r s)
  joins_is Tail a r s = met_is period a.span r s some
  joins_is Head a r s = met_is period a.span s r some

  -- a residue has a partner where the test finds one
  partner_is : (pairs : List Pair) (side : Side) (a : Activity) (r : ℕ) → Decides (has_partner period pairs side a r) (HasPartner period (In pairs) side a r)
  partner_is pairs side a r =
      Decides-like (has_partner period pairs side a r)
      (λ h. (h.0.residue, subst (λ e. In pairs e h.0.residue) h.2.0 h.1, h.2.1))
      (λ h. (record { event = other side a; residue = h.0 }, h.1, (refl, h.2)))
      (any_is (λ p. p.event == other side a && joins side period a r p.residue) (λ p. (p.event ≡ other side a) × Joins side period a r p.residue)
      (λ p. Decides-and _ _ (Decides-eqb p.event (other side a)) (joins_is side a r p.residue)) pairs)

  -- the same for a pair that may be at another event than this end
  partner_at_is : (pairs : List Pair) (p : Pair) (a : Activity) (side : Side)
      → Decides (has_partner_at period pairs p a side) (own side a ≡ p.event → HasPartner period (In pairs) side a p.residue)
  partner_at_is pairs p a side = if_then _ _ (Decides-eqb (own side a) p.event) (partner_is pairs side a p.residue)

-- both ends are as wanted where each is
both_is : (test : Side → Bool) (P : Side → Type 0) → ((side : Side) → Decides (test side) (P side)) → Decides (both_ends test) ((side : Side) → P side)
both_is test P each = Decides-like (both_ends test) at (λ h. (h Tail, h Head)) (Decides-and (test Tail) (test Head) (each Tail) (each Head))
  where
    at : P Tail × P Head → (side : Side) → P side
    at h Tail = h.0
    at h Head = h.1

-- a pair stands by a list where the test says so
stands_is : (I : Network) (pushes pairs : List Pair) (p : Pair) → 0 < I.period → Decides (stands I pushes pairs p) (Stands I pushes (In pairs) p.event p.residue)
stands_is I pushes pairs p some =
    Decides-like (stands I pushes pairs p)
    (λ h. record { admitted = h.0; partner = λ side a i. h.1 a i side })
    (λ h. (h.admitted, λ a i side. h.partner side a i))
    (Decides-and _ _ (admitted_is I pushes p)
    (all_is (λ a. both_ends (has_partner_at I.period pairs p a)) (λ a. (side : Side) → own side a ≡ p.event → HasPartner I.period (In pairs) side a p.residue)
    (λ a. both_is (has_partner_at I.period pairs p a) (λ side. own side a ≡ p.event → HasPartner I.period (In pairs) side a p.residue) (partner_at_is I.period some pairs p a)) I.activities))

-- ---- the law

module _ (I : Network) (pushes : List Pair) where
  -- where there is a residue the period is not zero
  some_residue : (r : ℕ) → r < I.period → 0 < I.period
  some_residue r below = omega (arith, below)

  -- no sweep takes out a pair of the domains
  left_covers : (n : ℕ) (e r : ℕ) → InDomains I pushes e r → In (left I pushes n) e r
  left_covers zero e r h = let w = InDomains-admitted I pushes e r h in in_all_pairs I e r w.of_event w.below
  left_covers (suc n) e r h =
      let pairs = left I pushes n in
      let w = Stands-more I pushes (InDomains I pushes) (In pairs) (left_covers n) e r (InDomains-stands I pushes e r h) in
      in_filter (stands I pushes pairs) pairs (record { event = e; residue = r }) (left_covers n e r h)
      ((stands_is I pushes pairs (record { event = e; residue = r }) (some_residue r w.admitted.below)).1 w)

  -- a list whose pairs stand by it has pairs of the domains alone
  supported_within : (pairs : List Pair) → is_supported I pushes pairs ≡ true → (e r : ℕ) → In pairs e r → InDomains I pushes e r
  supported_within pairs supported e r i =
      let each = (all_is (stands I pushes pairs) (λ p. IsTrue (stands I pushes pairs p)) (λ p. itself (stands I pushes pairs p)) pairs).0 supported in
      let parts = and_parts _ _ (each (record { event = e; residue = r }) i) in
      let below = ((admitted_is I pushes (record { event = e; residue = r })).0 parts.0).below in
      record {
        family = pairs;
        supported = record { each = λ f s j. (stands_is I pushes pairs (record { event = f; residue = s }) (some_residue r below)).0 (each (record { event = f; residue = s }) j) };
        member = i;
      }

  module _ (n : ℕ) (supported : is_supported I pushes (left I pushes n) ≡ true) where
    -- where each pair that n sweeps leave stands by what they leave, the pairs left are the domains
    pub swept : (e r : ℕ) → (is_in (left I pushes n) e r ≡ true) ↔ InDomains I pushes e r
    swept e r = (
      (λ h. supported_within (left I pushes n) supported e r ((in_is (left I pushes n) e r).0 h)),
      (λ h. (in_is (left I pushes n) e r).1 (left_covers n e r h)),
    )

    -- and a row that holds an event's residues among them is the event's domain
    pub swept_row : (e : ℕ) (row : List Bool) → length row ≡ I.period → agree_below (holds row) (is_in (left I pushes n) e) I.period ≡ true → IsDomain I pushes e row
    swept_row e row long agree =
        record {
          long = long;
          exact = λ r.
              elim (cases_lt r I.period) [
                | inl below ↦
                    let same : holds row r ≡ is_in (left I pushes n) e r = agree_below_at (holds row) (is_in (left I pushes n) e) I.period r agree below in
                    (λ h. (swept e r).0 (sym same ∙ h), λ h. same ∙ (swept e r).1 h)
                | inr past ↦ (
                  λ h. absurd (false≢true (sym (get_or_past row r false (omega (arith, long, past))) ∙ h)),
                  λ h. let below = (InDomains-admitted I pushes e r h).below in absurd (omega (arith, past, below)),
                )
              ];
        }

-- ---- the sweeps come to an end

-- a test that some member fails lets through fewer
fewer_pass : {X : Type 0} (test : X → Bool) (xs : List X) → list_all test xs ≡ false → length (filter test xs) < length xs
fewer_pass test [] fails = absurd (false≢true (sym fails))
fewer_pass test (x ∷ xs) fails =
    elim (test x) as (λ b. (b && list_all test xs) ≡ false → length (cond b (x ∷ filter test xs) (filter test xs)) < length (x ∷ xs)) [
      | true ↦ λ later. let rest = fewer_pass test xs later in omega (arith, rest)
      | false ↦ λ _. let rest = length-filter_le test xs in omega (arith, rest)
    ] fails

module _ (I : Network) (pushes : List Pair) where
  -- where some pair does not stand by what is left, one more sweep leaves fewer
  fewer_left : (n : ℕ) → is_supported I pushes (left I pushes n) ≡ false → length (left I pushes (suc n)) < length (left I pushes n)
  fewer_left n fails = fewer_pass (stands I pushes (left I pushes n)) (left I pushes n) fails

  -- after no more sweeps than there are pairs left, each one that is left then stands by what is left then
  sweeps_end : (most n : ℕ) → length (left I pushes n) ≤ most → (m : ℕ) × (is_supported I pushes (left I pushes m) ≡ true)
  sweeps_end zero n few =
      elim (is_supported I pushes (left I pushes n)) as (λ b. is_supported I pushes (left I pushes n) ≡ b → (m : ℕ) × (is_supported I pushes (left I pushes m) ≡ true)) [
        | true ↦ λ is. (n, is)
        | false ↦ λ fails. let fewer = fewer_left n fails in absurd (omega (arith, few, fewer))
      ] refl
  sweeps_end (suc most) n few =
      elim (is_supported I pushes (left I pushes n)) as (λ b. is_supported I pushes (left I pushes n) ≡ b → (m : ℕ) × (is_supported I pushes (left I pushes m) ≡ true)) [
        | true ↦ λ is. (n, is)
        | false ↦ λ fails. let fewer = fewer_left n fails in sweeps_end most (suc n) (omega (arith, few, fewer))
      ] refl

  -- after some number of sweeps each pair that is left stands by what is left
  pub swept_at_last : (n : ℕ) × (is_supported I pushes (left I pushes n) ≡ true)
  swept_at_last = sweeps_end (length (left I pushes 0)) 0 (omega arith)
