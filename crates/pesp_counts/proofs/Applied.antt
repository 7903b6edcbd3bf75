-- What the keeper keeps after an edit.
use Rattle.std.proofs.Common.{◌≡◌, ℕ, ◌≤◌, false, List, [], ◌∷◌, Ok, length, vec_capacity, refl, sym, ap, subst, ◌∙◌, arith}
use Rattle.pesp_base.specs.declared.activity.Activity.{Activity}
use Rattle.pesp_instance.specs.declared.edit.Edit.{Edit}
use Rattle.pesp_instance.specs.declared.edit.Edit.TheVariants.{AddEvent, DropEvent, Fix, SetWindow, Unfix, AddActivity, DropActivity, SetSpan, SetWeight, SetEnds}
use Rattle.pesp_instance.specs.Edited.{edited}
use Rattle.pesp_instance.specs.Network.{Network}
use Rattle.pesp_domains.specs.Sweeps.{AreDomains}
use Rattle.pesp_domains.proofs.Pushes.{pushed_none}
use Rattle.pesp_counts_supports.specs.Counts.{has_at}
use Rattle.pesp_counts.specs.Changes.{WereSettled}
use Rattle.pesp_counts.specs.declared.keeper.Pushed.{Pushed}
use Rattle.pesp_counts.specs.declared.keeper.CountKeeper.TheInside.{Inside}
use Rattle.pesp_counts.specs.Keeping.{AreSettled, IsKeeping, adds, pairs_of}
use Rattle.pesp_counts.specs.Keeping.AreMarked.{bottom}
use Rattle.pesp_counts_supports.specs.Resting.{HaveRoom}
use Rattle.pesp_counts_arcs.specs.Links.{Links}
use Rattle.pesp_counts_arcs.specs.Places.{numbered}
use Rattle.pesp_counts_supports.specs.Supports.{HaveSameShape, Supports}
use Rattle.pesp_counts.proofs.Keeping.{for_same, room_same}
use Rattle.pesp_counts.proofs.Remade.{out_none}

-- what was taken out is forgotten
forgotten : (I : Network) (links : Links) (s s' : Supports) → AreSettled I [] links s → s'.rows ≡ s.rows → s'.counted ≡ s.counted → s'.counts ≡ s.counts → s'.trail ≡ [] → HaveSameShape s s' → AreSettled I [] links s'
forgotten I links s s' h rows counted counts trail shape =
    record {
      network = h.network;
      fits = for_same I links s s' shape h.fits;
      rest =
          record {
            exact = λ p k is. rw (shape.period, counts, counted) (h.rest.exact p k is);
            level = λ p r. ap (λ xs. has_at xs p r) counted ∙ h.rest.level p r ∙ ap (λ xs. has_at xs p r) (sym rows);
            live = λ p k is. rw (shape.period, counts, rows) (h.rest.live p k is);
            below = λ p r i. let l = h.rest.below p r (ap (λ xs. has_at xs p r) (sym rows) ∙ i) in omega (arith, l, shape.period);
            out = out_none s' trail;
          };
      domains = subst (λ xs. AreDomains I [] (numbered links.events (has_at xs))) (sym rows) h.domains;
    }

pub none_pushed : (stack : List Pushed) → pairs_of stack ≡ [] → stack ≡ []
none_pushed [] none = refl
none_pushed (x ∷ xs) none = absurd (omega (arith, ap length none))

pub not_adds : (edit : Edit) → ((e : ℕ) → edit ≡ AddEvent e → ⊥) → ((a : Activity) → edit ≡ AddActivity a → ⊥) → adds edit ≡ false
not_adds (AddEvent e) a b = absurd (a e refl)
not_adds (AddActivity x) a b = absurd (b x refl)
not_adds (DropEvent e) a b = refl
not_adds (Fix e t) a b = refl
not_adds (SetWindow e first length) a b = refl
not_adds (Unfix e) a b = refl
not_adds (DropActivity n) a b = refl
not_adds (SetSpan n span) a b = refl
not_adds (SetWeight n weight) a b = refl
not_adds (SetEnds n from to) a b = refl

-- what an edit finds: the domains of the instance before it, and room for what it puts back
pub found : (i : Inside) (J : Network) (edit : Edit) (s : Supports) → IsKeeping i.instance i.pushed.items i.counted.links i.counted.supports (vec_capacity i.pushed) (vec_capacity i.counted.back) (vec_capacity i.counted.restored) → pairs_of i.pushed.items ≡ [] → edited i.instance edit ≡ Ok J
    → s.rows ≡ i.counted.supports.rows → s.counted ≡ i.counted.supports.counted → s.counts ≡ i.counted.supports.counts → s.trail ≡ [] → HaveSameShape i.counted.supports s → WereSettled i.instance J edit i.counted.links s × HaveRoom s (vec_capacity i.counted.back) (vec_capacity i.counted.restored)
found i J edit s h nothing made rows counted counts trail shape = (
  record { made = made; settled = forgotten i.instance i.counted.links i.counted.supports s (subst (λ xs. AreSettled i.instance xs i.counted.links i.counted.supports) nothing h.settled) rows counted counts trail shape; trail = trail },
  room_same i.counted.supports s (vec_capacity i.counted.back) (vec_capacity i.counted.restored) shape h.room_back,
)

-- where nothing is pushed
pub keeping_none : (I : Network) (stack : List Pushed) (links : Links) (s : Supports) (for_pushed for_back for_restored : ℕ) → stack ≡ [] → AreSettled I [] links s → length I.events ≤ for_pushed → HaveRoom s for_back for_restored → IsKeeping I stack links s for_pushed for_back for_restored
keeping_none I stack links s for_pushed for_back for_restored nothing settled room room_back =
    rw nothing
    (record {
      settled = settled;
      pushed = pushed_none I;
      marked = bottom (length s.trail);
      room_pushed = room;
      room_back = room_back;
    })
