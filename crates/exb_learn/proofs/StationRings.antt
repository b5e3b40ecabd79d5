-- The rings of all slots, as a station is put or taken out.
use Rattle.std.proofs.Common.{◌≡◌, ◌≢◌, ◌≤◌, ◌<◌, ℕ, ◌+◌, Bool, true, false, not, cond, ◌==◌, refl, sym, ap, subst, ◌∙◌, arith, List, [], ◌∷◌, ◌++◌, length, slice_get, Option, Some, None}
use Rattle.std.specs.Prelude.{IfSome, IfNone}
use Rattle.std.specs.List.{IsDistinct, swap_remove}
use Rattle.std.specs.Map.{keys_of}
use Rattle.std.proofs.lemmas.Bool.{eqb-true}
use Rattle.std.proofs.lemmas.Option.{slice_get_within}
use Rattle.indexmap.specs.IndexMap.{insert_entry, set_value_at}
use Rattle.exb_learn.specs.declared.key.StationKey.{StationKey}
use Rattle.exb_learn.specs.declared.entries.DynamicEntry.{DynamicEntry}
use Rattle.exb_learn.specs.RingLinks.{Links, RingTable, links_of, room_of, taken, placed, removed, itself, first_of, moved_if, IsNow, IsLaid}
use Rattle.exb_learn.specs.Stations.{same, is_elsewhere, AllPass, IsUntil}
use Rattle.exb_learn.specs.EntryRings.{IsSlotted, IsPutting, IsRemoving, IsOldest, IsSeenAt}
use Rattle.exb_learn.proofs.SlotRings.{laid_first, laid_more, laid_moved, laid_kept, laid_less, laid_none, laid_some}
use Rattle.exb_learn.proofs.Lookups.{put_over, put_behind, found_at, slot_of}

move : (old new : RingTable) (l : Links) (es : List (StationKey × DynamicEntry)) (home key : DynamicEntry → ℕ) → IsNow old new l → IsLaid old.heads l es home key → IsLaid new.heads (links_of new) es home key
move old new l es home key now laid =
    subst (λ h. IsLaid h (links_of new) es home key) (sym now.heads) (subst (λ (m : Links). IsLaid old.heads m es home key) (sym now.links) laid)

-- ---- one ring more
refreshed : (heads : ℕ) (home key : DynamicEntry → ℕ) (l : Links) (es : List (StationKey × DynamicEntry)) (i ring : ℕ) (e : StationKey × DynamicEntry) (w : DynamicEntry) (b : Bool) →
    IsLaid heads l es home key → slice_get es i ≡ Some e → i < length es → ring ≡ home w → home w < heads → ((k : ℕ) (d : StationKey × DynamicEntry) → slice_get es k ≡ Some d → key d.1 ≤ key w) →
    (b ≡ false → (home w ≡ home e.1) × (key w ≡ key e.1)) →
    IsLaid heads (cond b (placed (taken l (heads + i)) ring (heads + i)) l) (set_value_at es i w) home key
refreshed heads home key l es i ring e w true laid there less ring_is under most same =
    subst (λ r. IsLaid heads (placed (taken l (heads + i)) r (heads + i)) (set_value_at es i w) home key) (sym ring_is) (laid_moved heads home key l es i w laid less under most)
refreshed heads home key l es i ring e w false laid there less ring_is under most same =
    let as_was = same refl in laid_kept heads home key l es i e w laid there as_was.0 as_was.1

differs : (a b : ℕ) → not (a == b) ≡ false → b ≡ a
differs a b h = sym (eqb-true a b (by_test (a == b) h))
  where
    by_test : (c : Bool) → not c ≡ false → c ≡ true
    by_test true h = refl
    by_test false h = cc

pub slotted_known : (es : List (StationKey × DynamicEntry)) (s : StationKey) (n : ℕ) (ages ports new_ages new_ports : RingTable) (slot port : ℕ) (known place : DynamicEntry) →
    IsPutting es s n ages ports slot (Some known) place → port ≡ place.port → place.port < 4160 →
    IsNow ages new_ages (moved_if ages (not (known.at == place.at)) 0 slot) →
    IsNow ports new_ports (moved_if ports (not (known.port == place.port)) port slot) →
    IsSlotted (insert_entry same es s place) n new_ages new_ports
slotted_known es s n ages ports new_ages new_ports slot port known place putting port_is under a b =
    let old = putting.slotted in
    let over = put_over s known place es (sym putting.known_is) in
    let at_slot : slice_get es slot ≡ Some (s, known) = ap (λ i. slice_get es i) putting.slot_is ∙ over.there in
    let entries : insert_entry same es s place ≡ set_value_at es slot place = over.entries ∙ ap (λ i. set_value_at es i place) (sym putting.slot_is) in
    let less : slot < length es = slice_get_within es slot (s, known) at_slot in
    let one = old.one_ring in
    let all = old.port_rings in
    subst (λ fs. IsSlotted fs n new_ages new_ports) (sym entries) (record {
      one_ring = a.heads ∙ old.one_ring;
      port_rings = b.heads ∙ old.port_rings;
      ages_fit = (let fit = old.ages_fit in let room = a.room in omega (arith, fit, room));
      ports_fit = (let fit = old.ports_fit in let room = b.room in omega (arith, fit, room));
      by_age = move ages new_ages (moved_if ages (not (known.at == place.at)) 0 slot) (set_value_at es slot place) (λ p. 0) (λ p. p.at) a
          (refreshed ages.heads (λ p. 0) (λ p. p.at) (links_of ages) es slot 0 (s, known) place (not (known.at == place.at)) old.by_age at_slot less refl (omega (arith, one)) putting.latest
          (λ h. (refl, differs known.at place.at h)));
      by_port = move ports new_ports (moved_if ports (not (known.port == place.port)) port slot) (set_value_at es slot place) (λ p. p.port) (λ p. 0) b
          (refreshed ports.heads (λ p. p.port) (λ p. 0) (links_of ports) es slot port (s, known) place (not (known.port == place.port)) old.by_port at_slot less port_is (omega (arith, all, under))
          (λ k d there. omega arith) (λ h. (differs known.port place.port h, refl)));
    })

pub slotted_new : (es : List (StationKey × DynamicEntry)) (s : StationKey) (n : ℕ) (ages ports new_ages new_ports : RingTable) (slot port : ℕ) (place : DynamicEntry) →
    IsPutting es s n ages ports slot None place → port ≡ place.port → place.port < 4160 →
    IsNow ages new_ages (placed (links_of ages) 0 (ages.heads + slot)) → IsNow ports new_ports (placed (links_of ports) port (ports.heads + slot)) →
    IsSlotted (insert_entry same es s place) n new_ages new_ports
slotted_new es s n ages ports new_ages new_ports slot port place putting port_is under a b =
    let old = putting.slotted in
    let behind = put_behind s place es (sym putting.known_is) in
    let last : slot ≡ length es = putting.slot_is ∙ behind.last in
    let one = old.one_ring in
    let all = old.port_rings in
    subst (λ fs. IsSlotted fs n new_ages new_ports) (sym behind.entries) (record {
      one_ring = a.heads ∙ old.one_ring;
      port_rings = b.heads ∙ old.port_rings;
      ages_fit = (let fit = old.ages_fit in let room = a.room in omega (arith, fit, room));
      ports_fit = (let fit = old.ports_fit in let room = b.room in omega (arith, fit, room));
      by_age = move ages new_ages (placed (links_of ages) 0 (ages.heads + slot)) (es ++ (s, place) ∷ []) (λ p. 0) (λ p. p.at) a
          (subst (λ k. IsLaid ages.heads (placed (links_of ages) 0 (ages.heads + k)) (es ++ (s, place) ∷ []) (λ p. 0) (λ p. p.at)) (sym last)
          (laid_more ages.heads (λ p. 0) (λ p. p.at) (links_of ages) es (s, place) old.by_age (omega (arith, one)) putting.latest));
      by_port = move ports new_ports (placed (links_of ports) port (ports.heads + slot)) (es ++ (s, place) ∷ []) (λ p. p.port) (λ p. 0) b
          (subst (λ r. IsLaid ports.heads (placed (links_of ports) r (ports.heads + slot)) (es ++ (s, place) ∷ []) (λ p. p.port) (λ p. 0)) (sym port_is)
          (subst (λ k. IsLaid ports.heads (placed (links_of ports) place.port (ports.heads + k)) (es ++ (s, place) ∷ []) (λ p. p.port) (λ p. 0)) (sym last)
          (laid_more ports.heads (λ p. p.port) (λ p. 0) (links_of ports) es (s, place) old.by_port (omega (arith, all, under)) (λ i e there. omega arith))));
    })

pub slotted_less : (es : List (StationKey × DynamicEntry)) (n : ℕ) (ages ports new_ages new_ports : RingTable) (slot last : ℕ) (e : StationKey × DynamicEntry) →
    IsRemoving es n ages ports slot last → slice_get es slot ≡ Some e →
    IsNow ages new_ages (removed ages.heads (links_of ages) slot last) → IsNow ports new_ports (removed ports.heads (links_of ports) slot last) →
    IsSlotted (swap_remove es slot e) n new_ages new_ports
slotted_less es n ages ports new_ages new_ports slot last e removing there a b =
    let old = removing.slotted in
    let last_is = removing.last_is in
    record {
      one_ring = a.heads ∙ old.one_ring;
      port_rings = b.heads ∙ old.port_rings;
      ages_fit = (let fit = old.ages_fit in let room = a.room in omega (arith, fit, room));
      ports_fit = (let fit = old.ports_fit in let room = b.room in omega (arith, fit, room));
      by_age = move ages new_ages (removed ages.heads (links_of ages) slot last) (swap_remove es slot e) (λ p. 0) (λ p. p.at) a
          (subst (λ k. IsLaid ages.heads (removed ages.heads (links_of ages) slot k) (swap_remove es slot e) (λ p. 0) (λ p. p.at)) (sym last_is)
          (laid_less ages.heads (λ p. 0) (λ p. p.at) (links_of ages) es slot e old.by_age there));
      by_port = move ports new_ports (removed ports.heads (links_of ports) slot last) (swap_remove es slot e) (λ p. p.port) (λ p. 0) b
          (subst (λ k. IsLaid ports.heads (removed ports.heads (links_of ports) slot k) (swap_remove es slot e) (λ p. p.port) (λ p. 0)) (sym last_is)
          (laid_less ports.heads (λ p. p.port) (λ p. 0) (links_of ports) es slot e old.by_port there));
    }

-- there is room for fewer, and for as many as the tables have
pub slotted_room : (es : List (StationKey × DynamicEntry)) (n m : ℕ) (ages ports new_ages new_ports : RingTable) → IsSlotted es n ages ports →
    new_ages.heads ≡ ages.heads → new_ports.heads ≡ ports.heads → links_of new_ages ≡ links_of ages → links_of new_ports ≡ links_of ports → m ≤ room_of new_ages → m ≤ room_of new_ports →
    IsSlotted es m new_ages new_ports
slotted_room es n m ages ports new_ages new_ports old age_heads port_heads age_links port_links age_room port_room = record {
  one_ring = age_heads ∙ old.one_ring;
  port_rings = port_heads ∙ old.port_rings;
  ages_fit = age_room;
  ports_fit = port_room;
  by_age = subst (λ h. IsLaid h (links_of new_ages) es (λ p. 0) (λ p. p.at)) (sym age_heads) (subst (λ (l : Links). IsLaid ages.heads l es (λ p. 0) (λ p. p.at)) (sym age_links) old.by_age);
  by_port = subst (λ h. IsLaid h (links_of new_ports) es (λ p. p.port) (λ p. 0)) (sym port_heads) (subst (λ (l : Links). IsLaid ports.heads l es (λ p. p.port) (λ p. 0)) (sym port_links) old.by_port);
}

pub slotted_empty : (es : List (StationKey × DynamicEntry)) (ages ports : RingTable) → es ≡ [] → ages.heads ≡ 1 → ports.heads ≡ 4160 → links_of ages ≡ itself → links_of ports ≡ itself → IsSlotted es 0 ages ports
slotted_empty es ages ports none one all age_links port_links = record {
  one_ring = one;
  port_rings = all;
  ages_fit = omega arith;
  ports_fit = omega arith;
  by_age = laid_first ages.heads (λ p. 0) (λ p. p.at) (links_of ages) es age_links none;
  by_port = laid_first ports.heads (λ p. p.port) (λ p. 0) (links_of ports) es port_links none;
}

-- ---- the first slots
module _ (es : List (StationKey × DynamicEntry)) (n : ℕ) (ages ports : RingTable) (h : IsSlotted es n ages ports) where
  pub no_oldest : first_of ages.heads (links_of ages) 0 ≡ None → es ≡ []
  no_oldest none = by_entries es (λ i e there. laid_none ages.heads (λ p. 0) (λ p. p.at) (links_of ages) es 0 h.by_age none i e there refl)
    where
      by_entries : (fs : List (StationKey × DynamicEntry)) → ((i : ℕ) (e : StationKey × DynamicEntry) → slice_get fs i ≡ Some e → ⊥) → fs ≡ []
      by_entries [] never = refl
      by_entries (f ∷ fs) never = absurd (never 0 f refl)

  pub is_oldest : (slot : ℕ) → first_of ages.heads (links_of ages) 0 ≡ Some slot → IsOldest es slot
  is_oldest slot some =
      let one = h.one_ring in
      let first = laid_some ages.heads (λ p. 0) (λ p. p.at) (links_of ages) es 0 slot h.by_age (omega (arith, one)) some in
      record {
        entry = first.0;
        there = first.1.0;
        since = λ q p found. (let at = slot_of q p es found in first.1.2 at.0 (q, p) at.1 refl);
      }

  pub none_at : (port : ℕ) → first_of ports.heads (links_of ports) port ≡ None → AllPass (is_elsewhere port) es
  none_at port none q p found =
      let at = slot_of q p es found in
      by_test (p.port == port) refl (laid_none ports.heads (λ p. p.port) (λ p. 0) (links_of ports) es port h.by_port none at.0 (q, p) at.1)
    where
      by_test : (b : Bool) → (p.port == port) ≡ b → (p.port ≢ port) → not b ≡ true
      by_test true e other = absurd (other (eqb-true p.port port e))
      by_test false e other = refl

  pub is_seen_at : (port slot : ℕ) → port < 4160 → first_of ports.heads (links_of ports) port ≡ Some slot → IsSeenAt es port slot
  is_seen_at port slot under some =
      let all = h.port_rings in
      let first = laid_some ports.heads (λ p. p.port) (λ p. 0) (links_of ports) es port slot h.by_port (omega (arith, all, under)) some in
      record { entry = first.0; there = first.1.0; seen = first.1.1 }

-- ---- what is stored
-- the entries were seen until this clock
pub latest : (x : ℕ) (es : List (StationKey × DynamicEntry)) → IsDistinct same (keys_of es) → IsUntil x es → (i : ℕ) (e : StationKey × DynamicEntry) → slice_get es i ≡ Some e → e.1.at ≤ x
latest x es once until i e there = until e.0 e.1 (found_at es i e once there)

-- ---- answers that may be missing
pub if_some : {X : Type 0} (o : Option X) (P : X → Type 0) → ((x : X) → o ≡ Some x → P x) → IfSome o P
if_some None P h = tt
if_some (Some x) P h = h x refl

pub if_none : {X : Type 0} (o : Option X) (P : Type 0) → (o ≡ None → P) → IfNone o P
if_none None P h = h refl
if_none (Some x) P h = tt
