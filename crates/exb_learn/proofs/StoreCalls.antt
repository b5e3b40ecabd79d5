-- What is stored, after a call.
use Rattle.std.proofs.Common.{◌≡◌, ◌≤◌, ◌<◌, ℕ, zero, suc, ◌+◌, ◌-◌, Bool, true, false, cond, ◌==◌, ◌&&◌, refl, sym, ap, subst, ◌∙◌, arith, List, [], ◌∷◌, length, slice_get, is_some, Option, Some, None}
use Rattle.std.specs.List.{IsDistinct, position_or_len, swap_remove}
use Rattle.std.specs.Map.{keys_of, lookup}
use Rattle.std.proofs.lemmas.Bool.{true≢false, eqb-true, and_parts}
use Rattle.indexmap.specs.IndexMap.{insert_entry, set_value_at}
use Rattle.exb_learn.specs.declared.key.StationKey.{StationKey}
use Rattle.exb_learn.specs.declared.entries.DynamicEntry.{DynamicEntry}
use Rattle.exb_learn.specs.RingLinks.{RingTable}
use Rattle.exb_learn.specs.Stations.{same, Changes, IsTaken, IsUntil}
use Rattle.exb_learn.specs.EntryRings.{IsSlotted, IsPutting, IsRemoving, IsStored}
use Rattle.exb_learn.proofs.SlotRings.{swapped_length}
use Rattle.exb_learn.proofs.Lookups.{same_is, same_itself, found_at, position_within}
use Rattle.exb_learn.proofs.StationRings.{slotted_room, latest}

-- ---- an entry is put
pub length_put : (s : StationKey) (v : DynamicEntry) (es : List (StationKey × DynamicEntry)) → length (insert_entry same es s v) ≡ length es + cond (is_some (lookup (same s) es)) 0 1
length_put s v [] = refl
length_put s v (e ∷ es) = by_test (same s e.0) (length_put s v es)
  where
    by_test : (b : Bool) → length (insert_entry same es s v) ≡ length es + cond (is_some (lookup (same s) es)) 0 1 →
        length (cond b ((e.0, v) ∷ es) (e ∷ insert_entry same es s v)) ≡ suc (length es) + cond (is_some (cond b (Some e.1) (lookup (same s) es))) 0 1
    by_test true rest = omega arith
    by_test false rest = omega (arith, rest)

same_turned : (a b : StationKey) → same a b ≡ same b a
same_turned a b = by_tests (same a b) (same b a) refl refl
  where
    by_tests : (c d : Bool) → same a b ≡ c → same b a ≡ d → c ≡ d
    by_tests true true h g = refl
    by_tests true false h g = sym h ∙ ap (λ x. same a x) (sym (same_is a b h)) ∙ ap (λ x. same x a) (same_is a b h) ∙ g
    by_tests false true h g = absurd (true≢false (sym (ap (λ x. same a x) (same_is b a g) ∙ same_itself a) ∙ h))
    by_tests false false h g = refl

over : (b : Bool) (x y z : Option DynamicEntry) → cond b x y ≡ cond b x (cond b z y)
over true x y z = refl
over false x y z = refl

beside : (b c : Bool) (x y z w : Option DynamicEntry) → (b ≡ true → c ≡ false) → w ≡ cond c x y → cond b z w ≡ cond c x (cond b z y)
beside true true x y z w apart is = absurd (true≢false (apart refl))
beside true false x y z w apart is = refl
beside false true x y z w apart is = is
beside false false x y z w apart is = is

pub changes_put : (s : StationKey) (v : DynamicEntry) (es : List (StationKey × DynamicEntry)) → Changes es (insert_entry same es s v) s (Some v)
changes_put s v [] q = ap (λ b. cond b (Some v) None) (same_turned q s)
changes_put s v (e ∷ es) q = by_test (same s e.0) refl (changes_put s v es q)
  where
    by_test : (a : Bool) → same s e.0 ≡ a → lookup (same q) (insert_entry same es s v) ≡ cond (same s q) (Some v) (lookup (same q) es) →
        lookup (same q) (cond a ((e.0, v) ∷ es) (e ∷ insert_entry same es s v)) ≡ cond (same s q) (Some v) (cond (same q e.0) (Some e.1) (lookup (same q) es))
    by_test true h rest =
        let turned : same q e.0 ≡ same s q = ap (λ x. same q x) (sym (same_is s e.0 h)) ∙ same_turned q s in
        ap (λ b. cond b (Some v) (lookup (same q) es)) turned ∙ over (same s q) (Some v) (lookup (same q) es) (Some e.1)
        ∙ ap (λ b. cond (same s q) (Some v) (cond b (Some e.1) (lookup (same q) es))) (sym turned)
    by_test false h rest =
        beside (same q e.0) (same s q) (Some v) (lookup (same q) es) (Some e.1) (lookup (same q) (insert_entry same es s v))
        (λ (g : same q e.0 ≡ true). ap (λ x. same s x) (same_is q e.0 g) ∙ h) rest

pub putting : (es : List (StationKey × DynamicEntry)) (s : StationKey) (room spare : ℕ) (ages ports : RingTable) (slot : ℕ) (known : Option DynamicEntry) (place : DynamicEntry) →
    IsStored es room spare ages ports → 1 ≤ room → IsUntil place.at es → slot ≡ position_or_len (same s) (keys_of es) → known ≡ lookup (same s) es →
    IsPutting es s (length es + room) ages ports slot known place
putting es s room spare ages ports slot known place stored room_is until slot_is known_is = record {
  slotted = stored.slotted;
  slot_is = slot_is;
  known_is = known_is;
  less = (let within = position_within (same s) es in omega (arith, slot_is, within, room_is));
  within = omega arith;
  latest = latest place.at es stored.once until;
}

pub stored_put : (es new : List (StationKey × DynamicEntry)) (s : StationKey) (room spare new_room new_spare : ℕ) (ages ports new_ages new_ports : RingTable) (known : Option DynamicEntry) (place : DynamicEntry) →
    IsStored es room spare ages ports → new ≡ insert_entry same es s place → known ≡ lookup (same s) es → IsDistinct same (keys_of new) →
    new_room + cond (is_some known) 0 1 ≡ room → spare ≤ new_spare + cond (is_some known) 0 1 →
    IsSlotted (insert_entry same es s place) (length es + room) new_ages new_ports → IsStored new new_room new_spare new_ages new_ports
stored_put es new s room spare new_room new_spare ages ports new_ages new_ports known place stored is known_is once room_is spare_is slotted =
    let fits = stored.fits in
    let long : length new ≡ length es + cond (is_some known) 0 1 =
    ap (λ xs. length xs) is ∙ length_put s place es ∙ ap (λ (o : Option DynamicEntry). length es + cond (is_some o) 0 1) (sym known_is) in
    record {
      once = once;
      fits = omega (arith, fits, room_is, spare_is);
      slotted = subst (λ n. IsSlotted new n new_ages new_ports) (omega (arith, long, room_is)) (subst (λ xs. IsSlotted xs (length es + room) new_ages new_ports) (sym is) slotted);
    }

-- ---- an entry is taken out
pub removing : (es : List (StationKey × DynamicEntry)) (room spare : ℕ) (ages ports : RingTable) (slot last : ℕ) → IsStored es room spare ages ports → slot < length es → last ≡ length es - 1 →
    IsRemoving es (length es + room) ages ports slot last
removing es room spare ages ports slot last stored less last_is = record { slotted = stored.slotted; less = less; within = omega arith; last_is = last_is }

pub stored_removed : (es new : List (StationKey × DynamicEntry)) (slot room spare new_spare : ℕ) (e : StationKey × DynamicEntry) (ages ports new_ages new_ports : RingTable) →
    IsStored es room spare ages ports → slice_get es slot ≡ Some e → new ≡ swap_remove es slot e → spare ≤ new_spare → IsDistinct same (keys_of new) →
    IsSlotted (swap_remove es slot e) (length es + room) new_ages new_ports → IsStored new room new_spare new_ages new_ports
stored_removed es new slot room spare new_spare e ages ports new_ages new_ports stored there is spare_is once slotted =
    let fits = stored.fits in
    let short : length new ≡ length es - 1 = ap (λ xs. length xs) is ∙ (let same = swapped_length es slot e in omega (arith, same)) in
    let ages_fit = slotted.ages_fit in
    let ports_fit = slotted.ports_fit in
    record {
      once = once;
      fits = omega (arith, fits, spare_is);
      slotted = slotted_room new (length es + room) (length new + room) new_ages new_ports new_ages new_ports (subst (λ xs. IsSlotted xs (length es + room) new_ages new_ports) (sym is) slotted)
          refl refl refl refl (omega (arith, short, ages_fit)) (omega (arith, short, ports_fit));
    }

pub taken_out : (es new : List (StationKey × DynamicEntry)) (slot : ℕ) (e : StationKey × DynamicEntry) → IsDistinct same (keys_of es) → slice_get es slot ≡ Some e → Changes es new e.0 None → suc (length new) ≡ length es → IsTaken es new e
taken_out es new slot e once there changes short = record { found = found_at es slot e once there; gone = changes; shorter = short }

-- the value of an entry is another one, and no station stands twice still
pub once_over : (es : List (StationKey × DynamicEntry)) (i : ℕ) (v : DynamicEntry) → IsDistinct same (keys_of es) → IsDistinct same (keys_of (set_value_at es i v))
once_over es i v once = subst (IsDistinct same) (sym (keys es i)) once
  where
    keys : (es : List (StationKey × DynamicEntry)) (i : ℕ) → keys_of (set_value_at es i v) ≡ keys_of es
    keys [] i = refl
    keys (e ∷ es) zero = refl
    keys (e ∷ es) (suc i) = ap (λ (ks : List StationKey). e.0 ∷ ks) (keys es i)

-- ---- room is made
pub stored_again : (es new : List (StationKey × DynamicEntry)) (room spare new_spare : ℕ) (ages ports new_ages new_ports : RingTable) → IsStored es room spare ages ports → new ≡ es → spare ≤ new_spare →
    IsSlotted es (length es + room) new_ages new_ports → IsStored new room new_spare new_ages new_ports
stored_again es new room spare new_spare ages ports new_ages new_ports stored is more slotted =
    let fits = stored.fits in
    subst (λ xs. IsStored xs room new_spare new_ages new_ports) (sym is) (record { once = stored.once; fits = omega (arith, fits, more); slotted = slotted })

pub stored_more : (es new : List (StationKey × DynamicEntry)) (room spare new_spare slots held : ℕ) (ages ports new_ages new_ports : RingTable) → IsStored es room spare ages ports → new ≡ es →
    slots ≡ length new + new_spare → held ≡ length new → IsSlotted es slots new_ages new_ports → IsStored new (slots - held) new_spare new_ages new_ports
stored_more es new room spare new_spare slots held ages ports new_ages new_ports stored is slots_is held_is slotted = record {
  once = subst (λ xs. IsDistinct same (keys_of xs)) (sym is) stored.once;
  fits = omega (arith, slots_is, held_is);
  slotted = subst (λ n. IsSlotted new n new_ages new_ports) (omega (arith, slots_is, held_is)) (subst (λ xs. IsSlotted xs slots new_ages new_ports) (sym is) slotted);
}

pub room_put : (known : Option DynamicEntry) (room held len long now : ℕ) → 1 ≤ room → held ≡ long → len ≡ now → now ≡ long + cond (is_some known) 0 1 → room - (len - held) + cond (is_some known) 0 1 ≡ room
room_put None room held len long now some held_is len_is longer = omega (arith, some, held_is, len_is, longer)
room_put (Some p) room held len long now some held_is len_is longer = omega (arith, some, held_is, len_is, longer)

-- where a station has that place already, nothing has to change
pub changes_none : (s : StationKey) (v : DynamicEntry) (es : List (StationKey × DynamicEntry)) → lookup (same s) es ≡ Some v → Changes es es s (Some v)
changes_none s v es found q = by_test (same s q) refl
  where
    by_test : (b : Bool) → same s q ≡ b → lookup (same q) es ≡ cond b (Some v) (lookup (same q) es)
    by_test true h = ap (λ x. lookup (same x) es) (sym (same_is s q h)) ∙ found
    by_test false h = refl

same_place : (p q : DynamicEntry) → ((p.port == q.port) && (p.at == q.at)) ≡ true → p ≡ q
same_place p q h =
    let parts = and_parts (p.port == q.port) (p.at == q.at) h in
    let port = eqb-true p.port q.port parts.0 in
    let at = eqb-true p.at q.at parts.1 in
    λ i. record { port = port i; at = at i }

pub changes_known : (s : StationKey) (p q : DynamicEntry) (es : List (StationKey × DynamicEntry)) → lookup (same s) es ≡ Some p → ((p.port == q.port) && (p.at == q.at)) ≡ true → Changes es es s (Some q)
changes_known s p q es found h = changes_none s q es (found ∙ ap (λ (x : DynamicEntry). Some x) (same_place p q h))
