-- A port that goes up can be given a channel where the channels suffice.
use Rattle.std.proofs.Common.{◌≡◌, ℕ, ◌+◌, ◌<◌, ◌≤◌, ◌==◌, ◌||◌, ◌&&◌, cond, Bool, true, false, not, List, [], ◌∷◌, Option, Some, None, length, filter, refl, sym, ◌∙◌, ap, subst, arith, inl, inr}
use Rattle.std.specs.Prelude.{nat_lt, nat_le, is_some, count_by}
use Rattle.std.specs.List.{list_any, range_with_len}
use Rattle.std.proofs.lemmas.Bool.{cases_Bool, and_parts, or_cases, eqb-true, ltb-false, leb-true}
use Rattle.std.proofs.lemmas.List.Sums.{length-filter}
use Rattle.exb_model.specs.declared.event.Cause.{Cause}
use Rattle.exb_model.specs.declared.event.Cause.TheVariants as cause
use Rattle.exb_model.specs.Ports.{below, all_ports}
use Rattle.exb_model.specs.Tree.{Shape, IsTree, device, trunk, is_port, is_cascade, is_extended, is_under, is_cascade_under, cascades_under}
use Rattle.exb_model.specs.Setup.{Limits}
use Rattle.exb_model.specs.Configuration.{Bridge}
use Rattle.exb_model.specs.Refusals.{present_under, channels_needed, channels_short}
use Rattle.exb_model.proofs.TreeWays.{port_below}
use Rattle.exb_control_spec.specs.Plans.HeldNumbers.{Held, HoldsNeeded, channel_in, channel_used, needs_channel, or_zero}
use Rattle.exb_control_spec.specs.Plans.Differences.{rises, goes_up}
use Rattle.exb_control_spec.specs.Plans.FreshSets.{IsAnyExtended, how_many}
use Rattle.exb_control_spec.proofs.Plans.Ranges.{IsFound, found, none_passes}
use Rattle.exb_control_spec.proofs.Plans.UsedNumbers.{IsLowest, lowest_there, few_used}
use Rattle.exb_control_spec.proofs.Plans.EachElement.{in_filter}
use Rattle.exb_control_spec.proofs.Plans.Trunks.{under_extended, extended_below, extended_external, home_low, home_cascade}
use Rattle.exb_control_spec.proofs.Plans.OptionalNumbers.{of_some, some_is}
use Rattle.exb_control_spec.proofs.Plans.Bools.{is_not}

-- ---- the port that goes up
pub goes_up_rises : (t : Shape) (old new : Bridge) (p : ℕ) → goes_up t old new ≡ Some p → rises t old new p ≡ true
unfolding goes_up below
goes_up_rises t old new p e = (let f : IsFound (rises t old new) 0 4160 p = found (rises t old new) 0 4160 p e in f.passes)

pub record Rises (t : Shape) (old new : Bridge) (p : ℕ) : Type 0 where
  pub extended : is_extended t p ≡ true
  pub absent : old.present p ≡ false
  pub present : new.present p ≡ true

pub rises_is : (t : Shape) (old new : Bridge) (p : ℕ) → rises t old new p ≡ true → Rises t old new p
rises_is t old new p e =
    let one = and_parts (is_extended t p) (not (old.present p) && new.present p) e in
    let two = and_parts (not (old.present p)) (new.present p) one.1 in
    record { extended = one.0; absent = is_not (old.present p) two.0; present = two.1 }

-- where none goes up no extended port does
pub never_rises : (t : Shape) → IsTree t → (old new : Bridge) (q : ℕ) → is_extended t q ≡ true → goes_up t old new ≡ None → (not (old.present q) && new.present q) ≡ false
unfolding goes_up below
never_rises t valid old new q ext e = (let r = none_passes (rises t old new) 0 4160 e q (omega arith) (let l = extended_below t valid q ext in omega (arith, l)) in rw ext at r)

pub any_extended : (t : Shape) (old new : Bridge) (o : Option ℕ) → goes_up t old new ≡ o → IsAnyExtended t o
any_extended t old new None e = tt
any_extended t old new (Some p) e = (let r : Rises t old new p = rises_is t old new p (goes_up_rises t old new p e) in r.extended)

-- ---- how many channels are used
either : (a b : ℕ → Bool) (xs : List ℕ) → ((x : ℕ) → a x ≡ true → b x ≡ false) → length (filter (λ x. a x || b x) xs) ≡ length (filter b xs) + length (filter a xs)
either a b [] apart = refl
either a b (x ∷ xs) apart =
    let rest = either a b xs apart in
    elim (cases_Bool (a x)) [
      | inl e ↦ rw (e, apart x e) (omega (arith, rest))
      | inr e ↦ elim (cases_Bool (b x)) [
        | inl f ↦ rw (e, f) (omega (arith, rest))
        | inr f ↦ rw (e, f) rest
      ]
    ]

not_cascade : (t : Shape) (q : ℕ) → is_extended t q ≡ true → is_cascade t q ≡ false
not_cascade t q e = is_not (is_cascade t q) (and_parts (is_port t q) (not (is_cascade t q)) (extended_external t q e)).1

pub no_cascade_under : (t : Shape) (k q : ℕ) → is_extended t q ≡ true → is_cascade_under t k q ≡ false
no_cascade_under t k q e = rw (not_cascade t q e) (none (nat_le 64 q) (is_port t q) (trunk t (device q) == k))
  where
    none : (a b c : Bool) → (a && b && false && c) ≡ false
    none true true c = refl
    none true false c = refl
    none false b c = refl

module _ (t : Shape) (valid : IsTree t) (old : Bridge) (h : Held) (needed : HoldsNeeded t old h) where
  needing_below : (k p : ℕ) → needs_channel t old k p ≡ true → p < 4160
  needing_below k p e =
      elim (or_cases (is_under t k p && old.present p) (is_cascade_under t k p) e) [
        | inl u ↦ extended_below t valid p (under_extended t k p (and_parts (is_under t k p) (old.present p) u).0)
        | inr c ↦
            let one = and_parts (nat_le 64 p && is_port t p && is_cascade t p) (trunk t (device p) == k) c in
            let two = and_parts (nat_le 64 p && is_port t p) (is_cascade t p) one.0 in
            let three = and_parts (nat_le 64 p) (is_port t p) two.0 in
            port_below t valid p (leb-true 64 p three.0) three.1
      ]

  count_is : (k : ℕ) → length (filter (needs_channel t old k) all_ports) ≡ cascades_under t k + present_under t k old
  unfolding cascades_under present_under
  count_is k =
      either (λ p. is_under t k p && old.present p) (is_cascade_under t k) all_ports (λ q e. no_cascade_under t k q (under_extended t k q (and_parts (is_under t k q) (old.present q) e).0))
      ∙ (ap (λ (n : ℕ). n + length (filter (λ p. is_under t k p && old.present p) all_ports)) (length-filter (is_cascade_under t k) all_ports)
      ∙ ap (λ (n : ℕ). count_by (is_cascade_under t k) all_ports + n) (length-filter (λ p. is_under t k p && old.present p) all_ports))

  few_channels : (k n : ℕ) → k < 64 → is_cascade t k ≡ true → how_many (channel_used h k) (range_with_len 1 n) ≤ length (filter (needs_channel t old k) all_ports)
  unfolding below
  few_channels k n low c =
      few_used (λ p q. p == q) (λ p q e. eqb-true p q e) (λ m. or_zero (h.port k m)) (channel_used h k) one 1 n (filter (needs_channel t old k) all_ports) sound
    where
      one : (g m : ℕ) → channel_used h k g ≡ true → channel_used h k m ≡ true → or_zero (h.port k g) ≡ or_zero (h.port k m) → g ≡ m
      one g m u w e =
          let p : (p : ℕ) × (h.port k g ≡ Some p) = of_some (h.port k g) u in
          let q : (q : ℕ) × (h.port k m ≡ Some q) = of_some (h.port k m) w in
          let same : p.0 ≡ q.0 = sym (ap or_zero p.1) ∙ (e ∙ ap or_zero q.1) in
          some_is g m (sym (needed.one_channel k p.0 g low c p.1) ∙ (ap (channel_in h k) same ∙ needed.one_channel k q.0 m low c q.1))

      sound : (g : ℕ) → 1 ≤ g → channel_used h k g ≡ true → list_any (λ q. or_zero (h.port k g) == q) (filter (needs_channel t old k) all_ports) ≡ true
      sound g a u =
          let p : (p : ℕ) × (h.port k g ≡ Some p) = of_some (h.port k g) u in
          let needs : needs_channel t old k p.0 ≡ true = sym (needed.channels k p.0 low c) ∙ ap is_some (needed.one_channel k p.0 g low c p.1) in
          subst (λ (x : ℕ). list_any (λ q. x == q) (filter (needs_channel t old k) all_ports) ≡ true) (sym (ap or_zero p.1))
          (in_filter (needs_channel t old k) 0 4160 p.0 (omega arith) (let b = needing_below k p.0 needs in omega (arith, b)) needs)

  -- the lowest free channel at the trunk of a port that goes up
  pub free_there : (l : Limits) (p : ℕ) → is_extended t p ≡ true → channels_short t l old (Some (trunk t (device p))) ≡ None →
      (m : ℕ) × IsLowest (channel_used h (trunk t (device p))) 1 l.channels m
  free_there l p ext fits =
      let k = trunk t (device p) in
      let room : channels_needed t k old ≤ l.channels = ltb-false l.channels _ (not_short (nat_lt l.channels (channels_needed t k old)) (cause.Channels (channels_needed t k old) l.channels) fits) in
      let count = count_is k in
      let few = few_channels k l.channels (home_low t valid p ext) (home_cascade t valid p ext) in
      lowest_there (channel_used h k) 1 l.channels (fewer k l.channels few count room)
    where
      not_short : (b : Bool) (x : Cause) → cond b (Some x) None ≡ None → b ≡ false
      not_short true x e = cc
      not_short false x e = refl

      fewer : (k n : ℕ) → how_many (channel_used h k) (range_with_len 1 n) ≤ length (filter (needs_channel t old k) all_ports) →
          length (filter (needs_channel t old k) all_ports) ≡ cascades_under t k + present_under t k old → channels_needed t k old ≤ n → how_many (channel_used h k) (range_with_len 1 n) < n
      fewer k n a b c = omega arith
