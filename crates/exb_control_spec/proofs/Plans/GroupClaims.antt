-- Fresh sets get groups one after another.
use Rattle.std.proofs.Common.{◌≡◌, ◌≢◌, ℕ, ◌+◌, ◌-◌, ◌<◌, ◌≤◌, ◌==◌, ◌||◌, cond, Bool, true, false, not, List, [], ◌∷◌, Option, Some, None, refl, sym, ◌∙◌, ap, arith, inl, inr, eq-eqb}
use Rattle.std.specs.Prelude.{is_some, bytes_eq, find}
use Rattle.std.specs.List.{list_any, range_with_len}
use Rattle.std.proofs.lemmas.Bool.{cases_eq, and_parts, ne_eqb, eqb-true, false≢true, false_from_ne_true}
use Rattle.std.proofs.lemmas.Slice.Eq.{bytes_eq-Decides}
use Rattle.exb_control_spec.specs.Plans.Sets.{PortsAt, is_same_set}
use Rattle.exb_model.specs.Refusals.{is_empty_set}
use Rattle.exb_control_spec.specs.Plans.HeldNumbers.{Held, Group, group_in, group_used, or_zero, free_group, group_for, give}
use Rattle.exb_model.specs.LowestFree.{lowest_free}
use Rattle.exb_control_spec.specs.Plans.FreshSets.{AreFresh, is_at, how_many}
use Rattle.exb_control_spec.proofs.Plans.Ranges.{find_none, none_passes}
use Rattle.exb_control_spec.proofs.Plans.UsedNumbers.{IsLowest, lowest_there, lowest_unused, count_less, count_more}
use Rattle.exb_control_spec.proofs.Plans.DistinctLists.{AreSets}

-- ---- sets as values
place_is : (p q : ℕ) (xs ys : List ℕ) → p ≡ q → xs ≡ ys → ◌≡◌ {A = PortsAt} (record { bridge_port = p; ports = xs }) (record { bridge_port = q; ports = ys })
place_is p q xs ys e f = rw (e, f) refl

pub set_is : (a b : PortsAt) → is_same_set a b ≡ true → a ≡ b
set_is a b h =
    let parts = and_parts (a.bridge_port == b.bridge_port) (bytes_eq a.ports b.ports) h in
    let p : a.bridge_port ≡ b.bridge_port = eqb-true _ _ parts.0 in
    let s : a.ports ≡ b.ports = (bytes_eq-Decides a.ports b.ports).0 parts.1 in
    place_is a.bridge_port b.bridge_port a.ports b.ports p s

pub set_itself : (a : PortsAt) → is_same_set a a ≡ true
set_itself a = rw (eq-eqb a.bridge_port a.bridge_port refl) ((bytes_eq-Decides a.ports a.ports).1 refl)

none_of : (a b : Bool) → (a || b) ≡ false → (a ≡ false) × (b ≡ false)
none_of true b h = absurd (false≢true (sym h))
none_of false b h = (refl, h)

abbrev pub is_none : PortsAt → Bool
is_none s = is_empty_set s.ports

abbrev pub AreApart : List PortsAt → Type 0
AreApart sets = AreSets is_none is_same_set sets

-- ---- a set without a group
by_empty : (b : Bool) (x : Option ℕ) → b ≡ false → cond b None x ≡ None → x ≡ None
by_empty true x h e = absurd (false≢true (sym h))
by_empty false x h e = e

none_by : (b : Bool) (x : Option ℕ) → x ≡ None → cond b None x ≡ None
none_by true x e = refl
none_by false x e = e

module _ (h : Held) (k : ℕ) (set : List ℕ) where
  pub absent_each : group_in h k set ≡ None → is_empty_set set ≡ false → (g : ℕ) → 4096 ≤ g → g < 16384 → bytes_eq set (h.set k g) ≡ false
  unfolding group_in
  absent_each e some g low high =
      none_passes (λ m. bytes_eq set (h.set k m)) 4096 12288 (by_empty (is_empty_set set) (find (λ m. bytes_eq set (h.set k m)) (range_with_len 4096 12288)) some e) g low (omega (arith, high))

  pub absent_from : ((g : ℕ) → 4096 ≤ g → g < 16384 → bytes_eq set (h.set k g) ≡ false) → group_in h k set ≡ None
  unfolding group_in
  absent_from none =
      none_by (is_empty_set set) (find (λ m. bytes_eq set (h.set k m)) (range_with_len 4096 12288))
      (find_none (λ m. bytes_eq set (h.set k m)) 4096 12288 (λ g low high. none g low (omega (arith, high))))

-- ---- each set in turn
abbrev pub AreLow : List PortsAt → Type 0
AreLow [] = Unit {0}
AreLow (s ∷ sets) = (1 ≤ s.bridge_port) × AreLow sets

abbrev pub AreAbsent : Held → List PortsAt → Type 0
AreAbsent h [] = Unit {0}
AreAbsent h (s ∷ sets) = (group_in h (s.bridge_port - 1) s.ports ≡ None) × AreAbsent h sets

abbrev pub HasRoom : ℕ → Held → List PortsAt → Type 0
HasRoom groups h sets = (k : ℕ) → how_many (group_used h k) (range_with_len 4096 groups) + how_many (is_at (k + 1)) sets ≤ groups

-- a group more takes the numbers of its own bridge port
pub given_here : (x : Group) (h : Held) (k g : ℕ) → k + 1 ≡ x.bridge_port → g ≡ x.number → (give x h).set k g ≡ x.ports
given_here x h k g e f = rw (eq-eqb (k + 1) x.bridge_port e, eq-eqb g x.number f) refl

pub given_else : (x : Group) (h : Held) (k g : ℕ) → ((k + 1 ≡ x.bridge_port) → g ≢ x.number) → (give x h).set k g ≡ h.set k g
given_else x h k g n =
    elim (cases_eq (k + 1) x.bridge_port) [
      | inl e ↦ rw (eq-eqb (k + 1) x.bridge_port e, ne_eqb g x.number (n e)) refl
      | inr e ↦ rw (ne_eqb (k + 1) x.bridge_port e) refl
    ]

module _ (groups : ℕ) where
  -- the others stay without a group
  stays_absent : (h : Held) (x : Group) (s z : PortsAt) → x.bridge_port ≡ s.bridge_port → x.ports ≡ s.ports → 1 ≤ s.bridge_port → 1 ≤ z.bridge_port →
      is_empty_set z.ports ≡ false → is_same_set s z ≡ false → group_in h (z.bridge_port - 1) z.ports ≡ None → group_in (give x h) (z.bridge_port - 1) z.ports ≡ None
  stays_absent h x s z at is low low' some apart e =
      absent_from (give x h) (z.bridge_port - 1) z.ports (λ g l u.
      let before = absent_each h (z.bridge_port - 1) z.ports e some g l u in
      elim (cases_eq (z.bridge_port - 1 + 1) x.bridge_port) [
        | inr n ↦ ap (bytes_eq z.ports) (given_else x h (z.bridge_port - 1) g (λ y. absurd (n y))) ∙ before
        | inl y ↦ elim (cases_eq g x.number) [
          | inr n ↦ ap (bytes_eq z.ports) (given_else x h (z.bridge_port - 1) g (λ w. n)) ∙ before
          | inl n ↦
              let place : s.bridge_port ≡ z.bridge_port = omega arith in
              let other : bytes_eq s.ports z.ports ≡ false = (let q = rw (eq-eqb s.bridge_port z.bridge_port place) at apart in q) in
              ap (bytes_eq z.ports) (given_here x h (z.bridge_port - 1) g y n ∙ is)
              ∙ false_from_ne_true _ (λ w. false≢true (sym other ∙ (bytes_eq-Decides s.ports z.ports).1 (sym ((bytes_eq-Decides z.ports s.ports).0 w))))
        ]
      ])

  all_absent : (h : Held) (x : Group) (s : PortsAt) (sets : List PortsAt) → x.bridge_port ≡ s.bridge_port → x.ports ≡ s.ports → 1 ≤ s.bridge_port → AreLow sets →
      AreApart sets → list_any (is_same_set s) sets ≡ false → AreAbsent h sets → AreAbsent (give x h) sets
  all_absent h x s [] at is low lows apart other absent = tt
  all_absent h x s (z ∷ sets) at is low lows apart other absent =
      let parts = none_of (is_same_set s z) (list_any (is_same_set s) sets) other in
      (stays_absent h x s z at is low lows.0 apart.0 parts.0 absent.0, all_absent h x s sets at is low lows.1 apart.2 parts.1 absent.1)

  -- a used number more
  room_after : (h : Held) (x : Group) (s : PortsAt) (sets : List PortsAt) → x.bridge_port ≡ s.bridge_port → HasRoom groups h (s ∷ sets) → HasRoom groups (give x h) sets
  room_after h x s sets at room k =
      let before = room k in
      elim (cases_eq s.bridge_port (k + 1)) [
        | inl e ↦
            let more : how_many (group_used (give x h) k) (range_with_len 4096 groups) ≤ how_many (group_used h k) (range_with_len 4096 groups) + 1 =
            count_more (group_used h k) (group_used (give x h) k) x.number 4096 groups (λ g u.
            elim (cases_eq g x.number) [
              | inl f ↦ inl f
              | inr f ↦ inr (ap (λ set. not (is_empty_set set)) (sym (given_else x h k g (λ w. f))) ∙ u)
            ]) in
            let b = rw (eq-eqb s.bridge_port (k + 1) e) at before in
            omega (arith, b, more)
        | inr e ↦
            let less : how_many (group_used (give x h) k) (range_with_len 4096 groups) ≤ how_many (group_used h k) (range_with_len 4096 groups) =
            count_less (group_used h k) (group_used (give x h) k) 4096 groups (λ g l u.
            ap (λ set. not (is_empty_set set)) (sym (given_else x h k g (λ w. absurd (e (sym at ∙ sym w))))) ∙ u) in
            let b = rw (ne_eqb s.bridge_port (k + 1) e) at before in
            omega (arith, b, less)
      ]

  free_there : (h : Held) (s : PortsAt) (sets : List PortsAt) → 1 ≤ s.bridge_port → HasRoom groups h (s ∷ sets) → is_some (lowest_free (group_used h (s.bridge_port - 1)) 4096 groups) ≡ true
  free_there h s sets low room =
      let place : s.bridge_port ≡ s.bridge_port - 1 + 1 = omega arith in
      let before = rw (eq-eqb s.bridge_port (s.bridge_port - 1 + 1) place) at (room (s.bridge_port - 1)) in
      let l : (m : ℕ) × IsLowest (group_used h (s.bridge_port - 1)) 4096 groups m = lowest_there (group_used h (s.bridge_port - 1)) 4096 groups (omega (arith, before)) in
      ap is_some l.1.is

  -- so each is fresh when its turn comes
  pub are_fresh : (h : Held) (sets : List PortsAt) → AreApart sets → AreLow sets → AreAbsent h sets → HasRoom groups h sets → AreFresh groups h sets
  are_fresh h [] apart low absent room = tt
  are_fresh h (s ∷ sets) apart low absent room =
      let x : Group = group_for groups h s in (
        record { some = apart.0; absent = absent.0; free = free_there h s sets low.0 room },
        are_fresh (give x h) sets apart.2 low.1 (all_absent h x s sets refl refl low.0 low.1 apart.2 apart.1 absent.1) (room_after h x s sets refl room),
      )

  -- a group that is given was free
  pub free_set : (h : Held) (k : ℕ) → is_some (lowest_free (group_used h k) 4096 groups) ≡ true → h.set k (free_group groups h k) ≡ []
  free_set h k some = by_lowest (lowest_free (group_used h k) 4096 groups) refl some
    where
      empty_is : (xs : List ℕ) → not (is_empty_set xs) ≡ false → xs ≡ []
      empty_is [] e = refl
      empty_is (x ∷ xs) e = absurd (false≢true (sym e))

      by_lowest : (o : Option ℕ) → lowest_free (group_used h k) 4096 groups ≡ o → is_some o ≡ true → h.set k (or_zero o) ≡ []
      by_lowest None e f = absurd (false≢true f)
      by_lowest (Some m) e f = empty_is (h.set k m) (lowest_unused (group_used h k) 4096 groups m e)
