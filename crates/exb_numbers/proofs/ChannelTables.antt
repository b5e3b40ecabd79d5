-- The tables of channels, after a claim and a release.
use Rattle.std.proofs.Common.{◌≡◌, ℕ, zero, suc, ◌+◌, ◌-◌, ◌<◌, ◌≤◌, ◌==◌, true, false, cond, List, [], ◌∷◌, length, get_or, set, replicate, refl, sym, ap, ◌∙◌, inl, inr, ◌⊎◌, arith, eq-eqb}
use Rattle.std.specs.Prelude.{Option, Some, None, is_some, find}
use Rattle.std.specs.List.{range_with_len}
use Rattle.std.proofs.lemmas.Bool.{cases_Bool, cases_eq, cases_lt, ne_eqb, eqb-true, false≢true}
use Rattle.std.proofs.lemmas.List.{length-set, get_or-set_other, get_or_past, length-replicate}
use Rattle.std.proofs.lemmas.Grind.{get_or-set_at}
use Rattle.exb_model.proofs.PortBits.{get_or-same}
use Rattle.exb_numbers.specs.Channels.{holder, is_used, channel_of, lowest_channel, AreKept}
use Rattle.exb_model.specs.LowestFree.{is_port}
use Rattle.exb_numbers.proofs.LowestInRange.{find_first, find_none, lowest_is, lowest_none}

abbrev pub own : List (Option ℕ) → ℕ → Option ℕ
own channels p = get_or channels p None

pub none_some : {X : Type 0} → (x : X) → None ≡ Some x → ⊥
none_some x h = let z : None ≡ Some x = h in cc

pub is_port-is : (p : ℕ) (o : Option ℕ) → is_port p o ≡ true → o ≡ Some p
is_port-is p None h = absurd (false≢true h)
is_port-is p (Some q) h = ap Some (eqb-true q p h)

past : (ports : List (Option ℕ)) (c : ℕ) → length ports ≤ c → holder ports c ≡ None
past ports c h = get_or_past ports c None h

-- a channel that is of a port is one of the space
in_range : (ports channels : List (Option ℕ)) (free : ℕ) → AreKept ports channels free → (c p : ℕ) → holder ports c ≡ Some p → (1 ≤ c) × (c < length ports)
in_range ports channels free k c p h = (not_zero, not_past)
  where
    not_zero : 1 ≤ c
    not_zero = elim (cases_eq c 0) [
      | inl e ↦ absurd (none_some p (sym k.zeroth ∙ ap (holder ports) (sym e) ∙ h))
      | inr e ↦ omega arith
    ]

    not_past : c < length ports
    not_past = elim (cases_lt c (length ports)) [
      | inl l ↦ l
      | inr l ↦ absurd (none_some p (sym (past ports c l) ∙ h))
    ]

pub own_is : (ports channels : List (Option ℕ)) (free : ℕ) → AreKept ports channels free → (p : ℕ) → own channels p ≡ channel_of ports p
unfolding channel_of
own_is ports channels free k p = by_own (own channels p) refl
  where
    by_own : (o : Option ℕ) → own channels p ≡ o → o ≡ find (λ c. is_port p (holder ports c)) (range_with_len 1 4094)
    by_own (Some c) h =
        let at = k.there p c h in
        let range = in_range ports channels free k c p at in
        sym (find_first (λ c. is_port p (holder ports c)) 1 4094 c range.0 (let short = k.short in omega (arith, range.1, short)) (rw at (eq-eqb p p refl))
        (λ e low high. elim (cases_Bool (is_port p (holder ports e))) [
          | inl hit ↦
              let twice : Some e ≡ Some c = sym (k.back p e (is_port-is p (holder ports e) hit)) ∙ h in
              let same : e ≡ c = cc in
              absurd (omega (arith, same))
          | inr miss ↦ miss
        ]))
    by_own None h =
        sym (find_none (λ c. is_port p (holder ports c)) 1 4094
        (λ e low high. elim (cases_Bool (is_port p (holder ports e))) [
          | inl hit ↦ absurd (none_some e (sym h ∙ k.back p e (is_port-is p (holder ports e) hit)))
          | inr miss ↦ miss
        ]))

pub own_range : (ports channels : List (Option ℕ)) (free : ℕ) → AreKept ports channels free → (p c : ℕ) → own channels p ≡ Some c → (1 ≤ c) × (c ≤ 4094)
own_range ports channels free k p c h =
    let range = in_range ports channels free k c p (k.there p c h) in
    let short = k.short in (range.0, omega (arith, range.1, short))

-- what is read in range is there whatever else were past it
pub read_is : (xs : List (Option ℕ)) (i : ℕ) (r : Option ℕ) → i < length xs → r ≡ get_or xs i r → r ≡ own xs i
read_is [] i r h e = absurd (omega arith)
read_is (x ∷ xs) zero r h e = e
read_is (x ∷ xs) (suc i) r h e = read_is xs i r (omega arith) e

-- ---- at the start
pub first_kept : (n : ℕ) → n ≤ 4094 → AreKept (replicate (n + 1) None) (replicate 4160 None) 1
first_kept n small = record {
  sized = length-replicate {A = Option ℕ} 4160 None;
  one = rw length-replicate (omega arith);
  short = rw length-replicate (omega arith);
  zeroth = get_or-same {X = Option ℕ} (n + 1) 0 None;
  there = λ p c h. absurd (none_some c (sym (get_or-same {X = Option ℕ} 4160 p None) ∙ h));
  back = λ p c h. absurd (none_some p (sym (get_or-same {X = Option ℕ} (n + 1) c None) ∙ h));
  low = omega arith;
  high = rw length-replicate (omega arith);
  below = λ c l h. absurd (omega arith);
  at = rw (get_or-same {X = Option ℕ} (n + 1) 1 None) refl;
}

-- ---- the lowest free one
pub lowest_at : (ports channels : List (Option ℕ)) (free : ℕ) → AreKept ports channels free → free < length ports → lowest_channel ports ≡ Some free
lowest_at ports channels free k h = lowest_is (is_used ports) 1 (length ports - 1) free k.low (omega (arith, h)) k.at k.below

pub lowest_full : (ports channels : List (Option ℕ)) (free : ℕ) → AreKept ports channels free → length ports ≤ free → lowest_channel ports ≡ None
lowest_full ports channels free k h = lowest_none (is_used ports) 1 (length ports - 1) (λ c low high. k.below c low (omega (arith, h, high)))

-- ---- a write
pub holder_set : (xs : List (Option ℕ)) (i : ℕ) (y : Option ℕ) (j : ℕ) → i < length xs → get_or (set xs i y) j None ≡ cond (j == i) y (get_or xs j None)
holder_set xs i y j h =
    elim (cases_eq j i) [
      | inl e ↦ get_or-set_at xs i j y None e h ∙ sym (rw (eq-eqb j i e) refl)
      | inr e ↦ get_or-set_other xs i j y None e ∙ sym (rw (ne_eqb j i e) refl)
    ]

not_used : (ports : List (Option ℕ)) (c : ℕ) → is_used ports c ≡ false → holder ports c ≡ None
not_used ports c h = by_holder (holder ports c) h
  where
    by_holder : (o : Option ℕ) → is_some o ≡ false → o ≡ None
    by_holder None e = refl
    by_holder (Some x) e = absurd (false≢true (sym e))

-- where the search for the next free one ends
pub record IsNext (ports : List (Option ℕ)) (from next : ℕ) : Type 0 where
  pub low : from ≤ next
  pub high : next ≤ length ports
  pub passed : (c : ℕ) → from ≤ c → c < next → is_used ports c ≡ true
  pub free : is_used ports next ≡ false

pub claimed : (ports channels : List (Option ℕ)) (free p next : ℕ) → AreKept ports channels free → free < length ports → p < 4160 → own channels p ≡ None →
    IsNext (set ports free (Some p)) free next → AreKept (set ports free (Some p)) (set channels p (Some free)) next
claimed ports channels free p next k within small none n =
    let new_ports = set ports free (Some p) in
    let new_channels = set channels p (Some free) in
    let p_in : p < length channels = let s = k.sized in omega arith in
    let was_free : holder ports free ≡ None = not_used ports free k.at in
    record {
      sized = length-set channels p (Some free) ∙ k.sized;
      one = rw (length-set ports free (Some p)) (k.one);
      short = rw (length-set ports free (Some p)) (k.short);
      zeroth = get_or-set_other ports free 0 (Some p) None (let l = k.low in omega arith) ∙ k.zeroth;
      there = λ q c h.
          elim (cases_eq q p) [
            | inl e ↦
                let at : Some free ≡ Some c = sym (get_or-set_at channels p q (Some free) None e p_in) ∙ h in
                let same : free ≡ c = cc in
                get_or-set_at ports free c (Some p) None (sym same) within ∙ ap Some (sym e)
            | inr e ↦
                let old : own channels q ≡ Some c = sym (get_or-set_other channels p q (Some free) None e) ∙ h in
                let held = k.there q c old in
                get_or-set_other ports free c (Some p) None (λ is. none_some q (sym was_free ∙ ap (holder ports) (sym is) ∙ held)) ∙ held
          ];
      back = λ q c h.
          elim (cases_eq c free) [
            | inl e ↦
                let at : Some p ≡ Some q = sym (get_or-set_at ports free c (Some p) None e within) ∙ h in
                let same : p ≡ q = cc in
                get_or-set_at channels p q (Some free) None (sym same) p_in ∙ ap Some (sym e)
            | inr e ↦
                let old : holder ports c ≡ Some q = sym (get_or-set_other ports free c (Some p) None e) ∙ h in
                let held = k.back q c old in
                get_or-set_other channels p q (Some free) None (λ is. none_some c (sym none ∙ ap (own channels) (sym is) ∙ held)) ∙ held
          ];
      low = let l = k.low in let m = n.low in omega arith;
      high = n.high;
      below = λ c l h.
          elim (cases_lt c free) [
            | inl before ↦ ap is_some (get_or-set_other ports free c (Some p) None (omega arith)) ∙ k.below c l before
            | inr from ↦ n.passed c from h
          ];
      at = n.free;
    }

pub released : (ports channels : List (Option ℕ)) (free c p next : ℕ) → AreKept ports channels free → holder ports c ≡ Some p → p < 4160 →
    ((c < free) × (next ≡ c)) ⊎ ((free ≤ c) × (next ≡ free)) → AreKept (set ports c None) (set channels p None) next
released ports channels free c p next k held small n =
    let range = in_range ports channels free k c p held in
    let p_in : p < length channels = let s = k.sized in omega arith in
    let is_own = k.back p c held in
    record {
      sized = length-set channels p None ∙ k.sized;
      one = rw (length-set ports c None) (k.one);
      short = rw (length-set ports c None) (k.short);
      zeroth = get_or-set_other ports c 0 None None (omega (arith, range.0)) ∙ k.zeroth;
      there = λ q e h.
          elim (cases_eq q p) [
            | inl is ↦ absurd (none_some e (sym (get_or-set_at channels p q None None is p_in) ∙ h))
            | inr is ↦
                let old : own channels q ≡ Some e = sym (get_or-set_other channels p q None None is) ∙ h in
                let at = k.there q e old in
                get_or-set_other ports c e None None (λ same.
                let twice : Some p ≡ Some q = sym held ∙ ap (holder ports) (sym same) ∙ at in
                let one : p ≡ q = cc in is (sym one)) ∙ at
          ];
      back = λ q e h.
          elim (cases_eq e c) [
            | inl is ↦ absurd (none_some q (sym (get_or-set_at ports c e None None is range.1) ∙ h))
            | inr is ↦
                let old : holder ports e ≡ Some q = sym (get_or-set_other ports c e None None is) ∙ h in
                let at = k.back q e old in
                get_or-set_other channels p q None None (λ same.
                let twice : Some c ≡ Some e = sym is_own ∙ ap (own channels) (sym same) ∙ at in
                let one : c ≡ e = cc in is (sym one)) ∙ at
          ];
      low = elim n [ inl x ↦ omega (arith, x.1, range.0) | inr x ↦ let l = k.low in omega (arith, x.1, l) ];
      high = rw (length-set ports c None) (elim n [ inl x ↦ omega (arith, x.1, range.1) | inr x ↦ let h = k.high in omega (arith, x.1, h) ]);
      below = λ e l h.
          elim n [
            | inl x ↦ ap is_some (get_or-set_other ports c e None None (omega (arith, x.1, h))) ∙ k.below e l (omega (arith, x.0, x.1, h))
            | inr x ↦ ap is_some (get_or-set_other ports c e None None (omega (arith, x.0, x.1, h))) ∙ k.below e l (omega (arith, x.1, h))
          ];
      at =
          elim n [
            | inl x ↦ ap is_some (get_or-set_at ports c next None None x.1 range.1)
            | inr x ↦
                let other : next ≡ c → ⊥ = λ e. none_some p (sym (not_used ports free k.at) ∙ ap (holder ports) (sym x.1 ∙ e) ∙ held) in
                ap is_some (get_or-set_other ports c next None None other) ∙ ap (is_used ports) x.1 ∙ k.at
          ];
    }

-- a channel that is used is of a port, and it is read
pub used_in : (ports : List (Option ℕ)) (c : ℕ) → is_used ports c ≡ true → c < length ports
used_in ports c used = elim (cases_lt c (length ports)) [
  | inl l ↦ l
  | inr l ↦ absurd (false≢true (sym (ap is_some (past ports c l)) ∙ used))
]

pub not_none : (ports : List (Option ℕ)) (c : ℕ) (r : Option ℕ) → is_used ports c ≡ true → r ≡ get_or ports c r → r ≡ None → ⊥
not_none ports c r used is none = false≢true (ap is_some (sym none ∙ read_is ports c r (used_in ports c used) is) ∙ used)

pub held_by : (ports : List (Option ℕ)) (c p : ℕ) (r : Option ℕ) → is_used ports c ≡ true → r ≡ get_or ports c r → r ≡ Some p → holder ports c ≡ Some p
held_by ports c p r used is some = sym (read_is ports c r (used_in ports c used) is) ∙ some
