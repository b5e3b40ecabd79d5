-- The way from a port up to the bridge.
use Rattle.std.proofs.Common.{◌≡◌, ◌≢◌, ℕ, zero, suc, ◌%◌, ◌<◌, ◌≤◌, ◌==◌, ◌&&◌, Bool, true, List, [], ◌∷◌, slice_index, refl, sym, ◌∙◌, subst, arith, inl, inr, ◌⊎◌, eq-eqb}
use Rattle.std.proofs.lemmas.Bool.{cases_eq, cases_lt, eqb-true, ltb-true, lt-ltb, le-ltb, or_cases, or_left, or_right, and_parts, and_from, false≢true}
use Rattle.std.proofs.lemmas.List.{get_or_past}
use Rattle.std.specs.List.{list_any}
use Rattle.exb_model.specs.Tree.{Shape, device, on, is_port, HangsOn, IsCascade, up, top, path, IsTree, above, any_below}
use Rattle.exb_model.specs.TreeSets.{covers}

-- some number passes
pub any_below-true : (test : ℕ → Bool) (n : ℕ) → any_below test n ≡ true → (k : ℕ) × (k < n) × (test k ≡ true)
unfolding any_below
any_below-true test zero h = absurd (false≢true h)
any_below-true test (suc n) h =
    elim (or_cases (any_below test n) (test n) h) [
      | inl e ↦ let found : (k : ℕ) × (k < n) × (test k ≡ true) = any_below-true test n e in (found.0, omega (arith, found.1), found.2)
      | inr e ↦ (n, omega arith, e)
    ]

pub any_below-from : (test : ℕ → Bool) (n k : ℕ) → k < n → test k ≡ true → any_below test n ≡ true
unfolding any_below
any_below-from test zero k l h = absurd (omega arith)
any_below-from test (suc n) k l h =
    elim (cases_eq k n) [
      | inl e ↦ or_right (any_below test n) (test n) (subst (λ (m : ℕ). test m ≡ true) e h)
      | inr e ↦ or_left (any_below test n) (test n) (any_below-from test n k (omega arith) h)
    ]

-- One step of the way.
pub up_high : (s : Shape) (d p : ℕ) → 64 ≤ p → up s.on (suc d) p ≡ p ∷ up s.on d (on s (device p))
unfolding up
up_high s d p h = rw (le-ltb p 64 h)

pub up_low : (s : Shape) (d p : ℕ) → p < 64 → up s.on d p ≡ p ∷ []
unfolding up
up_low s zero p h = refl
up_low s (suc d) p h = rw (lt-ltb p 64 h)

pub top_high : (s : Shape) (d p : ℕ) → 64 ≤ p → top s.on (suc d) p ≡ top s.on d (on s (device p))
unfolding top
top_high s d p h = rw (le-ltb p 64 h)

pub top_low : (s : Shape) (d p : ℕ) → p < 64 → top s.on d p ≡ p
unfolding top
top_low s zero p h = refl
top_low s (suc d) p h = rw (lt-ltb p 64 h)

pub up_none : (s : Shape) (p : ℕ) → up s.on zero p ≡ p ∷ []
unfolding up
up_none s p = refl

pub top_none : (s : Shape) (p : ℕ) → top s.on zero p ≡ p
unfolding top
top_none s p = refl

-- whether x is in a list
pub among : ℕ → List ℕ → Bool
among x xs = list_any (λ y. y == x) xs

-- A port of an extender is a port of one that hangs somewhere.
pub extender_of : (s : Shape) (p : ℕ) → 64 ≤ p → is_port s p ≡ true → HangsOn s (device p) (on s (device p))
extender_of s p h k =
    let under : p % 64 < slice_index s.ports (device p) = ltb-true _ _ k in
    record { extender = omega arith; there = omega arith; at = refl }

-- x is first, or is in the rest
pub among_cases : (x y : ℕ) (ys : List ℕ) → among x (y ∷ ys) ≡ true → (x ≡ y) ⊎ (among x ys ≡ true)
unfolding among
among_cases x y ys h =
    elim (or_cases (y == x) (among x ys) h) [ inl e ↦ inl (sym (eqb-true y x e)) | inr e ↦ inr e ]

pub among_first : (x : ℕ) (ys : List ℕ) → among x (x ∷ ys) ≡ true
unfolding among
among_first x ys = or_left (x == x) (among x ys) (eq-eqb x x refl)

pub among_rest : (x y : ℕ) (ys : List ℕ) → among x ys ≡ true → among x (y ∷ ys) ≡ true
unfolding among
among_rest x y ys h = or_right (y == x) (among x ys) h

pub among_none : (x : ℕ) → among x [] ≡ true → ⊥
unfolding among
among_none x h = false≢true h

pub among_above : (s : Shape) (x q : ℕ) → above s x q ≡ among x (path s.on q)
unfolding among
among_above s x q = refl

pub path_is : (s : Shape) (q : ℕ) → path s.on q ≡ up s.on 64 q
unfolding path
path_is s q = refl

-- the way begins at its port
pub up_itself : (s : Shape) (d p : ℕ) → among p (up s.on d p) ≡ true
up_itself s zero p = rw (up_none s p) (among_first p [])
up_itself s (suc d) p =
    elim (cases_lt p 64) [
      | inl l ↦ rw (up_low s (suc d) p l) (among_first p [])
      | inr h ↦ rw (up_high s d p h) (among_first p _)
    ]

-- the last port of the way is on it
pub among_top : (s : Shape) (d p : ℕ) → among (top s.on d p) (up s.on d p) ≡ true
among_top s zero p = rw (top_none s p, up_none s p) (among_first p [])
among_top s (suc d) p =
    elim (cases_lt p 64) [
      | inl l ↦ rw (top_low s (suc d) p l, up_low s (suc d) p l) (among_first p [])
      | inr h ↦ rw (top_high s d p h, up_high s d p h) (among_rest _ _ _ (among_top s d (on s (device p))))
    ]

-- what covers a port: a port of the set, of the tree, whose way goes through it
pub record Covered (s : Shape) (set : ℕ → Bool) (p : ℕ) : Type 0 where
  pub member : ℕ
  pub within : member < 4160
  pub chosen : set member ≡ true
  pub known : is_port s member ≡ true
  pub below : among p (path s.on member) ≡ true

pub covers-true : (s : Shape) (set : ℕ → Bool) (p : ℕ) → covers s set p ≡ true → Covered s set p
covers-true s set p h =
    let test : ℕ → Bool = λ q. (set q && is_port s q) && above s p q in
    let found : (k : ℕ) × (k < 4160) × (test k ≡ true) = any_below-true test 4160 h in
    let both = and_parts (set found.0 && is_port s found.0) (above s p found.0) found.2 in
    let first = and_parts (set found.0) (is_port s found.0) both.0 in
    record { member = found.0; within = found.1; chosen = first.0; known = first.1; below = sym (among_above s p found.0) ∙ both.1 }

pub covers-from : (s : Shape) (set : ℕ → Bool) (p : ℕ) → Covered s set p → covers s set p ≡ true
covers-from s set p c =
    let test : ℕ → Bool = λ q. (set q && is_port s q) && above s p q in
    any_below-from test 4160 c.member c.within (and_from _ _ (and_from _ _ c.chosen c.known) (among_above s p c.member ∙ c.below))

module _ (s : Shape) (valid : IsTree s) where
  -- what stands above a port of an extender is a port of the tree
  pub port_above : (p : ℕ) → 64 ≤ p → is_port s p ≡ true → is_port s (on s (device p)) ≡ true
  port_above p h k =
      let e = extender_of s p h k in valid.on_port (device p) e.extender e.there

  -- Every other port on the way up is a cascade port of the tree.
  pub cascade_above : (d p x : ℕ) → is_port s p ≡ true → x ≢ p → among x (up s.on d p) ≡ true → IsCascade s x × (is_port s x ≡ true)
  cascade_above zero p x k n h =
      elim (among_cases x p [] (rw up_none at h)) [ inl e ↦ absurd (n e) | inr e ↦ absurd (among_none x e) ]
  cascade_above (suc d) p x k n h =
      elim (cases_lt p 64) [
        | inl l ↦ elim (among_cases x p [] (rw (up_low s (suc d) p l) at h)) [ inl e ↦ absurd (n e) | inr e ↦ absurd (among_none x e) ]
        | inr g ↦ elim (among_cases x p _ (rw (up_high s d p g) at h)) [
          | inl e ↦ absurd (n e)
          | inr e ↦ elim (cases_eq x (on s (device p))) [
            | inl f ↦ (subst (λ (y : ℕ). IsCascade s y) (sym f) (device p, extender_of s p g k), subst (λ (y : ℕ). is_port s y ≡ true) (sym f) (port_above p g k))
            | inr f ↦ cascade_above d (on s (device p)) x (port_above p g k) f e
          ]
        ]
      ]

  -- the last port of the way is one of the bridge, on which an extender hangs
  pub top_hangs : (d p : ℕ) → 64 ≤ p → is_port s p ≡ true → top s.on d p < 64 → IsCascade s (top s.on d p)
  top_hangs zero p h k t = let e : top s.on zero p ≡ p = top_none s p in absurd (omega arith)
  top_hangs (suc d) p h k t =
      elim (cases_lt (on s (device p)) 64) [
        | inl l ↦ rw (top_high s d p h, top_low s d (on s (device p)) l) (device p, extender_of s p h k)
        | inr g ↦ rw (top_high s d p h) (top_hangs d (on s (device p)) g (port_above p h k) (rw (top_high s d p h) at t))
      ]

  -- the way leads to the bridge
  pub top_below : (p : ℕ) → 64 ≤ p → is_port s p ≡ true → top s.on 64 p < 64
  top_below p h k =
      let e = extender_of s p h k in
      let r : top s.on 63 (on s (device p)) < 64 = valid.rooted (device p) e.extender e.there in
      let f : top s.on 64 p ≡ top s.on 63 (on s (device p)) = top_high s 63 p h in
      omega arith

  -- extenders are numbered to 64
  pub number_at_most : (n p : ℕ) → HangsOn s n p → n ≤ 64
  number_at_most n p h =
      elim (cases_lt 64 n) [
        | inl l ↦
            let none : slice_index s.ports n ≡ 0 = get_or_past s.ports n 0 (omega (arith, valid.sized)) in
            absurd (omega (arith, h.there))
        | inr g ↦ g
      ]

  -- and so are ports
  pub port_below : (p : ℕ) → 64 ≤ p → is_port s p ≡ true → p < 4160
  port_below p h k = let n : device p ≤ 64 = number_at_most (device p) _ (extender_of s p h k) in omega arith
