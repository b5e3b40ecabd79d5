-- What is held once numbers are freed one by one.
use Rattle.std.proofs.Common.{◌≡◌, ℕ, ◌+◌, ◌-◌, ◌<◌, ◌≤◌, ◌==◌, ◌&&◌, ◌||◌, cond, Bool, true, false, List, [], ◌∷◌, ◌++◌, Option, Some, None, length, get_or, take, refl, sym, ◌∙◌, ap, arith, inl, inr, eq-eqb}
use Rattle.std.specs.Prelude.{is_some, MatchOption}
use Rattle.std.specs.List.{list_any}
use Rattle.std.proofs.lemmas.Bool.{cases_eq, and_parts, eqb-true, ne_eqb, false≢true}
use Rattle.std.proofs.lemmas.List.{get_or-set_same, get_or-set_other, take_more}
use Rattle.exb_model.specs.Tree.{Shape}
use Rattle.exb_numbers.specs.Channels.{holder}
use Rattle.exb_numbers.specs.Groups.{Groups, set_of}
use Rattle.exb_numbers.specs.Spaces.{Spaces, has_space, channels_at, groups_at, no_groups, with_channels, with_groups}
use Rattle.exb_control_spec.specs.declared.plan.change.Number.{Number}
use Rattle.exb_control_spec.specs.Plans.HeldNumbers.{Held, is_place, in_spaces}
use Rattle.exb_plan.specs.SpaceContents.{held_by}
use Rattle.exb_control_spec.specs.Decisions.{is_number, without_channel, without_group}
use Rattle.exb_control.proofs.PresentSpaces.{space_parts}
use Rattle.exb_control_spec.proofs.ReleasedNumbers.{same_held}
use Rattle.exb_control_spec.proofs.Plans.Bools.{eq_turned}

-- ---- one number
channel_freed : (v : Spaces) (x : Number) (now : List (Option ℕ)) → 1 ≤ x.bridge_port → has_space v (x.bridge_port - 1) ≡ true →
    ((e : ℕ) → holder now e ≡ cond (e == x.number) None (holder (channels_at v (x.bridge_port - 1)) e)) → held_by (with_channels v (x.bridge_port - 1) now) ≡ without_channel x (held_by v)
channel_freed v x now low there is = same_held (held_by (with_channels v k now)) (without_channel x (held_by v)) at (λ j n. refl)
  where
    k : ℕ
    k = x.bridge_port - 1

    at : (j e : ℕ) → holder (channels_at (with_channels v k now) j) e ≡ cond (x.bridge_port == j + 1 && x.number == e) None (holder (channels_at v j) e)
    at j e =
        elim (cases_eq j k) [
          | inl same ↦
              let here : channels_at (with_channels v k now) j ≡ now = ap (channels_at (with_channels v k now)) same ∙ get_or-set_same v.channels k now [] (space_parts v k there).0 in
              ap (λ (l : List (Option ℕ)). holder l e) here ∙ (is e ∙ (
              rw (eq-eqb x.bridge_port (j + 1) (omega (arith, same, low))) (ap (λ b. cond b None (holder (channels_at v k) e)) (eq_turned e x.number)
              ∙ ap (λ (i : ℕ). cond (x.number == e) None (holder (channels_at v i) e)) (sym same))))
          | inr other ↦
              let here : channels_at (with_channels v k now) j ≡ channels_at v j = get_or-set_other v.channels k j now [] other in
              ap (λ (l : List (Option ℕ)). holder l e) here ∙ (rw (ne_eqb x.bridge_port (j + 1) (λ f. other (omega (arith, f)))) refl)
        ]

group_freed : (v : Spaces) (x : Number) (now : Groups) → 1 ≤ x.bridge_port → has_space v (x.bridge_port - 1) ≡ true →
    ((e : ℕ) → set_of now e ≡ cond (e == x.number) [] (set_of (groups_at v (x.bridge_port - 1)) e)) → held_by (with_groups v (x.bridge_port - 1) now) ≡ without_group x (held_by v)
group_freed v x now low there is = same_held (held_by (with_groups v k now)) (without_group x (held_by v)) (λ j c. refl) at
  where
    k : ℕ
    k = x.bridge_port - 1

    at : (j e : ℕ) → set_of (groups_at (with_groups v k now) j) e ≡ cond (x.bridge_port == j + 1 && x.number == e) [] (set_of (groups_at v j) e)
    at j e =
        elim (cases_eq j k) [
          | inl same ↦
              let here : groups_at (with_groups v k now) j ≡ now = ap (groups_at (with_groups v k now)) same ∙ get_or-set_same v.groups k now no_groups (space_parts v k there).1 in
              ap (λ (l : Groups). set_of l e) here ∙ (is e ∙ (
              rw (eq-eqb x.bridge_port (j + 1) (omega (arith, same, low))) (ap (λ b. cond b [] (set_of (groups_at v k) e)) (eq_turned e x.number)
              ∙ ap (λ (i : ℕ). cond (x.number == e) [] (set_of (groups_at v i) e)) (sym same))))
          | inr other ↦
              let here : groups_at (with_groups v k now) j ≡ groups_at v j = get_or-set_other v.groups k j now no_groups other in
              ap (λ (l : Groups). set_of l e) here ∙ (rw (ne_eqb x.bridge_port (j + 1) (λ f. other (omega (arith, f)))) refl)
        ]

by_tests : {X : Type 0} (gone there : Bool) (a none : X) → cond gone none (cond there a none) ≡ cond there (cond gone none a) none
by_tests true true a none = refl
by_tests true false a none = refl
by_tests false there a none = refl

-- at the cascade ports of the bridge
pub channel_left : (t : Shape) (v : Spaces) (x : Number) (now : List (Option ℕ)) → 1 ≤ x.bridge_port → has_space v (x.bridge_port - 1) ≡ true →
    ((e : ℕ) → holder now e ≡ cond (e == x.number) None (holder (channels_at v (x.bridge_port - 1)) e)) →
    in_spaces t (held_by (with_channels v (x.bridge_port - 1) now)) ≡ without_channel x (in_spaces t (held_by v))
channel_left t v x now low there is =
    ap (in_spaces t) (channel_freed v x now low there is)
    ∙ same_held (in_spaces t (without_channel x (held_by v))) (without_channel x (in_spaces t (held_by v)))
    (λ k c. sym (by_tests (x.bridge_port == k + 1 && x.number == c) (is_place t k) (holder (channels_at v k) c) None)) (λ k n. refl)

pub group_left : (t : Shape) (v : Spaces) (x : Number) (now : Groups) → 1 ≤ x.bridge_port → has_space v (x.bridge_port - 1) ≡ true →
    ((e : ℕ) → set_of now e ≡ cond (e == x.number) [] (set_of (groups_at v (x.bridge_port - 1)) e)) →
    in_spaces t (held_by (with_groups v (x.bridge_port - 1) now)) ≡ without_group x (in_spaces t (held_by v))
group_left t v x now low there is =
    ap (in_spaces t) (group_freed v x now low there is)
    ∙ same_held (in_spaces t (without_group x (held_by v))) (without_group x (in_spaces t (held_by v)))
    (λ k c. refl) (λ k n. sym (by_tests (x.bridge_port == k + 1 && x.number == n) (is_place t k) (set_of (groups_at v k) n) []))

-- a group that is free stays so
pub group_stays : (t : Shape) (v : Spaces) (x : Number) → 1 ≤ x.bridge_port → set_of (groups_at v (x.bridge_port - 1)) x.number ≡ [] →
    in_spaces t (held_by v) ≡ without_group x (in_spaces t (held_by v))
group_stays t v x low free = same_held (in_spaces t (held_by v)) (without_group x (in_spaces t (held_by v))) (λ k c. refl) (λ k n. by_test k n (x.bridge_port == k + 1 && x.number == n) refl)
  where
    by_test : (k n : ℕ) (b : Bool) → (x.bridge_port == k + 1 && x.number == n) ≡ b → (in_spaces t (held_by v)).set k n ≡ cond b [] ((in_spaces t (held_by v)).set k n)
    by_test k n false e = refl
    by_test k n true e =
        let parts = and_parts (x.bridge_port == k + 1) (x.number == n) e in
        let a : x.bridge_port - 1 ≡ k = (let q = eqb-true _ _ parts.0 in omega (arith, q)) in
        let b : x.number ≡ n = eqb-true _ _ parts.1 in
        let none : set_of (groups_at v k) n ≡ [] = ap (λ (m : ℕ). set_of (groups_at v k) m) (sym b) ∙ (ap (λ (j : ℕ). set_of (groups_at v j) x.number) (sym a) ∙ free) in
        ap (λ (l : List ℕ). cond (is_place t k) l []) none ∙ same (is_place t k)
      where
        same : (b : Bool) → (let l : List ℕ = [] in cond b l l ≡ l)
        same true = refl
        same false = refl

pub none_free : {X : Type 0} (o : Option X) (P : Type 0) (Q : X → Type 0) → is_some o ≡ false → MatchOption o P Q → P
none_free None P Q e m = m
none_free (Some x) P Q e m = absurd (false≢true (sym e))

-- ---- numbers in order
-- without these channels and these groups
abbrev pub released : List Number → List Number → Held → Held
released channels groups h =
    record {
      port = λ k c. cond (is_number channels k c) None (h.port k c);
      set = λ k g. cond (is_number groups k g) [] (h.set k g);
    }

any_last : {X : Type 0} (p : X → Bool) (xs : List X) (x : X) → list_any p (xs ++ x ∷ []) ≡ (p x || list_any p xs)
any_last p [] x = refl
any_last p (y ∷ ys) x = ap (λ b. p y || b) (any_last p ys x) ∙ turned (p y) (p x) (list_any p ys)
  where
    turned : (a b c : Bool) → (a || (b || c)) ≡ (b || (a || c))
    turned true true c = refl
    turned true false c = refl
    turned false b c = refl

first_of : {X : Type 0} (a b : Bool) (none x : X) → cond (a || b) none x ≡ cond a none (cond b none x)
first_of true b none x = refl
first_of false b none x = refl

pub channel_more : (xs : List Number) (x : Number) (groups : List Number) (h : Held) → released (xs ++ x ∷ []) groups h ≡ without_channel x (released xs groups h)
channel_more xs x groups h =
    same_held (released (xs ++ x ∷ []) groups h) (without_channel x (released xs groups h))
    (λ k c. ap (λ b. cond b None (h.port k c)) (any_last (λ (y : Number). y.bridge_port == k + 1 && y.number == c) xs x)
    ∙ first_of (x.bridge_port == k + 1 && x.number == c) (is_number xs k c) None (h.port k c))
    (λ k n. refl)

pub group_more : (channels xs : List Number) (x : Number) (h : Held) → released channels (xs ++ x ∷ []) h ≡ without_group x (released channels xs h)
group_more channels xs x h =
    same_held (released channels (xs ++ x ∷ []) h) (without_group x (released channels xs h))
    (λ k c. refl)
    (λ k n. ap (λ b. cond b [] (h.set k n)) (any_last (λ (y : Number). y.bridge_port == k + 1 && y.number == n) xs x)
    ∙ first_of (x.bridge_port == k + 1 && x.number == n) (is_number xs k n) [] (h.set k n))

-- the number at a place of a list
pub channel_step : (xs : List Number) (i : ℕ) (d : Number) (groups : List Number) (h g next : Held) → i < length xs → g ≡ released (take i xs) groups h → next ≡ without_channel (get_or xs i d) g →
    next ≡ released (take (i + 1) xs) groups h
channel_step xs i d groups h g next within is more =
    more ∙ (ap (without_channel (get_or xs i d)) is
    ∙ (sym (channel_more (take i xs) (get_or xs i d) groups h) ∙ ap (λ (l : List Number). released l groups h) (sym (take_more xs i d within))))

pub group_step : (channels xs : List Number) (i : ℕ) (d : Number) (h g next : Held) → i < length xs → g ≡ released channels (take i xs) h → next ≡ without_group (get_or xs i d) g →
    next ≡ released channels (take (i + 1) xs) h
group_step channels xs i d h g next within is more =
    more ∙ (ap (without_group (get_or xs i d)) is
    ∙ (sym (group_more channels (take i xs) (get_or xs i d) h) ∙ ap (λ (l : List Number). released channels l h) (sym (take_more xs i d within))))
