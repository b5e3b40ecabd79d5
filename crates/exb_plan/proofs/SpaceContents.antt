-- What spaces hold once numbers of one of them are claimed.
use Rattle.std.proofs.Common.{◌≡◌, ℕ, ◌+◌, ◌-◌, ◌/◌, ◌<◌, ◌==◌, ◌&&◌, cond, Bool, true, false, List, [], Option, Some, None, length, refl, sym, ◌∙◌, ap, subst, arith, inl, inr, eq-eqb}
use Rattle.std.specs.Prelude.{is_some, nat_lt, unwrap_or, Result, Ok, Err, MatchResult, IfOk, IsOk, slice_index_or}
use Rattle.std.proofs.lemmas.Bool.{cases_eq, and_parts, ltb-true, eqb-true, ne_eqb, false≢true}
use Rattle.std.proofs.lemmas.List.{get_or-set_same, get_or-set_other}
use mathlib.Core.Path.{fun_ext}
use Rattle.exb_model.specs.Tree.{Shape, IsTree, device, trunk, is_extended}
use Rattle.exb_numbers.specs.Channels.{holder, channel_of, is_used, lowest_channel}
use Rattle.exb_numbers.specs.Groups.{Groups, set_of, group_of}
use Rattle.exb_numbers.specs.Spaces.{Spaces, has_space, channels_at, groups_at, no_groups, with_channels, with_groups}
use Rattle.exb_control_spec.specs.Plans.HeldNumbers.{Held, channel_in, group_in, or_zero, give, channel_used, give_channel, free_port_of}
use Rattle.exb_plan.specs.SpaceContents.{held_by}
use Rattle.exb_plan.specs.PlanValues.{SpacesOf}
use Rattle.exb_control_spec.proofs.Plans.UsedNumbers.{lowest_unused}
use Rattle.exb_control_spec.proofs.Plans.Trunks.{home_low, home_cascade}

pub group_in_is : (v : Spaces) (k : ℕ) (set : List ℕ) → group_in (held_by v) k set ≡ group_of (groups_at v k) set
unfolding group_in group_of
group_in_is v k set = refl

pub channel_in_is : (v : Spaces) (k p : ℕ) → channel_in (held_by v) k p ≡ channel_of (channels_at v k) p
unfolding channel_in channel_of
channel_in_is v k p = refl

pub unwrap_is : (o : Option ℕ) → unwrap_or o 0 ≡ or_zero o
unwrap_is None = refl
unwrap_is (Some n) = refl

-- the space at the trunk of an extended port is there
pub home_space : (t : Shape) → IsTree t → (v : Spaces) (p n : ℕ) → SpacesOf t v → is_extended t p ≡ true → n ≡ trunk t (p / 64) + 1 → has_space v (n - 1) ≡ true
home_space t valid v p n spaces ext is =
    let e : trunk t (p / 64) ≡ n - 1 = omega (arith, is) in
    subst (λ (x : ℕ). has_space v x ≡ true) e (spaces (trunk t (p / 64)) (home_low t valid p ext) (home_cascade t valid p ext))

pub home_space_at : (t : Shape) → IsTree t → (v : Spaces) (p : ℕ) → SpacesOf t v → is_extended t p ≡ true → has_space v (trunk t (p / 64)) ≡ true
home_space_at t valid v p spaces ext = spaces (trunk t (p / 64)) (home_low t valid p ext) (home_cascade t valid p ext)

-- a claim is met where there is a free number
pub met : {E : Type 0} (r : Result ℕ E) (o : Option ℕ) → is_some o ≡ true → MatchResult r (λ c. o ≡ Some c) (λ _. o ≡ None) → IsOk r
met (Ok c) o some is = refl
met (Err e) o some is = absurd (false≢true (sym (ap is_some is) ∙ some))

pub claimed_is : {E : Type 0} (r : Result ℕ E) (o : Option ℕ) (c : ℕ) → r ≡ Ok c → MatchResult r (λ c. o ≡ Some c) (λ _. o ≡ None) → c ≡ or_zero o
claimed_is {E} r o c e is =
    let P : Result ℕ E → Type 0 = λ x. MatchResult x (λ c. o ≡ Some c) (λ _. o ≡ None) in
    let f : P (Ok c) = subst P e is in
    sym (ap or_zero f)

pub of_ok : {E : Type 0} (r : Result ℕ E) (c : ℕ) (P : ℕ → Type 0) → r ≡ Ok c → IfOk r P → P c
of_ok {E} r c P e is = let Q : Result ℕ E → Type 0 = λ x. IfOk x P in subst Q e is

space_parts : (v : Spaces) (k : ℕ) → has_space v k ≡ true → (k < length v.channels) × (k < length v.groups)
space_parts v k there =
    let one = and_parts (nat_lt k (length v.channels) && nat_lt k (length v.groups)) (slice_index_or v.cascades k false) there in
    let two = and_parts (nat_lt k (length v.channels)) (nat_lt k (length v.groups)) one.0 in
    (ltb-true k (length v.channels) two.0, ltb-true k (length v.groups) two.1)

-- ---- a channel more
pub channel_given : (t : Shape) (v : Spaces) (p c k : ℕ) (x : List (Option ℕ)) → has_space v k ≡ true → k ≡ trunk t (p / 64) →
    ((e : ℕ) → holder x e ≡ cond (e == c) (Some p) (holder (channels_at v k) e)) → held_by (with_channels v k x) ≡ give_channel t p c (held_by v)
channel_given t v p c k x there home is =
    ap (λ (port : ℕ → ℕ → Option ℕ). let n : Held = record { port = port; set = λ k g. set_of (groups_at v k) g } in n)
    (fun_ext (λ j. fun_ext (λ e. at j e)))
  where
    at : (j e : ℕ) → holder (channels_at (with_channels v k x) j) e ≡ cond (j == trunk t (device p) && e == c) (Some p) (holder (channels_at v j) e)
    at j e =
        elim (cases_eq j k) [
          | inl same ↦
              let here : channels_at (with_channels v k x) j ≡ x = ap (channels_at (with_channels v k x)) same ∙ get_or-set_same v.channels k x [] (space_parts v k there).0 in
              ap (λ (l : List (Option ℕ)). holder l e) here ∙ (is e ∙ (
              rw (eq-eqb j (trunk t (p / 64)) (same ∙ home)) (ap (λ (i : ℕ). cond (e == c) (Some p) (holder (channels_at v i) e)) (sym same))))
          | inr other ↦
              let here : channels_at (with_channels v k x) j ≡ channels_at v j = get_or-set_other v.channels k j x [] other in
              ap (λ (l : List (Option ℕ)). holder l e) here ∙ (rw (ne_eqb j (trunk t (p / 64)) (λ f. other (f ∙ sym home))) refl)
        ]

-- ---- a group more
pub group_given : (v : Spaces) (k g : ℕ) (ports : List ℕ) (bridge_port : ℕ) (x : Groups) → has_space v k ≡ true → k + 1 ≡ bridge_port →
    ((e : ℕ) → set_of x e ≡ cond (e == g) ports (set_of (groups_at v k) e)) →
    held_by (with_groups v k x) ≡ give (record { bridge_port = bridge_port; number = g; ports = ports }) (held_by v)
group_given v k g ports bridge_port x there place is =
    ap (λ (set : ℕ → ℕ → List ℕ). let n : Held = record { port = λ k c. holder (channels_at v k) c; set = set } in n)
    (fun_ext (λ j. fun_ext (λ e. at j e)))
  where
    at : (j e : ℕ) → set_of (groups_at (with_groups v k x) j) e ≡ cond (j + 1 == bridge_port && e == g) ports (set_of (groups_at v j) e)
    at j e =
        elim (cases_eq j k) [
          | inl same ↦
              let here : groups_at (with_groups v k x) j ≡ x = ap (groups_at (with_groups v k x)) same ∙ get_or-set_same v.groups k x no_groups (space_parts v k there).1 in
              ap (λ (l : Groups). set_of l e) here ∙ (is e ∙ (
              rw (eq-eqb (j + 1) bridge_port (omega (arith, same, place))) (ap (λ (i : ℕ). cond (e == g) ports (set_of (groups_at v i) e)) (sym same))))
          | inr other ↦
              let here : groups_at (with_groups v k x) j ≡ groups_at v j = get_or-set_other v.groups k j x no_groups other in
              ap (λ (l : Groups). set_of l e) here ∙ (rw (ne_eqb (j + 1) bridge_port (λ f. other (omega (arith, f, place)))) refl)
        ]

-- the channel that was claimed was free
pub claimed_free : {E : Type 0} (v : Spaces) (k : ℕ) (r : Result ℕ E) (c : ℕ) → r ≡ Ok c →
    MatchResult r (λ m. lowest_channel (channels_at v k) ≡ Some m) (λ _. lowest_channel (channels_at v k) ≡ None) → holder (channels_at v k) c ≡ None
claimed_free {E} v k r c e is =
    let P : Result ℕ E → Type 0 = λ x. MatchResult x (λ m. lowest_channel (channels_at v k) ≡ Some m) (λ _. lowest_channel (channels_at v k) ≡ None) in
    let f : P (Ok c) = subst P e is in
    none_of (holder (channels_at v k) c) (lowest_unused (is_used (channels_at v k)) 1 (length (channels_at v k) - 1) c f)
  where
    none_of : (o : Option ℕ) → is_some o ≡ false → o ≡ None
    none_of None e = refl
    none_of (Some x) e = absurd (false≢true (sym e))

-- a channel that is given is in use, and once it is freed all is as before
pub given_used : (t : Shape) (p c : ℕ) (h : Held) → channel_used (give_channel t p c h) (trunk t (p / 64)) c ≡ true
given_used t p c h = rw (eq-eqb (trunk t (p / 64)) (trunk t (p / 64)) refl, eq-eqb c c refl) refl

pub given_back : (t : Shape) (p c : ℕ) (h : Held) → h.port (trunk t (p / 64)) c ≡ None → free_port_of t p c (give_channel t p c h) ≡ h
given_back t p c h free =
    ap (λ (port : ℕ → ℕ → Option ℕ). let n : Held = record { port = port; set = h.set } in n)
    (fun_ext (λ k. fun_ext (λ e. by_test k e (k == trunk t (device p) && e == c) refl)))
  where
    by_test : (k e : ℕ) (b : Bool) → (k == trunk t (device p) && e == c) ≡ b → cond b None (cond b (Some p) (h.port k e)) ≡ h.port k e
    by_test k e false q = refl
    by_test k e true q =
        let parts = and_parts (k == trunk t (device p)) (e == c) q in
        let a : k ≡ trunk t (device p) = eqb-true _ _ parts.0 in
        let b : e ≡ c = eqb-true _ _ parts.1 in
        sym (rw (a, b) free)
