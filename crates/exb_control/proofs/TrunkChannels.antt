-- The channel of a port in the space of its trunk.
use Rattle.std.proofs.Common.{◌≡◌, ℕ, ◌+◌, ◌-◌, ◌/◌, ◌<◌, ◌&&◌, Bool, true, false, nat_lt, cond, List, Option, None, find, slice_index, refl, ap, sym, subst, ◌∙◌, arith, inl, inr}
use Rattle.std.specs.List.{range_with_len}
use Rattle.std.proofs.lemmas.Bool.{cases_lt, and_parts, and_from, ltb-true, lt-ltb}
use mathlib.Core.Path.{fun_ext}
use Rattle.exb_model.specs.Tree.{Shape, IsTree, HangsOn, device, on, trunk, is_extender, is_cascade}
use Rattle.exb_model.proofs.TreeLoops.{trunk_is}
use Rattle.exb_model.proofs.TreeWays.{top_low, top_hangs}
use Rattle.exb_model.specs.LowestFree.{is_port}
use Rattle.exb_numbers.specs.Channels.{channel_of}
use Rattle.exb_numbers.specs.Spaces.{Spaces, has_space, channels_at}
use Rattle.exb_control_spec.specs.Plans.HeldNumbers.{Held, channel_in}
use Rattle.exb_plan.specs.SpaceContents.{held_by}
use Rattle.exb_control_spec.specs.Plans.HeldNumbers.{is_place, in_spaces}
use Rattle.exb_model.proofs.TreeTrunks.{hung_cascade}
use Rattle.exb_control.specs.Controls.{channel_at_trunk}

-- ---- an extender's trunk is a cascade port of the bridge
pub hangs_there : (t : Shape) (n : ℕ) → is_extender t n ≡ true → HangsOn t n (on t n)
hangs_there t n e =
    let both = and_parts (nat_lt 0 n) (nat_lt 0 (slice_index t.ports n)) e in
    record { extender = ltb-true 0 n both.0; there = ltb-true 0 (slice_index t.ports n) both.1; at = refl }

pub trunk_low : (t : Shape) → IsTree t → (n : ℕ) → is_extender t n ≡ true → trunk t n < 64
trunk_low t tree n e = let h = hangs_there t n e in rw (trunk_is t n) (tree.rooted n h.extender h.there)

pub trunk_cascade : (t : Shape) → IsTree t → (n : ℕ) → is_extender t n ≡ true → is_cascade t (trunk t n) ≡ true
trunk_cascade t tree n e =
    let h = hangs_there t n e in
    elim (cases_lt (on t n) 64) [
      | inl low ↦ rw (trunk_is t n, top_low t 63 (on t n) low) (hung_cascade t tree n (on t n) h)
      | inr high ↦
          let up = top_hangs t tree 63 (on t n) high (tree.on_port n h.extender h.there) (tree.rooted n h.extender h.there) in
          rw (trunk_is t n) (hung_cascade t tree up.0 _ up.1)
    ]

-- ---- what is held there
placed : (t : Shape) (k : ℕ) → k < 64 → is_cascade t k ≡ true → is_place t k ≡ true
placed t k low cascade = and_from _ _ (lt-ltb k 64 low) cascade

channel_placed : (t : Shape) (h : Held) (k p : ℕ) → is_place t k ≡ true → channel_in (in_spaces t h) k p ≡ channel_in h k p
unfolding channel_in
channel_placed t h k p place = ap (λ (held : ℕ → Option ℕ). find (λ c. is_port p (held c)) (range_with_len 1 4094)) (fun_ext (λ c. by_place (is_place t k) (h.port k c) place))
  where
    by_place : (b : Bool) (o : Option ℕ) → b ≡ true → cond b o None ≡ o
    by_place true o e = refl
    by_place false o e = absurd (cc)

as_held : (v : Spaces) (k p : ℕ) → channel_of (channels_at v k) p ≡ channel_in (held_by v) k p
unfolding channel_in channel_of
as_held v k p = refl

pub channel_as : (t : Shape) (v : Spaces) (n p : ℕ) → IsTree t → is_extender t n ≡ true →
    channel_of (channels_at v (trunk t n)) p ≡ channel_in (in_spaces t (held_by v)) (trunk t n) p
channel_as t v n p tree e =
    as_held v (trunk t n) p ∙ sym (channel_placed t (held_by v) (trunk t n) p (placed t (trunk t n) (trunk_low t tree n e) (trunk_cascade t tree n e)))

-- ---- as it is looked up
pub trunk_space : (t : Shape) (v v' : Spaces) (n number : ℕ) → IsTree t → ((k : ℕ) → has_space v k ≡ (nat_lt k 64 && is_cascade t k)) → is_extender t n ≡ true →
    v' ≡ v → number ≡ trunk t n + 1 → has_space v' (number - 1) ≡ true
trunk_space t v v' n number tree spaces e same is =
    let at : number - 1 ≡ trunk t n = omega arith in
    ap (λ (w : Spaces). has_space w (number - 1)) same ∙ ap (has_space v) at ∙ spaces (trunk t n) ∙ placed t (trunk t n) (trunk_low t tree n e) (trunk_cascade t tree n e)

pub channel_at : (t : Shape) (v v' : Spaces) (n number p at : ℕ) (channels : List (Option ℕ)) (result : Option ℕ) → IsTree t → is_extender t n ≡ true →
    v' ≡ v → at ≡ trunk t n + 1 → channels ≡ channels_at v' (at - 1) → result ≡ channel_of channels p → n ≡ number / 64 → number ≡ p →
    result ≡ channel_at_trunk t (in_spaces t (held_by v)) p
channel_at t v v' n number p at channels result tree e same is channels_are found n_is p_is =
    let place : at - 1 ≡ trunk t n = omega arith in
    let its : n ≡ device p = n_is ∙ ap (λ q. q / 64) p_is in
    found
    ∙ ap (λ (cs : List (Option ℕ)). channel_of cs p) (channels_are ∙ ap (λ (w : Spaces). channels_at w (at - 1)) same ∙ ap (channels_at v) place)
    ∙ channel_as t v n p tree e
    ∙ subst (λ (m : ℕ). channel_in (in_spaces t (held_by v)) (trunk t n) p ≡ cond (is_extender t m) (channel_in (in_spaces t (held_by v)) (trunk t m) p) None) its
    (sym (rw e refl))

-- a port of no extender holds none
pub none_at : (t : Shape) (h : Held) (n p : ℕ) → is_extender t n ≡ false → n ≡ device p → None ≡ channel_at_trunk t h p
none_at t h n p e is =
    let none : is_extender t (device p) ≡ false = ap (is_extender t) (sym is) ∙ e in
    rw none refl
