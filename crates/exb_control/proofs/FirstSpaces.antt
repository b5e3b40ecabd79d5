-- The spaces to begin with: a cascade port may claim a channel, and what is held then.
use Rattle.std.proofs.Common.{◌≡◌, ℕ, zero, suc, ◌+◌, ◌/◌, ◌&&◌, cond, Bool, true, false, List, [], Option, Some, None, length, refl, sym, ◌∙◌, ap, subst, arith, nat_lt}
use Rattle.std.specs.Prelude.{is_some, replicate}
use Rattle.exb_numbers.specs.Channels.{holder}
use Rattle.exb_numbers.specs.Groups.{set_of}
use Rattle.std.proofs.lemmas.Bool.{false≢true}
use Rattle.std.proofs.lemmas.List.{length-replicate}
use Rattle.exb_model.specs.Tree.{Shape, IsTree, device, trunk, is_cascade_under}
use Rattle.exb_model.specs.Setup.{Limits}
use Rattle.exb_model.specs.LowestFree.{lowest_free}
use Rattle.exb_numbers.specs.Spaces.{Spaces, has_space, channels_at, groups_at}
use Rattle.exb_control_spec.specs.Plans.HeldNumbers.{Held, channel_in, channel_used, free_channel, give_channel, is_place, in_spaces}
use Rattle.exb_plan.specs.SpaceContents.{HasSpaces, held_by}
use Rattle.exb_plan.specs.PlanValues.{CanClaimChannel, channel_limit}
use Rattle.exb_control_spec.proofs.Plans.UsedNumbers.{IsLowest}
use Rattle.exb_control_spec.proofs.Plans.ChannelOwners.{gives_channels}
use Rattle.exb_control_spec.proofs.Plans.Trunks.{port_extender}
use Rattle.exb_control_spec.specs.InitialState.{nothing_held, is_deep, HasChannels}
use Rattle.exb_control_spec.proofs.CascadePlaces.{place_true}
use Rattle.exb_control_spec.proofs.ReleasedNumbers.{same_held}
use Rattle.exb_control_spec.proofs.FirstClaims.{AreFirst, first_below, high, known, low_trunk, cascade_trunk, lowest, held_next, still_first, itself}

module _ (t : Shape) (n : ℕ) (valid : IsTree t) (on : is_deep t n ≡ true) where
  space_there : (l : Limits) (v : Spaces) → HasSpaces t l v → has_space v (trunk t (device n)) ≡ true
  space_there l v has = has.spaces (trunk t (device n)) ∙ place_true t (trunk t (device n)) (low_trunk t n valid on) (cascade_trunk t n valid on)

  limit_is : (l : Limits) (v : Spaces) → HasSpaces t l v → channel_limit v (trunk t (device n)) ≡ l.channels
  limit_is l v has = (let e = has.channels (trunk t (device n)) (space_there l v has) in omega (arith, e))

  pub can_claim : (l : Limits) (v : Spaces) → HasSpaces t l v → HasChannels t l → AreFirst t (held_by v) n → CanClaimChannel t v n
  can_claim l v has enough are =
      let k = trunk t (device n) in
      let h = held_by v in
      let there : (m : ℕ) × IsLowest (channel_used h k) 1 l.channels m = lowest t n valid on l h enough are in
      record {
        extender = port_extender t n (high t n valid on) (known t n valid on);
        cascade = space_there l v has;
        absent = is_none_at (channel_in h k n) (gives_channels h k (λ p. nat_lt p n && is_cascade_under t k p) (are.gives k (low_trunk t n valid on) (cascade_trunk t n valid on)) n ∙ itself t n k);
        free = ap (λ (m : ℕ). is_some (lowest_free (channel_used h k) 1 m)) (limit_is l v has) ∙ ap is_some there.1.is;
      }
    where
      is_none_at : (o : Option ℕ) → is_some o ≡ false → o ≡ None
      is_none_at None e = refl
      is_none_at (Some x) e = absurd (false≢true (sym e))

  given : (l : Limits) (v : Spaces) (p : ℕ) → p ≡ n → HasSpaces t l v →
      give_channel t p (free_channel (channel_limit v (trunk t (p / 64))) (held_by v) (trunk t (p / 64))) (held_by v) ≡ give_channel t n (free_channel l.channels (held_by v) (trunk t (device n))) (held_by v)
  given l v p same has =
      ap (λ (q : ℕ). give_channel t q (free_channel (channel_limit v (trunk t (q / 64))) (held_by v) (trunk t (q / 64))) (held_by v)) same
      ∙ ap (λ (m : ℕ). give_channel t n (free_channel m (held_by v) (trunk t (device n))) (held_by v)) (limit_is l v has)

  -- so it is after the claim
  pub claimed_first : (l : Limits) (v w : Spaces) (p : ℕ) → p ≡ n → HasSpaces t l v → HasChannels t l → AreFirst t (held_by v) n →
      held_by w ≡ give_channel t p (free_channel (channel_limit v (trunk t (p / 64))) (held_by v) (trunk t (p / 64))) (held_by v) → AreFirst t (held_by w) (n + 1)
  claimed_first l v w p same has enough are e =
      subst (λ (h : Held). AreFirst t h (n + 1)) (sym (e ∙ given l v p same has)) (still_first t n valid on l (held_by v) enough are)

  pub claimed_held : (l : Limits) (v w : Spaces) (p : ℕ) → p ≡ n → HasSpaces t l v → in_spaces t (held_by v) ≡ first_below t l n →
      held_by w ≡ give_channel t p (free_channel (channel_limit v (trunk t (p / 64))) (held_by v) (trunk t (p / 64))) (held_by v) → in_spaces t (held_by w) ≡ first_below t l (n + 1)
  claimed_held l v w p same has is e = ap (in_spaces t) (e ∙ given l v p same has) ∙ held_next t n valid on l (held_by v) is

-- ---- new spaces
holder_free : (n c : ℕ) → holder (replicate n None) c ≡ None
holder_free zero c = refl
holder_free (suc n) zero = refl
holder_free (suc n) (suc c) = holder_free n c

module _ (t : Shape) (l : Limits) (v : Spaces) (spaces : (k : ℕ) → has_space v k ≡ is_place t k) where
  pub new_has : ((k : ℕ) → has_space v k ≡ true → channels_at v k ≡ replicate (l.channels + 1) None) → ((k : ℕ) → has_space v k ≡ true → (groups_at v k).limit ≡ l.groups) → HasSpaces t l v
  new_has channels groups = record {
    spaces = spaces;
    channels = λ k e. ap length (channels k e) ∙ length-replicate (l.channels + 1) None;
    groups = groups;
  }

  pub new_none : ((k : ℕ) → has_space v k ≡ true → channels_at v k ≡ replicate (l.channels + 1) None) → ((k : ℕ) → has_space v k ≡ true → (g : ℕ) → set_of (groups_at v k) g ≡ []) →
      in_spaces t (held_by v) ≡ nothing_held
  new_none channels groups =
      same_held (in_spaces t (held_by v)) nothing_held
      (λ k c. by_place (is_place t k) refl (holder (channels_at v k) c) None (λ e. ap (λ (x : List (Option ℕ)). holder x c) (channels k (spaces k ∙ e)) ∙ holder_free (l.channels + 1) c))
      (λ k g. by_place (is_place t k) refl (set_of (groups_at v k) g) [] (λ e. groups k (spaces k ∙ e) g))
    where
      by_place : {X : Type 0} {b : Bool} (a : Bool) → b ≡ a → (x y : X) → (b ≡ true → x ≡ y) → cond a x y ≡ y
      by_place true e x y f = f e
      by_place false e x y f = refl
